-- Trees at the sites of a level, their first words, and what is read of them.
use Rattle.std.proofs.Common.{◌≡◌, ℕ, false, List, Option, Some, None, Ok, ap, ◌∙◌}
use Rattle.ui_scan.specs.declared.kind.TokenKind.{TokenKind}
use Rattle.ui_tree.specs.Tree.{TypeTree, Tree}
use Rattle.ui_grammar.specs.Word.{Word}
use Rattle.ui_grammar.specs.Spells.{Spells, SpellsType}
use Rattle.ui_grammar.specs.Fits.{Place, within, takes_braces, plain_type, type_depth, Fits, FitsType}
use Rattle.ui_parse.specs.Reader.{Outcome, first, marked}
use Rattle.ui_syntax.specs.declared.site.Site.{Site}
use Rattle.ui_syntax.specs.declared.site.Site.TheVariants.{Header, Plain, Wrapped, Argument}
use Rattle.ui_syntax.specs.Cover.{Read, only_type}
use Rattle.ui_syntax.specs.Types.{of_type}
use Rattle.ui_syntax.specs.Exprs.{of_tree}
use Rattle.ui_syntax.specs.Read.{place_at}
use Rattle.ui_syntax.proofs.ByBudget.{ReadsTo, TypeReadsTo}
use Rattle.ui_syntax.proofs.Places.{no_type}
use Rattle.ui_syntax.proofs.FirstWords.{name_or, word_or, type_mark, tree_mark, starts_other, first_of_type}
use Rattle.ui_syntax.proofs.FirstTrees.{first_of_tree}

-- ---- places

pub fits_within : (e : Tree) (s : Site) → Fits e (within (place_at s)) → Fits e (place_at s)
fits_within e Header f = f
fits_within e Plain f = f
fits_within e Wrapped f = f
fits_within e Argument f = f

pub no_type_at : (e : Tree) (s : Site) → Fits e (place_at s) → only_type e ≡ None
no_type_at e Header f = no_type e (place_at Header) f
no_type_at e Plain f = no_type e (place_at Plain) f
no_type_at e Wrapped f = no_type e (place_at Wrapped) f
no_type_at e Argument f = no_type e (place_at Argument) f

-- ---- first words

pub no_mark : (k : TokenKind) (e : Tree) (p : Place) (ts rest : List Word) → tree_mark (takes_braces p) k ≡ false → Spells e ts rest → Fits e p → first (marked k) ts ≡ None
no_mark k e p ts rest other s f = starts_other (word_or (tree_mark (takes_braces p))) k ts (λ x. other) (first_of_tree e p ts rest s f)

pub no_mark_of_type : (k : TokenKind) (t : TypeTree) (ts rest : List Word) → type_mark k ≡ false → SpellsType t ts rest → FitsType t plain_type → first (marked k) ts ≡ None
no_mark_of_type k t ts rest other s f = starts_other (name_or type_mark) k ts (λ x. other) (first_of_type t ts rest s f)

-- ---- what is read, with its tree and depth in sight

pub read_as : {o : Outcome (Read Tree)} {e : Tree} {k : ℕ} {ts rest : List Word} → (r : ReadsTo o e k ts rest) → o ≡ Ok (of_tree e r.read.spot k, rest)
read_as {rest = rest} r =
    r.is ∙ ap (λ (t : Tree). Ok (of_tree t r.read.spot r.read.depth, rest)) r.tree ∙ ap (λ (n : ℕ). Ok (of_tree _ r.read.spot n, rest)) r.depth

pub type_read_as : {o : Outcome (Option (Read TypeTree))} {t : TypeTree} {ts rest : List Word} → (r : TypeReadsTo o t ts rest) → o ≡ Ok (Some (of_type t r.read.spot (type_depth t)), rest)
type_read_as {rest = rest} r =
    r.is ∙ ap (λ (t : TypeTree). Ok (Some (of_type t r.read.spot r.read.depth), rest)) r.tree ∙ ap (λ (n : ℕ). Ok (Some (of_type _ r.read.spot n), rest)) r.depth
