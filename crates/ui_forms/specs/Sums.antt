-- Sums. Go specification, "Constant expressions", "Integer literals" and "Qualified identifiers"; a part of its
-- language.
use Rattle.std.specs.Prelude.{ℕ, ◌^◌, pos, negsuc, Bool, true, false, ◌&&◌, ◌||◌, nat_lt, if◌then◌else◌, List, [], ◌∷◌, ◌++◌, Result, Ok, Err, bytes_eq}
use Rattle.ui_base.specs.declared.value.Spot.{Spot}
use Rattle.ui_base.specs.declared.value.Value.{Value}
use Rattle.ui_base.specs.declared.value.Value.TheVariants.{Whole, Str, Truth}
use Rattle.ui_base.specs.declared.kind.BinOp.{BinOp}
use Rattle.ui_base.specs.declared.kind.BinOp.TheVariants.{Add}
use Rattle.ui_tree.specs.declared.part.Placed.{Placed}
use Rattle.ui_tree.specs.declared.part.LiteralKind.{LiteralKind}
use Rattle.ui_tree.specs.declared.part.LiteralKind.TheVariants as kind
use Rattle.ui_tree.specs.Tree.{Tree, literal, name, selector, binary}
use Rattle.ui_forms.specs.Words.{is_constant_name}
use Rattle.ui_tree.specs.Spots.{tree_spot}
use Rattle.ui_base.specs.Steps.{and_then}
use Rattle.ui_forms.specs.declared.part.Term.{Term}
use Rattle.ui_forms.specs.declared.part.Term.TheVariants.{Digits, Own, Of}

-- ---- names

-- which names are known
abbrev pub Known : Type 0
Known = List ℕ → Bool

abbrev pub nothing : Known
nothing text = false

abbrev pub with_name : List ℕ → Known → Known
with_name given known text = bytes_eq text given || known text

-- ---- terms

-- a number of at most 2^127 - 1
abbrev pub number_of : Spot → Value → Result Term Spot
number_of s (Whole (pos n)) = if nat_lt n (2 ^ 127) then Ok (Digits s n) else Err s
number_of s (Whole (negsuc n)) = Err s
number_of s (Str text) = Err s
number_of s (Truth b) = Err s

abbrev pub literal_of : Spot → LiteralKind → Value → Result Term Spot
literal_of s kind.Whole value = number_of s value
literal_of s kind.Rune value = Err s
literal_of s kind.Text value = Err s

-- a constant that is declared before
abbrev pub own_of : Known → Placed → Result Term Spot
own_of own n = if own n.text then Ok (Own n.spot n.text) else Err n.spot

-- a constant of an import
abbrev pub of_import : Known → Spot → List ℕ → List ℕ → Result Term Spot
of_import imports s segment n = if imports segment && is_constant_name n then Ok (Of s segment n) else Err s

-- `Q.NAME`, where Q is an import's last segment
abbrev pub selected : Known → Spot → Tree → Placed → Result Term Spot
selected imports s (name q) n = of_import imports s q.text n.text
selected imports s e n = Err s

-- one of these; else a fault at the first token
abbrev pub term_of : Known → Known → Tree → Result Term Spot
term_of imports own (literal s kind value) = literal_of s kind value
term_of imports own (name n) = own_of own n
term_of imports own (selector s e n) = selected imports s e n
term_of imports own e = Err (tree_spot e)

-- ---- sums

abbrev pub is_add : BinOp → Bool
is_add Add = true
is_add op = false

abbrev pub alone : Result Term Spot → Result (List Term) Spot
alone term = and_then (λ t. Ok (t ∷ [])) term

-- a sum, and a term behind it
abbrev pub followed : Result (List Term) Spot → Result Term Spot → Result (List Term) Spot
followed terms term = and_then (λ ts. and_then (λ t. Ok (ts ++ t ∷ [])) term) terms

-- the terms of a sum, from left to right: a term, or a sum, `+` and a term
abbrev pub terms_of : Known → Known → Tree → Result (List Term) Spot
terms_of imports own (binary s op l r) = if is_add op then followed (terms_of imports own l) (term_of imports own r) else Err s
terms_of imports own e = alone (term_of imports own e)
