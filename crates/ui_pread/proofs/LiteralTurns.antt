-- Braces behind a type's name, by what the code tests.
use Rattle.std.proofs.Common.{◌≡◌, ℕ, Bool, true, false, cond, List, Option, Some, None, Result, Ok, refl, sym, ap, subst, ◌∙◌}
use Rattle.ui_base.specs.declared.value.Spot.{Spot}
use Rattle.ui_scan.specs.declared.kind.TokenKind.TheVariants.{LBrace}
use Rattle.ui_tree.specs.Tree.{TypeTree, Tree, named, parenthesized, pointer, slice, array, counted, mapping, func, listed, struct, interface, method, union, tilde}
use Rattle.ui_grammar.specs.Word.{Word}
use Rattle.ui_parse.specs.declared.fault.ParseError.{ParseError}
use Rattle.ui_parse.specs.declared.turn.Turn.{Turn}
use Rattle.ui_parse.specs.declared.turn.Turn.TheVariants.{Done}
use Rattle.ui_parse.specs.Cursor.{after}
use Rattle.ui_parse.specs.Reader.{Reader, and_then, first, marked}
use Rattle.ui_parse.specs.View.{Reads}
use Rattle.ui_syntax.specs.declared.site.Site.{Site}
use Rattle.ui_ptype.specs.declared.sub.Sub.{Sub}
use Rattle.ui_syntax.specs.Cover.{Read, as_type, if_named}
use Rattle.ui_syntax.specs.Exprs.{is_some, is_header, literal_of}
use Rattle.ui_syntax.specs.Types.{Nested, of_type}
use Rattle.ui_ptype.specs.Parts.{covered}
use Rattle.ui_pread.specs.Turns.{see_turn, done, more, literal_turn, named_literal}
use Rattle.ui_ptype.specs.Seen.{see}
use Rattle.ui_ptype.specs.Branches.{none_of, reads_off, reads_took, reads_missed}

if_same : (o : Option TypeTree) → is_some (if_named o) ≡ true → if_named o ≡ o
if_same None e = refl
if_same (Some (named n m vs)) e = refl
if_same (Some (parenthesized s t)) e = absurd cc
if_same (Some (pointer s t)) e = absurd cc
if_same (Some (slice s t)) e = absurd cc
if_same (Some (array s n t)) e = absurd cc
if_same (Some (counted s t)) e = absurd cc
if_same (Some (mapping s k t)) e = absurd cc
if_same (Some (func s gs r)) e = absurd cc
if_same (Some (listed s gs)) e = absurd cc
if_same (Some (struct s gs)) e = absurd cc
if_same (Some (interface s us)) e = absurd cc
if_same (Some (method n gs r)) e = absurd cc
if_same (Some (union s us)) e = absurd cc
if_same (Some (tilde s t)) e = absurd cc

module _ (room : ℕ) (inner : Nested) (site : Site) (f : Sub) (ws : List Word) where
  by_header : (b : Bool) (p : Reader (Turn (Read Tree))) → b ≡ true → Reads (see_turn see) (cond b (done (see f)) p ws) (Ok (Done f)) ws
  by_header true p e = (refl, refl)
  by_header false p e = absurd cc

  header : (t : Option TypeTree) → is_header site ≡ true → Reads (see_turn see) (literal_turn room inner site (see f) t ws) (Ok (Done f)) ws
  header None e = (refl, refl)
  header (Some t) e = by_header (is_header site) _ e

  pub literal_header : is_header site ≡ true → Reads (see_turn see) (literal_turn room inner site (see f) (if_named (as_type (see f).tree)) ws) (Ok (Done f)) ws
  literal_header e = header (if_named (as_type (see f).tree)) e

  unnamed : (t : Option TypeTree) → t ≡ None → Reads (see_turn see) (literal_turn room inner site (see f) t ws) (Ok (Done f)) ws
  unnamed None e = (refl, refl)
  unnamed (Some t) e = absurd cc

  pub literal_unnamed : is_some (if_named (as_type (see f).tree)) ≡ false → Reads (see_turn see) (literal_turn room inner site (see f) (if_named (as_type (see f).tree)) ws) (Ok (Done f)) ws
  literal_unnamed e = unnamed (if_named (as_type (see f).tree)) (none_of (if_named (as_type (see f).tree)) e)

  missed : (x : Option Spot) (us : List Word) (t : Option TypeTree) → is_header site ≡ false → x ≡ first (marked LBrace) ws → x ≡ None → us ≡ after x ws → Reads (see_turn see) (literal_turn room inner site (see f) t ws) (Ok (Done f)) us
  missed x us None e found is behind = (refl, behind ∙ ap (λ (x : Option Spot). after x ws) is)
  missed x us (Some t) e found is behind = reads_off (see_turn see) (Ok (Done f)) us (is_header site) _ _ ws e (reads_missed (see_turn see) (Ok (Done f)) us (marked LBrace) _ (done (see f)) x ws us found is behind (refl, refl))

  pub literal_missed : (x : Option Spot) (us : List Word) → is_header site ≡ false → x ≡ first (marked LBrace) ws → x ≡ None → us ≡ after x ws → Reads (see_turn see) (literal_turn room inner site (see f) (if_named (as_type (see f).tree)) ws) (Ok (Done f)) us
  literal_missed x us = missed x us (if_named (as_type (see f).tree))

  took : (o : Option TypeTree) (x : Option Spot) (s : Spot) (us : List Word) (r : Result (Turn Sub) ParseError) (left : List Word) → is_header site ≡ false → is_some o ≡ true → x ≡ first (marked LBrace) ws → x ≡ Some s → us ≡ after x ws
      → ((t : TypeTree) → o ≡ Some t → Reads (see_turn see) (and_then (literal_of room inner (of_type t f.spot f.depth) us) more) r left) → Reads (see_turn see) (literal_turn room inner site (see f) o ws) r left
  took None x s us r left e some found is behind h = absurd cc
  took (Some t) x s us r left e some found is behind h = reads_off (see_turn see) r left (is_header site) _ _ ws e (reads_took (see_turn see) r left (marked LBrace) (λ _ vs. and_then (literal_of room inner (of_type t f.spot f.depth) vs) more) (done (see f)) x s ws us found is behind (h t refl))

  by_type : (o : Option TypeTree) (t : TypeTree) (us : List Word) (r : Result (Turn Sub) ParseError) (left : List Word) → o ≡ Some t → Reads (see_turn see) (and_then (covered (see f) o us) (λ t vs. and_then (literal_of room inner t vs) more)) r left
      → Reads (see_turn see) (and_then (literal_of room inner (of_type t f.spot f.depth) us) more) r left
  by_type None t us r left e h = absurd cc
  by_type (Some u) t us r left e h = let same : u ≡ t = cc in subst (λ (t : TypeTree). Reads (see_turn see) (and_then (literal_of room inner (of_type t f.spot f.depth) us) more) r left) same h

  pub literal_taken : (x : Option Spot) (s : Spot) (us : List Word) (r : Result (Turn Sub) ParseError) (left : List Word) → is_header site ≡ false → is_some (if_named (as_type (see f).tree)) ≡ true → x ≡ first (marked LBrace) ws → x ≡ Some s → us ≡ after x ws
      → Reads (see_turn see) (named_literal room inner (see f) us) r left → Reads (see_turn see) (literal_turn room inner site (see f) (if_named (as_type (see f).tree)) ws) r left
  literal_taken x s us r left e some found is behind h = took (if_named (as_type (see f).tree)) x s us r left e some found is behind
      (λ t at. by_type (as_type (see f).tree) t us r left (sym (if_same (as_type (see f).tree) some) ∙ at) h)
