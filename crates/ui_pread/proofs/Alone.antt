-- Behind a first part between brackets that is a type alone.
use Rattle.std.proofs.Common.{◌≡◌, ℕ, true, List, Option, Some, None, Result, Ok, refl, sym, subst}
use Rattle.ui_grammar.specs.Word.{Word}
use Rattle.ui_tree.specs.Tree.{TypeTree, Tree}
use Rattle.ui_parse.specs.declared.fault.ParseError.{ParseError}
use Rattle.ui_base.specs.declared.value.Spot.{Spot}
use Rattle.ui_scan.specs.declared.kind.TokenKind.TheVariants.{Comma}
use Rattle.ui_parse.specs.Reader.{Reader, and_then, pure, refuse, first, taken, take_by, marked, expect}
use Rattle.ui_parse.specs.View.{Reads}
use Rattle.ui_syntax.specs.Cover.{Read, only_type, as_type}
use Rattle.ui_syntax.specs.Types.{Nested, only, more_args, args_behind, a_type}
use Rattle.ui_syntax.specs.Exprs.{is_some, instance_of, instance_behind, behind_index}
use Rattle.ui_syntax.proofs.SoundTypesBracket.{only_is}
use Rattle.ui_ptype.specs.declared.sub.Sub.{Sub}
use Rattle.ui_ptype.specs.declared.sub.TypeSub.{TypeSub}
use Rattle.ui_ptype.specs.Parts.{covered}
use Rattle.ui_ptype.specs.Seen.{see, see_type}

alone_by : (e : Tree) (o : Option TypeTree) → only_type e ≡ o → is_some o ≡ true → as_type e ≡ only_type e
alone_by e None is some = absurd cc
alone_by e (Some t) is some = subst (λ (a : Tree). as_type a ≡ only_type a) (sym (only_is e t is)) refl

pub alone_is : (e : Tree) → is_some (only_type e) ≡ true → as_type e ≡ only_type e
alone_is e some = alone_by e (only_type e) refl some

module _ (room : ℕ) (inner : Nested) (f x : Read Tree) (first : TypeSub) (ws m : List Word) (r : Result Sub ParseError) (left : List Word) where
  behind_by : (o : Option TypeTree) → Reads see_type (covered x o ws) (Ok first) m
      → Reads see (and_then (more_args (a_type room inner) (only (see_type first).tree first.depth) m) (λ us. pure (instance_of room inner f us))) r left → Reads see (behind_index room inner f x o ws) r left
  behind_by None h g = absurd h
  behind_by (Some t) h g = subst (λ (v : List Word). Reads see (and_then (more_args (a_type room inner) (only t x.depth) v) (λ us. pure (instance_of room inner f us))) r left) h.1
      (subst (λ (y : Read TypeTree). Reads see (and_then (more_args (a_type room inner) (only y.tree y.depth) m) (λ us. pure (instance_of room inner f us))) r left) h.0 g)

  pub behind_types : is_some (only_type x.tree) ≡ true → Reads see_type (covered x (as_type x.tree) ws) (Ok first) m
      → Reads see (and_then (more_args (a_type room inner) (only (see_type first).tree first.depth) m) (λ us. pure (instance_of room inner f us))) r left → Reads see (behind_index room inner f x (only_type x.tree) ws) r left
  behind_types some h g = behind_by (only_type x.tree) (subst (λ (o : Option TypeTree). Reads see_type (covered x o ws) (Ok first) m) (alone_is x.tree some) h) g

-- a comma, and more arguments behind a first one that is a type too
module _ (room : ℕ) (inner : Nested) (f x : Read Tree) (first_type : TypeSub) (s : Spot) (ws us m : List Word) (r : Result Sub ParseError) (left : List Word) where
  abbrev with_more : TypeTree → ℕ → Reader (Read Tree)
  with_more t k = λ v. and_then (args_behind (a_type room inner) (only t k) v) (λ ts. pure (instance_of room inner f ts))

  taken_by : (o : Option Spot) (p : Reader (Read Tree)) → Reads (λ (a : Spot). a) (taken o pure refuse ws) (Ok s) us → Reads see (p us) r left → Reads see (taken o (λ _. p) refuse ws) r left
  taken_by None p h g = absurd h
  taken_by (Some a) p h g = subst (λ (v : List Word). Reads see (p v) r left) h.1 g

  comma_by : (o : Option TypeTree) → Reads see_type (covered x o us) (Ok first_type) m → Reads (λ (a : Spot). a) (expect Comma ws) (Ok s) us → Reads see (with_more (see_type first_type).tree first_type.depth m) r left
      → Reads see (instance_behind room inner f x.depth o ws) r left
  unfolding expect take_by
  comma_by None h e g = absurd h
  comma_by (Some t) h e g = taken_by (first (marked Comma) ws) (with_more t x.depth) e
      (subst (λ (v : List Word). Reads see (with_more t x.depth v) r left) h.1 (subst (λ (y : Read TypeTree). Reads see (with_more y.tree y.depth m) r left) h.0 g))

  pub behind_comma : Reads see_type (covered x (as_type x.tree) us) (Ok first_type) m → Reads (λ (a : Spot). a) (expect Comma ws) (Ok s) us → Reads see (with_more (see_type first_type).tree first_type.depth m) r left
      → Reads see (instance_behind room inner f x.depth (as_type x.tree) ws) r left
  behind_comma h e g = comma_by (as_type x.tree) h e g
