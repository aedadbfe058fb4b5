-- Types' names, by what the code takes of the words behind the first.
use Rattle.std.proofs.Common.{◌≡◌, ℕ, suc, ◌+◌, List, Option, Some, None, Result, subst, add-one, arith}
use Rattle.std.specs.Prelude.{nat_le}
use Rattle.std.proofs.lemmas.Bool.{le-leb, lt-leb}
use Rattle.ui_base.specs.declared.value.Spot.{Spot}
use Rattle.ui_scan.specs.declared.kind.TokenKind.TheVariants.{Period}
use Rattle.ui_tree.specs.declared.part.Placed.{Placed}
use Rattle.ui_tree.specs.Tree.{TypeTree}
use Rattle.ui_grammar.specs.Word.{Word}
use Rattle.ui_parse.specs.declared.fault.ParseError.{ParseError}
use Rattle.ui_parse.specs.Reader.{Reader, and_then, first, take_by, marked, expect_name}
use Rattle.ui_parse.specs.Cursor.{after}
use Rattle.ui_parse.specs.View.{Reads}
use Rattle.ui_syntax.specs.Cover.{Read}
use Rattle.ui_syntax.specs.Types.{maybe_args, named_type}
use Rattle.ui_ptype.specs.declared.sub.TypeSub.{TypeSub}
use Rattle.ui_ptype.specs.Seen.{see_type}
use Rattle.ui_ptype.specs.Branches.{reads_on, reads_off, reads_took, reads_missed}

module _ (room : ℕ) (type : Reader (Read TypeTree)) (p : Placed) (ws : List Word) (r : Result TypeSub ParseError) (left : List Word) where
  abbrev with_member : Reader (Read TypeTree)
  with_member = λ u. and_then (expect_name u) (λ m. maybe_args (room + 1) type p (Some m))

  abbrev without : Reader (Read TypeTree)
  without = maybe_args (room + 1) type p None

  abbrev either : Reader (Read TypeTree)
  either = take_by (marked Period) (λ _. with_member) without

  at_levels : Reads see_type (named_type (room + 1) type p ws) r left → Reads see_type (named_type (suc room) type p ws) r left
  at_levels h = subst (λ (n : ℕ). Reads see_type (named_type n type p ws) r left) (add-one room) h

  low : room ≡ 0 → Reads see_type (without ws) r left → Reads see_type (named_type (room + 1) type p ws) r left
  unfolding named_type
  low none h = reads_off see_type r left (nat_le 2 (room + 1)) either without ws (lt-leb _ _ (omega (arith, none))) h

  wide : (room ≡ 0 → ⊥) → Reads see_type (either ws) r left → Reads see_type (named_type (room + 1) type p ws) r left
  unfolding named_type
  wide some h = reads_on see_type r left (nat_le 2 (room + 1)) either without ws (le-leb _ _ (omega (arith, some))) h

  pub named_low : room ≡ 0 → Reads see_type (without ws) r left → Reads see_type (named_type (suc room) type p ws) r left
  named_low none h = at_levels (low none h)

  pub named_member : (x : Option Spot) (s : Spot) (us : List Word) → (room ≡ 0 → ⊥) → x ≡ first (marked Period) ws → x ≡ Some s → us ≡ after x ws → Reads see_type (with_member us) r left → Reads see_type (named_type (suc room) type p ws) r left
  named_member x s us some found is behind h = at_levels (wide some (reads_took see_type r left (marked Period) (λ _. with_member) without x s ws us found is behind h))

  pub named_alone : (x : Option Spot) (us : List Word) → (room ≡ 0 → ⊥) → x ≡ first (marked Period) ws → x ≡ None → us ≡ after x ws → Reads see_type (without us) r left → Reads see_type (named_type (suc room) type p ws) r left
  named_alone x us some found is behind h = at_levels (wide some (reads_missed see_type r left (marked Period) (λ _. with_member) without x ws us found is behind h))
