-- Elements of interfaces, by what the code takes of the next word.
use Rattle.std.proofs.Common.{◌≡◌, ℕ, List, Option, Some, None, Result, Ok, refl, sym, subst}
use Rattle.ui_base.specs.declared.value.Spot.{Spot}
use Rattle.ui_scan.specs.declared.kind.TokenKind.TheVariants.{Tilde}
use Rattle.ui_tree.specs.declared.part.Placed.{Placed}
use Rattle.ui_tree.specs.Tree.{TypeTree}
use Rattle.ui_grammar.specs.Word.{Word}
use Rattle.ui_parse.specs.declared.fault.ParseError.{ParseError}
use Rattle.ui_parse.specs.Cursor.{after}
use Rattle.ui_parse.specs.Reader.{Reader, ◌>>=◌, and_then, first, take_by, marked, named as a_name}
use Rattle.ui_parse.specs.View.{Reads}
use Rattle.ui_syntax.specs.Cover.{Read}
use Rattle.ui_syntax.specs.Types.{Nested, or_refuse, plain_type, union_from, maybe_union, tilde_of, other_type, element}
use Rattle.ui_ptype.specs.declared.sub.TypeSub.{TypeSub}
use Rattle.ui_ptype.specs.Parts.{named_element}
use Rattle.ui_ptype.specs.Seen.{see_type, see_maybe}
use Rattle.ui_ptype.specs.Branches.{reads_took, reads_missed}

module _ (room : ℕ) (inner : Nested) (ws us : List Word) (r : Result (Option TypeSub) ParseError) (left : List Word) where
  abbrev tilded : Spot → Reader (Option (Read TypeTree))
  tilded s = (plain_type room inner >>= or_refuse) >>= (λ t. union_from room inner (tilde_of room inner s t))

  abbrev unnamed : Reader (Option (Read TypeTree))
  unnamed = other_type room inner >>= maybe_union room inner

  abbrev no_name : Reader (Option (Read TypeTree))
  no_name = take_by (marked Tilde) tilded unnamed

  -- behind a name
  pub element_named : (x : Option Placed) (p : Placed) → x ≡ first a_name ws → x ≡ Some p → us ≡ after x ws → Reads see_maybe (named_element room inner p us) r left → Reads see_maybe (element room inner ws) r left
  unfolding element
  element_named x p found is behind h = reads_took see_maybe r left a_name (named_element room inner) no_name x p ws us found is behind h

  -- neither a name nor "~"
  pub element_other : (x : Option Placed) (y : Option Spot) (vs : List Word) → x ≡ first a_name ws → x ≡ None → us ≡ after x ws → y ≡ first (marked Tilde) us → y ≡ None → vs ≡ after y us
      → Reads see_maybe (and_then (other_type room inner vs) (maybe_union room inner)) r left → Reads see_maybe (element room inner ws) r left
  unfolding element
  element_other x y vs found is behind found2 is2 behind2 h = reads_missed see_maybe r left a_name (named_element room inner) no_name x ws us found is behind
      (reads_missed see_maybe r left (marked Tilde) tilded unnamed y us vs found2 is2 behind2 h)

-- what the union goes on from
pub union_some : (room : ℕ) (inner : Nested) (o : Option TypeSub) (t : TypeSub) (ws : List Word) (r : Result (Option TypeSub) ParseError) (left : List Word) → o ≡ Some t
    → Reads see_maybe (union_from room inner (see_type t) ws) r left → Reads see_maybe (maybe_union room inner (see_maybe o) ws) r left
union_some room inner o t ws r left is h = subst (λ (o : Option TypeSub). Reads see_maybe (maybe_union room inner (see_maybe o) ws) r left) (sym is) h

pub union_none : (room : ℕ) (inner : Nested) (o : Option TypeSub) (ws : List Word) → o ≡ None → Reads see_maybe (maybe_union room inner (see_maybe o) ws) (Ok None) ws
union_none room inner o ws is = subst (λ (o : Option TypeSub). Reads see_maybe (maybe_union room inner (see_maybe o) ws) (Ok None) ws) (sym is) (refl, refl)
