-- Entries of parameter lists, by what the code tests.
use Rattle.std.proofs.Common.{◌≡◌, ℕ, true, List, Option, Some, None, is_some, Result, Ok, subst}
use Rattle.ui_base.specs.declared.value.Spot.{Spot}
use Rattle.ui_scan.specs.declared.kind.TokenKind.TheVariants.{Comma}
use Rattle.ui_tree.specs.declared.part.Placed.{Placed}
use Rattle.ui_tree.specs.Tree.{TypeTree, Tree}
use Rattle.ui_grammar.specs.Word.{Word}
use Rattle.ui_parse.specs.declared.fault.ParseError.{ParseError}
use Rattle.ui_parse.specs.Cursor.{after}
use Rattle.ui_parse.specs.Reader.{Reader, and_then, pure, first, marked}
use Rattle.ui_parse.specs.View.{Reads}
use Rattle.ui_syntax.specs.Cover.{Read, as_type}
use Rattle.ui_syntax.specs.Types.{Nested, Params, only, args_behind, a_lower_type, add_type, named_with, behind_cover, close_bracket}
use Rattle.ui_ptype.specs.declared.params.Params.{Params as Entries}
use Rattle.ui_ptype.specs.declared.sub.TypeSub.{TypeSub}
use Rattle.ui_ptype.specs.Parts.{covered}
use Rattle.ui_ptype.specs.Seen.{see_type, see_params}
use Rattle.ui_ptype.specs.Branches.{reads_if_took}

module _ (room : ℕ) (inner : Nested) (ps : Params) (p : Placed) (s : Spot) (x : Read Tree) (ws us m : List Word) (r : Result Entries ParseError) (left : List Word) where
  -- more arguments behind a first one, this type so deep
  abbrev pub with_more : TypeTree → ℕ → Reader Params
  with_more t k = λ v. and_then (args_behind (a_lower_type room inner) (only t k) v) (λ us. pure (add_type ps (named_with p None us)))

  module _ (first_type : TypeSub) (taken : Option Spot) (found : taken ≡ first (marked Comma) ws) (is : is_some taken ≡ true) (behind : us ≡ after taken ws) where
    comma_by : (o : Option TypeTree) → Reads see_type (covered x o us) (Ok first_type) m → Reads see_params (with_more (see_type first_type).tree first_type.depth m) r left → Reads see_params (behind_cover room inner ps p s x o ws) r left
    comma_by None h g = absurd h
    comma_by (Some t) h g = reads_if_took see_params r left (marked Comma) (λ _. with_more t x.depth) (close_bracket room inner ps p s x) taken ws us found is behind
        (λ _. subst (λ (v : List Word). Reads see_params (with_more t x.depth v) r left) h.1 (subst (λ (y : Read TypeTree). Reads see_params (with_more y.tree y.depth m) r left) h.0 g))

    -- a comma behind a first part that is a type too
    pub behind_comma : Reads see_type (covered x (as_type x.tree) us) (Ok first_type) m → Reads see_params (with_more (see_type first_type).tree first_type.depth m) r left → Reads see_params (behind_cover room inner ps p s x (as_type x.tree) ws) r left
    behind_comma h g = comma_by (as_type x.tree) h g
