-- Two readings of a type specification, side by side.
use Rattle.std.proofs.Common.{◌≡◌, ℕ, Bool, cond, List, Result, sym, ap, subst}
use Rattle.ui_base.specs.declared.value.Spot.{Spot}
use Rattle.ui_grammar.specs.Word.{Word}
use Rattle.ui_tree.specs.declared.part.Placed.{Placed}
use Rattle.ui_tree.specs.declared.decl.TypeSpec.{TypeSpec}
use Rattle.ui_tree.specs.StmtView.{type_spec_view}
use Rattle.ui_parse.specs.declared.fault.ParseError.{ParseError}
use Rattle.ui_parse.specs.Reader.{Outcome}
use Rattle.ui_parse.specs.View.{Reads}
use Rattle.ui_stmts.specs.Common.{Sized}
use Rattle.ui_stmts.specs.Decls.{farther, bracketed_group, generic_group}
use Rattle.ui_tree.specs.Stmt.{TypeGroup}
use Rattle.ui_ptype.specs.Branches.{some_room}
use Rattle.ui_psimple.specs.declared.deep.Deep.{Deep}
use Rattle.ui_psimple.specs.Seen.{see_deep}
use Rattle.ui_pdecl.specs.Parts.{farther_of, bracketed}

by_two : (room : ℕ) (p : Placed) (s : Spot) (ws : List Word) → (room ≡ 0 → ⊥) → farther_of (bracketed_group room p s ws) (generic_group room p ws) ≡ bracketed room p s ws
unfolding farther
by_two room p s ws some =
    sym (ap (λ (t : Bool). cond t (farther (bracketed_group room p s) (generic_group room p)) (generic_group room p) ws) (some_room room some))

pub two_readings : (room : ℕ) (p : Placed) (s : Spot) (ws : List Word) (r : Result (Deep TypeSpec) ParseError) (left : List Word) → (room ≡ 0 → ⊥)
    → Reads (see_deep type_spec_view) (farther_of (bracketed_group room p s ws) (generic_group room p ws)) r left → Reads (see_deep type_spec_view) (bracketed room p s ws) r left
two_readings room p s ws r left some h = subst (λ (o : Outcome (Sized TypeGroup)). Reads (see_deep type_spec_view) o r left) (by_two room p s ws some) h

-- a second reading at the same words, with a copy of the name
pub read_again : (room : ℕ) (p q : Placed) (ws us : List Word) (r : Result (Deep TypeSpec) ParseError) (left : List Word) → q ≡ p → us ≡ ws
    → Reads (see_deep type_spec_view) (generic_group room q us) r left → Reads (see_deep type_spec_view) (generic_group room p ws) r left
read_again room p q ws us r left name at h =
    subst (λ (p : Placed). Reads (see_deep type_spec_view) (generic_group room p ws) r left) name (subst (λ (v : List Word). Reads (see_deep type_spec_view) (generic_group room q v) r left) at h)
