-- One form after its part.
use Rattle.std.proofs.Common.{◌≡◌, ℕ, List, Result, Ok, ap, sym, ◌∙◌, subst}
use Rattle.ui_base.specs.declared.value.Spot.{Spot}
use Rattle.ui_base.specs.declared.fault.CheckFault.{CheckFault}
use Rattle.ui_types.specs.Table.{Table}
use Rattle.ui_tree.specs.declared.part.Placed.{Placed}
use Rattle.ui_tree.specs.Tree.{Tree, selector}
use Rattle.ui_scopes.specs.declared.operand.Operand.{Operand}
use Rattle.ui_scopes.specs.Operands.{OperandTree}
use Rattle.ui_scopes.specs.Scopes.{World, ScopeTree}
use Rattle.ui_scopes.specs.Steps.{Checks, ◌>>=◌, GivesOperand}
use Rattle.ui_rules.specs.Forms.{selected}
use Rattle.ui_rules.specs.Rules.{operand_of}

pub selector_step : (w w1 : World) (s : ScopeTree) (file : List ℕ) (tree : Tree) (at : Spot)
    (a b : Tree) (p : Placed) (x : OperandTree) (table : Table) (r : Result Operand CheckFault)
    → tree ≡ selector at a p
    → b ≡ a
    → operand_of w s b ≡ Ok x
    → w1 ≡ w
    → s.file ≡ file
    → GivesOperand table (selected w1 file at p.text x) r
    → GivesOperand table (operand_of w s tree) r
unfolding operand_of
selector_step w w1 s file tree at a b p x table r is same part world in_file h =
    let e : operand_of w s tree ≡ selected w1 file at p.text x =
    ap (operand_of w s) is
    ∙ ap (λ (m : Checks OperandTree). m >>= selected w s.file at p.text)
    (ap (operand_of w s) (sym same) ∙ part)
    ∙ (λ i. selected (sym world i) (in_file i) at p.text x) in
    subst (λ (v : Checks OperandTree). GivesOperand table v r) (sym e) h
