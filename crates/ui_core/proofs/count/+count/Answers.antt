use Rattle.std.proofs.Common.{List, map, option_map, Option, Some, refl, ap, ◌∙◌, arith}
use Rattle.ui_core.specs.declared.tree.Expr.{Expr}
use Rattle.ui_core.specs.declared.tree.Stmt.{Stmt}
use Rattle.ui_core.specs.declared.tree.Stmt.TheVariants as sv
use Rattle.ui_core.specs.declared.tree.Clause.{Clause}
use Rattle.ui_core.specs.declared.tree.FieldValue.{FieldValue}
use Rattle.ui_core.specs.declared.tree.IndexedValue.{IndexedValue}
use Rattle.ui_core.specs.declared.tree.Entry.{Entry}
use Rattle.ui_core.specs.Cost as spec
use Rattle.ui_core.specs.View as seen
use Rattle.ui_core.specs.View.{view, stmt_view, clause_view, field_with, item_with, entry_with}
use Rattle.ui_core.specs.Views.{view_Slice, stmt_For, stmt_Switch}
use Rattle.ui_core.proofs.CountLemmas.{counted}
use Rattle.ui_core.proofs.count.+count.Goals as goal

pub count_exprs-returns : goal.count_exprs-returns
count_exprs-returns t c =
    counted (λ (xs : List Expr). spec.exprs_cost (seen.exprs (map view xs))) c.args.parts.now c.loop-part.part-index c.loop-part.total c.args.count refl c.loop-part-test.false c.loop-part.invariant.bounded c.loop-part.invariant.same

pub count_fields-returns : goal.count_fields-returns
count_fields-returns t c =
    counted (λ (xs : List (FieldValue Expr)). spec.fields_cost (seen.field_values (map (field_with view) xs))) c.args.parts.now c.loop-part.part-index c.loop-part.total c.args.count refl c.loop-part-test.false c.loop-part.invariant.bounded c.loop-part.invariant.same

pub count_items-returns : goal.count_items-returns
count_items-returns t c =
    counted (λ (xs : List (IndexedValue Expr)). spec.items_cost (seen.indexed_values (map (item_with view) xs))) c.args.parts.now c.loop-part.part-index c.loop-part.total c.args.count refl c.loop-part-test.false c.loop-part.invariant.bounded c.loop-part.invariant.same

pub count_entries-returns : goal.count_entries-returns
count_entries-returns t c =
    counted (λ (xs : List (Entry Expr)). spec.entries_cost (seen.entries (map (entry_with view) xs))) c.args.parts.now c.loop-part.part-index c.loop-part.total c.args.count refl c.loop-part-test.false c.loop-part.invariant.bounded c.loop-part.invariant.same

pub count_places-returns : goal.count_places-returns
count_places-returns t c =
    counted (λ (xs : List (Option Expr)). spec.places_cost (seen.assigned_all (map (option_map view) xs))) c.args.parts.now c.loop-part.part-index c.loop-part.total c.args.count refl c.loop-part-test.false c.loop-part.invariant.bounded c.loop-part.invariant.same

pub count_stmts-returns : goal.count_stmts-returns
count_stmts-returns t c =
    counted (λ (xs : List Stmt). spec.stmts_cost (seen.stmts (map stmt_view xs))) c.args.parts.now c.loop-part.part-index c.loop-part.total c.args.count refl c.loop-part-test.false c.loop-part.invariant.bounded c.loop-part.invariant.same

pub count_clauses-returns : goal.count_clauses-returns
count_clauses-returns t c =
    counted (λ (xs : List Clause). spec.clauses_cost (seen.clauses (map clause_view xs))) c.args.parts.now c.loop-part.part-index c.loop-part.total c.args.count refl c.loop-part-test.false c.loop-part.invariant.bounded c.loop-part.invariant.same

pub count_expr-returns-in-Slice : goal.count_expr-returns-in-Slice
count_expr-returns-in-Slice t c =
    let p = c.in-Slice in
    let v = ap spec.expr_cost (ap view p.is ∙ view_Slice p.of p.low p.high p.max) in
    let g = ap (λ (e : Expr). spec.expr_cost (view e)) c.get.ensures in
    omega (arith, v, g, c.saturating_add-count.ensures, c.count_expr-count.ensures, c.count_maybe-count.ensures, c.count_maybe-count-in-Slice.ensures, c.count_maybe.ensures)

pub count_stmt-returns-in-For : goal.count_stmt-returns-in-For
count_stmt-returns-in-For t c =
    let p = c.in-For in
    let v = ap spec.stmt_cost (ap stmt_view p.is ∙ stmt_For p.init p.condition p.post p.body) in
    let i = ap (λ (ss : List Stmt). spec.stmts_cost (seen.stmts (map stmt_view ss))) c.as_slice-in-For.ensures in
    let q = ap (λ (ss : List Stmt). spec.stmts_cost (seen.stmts (map stmt_view ss))) c.as_slice-in-For-2.ensures in
    let b = ap (λ (ss : List Stmt). spec.stmts_cost (seen.stmts (map stmt_view ss))) c.as_slice-in-For-3.ensures in
    omega (arith, v, i, q, b, c.saturating_add-count.ensures, c.count_stmts-count-in-For.ensures, c.count_place-count.ensures, c.count_stmts-count-in-For-2.ensures, c.count_stmts-in-For.ensures)

pub count_stmt-returns-in-Some : goal.count_stmt-returns-in-Some
count_stmt-returns-in-Some t c =
    let p = c.in-Switch in
    let d = ap (λ (ss : Option (List Stmt)). stmt_view (sv.Switch p.on p.clauses ss)) c.in-Some.is in
    let v = ap spec.stmt_cost (ap stmt_view p.is ∙ d ∙ stmt_Switch p.on p.clauses (Some c.in-Some.stmts)) in
    let k = ap (λ (cs : List Clause). spec.clauses_cost (seen.clauses (map clause_view cs))) c.as_slice-in-Switch.ensures in
    let b = ap (λ (ss : List Stmt). spec.stmts_cost (seen.stmts (map stmt_view ss))) c.as_slice-in-Some.ensures in
    omega (arith, v, k, b, c.saturating_add-count.ensures, c.count_expr-count-in-Switch.ensures, c.count_clauses-count.ensures, c.count_stmts-in-Some.ensures)
