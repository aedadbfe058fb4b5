use Rattle.std.proofs.Common.{◌≡◌, ◌≤◌, ◌+◌, ◌-◌, ◌^◌, map, option_map, drop}
use Rattle.ui_core.specs.Cost as spec
use Rattle.ui_core.specs.View as seen
use Rattle.ui_core.specs.Cost.{capped}
use Rattle.ui_core.specs.View.{view, stmt_view, clause_view, field_with, item_with, entry_with}
use Rattle.ui_core.proofs.count.+count.Given as goal

-- what is counted, with what is left

abbrev pub invariant-count_exprs-loop-part : goal.invariant-count_exprs-loop-part
invariant-count_exprs-loop-part l = record { bounded : l.total ≤ 2 ^ 64 - 1; same : capped (l.total + spec.exprs_cost (seen.exprs (map view (drop l.part-index l.parts)))) ≡ capped (l.fn.count + spec.exprs_cost (seen.exprs (map view l.parts))) }

abbrev pub invariant-count_fields-loop-part : goal.invariant-count_fields-loop-part
invariant-count_fields-loop-part l = record { bounded : l.total ≤ 2 ^ 64 - 1; same : capped (l.total + spec.fields_cost (seen.field_values (map (field_with view) (drop l.part-index l.parts)))) ≡ capped (l.fn.count + spec.fields_cost (seen.field_values (map (field_with view) l.parts))) }

abbrev pub invariant-count_items-loop-part : goal.invariant-count_items-loop-part
invariant-count_items-loop-part l = record { bounded : l.total ≤ 2 ^ 64 - 1; same : capped (l.total + spec.items_cost (seen.indexed_values (map (item_with view) (drop l.part-index l.parts)))) ≡ capped (l.fn.count + spec.items_cost (seen.indexed_values (map (item_with view) l.parts))) }

abbrev pub invariant-count_entries-loop-part : goal.invariant-count_entries-loop-part
invariant-count_entries-loop-part l = record { bounded : l.total ≤ 2 ^ 64 - 1; same : capped (l.total + spec.entries_cost (seen.entries (map (entry_with view) (drop l.part-index l.parts)))) ≡ capped (l.fn.count + spec.entries_cost (seen.entries (map (entry_with view) l.parts))) }

abbrev pub invariant-count_places-loop-part : goal.invariant-count_places-loop-part
invariant-count_places-loop-part l = record { bounded : l.total ≤ 2 ^ 64 - 1; same : capped (l.total + spec.places_cost (seen.assigned_all (map (option_map view) (drop l.part-index l.parts)))) ≡ capped (l.fn.count + spec.places_cost (seen.assigned_all (map (option_map view) l.parts))) }

abbrev pub invariant-count_stmts-loop-part : goal.invariant-count_stmts-loop-part
invariant-count_stmts-loop-part l = record { bounded : l.total ≤ 2 ^ 64 - 1; same : capped (l.total + spec.stmts_cost (seen.stmts (map stmt_view (drop l.part-index l.parts)))) ≡ capped (l.fn.count + spec.stmts_cost (seen.stmts (map stmt_view l.parts))) }

abbrev pub invariant-count_clauses-loop-part : goal.invariant-count_clauses-loop-part
invariant-count_clauses-loop-part l = record { bounded : l.total ≤ 2 ^ 64 - 1; same : capped (l.total + spec.clauses_cost (seen.clauses (map clause_view (drop l.part-index l.parts)))) ≡ capped (l.fn.count + spec.clauses_cost (seen.clauses (map clause_view l.parts))) }
