-- Searches for the first bad path and for a string, turn by turn.
use Rattle.std.proofs.Common.{◌≡◌, ℕ, ◌+◌, ◌<◌, cond, List, map, length, get_or, drop, Option, Some}
use Rattle.std.proofs.lemmas.List.{at_drop_more}
use Rattle.ui_base.specs.declared.value.Spot.{Spot}
use Rattle.ui_scan.specs.declared.kind.Token.{Token}
use Rattle.ui_tree.specs.declared.decl.ImportSpec.{ImportSpec}
use Rattle.ui_tree.specs.declared.decl.ImportTree.{ImportTree}
use Rattle.ui_tree.specs.StmtView.{import_view}
use Rattle.ui_pexpr.specs.Forms.{or_else}
use Rattle.ui_pdecl.specs.Seen.{import_spec_view}
use Rattle.ui_pdecl.specs.FileResult.{is_bad, bad_spec, all_specs, bad_import, is_string_at, string_at}

abbrev pub specs_from : List ℕ → List ImportSpec → Option Spot
specs_from own ss = bad_spec own (map import_spec_view ss)

pub next_spec : (own : List ℕ) (ss : List ImportSpec) (i : ℕ) (d : ImportSpec) → i < length ss
    → specs_from own (drop i ss) ≡ cond (is_bad own (get_or ss i d).path.text) (Some (get_or ss i d).path.spot) (specs_from own (drop (i + 1) ss))
next_spec own ss i d lt = at_drop_more (specs_from own) ss i d lt

abbrev pub imports_from : List ℕ → List ImportTree → Option Spot
imports_from own is = bad_import own (map import_view is)

pub next_import : (own : List ℕ) (is : List ImportTree) (i : ℕ) (d : ImportTree) → i < length is
    → imports_from own (drop i is) ≡ or_else (bad_spec own (all_specs (import_view (get_or is i d)).specs)) (imports_from own (drop (i + 1) is))
next_import own is i d lt = at_drop_more (imports_from own) is i d lt

pub next_string : (s : Spot) (ts : List Token) (i : ℕ) (d : Token) → i < length ts
    → string_at s (drop i ts) ≡ cond (is_string_at s (get_or ts i d)) (get_or ts i d).start (string_at s (drop (i + 1) ts))
next_string s ts i d lt = at_drop_more (string_at s) ts i d lt
