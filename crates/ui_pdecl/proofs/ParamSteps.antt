-- A type parameter behind its name.
use Rattle.std.proofs.Common.{◌≡◌, ℕ, List, Option, Ok, Err, refl}
use Rattle.ui_grammar.specs.Word.{Word}
use Rattle.ui_tree.specs.declared.part.Placed.{Placed}
use Rattle.ui_parse.specs.declared.fault.ParseError.{ParseError}
use Rattle.ui_parse.specs.Reader.{pure}
use Rattle.ui_parse.specs.View.{Reads}
use Rattle.ui_parse.proofs.ListLaws.{reads_fault, reads_then}
use Rattle.ui_ptype.specs.declared.sub.TypeSub.{TypeSub}
use Rattle.ui_ptype.specs.Seen.{see_maybe}
use Rattle.ui_stmts.specs.Decls as decls
use Rattle.ui_stmts.specs.Decls.{add_bound, maybe_bound}
use Rattle.ui_pdecl.specs.declared.type_params.TypeParams.{TypeParams}
use Rattle.ui_pdecl.specs.Parts.{param_named}
use Rattle.ui_pdecl.specs.Seen.{see_type_params}

module _ (room : ℕ) (ps : decls.TypeParams) (p : Placed) (ws left : List Word) where
  pub bound_fault : (e : ParseError) → Reads see_maybe (maybe_bound room ws) (Err e) left → Reads see_type_params (param_named room ps p ws) (Err e) left
  bound_fault e h = reads_fault see_maybe see_type_params (maybe_bound room ws) (λ t. pure (add_bound ps p t)) e left h

  pub bound_read : (b : Option TypeSub) (x : TypeParams) → Reads see_maybe (maybe_bound room ws) (Ok b) left → see_type_params x ≡ add_bound ps p (see_maybe b) → Reads see_type_params (param_named room ps p ws) (Ok x) left
  bound_read b x h is = reads_then see_maybe see_type_params (maybe_bound room ws) (λ t. pure (add_bound ps p t)) b left (Ok x) left h (is, refl)
