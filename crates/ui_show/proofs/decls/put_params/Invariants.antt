use Rattle.std.proofs.Common.{◌≡◌, ◌++◌, take, false}
use Rattle.std.specs.Prelude.{map, codes}
use Rattle.ui_types.specs.declared.decl.TParam.{TParam}
use Rattle.ui_show.specs.Pieces.{joined}
use Rattle.ui_show.proofs.Joins.{is_started}
use Rattle.ui_show.proofs.Texts.{bound_text}
use Rattle.ui_show.proofs.decls.put_params.Given as goal

abbrev pub invariant-loop-param : goal.invariant-loop-param
invariant-loop-param l = record {
  out : l.out.items ≡ l.initial.out.items ++ joined (codes ", ")
      (map (bound_text (map (λ (p : TParam). p.name) l.params) l.table) (take l.param-index l.params));
  behind : l.is_behind ≡ is_started false
      (map (bound_text (map (λ (p : TParam). p.name) l.params) l.table) (take l.param-index l.params));
}
