use Rattle.std.proofs.Common.{sym, ap, subst, ◌∙◌}
use Rattle.ui_forms.specs.Verdict.{IsRefusal, environment_of, parts_from}
use Rattle.ui_forms.proofs.VerdictLemmas.{none_declared}
use Rattle.ui_forms.proofs.verdict.declared.Goals as goal

pub returns-in-Ok-clause-accepted : goal.returns-in-Ok-clause-accepted
returns-in-Ok-clause-accepted c = ap (λ m. parts_from (environment_of c.args.imports.now) m c.args.parts.now) (sym (ap (λ p. p.decls) c.in_ok-package.ensures ∙ none_declared)) ∙ c.in-Ok.ensures.accepted

pub returns-clause-refused : goal.returns-clause-refused
returns-clause-refused c = subst (λ m. IsRefusal (parts_from (environment_of c.args.imports.now) m c.args.parts.now) c.in-Err.e) (ap (λ p. p.decls) c.in_ok-package.ensures ∙ none_declared) c.in-Err.ensures.refused
