use Rattle.std.proofs.Common.{Ok, List, sym, ap, subst, ◌∙◌}
use Rattle.ui_strpos.specs.declared.name.NameEl.{NameEl}
use Rattle.ui_file.specs.declared.file.File.{File}
use Rattle.ui_sections.specs.Spelled.{AreDeclared, IsSpelled}
use Rattle.ui_sections.specs.Stages.{declared_in}
use Rattle.ui_sections.proofs.Stages.{file_read}
use Rattle.ui_sections.proofs.Counted.{all_spelled}
use Rattle.ui_sections.proofs.read.read_file.Goals as goal

pub returns-clause-read : goal.returns-clause-read
returns-clause-read c =
    file_read c.args.frame.now c.in_ok-roots.roots c.in_ok-front.front c.in_ok-declared.declared
    c.in_ok-roots.ensures.read c.in_ok-front.ensures.read
    (ap (λ (names : List NameEl). declared_in names c.args.frame.now) (sym c.items.ensures)
    ∙ c.in_ok-declared.ensures.read)
    ∙ ap (λ (x : File). Ok x) (sym c.joined.ensures)

pub returns-clause-found : goal.returns-clause-found
returns-clause-found c =
    subst (λ (x : File). IsSpelled c.args.frame.now x) (sym c.joined.ensures)
    (all_spelled c.args.frame.now c.in_ok-roots.roots c.in_ok-front.front
    c.in_ok-declared.declared c.in_ok-roots.ensures.found c.in_ok-front.ensures.found
    (subst (λ (names : List NameEl). AreDeclared c.args.frame.now names c.in_ok-declared.declared)
    c.items.ensures c.in_ok-declared.ensures.found))
