use Rattle.std.proofs.Common.{ap, sym}
use Rattle.ui_scopes.specs.declared.scope.Meaning.TheVariants.{Package}
use Rattle.ui_face_rules.specs.TypeNames as names
use Rattle.ui_type_names.proofs.FoundLemmas.{Finds-same, lent_meaning}
use Rattle.ui_type_names.proofs.found.qualified_meaning.Goals as goal

pub returns-in-Package : goal.returns-in-Package
returns-in-Package c = Finds-same c.args.table.now _ _ _ c.package_name.result (λ w. sym (ap
    (names.qualified_meaning w c.args.file.now c.args.name.now c.args.member.now) (lent_meaning
    c.args.table.now c.args.meaning c.in-Some.meaning (Package c.in-Package.path) c.in-Some.is
    c.in-Package.is))) (c.package_name.ensures c.args.table.now)
