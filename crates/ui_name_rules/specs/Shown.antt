-- A name whose texts are lent, as a name.
use Rattle.ui_base.specs.declared.name.Name.{Name}
use Rattle.ui_name_rules.specs.declared.names.Lent.{Lent}

abbrev pub shown : Lent → Name
shown n = record { path = n.path.now; name = n.name.now }
