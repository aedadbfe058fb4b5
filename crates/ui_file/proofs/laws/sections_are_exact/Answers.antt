use Rattle.ui_file.proofs.Sections.{section_again, section_found}
use Rattle.ui_file.proofs.laws.sections_are_exact.Goals as goal

pub returns-clause-again : goal.returns-clause-again
returns-clause-again g c = λ s d k xs h. section_again g.E.Element.format s d k xs g.met.E.Element.lawful h

pub returns-clause-found : goal.returns-clause-found
returns-clause-found g c = λ s d k bs xs bytes e. section_found g.E.Element.format s d k bs xs g.met.E.Element.lawful bytes e
