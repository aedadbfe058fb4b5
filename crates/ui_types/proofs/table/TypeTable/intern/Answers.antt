use Rattle.std.proofs.Common.{◌≡◌, [], ◌∷◌, ◌++◌, length, rules}
use Rattle.ui_types.specs.Table.{shown}
use Rattle.ui_types.specs.Entries.{trees_of}
use Rattle.ui_types.proofs.TableLemmas.{made_found, made_added, grown_added}
use Rattle.ui_types.proofs.table.TypeTable.intern.Goals as goal

pub returns-in-Some-clause-made : goal.returns-in-Some-clause-made
returns-in-Some-clause-made c = made_found _ _ _ _ c.self.view_is c.self.invariant c.in-Some.ensures.found

pub returns-clause-made : goal.returns-clause-made
returns-clause-made c =
    let more : trees_of c.add.new.entries.entries ≡ trees_of c.self.inside.entries.entries ++ shown (trees_of c.self.inside.entries.entries) c.args.node ∷ [] = search rules in
    let place : c.len-k.result ≡ length c.self.inside.entries.entries = search rules in
    (made_added _ _ _ _ _ c.self.view_is c.self.invariant more place, record { small = search rules; shallow = search rules })

pub returns-clause-grows : goal.returns-clause-grows
returns-clause-grows c =
    let more : trees_of c.add.new.entries.entries ≡ trees_of c.self.inside.entries.entries ++ shown (trees_of c.self.inside.entries.entries) c.args.node ∷ [] = search rules in
    grown_added _ _ _ _ c.self.view_is more
