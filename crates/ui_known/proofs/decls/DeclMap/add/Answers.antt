use Rattle.std.proofs.Common.{ap, ◌∙◌}
use Rattle.indexmap.specs.IndexMap.{insert_entry}
use Rattle.ui_types.specs.Decls.{name_eq}
use Rattle.ui_known.proofs.MapLemmas.{added}
use Rattle.ui_known.proofs.decls.DeclMap.add.Goals as goal

pub returns : goal.returns
returns c = c.in_ok-insert.ensures.entries
    ∙ (λ i. insert_entry name_eq (c.self.view_is i) c.args.name (c.in_ok-decl.ensures i))
    ∙ added c.args.self.now c.args.name c.args.decl c.requires
