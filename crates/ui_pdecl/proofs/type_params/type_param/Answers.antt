use Rattle.ui_tree.specs.declared.part.Placed.{Placed}
use Rattle.ui_parse.specs.Reader.{expect_name}
use Rattle.ui_parse.proofs.ListLaws.{reads_then}
use Rattle.ui_pdecl.specs.Parts.{param_named}
use Rattle.ui_pdecl.specs.Seen.{see_type_params}
use Rattle.ui_pdecl.proofs.type_params.type_param.Goals as goal

pub returns-in-Ok : goal.returns-in-Ok
returns-in-Ok c = reads_then (λ (q : Placed). q) see_type_params (expect_name c.args.words.now) (param_named c.args.room (see_type_params c.args.params))
    c.in-Ok.name c.expect_name.new.self c.param_named.result c.param_named.new.words c.in-Ok.ensures c.param_named.ensures
