use Rattle.ui_collect.proofs.ResultLemmas.{listed_holds, unlisted_holds}
use Rattle.ui_collect.proofs.lists.+lists.Goals as goal

pub result_rule-returns-in-Listed : goal.result_rule-returns-in-Listed
result_rule-returns-in-Listed t c =
    listed_holds c.args.file.now c.args.names.now c.args.results.now c.in-Some.of c.in-Some.is
    c.get.result.now c.in-Listed.spot c.in-Listed.groups c.as_slice.result.now
    c.groups_rule.new.names
    c.groups_rule.result c.get.ensures c.in-Listed.is c.as_slice.ensures c.groups_rule.ensures

pub result_rule-returns-in_default : goal.result_rule-returns-in_default
result_rule-returns-in_default t c =
    unlisted_holds c.args.file.now c.args.names.now c.args.results.now c.in-Some.of c.in-Some.is
    c.get.result.now c.get-in-Some.result.now c.type_rule.result c.get.ensures
    c.get-in-Some.ensures
    c.in_default.not-Listed c.type_rule.ensures
