use Rattle.std.proofs.Common.{◌≡◌, ◌≤◌, take}
use Rattle.ui_store.specs.Told.{more}
use Rattle.ui_top.specs.Answers.{answers, are_answered}
use Rattle.ui_top.specs.Outcome.{words_of}
use Rattle.ui_top.proofs.answers.answer_all.Given as goal

abbrev pub invariant-loop-query : goal.invariant-loop-query
invariant-loop-query g l = record {
  written : (g.O.Sink.told l.out).written ≡ more (g.O.Sink.told l.initial.out).written (answers l.of (words_of (take l.query-index l.queries)));
  all : l.all ≡ are_answered l.of (words_of (take l.query-index l.queries));
  count : (g.O.Sink.told l.initial.out).faults ≤ (g.O.Sink.told l.out).faults;
}
