use Rattle.std.proofs.Common.{refl}
use Rattle.ui_top.proofs.commands.answer_by.Goals as goal

pub returns-in-Ok : goal.returns-in-Ok
returns-in-Ok g c = rw c.in-Ok.is (record {
  answered = c.answer_all-answered.result;
  out = record {
    all = c.answer_all-answered.ensures.all;
    written = c.answer_all-answered.ensures.written;
    part = c.answer_all-answered.ensures.part;
    later = c.answer_all-answered.ensures.later;
    fault = c.answer_all-answered.ensures.fault;
  };
  line = c.report_answers.ensures.said;
  status = c.report_answers.ensures.status;
})

pub returns-in-Err : goal.returns-in-Err
returns-in-Err g c = rw c.in-Err.is (record { out = refl; line = c.report.ensures.said; status = c.report.ensures.status })
