use Rattle.phases.specs.declared.stop.Held.TheVariants.{InOutput, InReport}
use Rattle.phases.proofs.Driving.{kept_in_output, kept_in_report, named_all, turned_on, work_done}
use Rattle.phases.proofs.Results.{err_is}
use Rattle.phases.proofs.drive.drive_round.Goals as goal

pub returns : goal.returns
returns g c = turned_on (work_done (named_all c.ask-waiting.ensures.lawful c.ask-waiting.ensures.same c.name_times.ensures) c.in_ok-detect.ensures c.post_all.ensures c.react_to-output.ensures.calls c.react_to-output.ensures.phase) c.in_ok-report.ensures

pub returns-in_err-report : goal.returns-in_err-report
returns-in_err-report g c =
    let r = c.from_residual-in_err-report in
    rw (err_is r.result (InOutput c.in_err-report.field-0.0) r.ensures.1)
    (kept_in_output (work_done (named_all c.ask-waiting.ensures.lawful c.ask-waiting.ensures.same c.name_times.ensures) c.in_ok-detect.ensures c.post_all.ensures c.react_to-output.ensures.calls c.react_to-output.ensures.phase) c.in_err-report.ensures)

pub returns-in_err-detect : goal.returns-in_err-detect
returns-in_err-detect g c =
    let r = c.from_residual in
    rw (err_is r.result (InReport c.in_err-detect.field-0.0) r.ensures.1)
    (kept_in_report (named_all c.ask-waiting.ensures.lawful c.ask-waiting.ensures.same c.name_times.ensures) c.in_err-detect.ensures)
