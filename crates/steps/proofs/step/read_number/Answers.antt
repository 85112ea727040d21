use Rattle.std.proofs.lemmas.Result.{err_from_is_err_and}
use Rattle.steps.proofs.Numbered.{numbered_refused}
use Rattle.steps.proofs.step.read_number.Goals as goal

pub returns-in_err-record : goal.returns-in_err-record
returns-in_err-record c =
    let p = err_from_is_err_and c.from_residual.result c.from_residual.ensures.1 in
    rw (p.1, p.2) (numbered_refused c.args.step c.ranges.step.fits _ c.numbered_ranges-ranges.ensures c.args.bytes.now _ c.in_err-record.ensures)
