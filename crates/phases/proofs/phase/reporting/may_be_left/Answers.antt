use Rattle.std.proofs.Common.{rules}
use Rattle.phases.proofs.Leaving.{leaves}
use Rattle.phases.proofs.Results.{err_is}
use Rattle.phases.proofs.phase.reporting.may_be_left.Goals as goal

pub returns-in_err-in_cycle : goal.returns-in_err-in_cycle
returns-in_err-in_cycle g c =
    rw (err_is c.from_residual.result _ c.from_residual.ensures.1, c.in_err-in_cycle.ensures.err.0)
    (leaves c.ask-waiting.ensures.lawful c.ask-waiting.ensures.same (search rules))

pub returns-then-waiting-gt0 : goal.returns-then-waiting-gt0
returns-then-waiting-gt0 g c = leaves c.ask-waiting.ensures.lawful c.ask-waiting.ensures.same (search rules)

pub returns : goal.returns
returns g c = leaves c.ask-waiting.ensures.lawful c.ask-waiting.ensures.same (search rules)
