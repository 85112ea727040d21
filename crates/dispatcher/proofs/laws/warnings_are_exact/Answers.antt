use Rattle.dispatcher.proofs.laws.warnings_are_exact.Goals as goal
use Rattle.dispatcher.proofs.Warned.{warnings_right}

pub returns : goal.returns
returns g c = warnings_right
