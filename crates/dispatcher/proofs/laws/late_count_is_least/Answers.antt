use Rattle.dispatcher.proofs.laws.late_count_is_least.Goals as goal
use Rattle.dispatcher.proofs.Whole.{late_is_least}

pub returns : goal.returns
returns g c = late_is_least
