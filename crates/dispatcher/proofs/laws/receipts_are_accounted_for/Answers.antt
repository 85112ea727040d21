use Rattle.dispatcher.proofs.laws.receipts_are_accounted_for.Goals as goal
use Rattle.dispatcher.proofs.Once.{each_once}

pub returns : goal.returns
returns g c = each_once
