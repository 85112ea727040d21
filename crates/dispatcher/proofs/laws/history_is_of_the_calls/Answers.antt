use Rattle.dispatcher.proofs.laws.history_is_of_the_calls.Goals as goal
use Rattle.dispatcher.proofs.Calls.{is_of_calls}

pub returns : goal.returns
returns g c = is_of_calls
