use Rattle.std.proofs.Common.{rules}
use Rattle.chains.proofs.links.successors.Goals as goal

pub returns-clause-each : goal.returns-clause-each
returns-clause-each c k l = let r = (c.from_fn.ensures.items.at k 0 l).2 in search rules
