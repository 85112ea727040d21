use Rattle.std.proofs.Common.{take, ◌∙◌}
use Rattle.rows.proofs.Turns.{counted_sum}
use Rattle.rows.proofs.rows.Rows.total.Goals as goal

pub returns : goal.returns
returns c = c.total_of.ensures ∙ counted_sum (take c.args.self.now.trays c.args.self.now.heads)
