use Rattle.std.proofs.Common.{arith}
use Rattle.dispatcher.specs.declared.call.Call.TheVariants.{Ask}
use Rattle.dispatcher.specs.Views.{view}
use Rattle.dispatcher.proofs.RealRuns.{lawful}
use Rattle.dispatcher.proofs.Turning.{asks_any}
use Rattle.dispatcher.proofs.dispatcher.Dispatcher.ask.Goals as goal

pub returns-clause-lawful : goal.returns-clause-lawful
returns-clause-lawful g c =
    let d = c.args.self.now in
    lawful d _ Ask _ (λ b s w. asks_any b (view d) s w _ _ (λ l. omega arith) c.waiting.ensures)
