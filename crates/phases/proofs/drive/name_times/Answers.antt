use Rattle.std.proofs.Common.{refl, subst}
use Rattle.std.proofs.lemmas.List.{replicate_more}
use Rattle.dispatcher.specs.declared.call.Call.TheVariants.{Name}
use Rattle.phases.specs.Rounds.{CallsThrough}
use Rattle.phases.proofs.Through.{keeps_name, none_through, one_quiet}
use Rattle.phases.proofs.drive.name_times.Goals as goal

pub loop-init : goal.loop-init
loop-init g c = none_through refl

pub loop-preserved : goal.loop-preserved
loop-preserved g c =
    subst (CallsThrough _ 0 c.args.dispatcher.now c.name.new.dispatcher) (replicate_more c.loop.counter Name)
    (one_quiet keeps_name (λ x. refl) c.loop.invariant c.name.ensures)
