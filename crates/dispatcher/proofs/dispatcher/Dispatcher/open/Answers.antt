use Rattle.std.proofs.Common.{◌≡◌, true, false, sym, arith, rules}
use Rattle.messages.specs.declared.refusal.Refusal.TheVariants.{AlreadyOpen, StartTooHigh, UnfitBank}
use Rattle.dispatcher.specs.declared.call.Call.TheVariants.{Open}
use Rattle.dispatcher.specs.Views.{view}
use Rattle.dispatcher.proofs.Calling.{here, refuse}
use Rattle.dispatcher.proofs.RealRuns.{lawful}
use Rattle.dispatcher.proofs.Calling.{opens}
use Rattle.dispatcher.proofs.dispatcher.Dispatcher.open.Goals as goal

pub returns-then-is_some-clause-lawful : goal.returns-then-is_some-clause-lawful
returns-then-is_some-clause-lawful g c =
    let d = c.args.self.now in
    let o : (view d).is_open ≡ true = sym c.if-is_some.ensures in
    lawful d d (Open c.args.cycle c.args.receipt) _ (λ b s w. refuse b (view d) s _ w AlreadyOpen (here _ AlreadyOpen _ o))

pub returns-then-cycle-gt-LIMIT-clause-lawful : goal.returns-then-cycle-gt-LIMIT-clause-lawful
returns-then-cycle-gt-LIMIT-clause-lawful g c =
    let d = c.args.self.now in
    let o : (view d).is_open ≡ false = sym c.if-is_some.ensures in
    lawful d d (Open c.args.cycle c.args.receipt) _ (λ b s w. refuse b (view d) s (Open c.args.cycle c.args.receipt) w StartTooHigh (search rules))

pub returns-then-trays-lt2-clause-lawful : goal.returns-then-trays-lt2-clause-lawful
returns-then-trays-lt2-clause-lawful g c =
    let d = c.args.self.now in
    let o : (view d).is_open ≡ false = sym c.if-is_some.ensures in
    lawful d d (Open c.args.cycle c.args.receipt) _ (λ b s w. refuse b (view d) s (Open c.args.cycle c.args.receipt) w UnfitBank (search rules))

pub returns-clause-lawful : goal.returns-clause-lawful
returns-clause-lawful g c =
    let d = c.args.self.now in
    let o : (view d).is_open ≡ false = sym c.if-is_some.ensures in
    lawful d _ (Open c.args.cycle c.args.receipt) _ (λ b s w. opens b (view d) s w c.args.cycle c.args.receipt _ o (omega arith) (omega arith) (omega arith) (omega arith) (omega arith))
