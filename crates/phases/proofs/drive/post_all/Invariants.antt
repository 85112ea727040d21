use Rattle.std.proofs.Common.{map, take}
use Rattle.dispatcher.specs.declared.call.Call.TheVariants.{Post}
use Rattle.phases.specs.Rounds.{CallsThrough}
use Rattle.phases.proofs.drive.post_all.Given as goal

abbrev pub invariant-loop-message : goal.invariant-loop-message
invariant-loop-message g l =
    CallsThrough l.detect.cycle 0 l.initial.dispatcher l.dispatcher (map Post (take l.message-index l.messages))
