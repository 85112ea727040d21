use Rattle.std.proofs.Common.{◌≤◌, map, take}
use Rattle.std.specs.List.{flat_map}
use Rattle.dispatcher.specs.Machine.{call_of}
use Rattle.runner.specs.Lines.{line_of}
use Rattle.runner.specs.Output.{Wrote}
use Rattle.runner.specs.Room.{room_for}
use Rattle.runner.proofs.lines.write_events.Given as goal

-- the lines of the events so far have been written, within their room
abbrev pub invariant-loop-event : goal.invariant-loop-event
invariant-loop-event g l =
    Wrote l.initial.out 0 (flat_map (line_of g.M.Message.pad g.M.Message.kind) (take l.event-index l.events)) l.out l.end
    × (l.end ≤ room_for (map call_of (take l.event-index l.events)))
