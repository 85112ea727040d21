use Rattle.std.proofs.Common.{◌≡◌, ◌+◌, ◌++◌, take, sym, ap, ◌∙◌, arith}
use Rattle.std.specs.List.{flat_map}
use Rattle.dispatcher.specs.Machine.{call_of}
use Rattle.runner.specs.Lines.{line_of}
use Rattle.runner.specs.Room.{room}
use Rattle.runner.proofs.Joining.{joined_next}
use Rattle.runner.proofs.Rooms.{next_roomy, room_next}
use Rattle.runner.proofs.Writing.{wrote_as, wrote_more}
use Rattle.runner.proofs.lines.write_events.Goals as goal

pub write_event-end-requires-clause-room : goal.write_event-end-requires-clause-room
write_event-end-requires-clause-room g c =
    let es = c.args.events.now in
    let i = c.loop-event.event-index in
    let e = c.event-item.result in
    let r = next_roomy es i e c.loop-event-test.true in
    let same = ap (λ x. room (call_of x)) c.event-item.is in
    let k = c.loop-event.invariant.1 in
    omega arith

pub loop-event-preserved : goal.loop-event-preserved
loop-event-preserved g c =
    let es = c.args.events.now in
    let i = c.loop-event.event-index in
    let e = c.event-item.result in
    let h = c.loop-event-test.true in
    let f = line_of g.M.Message.pad g.M.Message.kind in
    let text : flat_map f (take (i + 1) es) ≡ flat_map f (take i es) ++ f e =
    joined_next f es i e h ∙ ap (λ x. flat_map f (take i es) ++ f x) (sym c.event-item.is) in
    let r = room_next es i e h in
    let same = ap (λ x. room (call_of x)) c.event-item.is in
    let k = c.loop-event.invariant.1 in
    let s = c.write_event-end.ensures.short in
    (wrote_as _ _ _ _ _ _ (sym text) (wrote_more _ _ _ _ _ _ _ _ c.loop-event.invariant.0 c.write_event-end.ensures.wrote), omega arith)
