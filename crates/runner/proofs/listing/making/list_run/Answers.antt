use Rattle.std.proofs.Common.{◌-◌, ◌≤◌, ◌++◌, map, length, vec_items, sym, ap, ◌∙◌, subst, arith}
use Rattle.std.specs.List.{flat_map, AllByRecursion}
use Rattle.dispatcher.specs.Machine.{call_of}
use Rattle.dispatcher.specs.Steps.{terms}
use Rattle.runner.specs.Lines.{fault_line, line_of}
use Rattle.runner.specs.Room.{BriefEvent, room_for}
use Rattle.runner.proofs.Holding.{wrote_holds}
use Rattle.runner.proofs.Listed.{fault_short, history_brief, history_room}
use Rattle.runner.proofs.Writing.{wrote_as, wrote_more}
use Rattle.runner.proofs.listing.making.list_run.Goals as goal

pub write_events-end-requires-clause-brief : goal.write_events-end-requires-clause-brief
write_events-end-requires-clause-brief g c =
    let b = terms g.B.Trays g.B.Item.Timed.interval c.args.bank in
    let h = vec_items c.in_ok-_dispatcher.events in
    let w = c.in_ok-_dispatcher.ensures in
    let trays = g.B.Trays.few_trays c.args.bank in
    let narrow : length (g.B.Trays.trays c.args.bank) - 1 ≤ 127 = omega arith in
    subst (AllByRecursion BriefEvent) (sym c.as_slice.ensures.value)
    (history_brief b narrow c.args.calls.now c.requires.few h w.account.led.answered)

pub returns : goal.returns
returns g c =
    let b = terms g.B.Trays g.B.Item.Timed.interval c.args.bank in
    let f = line_of g.B.Item.Message.pad g.B.Item.Message.kind in
    let calls = c.args.calls.now in
    let h = vec_items c.in_ok-_dispatcher.events in
    let w = c.in_ok-_dispatcher.ensures in
    let few = c.requires.few in
    let trays = g.B.Trays.few_trays c.args.bank in
    let narrow : length (g.B.Trays.trays c.args.bank) - 1 ≤ 127 = omega arith in
    let r = history_room b narrow calls few h w.law.of_calls in
    let n = ap (λ x. room_for (map call_of x)) c.as_slice.ensures.value in
    let out = c.requires.room in
    let s = c.write_events-end.ensures.short in
    let p = c.write_fault.ensures.place in
    let l = fault_short c.args.fault c.requires.brief in
    let same = ap (λ x. flat_map f x ++ fault_line c.args.fault) (c.as_slice.ensures.value ∙ sym w.account.led.answered) in
    wrote_holds _ _ _ _
    (wrote_as _ _ _ _ _ _ same (wrote_more _ _ _ _ _ _ _ _ c.write_events-end.ensures.wrote c.write_fault.ensures))
    (omega arith)
