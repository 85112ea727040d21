use Rattle.std.proofs.Common.{◌≡◌, ◌+◌, ◌≤◌, [], ◌∷◌, length, sym, subst, arith, rules}
use Rattle.dispatcher.specs.Machine.{call_of}
use Rattle.dispatcher.specs.declared.event.Event.{Event}
use Rattle.runner.specs.Lines.{line}
use Rattle.runner.specs.Room.{BriefEvent, room}
use Rattle.runner.proofs.Widths.{five_room, least_room, refused_room, two_fit, two_room}
use Rattle.runner.proofs.lines.write_event.Goals as goal

-- a room of 20 bytes or more
wide : {M : Type 0} (e f : Event M) → e ≡ f → room (call_of f) ≤ room (call_of e)
wide e f is = subst (λ x. room (call_of x) ≤ room (call_of e)) is (omega arith)

pub write_line-requires : goal.write_line-requires
write_line-requires g c =
    let k = c.in-Refused.refusal in
    let w = wide c.args.event _ c.in-Refused.is in
    let l = least_room c.in-Refused.field-0 in
    let r = subst (λ n. length (line (82 ∷ []) (n ∷ [])) ≤ 20) (sym c.number.ensures) (refused_room 82 k) in
    omega arith

pub write_line-requires-in-Posted : goal.write_line-requires-in-Posted
write_line-requires-in-Posted g c =
    let w = wide c.args.event _ c.in-Posted.is in
    let b = subst BriefEvent c.in-Posted.is c.requires.brief in
    let l : c.args.at + 20 ≤ length c.args.out.now = omega arith in
    search (rules, two_fit)

pub write_line-requires-in-Turned : goal.write_line-requires-in-Turned
write_line-requires-in-Turned g c =
    let w = wide c.args.event _ c.in-Turned.is in
    let b = subst BriefEvent c.in-Turned.is c.requires.brief in
    let l : c.args.at + 20 ≤ length c.args.out.now = omega arith in
    search (rules, two_fit)

pub write_line-requires-in-Asked : goal.write_line-requires-in-Asked
write_line-requires-in-Asked g c =
    let f = c.in-Asked.end in
    let w = wide c.args.event _ c.in-Asked.is in
    let b = subst BriefEvent c.in-Asked.is c.requires.brief in
    let r = five_room 69 f.accepted f.dispatched f.late f.pending f.waiting b.0 b.1 b.2 b.3 b.4 in
    omega arith

pub returns-in-Refused-clause-short : goal.returns-in-Refused-clause-short
returns-in-Refused-clause-short g c =
    let k = c.in-Refused.refusal in
    let w = wide c.args.event _ c.in-Refused.is in
    let l = least_room c.in-Refused.field-0 in
    let r = subst (λ n. length (line (82 ∷ []) (n ∷ [])) ≤ 20) (sym c.number.ensures) (refused_room 82 k) in
    let p = c.write_line.ensures.place in
    omega arith

pub returns-in-Posted-clause-short : goal.returns-in-Posted-clause-short
returns-in-Posted-clause-short g c =
    let e = c.in-Posted.entry in
    let w = wide c.args.event _ c.in-Posted.is in
    let b = subst BriefEvent c.in-Posted.is c.requires.brief in
    let r = two_room 80 e.receipt e.deadline b.0 b.1 in
    let p = c.write_line-in-Posted.ensures.place in
    omega arith

pub returns-in-Turned-clause-short : goal.returns-in-Turned-clause-short
returns-in-Turned-clause-short g c =
    let w = wide c.args.event _ c.in-Turned.is in
    let b = subst BriefEvent c.in-Turned.is c.requires.brief in
    let r = two_room 84 c.in-Turned.cycle c.in-Turned.late b.0 b.1 in
    let p = c.write_line-in-Turned.ensures.place in
    omega arith

pub returns-in-Asked-clause-short : goal.returns-in-Asked-clause-short
returns-in-Asked-clause-short g c =
    let f = c.in-Asked.end in
    let w = wide c.args.event _ c.in-Asked.is in
    let b = subst BriefEvent c.in-Asked.is c.requires.brief in
    let r = five_room 69 f.accepted f.dispatched f.late f.pending f.waiting b.0 b.1 b.2 b.3 b.4 in
    let p = c.write_line-in-Asked.ensures.place in
    omega arith
