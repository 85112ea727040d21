use Rattle.std.proofs.Common.{Ok, vec_items, subst}
use Rattle.steps.specs.Progress.{Law, Next}
use Rattle.runner.proofs.Gathering.{gathered_all, gathered_more, gathered_stopped}
use Rattle.runner.proofs.calls.read_calls.Goals as goal

pub returns-in-Ok-None : goal.returns-in-Ok-None
returns-in-Ok-None g c =
    let f = g.M.Posted.format in
    let here = c.loop-record.records in
    let after = c.next.new.self in
    let e = c.in-Ok-None.ensures in
    let same = (subst (λ o. Next f here after (Ok o)) c.in-Ok-None.field-0-is e.answer).1 in
    gathered_all f c.args.records here after (vec_items c.loop-record.calls) c.loop-record.invariant (vec_items c.push-in-Ok-None.new.self) same
    (λ ss h. subst (λ o. Law f ss after (Ok o)) c.in-Ok-None.field-0-is (e.law ss h))
    c.in_ok-push-in-Ok-None.ensures.items

pub loop-record-preserved : goal.loop-record-preserved
loop-record-preserved g c =
    let f = g.M.Posted.format in
    let here = c.loop-record.records in
    let after = c.next.new.self in
    let e = c.in-Ok-Some.ensures in
    gathered_more f c.args.records here after (vec_items c.loop-record.calls) c.loop-record.invariant c.in-Ok-Some.record c.call_of.result (vec_items c.push-in-Ok-Some.new.self)
    (subst (λ o. Next f here after (Ok o)) c.in-Ok-Some.field-0-is e.answer)
    (λ ss h. subst (λ o. Law f ss after (Ok o)) c.in-Ok-Some.field-0-is (e.law ss h))
    c.call_of.ensures
    c.in_ok-push-in-Ok-Some.ensures.items

pub returns-in-Err : goal.returns-in-Err
returns-in-Err g c =
    let f = g.M.Posted.format in
    let here = c.loop-record.records in
    let after = c.next.new.self in
    let e = c.in-Err.ensures in
    gathered_stopped f c.args.records here after (vec_items c.loop-record.calls) c.loop-record.invariant c.in-Err.fault e.answer e.law
