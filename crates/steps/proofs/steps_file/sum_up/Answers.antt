use Rattle.std.proofs.Common.{Ok, subst}
use Rattle.std.proofs.lemmas.Result.{err_from_is_err_and}
use Rattle.steps.specs.Progress.{Law, Next}
use Rattle.steps.proofs.Counting.{count_done, count_more, count_stopped}
use Rattle.steps.proofs.steps_file.sum_up.Goals as goal

pub returns-in_err-next : goal.returns-in_err-next
returns-in_err-next g c =
    let f = g.M.Posted.format in
    let p = err_from_is_err_and c.from_residual.result c.from_residual.ensures.1 in
    let e = c.in_err-next.ensures in
    rw (p.1, p.2)
    (count_stopped f c.args.records c.loop-count.records c.next.new.self c.loop-count.count c.loop-count.invariant c.in_err-next.field-0.0 e.answer.same e.law)

pub loop-count-preserved : goal.loop-count-preserved
loop-count-preserved g c =
    let f = g.M.Posted.format in
    let here = c.loop-count.records in
    let after = c.next.new.self in
    let e = c.in_ok-next.ensures in
    count_more f c.args.records here after c.loop-count.count c.loop-count.invariant c.in-Some.field-0
    (subst (λ o. Next f here after (Ok o)) c.in-Some.is e.answer)
    (λ ss h. subst (λ o. Law f ss after (Ok o)) c.in-Some.is (e.law ss h))

pub returns : goal.returns
returns g c =
    let f = g.M.Posted.format in
    let here = c.loop-count.records in
    let after = c.next.new.self in
    let e = c.in_ok-next.ensures in
    let same = (subst (λ o. Next f here after (Ok o)) c.in_default.is e.answer).1 in
    count_done f c.args.records here after c.loop-count.count c.loop-count.invariant same
    (λ ss h. subst (λ o. Law f ss after (Ok o)) c.in_default.is (e.law ss h))
    c.header-header.result c.header-header.ensures
