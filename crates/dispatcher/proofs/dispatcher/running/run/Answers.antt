use Rattle.std.proofs.Common.{◌≡◌, ◌+◌, [], ◌∷◌, ◌++◌, take, vec_items, sym, ap, ◌∙◌, subst, arith}
use Rattle.std.proofs.lemmas.List.{take_all, take_more}
use Rattle.dispatcher.specs.Steps.{terms}
use Rattle.dispatcher.specs.Views.{View, view}
use Rattle.dispatcher.proofs.RealRuns.{Ran, both_length, follows_accounts, follows_calls, follows_obeys, ran_more, ran_none}
use Rattle.dispatcher.proofs.dispatcher.running.run.Goals as goal

pub loop-call-init : goal.loop-call-init
loop-call-init g c b s =
    ran_none b c.new-dispatcher.result _ s c.new-events.ensures.items

pub loop-call-preserved : goal.loop-call-preserved
loop-call-preserved g c b s =
    let l = c.loop-call in
    let calls = c.args.calls.now in
    let call = c.call-item.result in
    let so_far = take l.call-index calls in
    let more : take (l.call-index + 1) calls ≡ so_far ++ call ∷ [] =
    take_more calls l.call-index call c.loop-call-test.true ∙ ap (λ x. so_far ++ x ∷ []) (sym c.call-item.is) in
    let ran = Ran b c.perform.new.self in
    subst (λ cs. ran cs (vec_items c.push.new.self)) (sym more)
    (subst (ran (so_far ++ call ∷ [])) (sym c.in_ok-push.ensures.items)
    (ran_more b l.dispatcher c.perform.new.self so_far (vec_items l.events) call c.perform.result (l.invariant b s) c.perform.ensures.steps))

pub returns : goal.returns
returns g c =
    let l = c.loop-call in
    let calls = c.args.calls.now in
    let b = terms g.B.Trays g.B.Item.Timed.interval c.args.bank in
    let v : View g.row.B-Item.Denot = view l.dispatcher in
    let ran = Ran b l.dispatcher in
    let r = subst (λ cs. ran cs (vec_items l.events)) (take_all l.call-index calls c.loop-call-test.false) (l.invariant b c.new-dispatcher.ensures) in
    let f = r.both in
    let h = vec_items l.events in
    let n = both_length b v calls h f in
    record {
      law = record {
        of_calls = follows_calls b v calls h f.follows;
        after_each = λ k less. f.obeyed k (omega arith);
        law = follows_obeys b v calls h f.follows;
      };
      account = record { led = f.follows; after_each = r.accounted; accounts = follows_accounts b v calls h f.follows };
    }
