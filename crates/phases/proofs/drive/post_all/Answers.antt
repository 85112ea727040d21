use Rattle.std.proofs.Common.{◌≡◌, ◌+◌, [], ◌∷◌, ◌++◌, map, take, sym, refl, ap, ◌∙◌, subst}
use Rattle.std.proofs.lemmas.List.{map_push, take_more}
use Rattle.dispatcher.specs.declared.call.Call.TheVariants.{Post}
use Rattle.phases.specs.Rounds.{CallsThrough}
use Rattle.phases.proofs.Through.{keeps_post, none_through, one_quiet}
use Rattle.phases.proofs.drive.post_all.Goals as goal

pub loop-message-init : goal.loop-message-init
loop-message-init g c = none_through refl

pub loop-message-preserved : goal.loop-message-preserved
loop-message-preserved g c =
    let l = c.loop-message in
    let xs = c.args.messages.now in
    let x = c.message-item.result in
    let so_far = take l.message-index xs in
    let more : take (l.message-index + 1) xs ≡ so_far ++ x ∷ [] =
    take_more xs l.message-index x c.loop-message-test.true ∙ ap (λ y. so_far ++ y ∷ []) (sym c.message-item.is) in
    let same : map Post so_far ++ Post x ∷ [] ≡ map Post (take (l.message-index + 1) xs) = sym (ap (map Post) more ∙ map_push Post so_far x) in
    subst (CallsThrough _ 0 c.args.dispatcher.now c.post.new.dispatcher) same
    (one_quiet {made = map Post so_far} (keeps_post x) (λ p. refl) l.invariant c.post.ensures.call)
