use Rattle.std.proofs.Common.{◌≡◌, Ok, Err, Result, MatchResult, sym, subst, rules}
use Rattle.messages.specs.declared.refusal.Refusal.{Refusal}
use Rattle.dispatcher.specs.declared.event.Event.TheVariants.{Refused}
use Rattle.dispatcher.specs.Answers.{answered}
use Rattle.dispatcher.specs.Machine.{Call, Event}
use Rattle.dispatcher.specs.WholeRuns.{LawfulCall}
use Rattle.dispatcher.proofs.dispatcher.Dispatcher.perform.Goals as goal

-- an event that is the one made of an answer, or tells of a refusal
told : {M : Type 0} (call : Call M) (r : Result (Event M) Refusal) (e : Event M) (P : Event M → Type 0) → ((x : Event M) → P x → e ≡ x) → MatchResult r P (λ k. e ≡ Refused call k) → e ≡ answered call (λ x. x) r
told call (Ok x) e P same is = same x is
told call (Err k) e P same is = is

pub returns : goal.returns
returns g c =
    subst (LawfulCall c.args.self.now c.attempt.new.self c.args.call) (sym (told c.args.call c.attempt.result c.of.result _ (λ x p. search rules) c.of.ensures)) c.attempt.ensures
