use Rattle.std.proofs.Common.{◌+◌, take, Err, refl, subst, rules}
use Rattle.std.proofs.lemmas.List.{take_rest}
use Rattle.std.proofs.lemmas.Result.{err_from_is_err_and}
use Rattle.messages.specs.declared.refusal.Refusal.TheVariants.{BadRecord}
use Rattle.steps.specs.declared.fault.Fault.{Fault}
use Rattle.steps.specs.Reading.{IsStep, Reads}
use Rattle.steps.proofs.Mapped.{mapped, unmapped}
use Rattle.steps.proofs.Progressing.{at_end, one_more, stopped}
use Rattle.steps.proofs.records.Records.next.Goals as goal

pub returns-then-offset-self-clause-law : goal.returns-then-offset-self-clause-law
returns-then-offset-self-clause-law g c =
    λ steps read. at_end g.M.Posted.format c.args.self.now steps read c.if-offset-self.true

pub returns-clause-law : goal.returns-clause-law
returns-clause-law g c =
    let f = g.M.Posted.format in
    let r = c.args.self.now in
    let s = c.in_ok-step.step in
    let passed = unmapped Fault c.read.result s c.in_ok-step.ensures.cases (λ e q. q) in
    let read = subst (Reads (IsStep f) 10 _) passed c.read.ensures in
    let is = subst (λ x. IsStep f s (take 10 x)) (take_rest r.file.now r.position) read in
    λ steps h. one_more f r steps h s is _ refl refl refl

pub returns-in_err-step-clause-law : goal.returns-in_err-step-clause-law
returns-in_err-step-clause-law g c =
    let f = g.M.Posted.format in
    let r = c.args.self.now in
    let p = err_from_is_err_and c.from_residual.result c.from_residual.ensures.1 in
    let m = mapped (λ u. record { refusal = BadRecord; offset = r.position + u.lawful_up_to }) c.read.result c.in_err-step.field-0.0 c.in_err-step.ensures.cases (λ u e. search rules) in
    let read = subst (Reads (IsStep f) 10 _) m.1 c.read.ensures in
    let stops = subst (λ x. Reads (IsStep f) 10 x (Err m.0)) (take_rest r.file.now r.position) read in
    rw (p.1, p.2, m.2) (λ steps h. stopped f r steps h g.met.M.Posted.lawful g.met.M.Posted.only c.if-offset-self.false m.0 stops)
