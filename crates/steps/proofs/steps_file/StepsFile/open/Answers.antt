use Rattle.std.proofs.Common.{rules, subst, sym}
use Rattle.std.proofs.lemmas.Result.{err_from_is_err_and}
use Rattle.messages.specs.declared.refusal.Refusal.TheVariants.{BadHeader}
use Rattle.steps.specs.Lawful.{Faulty}
use Rattle.steps.specs.Reading.{IsHeader, Reads}
use Rattle.steps.proofs.Mapped.{mapped}
use Rattle.steps.proofs.Stopping.{header_faulty, too_long_faulty}
use Rattle.steps.proofs.steps_file.StepsFile.open.Goals as goal

pub returns-then-file-gt-LONGEST-clause-opened : goal.returns-then-file-gt-LONGEST-clause-opened
returns-then-file-gt-LONGEST-clause-opened c = too_long_faulty c.args.file.now c.if-file-gt-LONGEST.true

pub returns-in_err-header-clause-opened : goal.returns-in_err-header-clause-opened
returns-in_err-header-clause-opened c =
    let file = c.args.file.now in
    let p = err_from_is_err_and c.from_residual.result c.from_residual.ensures.1 in
    let m = mapped (λ u. record { refusal = BadHeader; offset = u.lawful_up_to }) c.read.result c.in_err-header.field-0.0 c.in_err-header.ensures.cases (λ u e. search rules) in
    let stops = subst (Reads IsHeader 8 file) m.1 c.read.ensures in
    rw (p.1, p.2) (subst (Faulty file) (sym m.2) (header_faulty file m.0 c.if-file-gt-LONGEST.false stops))
