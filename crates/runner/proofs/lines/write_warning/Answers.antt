use Rattle.std.proofs.Common.{subst, arith, rules}
use Rattle.runner.specs.Room.{BriefWarning}
use Rattle.runner.proofs.Widths.{two_fit, two_room}
use Rattle.runner.proofs.lines.write_warning.Goals as goal

pub write_line-requires : goal.write_line-requires
write_line-requires c =
    let b = subst BriefWarning c.in-Some.is c.requires.brief in search (rules, two_fit)

pub returns-clause-short : goal.returns-clause-short
returns-clause-short c =
    let w = c.in-Some.warning in
    let b = subst BriefWarning c.in-Some.is c.requires.brief in
    let r = two_room 87 w.ahead w.load b.0 b.1 in
    let p = c.write_line.ensures.place in
    omega arith
