use Rattle.std.proofs.Common.{subst, arith, rules}
use Rattle.runner.specs.Room.{BriefEntry}
use Rattle.runner.proofs.Widths.{entry_fits, entry_room}
use Rattle.runner.proofs.lines.write_entry.Goals as goal

pub write_line-requires : goal.write_line-requires
write_line-requires g c =
    let b = subst BriefEntry c.in-Some.is c.requires.brief in search (rules, entry_fits)

pub returns-clause-short : goal.returns-clause-short
returns-clause-short g c =
    let e = c.in-Some.entry in
    let b = subst BriefEntry c.in-Some.is c.requires.brief in
    let r = entry_room c.args.letter e.receipt e.deadline c.pad-pad.result c.kind-kind.result b.0 b.1 (omega arith) (omega arith) in
    let p = c.write_line.ensures.place in
    omega arith
