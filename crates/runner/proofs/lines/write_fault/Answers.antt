use Rattle.std.proofs.Common.{◌<◌, subst, arith, rules}
use Rattle.runner.specs.Room.{BriefFault}
use Rattle.runner.proofs.Widths.{fault_fits, small_refusal}
use Rattle.runner.proofs.lines.write_fault.Goals as goal

pub write_line-requires : goal.write_line-requires
write_line-requires c =
    let b = subst BriefFault c.in-Some.is c.requires.brief in
    let s = small_refusal c.in-Some.fault.refusal in
    let e = c.number.ensures in
    let n : c.number.result < 100 = omega arith in
    let o : c.in-Some.fault.offset < 100000 = b in
    let l = c.requires.room in search (rules, fault_fits)
