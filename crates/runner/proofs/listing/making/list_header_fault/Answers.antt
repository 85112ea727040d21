use Rattle.std.proofs.Common.{Some, refl, arith}
use Rattle.runner.specs.Lines.{fault_line}
use Rattle.runner.proofs.Holding.{wrote_holds}
use Rattle.runner.proofs.Listed.{fault_short, header_brief}
use Rattle.runner.proofs.Playing.{file_has_header}
use Rattle.runner.proofs.listing.making.list_header_fault.Goals as goal

pub returns-in-Ok : goal.returns-in-Ok
returns-in-Ok c =
    (file_has_header c.args.file c.in-Ok.field-0 c.in-Ok.ensures.opened, refl)

pub returns-in-Err : goal.returns-in-Err
returns-in-Err c =
    let fault = c.in-Err.fault in
    let e = c.in-Err.ensures in
    let l = fault_short (Some fault) (header_brief c.args.file.now fault e.opened e.header) in
    let p = c.write_fault.ensures.place in
    (fault_line (Some fault), record { fault = fault; faulty = e.opened; early = e.header; lines = refl }, wrote_holds _ _ _ _ c.write_fault.ensures (omega arith))
