use Rattle.std.proofs.Common.{Some, Ok, refl, subst, arith}
use Rattle.steps.specs.Opening.{Opens}
use Rattle.runner.specs.Lines.{fault_line}
use Rattle.runner.specs.Listings.{notes, of_no_header, of_notes, of_pen_messages, pen_messages}
use Rattle.runner.proofs.Holding.{wrote_holds}
use Rattle.runner.proofs.Listed.{fault_short, header_brief}
use Rattle.runner.proofs.Playing.{opened}
use Rattle.runner.proofs.listing.making.list_file.Goals as goal

pub returns-in-Err : goal.returns-in-Err
returns-in-Err c =
    let fault = c.in-Err.fault in
    let e = c.in-Err.ensures in
    let l = fault_short (Some fault) (header_brief c.args.file.now fault e.opened e.header) in
    let p = c.write_fault.ensures.place in
    let room = c.requires in
    (fault_line (Some fault), of_no_header (record { fault = fault; faulty = e.opened; early = e.header; lines = refl }), wrote_holds _ _ _ _ c.write_fault.ensures (omega arith))

pub returns-in-Ok-Pen : goal.returns-in-Ok-Pen
returns-in-Ok-Pen c =
    opened pen_messages c.args.file c.in-Ok-Pen.records (subst (λ r. Opens c.args.file (Ok r)) c.in-Ok-Pen.field-0-is c.in-Ok-Pen.ensures.opened) (λ text l. of_pen_messages l) c.args.out.now c.play.new.out c.play.result c.play.ensures

pub returns-in-Ok-Note : goal.returns-in-Ok-Note
returns-in-Ok-Note c =
    opened notes c.args.file c.in-Ok-Note.records (subst (λ r. Opens c.args.file (Ok r)) c.in-Ok-Note.field-0-is c.in-Ok-Note.ensures.opened) (λ text l. of_notes l) c.args.out.now c.play-in-Ok-Note.new.out c.play-in-Ok-Note.result c.play-in-Ok-Note.ensures
