use Rattle.rows.proofs.Turns.{row_none}
use Rattle.rows.proofs.row_bank.RowBank.new.Goals as goal

pub returns-clause-empty : goal.returns-clause-empty
returns-clause-empty g c =
    let r = c.over-rows.result in
    let e = c.over-rows.ensures in
    row_none c.args.cells.now r.limit r.trays _ r.heads r.few e.trays e.heads
