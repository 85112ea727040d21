use Rattle.std.proofs.Common.{sym, ◌∙◌, arith}
use Rattle.rows.proofs.Turns.{row_count}
use Rattle.rows.proofs.row_bank.calls.RowBankBank.tray_count.Goals as goal

pub returns : goal.returns
returns g c =
    let b = c.args.self.now in
    c.trays.ensures ∙ sym (row_count b.cells.now b.rows.limit b.rows.trays b.rows.heads (omega arith))
