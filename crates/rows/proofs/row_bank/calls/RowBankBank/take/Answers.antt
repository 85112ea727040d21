use Rattle.std.proofs.Common.{◌≡◌, get_or, Some, sym, refl, ap, ◌∙◌, arith}
use Rattle.rows.proofs.Turns.{row_exists, row_take}
use Rattle.rows.specs.RowBanks.{entry_place}
use Rattle.rows.proofs.row_bank.calls.RowBankBank.take.Goals as goal

pub pop-place-requires : goal.pop-place-requires
pop-place-requires g c =
    let b = c.args.self.now in
    let h = row_exists b.cells.now b.rows.limit b.rows.trays b.rows.heads c.args.tray b.rows.some b.fits (omega arith) in
    record { is_tray = h.0; has_cell = h.1 }

pub returns-clause-takes : goal.returns-clause-takes
returns-clause-takes g c =
    let b = c.args.self.now in
    let e = c.pop-place.ensures in
    let h = row_exists b.cells.now b.rows.limit b.rows.trays b.rows.heads c.args.tray b.rows.some b.fits (omega arith) in
    let read : c.index-self-place.result ≡ get_or b.cells.now (entry_place b c.args.tray 0) c.index-self-place.result =
    c.index-self-place.is ∙ ap (λ p. get_or b.cells.now p c.index-self-place.result) e.place in
    let t = row_take b.cells.now b.rows.limit b.rows.trays b.rows.heads c.args.tray c.index-self-place.result h.0 b.fits (b.rows.some (omega arith)) h.1 read in
    record { answer = ap Some (sym c.index-self-place.is) ∙ t.0; left = rw (e.limit, e.trays, e.heads) t.1; limits = (e.limit, rw (e.trays, e.limit) refl) }
