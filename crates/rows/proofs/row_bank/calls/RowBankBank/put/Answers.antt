use Rattle.std.proofs.Common.{◌<◌, refl, ap, inl, inr, arith}
use Rattle.std.proofs.lemmas.List.{get_or-take}
use Rattle.rows.proofs.Turns.{row_count, row_counts, row_put, row_room}
use Rattle.rows.specs.Rings.{head_at, no_head}
use Rattle.rows.proofs.row_bank.calls.RowBankBank.put.Goals as goal

pub returns-then-tray-trays-clause-puts : goal.returns-then-tray-trays-clause-puts
returns-then-tray-trays-clause-puts g c =
    let b = c.args.self.now in
    let n = row_count b.cells.now b.rows.limit b.rows.trays b.rows.heads (omega arith) in
    record { absent = λ _. (refl, refl); full = λ l _. absurd (omega arith); placed = λ l _. absurd (omega arith); limits = (refl, refl) }

pub returns-then-count-limit-clause-puts : goal.returns-then-count-limit-clause-puts
returns-then-count-limit-clause-puts g c =
    let b = c.args.self.now in
    let n = row_count b.cells.now b.rows.limit b.rows.trays b.rows.heads (omega arith) in
    let h = row_counts b.cells.now b.rows.limit b.rows.trays b.rows.heads c.args.tray b.rows.some b.fits in
    record { absent = λ l. absurd (omega arith); full = λ _ _. (refl, refl); placed = λ _ room. absurd (omega arith); limits = (refl, refl) }

pub returns-clause-puts : goal.returns-clause-puts
returns-clause-puts g c =
    let b = c.args.self.now in
    let e = c.push-place.ensures in
    let l : c.args.tray < b.rows.trays = omega arith in
    let same = ap (λ h. h.count) (get_or-take b.rows.trays b.rows.heads c.args.tray no_head l) in
    let room : (head_at b.rows.heads c.args.tray).count < b.rows.limit = omega arith in
    let n = row_count b.cells.now b.rows.limit b.rows.trays b.rows.heads (omega arith) in
    let h = row_counts b.cells.now b.rows.limit b.rows.trays b.rows.heads c.args.tray b.rows.some b.fits in
    let all = row_room b.cells.now b.rows.limit b.rows.trays b.rows.heads c.args.tray b.rows.within (omega arith) l room in
    record {
      absent = λ u. absurd (omega arith);
      full = λ _ s. absurd (elim s [ inl u ↦ omega arith | inr u ↦ omega arith ]);
      placed = λ _ _. (refl, rw (e.place, e.limit, e.trays, e.heads) (row_put b.cells.now b.rows.limit b.rows.trays b.rows.heads c.args.tray _ l b.fits room));
      limits = (e.limit, rw (e.trays, e.limit) refl);
    }
