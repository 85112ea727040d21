use Rattle.std.proofs.Common.{◌<◌, refl, ap, inl, inr, arith}
use Rattle.banks.proofs.Holding.{tray_held}
use Rattle.chains.specs.ChainLaws.{without_entry}
use Rattle.chains.specs.Chains.{chain_trays, counted, pushed, link_at}
use Rattle.std.proofs.Common.{take}
use Rattle.chains.proofs.Moves.{counted_front, put_rows, trays_count, trays_held}
use Rattle.chains.proofs.Shifts.{inside_trays}
use Rattle.chains.proofs.chain_bank.calls.ChainBankBank.put.Goals as goal

pub returns-then-tray-self-clause-puts : goal.returns-then-tray-self-clause-puts
returns-then-tray-self-clause-puts g c =
    let b = c.args.self.now in
    let n = trays_count b.cells.now b.links.next b.trays b.links.heads (omega arith) in
    record { absent = λ _. (refl, refl); full = λ l _. absurd (omega arith); placed = λ l _. absurd (omega arith); limits = (refl, refl) }

pub returns-then-free_count-eq0-clause-puts : goal.returns-then-free_count-eq0-clause-puts
returns-then-free_count-eq0-clause-puts g c =
    let b = c.args.self.now in
    let n = trays_count b.cells.now b.links.next b.trays b.links.heads (omega arith) in
    let h = trays_held b.cells.now b.links.next b.trays b.links.heads b.links.size (inside_trays b.links) b.fits in
    let a = b.all in
    record { absent = λ l. absurd (omega arith); full = λ _ _. (refl, refl); placed = λ _ room. absurd (omega arith); limits = (refl, refl) }

pub invariant_of-self : goal.invariant_of-self
invariant_of-self g c =
    let b = c.args.self.now in
    let s = c.fill-place.ensures in
    let l : c.args.tray < b.trays = omega arith in
    let h = pushed c.fill-place.result (link_at b.links.heads c.args.tray) in
    let sum = counted_front b.links.heads b.trays c.args.tray h l (omega arith) in
    let e = ap (λ hs. counted (take b.trays hs)) s.heads in
    let fits = b.fits in
    let all = b.all in
    record { few = b.few; fits = omega arith; some = λ u. (let p = b.some u in omega arith); all = omega arith }

pub returns-clause-puts : goal.returns-clause-puts
returns-clause-puts g c =
    let b = c.args.self.now in
    let s = c.fill-place.ensures in
    let l : c.args.tray < b.trays = omega arith in
    let n = trays_count b.cells.now b.links.next b.trays b.links.heads (omega arith) in
    let h = trays_held b.cells.now b.links.next b.trays b.links.heads b.links.size (inside_trays b.links) b.fits in
    let t = tray_held (chain_trays b.cells.now b.links.next b.trays b.links.heads) c.args.tray in
    let a = b.all in
    record {
      absent = λ u. absurd (omega arith);
      full = λ _ w. absurd (elim w [ inl u ↦ omega arith | inr u ↦ omega arith ]);
      placed = λ _ _. (
        refl,
        put_rows b.cells.now b.links.next c.fill-place.new.self.next b.links.heads c.fill-place.new.self.heads b.trays c.args.tray c.fill-place.result _ s.grown s.free l (omega arith) (omega arith) (omega arith),
      );
      limits = (s.size, s.size);
    }

pub returns-clause-fills : goal.returns-clause-fills
returns-clause-fills g c =
    let s = c.fill-place.ensures in
    λ _. record { chosen = c.fill-place.result; serving = s.inside; free = without_entry c.args.self.now c.fill-place.result s.free; table = refl }
