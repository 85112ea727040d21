use Rattle.std.proofs.Common.{◌≡◌, get_or, take, Some, sym, ap, ◌∙◌, arith}
use Rattle.chains.specs.Chains.{chain_trays, counted, link_at, popped}
use Rattle.chains.proofs.Moves.{counted_front, kept_rows, pop_rows, trays_exists}
use Rattle.chains.proofs.Shifts.{inside_trays}
use Rattle.chains.proofs.chain_bank.calls.ChainBankBank.take.Goals as goal

pub release-place-requires : goal.release-place-requires
release-place-requires g c =
    let b = c.args.self.now in
    let h = trays_exists b.cells.now b.links.next b.trays b.links.heads c.args.tray b.links.size (inside_trays b.links) b.fits (omega arith) in
    record { is_tray = (let f = b.few in omega (arith, h.0)); has_place = h.1 }

pub invariant_of-self : goal.invariant_of-self
invariant_of-self g c =
    let b = c.args.self.now in
    let s = c.release-place.ensures in
    let h = trays_exists b.cells.now b.links.next b.trays b.links.heads c.args.tray b.links.size (inside_trays b.links) b.fits (omega arith) in
    let sum = counted_front b.links.heads b.trays c.args.tray (popped b.links.next (link_at b.links.heads c.args.tray)) h.0 (omega arith) in
    let e = ap (λ hs. counted (take b.trays hs)) s.heads in
    let fits = b.fits in
    let all = b.all in
    let some = h.1 in
    record { few = b.few; fits = omega arith; some = λ u. (let p = b.some u in omega arith); all = omega arith }

pub returns-clause-takes : goal.returns-clause-takes
returns-clause-takes g c =
    let b = c.args.self.now in
    let s = c.release-place.ensures in
    let h = trays_exists b.cells.now b.links.next b.trays b.links.heads c.args.tray b.links.size (inside_trays b.links) b.fits (omega arith) in
    let c₁ = c.index-self-place.result in
    let read : c₁ ≡ get_or b.cells.now (link_at b.links.heads c.args.tray).first c₁ =
    c.index-self-place.is ∙ ap (λ p. get_or b.cells.now p c₁) s.first in
    let t = pop_rows b.cells.now b.links.next b.links.heads b.trays c.args.tray c₁ h.0 h.1 (omega (arith, s.first, s.inside, b.fits)) read in
    record {
      answer = ap Some (sym c.index-self-place.is) ∙ t.0;
      left = kept_rows b.cells.now b.links.next c.release-place.new.self.next c.release-place.new.self.heads b.trays (omega arith) s.kept ∙ ap (chain_trays b.cells.now b.links.next b.trays) s.heads ∙ t.1;
      limits = (s.size, s.size);
    }
