use Rattle.std.proofs.Common.{◌+◌, length, ap, ◌∙◌, arith}
use Rattle.banks.specs.Trays.{tray_at}
use Rattle.dispatcher.specs.Views.{view}
use Rattle.dispatcher.proofs.Foreseeing.{counted_none, counted_found, counted_more, counted_all, none_due, due_sum}
use Rattle.dispatcher.proofs.Opened.{span_is, tray_is}
use Rattle.dispatcher.proofs.dispatcher.Dispatcher.foresee.Goals as goal

pub loop-ahead-init : goal.loop-ahead-init
loop-ahead-init g c b s w o =
    let v = view c.args.self.now in
    counted_none c.args.services v.cycle v.span s.pending (none_due b v s w o)

pub returns-then-due-services : goal.returns-then-due-services
returns-then-due-services g c b s w o =
    let d = c.args.self.now in
    let v = view d in
    let l = c.loop-ahead in
    let inv = l.invariant b s w o in
    let span = span_is d c.args.ring c.requires.ring in
    let here = c.count.ensures ∙ ap (λ k. length (tray_at v.trays k)) (c.tray_of-tray.ensures ∙ tray_is d c.args.ring (d.cycle + l.ahead) c.requires.ring) in
    counted_found c.args.services v.cycle v.span s.pending l.ahead l.due (omega arith) (omega arith) inv c.saturating_add-due.result (due_sum b v s w o c.args.services l.ahead l.due c.count.result c.saturating_add-due.result (omega arith) (omega arith) inv here (λ h. omega arith)) c.if-due-services.true

pub loop-ahead-preserved : goal.loop-ahead-preserved
loop-ahead-preserved g c b s w o =
    let d = c.args.self.now in
    let v = view d in
    let l = c.loop-ahead in
    let inv = l.invariant b s w o in
    let span = span_is d c.args.ring c.requires.ring in
    let here = c.count.ensures ∙ ap (λ k. length (tray_at v.trays k)) (c.tray_of-tray.ensures ∙ tray_is d c.args.ring (d.cycle + l.ahead) c.requires.ring) in
    counted_more c.args.services v.cycle v.span s.pending l.ahead l.due (omega arith) (omega arith) inv c.saturating_add-due.result (due_sum b v s w o c.args.services l.ahead l.due c.count.result c.saturating_add-due.result (omega arith) (omega arith) inv here (λ h. omega arith)) c.if-due-services.false

-- the last of the cycles ahead
pub returns-else-due-services : goal.returns-else-due-services
returns-else-due-services g c b s w o =
    let d = c.args.self.now in
    let v = view d in
    let l = c.loop-ahead in
    let inv = l.invariant b s w o in
    let span = span_is d c.args.ring c.requires.ring in
    let here = c.count.ensures ∙ ap (λ k. length (tray_at v.trays k)) (c.tray_of-tray.ensures ∙ tray_is d c.args.ring (d.cycle + l.ahead) c.requires.ring) in
    counted_all c.args.services v.cycle v.span s.pending (l.ahead + 1) c.saturating_add-due.result (omega arith)
    (counted_more c.args.services v.cycle v.span s.pending l.ahead l.due (omega arith) (omega arith) inv c.saturating_add-due.result (due_sum b v s w o c.args.services l.ahead l.due c.count.result c.saturating_add-due.result (omega arith) (omega arith) inv here (λ h. omega arith)) c.if-due-services.false)
