use Rattle.std.proofs.Common.{length, vec_items, sym, ap, ◌∙◌, subst}
use Rattle.chains.specs.ChainBanks as chain
use Rattle.rows.specs.RowBanks as row
use Rattle.steps.specs.declared.header.Header.{Header}
use Rattle.runner.specs.Listings.{Messages}
use Rattle.runner.specs.Room.{FewCalls}
use Rattle.runner.proofs.BankTerms.{chain_terms, row_terms}
use Rattle.runner.proofs.Listed.{brief_fault, few_calls}
use Rattle.runner.proofs.Playing.{played}
use Rattle.runner.proofs.listing.making.play.Goals as goal

pub list_run-requires-clause-few : goal.list_run-requires-clause-few
list_run-requires-clause-few g c =
    subst FewCalls (sym c.as_slice.ensures.value)
    (few_calls g.M.Posted.format c.args.records.file.now c.args.records.header c.requires.begun.short (vec_items c.in_ok-calls.calls) c.in_ok-calls.fault c.in_ok-calls.ensures)

pub list_run-requires-clause-brief : goal.list_run-requires-clause-brief
list_run-requires-clause-brief g c =
    brief_fault g.M.Posted.format c.args.records.file.now c.args.records.header c.requires.begun.short (vec_items c.in_ok-calls.calls) c.in_ok-calls.fault c.in_ok-calls.ensures

pub list_run-requires-in-Chain-clause-few : goal.list_run-requires-in-Chain-clause-few
list_run-requires-in-Chain-clause-few g c =
    subst FewCalls (sym c.as_slice-in-Chain.ensures.value)
    (few_calls g.M.Posted.format c.args.records.file.now c.args.records.header c.requires.begun.short (vec_items c.in_ok-calls.calls) c.in_ok-calls.fault c.in_ok-calls.ensures)

pub list_run-requires-in-Chain-clause-brief : goal.list_run-requires-in-Chain-clause-brief
list_run-requires-in-Chain-clause-brief g c =
    brief_fault g.M.Posted.format c.args.records.file.now c.args.records.header c.requires.begun.short (vec_items c.in_ok-calls.calls) c.in_ok-calls.fault c.in_ok-calls.ensures

pub returns-in-Row : goal.returns-in-Row
returns-in-Row g c =
    let t : Messages g.row.M.Denot = record { format = g.M.Posted.format; pad = g.M.Message.pad; kind = g.M.Message.kind; interval = g.M.Timed.interval } in
    let h = c.args.records.header in
    let same = c.header-header.ensures in
    let e = c.new.ensures in
    let b = row_terms row.bank_trays row.bank_limit row.bank_total t.interval c.new.result h (length c.args.cells.now) c.from-trays.result c.requires.cells (c.from-trays.ensures ∙ ap (λ (x : Header). x.trays) same) c.requires.begun.trays
    (ap (λ (x : Header). x.bank) (sym same) ∙ c.in-Row.is) e.empty e.limit e.total in
    played t c.args.records.file.now h _ b (vec_items c.in_ok-calls.calls) c.as_slice.result.now c.in_ok-calls.fault c.as_slice.ensures.value c.in_ok-calls.ensures c.args.out.now c.list_run.new.out c.list_run.result c.list_run.ensures

pub returns : goal.returns
returns g c =
    let t : Messages g.row.M.Denot = record { format = g.M.Posted.format; pad = g.M.Message.pad; kind = g.M.Message.kind; interval = g.M.Timed.interval } in
    let h = c.args.records.header in
    let same = c.header-header.ensures in
    let e = c.new-in-Chain.ensures in
    let b = chain_terms chain.bank_trays chain.bank_limit chain.bank_limit t.interval c.new-in-Chain.result h (length c.args.cells.now) c.from-trays.result c.requires.cells (c.from-trays.ensures ∙ ap (λ (x : Header). x.trays) same) c.requires.begun.trays
    (ap (λ (x : Header). x.bank) (sym same) ∙ c.in-Chain.is) e.empty e.limit e.limit in
    played t c.args.records.file.now h _ b (vec_items c.in_ok-calls.calls) c.as_slice-in-Chain.result.now c.in_ok-calls.fault c.as_slice-in-Chain.ensures.value c.in_ok-calls.ensures c.args.out.now c.list_run-in-Chain.new.out c.list_run-in-Chain.result c.list_run-in-Chain.ensures
