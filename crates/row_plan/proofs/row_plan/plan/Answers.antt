use Rattle.std.proofs.Common.{◌≡◌, ◌∙◌, ℕ, List, length, map, inl, ap, sym, subst, slice_index, Err}
use Rattle.std.proofs.lemmas.List.{length-map}
use Rattle.xdp_state.specs.declared.refusal.BuildError.TheVariants.{Refused}
use Rattle.cell_core.specs.declared.cell.Cell.{Cell}
use Rattle.cell_core.specs.declared.program.Node.{Node}
use Rattle.cell_core.specs.Rows.{AreRows, last_row}
use Rattle.cell_core.specs.View.{cell_of, program_of}
use Rattle.row_plan.specs.Steps.{IsLateNode}
use Rattle.row_plan.proofs.RefusalLemmas.{none_late, one_refusal, too_late}
use Rattle.row_plan.proofs.row_plan.plan.Goals as goal

count : (cells here : List Cell) (rows : List ℕ) → here ≡ cells → length rows ≡ length here → length rows ≡ length (map cell_of cells)
count cells here rows is e = e ∙ ap length is ∙ sym (length-map cells cell_of)

are : (cells here : List Cell) (rows : List ℕ) → here ≡ cells → AreRows (map cell_of here) (slice_index rows) → AreRows (map cell_of cells) (slice_index rows)
are cells here rows is a = let P : List Cell → Type 0 = λ cs. AreRows (map cell_of cs) (slice_index rows) in subst P is a

pub returns-in-Err-clause-refused : goal.returns-in-Err-clause-refused
returns-in-Err-clause-refused c =
    let p = c.args.program.now in
    let P : List ℕ → Type 0 = λ rows. IsLateNode rows p.nodes.items c.in-Err.refusal in
    let Q : List Node → Type 0 = λ nodes. IsLateNode c.deref-2.result.now nodes c.in-Err.refusal in
    too_late (program_of p) c.in-Ok.rows.items c.in-Err.refusal (count p.cells.items c.deref.result.now c.in-Ok.rows.items c.deref.ensures.value c.in-Ok.ensures.count)
    (are p.cells.items c.deref.result.now c.in-Ok.rows.items c.deref.ensures.value c.in-Ok.ensures.rows) (subst P c.deref-2.ensures.value (subst Q c.deref-3.ensures.value c.in-Err.ensures.err))

pub returns-in-Err-clause-exactly : goal.returns-in-Err-clause-exactly
returns-in-Err-clause-exactly c = λ r late.
    inl (ap (λ x. Err (Refused x)) (one_refusal (program_of c.args.program.now) c.in-Err.refusal r c.requires.formed (returns-in-Err-clause-refused c) late))

pub returns-in-Ok-live_rows-clause-exactly : goal.returns-in-Ok-live_rows-clause-exactly
returns-in-Ok-live_rows-clause-exactly c = λ r late.
    let p = c.args.program.now in
    let last : c.in-Ok-last_row.last ≡ last_row (slice_index c.in-Ok.rows.items) p.nodes.items =
    c.in-Ok-last_row.ensures.ok.0 ∙ ap (λ rows. last_row (slice_index rows) c.deref-3.result.now) c.deref-2.ensures.value ∙ ap (last_row (slice_index c.in-Ok.rows.items)) c.deref-3.ensures.value in
    absurd (none_late (program_of p) c.in-Ok.rows.items c.in-Ok-last_row.last r c.requires.formed (count p.cells.items c.deref.result.now c.in-Ok.rows.items c.deref.ensures.value c.in-Ok.ensures.count)
    (are p.cells.items c.deref.result.now c.in-Ok.rows.items c.deref.ensures.value c.in-Ok.ensures.rows) last c.in-Ok-last_row.ensures.ok.1 late)
