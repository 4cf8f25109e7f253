use Rattle.std.proofs.Common.{rules, ℕ, get_or, map, sym, arith}
use Rattle.std.proofs.lemmas.List.{get_or-map, length-map}
use Rattle.cell_core.specs.declared.program.FrameByte.{FrameByte}
use Rattle.row_plan.proofs.KeepingLemmas.{of_next, whole}
use Rattle.row_plan.proofs.keeping.keep_bytes.Goals as goal

cell : FrameByte → ℕ
cell b = b.cell

pub loop-byte-preserved : goal.loop-byte-preserved
unfolding cell
loop-byte-preserved c =
    let i : ℕ = c.loop-byte.byte-index in
    let none : FrameByte = record { at = 0; cell = 0 } in
    let x : ℕ = (get_or c.args.frame.now i none).cell in
    of_next (map (λ b. b.cell) c.args.frame.now) c.args.last i x c.args.kept.now c.loop-byte.kept c.keep.new.kept
    (omega (arith, length-map c.args.frame.now cell, c.loop-byte-test.true))
    (sym (get_or-map cell c.args.frame.now i none x c.loop-byte-test.true)) c.loop-byte.invariant c.keep.ensures

pub returns : goal.returns
unfolding cell
returns c = whole (map (λ b. b.cell) c.args.frame.now) c.args.last c.loop-byte.byte-index c.args.kept.now c.loop-byte.kept (search (rules, length-map c.args.frame.now cell)) c.loop-byte.invariant
