use Rattle.std.proofs.Common.{◌≡◌, ℕ, ◌+◌, List, length, get_or, sym, ap, subst, add-one, arith}
use Rattle.std.proofs.lemmas.List.{length-map}
use Rattle.cell_core.specs.declared.cell.Cell.{Cell}
use Rattle.cell_core.specs.Passing.{IsPassed}
use Rattle.cell_core.specs.View.{cell_of, program_of, packet_of}
use Rattle.cell_core.proofs.Running.{formed_at, known_at, passed_step}
use Rattle.cell_core.proofs.evaluation.eval.Goals as goal

-- the cell that the loop reads is that of the program
read_here : (xs cs : List Cell) (k : ℕ) (c : Cell) → xs ≡ cs → c ≡ get_or xs k c → c ≡ get_or cs k c
read_here xs cs k c same e = subst (λ (l : List Cell). c ≡ get_or l k c) same e

pub settle-requires-clause-in_range : goal.settle-requires-clause-in_range
settle-requires-clause-in_range c =
    (formed_at c.args.program.now.cells.items c.loop-cell.cell-index c.cell-item.result c.requires.cells (omega (arith, c.loop-cell-test.true, ap length c.deref-cell-items.ensures.value))
    (read_here _ _ _ _ c.deref-cell-items.ensures.value c.cell-item.is)).0

pub settle-requires-clause-width : goal.settle-requires-clause-width
settle-requires-clause-width c =
    (formed_at c.args.program.now.cells.items c.loop-cell.cell-index c.cell-item.result c.requires.cells (omega (arith, c.loop-cell-test.true, ap length c.deref-cell-items.ensures.value))
    (read_here _ _ _ _ c.deref-cell-items.ensures.value c.cell-item.is)).1

pub settle-requires-clause-from : goal.settle-requires-clause-from
settle-requires-clause-from c =
    (formed_at c.args.program.now.cells.items c.loop-cell.cell-index c.cell-item.result c.requires.cells (omega (arith, c.loop-cell-test.true, ap length c.deref-cell-items.ensures.value))
    (read_here _ _ _ _ c.deref-cell-items.ensures.value c.cell-item.is)).2

pub settle-requires-clause-site : goal.settle-requires-clause-site
settle-requires-clause-site c =
    λ j s. omega (
      arith,
      ap length c.deref-in-loop-cell.ensures.value,
      known_at c.args.maps.now.decls c.args.program.now c.loop-cell.cell-index j c.cell-item.result c.requires.sites (omega (arith, c.loop-cell-test.true, ap length c.deref-cell-items.ensures.value))
          (read_here _ _ _ _ c.deref-cell-items.ensures.value c.cell-item.is) s,
    )

pub loop-cell-preserved : goal.loop-cell-preserved
loop-cell-preserved c = (
  subst (λ (vs : List ℕ). IsPassed (packet_of c.args.packet.now) c.args.maps.now (program_of c.args.program.now) (c.loop-cell.cell-index + 1) vs c.settle.new.own c.in_ok-value.next)
      (sym c.in_ok-push.ensures.items)
      (rw add-one (passed_step (packet_of c.args.packet.now) c.args.maps.now c.args.maps.now.decls c.args.program.now c.loop-cell.cell-index c.loop-cell.values.items c.deref.result.now c.deref-in-loop-cell.result.now
      c.loop-cell.own c.settle.new.own c.loop-cell.done c.in_ok-value.next c.in_ok-value.value c.cell-item.result c.requires.cells c.requires.sites
      (omega (arith, c.loop-cell-test.true, ap length c.deref-cell-items.ensures.value)) (read_here _ _ _ _ c.deref-cell-items.ensures.value c.cell-item.is)
      c.loop-cell.invariant.0 c.deref.ensures.value c.deref-in-loop-cell.ensures.value c.in_ok-value.ensures.value c.in_ok-value.ensures.passed c.in_ok-value.ensures.range)),
  c.in_ok-value.ensures.decls,
)

pub returns-clause-run : goal.returns-clause-run
returns-clause-run c = record {
  each = λ i h. c.loop-cell.invariant.0.each i (omega (arith, c.loop-cell-test.false, h, length-map c.args.program.now.cells.items cell_of, ap length c.deref-cell-items.ensures.value));
}
