use Rattle.std.proofs.Common.{◌+◌, Vec, Global, List, sym, ◌∙◌, ap, subst}
use Rattle.cell_core.specs.declared.cell.Cell.{Cell}
use Rattle.cell_core.specs.declared.program.FrameByte.{FrameByte}
use Rattle.cell_core.specs.Cells.{CellView}
use Rattle.operator_cells.specs.Making.{seen}
use Rattle.predicate_core.specs.Closing.{AreFrameBytes}
use Rattle.predicate_core.proofs.Closed.{frame_same, frame_more}
use Rattle.predicate_core.proofs.closing.frame_bytes.Goals as goal
use Rattle.predicate_core.proofs.closing.frame_bytes.Goals.{then-is_stored+in_ok-cell+in_ok-push, else-is_stored}

pub loop-i-preserved : goal.loop-i-preserved
loop-i-preserved c = elim c.if-is_stored.branch [
  | then-is_stored+in_ok-cell+in_ok-push w ↦
      subst (λ (cells : List CellView). AreFrameBytes (seen c.args.cells.now.items) cells c.args.exits.now c.args.window.now (c.loop-i.i + 1) c.if-is_stored.frame.items)
      (sym (ap (λ (x : Vec Cell Global). seen x.items) w.cells-is))
      (frame_more _ _ _ _ _ _ _ _ _ c.loop-i-test.true c.loop-i.invariant w.in_ok-cell.ensures (ap (λ (x : Vec FrameByte Global). x.items) w.frame-is ∙ w.in_ok-push.ensures.items))
  | else-is_stored w ↦
      subst (λ (cells : List CellView). AreFrameBytes (seen c.args.cells.now.items) cells c.args.exits.now c.args.window.now (c.loop-i.i + 1) c.if-is_stored.frame.items)
      (sym (ap (λ (x : Vec Cell Global). seen x.items) w.cells-is))
      (subst (λ (frame : List FrameByte). AreFrameBytes (seen c.args.cells.now.items) (seen c.loop-i.cells.items) c.args.exits.now c.args.window.now (c.loop-i.i + 1) frame)
      (sym (ap (λ (x : Vec FrameByte Global). x.items) w.frame-is))
      (frame_same _ _ _ _ _ _ c.loop-i-test.true c.requires.bytes (c.is_stored.ensures w.if-is_stored.false) c.loop-i.invariant))
]
