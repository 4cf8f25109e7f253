use Rattle.std.proofs.Common.{arith}
use Rattle.std.proofs.Math.ListN.{length-set}
use Rattle.edge_cells.specs.declared.part.Part.TheVariants.{Register}
use Rattle.edge_cells.proofs.ExtendingLaws.{ways_later}
use Rattle.edge_cells.proofs.Rows.{row_more}
use Rattle.edge_cells.proofs.JoinRows.{row_more_to}
use Rattle.edge_cells.proofs.PointersMet.{row_more_points}
use Rattle.edge_cells.proofs.joining.meet_registers.Goals as goal

pub meet-requires-clause-there : goal.meet-requires-clause-there
meet-requires-clause-there c = ways_later _ _ _ _ _ _ c.loop-i.invariant.1.grows c.loop-i.invariant.1.extends c.requires.there

pub loop-i-preserved : goal.loop-i-preserved
loop-i-preserved c = (
  simp length-set c.loop-i.invariant.0,
  row_more _ _ _ _ _ _ _ _ _ Register _ _ _ (omega (arith, c.loop-i.invariant.0)) c.loop-i.invariant.1 c.in_ok-c.ensures.meets,
  row_more_to _ _ _ _ _ _ _ _ _ Register _ _ _ (omega (arith, c.loop-i.invariant.0)) (omega (arith, c.loop-i-test.true)) c.requires.there c.loop-i.invariant.1 c.in_ok-c.ensures.meets c.loop-i.invariant.2 c.in_ok-c.ensures.rises,
  row_more_points _ _ _ _ _ _ _ _ _ Register _ _ _ (omega (arith, c.loop-i.invariant.0)) (omega (arith, c.loop-i-test.true)) c.requires.some c.requires.there c.loop-i.invariant.1 c.in_ok-c.ensures.meets c.loop-i.invariant.3 c.in_ok-c.ensures.points,
)
