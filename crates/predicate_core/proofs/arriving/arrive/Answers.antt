use Rattle.std.proofs.Common.{arith}
use Rattle.std.proofs.lemmas.List.{length-map}
use Rattle.cell_core.specs.View.{cell_of}
use Rattle.operator_cells.specs.Making.{seen}
use Rattle.predicate_core.proofs.Arrived.{arrived}
use Rattle.predicate_core.proofs.OwnGuard.{joined_own}
use Rattle.predicate_core.proofs.ArrivePoints.{arrive_points}
use Rattle.predicate_core.proofs.arriving.arrive.Goals as goal

pub own-requires-clause-first : goal.own-requires-clause-first
unfolding seen
own-requires-clause-first c = omega (arith, c.len-first.ensures, length-map c.args.cells.now.items cell_of, c.in_ok-here.ensures.joins.guards.grows.longer)

pub returns-clause-arrives : goal.returns-clause-arrives
unfolding seen
returns-clause-arrives c node ways lead = arrived c.here_is_right.ensures _ node _ _ _ _ _ _ ways _ _ _ _ _ lead c.in_ok-here.ensures.joins (omega (arith, c.len-first.ensures, length-map c.args.cells.now.items cell_of)) c.in_ok-guard.ensures.own

pub returns-clause-rows : goal.returns-clause-rows
returns-clause-rows c = joined_own c.in_ok-here.ensures.rows c.in_ok-guard.ensures.rises

pub returns-clause-points : goal.returns-clause-points
returns-clause-points c node ways lead = arrive_points _ node _ _ _ _ _ _ ways _ _ _ _ _ c.requires.some lead c.in_ok-here.ensures.joins.guards c.in_ok-guard.ensures.own c.in_ok-here.ensures.points
