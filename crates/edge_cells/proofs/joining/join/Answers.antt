use Rattle.operator_cells.proofs.MakingLaws.{grown}
use Rattle.edge_cells.proofs.ExtendingLaws.{extended, ways_later}
use Rattle.edge_cells.proofs.Assembled.{joins_met}
use Rattle.edge_cells.proofs.Rows.{rows_met}
use Rattle.edge_cells.proofs.JoinRows.{joins_to}
use Rattle.edge_cells.proofs.PointersMet.{rows_points, join_points}
use Rattle.edge_cells.proofs.joining.join.Goals as goal

pub meet_slots-requires-clause-there : goal.meet_slots-requires-clause-there
meet_slots-requires-clause-there c = ways_later _ _ _ _ _ _ (grown c.in_ok-guard.ensures.guards.grows c.in_ok-registers.ensures.meets.grows) c.in_ok-registers.ensures.meets.extends c.requires.there

pub meet_window-requires-clause-there : goal.meet_window-requires-clause-there
meet_window-requires-clause-there c = ways_later _ _ _ _ _ _ (grown c.in_ok-guard.ensures.guards.grows (grown c.in_ok-registers.ensures.meets.grows c.in_ok-slots.ensures.meets.grows))
    (extended c.in_ok-registers.ensures.meets.extends c.in_ok-slots.ensures.meets.extends) c.requires.there

pub meet-requires-clause-there : goal.meet-requires-clause-there
meet-requires-clause-there c = ways_later _ _ _ _ _ _ (grown c.in_ok-guard.ensures.guards.grows (grown c.in_ok-registers.ensures.meets.grows (grown c.in_ok-slots.ensures.meets.grows c.in_ok-window.ensures.meets.grows)))
    (extended c.in_ok-registers.ensures.meets.extends (extended c.in_ok-slots.ensures.meets.extends c.in_ok-window.ensures.meets.extends)) c.requires.there

pub returns-clause-joins : goal.returns-clause-joins
returns-clause-joins c = joins_met _ _ _ _ _ _ _ _ _ _ c.requires.some c.requires.there c.requires.wider c.requires.filled c.in_ok-guard.ensures.guards
    (grown c.in_ok-registers.ensures.meets.grows (grown c.in_ok-slots.ensures.meets.grows (grown c.in_ok-window.ensures.meets.grows c.in_ok-target.ensures.meets.grows)))
    (extended c.in_ok-registers.ensures.meets.extends (extended c.in_ok-slots.ensures.meets.extends (extended c.in_ok-window.ensures.meets.extends c.in_ok-target.ensures.meets.extends)))
    (rows_met _ _ _ _ _ _ _ _ _ _ _ _ _ _ c.in_ok-registers.ensures.meets c.in_ok-slots.ensures.meets c.in_ok-window.ensures.meets c.in_ok-target.ensures.meets)

pub returns-clause-rows : goal.returns-clause-rows
returns-clause-rows c = joins_to _ _ _ _ _ _ _ _ _ _ _ _ _ _ _ _ c.requires.there c.in_ok-guard.ensures.rises c.in_ok-registers.ensures.meets c.in_ok-registers.ensures.rises
    c.in_ok-slots.ensures.meets c.in_ok-slots.ensures.rises c.in_ok-window.ensures.meets c.in_ok-window.ensures.rises c.in_ok-target.ensures.meets c.in_ok-target.ensures.rises

pub returns-clause-points : goal.returns-clause-points
returns-clause-points c = join_points (rows_points _ _ _ _ _ _ _ _ _ _ _ _ _ _ _ c.requires.some c.requires.there c.in_ok-registers.ensures.meets c.in_ok-registers.ensures.points
    c.in_ok-slots.ensures.meets c.in_ok-slots.ensures.points c.in_ok-window.ensures.meets c.in_ok-target.ensures.meets)
