use Rattle.std.proofs.Common.{suc, List, length, sym, ◌∙◌, ap, subst, arith}
use Rattle.operator_cells.specs.Making.{seen}
use Rattle.operator_cells.specs.declared.held_cells.machine_cells.Pointer.{Pointer}
use Rattle.operator_cells.specs.HeldCells.RegisterCells.{PointerView, pointed}
use Rattle.operator_cells.specs.HeldCells.Rows.{cells_of_pointer}
use Rattle.operator_cells.specs.Rising.{Rises, RiseAll}
use Rattle.edge_cells.specs.Meeting.{BringCells, Picks, PickWords, cell_brought}
use Rattle.edge_cells.specs.Rows.{choice_row, pointer_row_brought}
use Rattle.edge_cells.specs.Pointing.{Follows}
use Rattle.edge_cells.proofs.GrowthLaws.{picks_before, follows_before}
use Rattle.edge_cells.proofs.ExtendingLaws.{pointer_new}
use Rattle.edge_cells.proofs.ChoiceRows.{rise_cons}
use Rattle.edge_cells.proofs.Pointed.{bring_later, pointed_length, pointed_more, words_after}
use Rattle.edge_cells.proofs.meeting.meet_pointers.Goals as goal

pub meet_cell-requires-clause-there : goal.meet_cell-requires-clause-there
meet_cell-requires-clause-there c = subst (λ (ps : List Pointer). BringCells (length (seen c.args.cells.now.items)) (pointed ps) c.args.ways.now c.args.part 0) (sym c.deref.ensures.value) (c.requires.there 0 (omega arith))

pub meet_key-requires-clause-there : goal.meet_key-requires-clause-there
meet_key-requires-clause-there c = λ j l. subst (λ (ps : List Pointer). BringCells (length (seen c.meet_cell.new.cells.items)) (pointed ps) c.args.ways.now c.args.part (suc j)) (sym c.deref-2.ensures.value)
    (bring_later (length (seen c.args.cells.now.items)) (length (seen c.meet_cell.new.cells.items)) (pointed c.args.pointers.now.items) c.args.ways.now c.args.part (suc j) c.in_ok-found.ensures.picks.grows.longer
    (c.requires.there (suc j) (omega (arith, l))))

pub returns-clause-picks : goal.returns-clause-picks
returns-clause-picks c = record {
  pointer = record { found = c.in_ok-found.found; key = c.in_ok-key.key.items };
  at = omega (arith, c.in-Ok.ensures.1, c.len.ensures, pointed_length c.args.pointers.now.items, c.args.pointers.now.ok.0);
  is = ap pointed c.in_ok-push.ensures.items ∙ pointed_more c.args.pointers.now.items _;
  found = picks_before (subst (λ (ps : List Pointer). Picks (seen c.args.cells.now.items) (seen c.meet_cell.new.cells.items) c.args.ways.now (cell_brought (pointed ps) c.args.part 0) c.in_ok-found.found) c.deref.ensures.value c.in_ok-found.ensures.picks) c.in_ok-key.ensures.picks.grows;
  key = words_after c.in_ok-found.ensures.picks.grows (subst (λ (ps : List Pointer). PickWords (seen c.meet_cell.new.cells.items) (seen c.meet_key.new.cells.items) (pointed ps) c.args.ways.now c.args.part c.args.words c.in_ok-key.key.items) c.deref-2.ensures.value c.in_ok-key.ensures.picks);
}

pub returns-clause-rises : goal.returns-clause-rises
returns-clause-rises c = subst (λ (p : PointerView). RiseAll (seen c.args.cells.now.items) (seen c.meet_key.new.cells.items) (cells_of_pointer p) (λ row. choice_row row (pointer_row_brought (pointed c.args.pointers.now.items) c.args.part) c.args.ways.now))
    (sym (pointer_new _ _ (record { found = c.in_ok-found.found; key = c.in_ok-key.key.items }) _ (omega (arith, c.in-Ok.ensures.1, c.len.ensures, pointed_length c.args.pointers.now.items, c.args.pointers.now.ok.0))
    (ap pointed c.in_ok-push.ensures.items ∙ pointed_more c.args.pointers.now.items _)))
    (rise_cons
    (subst (λ (ps : List Pointer). Rises (seen c.args.cells.now.items) (seen c.meet_cell.new.cells.items) c.in_ok-found.found (λ row. choice_row row (pointer_row_brought (pointed ps) c.args.part) c.args.ways.now)) c.deref.ensures.value c.in_ok-found.ensures.rises)
    (subst (λ (ps : List Pointer). RiseAll (seen c.meet_cell.new.cells.items) (seen c.meet_key.new.cells.items) c.in_ok-key.key.items (λ row. choice_row row (pointer_row_brought (pointed ps) c.args.part) c.args.ways.now)) c.deref-2.ensures.value c.in_ok-key.ensures.rises))

pub returns-clause-follows : goal.returns-clause-follows
returns-clause-follows c = subst (λ (p : PointerView). Follows (seen c.meet_key.new.cells.items) c.args.ways.now (cell_brought (pointed c.args.pointers.now.items) c.args.part 0) p.found)
    (sym (pointer_new _ _ (record { found = c.in_ok-found.found; key = c.in_ok-key.key.items }) _ (omega (arith, c.in-Ok.ensures.1, c.len.ensures, pointed_length c.args.pointers.now.items, c.args.pointers.now.ok.0))
    (ap pointed c.in_ok-push.ensures.items ∙ pointed_more c.args.pointers.now.items _)))
    (follows_before (subst (λ (ps : List Pointer). Follows (seen c.meet_cell.new.cells.items) c.args.ways.now (cell_brought (pointed ps) c.args.part 0) c.in_ok-found.found) c.deref.ensures.value c.in_ok-found.ensures.follows) c.in_ok-key.ensures.picks.grows)
