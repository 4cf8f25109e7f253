use Rattle.std.proofs.Common.{◌≡◌, ℕ, ◌≤◌, List, length, take, map as map_list, sym, ◌∙◌, ap, subst, arith}
use Rattle.std.proofs.lemmas.List.{take_all}
use Rattle.cell_core.specs.Rows.{greatest}
use Rattle.operator_cells.specs.declared.joining.Arm.{Arm}
use Rattle.operator_cells.specs.Making.{seen}
use Rattle.operator_cells.specs.Joining.{chosen, followed, flat, AreThere}
use Rattle.operator_cells.proofs.RisingLaws.{rises_by}
use Rattle.operator_cells.specs.declared.held_cells.way.Way.{Way}
use Rattle.operator_cells.specs.HeldCells.RegisterCells.{pointed}
use Rattle.edge_cells.proofs.PointerArms.{arms_more, arms_there, arms_followed, arms_low}
use Rattle.edge_cells.proofs.Pointed.{cell_index, cell_long, cell_same}
use Rattle.edge_cells.proofs.meeting.meet_cell.Goals as goal

pub bounds-pointers-held_at : goal.bounds-pointers-held_at
bounds-pointers-held_at c = cell_index _ c.args.pointers.now c.args.ways.now c.args.part c.args.j c.loop-way.way-index c.held_at.result _ c.requires.there c.loop-way-test.true c.held_at.ensures

pub cell_in-requires : goal.cell_in-requires
cell_in-requires c = cell_long _ c.args.pointers.now c.args.ways.now c.args.part c.args.j c.loop-way.way-index c.held_at.result _ c.index-pointers-held_at.result c.requires.there c.loop-way-test.true c.held_at.ensures c.index-pointers-held_at.is

pub loop-way-init : goal.loop-way-init
loop-way-init c = c.new-arms.ensures.items

pub loop-way-preserved : goal.loop-way-preserved
loop-way-preserved c = arms_more _ _ _ _ _ _ _ _ _ c.loop-way.invariant c.loop-way-test.true
    (cell_same _ c.args.pointers.now c.args.ways.now c.args.part c.args.j c.loop-way.way-index c.held_at.result c.cell_in.result _ c.index-pointers-held_at.result c.requires.there c.loop-way-test.true c.held_at.ensures c.index-pointers-held_at.is c.cell_in.ensures)
    c.in_ok-push.ensures.items

-- all edges are there
all : (arms more : List Arm) (f : Way → Arm) (here : List Way) (n : ℕ) → more ≡ arms → arms ≡ map_list f (take n here) → length here ≤ n → more ≡ map_list f here
all arms more f here n e is l = e ∙ is ∙ ap (map_list f) (take_all n here l)

pub choose-requires-clause-there : goal.choose-requires-clause-there
choose-requires-clause-there c = subst (λ (xs : List Arm). AreThere (seen c.args.cells.now.items) xs) (sym (all _ _ _ _ _ c.deref.ensures.value c.loop-way.invariant c.loop-way-test.false)) (arms_there _ _ _ _ _ c.requires.there)

pub returns-clause-picks : goal.returns-clause-picks
returns-clause-picks c = record {
  grows = c.in_ok-c.ensures.makes.grows;
  there = c.in_ok-c.ensures.makes.there;
  value = λ packet v d run. c.in_ok-c.ensures.makes.value packet v run ∙ ap (chosen v) (all _ _ _ _ _ c.deref.ensures.value c.loop-way.invariant c.loop-way-test.false) ∙ arms_followed v v _ _ _ _ d c.requires.some;
}

pub returns-clause-follows : goal.returns-clause-follows
returns-clause-follows c = record { goes = λ v u d follows. c.in_ok-c.ensures.follows v u follows ∙ ap (followed v u) (all _ _ _ _ _ c.deref.ensures.value c.loop-way.invariant c.loop-way-test.false) ∙ arms_followed v u _ _ _ _ d c.requires.some }

pub returns-clause-rises : goal.returns-clause-rises
returns-clause-rises c = rises_by c.in_ok-c.ensures.rises (λ row. omega (
  arith,
  ap (λ (xs : List Arm). greatest row (flat xs)) (all _ _ _ _ _ c.deref.ensures.value c.loop-way.invariant c.loop-way-test.false),
  arms_low row _ (pointed c.args.pointers.now) c.args.ways.now c.args.part c.args.j c.requires.there,
))
