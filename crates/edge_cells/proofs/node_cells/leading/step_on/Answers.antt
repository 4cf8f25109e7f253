use Rattle.std.proofs.Common.{◌≡◌, false, [], arith, refl}
use Rattle.std.proofs.lemmas.List.Elements.{All-nil, All-cons}
use Rattle.kind_core.specs.Edges.{transferred}
use Rattle.operator_cells.specs.declared.held_cells.way.Way.{Way}
use Rattle.operator_cells.proofs.RisingLaws.{rises_none}
use Rattle.edge_cells.proofs.NodeCells.Leaving.{one_leaves}
use Rattle.edge_cells.proofs.NodeCells.Pushing.{on_steps}
use Rattle.edge_cells.proofs.node_cells.leading.step_on.Goals as goal

pub returns-clause-steps : goal.returns-clause-steps
returns-clause-steps c =
    on_steps (record { sound = c.steps_are_sound.ensures; later = c.later_describes.ensures; changes = c.steps_change_only.ensures; ranges = c.steps_keep_ranges.ensures }) _ _ _ _ _ _ _ _ _ _ _
    (record { registers = c.are_whole.ensures.registers; slots = c.are_whole.ensures.slots }) (record { leads = refl; bit_is = refl; kinds_are = c.transfer.ensures; held_is = refl }) c.in_ok-push.ensures.items

pub returns-clause-kept : goal.returns-clause-kept
returns-clause-kept c = (_, c.in_ok-push.ensures.items)

pub returns-clause-rows : goal.returns-clause-rows
returns-clause-rows c = λ cells. one_leaves _ (rises_none {a = cells} c.args.guard (λ row. row c.args.guard) (λ row. omega arith)) refl c.in_ok-push.ensures.items (λ row. omega arith)

pub returns-clause-points : goal.returns-clause-points
returns-clause-points c =
    let P = λ (e : Way). (e.to ≡ c.args.to) × (e.bit ≡ c.args.guard) × (e.kinds ≡ transferred c.args.decls.now c.args.kinds.now c.args.insn.now c.args.node c.args.is_ref false) × (e.held ≡ c.args.held.now) in
    (_, c.in_ok-push.ensures.items, All-cons P _ [] (refl, refl, c.transfer.ensures, refl) (All-nil P))
