use Rattle.std.specs.Prelude.{fold}
use Rattle.std.proofs.Common.{◌∙◌, [], ◌∷◌, ◌++◌, refl, ap, arith}
use Rattle.std.proofs.lemmas.List.{take_all}
use Rattle.overlay_net.specs.cell_core.Cells.{bit}
use Rattle.pipe_core.specs.hazard_core.Marks.{entry_touched}
use Rattle.overlay_net.specs.cell_nets.Operands.{number_in, IsOperand, IsAvailable}
use Rattle.overlay_net.specs.cell_nets.Wires.{wires_of, always}
use Rattle.overlay_net.proofs.cell_nets_laws.StepNets.ChainLaws.{starts, last}
use Rattle.overlay_net.proofs.cell_nets_laws.StepNets.StepLaws.{all_each}
use Rattle.read_net.specs.TouchNet.Touching.{change_operands, own_operands}
use Rattle.read_net.proofs.TouchNet.EntryLemmas.{in_slot, over, own_more, by_pointer}
use Rattle.read_net.proofs.TouchNet.ListLemmas.{behind}
use Rattle.read_net.proofs.touch_net.entry.entry_touched.Goals as goal

pub loop-own-init : goal.loop-own-init
loop-own-init g c =
    let n = c.args.pointer in
    let e = c.args.change.now in
    last (starts c.args.part (wires_of c.args.wires.now.items) (n ∷ change_operands e ++ own_operands c.args.owns.now) always) c.in_ok-touched.ensures (λ ins h. all_each (IsAvailable ins) (n ∷ e.slot ∷ []) (h 0 n (omega arith), (h 1 e.slot (omega arith), tt))) (λ v f k. tt) _ (λ v f k. refl)

pub where_own-requires-clause-key : goal.where_own-requires-clause-key
where_own-requires-clause-key g c =
    let e = c.args.change.now in
    behind IsOperand e.presence e.key.now (behind IsOperand e.slot (e.presence ∷ e.key.now) c.requires.change.operands)

pub where_own-requires-clause-other : goal.where_own-requires-clause-other
where_own-requires-clause-other g c = c.loop-own.invariant.operand

pub loop-own-preserved : goal.loop-own-preserved
loop-own-preserved g c =
    own_more c.args.part _ _ _ c.args.bytes c.args.pointer c.args.change.now c.args.owns.now c.loop-own.own-index c.own-item.result c.loop-own.touched c.in_ok-touched-2.touched (omega arith) c.own-item.is c.loop-own.invariant c.in_ok-touched-2.ensures

pub returns-clause-given : goal.returns-clause-given
returns-clause-given g c = λ p decls h e q are.
    let n = c.args.pointer in
    let d = c.args.change.now in
    let owns = c.args.owns.now in
    last (starts c.args.part (wires_of c.args.wires.now.items) (n ∷ change_operands d ++ own_operands owns) _) c.loop-own.invariant (λ ins h. h) (λ v f k. tt) (λ v. bit (entry_touched p decls h e q))
    (λ v f k.
    let start = bit (in_slot (number_in v n) (number_in v d.slot)) in
    ap (fold (over v c.args.bytes d.key.now (number_in v n)) start) (take_all c.loop-own.own-index owns (omega arith))
    ∙ ap (λ x. fold (over v c.args.bytes d.key.now x) (bit (in_slot x (number_in v d.slot))) owns) k.0
    ∙ by_pointer v p decls h e c.args.bytes d.key.now owns c.requires.change.key k.1.key are k.2 (number_in v d.slot) k.1.slot q k.3)
