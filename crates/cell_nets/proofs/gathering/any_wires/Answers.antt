use Rattle.std.proofs.Common.{false, ◌+◌, [], ◌∷◌, ◌++◌, ap, length, length-append, take, arith}
use Rattle.net_core.specs.View.{tree_of}
use Rattle.cell_core.specs.declared.operator.Operator.TheVariants.{Any}
use Rattle.cell_nets.specs.Parts.{worth}
use Rattle.cell_nets.specs.Wires.{wires_of}
use Rattle.cell_nets.proofs.GatherLemmas.{none_gathered, gathered_as, gathered_all, gathered_then, gathered_more, gathered_gives, any_of, any_small}
use Rattle.cell_nets.proofs.gathering.any_wires.Goals as goal

pub loop-a-init : goal.loop-a-init
loop-a-init g c = record { few = omega (arith, ap length c.new-left.ensures.items); gathered = none_gathered c.args.part (wires_of c.args.wires.now.items) c.new-left.result.items c.new-left.ensures.items }

pub loop-a-preserved : goal.loop-a-preserved
loop-a-preserved g c = record {
  few = omega (arith, simp length-append at (ap length c.in_ok-push.ensures.items), c.in_ok-left.ensures.few);
  gathered =
      let old = wires_of c.args.wires.now.items in
      let mid = wires_of c.loop-a.wires.items in
      let new = wires_of c.gathered.new.wires.items in
      let args = c.args.args.now in
      let left = c.in_ok-left.left.items in
      let x = c.a-item.result in
      gathered_as c.args.part old new (take (c.loop-a.a-index + 1) args) (left ++ x ∷ []) c.push.new.self.items c.in_ok-push.ensures.items
      (gathered_more c.args.part old new args left c.loop-a.a-index x (omega arith) c.a-item.is c.requires.operands
      (gathered_then c.args.part old mid new (take c.loop-a.a-index args) c.loop-a.left.items left c.loop-a.invariant.gathered c.in_ok-left.ensures.gathered));
}

pub returns : goal.returns
returns g c = λ packet.
    let old = wires_of c.args.wires.now.items in
    let mid = wires_of c.loop-a.wires.items in
    let new = wires_of c.add_wire.new.wires.items in
    let args = c.args.args.now in
    let left = c.loop-a.left.items in
    let w = c.args.width in
    gathered_gives c.args.part old mid new args left packet w c.in_ok-out.out (gathered_all c.args.part old mid args left c.loop-a.a-index (omega arith) c.loop-a.invariant.gathered)
    (c.in_ok-out.ensures.gives false left (worth packet Any left w) (any_small packet left w) (λ ins h. any_of c.deref.result.now left w (tree_of c.in_ok-bits.bits) c.deref.ensures.value c.in_ok-bits.ensures ins packet h))
