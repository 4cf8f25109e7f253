use Rattle.block_core.specs.View.{block_wire_of}
use Rattle.block_core.proofs.list_laws_laws.OneMoreLaws.{pushed_as}
use Rattle.hash_net.specs.SlotNet.Shown.{shown_wire}
use Rattle.hash_net.proofs.slot_net.shown.wires.Goals as goal

pub loop-i-preserved : goal.loop-i-preserved
loop-i-preserved g c = pushed_as block_wire_of (shown_wire c.args.of c.args.decl.now c.args.bits) c.loop-i.all.items c.push.new.self.items c.in_ok-shown_wire.field-0 c.loop-i.i c.in_ok-push.ensures.items c.in_ok-shown_wire.ensures c.loop-i.invariant
