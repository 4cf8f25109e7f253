use Rattle.hash_net.specs.SlotNet.Shown.{shown_slot}
use Rattle.block_core.proofs.list_laws_laws.OneMoreLaws.{pushed_as}
use Rattle.hash_net.specs.SlotNet.Slots.{slot_operands}
use Rattle.hash_net.proofs.slot_net.shown.shown_slots.Goals as goal

pub loop-n-preserved : goal.loop-n-preserved
loop-n-preserved g c = pushed_as slot_operands (shown_slot c.args.part c.args.decl.now) c.loop-n.all.items c.push.new.self.items c.in_ok-shown_slot.field-0 c.loop-n.n c.in_ok-push.ensures.items c.in_ok-shown_slot.ensures c.loop-n.invariant
