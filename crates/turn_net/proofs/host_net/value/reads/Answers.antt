use Rattle.std.proofs.Common.{refl, arith}
use Rattle.turn_net.proofs.HostNet.TreeLemmas.{more_read}
use Rattle.turn_net.proofs.host_net.value.reads.Goals as goal

pub loop-name-preserved : goal.loop-name-preserved
loop-name-preserved g c = more_read c.args.names.now c.loop-name.all.items c.push.new.self.items _ c.name-item.result _ c.loop-name.name-index (omega arith) c.name-item.is c.in_ok-push.ensures.items refl c.loop-name.invariant
