use Rattle.std.proofs.Common.{◌+◌}
use Rattle.block_core.specs.View.{block_wire_of}
use Rattle.block_core.proofs.list_laws_laws.OneMoreLaws.{pushed_as}
use Rattle.commit_net.specs.Fetching.{fetched_wire}
use Rattle.commit_net.proofs.fetch.wires.Goals as goal

pub loop-i-preserved : goal.loop-i-preserved
loop-i-preserved g c =
    pushed_as block_wire_of (λ i. fetched_wire c.args.of c.args.first c.args.bytes c.args.slot (c.args.from + i)) c.loop-i.all.items c.push.new.self.items c.in_ok-fetched_wire.field-0 c.loop-i.i c.in_ok-push.ensures.items c.in_ok-fetched_wire.ensures c.loop-i.invariant
