use Rattle.std.proofs.Common.{◌≡◌, map, drop}
use Rattle.net_core.specs.Clock.{edge}
use Rattle.net_core.specs.View.{statement_of}
use Rattle.event_sim.specs.Orders.{blocks_in}
use Rattle.event_sim.specs.Views.{env_in}
use Rattle.event_sim.proofs.execute.execute_blocks.Given as goal

abbrev pub invariant-loop-block : goal.invariant-loop-block
invariant-loop-block l =
    edge (env_in l.values) (blocks_in (drop l.block-index l.order) (map statement_of l.blocks)) l.next ≡ edge (env_in l.values) (blocks_in l.order (map statement_of l.blocks)) l.fn.next
