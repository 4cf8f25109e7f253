use Rattle.std.proofs.Common.{refl}
use Rattle.clock_sim.proofs.LayoutLemmas.{adds_memory}
use Rattle.clock_sim.proofs.layout.add_item.Goals as goal

pub returns-in_ok-push-in-Memory-2 : goal.returns-in_ok-push-in-Memory-2
returns-in_ok-push-in-Memory-2 c = rw c.in-Memory.is (adds_memory c.in-Memory.index c.in-Memory.first _ c.args.layout.now _ _ refl refl c.in_ok-push-in-Memory.ensures.items c.in_ok-memory-in-Memory.ensures c.in_ok-push-in-Memory-2.ensures.items)
