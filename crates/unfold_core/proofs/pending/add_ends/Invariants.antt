use Rattle.std.specs.Vec.Iter.{into_iter_items, into_iter_len}
use Rattle.unfold_core.specs.Pending.{with_ends}
use Rattle.unfold_core.proofs.Arriving.{IsAdding}
use Rattle.unfold_core.proofs.pending.add_ends.Given as goal

abbrev pub invariant-loop-end : goal.invariant-loop-end
invariant-loop-end l = IsAdding l.loops (with_ends l.loops l.initial.pending.items (into_iter_items l.initial.end-iterator)) l.pending.items (into_iter_items l.end-iterator) (into_iter_len l.end-iterator)
