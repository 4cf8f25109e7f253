use Rattle.std.proofs.Common.{◌∙◌, ap}
use Rattle.std.specs.Vec.Iter.{into_iter_items, into_iter_len}
use Rattle.unfold_core.specs.Pending.{with_ends}
use Rattle.unfold_core.proofs.Arriving.{adding_more, adding_head, adding_ended}
use Rattle.unfold_core.proofs.pending.add_ends.Goals as goal

pub add_end-requires-clause-node : goal.add_end-requires-clause-node
add_end-requires-clause-node c =
    adding_head c.args.loops.now (with_ends c.args.loops.now c.args.pending.now.items (into_iter_items c.into_iter-end-iterator.result)) c.loop-end.pending.items (into_iter_items c.loop-end.end-iterator) (into_iter_items c.next.new.self) c.in-Some.end
    (into_iter_len c.loop-end.end-iterator) c.loop-end.invariant c.in-Some.ensures.steps.0

pub loop-end-preserved : goal.loop-end-preserved
loop-end-preserved c =
    adding_more c.args.loops.now (with_ends c.args.loops.now c.args.pending.now.items (into_iter_items c.into_iter-end-iterator.result)) c.loop-end.pending.items c.add_end.new.pending.items (into_iter_items c.loop-end.end-iterator)
    (into_iter_items c.next.new.self) c.in-Some.end (into_iter_len c.loop-end.end-iterator) (into_iter_len c.next.new.self) c.loop-end.invariant c.in-Some.ensures.steps.0 c.in-Some.ensures.steps.1 c.in_ok-add_end.ensures

pub returns : goal.returns
returns c =
    adding_ended c.args.loops.now (with_ends c.args.loops.now c.args.pending.now.items (into_iter_items c.into_iter-end-iterator.result)) c.loop-end.pending.items (into_iter_items c.loop-end.end-iterator) (into_iter_len c.loop-end.end-iterator)
    c.loop-end.invariant c.in-None.ensures.steps.0
    ∙ ap (with_ends c.args.loops.now c.args.pending.now.items) c.into_iter-end-iterator.ensures.into_iter_gives.0
