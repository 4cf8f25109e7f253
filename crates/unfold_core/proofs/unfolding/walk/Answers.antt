use Rattle.std.proofs.Common.{length, ◌∷◌, [], arith, ap}
use Rattle.std.proofs.lemmas.List.{length-append}
use Rattle.unfold_core.proofs.WalkingLaws.{walk_begins, walk_done, walk_ordered, ends_are_nodes, walk_on, walk_failed, walk_too_long}
use Rattle.unfold_core.proofs.unfolding.walk.Goals as goal

pub loop-number-init : goal.loop-number-init
loop-number-init c = record {
  walk = walk_begins c.args.offsets c.args.program.now c.args.loops.now c.new-nodes.result.items c.in-Ok.pending.items c.requires.loops.nested c.new-nodes.ensures.items c.in-Ok.ensures;
  counted = ap length c.new-nodes.ensures.items;
}

pub returns-in-None : goal.returns-in-None
returns-in-None c =
    walk_done c.args.offsets c.args.program.now c.args.loops.now c.loop-number.nodes.items c.loop-number.pending.items c.loop-number.invariant.walk (omega (arith, c.in-None.ensures.cases.0, c.loop-number.pending.ok.0))
    (omega (arith, c.loop-number.invariant.counted, c.loop-number-test.true))

pub returns-in-Err : goal.returns-in-Err
returns-in-Err c =
    walk_failed c.args.offsets c.args.program.now c.args.loops.now c.loop-number.nodes.items c.loop-number.pending.items c.pop_front.new.self.items c.in-Some.at c.loop-number.number c.in-Err.e c.loop-number.invariant.walk c.in-Some.ensures.items
    c.loop-number.invariant.counted c.loop-number-test.true c.in-Err.ensures

pub add_ends-requires-clause-pending : goal.add_ends-requires-clause-pending
add_ends-requires-clause-pending c =
    walk_ordered c.args.offsets c.args.program.now c.args.loops.now c.loop-number.nodes.items c.loop-number.pending.items c.pop_front.new.self.items c.in-Some.at c.loop-number.invariant.walk c.in-Some.ensures.items

pub add_ends-requires-clause-nodes : goal.add_ends-requires-clause-nodes
add_ends-requires-clause-nodes c =
    ends_are_nodes c.args.offsets c.args.program.now c.args.loops.now c.loop-number.nodes.items c.loop-number.pending.items c.pop_front.new.self.items c.in-Ok-leave.ends.items c.in-Some.at c.loop-number.number c.requires.loops
    c.loop-number.invariant.walk c.in-Some.ensures.items c.in-Ok-leave.ensures

pub loop-number-preserved : goal.loop-number-preserved
loop-number-preserved c = record {
  walk =
      walk_on c.args.offsets c.args.program.now c.args.loops.now c.loop-number.nodes.items c.push.new.self.items c.loop-number.pending.items c.pop_front.new.self.items c.add_ends.new.pending.items c.in-Ok-leave.ends.items c.in-Some.at c.loop-number.number
      c.requires.loops c.loop-number.invariant.walk c.in-Some.ensures.items c.loop-number.invariant.counted c.in-Ok-leave.ensures c.in-Ok-push.ensures.items c.in-Ok-add_ends.ensures;
  counted = omega (arith, ap length c.in-Ok-push.ensures.items, length-append c.loop-number.nodes.items (c.in-Some.at ∷ []), c.loop-number.invariant.counted);
}

pub returns-in-Some-pop_front : goal.returns-in-Some-pop_front
returns-in-Some-pop_front c =
    walk_too_long c.args.offsets c.args.program.now c.args.loops.now c.loop-number.nodes.items c.loop-number.pending.items c.pop_front-2.new.self.items c.in-Some-pop_front.at c.place.result c.refused.result c.loop-number.invariant.walk
    c.in-Some-pop_front.ensures.items (omega (arith, c.loop-number.invariant.counted, c.loop-number-test.false, c.loop-number.auto)) c.place.ensures c.refused.ensures

pub returns-in-None-pop_front : goal.returns-in-None-pop_front
returns-in-None-pop_front c =
    walk_done c.args.offsets c.args.program.now c.args.loops.now c.loop-number.nodes.items c.loop-number.pending.items c.loop-number.invariant.walk (omega (arith, c.in-None-pop_front.ensures.cases.0, c.loop-number.pending.ok.0))
    (omega (arith, c.loop-number.invariant.counted, c.loop-number.auto))
