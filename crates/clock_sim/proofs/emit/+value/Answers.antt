use Rattle.std.proofs.Common.{refl, ap, arith}
use Rattle.net_core.specs.declared.tree.Net.{Net}
use Rattle.net_core.specs.declared.tree.Parts.{size-Parts}
use Rattle.net_core.specs.declared.tree.Expr.TheViews.{sized-More}
use Rattle.net_core.specs.View.{trees_of}
use Rattle.clock_sim.proofs.BuilderLemmas.{extends_none, extends_more, adds_more}
use Rattle.clock_sim.proofs.ValueLemmas.{const_values, bit_values, part_select_values, unary_values, memory_word_values, binary_values, more_values, conditional_values, concatenation_values, last_values, last_joins, joining_next, joining_more}
use Rattle.clock_sim.proofs.emit.+value.Goals as goal

pub parts_of-returns-in_ok-operand-in-Last-clause-values : goal.parts_of-returns-in_ok-operand-in-Last-clause-values
parts_of-returns-in_ok-operand-in-Last-clause-values t c = rw c.in-Last.is (last_values _ _ _ _ _ c.in_ok-operand-in-Last.ensures.values)

pub parts_of-returns-in_ok-operand-in-More-clause-adds : goal.parts_of-returns-in_ok-operand-in-More-clause-adds
parts_of-returns-in_ok-operand-in-More-clause-adds t c = adds_more _ _ _ _ c.in_ok-first-in-More.ensures.adds.extends c.in_ok-operand-in-More.ensures.adds

pub parts_of-returns-in_ok-operand-in-More-clause-values : goal.parts_of-returns-in_ok-operand-in-More-clause-values
parts_of-returns-in_ok-operand-in-More-clause-values t c =
    let joins = rw c.deref.ensures at c.in_ok-operand-in-More.ensures.joins in
    rw c.in-More.is (more_values _ _ _ _ _ _ _ _ c.in_ok-first-in-More.ensures.adds.extends c.in_ok-first-in-More.ensures.values joins)

pub joined-concatenated-requires-clause-typed : goal.joined-concatenated-requires-clause-typed
joined-concatenated-requires-clause-typed t c = rw c.in_ok-next.ensures.width (joining_next _ _ _ _ _ _ _ _ _ (ap trees_of c.in-More.is) c.loop-left.invariant.done)

pub joined-loop-left-init : goal.joined-loop-left-init
joined-loop-left-init t c = record {
  less = omega arith;
  done = record { typed = c.requires.typed; width = refl; extends = extends_none c.args.builder.now; there = c.requires.first; operands = c.requires.operands; joins = λ last p h. h };
}

pub joined-loop-left-preserved : goal.joined-loop-left-preserved
joined-loop-left-preserved t c =
    let next = c.in_ok-next.ensures in
    let made = c.in_ok-front.ensures in
    let whole = ap (size-Parts Net) c.in-More.is in
    let part = ap (size-Parts Net) c.deref-left.ensures in
    record {
      less = omega (arith, sized-More Net c.in-More.a c.in-More.more, whole, part, c.loop-left.invariant.less);
      done = rw c.deref-left.ensures
          (joining_more _ _ _ _ _ _ _ _ _ _ _ _ _ (ap trees_of c.in-More.is) next.adds next.width next.values made.adds made.width made.makes c.loop-left.invariant.done);
    }

pub joined-returns-clause-adds : goal.joined-returns-clause-adds
joined-returns-clause-adds t c = adds_more _ _ _ _ (extends_more _ _ _ c.loop-left.invariant.done.extends c.in_ok-last-in-Last.ensures.adds.extends) c.in_ok-operand-in-Last.ensures.adds

pub joined-returns-clause-joins : goal.joined-returns-clause-joins
joined-returns-clause-joins t c =
    c.loop-left.invariant.done.joins _ _ (rw c.in-Last.is (last_joins _ _ _ _ _ _ _ _ c.in_ok-last-in-Last.ensures.adds.extends c.in_ok-last-in-Last.ensures.values c.in_ok-operand-in-Last.ensures.makes))

pub value_of-returns-in_ok-slot-in-Const-clause-values : goal.value_of-returns-in_ok-slot-in-Const-clause-values
value_of-returns-in_ok-slot-in-Const-clause-values t c =
    let typed = rw c.in-Const.is at c.requires.typed in
    rw c.in-Const.is (const_values c.args.builder.now _ _ c.in-Const.word _ c.in_ok-slot-in-Const.ensures.holds refl typed)

pub value_of-returns-in-Read-clause-adds : goal.value_of-returns-in-Read-clause-adds
value_of-returns-in-Read-clause-adds t c =
    let typed = rw c.in-Read.is at c.requires.typed in
    record { extends = extends_none c.args.builder.now; there = rw c.operand_of.ensures (c.requires.operands.there c.in-Read.net typed) }

pub value_of-returns-in_ok-operand-in-Bit-clause-values : goal.value_of-returns-in_ok-operand-in-Bit-clause-values
value_of-returns-in_ok-operand-in-Bit-clause-values t c =
    let typed = rw c.in-Bit.is at c.requires.typed in
    rw c.in-Bit.is (bit_values _ _ c.args.operands.now c.in-Bit.net _ _ c.operand_of-from.ensures c.in-Bit.at typed c.in_ok-operand-in-Bit.ensures.makes)

pub value_of-returns-in_ok-operand-in-PartSelect-clause-values : goal.value_of-returns-in_ok-operand-in-PartSelect-clause-values
value_of-returns-in_ok-operand-in-PartSelect-clause-values t c =
    let typed = rw c.in-PartSelect.is at c.requires.typed in
    rw c.in-PartSelect.is (part_select_values _ _ c.args.operands.now c.in-PartSelect.net _ _ c.operand_of-from-in-PartSelect.ensures c.in-PartSelect.high c.in-PartSelect.low typed c.in_ok-operand-in-PartSelect.ensures.makes)

pub value_of-returns-in_ok-operand-in-MemoryWord-clause-adds : goal.value_of-returns-in_ok-operand-in-MemoryWord-clause-adds
value_of-returns-in_ok-operand-in-MemoryWord-clause-adds t c = adds_more _ _ _ _ c.in_ok-at-in-MemoryWord.ensures.adds.extends c.in_ok-operand-in-MemoryWord.ensures.adds

pub value_of-returns-in_ok-operand-in-MemoryWord-clause-values : goal.value_of-returns-in_ok-operand-in-MemoryWord-clause-values
value_of-returns-in_ok-operand-in-MemoryWord-clause-values t c =
    let at = rw c.deref.ensures at c.in_ok-at-in-MemoryWord.ensures.values in
    rw c.in-MemoryWord.is (memory_word_values _ _ _ _ _ _ _ at c.in-MemoryWord.memory c.in_ok-operand-in-MemoryWord.ensures.makes)

pub value_of-returns-in_ok-operand-in-Unary-clause-adds : goal.value_of-returns-in_ok-operand-in-Unary-clause-adds
value_of-returns-in_ok-operand-in-Unary-clause-adds t c = adds_more _ _ _ _ c.in_ok-argument-in-Unary.ensures.adds.extends c.in_ok-operand-in-Unary.ensures.adds

pub value_of-returns-in_ok-operand-in-Unary-clause-values : goal.value_of-returns-in_ok-operand-in-Unary-clause-values
value_of-returns-in_ok-operand-in-Unary-clause-values t c =
    let argument = rw c.deref-in-Unary.ensures at c.in_ok-argument-in-Unary.ensures.values in
    rw c.in-Unary.is (unary_values _ _ _ _ _ _ _ argument c.in-Unary.unary_op c.in_ok-operand-in-Unary.ensures.makes)

pub value_of-returns-in_ok-operand-in-Binary-clause-adds : goal.value_of-returns-in_ok-operand-in-Binary-clause-adds
value_of-returns-in_ok-operand-in-Binary-clause-adds t c =
    adds_more _ _ _ _ (extends_more _ _ _ c.in_ok-left-in-Binary.ensures.adds.extends c.in_ok-right-in-Binary.ensures.adds.extends) c.in_ok-operand-in-Binary.ensures.adds

pub value_of-returns-in_ok-operand-in-Binary-clause-values : goal.value_of-returns-in_ok-operand-in-Binary-clause-values
value_of-returns-in_ok-operand-in-Binary-clause-values t c =
    let left = rw c.deref-in-Binary.ensures at c.in_ok-left-in-Binary.ensures.values in
    let right = rw c.deref-in-Binary-2.ensures at c.in_ok-right-in-Binary.ensures.values in
    rw c.in-Binary.is (binary_values _ _ _ _ _ _ _ _ _ c.in_ok-left-in-Binary.ensures.adds.extends c.in_ok-right-in-Binary.ensures.adds.extends left c.in-Binary.op _ right c.in_ok-operand-in-Binary.ensures.makes)

pub value_of-returns-in_ok-operand-in-Conditional-clause-adds : goal.value_of-returns-in_ok-operand-in-Conditional-clause-adds
value_of-returns-in_ok-operand-in-Conditional-clause-adds t c =
    adds_more _ _ _ _ (extends_more _ _ _ (extends_more _ _ _ c.in_ok-test-in-Conditional.ensures.adds.extends c.in_ok-first-in-Conditional.ensures.adds.extends) c.in_ok-second-in-Conditional.ensures.adds.extends) c.in_ok-operand-in-Conditional.ensures.adds

pub value_of-returns-in_ok-operand-in-Conditional-clause-values : goal.value_of-returns-in_ok-operand-in-Conditional-clause-values
value_of-returns-in_ok-operand-in-Conditional-clause-values t c =
    let test = rw c.deref-in-Conditional.ensures at c.in_ok-test-in-Conditional.ensures.values in
    let first = rw c.deref-in-Conditional-2.ensures at c.in_ok-first-in-Conditional.ensures.values in
    let second = rw c.deref-in-Conditional-3.ensures at c.in_ok-second-in-Conditional.ensures.values in
    rw c.in-Conditional.is (conditional_values _ _ _ _ _ _ _ _ _ _ _ _ _ c.in_ok-test-in-Conditional.ensures.adds.extends c.in_ok-first-in-Conditional.ensures.adds.extends c.in_ok-second-in-Conditional.ensures.adds.extends test first second c.in_ok-operand-in-Conditional.ensures.makes)

pub value_of-returns-in_ok-operand-in-Concatenation-clause-values : goal.value_of-returns-in_ok-operand-in-Concatenation-clause-values
value_of-returns-in_ok-operand-in-Concatenation-clause-values t c =
    let parts = rw c.deref-in-Concatenation.ensures at c.in_ok-operand-in-Concatenation.ensures.values in
    rw c.in-Concatenation.is (concatenation_values _ _ _ _ _ parts)
