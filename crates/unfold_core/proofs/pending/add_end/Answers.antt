use Rattle.std.proofs.Common.{◌<◌, length, arith, sym, ap, ◌∙◌}
use Rattle.unfold_core.specs.Nodes.{comes_before}
use Rattle.unfold_core.proofs.Numbering.{number_in, joined_there, inserted_there}
use Rattle.unfold_core.proofs.pending.add_end.Goals as goal
use Rattle.unfold_core.proofs.pending.add_end.Goals.{else-at-len-via-then-at-len+else-not-comes_before, else-at-len-via-else-at-len}

pub returns-then-not-comes_before : goal.returns-then-not-comes_before
returns-then-not-comes_before c =
    let below : c.place_of-at.result < length c.args.pending.now.items = omega (arith, c.len.ensures, c.if-at-len.true, c.args.pending.now.ok.0) in
    joined_there c.args.loops.now c.args.pending.now.items c.args.end c.index_mut.result.now c.index.result.now c.place_of-at.result c.join_into.new.a c.place_of-at.ensures below c.index.ensures c.index_mut.ensures.value
    (sym c.comes_before.ensures ∙ c.if-not-comes_before.true) c.join_into.ensures

pub insert-requires : goal.insert-requires
insert-requires c = omega (arith, c.place_of-at.ensures, number_in c.args.loops.now c.args.end.node c.args.pending.now.items, c.args.pending.now.ok.0)

pub returns : goal.returns
returns c = elim c.else-at-len.branch [
  | else-at-len-via-then-at-len+else-not-comes_before w ↦
      c.in_ok-insert.ensures.items
      ∙ inserted_there c.args.loops.now c.args.pending.now.items c.args.end w.index.result.now c.place_of-at.result c.place_of-at.ensures
      (λ lt. ap (λ z. comes_before c.args.loops.now c.args.end.node z.node) (sym w.index.ensures) ∙ sym w.comes_before.ensures ∙ w.if-not-comes_before.false)
  | else-at-len-via-else-at-len w ↦
      c.in_ok-insert.ensures.items
      ∙ inserted_there c.args.loops.now c.args.pending.now.items c.args.end c.args.end c.place_of-at.result c.place_of-at.ensures (λ lt. absurd (omega (arith, c.len.ensures, w.if-at-len.false, c.args.pending.now.ok.0)))
]
