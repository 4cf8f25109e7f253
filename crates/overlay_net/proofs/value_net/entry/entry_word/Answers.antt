use Rattle.std.proofs.Common.{◌∷◌, get_or, sym, subst, arith}
use Rattle.cell_nets.specs.Wires.{wires_of, Gives}
use Rattle.hazard_core.specs.Commits.{word_at}
use Rattle.overlay_net.specs.ValueNet.Pendings.{all_taken, IsFitting, IsOf, ShowPendings, ShowsEntry}
use Rattle.overlay_net.proofs.ValueNet.EntryLaws.{so_far, far_bytes, far_starts, far_more, far_all}
use Rattle.overlay_net.proofs.value_net.entry.entry_word.Goals as goal

pub loop-pending-init : goal.loop-pending-init
loop-pending-init g c = record {
  operand = c.in_ok-word.ensures.operand;
  bits = c.in_ok-word.ensures.bits;
  gives = λ p t h before m at of declared has. far_starts c.args.part p t h m c.args.w at c.args.under c.args.first before c.args.pendings.now _ _ c.in_ok-word.word (c.in_ok-word.ensures.gives t m c.args.w at);
}

pub word_over-requires-clause-fitting : goal.word_over-requires-clause-fitting
word_over-requires-clause-fitting g c = subst (IsFitting c.args.decl.now) (sym c.pending-item.is) (c.requires.fitting c.loop-pending.pending-index c.pending-item.result (omega arith))

pub loop-pending-preserved : goal.loop-pending-preserved
loop-pending-preserved g c = record {
  operand = c.in_ok-word-2.ensures.operand;
  bits = c.in_ok-word-2.ensures.bits;
  gives = λ p t h before m at of declared has.
      let l = c.loop-pending in
      let k = l.pending-index in
      let n = c.pending-item.result in
      let w = c.args.w in
      let under = c.args.under in
      let first = c.args.first in
      let ns = c.args.pendings.now in
      let count = of.count in
      far_more c.args.part p t h m w at under first before ns _ _ _ k n l.word c.in_ok-word-2.word (omega arith) count c.pending-item.is (l.invariant.gives p t h before m at of declared has)
      (c.in_ok-word-2.ensures.gives p t h m (get_or before k 0) at (so_far c.args.part p t h m w at under first before ns k) (subst (IsOf p m (get_or before k 0)) (sym c.pending-item.is) (of.each k n (omega arith))) declared
      (far_bytes c.args.part p t h m w at under first before ns c.args.decl.now k (omega arith) of c.requires.fitting declared has));
}

pub returns-clause-gives : goal.returns-clause-gives
returns-clause-gives g c = λ p t h before m at of declared has.
    let l = c.loop-pending in
    let ns = c.args.pendings.now in
    let count = of.count in
    subst (λ value. Gives c.args.part (wires_of c.args.wires.now.items) (wires_of l.wires.items) (c.args.under ∷ c.args.first ∷ all_taken ns) (λ v. ShowsEntry v t m c.args.w at c.args.under c.args.first × ShowPendings v p t h before ns) (λ v. word_at value c.args.w) 64 l.word)
    (far_all c.args.part p t h m c.args.w at c.args.under c.args.first before ns l.pending-index (omega arith)) (l.invariant.gives p t h before m at of declared has)
