use Rattle.std.proofs.Common.{refl, arith, ap, ◌∙◌, ◌+◌, map}
use Rattle.block_core.specs.View.{block_wire_of}
use Rattle.frame_net.specs.GatherNets.{wire, masked}
use Rattle.frame_net.specs.ScatterNet.ScatterNets.{one_word, word_wires}
use Rattle.frame_net.proofs.LoopLaws.{one_more, at_end, map_pushed}
use Rattle.frame_net.proofs.scatter_net.scattering.wires.Goals as goal

pub loop-word-preserved : goal.loop-word-preserved
loop-word-preserved g c =
    let a = c.args in
    record {
      number = omega (arith, c.loop-word.invariant.number);
      wires = one_more (word_wires a.part a.exit a.slot a.bytes.now) (one_word a.part a.exit a.slot a.bytes.now) (λ at x zs. refl) a.words.now c.loop-word.word-index c.loop-word.i (c.loop-word.i + 1) _ (map block_wire_of c.loop-word.all.items) _ _
          c.in_ok-add_word.ensures c.loop-word-test.true (omega arith) c.loop-word.invariant.wires;
    }

pub returns : goal.returns
returns g c =
    let a = c.args in
    map_pushed block_wire_of _ _ _ _ c.in_ok-push.ensures.items (c.wire.ensures ∙ ap (wire 64) (c.in_ok-content.ensures ∙ λ i. masked (c.net.ensures i) (c.net-2.ensures i)))
    ∙ at_end (word_wires a.part a.exit a.slot a.bytes.now) a.words.now c.loop-word.word-index c.loop-word.i _ _ c.loop-word-test.false c.loop-word.invariant.wires
