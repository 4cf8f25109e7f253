use Rattle.std.proofs.Common.{[], ◌∷◌, refl, arith, sym, ◌∙◌, ◌+◌, append-nil, map}
use Rattle.block_core.specs.View.{block_wire_of}
use Rattle.frame_net.specs.Gather.{kept_width}
use Rattle.frame_net.specs.GatherNets.{wire}
use Rattle.frame_net.specs.SourcesNets.{kept_tree, kept_wires}
use Rattle.frame_net.proofs.LoopLaws.{one_more, at_end, map_pushed}
use Rattle.frame_net.proofs.packet_sources.wires.Goals as goal

pub loop-what-preserved : goal.loop-what-preserved
loop-what-preserved g c =
    let p = c.args.part in
    let gather = c.args.gather in
    let slot = c.args.slot in
    record {
      number = omega (arith, c.loop-what.invariant.number);
      wires = one_more (kept_wires p gather slot) (λ at x. wire (kept_width x) (kept_tree p gather slot at x) ∷ []) (λ at x zs. refl) c.args.kept.now c.loop-what.what-index c.loop-what.memory (c.loop-what.memory + 1) _ (map block_wire_of c.loop-what.all.items) _ _
          (map_pushed block_wire_of c.loop-what.all.items _ _ _ c.in_ok-push-4.ensures.items (c.wire-in-loop-what.ensures ∙ λ i. wire (c.kept_width.ensures i) (c.in_ok-tree.ensures i))) c.loop-what-test.true (omega arith) c.loop-what.invariant.wires;
    }

pub returns : goal.returns
returns g c =
    sym (append-nil _) ∙ at_end (kept_wires c.args.part c.args.gather c.args.slot) c.args.kept.now c.loop-what.what-index c.loop-what.memory _ _ c.loop-what-test.false c.loop-what.invariant.wires
