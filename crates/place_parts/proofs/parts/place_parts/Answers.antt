use Rattle.std.proofs.Common.{All, sym, subst}
use Rattle.block_core.specs.View.{block_of}
use Rattle.overlay_net.specs.cell_nets.Operands.{IsOperand}
use Rattle.place_parts.specs.Places.{IsFirstPlace}
use Rattle.place_parts.specs.Parts.{AreStages}
use Rattle.place_parts.specs.Words.{AreWordNets}
use Rattle.place_parts.proofs.Taking.{words_are}
use Rattle.place_parts.proofs.parts.place_parts.Goals as goal

pub first_place-requires-clause-words : goal.first_place-requires-clause-words
first_place-requires-clause-words c = subst (All IsOperand) (sym c.deref-2.ensures.value) (words_are c.args.pipeline_plan.now c.deref.result.now c.in_ok-nets.nets.items c.in_ok-nets.ensures)

pub stages-requires-clause-words : goal.stages-requires-clause-words
stages-requires-clause-words c = subst (All IsOperand) (sym c.deref-3.ensures.value) (words_are c.args.pipeline_plan.now c.deref.result.now c.in_ok-nets.nets.items c.in_ok-nets.ensures)

pub returns : goal.returns
returns c =
    let d = c.args.pipeline_plan.now in
    let maps = c.args.maps.now in
    let made = c.in_ok-block.ensures in
    record {
      words = c.in_ok-words.ensures;
      nets = c.in_ok-nets.nets.items;
      are = coe 0 1 (i. AreWordNets d (c.deref.ensures.value i) c.in_ok-nets.nets.items) c.in_ok-nets.ensures;
      stages = coe 0 1 (i. AreStages d c.args.places.now maps (c.deref-3.ensures.value i) c.in_ok-blocks.blocks.items) c.in_ok-blocks.ensures.stages;
      first = λ b.
          let same = sym (c.in_ok-blocks.ensures.first b) in
          coe 0 1 (i. IsFirstPlace d maps (c.deref-2.ensures.value i) c.in_ok-block.field-0.table.items (block_of (same i))) made;
    }
