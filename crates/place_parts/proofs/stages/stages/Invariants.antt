use Rattle.std.proofs.Common.{◌≡◌, ℕ, suc, ◌<◌, length, get_or}
use Rattle.block_core.specs.declared.block.Block.{Block}
use Rattle.block_core.specs.declared.name.Name.{Name}
use Rattle.block_core.specs.View.{block_of}
use Rattle.pipe_net.specs.declared.parts.Part.{Part}
use Rattle.place_parts.specs.Places.{IsLaterStage}
use Rattle.place_parts.proofs.stages.stages.Given as goal

abbrev pub invariant-loop-before : goal.invariant-loop-before
invariant-loop-before l = record {
  count : length l.blocks.items ≡ suc l.before;
  first : (b : Block (Name Part)) → get_or l.blocks.items 0 b ≡ l.fn.first;
  later : (k : ℕ) (b : Block (Name Part)) → k < l.before → IsLaterStage l.pipeline_plan l.places l.maps l.words k (block_of (get_or l.blocks.items (suc k) b));
}
