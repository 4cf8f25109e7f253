use Rattle.std.proofs.Common.{◌≡◌, ℕ, ◌<◌, length, get_or}
use Rattle.block_core.specs.declared.name.Name.{Name}
use Rattle.block_core.specs.declared.block.Block.{Block}
use Rattle.block_core.specs.View.{block_of}
use Rattle.pipe_net.specs.declared.parts.Part.{Part}
use Rattle.pipe_parts.specs.declared.pipe_draft.places.StageSources.{StageSources}
use Rattle.place_parts.specs.MarkParts.Reload.{IsReloadPart}
use Rattle.pipe_design.proofs.marks.reload_parts.Given as goal

abbrev pub invariant-loop-k : goal.invariant-loop-k
invariant-loop-k l = record {
  nets : length l.nets.items ≡ l.k;
  count : length l.blocks.items ≡ l.k;
  each : (k : ℕ) (n : Name Part) (x : Block (Name Part)) → k < l.k → (b : StageSources) → IsReloadPart l.layout (get_or l.places k b).sites.items k (get_or l.nets.items k n) (block_of (get_or l.blocks.items k x));
}
