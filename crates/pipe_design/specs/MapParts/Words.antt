-- The part with the word that the host reads.
use Rattle.std.specs.Prelude.{◌≡◌, ℕ, ◌<◌, List, length}
use Rattle.std.proofs.Common.{get_or}
use Rattle.block_core.specs.declared.name.Name.{Name}
use Rattle.block_core.specs.Blocks.{BlockTree}
use Rattle.commit_net.specs.declared.map_block.form.MapForm.{MapForm}
use Rattle.commit_net.specs.MapBlock.Stored.{host_word}
use Rattle.turn_net.specs.declared.host_net.names.Wire.TheVariants.{Ready}
use Rattle.turn_net.specs.HostNet.Names.{wire_name}
use Rattle.turn_net.specs.HostNet.Values.{word_name, IsValue}
use Rattle.pipe_net.specs.declared.parts.Part.{Part}
use Rattle.pipe_net.specs.Parts as part
use Rattle.pipe_parts.specs.declared.pipe_draft.pipeline_plan.PipelinePlan.{PipelinePlan}
use Rattle.pipe_parts.specs.PipeDraft.PipelinePlan.{decls_in}

-- the words that all maps of a pipeline plan show
pub record AreHostWords (d : PipelinePlan) (words : List (Name Part)) : Type 0 where
  pub count : length words ≡ length (decls_in d)
  pub each : (m : ℕ) (f : MapForm) → m < length (decls_in d) → word_name words m ≡ host_word (get_or d.forms.items m f) (part.own d.sizes m)

-- the block over them
pub record IsValueOver (d : PipelinePlan) (b : BlockTree (Name Part)) : Type 0 where
  pub words : List (Name Part)
  pub are : AreHostWords d words
  pub is : IsValue (part.value d.sizes) (wire_name (part.host d.sizes) Ready) words b
