-- The design that is linked of the parts of a pipeline.
use Rattle.std.specs.Prelude.{◌≡◌, ℕ, List, [], ◌∷◌, length}
use Rattle.net_core.specs.declared.ports.TheConstants.{IN_READY, OUT_VALID, OUT_DATA, OUT_BYTES, OUT_LAST, OUT_VERDICT, OUT_TARGET, OUT_RELOAD, HOST_VALUE, HOST_READY, HOST_PASSED}
use Rattle.block_core.specs.declared.name.Name.{Name}
use Rattle.block_core.specs.declared.name.Name.TheVariants as name
use Rattle.block_core.specs.declared.block.Placed.{Placed}
use Rattle.block_core.specs.Blocks.{OutputTree, Whole}
use Rattle.block_core.specs.View.{Makes}
use Rattle.control_net.specs.declared.ring_net.names.Register.TheVariants.{Passed}
use Rattle.control_net.specs.RingNet.Names.{register_name}
use Rattle.control_net.specs.declared.names.Wire.TheVariants as wire
use Rattle.turn_net.specs.declared.host_net.names.Wire.TheVariants as host
use Rattle.turn_net.specs.HostNet.Names.{wire_name, value_name}
use Rattle.frame_net.specs.ScatterNet.Scatter.{last_name, bytes_name, verdict_name, target_name, data_name}
use Rattle.pipe_net.specs.declared.parts.Part.{Part}
use Rattle.pipe_net.specs.declared.parts.Sizes.{Sizes}
use Rattle.pipe_net.specs.Parts as part
use Rattle.pipe_net.specs.Parts.{part_place}
use Rattle.pipe_net.specs.Layout.{Layout}
use Rattle.pipe_net.specs.PipeFrames.Parts.{told_by}
use Rattle.pipe_net.specs.PipeForms.Parts.{shown_at, AreParts}

-- the parts in memory are those of a pipeline of these sizes, in which so many words of a frame may change
pub record IsLinked (z : Sizes) (words : ℕ) (ms : List (Placed Part)) (l : Layout) (d : Whole Part) : Type 0 where
  pub sizes : l.sizes ≡ z
  pub words_are : length l.words ≡ words
  pub parts : AreParts l d
  pub makes : Makes part_place ms d

-- what the outputs of such a one show, where this wire says whether the first place sends back
abbrev pub shown_outputs : Sizes → ℕ → ℕ → List (OutputTree (Name Part))
shown_outputs z words back =
    shown_at IN_READY (told_by z wire.Ready)
    ∷ shown_at OUT_VALID (told_by z wire.Shown)
    ∷ shown_at OUT_DATA (data_name part.scatter words)
    ∷ shown_at OUT_BYTES (bytes_name part.scatter)
    ∷ shown_at OUT_LAST (last_name part.scatter)
    ∷ shown_at OUT_VERDICT (verdict_name part.scatter)
    ∷ shown_at OUT_TARGET (target_name part.scatter)
    ∷ shown_at OUT_RELOAD (name.Wire (part.returns z) back)
    ∷ shown_at HOST_VALUE (value_name (part.value z))
    ∷ shown_at HOST_READY (wire_name (part.host z) host.Ready)
    ∷ shown_at HOST_PASSED (register_name (part.control z) Passed)
    ∷ []
