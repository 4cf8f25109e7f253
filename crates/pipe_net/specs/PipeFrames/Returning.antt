-- Which places send back.
use Rattle.std.specs.Prelude.{◌≡◌, ℕ, List}
use Rattle.block_core.specs.net_core.declared.ports.Inputs.{Inputs}
use Rattle.block_core.specs.net_core.Ports.{words_of}
use Rattle.block_core.specs.net_core.Value.{Env}
use Rattle.block_core.specs.net_core.Clock.{Stored}
use Rattle.block_core.specs.declared.name.Name.{Name}
use Rattle.block_core.specs.Blocks.{Whole}
use Rattle.block_core.specs.Parts.{Sees}
use Rattle.pipe_core.specs.Machine.{State}
use Rattle.pipe_net.specs.declared.parts.Part.{Part}
use Rattle.pipe_net.specs.Parts.{parts_of}
use Rattle.pipe_net.specs.Layout.{Layout, IsSized}
use Rattle.pipe_net.specs.Relation.{HoldFrames}
use Rattle.pipe_net.specs.Saying.{ShowReloads, ShowReturns}
use Rattle.pipe_net.specs.PipeFrames.Parts.{AreFrameParts}

-- By which packets must reload it is shown which places send back.
abbrev pub PlacesReturn : Type 0
PlacesReturn =
    (l : Layout) (d : Whole Part) → IsSized l → AreFrameParts l d → d.parts ≡ parts_of l.sizes
    → (i : Inputs) (s : State) (ss : Part → Stored) (v : Env (Name Part)) (given : ℕ) (ns : List ℕ) → HoldFrames l given ns s ss → Sees d (words_of i) ss v → ShowReloads l s v → ShowReturns l s v
