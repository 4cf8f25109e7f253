-- The design of a pipeline with maps meets what is wanted of one.
use Rattle.std.specs.Prelude.{◌≡◌, ℕ, ◌+◌, ◌≤◌, List, length}
use Rattle.cell_core.specs.xdp_maps.State.{MapState, IsSound}
use Rattle.pipe_core.specs.net_core.Nets.{Netlist}
use Rattle.pipe_core.specs.net_core.Clock.{Stored, first_stored}
use Rattle.pipe_core.specs.net_core.Trace.{NeverStops, stored_after}
use Rattle.pipe_net.specs.block_core.Blocks.{Whole}
use Rattle.pipe_core.specs.realization.HostHistory.Host.{load}
use Rattle.pipe_core.specs.realization.Realizes.{Meets}
use Rattle.cell_core.specs.Rows.{record_count}
use Rattle.pipe_core.specs.Pipeable.{IsPipelinable}
use Rattle.pipe_net.specs.declared.parts.Part.{Part}
use Rattle.pipe_net.specs.Layout.{Layout, last_of}
use Rattle.pipe_net.specs.PipePlaces.Entries.{AccessesLead}
use Rattle.pipe_net.specs.PipeForms.Parts.{design}
use Rattle.pipe_net.specs.PipeClocks.Following.{IsPipeline}
use Rattle.pipe_runs.specs.PipePorts.Answered.{AreAnswered}
use Rattle.pipe_runs.specs.PipePorts.Followed.{IsFollowed}
use Rattle.pipe_runs.specs.Apart.{Touch, DoNotConflict}

-- it answers packets by their cell runs on these maps, one after another, in the clocks of so many stages and record sites
abbrev pub MeetsRuns : Layout → MapState → Netlist → Stored → Type 0
MeetsRuns l maps n st = Meets n st (AreAnswered l.build.program maps) (Touch l.build maps) (DoNotConflict l.build maps) (last_of l) (record_count l.build.program.sites)

-- So does every design that follows the machine over the maps, whatever it stores.
abbrev pub FollowersMeet : Type 0
FollowersMeet =
    (l : Layout) (maps : MapState) (n : Netlist) (st : Stored) → IsFollowed l.build maps n st → maps.decls ≡ l.decls → length maps.decls ≤ 16 → l.build.slots ≡ last_of l + 4
    → MeetsRuns l maps n st

-- A pipeline that is linked of the parts of a layout, and what the load of maps leaves stored in it; no divisor is 0 while they are loaded.
pub record MeetsLoaded (l : Layout) (maps : MapState) (n : Netlist) : Type 0 where
  pub loads : NeverStops n (first_stored n) (load maps)
  pub meets : MeetsRuns l maps n (stored_after n (first_stored n) (load maps))

-- Whatever blocks of these contracts are linked, and whatever maps are loaded.
abbrev pub PipelinesMeet : Type 0
PipelinesMeet =
    (l : Layout) (d : Whole Part) (names : List (List ℕ)) → IsPipeline l d → AccessesLead l.build → IsPipelinable l.decls l.build → l.build.slots ≡ last_of l + 4
    → (maps : MapState) → maps.decls ≡ l.decls → IsSound maps → length maps.decls ≤ 16 → MeetsLoaded l maps (design l d names)
