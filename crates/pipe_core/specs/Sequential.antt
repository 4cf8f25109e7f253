-- One packet after another: the cell runs of packets, each on the maps that the one before left.
use Rattle.std.specs.Prelude.{◌≡◌, List, [], ◌∷◌}
use Rattle.hazard_core.specs.xdp_maps.State.{MapState}
use Rattle.hazard_core.specs.cell_core.Sites.{ProgramView, IsCellRun, after}
use Rattle.hazard_core.specs.StageValues.{StageValues, stage_value}
use Rattle.realization.specs.beat_core.Ports.{Arrival}
use Rattle.pipe_core.specs.Machine.{packet_of}

-- what packets held as they left is the cell run of each on its frame
abbrev pub AreCellRuns : ProgramView → MapState → List StageValues → List Arrival → MapState → Type 0
AreCellRuns p maps [] cs last = last ≡ maps
AreCellRuns p maps (h ∷ hs) [] last = ⊥
AreCellRuns p maps (h ∷ hs) (c ∷ cs) last =
    IsCellRun (packet_of c) maps p (stage_value h) × AreCellRuns p (after (stage_value h) maps p.sites) hs cs last
