-- The host loads maps.
use Rattle.std.specs.Prelude.{◌≡◌, map as map_list}
use Rattle.hazard_core.specs.xdp_maps.State.{MapState, IsSound, opened_state}
use Rattle.realization.specs.HostHistory.Host.{load}
use Rattle.pipe_core.specs.Machine.{Build, new_state}
use Rattle.pipe_core.specs.History.{run, begin}
use Rattle.pipe_core.specs.HostRuns.Inputs.{input_of}
use Rattle.pipe_core.specs.HostRuns.Runs.{after}

-- From the maps as they are before anything is written the load leaves the maps that it loads, and the machine as before the first clock.
abbrev pub LoadsMaps : Type 0
LoadsMaps = (b : Build) (maps : MapState) → IsSound maps → after b (load maps) (new_state b (opened_state maps.decls)) ≡ new_state b maps

-- So no frame comes meanwhile, no packet leaves, and no answer is given.
abbrev pub LoadsTraces : Type 0
LoadsTraces = (b : Build) (maps : MapState) → IsSound maps → run b (map_list input_of (load maps)) (begin b (opened_state maps.decls)) ≡ begin b maps
