-- Designs of pipelines follow the machine through a load and after it.
use Rattle.std.specs.Prelude.{◌≡◌, ℕ, ◌≤◌, false, List, length, map as map_list}
use Rattle.std.specs.List.{AllByRecursion}
use Rattle.cell_core.specs.xdp_maps.State.{MapState, IsSound}
use Rattle.pipe_core.specs.net_core.declared.ports.Inputs.{Inputs}
use Rattle.pipe_core.specs.net_core.Ports.{words_of}
use Rattle.pipe_core.specs.net_core.Clock.{first_stored, shown}
use Rattle.pipe_core.specs.net_core.Trace.{IsInput, stored_after}
use Rattle.pipe_net.specs.block_core.Blocks.{Whole}
use Rattle.pipe_core.specs.realization.HostHistory.Host.{load}
use Rattle.pipe_core.specs.Machine.{output}
use Rattle.pipe_core.specs.History.{run, begin}
use Rattle.pipe_core.specs.Pipeable.{IsPipelinable}
use Rattle.pipe_net.specs.declared.parts.Part.{Part}
use Rattle.pipe_net.specs.Machine.{input_of, Shows}
use Rattle.pipe_net.specs.Layout.{Layout}
use Rattle.pipe_net.specs.PipePlaces.Entries.{AccessesLead}
use Rattle.pipe_net.specs.PipeForms.Parts.{design}
use Rattle.pipe_net.specs.PipeClocks.Following.{IsPipeline}
use Rattle.pipe_runs.specs.PipeAnswers.Coming.{AllMayCome}
use Rattle.pipe_runs.specs.PipeAnswers.Following.{FollowsLoaded}

-- From what the design stores before the first clock, whatever maps are loaded, and whatever may come after that while the host writes nothing.
abbrev pub PipelinesFollowLoaded : Type 0
PipelinesFollowLoaded =
    (l : Layout) (d : Whole Part) (names : List (List ℕ)) → IsPipeline l d → AccessesLead l.build → IsPipelinable l.decls l.build
    → (maps : MapState) → maps.decls ≡ l.decls → IsSound maps → length maps.decls ≤ 16
    → (is : List Inputs) → AllByRecursion (λ i. i.host_write ≡ false) is → AllMayCome l.build is (begin l.build maps)
    → FollowsLoaded l (design l d names) maps is (first_stored (design l d names))

-- And in a clock after these, whatever beat is offered there, the design shows what the machine does.
abbrev pub PipelinesShowLoaded : Type 0
PipelinesShowLoaded =
    (l : Layout) (d : Whole Part) (names : List (List ℕ)) → IsPipeline l d → AccessesLead l.build → IsPipelinable l.decls l.build
    → (maps : MapState) → maps.decls ≡ l.decls → IsSound maps → length maps.decls ≤ 16
    → (is : List Inputs) (i : Inputs) → AllByRecursion (λ i. i.host_write ≡ false) is → AllMayCome l.build is (begin l.build maps) → IsInput i → i.host_write ≡ false
    → Shows (output l.build (input_of i) (run l.build (map_list input_of is) (begin l.build maps)).state)
    (shown (design l d names) (words_of i) (stored_after (design l d names) (stored_after (design l d names) (first_stored (design l d names)) (load maps)) is))
