-- The clocks of a load, and those after it.
use Rattle.std.specs.Prelude.{◌≡◌, ◌≤◌, false, List, ◌++◌, length}
use Rattle.std.specs.List.{AllByRecursion}
use Rattle.cell_core.specs.xdp_maps.State.{MapState, IsSound, opened_state}
use Rattle.pipe_core.specs.net_core.declared.ports.Inputs.{Inputs}
use Rattle.pipe_core.specs.realization.HostHistory.Host.{load}
use Rattle.pipe_core.specs.History.{begin}
use Rattle.pipe_core.specs.Pipeable.{IsPipelinable}
use Rattle.pipe_net.specs.Layout.{Layout}
use Rattle.pipe_runs.specs.PipeAnswers.Going.{AreRightClocks}

-- Whatever the maps are and the host writes, while no beat is offered.
abbrev pub EmptyRunsAreRight : Type 0
EmptyRunsAreRight = (l : Layout) (maps : MapState) (is : List Inputs) → AllByRecursion (λ i. i.in_valid ≡ false) is → AreRightClocks l is (begin l.build maps)

-- From maps that nothing is written to yet, a load, and then a host that writes nothing.
abbrev pub LoadedRunsAreRight : Type 0
LoadedRunsAreRight =
    (l : Layout) → IsPipelinable l.decls l.build → (maps : MapState) → maps.decls ≡ l.decls → IsSound maps → length maps.decls ≤ 16 → (is : List Inputs) → AllByRecursion (λ i. i.host_write ≡ false) is
    → AreRightClocks l (load maps ++ is) (begin l.build (opened_state maps.decls))
