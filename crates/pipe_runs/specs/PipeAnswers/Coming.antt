-- What may come while maps are loaded.
use Rattle.std.specs.Prelude.{◌≡◌, ◌≤◌, false, List, [], ◌∷◌, ◌++◌, length}
use Rattle.cell_core.specs.xdp_maps.State.{MapState, IsSound, opened_state}
use Rattle.pipe_core.specs.net_core.declared.ports.Inputs.{Inputs}
use Rattle.pipe_core.specs.net_core.Trace.{IsInput}
use Rattle.pipe_core.specs.realization.HostHistory.Host.{load}
use Rattle.pipe_core.specs.Machine.{State, Build}
use Rattle.pipe_core.specs.History.{Trace, next, begin}
use Rattle.pipe_core.specs.HostRuns.Inputs.{input_of}
use Rattle.pipe_net.specs.Machine.{MayCome}

-- only what may come does, in clocks one after another
abbrev pub AllMayCome : Build → List Inputs → Trace → Type 0
AllMayCome b [] t = Unit {0}
AllMayCome b (i ∷ is) t = MayCome b t.state i × AllMayCome b is (next b (input_of i) t)

-- Where no beat is offered numbers that fit their ports may come.
abbrev pub HostMayCome : Type 0
HostMayCome = (b : Build) (s : State) (i : Inputs) → i.in_valid ≡ false → IsInput i → MayCome b s i

-- So a load may come, and after it what may come from the loaded maps on.
abbrev pub LoadsMayCome : Type 0
LoadsMayCome =
    (b : Build) (maps : MapState) → IsSound maps → length maps.decls ≤ 16 → (is : List Inputs) → AllMayCome b is (begin b maps) → AllMayCome b (load maps ++ is) (begin b (opened_state maps.decls))

-- The maps before a load hold what their declarations allow.
abbrev pub OpenedAreSound : Type 0
OpenedAreSound = (maps : MapState) → IsSound maps → IsSound (opened_state maps.decls)
