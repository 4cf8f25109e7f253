-- A design that follows the machine where clocks are right does so in every clock.
use Rattle.std.specs.Prelude.{◌≡◌, ◌≤◌, false, None, List, [], ◌∷◌, ◌++◌, length, map as map_list}
use Rattle.std.specs.List.{AllByRecursion}
use Rattle.cell_core.specs.xdp_maps.State.{MapState, IsSound, opened_state}
use Rattle.pipe_core.specs.net_core.declared.ports.Inputs.{Inputs}
use Rattle.pipe_core.specs.net_core.Nets.{Netlist}
use Rattle.pipe_core.specs.net_core.Ports.{words_of}
use Rattle.pipe_core.specs.net_core.Clock.{Stored, after, shown, stopping}
use Rattle.pipe_core.specs.net_core.Trace.{IsInput, NeverStops, stored_after}
use Rattle.pipe_core.specs.realization.HostHistory.Host.{load}
use Rattle.pipe_core.specs.Machine.{Build, output}
use Rattle.pipe_core.specs.History.{Trace, next, run, begin}
use Rattle.pipe_core.specs.Pipeable.{IsPipelinable}
use Rattle.pipe_core.specs.HostRuns.Inputs.{input_of}
use Rattle.pipe_net.specs.Machine.{MayCome, Shows}
use Rattle.pipe_net.specs.Layout.{Layout}
use Rattle.pipe_runs.specs.PipeAnswers.Going.{IsRightClock}
use Rattle.pipe_runs.specs.PipeAnswers.Coming.{AllMayCome}

-- The design shows clock after clock what the machine does, while only what may come does and what commits is right; where something else comes, too, but then nothing is said of what
-- follows,
abbrev pub FollowsRight : Layout → Netlist → List Inputs → Trace → Stored → Type 0
FollowsRight l d [] t st = Unit {0}
FollowsRight l d (i ∷ is) t st =
    (IsInput i → IsRightClock l i t.state → Shows (output l.build (input_of i) t.state) (shown d (words_of i) st))
    × (MayCome l.build t.state i → IsRightClock l i t.state → (stopping d (words_of i) st ≡ None) × FollowsRight l d is (next l.build (input_of i) t) (after d (words_of i) st))

-- or in each of these clocks.
abbrev pub FollowsAlways : Build → Netlist → List Inputs → Trace → Stored → Type 0
FollowsAlways b d [] t st = Unit {0}
FollowsAlways b d (i ∷ is) t st =
    (stopping d (words_of i) st ≡ None)
    × Shows (output b (input_of i) t.state) (shown d (words_of i) st)
    × FollowsAlways b d is (next b (input_of i) t) (after d (words_of i) st)

-- Through a load, and after it from the machine over the maps that are loaded on; no divisor is 0 in any of these clocks.
pub record FollowsLoaded (l : Layout) (d : Netlist) (maps : MapState) (is : List Inputs) (st : Stored) : Type 0 where
  pub loads : FollowsAlways l.build d (load maps) (begin l.build (opened_state maps.decls)) st
  pub runs : FollowsAlways l.build d is (begin l.build maps) (stored_after d st (load maps))
  pub never : NeverStops d st (load maps ++ is)

-- the law
abbrev pub DesignsFollow : Type 0
DesignsFollow =
    (l : Layout) → IsPipelinable l.decls l.build → (maps : MapState) → maps.decls ≡ l.decls → IsSound maps → length maps.decls ≤ 16
    → (is : List Inputs) → AllByRecursion (λ i. i.host_write ≡ false) is → AllMayCome l.build is (begin l.build maps)
    → (d : Netlist) (st : Stored) → FollowsRight l d (load maps ++ is) (begin l.build (opened_state maps.decls)) st → FollowsLoaded l d maps is st

-- And in a clock after these it shows what the machine does, whatever beat is offered there.
abbrev pub DesignsShow : Type 0
DesignsShow =
    (l : Layout) → IsPipelinable l.decls l.build → (maps : MapState) → maps.decls ≡ l.decls → IsSound maps → length maps.decls ≤ 16
    → (is : List Inputs) (i : Inputs) → AllByRecursion (λ i. i.host_write ≡ false) is → AllMayCome l.build is (begin l.build maps) → IsInput i → i.host_write ≡ false
    → (d : Netlist) (st : Stored) → FollowsRight l d (load maps ++ (is ++ i ∷ [])) (begin l.build (opened_state maps.decls)) st
    → Shows (output l.build (input_of i) (run l.build (map_list input_of is) (begin l.build maps)).state) (shown d (words_of i) (stored_after d (stored_after d st (load maps)) is))
