-- What a pipeline's machine goes on from, while the host only reads.
use Rattle.std.specs.Prelude.{◌≡◌, ℕ, ◌≤◌, false, Some, List, [], ◌∷◌}
use Rattle.std.specs.List.{AllByRecursion}
use Rattle.cell_core.specs.xdp_maps.State.{MapState, IsSound}
use Rattle.pipe_core.specs.net_core.declared.ports.Inputs.{Inputs}
use Rattle.pipe_core.specs.hazard_core.Tables.{TableState}
use Rattle.pipe_core.specs.hazard_core.Tabled.{AreTables}
use Rattle.pipe_core.specs.Machine.{Packet, State, place_at}
use Rattle.pipe_core.specs.History.{Trace, next, begin, IsInOrder}
use Rattle.pipe_core.specs.SeenChanges.{Seen}
use Rattle.pipe_core.specs.Pipeable.{IsPipelinable}
use Rattle.pipe_core.specs.Right.{IsRight}
use Rattle.pipe_core.specs.HostRuns.Inputs.{input_of}
use Rattle.pipe_net.specs.Layout.{Layout, last_of}
use Rattle.pipe_net.specs.PipeTurns.Acting.{IsRightAction}
use Rattle.pipe_net.specs.PipeMaps.Premises.{HoldKeys}

-- The tables are tables of the layout's maps, with keys and values of bytes; and there are changes that packets have seen and tables that they agree with.
pub record IsGoing (l : Layout) (t : Trace) : Type 0 where
  pub seen : ℕ → List Seen
  pub views : ℕ → TableState
  pub order : IsInOrder l.build t
  pub right : IsRight l.build l.decls (record { trace = t; seen = seen; views = views })
  pub keys : HoldKeys t.state.tables

-- What is asked of a clock: where a packet is inside the tables are tables of their declarations, and an operation that commits is a right one.
pub record IsRightClock (l : Layout) (i : Inputs) (s : State) : Type 0 where
  pub tables : (k : ℕ) (x : Packet) → k ≤ last_of l → place_at s.places k ≡ Some x → AreTables s.tables
  pub action : IsRightAction l i s

-- So of clocks one after another.
abbrev pub AreRightClocks : Layout → List Inputs → Trace → Type 0
AreRightClocks l [] t = Unit {0}
AreRightClocks l (i ∷ is) t = IsRightClock l i t.state × AreRightClocks l is (next l.build (input_of i) t)

-- ---- the laws
-- A clock in which the host writes nothing is right,
abbrev pub RightActions : Type 0
RightActions = (l : Layout) → IsPipelinable l.decls l.build → (i : Inputs) → i.host_write ≡ false → (t : Trace) → IsGoing l t → IsRightClock l i t.state

-- and the next one goes on so.
abbrev pub GoOn : Type 0
GoOn = (l : Layout) → IsPipelinable l.decls l.build → (i : Inputs) → i.host_write ≡ false → (t : Trace) → IsGoing l t → IsGoing l (next l.build (input_of i) t)

-- So it is before the first clock with maps that are loaded,
abbrev pub BeginGoing : Type 0
BeginGoing = (l : Layout) → IsPipelinable l.decls l.build → (maps : MapState) → maps.decls ≡ l.decls → IsSound maps → IsGoing l (begin l.build maps)

-- and all clocks from there on are right.
abbrev pub RunsAreRight : Type 0
RunsAreRight =
    (l : Layout) → IsPipelinable l.decls l.build → (maps : MapState) → maps.decls ≡ l.decls → IsSound maps → (is : List Inputs) → AllByRecursion (λ i. i.host_write ≡ false) is
    → AreRightClocks l is (begin l.build maps)
