-- What commits do to the tables, over all clocks.
use Rattle.std.specs.Prelude.{◌≡◌, ℕ, ◌<◌, ◌≤◌, false, Option, Some, None, List, length}
use Rattle.std.specs.List.{AllByRecursion}
use Rattle.hazard_core.specs.xdp_maps.declared.decl.MapDecl.{MapDecl}
use Rattle.hazard_core.specs.xdp_maps.State.{MapState, IsSound}
use Rattle.hazard_core.specs.Tables.{TableState}
use Rattle.hazard_core.specs.Tabled.{AreTables}
use Rattle.hazard_core.specs.Replay.{replayed}
use Rattle.pipe_core.specs.Machine.{Packet, Input, Build, marked_at, place_at}
use Rattle.pipe_core.specs.History.{IsInOrder}
use Rattle.pipe_core.specs.SeenChanges.{SeenChanges, action_in, observed, watch, watch_start}
use Rattle.pipe_core.specs.Pipeable.{IsPipelinable}
use Rattle.pipe_core.specs.Agreed.{IsAgreed, IsRightAction}

-- The tables are what the operations of a packet below one site made of others, one after another.
pub record Replays (b : Build) (view tables : TableState) (taken : List ℕ) (done : ℕ) (x : Packet) : Type 0 where
  pub first : List ℕ
  pub long : length first ≡ length b.program.sites
  pub state : record { tables = tables; taken = taken } ≡ replayed b.program x.held (record { tables = view; taken = first }) done
  pub through : done ≤ length b.program.sites

-- a packet without a mark
pub record IsUnmarked (b : Build) (place : Option Packet) : Type 0 where
  pub packet : Packet
  pub here : place ≡ Some packet
  pub unmarked : (j : ℕ) → j < length b.program.sites → marked_at packet j ≡ false

-- What holds of the tables, with the packet at the commit place: they are tables of their declarations, and what its committed operations
-- made of those that it agrees with. While it has committed some it stays, and has no mark.
pub record IsRightAt (b : Build) (decls : List MapDecl) (view tables : TableState) (taken : List ℕ) (done : ℕ) (place : Option Packet) : Type 0 where
  pub decls_are : tables.decls ≡ decls
  pub view_decls : view.decls ≡ decls
  pub tables_are : AreTables tables
  pub view_tables : AreTables view
  pub long : length taken ≡ length b.program.sites
  pub replays : (x : Packet) → place ≡ Some x → Replays b view tables taken done x
  pub amid : 0 < done → IsUnmarked b place

pub record IsRight (b : Build) (decls : List MapDecl) (w : SeenChanges) : Type 0 where
  pub agreed : IsAgreed b w
  pub at : IsRightAt b decls (w.views b.plan.commit) w.trace.state.tables w.trace.state.taken w.trace.state.done (place_at w.trace.state.places b.plan.commit)

-- In each clock what is committed is right, while the host is silent; and the clock keeps all this.
abbrev pub ActionsAreRight : Type 0
ActionsAreRight = (b : Build) (decls : List MapDecl) → IsPipelinable decls b → (i : Input) → i.host ≡ None → (w : SeenChanges) → IsRight b decls w → IsRightAction b w.trace.state (action_in b i w.trace.state)

abbrev pub KeepsRight : Type 0
KeepsRight =
    (b : Build) (decls : List MapDecl) → IsPipelinable decls b → (i : Input) → i.host ≡ None → (w : SeenChanges) → IsInOrder b w.trace → IsRight b decls w → IsRight b decls (observed b i w)

-- So over every list of clocks: the tables are tables, each packet agrees with those of its place, and what is committed is right.
abbrev pub IsAlwaysRight : Type 0
IsAlwaysRight =
    (b : Build) (maps : MapState) → IsPipelinable maps.decls b → IsSound maps → (is : List Input) → AllByRecursion (λ i. i.host ≡ None) is → IsRight b maps.decls (watch b is (watch_start b maps))
