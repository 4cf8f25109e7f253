-- The tables after a clock.
use Rattle.std.specs.Prelude.{◌≡◌, ℕ, ◌<◌, List, length}
use Rattle.hazard_core.specs.xdp_maps.declared.decl.MapDecl.{MapDecl}
use Rattle.hazard_core.specs.xdp_maps.State.{MapState, opened_state}
use Rattle.block_core.specs.net_core.declared.ports.Inputs.{Inputs}
use Rattle.block_core.specs.net_core.Value.{Env}
use Rattle.block_core.specs.net_core.Clock.{Stored, done}
use Rattle.block_core.specs.declared.name.Name.{Name}
use Rattle.block_core.specs.Blocks.{Whole, first_of}
use Rattle.hazard_core.specs.Tables.{TableState, decl_of, table_at, tables_of}
use Rattle.commit_net.specs.MapBlock.Stored.{StoresMap, IsFirst}
use Rattle.pipe_core.specs.Machine.{State, new_state, clock}
use Rattle.pipe_net.specs.declared.parts.Part.{Part}
use Rattle.pipe_net.specs.Parts as part
use Rattle.pipe_net.specs.Machine.{input_of}
use Rattle.pipe_net.specs.Layout.{Layout}
use Rattle.pipe_net.specs.PipeTurns.Parts.{AreActionParts}
use Rattle.pipe_net.specs.PipeMaps.Parts.{AreMapParts}
use Rattle.pipe_net.specs.PipeMaps.Premises.{HasMaps, IsMapClock}

-- each map stores its table
pub record HoldTables (l : Layout) (t : TableState) (ss : Part → Stored) : Type 0 where
  pub decls : t.decls ≡ l.decls
  pub tables : (m : ℕ) → m < length l.decls → StoresMap (decl_of l.decls m) (l.slot_bits m) (table_at t m) (ss (part.own l.sizes m))

abbrev pub TablesFollow : Type 0
TablesFollow =
    (l : Layout) (d : Whole Part) (action : AreActionParts l d) (is : HasMaps l d action) (i : Inputs) (s : State) (ss : Part → Stored) (v : Env (Name Part)) → IsMapClock l d action is.parts i s ss v
    → HoldTables l (clock l.build (input_of i) s).tables (λ p. done v (d.block p).statement (ss p))

-- Before the first clock it is the table of a map without entries.
abbrev pub TablesBegin : Type 0
TablesBegin =
    (l : Layout) (d : Whole Part) (action : AreActionParts l d) (maps : MapState) → AreMapParts l d action → maps.decls ≡ l.decls → ((m : ℕ) → m < length l.decls → IsFirst (decl_of l.decls m) (table_at (tables_of maps) m))
    → HoldTables l (new_state l.build maps).tables (λ p. first_of (d.block p))

-- So are the tables of maps before anything is written.
abbrev pub OpenedAreFirst : Type 0
OpenedAreFirst = (decls : List MapDecl) (m : ℕ) → m < length decls → IsFirst (decl_of decls m) (table_at (tables_of (opened_state decls)) m)
