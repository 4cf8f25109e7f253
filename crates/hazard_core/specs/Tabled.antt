-- The table of a map by its declaration.
use Rattle.std.specs.Prelude.{◌≡◌, ℕ, ◌<◌, true, List, length}
use Rattle.xdp_maps.specs.declared.decl.MapDecl.{MapDecl}
use Rattle.xdp_maps.specs.declared.decl.MapKind.{MapKind}
use Rattle.xdp_maps.specs.declared.decl.MapKind.TheVariants.{Hash, Array}
use Rattle.xdp_maps.specs.Contents.{IsWithinLimits, IsBytes, index_key}
use Rattle.xdp_maps.specs.State.{MapState, IsSound}
use Rattle.hazard_core.specs.Tables.{Slot, TableState, decl_of, table_at, slot_at, has_key, tables_of}

-- an array has its index in each slot
abbrev pub IsFilledTable : MapKind → List Slot → Type 0
IsFilledTable Hash slots = Unit {0}
IsFilledTable Array slots = (n : ℕ) → n < length slots → has_key (index_key n) (slot_at slots n) ≡ true

-- as many slots as the map has room for; used slots have keys of the declared length, and no two the same
pub record IsTable (d : MapDecl) (slots : List Slot) : Type 0 where
  pub count : length slots ≡ d.cap
  pub keys : (n : ℕ) → n < length slots → (slot_at slots n).used ≡ true → IsBytes d.key (slot_at slots n).key
  pub single : (key : List ℕ) (n m : ℕ) → n < length slots → m < length slots → has_key key (slot_at slots n) ≡ true → has_key key (slot_at slots m) ≡ true → n ≡ m
  pub filled : IsFilledTable d.kind slots

pub record AreTables (t : TableState) : Type 0 where
  pub beside : length t.tables ≡ length t.decls
  pub limits : (m : ℕ) → m < length t.decls → IsWithinLimits (decl_of t.decls m)
  pub each : (m : ℕ) → m < length t.decls → IsTable (decl_of t.decls m) (table_at t m)

-- What a load leaves are such tables.
abbrev pub LoadsTables : Type 0
LoadsTables = (maps : MapState) → IsSound maps → AreTables (tables_of maps)
