-- What a packet holds fits the program, whatever its operations found: it stands for no more than its rows, and its pointers are to slots that
-- there are or to entries that updates of its own are to make.
use Rattle.std.specs.Prelude.{◌≡◌, ℕ, suc, ◌^◌, ◌<◌, ◌≤◌, nat_lt, Bool, true, false, List, length}
use Rattle.std.specs.List.{list_all}
use Rattle.xdp_maps.specs.declared.decl.MapDecl.{MapDecl}
use Rattle.xdp_maps.specs.declared.decl.MapKind.TheVariants.{Hash}
use Rattle.cell_core.specs.xdp_machine.State.{PacketIn}
use Rattle.cell_core.specs.Cells.{cell_at}
use Rattle.cell_core.specs.Sites.{ProgramView, site_at}
use Rattle.hazard_core.specs.Tables.{TableState, decl_of, table_at}
use Rattle.hazard_core.specs.declared.pointer.Pointer.TheVariants.{Null, InSlot, Pending}
use Rattle.hazard_core.specs.StageValues.{StageValues, stage_value, pointer_in, is_update, parts}
use Rattle.hazard_core.specs.Rows.{with_row, nothing_held}
use Rattle.hazard_core.specs.HeldRows.Pointing.{flag_at, ArePointing}

-- site i updates a hash, and all that it takes and gives stands in rows below r
pub record IsMadeBefore (p : ProgramView) (decls : List MapDecl) (row : ℕ → ℕ) (r i : ℕ) : Type 0 where
  pub known : i < length p.sites
  pub update : is_update (site_at p.sites i).act ≡ true
  pub hash : (decl_of decls (site_at p.sites i).map).kind ≡ Hash
  pub rows : list_all (λ c. nat_lt (row c) r) (parts p i) ≡ true

-- What a packet holds that has the rows below r: of later rows nothing, a pointer only of a cell that is flagged, no slot from the number
-- `most` on, and values of their widths.
pub record FitsRows (p : ProgramView) (decls : List MapDecl) (row : ℕ → ℕ) (flags : List Bool) (most r : ℕ) (h : StageValues) : Type 0 where
  pub values : length h.values ≡ length p.cells
  pub pointers : length h.pointers ≡ length p.cells
  pub later : (c : ℕ) → r ≤ row c → (stage_value h c ≡ 0) × (pointer_in h c ≡ Null)
  pub plain : (c : ℕ) → flag_at flags c ≡ false → pointer_in h c ≡ Null
  pub slots : (c n : ℕ) → pointer_in h c ≡ InSlot n → n < most
  pub pending : (c i : ℕ) → pointer_in h c ≡ Pending i → IsMadeBefore p decls row r i
  pub widths : (c : ℕ) → stage_value h c < 2 ^ (cell_at p.cells c).width

-- A packet that has taken in no row fits.
abbrev pub BeginsFit : Type 0
BeginsFit = (p : ProgramView) (decls : List MapDecl) (row : ℕ → ℕ) (flags : List Bool) (most : ℕ) → FitsRows p decls row flags most 0 (nothing_held p)

-- One that fits does with a row more, whatever the tables hold, if they have no more slots.
abbrev pub RowsFit : Type 0
RowsFit =
    (p : ProgramView) (decls : List MapDecl) (row : ℕ → ℕ) (flags : List Bool) (most r : ℕ) (t : TableState) (packet : PacketIn) (h : StageValues) → ArePointing p.cells flags → t.decls ≡ decls
    → ((m : ℕ) → length (table_at t m) ≤ most) → FitsRows p decls row flags most r h → FitsRows p decls row flags most (suc r) (with_row p row r t packet h)

-- It fits where there are more slots.
abbrev pub MoreFit : Type 0
MoreFit =
    (p : ProgramView) (decls : List MapDecl) (row : ℕ → ℕ) (flags : List Bool) (most more r : ℕ) (h : StageValues) → most ≤ more → FitsRows p decls row flags most r h → FitsRows p decls row flags more r h
