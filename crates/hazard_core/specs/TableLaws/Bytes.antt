-- Tables that hold bytes.
use Rattle.std.specs.Prelude.{ℕ, ◌<◌, List, length}
use Rattle.xdp_maps.specs.declared.decl.MapDecl.{MapDecl}
use Rattle.xdp_maps.specs.Contents.{IsBytes}
use Rattle.xdp_maps.specs.State.{MapState, IsSound}
use Rattle.cell_core.specs.Formed.{FitsMap}
use Rattle.cell_core.specs.Sites.{ProgramView, site_at}
use Rattle.hazard_core.specs.declared.slot.Slot.{Slot}
use Rattle.hazard_core.specs.Tables.{TableState, decl_of, table_at, slot_at, tables_of}
use Rattle.hazard_core.specs.Shaped.{AreShaped}
use Rattle.hazard_core.specs.StageValues.{StageValues}
use Rattle.hazard_core.specs.declared.access.Access.{Access}
use Rattle.hazard_core.specs.Commits.{committed, host_written}

-- the key and the value of a slot, used or not, are bytes of the declared lengths
pub record HasBytes (d : MapDecl) (s : Slot) : Type 0 where
  pub key : IsBytes d.key s.key
  pub value : IsBytes d.value s.value

pub record HoldBytes (t : TableState) : Type 0 where
  pub shaped : AreShaped t
  pub each : (m n : ℕ) → m < length t.decls → n < length (table_at t m) → HasBytes (decl_of t.decls m) (slot_at (table_at t m) n)

abbrev pub LoadsBytes : Type 0
LoadsBytes = (maps : MapState) → IsSound maps → HoldBytes (tables_of maps)

-- The site fits its map; the packet may hold anything, and the slot that it writes need not be there.
abbrev pub CommitKeepsBytes : Type 0
CommitKeepsBytes = (p : ProgramView) (t : TableState) (taken : List ℕ) (h : StageValues) (j : ℕ) → FitsMap t.decls (site_at p.sites j) → HoldBytes t → HoldBytes (committed p t taken h j)

-- The access may name a word or none.
abbrev pub HostKeepsBytes : Type 0
HostKeepsBytes = (t : TableState) (a : Access) (n : ℕ) → HoldBytes t → HoldBytes (host_written t a n)
