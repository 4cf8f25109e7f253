-- Maps into which tables are put, slot by slot. No caller's clause cites this.
use Rattle.std.specs.Prelude.{ℕ, ◌≡◌, ◌<◌, ◌≤◌, if◌then◌else◌, List, [], ◌∷◌, length}
use Rattle.xdp_maps.specs.declared.decl.MapDecl.{MapDecl}
use Rattle.xdp_maps.specs.Calls.{updated}
use Rattle.xdp_maps.specs.Contents.{Contents, opened}
use Rattle.xdp_maps.specs.State.{MapState, contents_at}
use Rattle.hazard_core.specs.declared.slot.Slot.{Slot}
use Rattle.hazard_core.specs.Tables.{TableState, decl_of, table_at}

-- contents with the pair of a slot, if it is used
abbrev pub with_pair : MapDecl → Slot → Contents → Contents
with_pair d s c = if s.used then updated d c s.key s.value 0 else c

-- with those of all slots, the last one first
abbrev pub refilled : MapDecl → List Slot → Contents → Contents
refilled d [] c = c
refilled d (s ∷ slots) c = with_pair d s (refilled d slots c)

-- the maps below one are filled, and the others as they were opened
pub record AreRefilled (t : TableState) (below : ℕ) (maps : MapState) : Type 0 where
  pub decls : maps.decls ≡ t.decls
  pub beside : length maps.contents ≡ length t.decls
  pub filled : (m : ℕ) → m < below → m < length t.decls → contents_at maps m ≡ refilled (decl_of t.decls m) (table_at t m) (opened (decl_of t.decls m))
  pub others : (m : ℕ) → below ≤ m → m < length t.decls → contents_at maps m ≡ opened (decl_of t.decls m)
