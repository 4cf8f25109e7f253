-- Tables whose slots have the lengths that the maps declare.
use Rattle.std.specs.Prelude.{◌≡◌, ℕ, ◌<◌, length}
use Rattle.xdp_maps.specs.declared.decl.MapDecl.{MapDecl}
use Rattle.xdp_maps.specs.Contents.{IsWithinLimits}
use Rattle.hazard_core.specs.Tables.{Slot, TableState, decl_of, table_at, slot_at}

-- the key and the value of a slot, used or not, have the declared lengths
pub record IsShaped (d : MapDecl) (s : Slot) : Type 0 where
  pub key : length s.key ≡ d.key
  pub value : length s.value ≡ d.value

pub record AreShaped (t : TableState) : Type 0 where
  pub beside : length t.tables ≡ length t.decls
  pub limits : (m : ℕ) → m < length t.decls → IsWithinLimits (decl_of t.decls m)
  pub counts : (m : ℕ) → m < length t.decls → length (table_at t m) ≡ (decl_of t.decls m).cap
  pub each : (m n : ℕ) → m < length t.decls → n < length (table_at t m) → IsShaped (decl_of t.decls m) (slot_at (table_at t m) n)
