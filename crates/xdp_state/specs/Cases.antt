-- How a call says whether the machine has a case.
use Rattle.std.specs.Prelude.{ℕ, ◌≡◌, ◌<◌, Bool, true, false, Option, Some, None, length}
use Rattle.xdp_machine.specs.xdp_maps.declared.decl.MapDecl.{MapDecl}
use Rattle.xdp_machine.specs.xdp_maps.Contents.{IsWithinLimits, IsOver}
use Rattle.xdp_machine.specs.xdp_maps.State.{MapState, decl_at, contents_at}

-- A call that changes something in place: it has become what was wanted, or there was no case and nothing has changed.
abbrev pub Makes : {A : Type 0} → Bool → Option A → A → A → Type 0
Makes true wanted old new = wanted ≡ Some new
Makes false wanted old new = (wanted ≡ None) × (new ≡ old)

-- A call that changes something in place and answers what it found.
abbrev pub Changes : {A B : Type 0} → Option B → Option (B × A) → A → A → Type 0
Changes (Some found) wanted old new = wanted ≡ Some (found, new)
Changes None wanted old new = (wanted ≡ None) × (new ≡ old)

-- A call that fills a buffer: the buffer holds what was wanted, or there is nothing.
abbrev pub Fills : {A : Type 0} → Bool → Option A → A → Type 0
Fills true wanted new = wanted ≡ Some new
Fills false wanted new = wanted ≡ None

-- d is the declaration of map q, which holds what it allows
pub record IsDeclared (s : MapState) (q : ℕ) (d : MapDecl) : Type 0 where
  pub in_range : q < length s.decls
  pub is : decl_at s q ≡ d
  pub limits : IsWithinLimits d
  pub over : IsOver d (contents_at s q)
