-- Pointers that are not null, by their numbers.
use Rattle.std.specs.Prelude.{not}
use Rattle.std.proofs.Common.{◌≡◌, ℕ, ◌+◌, ◌*◌, ◌==◌, ◌<◌, Bool, true, false, refl, arith}
use Rattle.std.proofs.lemmas.Bool.{eqb-true}
use Rattle.hazard_core.specs.cell_core.Cells.{on}
use Rattle.hazard_core.specs.declared.pointer.Pointer.{Pointer}
use Rattle.hazard_core.specs.declared.pointer.Pointer.TheVariants.{Null, InSlot, Pending}
use Rattle.hazard_core.specs.StageValues.{is_null}
use Rattle.overlay_net.specs.SiteOperands.Pointers.{pointer_number}

pub some_on : (n : ℕ) → 0 < n → on n ≡ true
some_on n h = by (n == 0) refl
  where
    by : (b : Bool) → (n == 0) ≡ b → not b ≡ true
    by true e = absurd (let z : n ≡ 0 = eqb-true n 0 e in omega arith)
    by false e = refl

pub found_on : (q : Pointer) → on (pointer_number q) ≡ not (is_null q)
found_on Null = refl
found_on (InSlot n) = some_on (4 * n + 1) (omega arith)
found_on (Pending j) = some_on (4 * j + 2) (omega arith)
