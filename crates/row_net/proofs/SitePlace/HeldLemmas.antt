-- The pointers that a place makes are those of a packet.
use Rattle.std.specs.Prelude.{◌≡◌, ℕ, if◌then◌else◌, List, [], ◌∷◌}
use Rattle.std.proofs.Common.{refl, ap}
use Rattle.overlay_net.specs.cell_core.declared.operator.Operator.TheVariants.{Wire, Phi, Found}
use Rattle.overlay_net.specs.cell_core.Cells.{on}
use Rattle.overlay_net.specs.hazard_core.StageValues.{StageValues, stage_value, pointer_in}
use Rattle.overlay_net.specs.hazard_core.Rows.{phi_pointer}
use Rattle.row_net.specs.SitePlace.Pointing.{joined_pointer}
use Rattle.row_net.specs.SitePlace.Holding.{PointersAreHeld}

joined_held : (h : StageValues) (ins : List ℕ) → phi_pointer h ins ≡ joined_pointer (stage_value h) (pointer_in h) ins
joined_held h [] = refl
joined_held h (e ∷ []) = refl
joined_held h (e ∷ x ∷ []) = refl
joined_held h (e ∷ x ∷ d ∷ more) = ap (λ q. if on (stage_value h e) then pointer_in h x else q) (joined_held h (d ∷ more))

pub pointers_held : PointersAreHeld
pointers_held p row r t h c (Found j) e = cc
pointers_held p row r t h c Wire e = refl
pointers_held p row r t h c Phi e = joined_held h c.ins
pointers_held p row r t h c op e = refl
