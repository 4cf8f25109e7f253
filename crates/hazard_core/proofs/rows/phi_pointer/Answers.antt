use Rattle.std.proofs.Common.{◌≡◌, ◌∙◌, ℕ, ◌<◌, List, [], ◌∷◌, length, refl, sym, arith}
use Rattle.hazard_core.specs.StageValues.{StageValues, Null}
use Rattle.hazard_core.specs.Rows.{phi_pointer}
use Rattle.hazard_core.proofs.rows.phi_pointer.Goals as goal

phi-short : (h : StageValues) (xs : List ℕ) → length xs < 2 → phi_pointer h xs ≡ Null
phi-short h [] l = refl
phi-short h (x ∷ []) l = refl
phi-short h (x ∷ y ∷ xs) l = absurd (omega arith)

pub returns : goal.returns
returns c = sym (phi-short c.args.held.now c.loop-left.left.now c.in_default.len_below) ∙ c.loop-left.invariant
