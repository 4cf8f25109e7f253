use Rattle.std.proofs.Common.{◌≡◌, ◌∙◌, ℕ, ◌<◌, List, [], ◌∷◌, length, refl, sym, arith, map as map_list}
use Rattle.cell_core.specs.Cells.{phi, value_in}
use Rattle.cell_core.proofs.value.phi.Goals as goal

phi-short : (v : ℕ → ℕ) (xs : List ℕ) → length xs < 2 → phi (map_list v xs) ≡ 0
phi-short v [] h = refl
phi-short v (x ∷ []) h = refl
phi-short v (x ∷ y ∷ xs) h = absurd (omega arith)

pub returns : goal.returns
returns c = sym (phi-short (value_in c.args.values.now) c.loop-left.left.now c.in_default.len_below) ∙ c.loop-left.invariant
