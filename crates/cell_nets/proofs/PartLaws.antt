-- Bits of a net of an operand, as an expression.
use Rattle.std.specs.Prelude.{◌==◌, if◌then◌else◌}
use Rattle.std.proofs.Common.{◌≡◌, ℕ, ◌+◌, ◌-◌, ◌^◌, ◌<◌, ◌≤◌, Bool, true, false, List, [], ◌∷◌, refl, subst, arith, ◌⊎◌, inl, inr}
use Rattle.std.proofs.lemmas.Bool.{cases_lt, eqb-true, eqb-false}
use Rattle.net_core.specs.Nets.{Tree, TRead, TBit, TPartSelect}
use Rattle.net_core.specs.Value.{Env}
use Rattle.cell_core.specs.Cells.{bits_from}
use Rattle.cell_nets.specs.declared.operand.Operand.{Operand}
use Rattle.cell_nets.specs.declared.operand.Operand.TheVariants.{Known, Net, Part}
use Rattle.cell_nets.specs.Operands.{number_in, IsFit, IsWithin, HasNet}
use Rattle.cell_nets.specs.Parts.{IsSlice, part_tree}
use Rattle.cell_nets.specs.Wires.{HasBits}
use Rattle.cell_nets.proofs.NarrowLaws.{bits_small}
use Rattle.cell_nets.proofs.ExpressionPartLaws.{slice_over}
use Rattle.cell_nets.proofs.SliceLaws.{whole_inside, bit_inside, bits_inside}

module _ {N : Type 0} (n : N) (of from width : ℕ) (is : IsWithin of from width) where
  abbrev IsBits : Tree N → Type 0
  IsBits t = IsSlice (Net n of ∷ []) 1 width (λ v. bits_from (v.net n).value from width) t

  smaller : (width ≡ of → ⊥) → width < of
  smaller apart = by_case (cases_lt width of)
    where
      by_case : (width < of) ⊎ (of ≤ width) → width < of
      by_case (inl l) = l
      by_case (inr l) = let inside = is.inside in absurd (apart (omega arith))

  narrower : (b : Bool) → (width == 1) ≡ b → width < of → IsBits (if b then TBit n from else TPartSelect n (from + width - 1) from)
  narrower true e less = let some = is.some in let inside = is.inside in bit_inside (Net n of ∷ []) n of from width (0, omega arith, refl) (eqb-true width 1 e) (omega arith) (omega arith)
  narrower false e less = let some = is.some in bits_inside (Net n of ∷ []) n of from width (0, omega arith, refl) (omega arith) some is.inside

  either : (b : Bool) → (width == of) ≡ b → IsBits (if b then TRead n else if width == 1 then TBit n from else TPartSelect n (from + width - 1) from)
  either true e =
      let same : width ≡ of = eqb-true width of e in
      let inside = is.inside in
      whole_inside (Net n of ∷ []) n of from width (0, omega arith, refl) same (omega arith)
  either false e = narrower (width == 1) refl (smaller (eqb-false width of e))

  -- it has their value, is well typed and can be spelled
  pub part_slice : (ins : List (Operand N)) → HasNet ins n of → IsSlice ins 1 width (λ v. bits_from (v.net n).value from width) (part_tree n of from width)
  part_slice ins has = slice_over ins n of has 1 width _ (part_tree n of from width) (either (width == of) refl)

pub part_small : (n from width : ℕ) → bits_from n from width < 2 ^ width
part_small n from width = bits_small n from width

-- an operand of so many bits is below their power
pub bits_below : {N : Type 0} (v : Env N) (a : Operand N) (w : ℕ) → HasBits w a → IsFit v a → number_in v a < 2 ^ w
bits_below v (Known n) w b f = b
bits_below v (Net n u) w b f = subst (λ k. (v.net n).value < 2 ^ k) b f.small
bits_below v (Part n of from u) w b f = subst (λ k. bits_from (v.net n).value from u < 2 ^ k) b (part_small (v.net n).value from u)
