-- The parts that places read are among the parts of the pipeline.
use Rattle.std.specs.Prelude.{◌≡◌, ℕ, zero, suc, ◌+◌, ◌<◌, ◌≤◌, map}
use Rattle.std.proofs.Common.{sym, ap, subst, arith, inl, inr}
use Rattle.std.proofs.lemmas.Bool.{cases_eq}
use Rattle.block_core.specs.Blocks.{Whole, Among}
use Rattle.hazard_core.specs.cell_core.Rows.{numbers}
use Rattle.pipe_net.specs.declared.parts.Part.{Part}
use Rattle.pipe_net.specs.declared.parts.Sizes.{Sizes}
use Rattle.pipe_net.specs.Parts as part
use Rattle.pipe_net.specs.Parts.{parts_of, part_count}

among : (from n k : ℕ) → from ≤ k → k < from + n → Among (part.part k) (map part.part (numbers from n))
among from zero k h lt = absurd (omega arith)
among from (suc n) k h lt = elim (cases_eq k from) [
  | inl e ↦ inl (ap part.part e)
  | inr o ↦ inr (among (suc from) n k (omega arith) (omega arith))
]

module _ (z : Sizes) (d : Whole Part) (parts : d.parts ≡ parts_of z) where
  has : (k : ℕ) → k < part_count z → Among (part.part k) d.parts
  has k lt = subst (Among (part.part k)) (sym parts) (among 0 (part_count z) k (omega arith) (omega (arith, lt)))

  pub has_place : (k : ℕ) → k ≤ z.last → Among (part.place z k) d.parts
  has_place k h = has _ (omega (arith, h))

  pub has_slots : (m : ℕ) → m < z.maps → Among (part.slots z m) d.parts
  has_slots m h = has _ (omega (arith, h))

  pub has_word : (i : ℕ) → i < z.loads → Among (part.word z i) d.parts
  has_word i h = has _ (omega (arith, h))

  pub has_own : (m : ℕ) → m < z.maps → Among (part.own z m) d.parts
  has_own m h = has _ (omega (arith, h))
