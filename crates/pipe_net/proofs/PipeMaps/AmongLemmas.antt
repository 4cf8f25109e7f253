-- The parts of maps are parts of the pipeline.
use Rattle.std.specs.Prelude.{map, length}
use Rattle.std.proofs.Common.{◌≡◌, ℕ, zero, suc, ◌+◌, ◌<◌, ◌≤◌, inl, inr, sym, ap, subst, arith}
use Rattle.std.proofs.lemmas.Bool.{cases_lt}
use Rattle.block_core.specs.Blocks.{Whole, Among}
use Rattle.hazard_core.specs.cell_core.Rows.{numbers}
use Rattle.pipe_net.specs.declared.parts.Part.{Part}
use Rattle.pipe_net.specs.declared.parts.Sizes.{Sizes}
use Rattle.pipe_net.specs.Parts.{part, parts_of, part_count, of_map, value}
use Rattle.pipe_net.specs.Layout.{Layout, IsSized}

among_numbers : (from n k : ℕ) → from ≤ k → k < from + n → Among (part k) (map part (numbers from n))
among_numbers from zero k l m = absurd (omega (arith, l, m))
among_numbers from (suc n) k l m = elim (cases_lt from k) [
  | inl less ↦ inr (among_numbers (suc from) n k (omega (arith, less)) (omega (arith, m)))
  | inr here ↦ let same : k ≡ from = omega (arith, l, here) in inl (ap part same)
]

pub part_among : (z : Sizes) (k : ℕ) → k < part_count z → Among (part k) (parts_of z)
part_among z k l = among_numbers 0 (part_count z) k (omega arith) (omega (arith, l))

pub map_among : (l : Layout) (d : Whole Part) → IsSized l → d.parts ≡ parts_of l.sizes → (m at : ℕ) → m < length l.decls → at < 6 → Among (of_map l.sizes m at) d.parts
map_among l d sized are m at there few = let count : l.sizes.maps ≡ length l.decls = sized.maps in subst (λ ps. Among (of_map l.sizes m at) ps) (sym are) (part_among l.sizes _ (omega (arith, count, there, few)))

pub value_among : (l : Layout) (d : Whole Part) → d.parts ≡ parts_of l.sizes → Among (value l.sizes) d.parts
value_among l d are = subst (λ ps. Among (value l.sizes) ps) (sym are) (part_among l.sizes _ (omega arith))
