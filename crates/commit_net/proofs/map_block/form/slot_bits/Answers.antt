use Rattle.std.proofs.Common.{inl, inr, ℕ, ◌+◌, ◌^◌, ◌<◌, ◌≤◌, pow_mono, arith}
use Rattle.std.proofs.lemmas.Bool.{cases_lt}

-- where these are too few, and others are enough, the others are more
more : (size bits b : ℕ) → 2 ^ bits < size → size ≤ 2 ^ b → bits + 1 ≤ b
more size bits b few enough = elim (cases_lt bits b) [
  | inl l ↦ omega (arith, l)
  | inr g ↦ absurd (omega (arith, few, enough, pow_mono {i = b} {j = bits} g))
]
