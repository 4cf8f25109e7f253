-- Each part of a pipeline is one of a sort.
use Rattle.std.specs.Prelude.{◌≡◌, ℕ, zero, suc, ◌+◌, ◌*◌, ◌-◌, ◌<◌, ◌≤◌, map}
use Rattle.std.proofs.Common.{sym, ap, subst, arith, inl, inr}
use Rattle.std.proofs.lemmas.Bool.{cases_eq, cases_lt}
use Rattle.block_core.specs.Blocks.{Whole, Among}
use Rattle.hazard_core.specs.cell_core.Rows.{numbers}
use Rattle.pipe_net.specs.declared.parts.Part.{Part}
use Rattle.pipe_net.specs.declared.parts.Sizes.{Sizes}
use Rattle.pipe_net.specs.Parts as part
use Rattle.pipe_net.specs.Parts.{behind_words, behind_maps, parts_of, part_count}

-- ---- by their numbers
-- the six parts of a map
pub data PartOfMap (at : ℕ) : Type 0 where
  Finder : at ≡ 0 → PartOfMap at
  Fetcher : at ≡ 1 → PartOfMap at
  Asker : at ≡ 2 → PartOfMap at
  Own : at ≡ 3 → PartOfMap at
  Written : at ≡ 4 → PartOfMap at
  Change : at ≡ 5 → PartOfMap at

pub data Sort (z : Sizes) (p : Part) : Type 0 where
  Scatter : p ≡ part.scatter → Sort z p
  Reload : (k : ℕ) → k ≤ z.commit → p ≡ part.reload k → Sort z p
  Returns : p ≡ part.returns z → Sort z p
  Sources : p ≡ part.sources z → Sort z p
  Slots : (m : ℕ) → m < z.maps → p ≡ part.slots z m → Sort z p
  Word : (i : ℕ) → i < z.loads → p ≡ part.word z i → Sort z p
  Targets : (m : ℕ) → m < z.maps → p ≡ part.targets z m → Sort z p
  Host : p ≡ part.host z → Sort z p
  Action : p ≡ part.action z → Sort z p
  Commits : p ≡ part.commits z → Sort z p
  OfMap : (m at : ℕ) → m < z.maps → PartOfMap at → p ≡ part.of_map z m at → Sort z p
  Control : p ≡ part.control z → Sort z p
  Marks : (k : ℕ) → k ≤ z.commit → p ≡ part.marks z k → Sort z p
  Value : p ≡ part.value z → Sort z p
  Gather : p ≡ part.gather z → Sort z p
  Exit : p ≡ part.exit z → Sort z p
  Place : (k : ℕ) → k ≤ z.last → p ≡ part.place z k → Sort z p

-- ---- the parts of maps
record InSix (r maps : ℕ) : Type 0 where
  map : ℕ
  at : ℕ
  within : map < maps
  one : PartOfMap at
  is : r ≡ 6 * map + at

first_six : (r : ℕ) → r < 6 → PartOfMap r
first_six r lt = elim (cases_eq r 0) [
  | inl e ↦ Finder e
  | inr a ↦ elim (cases_eq r 1) [
    | inl e ↦ Fetcher e
    | inr b ↦ elim (cases_eq r 2) [
      | inl e ↦ Asker e
      | inr c ↦ elim (cases_eq r 3) [
        | inl e ↦ Own e
        | inr f ↦ elim (cases_eq r 4) [
          | inl e ↦ Written e
          | inr g ↦ Change (omega (arith, lt, a, b, c, f, g))
        ]
      ]
    ]
  ]
]

in_six : (r maps : ℕ) → r < 6 * maps → InSix r maps
in_six r zero lt = absurd (omega (arith, lt))
in_six r (suc n) lt = elim (cases_lt r 6) [
  | inl low ↦ record { map = 0; at = r; within = omega arith; one = first_six r low; is = omega arith }
  | inr high ↦
      let h = in_six (r - 6) n (omega (arith, lt, high)) in
      let e = h.is in
      let w = h.within in
      record { map = suc h.map; at = h.at; within = omega (arith, w); one = h.one; is = omega (arith, e, high) }
]

-- ---- all of them
module _ (z : Sizes) where
  -- a number of a range has a part of its sort
  at : (n m : ℕ) → n ≡ m → part.part n ≡ part.part m
  at n m e = ap part.part e

  behind : (n : ℕ) → behind_maps z ≤ n → n < part_count z → Sort z (part.part n)
  behind n low high = elim (cases_eq n (behind_maps z)) [
    | inl e ↦ Control (at n _ e)
    | inr o ↦ elim (cases_lt n (behind_maps z + z.commit + 2)) [
      | inl l ↦ Marks (n - (behind_maps z + 1)) (omega (arith, low, l, o)) (at n _ (omega (arith, low, o)))
      | inr h ↦ elim (cases_eq n (behind_maps z + z.commit + 2)) [
        | inl e ↦ Value (at n _ e)
        | inr p ↦ elim (cases_eq n (behind_maps z + z.commit + 3)) [
          | inl e ↦ Gather (at n _ e)
          | inr q ↦ elim (cases_eq n (behind_maps z + z.commit + 4)) [
            | inl e ↦ Exit (at n _ e)
            | inr r ↦ Place (n - (behind_maps z + z.commit + 5)) (omega (arith, high, h, p, q, r)) (at n _ (omega (arith, h, p, q, r)))
          ]
        ]
      ]
    ]
  ]

  of_map : (n : ℕ) → behind_words z + z.maps + 3 ≤ n → InSix (n - (behind_words z + z.maps + 3)) z.maps → Sort z (part.part n)
  of_map n low s = let e = s.is in OfMap s.map s.at s.within s.one (at n (behind_words z + z.maps + 3 + 6 * s.map + s.at) (omega (arith, e, low)))

  of_maps : (n : ℕ) → behind_words z ≤ n → n < part_count z → Sort z (part.part n)
  of_maps n low high = elim (cases_lt n (behind_words z + z.maps)) [
    | inl l ↦ Targets (n - behind_words z) (omega (arith, low, l)) (at n _ (omega (arith, low)))
    | inr h ↦ elim (cases_eq n (behind_words z + z.maps)) [
      | inl e ↦ Host (at n _ e)
      | inr o ↦ elim (cases_eq n (behind_words z + z.maps + 1)) [
        | inl e ↦ Action (at n _ e)
        | inr p ↦ elim (cases_eq n (behind_words z + z.maps + 2)) [
          | inl e ↦ Commits (at n _ e)
          | inr q ↦ elim (cases_lt n (behind_maps z)) [
            | inl l ↦ of_map n (omega (arith, h, o, p, q)) (in_six (n - (behind_words z + z.maps + 3)) z.maps (omega (arith, l, h, o, p, q)))
            | inr b ↦ behind n b high
          ]
        ]
      ]
    ]
  ]

  pub sort_of : (n : ℕ) → n < part_count z → Sort z (part.part n)
  sort_of n high = elim (cases_eq n 0) [
    | inl e ↦ Scatter (at n _ e)
    | inr o ↦ elim (cases_lt n (2 + z.commit)) [
      | inl l ↦ Reload (n - 1) (omega (arith, l, o)) (at n _ (omega (arith, o)))
      | inr h ↦ elim (cases_eq n (2 + z.commit)) [
        | inl e ↦ Returns (at n _ e)
        | inr p ↦ elim (cases_eq n (3 + z.commit)) [
          | inl e ↦ Sources (at n _ e)
          | inr q ↦ elim (cases_lt n (4 + z.commit + z.maps)) [
            | inl l ↦ Slots (n - (4 + z.commit)) (omega (arith, l, h, p, q)) (at n _ (omega (arith, h, p, q)))
            | inr b ↦ elim (cases_lt n (4 + z.commit + z.maps + z.loads)) [
              | inl l ↦ Word (n - (4 + z.commit + z.maps)) (omega (arith, l, b)) (at n _ (omega (arith, b)))
              | inr c ↦ of_maps n c high
            ]
          ]
        ]
      ]
    ]
  ]

  -- ---- a part that there is has a number of the count, and each of these is there
  pub below : (from n : ℕ) (p : Part) → Among p (map part.part (numbers from n)) → p.number < from + n
  below from zero p a = absurd a
  below from (suc n) p (inl e) = let same : p.number ≡ from = ap (λ (q : Part). q.number) e in omega (arith, same)
  below from (suc n) p (inr a) = let h = below (suc from) n p a in omega (arith, h)

  pub sort : (p : Part) → Among p (parts_of z) → Sort z p
  sort p a = let h = below 0 (part_count z) p a in sort_of p.number (omega (arith, h))

  among : (from n k : ℕ) → from ≤ k → k < from + n → Among (part.part k) (map part.part (numbers from n))
  among from zero k h lt = absurd (omega arith)
  among from (suc n) k h lt = elim (cases_eq k from) [
    | inl e ↦ inl (ap part.part e)
    | inr o ↦ inr (among (suc from) n k (omega arith) (omega arith))
  ]

  pub is_there : (d : Whole Part) → d.parts ≡ parts_of z → (k : ℕ) → k < part_count z → Among (part.part k) d.parts
  is_there d parts k lt = subst (Among (part.part k)) (sym parts) (among 0 (part_count z) k (omega arith) (omega (arith, lt)))
