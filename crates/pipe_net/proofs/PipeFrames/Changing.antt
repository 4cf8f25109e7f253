-- A frame with the bytes that a packet changes.
use Rattle.std.specs.Prelude.{◌≡◌, ◌≢◌, ℕ, zero, suc, ◌%◌, ◌/◌, ◌^◌, ◌<◌, List, [], ◌∷◌, length, slice_set, map, Contains}
use Rattle.std.proofs.Common.{get_or, refl, sym, ap, ◌∙◌, arith, inl, inr, length-set, get_or-set_other, get_or-set_same}
use Rattle.std.proofs.lemmas.Bool.{cases_eq, cases_lt}
use Rattle.std.proofs.Math.Nat.{mod-eq_of_lt}
use Rattle.std.proofs.lemmas.List.{get_or_default}
use Rattle.beat_core.specs.list_laws.Bytes.{IsBytes}
use Rattle.hazard_core.specs.cell_core.declared.program.FrameByte.{FrameByte}
use Rattle.hazard_core.specs.cell_core.Cells.{bits_from}
use Rattle.hazard_core.specs.cell_core.Sites.{with_bytes}

-- a number that fits is its low bits
pub bits_small : (n k : ℕ) → n < 2 ^ k → bits_from n 0 k ≡ n
bits_small n k h = let e : n / 2 ^ 0 ≡ n = omega arith in ap (λ m. m % 2 ^ k) e ∙ mod-eq_of_lt h

-- a byte that none of them is
pub with_bytes_other : (v : ℕ → ℕ) (frame : List ℕ) (bs : List FrameByte) (at : ℕ) → ((j : ℕ) (d : FrameByte) → j < length bs → (get_or bs j d).at ≢ at) → get_or (with_bytes v frame bs) at 0 ≡ get_or frame at 0
with_bytes_other v frame [] at h = refl
with_bytes_other v frame (b ∷ bs) at h =
    with_bytes_other v (slice_set frame b.at (v b.cell)) bs at (λ j d lt. h (suc j) d (omega arith))
    ∙ get_or-set_other frame b.at at (v b.cell) 0 (λ (e : at ≡ b.at). h 0 b (omega arith) (sym e))

-- no byte is changed twice
pub record AreOnce (bs : List FrameByte) : Type 0 where
  pub once : (i j : ℕ) (d : FrameByte) → i < j → j < length bs → (get_or bs i d).at ≢ (get_or bs j d).at

once_more : (b : FrameByte) (bs : List FrameByte) → AreOnce (b ∷ bs) → AreOnce bs
once_more b bs h = record { once = λ i j d lt m. h.once (suc i) (suc j) d (omega arith) (omega arith) }

pub with_bytes_at : (v : ℕ → ℕ) (frame : List ℕ) (bs : List FrameByte) → AreOnce bs → (j : ℕ) (d : FrameByte) → j < length bs → (get_or bs j d).at < length frame
    → get_or (with_bytes v frame bs) (get_or bs j d).at 0 ≡ v (get_or bs j d).cell
with_bytes_at v frame [] once j d lt m = absurd (omega arith)
with_bytes_at v frame (b ∷ bs) once zero d lt m =
    with_bytes_other v (slice_set frame b.at (v b.cell)) bs b.at (λ k dflt l e. once.once 0 (suc k) dflt (omega arith) (omega arith) (sym e)) ∙ get_or-set_same frame b.at (v b.cell) 0 m
with_bytes_at v frame (b ∷ bs) once (suc j) d lt m =
    with_bytes_at v (slice_set frame b.at (v b.cell)) bs (once_more b bs once) j d (omega arith) (let n = length-set frame b.at (v b.cell) in omega (arith, n, m))

-- ---- no two bytes are in the same place

pub same_byte : (bs : List FrameByte) → AreOnce bs → (x y : FrameByte) → Contains bs x → Contains bs y → x.at ≡ y.at → x ≡ y
same_byte bs once x y p q e =
    let there : get_or bs p.0 y ≡ x = get_or_default bs p.0 y x p.1 ∙ p.2 in
    let here : get_or bs q.0 x ≡ y = get_or_default bs q.0 x y q.1 ∙ q.2 in
    elim (cases_eq p.0 q.0) [
      | inl same ↦ sym there ∙ ap (λ n. get_or bs n y) same ∙ q.2
      | inr other ↦ elim (cases_lt p.0 q.0) [
        | inl low ↦ absurd (once.once p.0 q.0 y low q.1 (ap (λ (b : FrameByte). b.at) there ∙ e ∙ ap (λ (b : FrameByte). b.at) (sym q.2)))
        | inr high ↦ absurd (once.once q.0 p.0 x (omega (arith, high, other)) p.1 (ap (λ (b : FrameByte). b.at) here ∙ sym e ∙ ap (λ (b : FrameByte). b.at) (sym p.2)))
      ]
    ]

-- what is in a list of values is the value of an element
pub element_of : {X Y : Type 0} (f : X → Y) (xs : List X) (n : ℕ) (y : Y) → n < length (map f xs) → get_or (map f xs) n y ≡ y → (x : X) × Contains xs x × (f x ≡ y)
element_of f [] n y lt e = absurd (omega arith)
element_of f (x ∷ xs) zero y lt e = (x, (0, omega arith, refl), e)
element_of f (x ∷ xs) (suc n) y lt e = let r = element_of f xs n y (omega (arith, lt)) e in let c = r.1 in (r.0, (suc c.0, (let l = c.1 in omega (arith, l)), c.2), r.2)
