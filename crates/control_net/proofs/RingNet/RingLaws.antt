-- Slots and laps.
use Rattle.std.specs.Prelude.{◌≡◌, ◌≢◌, ℕ, zero, suc, ◌+◌, ◌-◌, ◌<◌, ◌≤◌, ◌==◌, cond, Bool, true, false}
use Rattle.std.proofs.Common.{not, refl, sym, ap, ◌∙◌, arith, inl, inr}
use Rattle.std.proofs.lemmas.Bool.{eqb-true, eqb-false, cases_lt}
use Rattle.block_core.proofs.list_laws_laws.BoolLaws.{by_test}
use Rattle.control_net.specs.RingNet.Ring.{slot, lap, IsNear, AreDistinct}

pub slot_small : (n k : ℕ) → 0 < n → slot n k < n
slot_small n zero h = h
slot_small n (suc k) h =
    let i = slot_small n k h in
    by_test (λ b. cond b 0 (suc (slot n k)) < n) (slot n k + 1 == n) (λ e. h) (λ e. let o = eqb-false (slot n k + 1) n e in let o' : slot n k + 1 ≢ n = o in omega arith)

-- d frames further on, slot and lap are these
pub record Further (n s : ℕ) (l : Bool) (d s' : ℕ) (l' : Bool) : Type 0 where
  pub near : s + d < n → (s' ≡ s + d) × (l' ≡ l)
  pub far : n ≤ s + d → (s' ≡ s + d - n) × (l' ≡ not l)

turned : (n s : ℕ) (l : Bool) (d s' : ℕ) (l' : Bool) → Further n s l d s' l' → s < n → suc d ≤ n → s' + 1 ≡ n → Further n s l (suc d) 0 (not l')
turned n s l d s' l' f h k e = record {
  near = λ q. let x = f.near (omega arith) in absurd (omega (arith, x.0));
  far = λ q. elim (cases_lt (s + d) n) [
    | inl lt ↦ let x = f.near lt in (omega (arith, x.0), ap not x.1)
    | inr r ↦ let x = f.far r in absurd (omega (arith, x.0))
  ];
}

followed : (n s : ℕ) (l : Bool) (d s' : ℕ) (l' : Bool) → Further n s l d s' l' → s < n → suc d ≤ n → s' + 1 ≢ n → Further n s l (suc d) (suc s') l'
followed n s l d s' l' f h k o = record {
  near = λ q. let x = f.near (omega arith) in (omega (arith, x.0), x.1);
  far = λ q. elim (cases_lt (s + d) n) [
    | inl lt ↦ let x = f.near lt in absurd (omega (arith, x.0))
    | inr r ↦ let x = f.far r in (omega (arith, x.0), x.1)
  ];
}

pub further : (n a d : ℕ) → 0 < n → d ≤ n → Further n (slot n a) (lap n a) d (slot n (a + d)) (lap n (a + d))
further n a zero h l =
    let e : a + 0 ≡ a = omega arith in
    let s = slot_small n a h in
    rw e (record { near = λ q. (omega arith, refl); far = λ q. absurd (omega arith) })
further n a (suc d) h l =
    let k : a + suc d ≡ suc (a + d) = omega arith in
    let s = slot_small n a h in
    let f = further n a d h (omega arith) in
    rw k
    (by_test (λ b. Further n (slot n a) (lap n a) (suc d) (cond b 0 (suc (slot n (a + d)))) (cond b (not (lap n (a + d))) (lap n (a + d)))) (slot n (a + d) + 1 == n)
    (λ e. turned n (slot n a) (lap n a) d (slot n (a + d)) (lap n (a + d)) f s l (eqb-true (slot n (a + d) + 1) n e))
    (λ e. followed n (slot n a) (lap n a) d (slot n (a + d)) (lap n (a + d)) f s l (eqb-false (slot n (a + d) + 1) n e)))

-- the same from one number to another
pub between : (n a b : ℕ) → IsNear n a b → Further n (slot n a) (lap n a) (b - a) (slot n b) (lap n b)
between n a b h = let e : a + (b - a) ≡ b = omega arith in rw e at (further n a (b - a) h.some (omega arith))

pub not_same : (b : Bool) → not b ≢ b
not_same true e = cc
not_same false e = cc

-- where the slots are the same, the laps are the same or differ
pub record Same (n a b : ℕ) : Type 0 where
  pub equal : lap n b ≡ lap n a → a ≡ b
  pub full : lap n b ≡ not (lap n a) → a + n ≡ b

pub same_slot : (n a b : ℕ) → IsNear n a b → slot n a ≡ slot n b → Same n a b
same_slot n a b h e =
    let s = slot_small n a h.some in
    let f = between n a b h in
    elim (cases_lt (slot n a + (b - a)) n) [
      | inl lt ↦ let x = f.near lt in record { equal = λ k. omega (arith, x.0); full = λ k. absurd (not_same (lap n a) (sym k ∙ x.1)) }
      | inr r ↦ let x = f.far r in record { equal = λ k. absurd (not_same (lap n a) (sym x.1 ∙ k)); full = λ k. omega (arith, x.0) }
    ]

-- a whole ring further on
pub around : (n a b : ℕ) → 0 < n → a + n ≡ b → (slot n a ≡ slot n b) × (lap n b ≡ not (lap n a))
around n a b h e =
    let s = slot_small n a h in
    let f = between n a b (record { some = h; after = omega arith; most = omega arith }) in
    let x = f.far (omega arith) in
    (omega (arith, x.0), x.1)

other : (a b : Bool) → a ≢ b → b ≡ not a
other true true h = absurd (h refl)
other true false h = refl
other false true h = refl
other false false h = absurd (h refl)

pub slots_apart : (n a b : ℕ) → a < b → b < a + n → slot n a ≢ slot n b
slots_apart n a b h k e =
    let s = slot_small n a (omega arith) in
    let f = between n a b (record { some = omega arith; after = omega arith; most = omega arith }) in
    elim (cases_lt (slot n a + (b - a)) n) [
      | inl lt ↦ let x = f.near lt in omega (arith, x.0)
      | inr r ↦ let x = f.far r in omega (arith, x.0)
    ]

pub apart : AreDistinct
apart = record {
  small = slot_small;
  equal = λ n a b h. (
    λ e. (same_slot n a b h e.0).equal (sym e.1),
    λ e. (ap (slot n) e, ap (lap n) e),
  );
  full = λ n a b h. (
    λ e. (same_slot n a b h e.0).full (other (lap n a) (lap n b) e.1),
    λ e. let x = around n a b h.some e in (x.0, λ k. not_same (lap n a) (sym x.1 ∙ sym k)),
  );
  apart = slots_apart;
}
