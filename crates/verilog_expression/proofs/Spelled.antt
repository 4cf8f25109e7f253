-- A span that is cut off at the end of its text spells the same.
use Rattle.std.proofs.Common.{◌≡◌, ℕ, ◌-◌, ◌<◌, ◌≤◌, inl, inr, min, List, [], length, take, drop, slice_range, refl, sym, ◌∙◌, arith}
use Rattle.std.proofs.lemmas.Bool.{cases_lt}
use Rattle.std.proofs.lemmas.List.{take_all, drop_all, length-drop}

-- nothing is taken where the start is not below the end
none_taken : (xs : List ℕ) (a b : ℕ) → a ≡ 0 → b ≡ 0 → (ys : List ℕ) → take a xs ≡ take b ys
none_taken xs a b p q ys = rw (p, q) refl

-- all is taken of what is shorter
all_taken : (xs : List ℕ) (a b : ℕ) → length xs ≤ a → length xs ≤ b → take a xs ≡ take b xs
all_taken xs a b p q = take_all a xs p ∙ sym (take_all b xs q)

short : (text : List ℕ) (start to : ℕ) → length text < to → take (length text - min start (length text)) (drop (min start (length text)) text) ≡ take (to - start) (drop start text)
short text start to h = elim (cases_lt start (length text)) [
  | inl k ↦
      let e : min start (length text) ≡ start = omega arith in
      rw e (all_taken (drop start text) _ _ (omega (arith, length-drop start text)) (omega (arith, length-drop start text)))
  | inr k ↦
      let e : min start (length text) ≡ length text = omega arith in
      rw (e, drop_all start text k, drop_all (length text) text (omega arith)) (all_taken [] _ _ (omega arith) (omega arith))
]

long : (text : List ℕ) (start to : ℕ) → take (to - min start to) (drop (min start to) text) ≡ take (to - start) (drop start text)
long text start to = elim (cases_lt start to) [
  | inl k ↦ let e : min start to ≡ start = omega arith in rw e refl
  | inr k ↦ none_taken (drop (min start to) text) _ _ (omega arith) (omega arith) (drop start text)
]

pub within : (text : List ℕ) (start to : ℕ) → slice_range text (min start (min to (length text))) (min to (length text)) ≡ slice_range text start to
within text start to = elim (cases_lt (length text) to) [
  | inl k ↦ let e : min to (length text) ≡ length text = omega arith in rw e (short text start to k)
  | inr k ↦ let e : min to (length text) ≡ to = omega arith in rw e (long text start to)
]
