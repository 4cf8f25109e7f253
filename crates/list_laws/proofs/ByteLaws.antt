-- Lists of bytes: parts of one, two joined, one byte written, and two that are the same.
use Rattle.std.specs.Prelude.{◌<◌, slice_set, All}
use Rattle.std.proofs.Common.{◌≡◌, ℕ, zero, suc, Bool, true, false, refl, sym, ◌∙◌, List, [], ◌∷◌, ◌++◌, take, drop, ◌+◌, arith, inl, inr}
use Rattle.std.specs.Str.{bytes_eq}
use Rattle.std.proofs.lemmas.Bool.{cases_lt}
use Rattle.std.proofs.lemmas.Slice.Eq.{bytes_eq-Decides}
use Rattle.std.proofs.lemmas.List.{length-take, get_or-take, get_or-drop, get_or_past, get_or_default}
use Rattle.list_laws.specs.Bytes.{IsBytes}

pub IsBytes-take : (n : ℕ) (xs : List ℕ) → IsBytes xs → IsBytes (take n xs)
IsBytes-take n xs h i = elim (cases_lt i n) [
  | inl below ↦ rw (get_or-take n xs i 0 below) (h i)
  | inr past ↦ rw (get_or_past (take n xs) i 0 (omega (arith, length-take n xs))) (omega arith)
]

pub IsBytes-drop : (n : ℕ) (xs : List ℕ) → IsBytes xs → IsBytes (drop n xs)
IsBytes-drop n xs h i = rw get_or-drop (h (n + i))

pub IsBytes-append : (xs ys : List ℕ) → IsBytes xs → IsBytes ys → IsBytes (xs ++ ys)
IsBytes-append [] ys h k i = k i
IsBytes-append (x ∷ xs) ys h k zero = h 0
IsBytes-append (x ∷ xs) ys h k (suc i) = IsBytes-append xs ys (λ j. h (suc j)) k i

pub IsBytes-set : (xs : List ℕ) (k x : ℕ) → x < 256 → IsBytes xs → IsBytes (slice_set xs k x)
IsBytes-set [] k x h b i = b i
IsBytes-set (y ∷ ys) zero x h b zero = h
IsBytes-set (y ∷ ys) zero x h b (suc i) = b (suc i)
IsBytes-set (y ∷ ys) (suc k) x h b zero = b 0
IsBytes-set (y ∷ ys) (suc k) x h b (suc i) = IsBytes-set ys k x h (λ j. b (suc j)) i

pub bytes_turn : (a b : List ℕ) → bytes_eq a b ≡ bytes_eq b a
bytes_turn a b = by (bytes_eq a b) (bytes_eq b a) refl refl
  where
    by : (s t : Bool) → bytes_eq a b ≡ s → bytes_eq b a ≡ t → s ≡ t
    by true true e f = refl
    by true false e f = let g : true ≡ false = sym ((bytes_eq-Decides b a).1 (sym ((bytes_eq-Decides a b).0 e))) ∙ f in absurd (cc)
    by false true e f = let g : true ≡ false = sym ((bytes_eq-Decides a b).1 (sym ((bytes_eq-Decides b a).0 f))) ∙ e in absurd (cc)
    by false false e f = refl

-- bytes, as a property of each
pub all_bytes : (xs : List ℕ) → IsBytes xs → All (λ b. b < 256) xs
all_bytes xs h k d lt = omega (arith, h k, get_or_default xs k d 0 lt)
