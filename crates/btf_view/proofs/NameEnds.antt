-- Where names end: the first zero byte of what stands after a place.
use Rattle.std.proofs.Common.{◌≡◌, ◌≢◌, ℕ, ◌+◌, ◌-◌, ◌<◌, ◌≤◌, ◌==◌, Bool, true, false, ltb, cond, List, length, get_or, take, drop, position, Option, Some, None, is_some, refl, sym, ap, ◌∙◌, arith, inl, inr}
use Rattle.std.proofs.lemmas.Bool.{cases_lt, false≢true, false_from_ne_true, lt-ltb, le-ltb}
use Rattle.std.proofs.lemmas.Bool.Decides.{nat_tests}
use Rattle.std.proofs.lemmas.List.{get_or-drop, get_or-take, length-drop, length-take, take-take}
use Rattle.std.proofs.lemmas.List.Sums.{fails_before_first, passes_at_first, position_or_len_is}
use Rattle.std.proofs.lemmas.Slice.Eq.{bytes_eq-Decides}
use Rattle.std.specs.List.{position_or_len}
use Rattle.std.specs.Option.{option_map, option_map_or}
use Rattle.std.specs.Str.{bytes_eq}
use Rattle.btf_view.specs.Names.{HasNamesBelow, is_named, name_at}

abbrev pub is_zero : ℕ → Bool
is_zero b = b == 0

abbrev pub first : List ℕ → ℕ
first xs = position_or_len is_zero xs

-- ---- whether there is one

is_zero-other : (b : ℕ) → b ≢ 0 → is_zero b ≡ false
is_zero-other b h = grind (arith, nat_tests)

first-found : (xs : List ℕ) (k : ℕ) → k < length xs → get_or xs k 0 ≡ 0 → first xs < length xs
first-found xs k inside zero = elim (cases_lt (first xs) (length xs)) [
  | inl found ↦ found
  | inr past ↦
      let fails = fails_before_first is_zero xs k 0 (omega arith) in
      absurd (false≢true (sym fails ∙ ap is_zero zero))
]

first-none : (xs : List ℕ) → ((k : ℕ) → k < length xs → get_or xs k 0 ≢ 0) → first xs ≡ length xs
first-none xs none =
    position_or_len_is is_zero xs (length xs) 0 (omega arith) (λ k h. is_zero-other (get_or xs k 0) (none k h))
    (λ h. absurd (omega arith))

is_some-cond : (f : ℕ → List ℕ) (b : Bool) (n : ℕ) → is_some (option_map f (cond b (Some n) None)) ≡ b
is_some-cond f true n = refl
is_some-cond f false n = refl

is_some-name_at : (strings : List ℕ) (at : ℕ)
    → is_some (name_at strings at) ≡ ltb (first (drop at strings)) (length (drop at strings))
unfolding name_at
is_some-name_at strings at =
    is_some-cond (λ n. take n (drop at strings)) (ltb (first (drop at strings)) (length (drop at strings))) (first (drop at strings))

-- names end after the last zero byte
pub HasNamesBelow-last_zero : (strings : List ℕ) (end : ℕ) → end ≤ length strings
    → ((k : ℕ) → end ≤ k → k < length strings → get_or strings k 0 ≢ 0)
    → (0 < end → get_or strings (end - 1) 0 ≡ 0)
    → HasNamesBelow strings end
HasNamesBelow-last_zero strings end inside none last at =
    let size = length-drop at strings in
    is_some-name_at strings at ∙ elim (cases_lt at end) [
      | inl front ↦
          let k : ℕ = end - 1 - at in
          let place : at + k ≡ end - 1 = omega arith in
          let zero = get_or-drop at strings k 0 ∙ ap (λ i. get_or strings i 0) place ∙ last (omega arith) in
          lt-ltb _ _ (first-found (drop at strings) k (omega arith) zero) ∙ sym (lt-ltb at end front)
      | inr behind ↦
          let all = first-none (drop at strings)
          (λ k h e. none (at + k) (omega arith) (omega arith) (sym (get_or-drop at strings k 0) ∙ e)) in
          le-ltb _ _ (omega arith) ∙ sym (le-ltb at end behind)
    ]

-- ---- in a window

-- the test that is made of the bytes in front of the first zero byte
abbrev pub compared : List ℕ → List ℕ → Bool
compared xs name = option_map_or (λ n. bytes_eq (take n xs) name) (position is_zero xs) false

compared-found : (xs name : List ℕ) (n : ℕ) → first xs ≡ n → n < length xs → compared xs name ≡ bytes_eq (take n xs) name
compared-found xs name n e inside =
    ap (λ k. option_map_or (λ n. bytes_eq (take n xs) name) (cond (ltb k (length xs)) (Some k) None) false) e
    ∙ ap (λ b. option_map_or (λ n. bytes_eq (take n xs) name) (cond b (Some n) None) false) (lt-ltb n (length xs) inside)

compared-none : (xs name : List ℕ) → length xs ≤ first xs → compared xs name ≡ false
compared-none xs name past =
    ap (λ b. option_map_or (λ n. bytes_eq (take n xs) name) (cond b (Some (first xs)) None) false)
    (le-ltb (first xs) (length xs) past)

longer : (xs name : List ℕ) (n : ℕ) → n ≤ length xs → length name < n → bytes_eq (take n xs) name ≡ false
longer xs name n inside more = false_from_ne_true _ (λ e.
    let same = ap length ((bytes_eq-Decides (take n xs) name).0 e) in
    absurd (omega (arith, length-take n xs)))

-- a zero byte in a window is the first
first-take : (xs : List ℕ) (m : ℕ) → first (take m xs) < length (take m xs) → first xs ≡ first (take m xs)
first-take xs m found =
    let size = length-take m xs in
    let same : (k : ℕ) → k ≤ first (take m xs) → get_or xs k 0 ≡ get_or (take m xs) k 0 =
    λ k h. sym (get_or-take m xs k 0 (omega arith)) in
    position_or_len_is is_zero xs (first (take m xs)) 0 (omega arith)
    (λ k h. ap is_zero (same k (omega arith)) ∙ fails_before_first is_zero (take m xs) k 0 h)
    (λ _. ap is_zero (same (first (take m xs)) (omega arith)) ∙ passes_at_first is_zero (take m xs) 0 found)

-- where a window has none, the first stands after it
first-behind : (xs : List ℕ) (m : ℕ) → length (take m xs) ≤ first (take m xs) → first xs < length xs → m ≤ first xs
first-behind xs m none found = elim (cases_lt (first xs) m) [
  | inl front ↦
      let fails = fails_before_first is_zero (take m xs) (first xs) 0 (omega (arith, length-take m xs)) in
      let same = ap is_zero (get_or-take m xs (first xs) 0 front) in
      absurd (false≢true (sym fails ∙ same ∙ passes_at_first is_zero xs 0 found))
  | inr behind ↦ behind
]

-- a name of fewer than m bytes is looked for in a window of m
compared-take : (xs name : List ℕ) (m : ℕ) → length name < m → compared (take m xs) name ≡ compared xs name
compared-take xs name m more = elim (cases_lt (first (take m xs)) (length (take m xs))) [
  | inl found ↦
      let size = length-take m xs in
      let n : ℕ = first (take m xs) in
      compared-found (take m xs) name n refl found
      ∙ ap (λ ys. bytes_eq ys name) (take-take n m xs (omega arith))
      ∙ sym (compared-found xs name n (first-take xs m found) (omega arith))
  | inr none ↦ compared-none (take m xs) name none ∙ elim (cases_lt (first xs) (length xs)) [
    | inl found ↦
        let behind = first-behind xs m none found in
        sym (compared-found xs name (first xs) refl found ∙ longer xs name (first xs) (omega arith) (omega arith))
    | inr past ↦ sym (compared-none xs name past)
  ]
]

option_map_or-map : (f : ℕ → List ℕ) (g : List ℕ → Bool) (o : Option ℕ) → option_map_or g (option_map f o) false ≡ option_map_or (λ n. g (f n)) o false
option_map_or-map f g None = refl
option_map_or-map f g (Some n) = refl

pub is_named-window : (strings name window : List ℕ) (at : ℕ) → window ≡ take (length name + 1) (drop at strings)
    → is_named strings at name ≡ compared window name
unfolding is_named name_at
is_named-window strings name window at e =
    option_map_or-map (λ n. take n (drop at strings)) (λ n. bytes_eq n name) (position is_zero (drop at strings))
    ∙ sym (ap (λ xs. compared xs name) e ∙ compared-take (drop at strings) name (length name + 1) (omega arith))
