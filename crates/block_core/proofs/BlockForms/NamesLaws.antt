-- The names of a linked design are names, and no two of them are the same.
use Rattle.std.specs.Prelude.{◌≡◌, ℕ, zero, suc, ◌+◌, ◌^◌, ◌<◌, ◌≤◌, nat_eq, Bool, true, false, ◌&&◌, ◌||◌, List, [], ◌∷◌, ◌++◌, length, take, drop, codes}
use Rattle.std.specs.Str.{bytes_eq, all_ascii_digits}
use Rattle.std.specs.Char.{is_ascii_digit}
use Rattle.std.specs.List.{list_any, list_all}
use Rattle.std.specs.Cmp.Lexicographic.{pointwise}
use Rattle.std.specs.Fmt.{decimal}
use Rattle.std.proofs.Common.{get_or, not, refl, sym, ap, ◌∙◌, subst, append_assoc, length-append, arith}
use Rattle.std.proofs.lemmas.Bool.{and_parts, and_from, or_right, false_from_ne_true}
use Rattle.std.proofs.lemmas.List.{append-nil, get_or_at}
use Rattle.std.proofs.lemmas.Slice.Eq.{bytes_eq-Decides}
use Rattle.std.proofs.lemmas.Fmt.{decimal_injective, digits_decimal}
use Rattle.std.proofs.lemmas.Str.Parse.{numerals_by_value, tells_all_ascii_digits}
use Rattle.net_core.specs.Ports.{port_names}
use Rattle.design_rules.specs.FormedSyntax.{is_digit, begins_name, continues_name, is_name}
use Rattle.block_core.specs.Link.{all_registers, all_memories, all_wires, numbered, net_names}
use Rattle.block_core.specs.BlockForms.WellFormed.{all_new, NumbersAreNames}

-- each is a name, and none of those before it
abbrev pub AllFresh : List (List ℕ) → List (List ℕ) → Type 0
AllFresh before [] = Unit {0}
AllFresh before (x ∷ xs) = (is_name x ≡ true) × (list_any (bytes_eq x) before ≡ false) × AllFresh (before ++ x ∷ []) xs

not_true : (b : Bool) → not b ≡ true → b ≡ false
not_true true h = cc
not_true false h = refl

pub fresh_from : (before xs : List (List ℕ)) → all_new before xs ≡ true → AllFresh before xs
fresh_from before [] h = tt
fresh_from before (x ∷ xs) h =
    let p = and_parts (is_name x) (not (list_any (bytes_eq x) before) && all_new (before ++ x ∷ []) xs) h in
    let q = and_parts (not (list_any (bytes_eq x) before)) (all_new (before ++ x ∷ []) xs) p.1 in
    (p.0, not_true _ q.0, fresh_from (before ++ x ∷ []) xs q.1)

new_from : (before xs : List (List ℕ)) → AllFresh before xs → all_new before xs ≡ true
new_from before [] h = refl
new_from before (x ∷ xs) h = and_from _ _ h.0 (and_from _ _ (ap not h.1) (new_from (before ++ x ∷ []) xs h.2))

-- the name at a place is a name, and none of those before it
abbrev pub FreshAt : List (List ℕ) → ℕ → Type 0
FreshAt names k = (is_name (get_or names k []) ≡ true) × (list_any (bytes_eq (get_or names k [])) (take k names) ≡ false)

fresh_append : (before xs ys : List (List ℕ)) → AllFresh before xs → AllFresh (before ++ xs) ys → AllFresh before (xs ++ ys)
fresh_append before [] ys h k = subst (λ b. AllFresh b ys) (append-nil before) k
fresh_append before (x ∷ xs) ys h k = (h.0, h.1, fresh_append (before ++ x ∷ []) xs ys h.2 (subst (λ b. AllFresh b ys) (sym (append_assoc before (x ∷ []) xs)) k))

take_front : (before rest : List (List ℕ)) → take (length before) (before ++ rest) ≡ before
take_front [] rest = refl
take_front (x ∷ before) rest = ap (λ l. x ∷ l) (take_front before rest)

pub fresh_at : (before xs : List (List ℕ)) → AllFresh before xs → (i : ℕ) → i < length xs → FreshAt (before ++ xs) (length before + i)
fresh_at before [] h i l = absurd (omega arith)
fresh_at before (x ∷ xs) h zero l =
    let k : length before + 0 ≡ length before = omega arith in
    let e : get_or (before ++ x ∷ xs) (length before) [] ≡ x = get_or_at before x xs [] (length before) refl in
    subst (λ n. FreshAt (before ++ x ∷ xs) n) (sym k)
    (ap is_name e ∙ h.0, ap (λ y. list_any (bytes_eq y) (take (length before) (before ++ x ∷ xs))) e ∙ ap (list_any (bytes_eq x)) (take_front before (x ∷ xs)) ∙ h.1)
fresh_at before (x ∷ xs) h (suc i) l =
    let k : length (before ++ x ∷ []) + i ≡ length before + suc i = (let e = length-append before (x ∷ []) in omega (arith, e)) in
    subst (λ n. FreshAt (before ++ x ∷ xs) n) k
    (subst (λ names. FreshAt names (length (before ++ x ∷ []) + i)) (append_assoc before (x ∷ []) xs) (fresh_at (before ++ x ∷ []) xs h.2 i (omega arith)))

-- ---- numbers after a letter
digits_continue : (cs : List ℕ) → all_ascii_digits cs ≡ true → list_all continues_name cs ≡ true
digits_continue [] h = refl
digits_continue (c ∷ cs) h =
    let p = and_parts (is_ascii_digit c) (all_ascii_digits cs) h in
    and_from (continues_name c) (list_all continues_name cs) (or_right (begins_name c) (is_digit c) p.0) (digits_continue cs p.1)

decimal_continues : (k : ℕ) → k < 2 ^ 64 → list_all continues_name (decimal k) ≡ true
decimal_continues k h = digits_continue (decimal k) (digits_decimal (numerals_by_value (λ ds. all_ascii_digits ds ≡ true) tells_all_ascii_digits) k h)

-- a letter, `_` and a number
abbrev named : ℕ → ℕ → List ℕ
named letter k = letter ∷ 95 ∷ decimal k

any_both : (p : List ℕ → Bool) (xs ys : List (List ℕ)) → list_any p xs ≡ false → list_any p ys ≡ false → list_any p (xs ++ ys) ≡ false
any_both p [] ys h k = k
any_both p (x ∷ xs) ys h k = none_both (p x) (list_any p xs) (list_any p (xs ++ ys)) h (λ h. any_both p xs ys h k)
  where
    none_both : (a b c : Bool) → (a || b) ≡ false → (b ≡ false → c ≡ false) → (a || c) ≡ false
    none_both true b c h k = h
    none_both false b c h k = k h

other_number : (letter k n : ℕ) → k < 2 ^ 64 → n < 2 ^ 64 → n < k → bytes_eq (named letter k) (named letter n) ≡ false
other_number letter k n hk hn l =
    false_from_ne_true (bytes_eq (named letter k) (named letter n))
    (λ e. let s = decimal_injective k n hk hn (ap (drop 2) ((bytes_eq-Decides (named letter k) (named letter n)).0 e)) in absurd (omega (arith, s)))

other_letter : (a b : ℕ) → nat_eq a b ≡ false → (k at n : ℕ) → list_any (bytes_eq (named a k)) (numbered (b ∷ 95 ∷ []) at n) ≡ false
other_letter a b h k at zero = refl
other_letter a b h k at (suc n) = ap (λ t. (t && pointwise nat_eq (95 ∷ decimal k) (95 ∷ decimal at)) || list_any (bytes_eq (named a k)) (numbered (b ∷ 95 ∷ []) (suc at) n)) h ∙ other_letter a b h k (suc at) n

numbered_fresh : (letter : ℕ) → ((k : ℕ) → k < 2 ^ 64 → is_name (named letter k) ≡ true) → (before : List (List ℕ)) (at n : ℕ) → at + n ≤ 2 ^ 64
    → ((k : ℕ) → at ≤ k → k < 2 ^ 64 → list_any (bytes_eq (named letter k)) before ≡ false) → AllFresh before (numbered (letter ∷ 95 ∷ []) at n)
numbered_fresh letter name before at zero l h = tt
numbered_fresh letter name before at (suc n) l h = (
  name at (omega arith),
  h at (omega arith) (omega arith),
  numbered_fresh letter name (before ++ named letter at ∷ []) (suc at) n (omega arith)
      (λ k a b. any_both (bytes_eq (named letter k)) before (named letter at ∷ []) (h k (omega arith) b) (ap (λ t. t || false) (other_number letter k at b (omega arith) (omega arith)))),
)

registers_named : (k : ℕ) → k < 2 ^ 64 → is_name (named 114 k) ≡ true
registers_named k h = ap (λ t. t && true) (decimal_continues k h)

memories_named : (k : ℕ) → k < 2 ^ 64 → is_name (named 109 k) ≡ true
memories_named k h = ap (λ t. t && true) (decimal_continues k h)

wires_named : (k : ℕ) → k < 2 ^ 64 → is_name (named 119 k) ≡ true
wires_named k h = ap (λ t. t && true) (decimal_continues k h)

names_fresh : (r m w : ℕ) → r < 2 ^ 64 → m < 2 ^ 64 → w < 2 ^ 64 → AllFresh port_names (net_names r m w)
names_fresh r m w hr hm hw =
    let first = port_names ++ codes "i_0" ∷ [] in
    let rs = numbered (codes "r_") 0 r in
    let ms = numbered (codes "m_") 0 m in (
      refl,
      refl,
      fresh_append first rs (ms ++ numbered (codes "w_") 0 w)
          (numbered_fresh 114 registers_named first 0 r (omega arith) (λ k a b. refl))
          (fresh_append (first ++ rs) ms (numbered (codes "w_") 0 w)
          (numbered_fresh 109 memories_named (first ++ rs) 0 m (omega arith) (λ k a b. any_both (bytes_eq (named 109 k)) first rs refl (other_letter 109 114 refl k 0 r)))
          (numbered_fresh 119 wires_named ((first ++ rs) ++ ms) 0 w (omega arith)
          (λ k a b. any_both (bytes_eq (named 119 k)) (first ++ rs) ms (any_both (bytes_eq (named 119 k)) first rs refl (other_letter 119 114 refl k 0 r)) (other_letter 119 109 refl k 0 m)))),
    )

numbered_count : (letter : List ℕ) (at n : ℕ) → length (numbered letter at n) ≡ n
numbered_count letter at zero = refl
numbered_count letter at (suc n) = ap (λ (k : ℕ). suc k) (numbered_count letter (suc at) n)

names_count : (r m w : ℕ) → length (net_names r m w) ≡ 1 + (r + (m + w))
names_count r m w =
    let rs = numbered (codes "r_") 0 r in
    let ms = numbered (codes "m_") 0 m in
    let ws = numbered (codes "w_") 0 w in
    let a = length-append rs (ms ++ ws) in
    let b = length-append ms ws in
    let x = numbered_count (codes "r_") 0 r in
    let y = numbered_count (codes "m_") 0 m in
    let z = numbered_count (codes "w_") 0 w in
    omega (arith, a, b, x, y, z)

pub numbers_are_names : (P : Type 0) → NumbersAreNames P
numbers_are_names P d few = record {
  count = names_count (length (all_registers d d.parts)) (length (all_memories d d.parts)) (length (all_wires d d.parts));
  new = new_from port_names (net_names (length (all_registers d d.parts)) (length (all_memories d d.parts)) (length (all_wires d d.parts))) (names_fresh (length (all_registers d d.parts)) (length (all_memories d d.parts)) (length (all_wires d d.parts)) few.registers few.memories few.wires);
}
