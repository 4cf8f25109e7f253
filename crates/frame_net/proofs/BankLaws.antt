-- The memories of beats, and which slots they hold.
use Rattle.std.specs.Prelude.{◌≡◌, ℕ, zero, suc, ◌+◌, ◌-◌, ◌*◌, ◌/◌, ◌%◌, ◌^◌, ◌<◌, ◌≤◌, nat_le, if◌then◌else◌, Bool, true, false, List, [], ◌∷◌, ◌++◌, length, map}
use Rattle.std.proofs.Common.{get_or, refl, sym, ap, ◌∙◌, arith, length-append, append_assoc, append-nil}
use Rattle.std.proofs.Math.Nat.{pow-le-pow_right, mod-lt, mod-eq_of_lt}
use Rattle.std.proofs.lemmas.Nat.{pow-add, pow_pos, div_below}
use Rattle.std.proofs.lemmas.Bool.{le-leb, lt-ltb}
use Rattle.std.proofs.lemmas.Bool.Decides.{nat_tests}
use Rattle.std.proofs.lemmas.List.{length-map}
use Rattle.net_core.specs.Width.{Scope, width_of, part_select_width}
use Rattle.net_core.specs.Value.{word, part_select}
use Rattle.frame_net.specs.declared.held.Kept.{Kept}
use Rattle.frame_net.specs.declared.held.Kept.TheVariants.{Ifindex}
use Rattle.frame_net.specs.declared.held.Further.{Further}
use Rattle.frame_net.specs.declared.held.Further.TheVariants.{Kept as Keep, Bank}
use Rattle.frame_net.specs.Frames.{bank_bits, banks, banks_from, further}
use Rattle.frame_net.specs.GatherNets.{in_bank}
use Rattle.frame_net.proofs.FormLaws.{same_is}

-- ---- lists
pub map_at : {A B : Type 0} (f : A → B) (xs : List A) (k : ℕ) (d : B) (e : A) → k < length xs → get_or (map f xs) k d ≡ f (get_or xs k e)
map_at f [] k d e l = absurd (omega arith)
map_at f (x ∷ xs) zero d e l = refl
map_at f (x ∷ xs) (suc k) d e l = map_at f xs k d e (omega arith)

pub item_kept : (kept : List Kept) (ys : List Further) (k : ℕ) (e : Further) → k < length kept → get_or (map Keep kept ++ ys) k e ≡ Keep (get_or kept k Ifindex)
item_kept [] ys k e l = absurd (omega arith)
item_kept (x ∷ kept) ys zero e l = refl
item_kept (x ∷ kept) ys (suc k) e l = item_kept kept ys k e (omega arith)

bank_at : (b n j : ℕ) (e : Further) → j < n → get_or (banks_from b n) j e ≡ Bank (b + j)
bank_at b zero j e l = absurd (omega arith)
bank_at b (suc n) zero e l = let z : b ≡ b + 0 = omega arith in ap Bank z
bank_at b (suc n) (suc j) e l = let z : suc b + j ≡ b + suc j = omega arith in bank_at (suc b) n j e (omega arith) ∙ ap Bank z

pub item_bank : (kept : List Kept) (b n j : ℕ) (e : Further) → j < n → get_or (map Keep kept ++ banks_from b n) (length kept + j) e ≡ Bank (b + j)
item_bank [] b n j e l = let z : 0 + j ≡ j = omega arith in ap (λ i. get_or (banks_from b n) i e) z ∙ bank_at b n j e l
item_bank (x ∷ kept) b n j e l = let z : suc (length kept) + j ≡ suc (length kept + j) = omega arith in ap (λ i. get_or (map Keep (x ∷ kept) ++ banks_from b n) i e) z ∙ item_bank kept b n j e l

count_banks : (b n : ℕ) → length (banks_from b n) ≡ n
count_banks b zero = refl
count_banks b (suc n) = ap suc (count_banks (suc b) n)

pub count_further : (bits : ℕ) (kept : List Kept) → length (further bits kept) ≡ length kept + (banks bits - 1)
count_further bits kept =
    let n : length (map Keep kept) ≡ length kept = length-map kept Keep in
    length-append (map Keep kept) (banks_from 1 (banks bits - 1)) ∙ omega (arith, n, count_banks 1 (banks bits - 1))

pub banks_few : (bits : ℕ) → banks bits ≤ 2 ^ bits
banks_few bits = pow-le-pow_right {n = 2} (omega arith) {i = bits - 5} {j = bits} (omega arith)

pub few_banks : (bits : ℕ) → bits ≤ 9 → banks bits ≤ 16
few_banks bits h = pow-le-pow_right {n = 2} (omega arith) {i = bits - 5} {j = 4} (omega arith)

pub few_further : (bits : ℕ) (kept : List Kept) → bits ≤ 9 → length kept ≤ 255 → length (further bits kept) ≤ 510
few_further bits kept h l = omega (arith, count_further bits kept, few_banks bits h)

-- one bank more in the loop that makes the list of memories
pub banks_more : (b n : ℕ) (front whole : List Further) → b < n → front ++ banks_from b (n - b) ≡ whole → (front ++ Bank b ∷ []) ++ banks_from (b + 1) (n - (b + 1)) ≡ whole
banks_more b n front whole l e =
    let m : n - b ≡ suc (n - (b + 1)) = omega arith in
    let s : b + 1 ≡ suc b = omega arith in
    append_assoc front (Bank b ∷ []) (banks_from (b + 1) (n - (b + 1))) ∙ ap (λ k. front ++ Bank b ∷ banks_from k (n - (b + 1))) s ∙ ap (λ k. front ++ banks_from b k) (sym m) ∙ e

pub banks_done : (b n : ℕ) (front whole : List Further) → n ≤ b → front ++ banks_from b (n - b) ≡ whole → front ≡ whole
banks_done b n front whole l e = let z : n - b ≡ 0 = omega arith in sym (append-nil front) ∙ ap (λ k. front ++ banks_from b k) (sym z) ∙ e

-- ---- slots
whole : (bits : ℕ) → 5 ≤ bits → 2 ^ bits ≡ banks bits * 32
whole bits h = let e : bits ≡ bits - 5 + 5 = omega arith in ap (λ n. 2 ^ n) e ∙ pow-add 2 (bits - 5) 5

pub bank_within : (bits at : ℕ) → at < 2 ^ bits → at / 32 < banks bits
bank_within bits at h = by_test (nat_le bits 5) refl
  where
    by_test : (t : Bool) → nat_le bits 5 ≡ t → at / 32 < banks bits
    by_test true e =
        let few : bits ≤ 5 = grind (arith, nat_tests) in
        let most : 2 ^ bits ≤ 2 ^ 5 = pow-le-pow_right {n = 2} (omega arith) {i = bits} {j = 5} few in
        let one : 1 ≤ banks bits = pow_pos (bits - 5) in
        omega arith
    by_test false e = let many : 5 < bits = grind (arith, nat_tests) in div_below at 32 (banks bits) (omega arith) (omega (arith, whole bits (omega arith)))

pub low_is : (bits at : ℕ) → at < 2 ^ bits → at % 2 ^ bank_bits bits ≡ at % 32
low_is bits at h = by_test (nat_le bits 5) refl
  where
    by_test : (t : Bool) → nat_le bits 5 ≡ t → at % 2 ^ bank_bits bits ≡ at % 32
    by_test true e =
        let few : bits ≤ 5 = grind (arith, nat_tests) in
        let m : bank_bits bits ≡ bits = omega arith in
        let most : 2 ^ bits ≤ 2 ^ 5 = pow-le-pow_right {n = 2} (omega arith) {i = bits} {j = 5} few in
        let small : at % 32 ≡ at = omega arith in
        ap (λ n. at % 2 ^ n) m ∙ mod-eq_of_lt {n = at} {m = 2 ^ bits} h ∙ sym small
    by_test false e = let many : 5 < bits = grind (arith, nat_tests) in let m : bank_bits bits ≡ 5 = omega arith in ap (λ n. at % 2 ^ n) m

pub low_small : (bits at : ℕ) → at < 2 ^ bits → at % 32 < 2 ^ bank_bits bits
low_small bits at h = let e = low_is bits at h in let l : at % 2 ^ bank_bits bits < 2 ^ bank_bits bits = mod-lt at (pow_pos (bank_bits bits)) in omega (arith, e, l)

-- the low bits and the high bits of a slot
pub low_slot : (bits at width : ℕ) → 1 ≤ bits → at < 2 ^ bits → part_select (word width at) (bank_bits bits - 1) 0 ≡ word (bank_bits bits) (at % 32)
low_slot bits at width some h =
    let n : bank_bits bits - 1 + 1 - 0 ≡ bank_bits bits = omega arith in
    let d : at / 1 ≡ at = omega arith in
    ap (λ k. word k (at / 1 % 2 ^ k)) n ∙ ap (λ x. word (bank_bits bits) (x % 2 ^ bank_bits bits)) d ∙ ap (word (bank_bits bits)) (low_is bits at h)

pub high_slot : (bits at width : ℕ) → at < 2 ^ bits → part_select (word width at) (bits + 4) 5 ≡ word bits (at / 32)
high_slot bits at width h =
    let n : bits + 4 + 1 - 5 ≡ bits = omega arith in
    let l : at / 32 < 2 ^ bits = omega arith in
    ap (λ k. word k (at / 32 % 2 ^ k)) n ∙ ap (word bits) (mod-eq_of_lt {n = at / 32} {m = 2 ^ bits} l)

-- ---- widths
-- a test of the bank of a slot
pub in_bank_width : {N : Type 0} (s : Scope N) (bits : ℕ) (w : N) (b : ℕ) → 1 ≤ bits → bits ≤ 9 → b < 2 ^ bits → s.net w ≡ bits + 5 → width_of s (in_bank bits w b) ≡ 1
in_bank_width s bits w b some most few e =
    let x : 2 ≤ bits + 5 = omega arith in
    let y : 5 ≤ bits + 4 = omega arith in
    let z : bits + 4 < bits + 5 = omega arith in
    let n : bits + 4 + 1 - 5 ≡ bits = omega arith in
    let m : bits ≤ 64 = omega arith in
    rw (e, le-leb 2 (bits + 5) x, le-leb 5 (bits + 4) y, lt-ltb (bits + 4) (bits + 5) z, n, le-leb bits 64 m, lt-ltb b (2 ^ bits) few) (ap (λ t. if t then 1 else 0) (same_is bits bits some refl))

pub low_width : (bits : ℕ) → 1 ≤ bits → part_select_width (bits + 5) (bank_bits bits - 1) 0 ≡ bank_bits bits
low_width bits some =
    let x : 2 ≤ bits + 5 = omega arith in
    let y : 0 ≤ bank_bits bits - 1 = omega arith in
    let z : bank_bits bits - 1 < bits + 5 = omega arith in
    let n : bank_bits bits - 1 + 1 - 0 ≡ bank_bits bits = omega arith in
    rw (le-leb 2 (bits + 5) x, le-leb 0 (bank_bits bits - 1) y, lt-ltb (bank_bits bits - 1) (bits + 5) z) n
