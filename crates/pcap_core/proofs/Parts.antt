-- Lists in parts, from left to right.
use Rattle.std.proofs.Common.{◌≡◌, ℕ, ◌+◌, ◌≤◌, List, ◌++◌, length, take, drop, sym, ap, ◌∙◌, arith, append_assoc, length-drop}
use Rattle.std.proofs.lemmas.List.{drop_at, drop-drop, take-append-drop}
use Rattle.pcap_core.specs.declared.order.Order.{Order}
use Rattle.pcap_core.specs.Number.{number, spelled}
use Rattle.pcap_core.proofs.Numbers.{IsWide}
use Rattle.beat_core.specs.list_laws.Bytes.{IsBytes}
use Rattle.beat_core.proofs.list_laws_laws.ByteLaws.{IsBytes-drop}

-- what stands after a part of n elements
pub behind : (i n : ℕ) (xs p q : List ℕ) → drop i xs ≡ p ++ q → length p ≡ n → drop (i + n) xs ≡ q
behind i n xs p q e len = sym (drop-drop n i xs) ∙ ap (drop n) e ∙ drop_at p q n len

-- the number that stands at a place, and what follows it
pub number_behind : (order : Order) (n : ℕ) → IsWide order n → (i : ℕ) (xs : List ℕ) → IsBytes xs → i + n ≤ length xs → drop i xs ≡ spelled order n (number order n (drop i xs)) ++ drop (i + n) xs
number_behind order n wide i xs h long =
    let bytes = IsBytes-drop i xs h in
    let front : spelled order n (number order n (drop i xs)) ≡ take n (drop i xs) = wide.back (drop i xs) bytes (omega (arith, length-drop i xs)) in
    let after : drop n (drop i xs) ≡ drop (i + n) xs = drop-drop n i xs in
    rw (front, ← after) (sym (take-append-drop n (drop i xs)))

-- three parts and the rest
pub three_parts : (xs a b c x1 x2 x3 rest : List ℕ) → xs ≡ a ++ x1 → x1 ≡ b ++ x2 → x2 ≡ c ++ x3 → x3 ≡ rest → xs ≡ a ++ (b ++ (c ++ rest))
three_parts xs a b c x1 x2 x3 rest e1 e2 e3 e4 =
    let t3 : x2 ≡ c ++ rest = e3 ∙ ap (λ (r : List ℕ). c ++ r) e4 in
    let t2 : x1 ≡ b ++ (c ++ rest) = e2 ∙ ap (λ (r : List ℕ). b ++ r) t3 in
    e1 ∙ ap (λ (r : List ℕ). a ++ r) t2

-- four parts and the rest
pub four_parts : (xs a b c d x1 x2 x3 rest : List ℕ) → xs ≡ a ++ x1 → x1 ≡ b ++ x2 → x2 ≡ c ++ x3 → x3 ≡ d ++ rest → xs ≡ a ++ (b ++ (c ++ (d ++ rest)))
four_parts xs a b c d x1 x2 x3 rest e1 e2 e3 e4 =
    let t3 : x2 ≡ c ++ (d ++ rest) = e3 ∙ ap (λ (r : List ℕ). c ++ r) e4 in
    let t2 : x1 ≡ b ++ (c ++ (d ++ rest)) = e2 ∙ ap (λ (r : List ℕ). b ++ r) t3 in
    e1 ∙ ap (λ (r : List ℕ). a ++ r) t2

-- parts that nest to the right, before a rest
pub five_before : (a b c d e rest : List ℕ) → (a ++ (b ++ (c ++ (d ++ e)))) ++ rest ≡ a ++ (b ++ (c ++ (d ++ (e ++ rest))))
five_before a b c d e rest = simp append_assoc

pub seven_before : (a b c d e f g rest : List ℕ) → (a ++ (b ++ (c ++ (d ++ (e ++ (f ++ g)))))) ++ rest ≡ a ++ (b ++ (c ++ (d ++ (e ++ (f ++ (g ++ rest))))))
seven_before a b c d e f g rest = simp append_assoc
