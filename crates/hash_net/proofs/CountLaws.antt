-- The number of used slots, where one becomes another.
use Rattle.std.specs.Prelude.{◌≡◌, ℕ, ◌+◌, ◌-◌, ◌*◌, ◌%◌, ◌^◌, ◌<◌, ◌≤◌, Bool, true, false, List, length, slice_set}
use Rattle.std.proofs.Common.{ap, ◌∙◌, arith}
use Rattle.std.proofs.Math.Nat.{mod-eq_of_lt, add-mod_right, pow-le-pow_right}
use Rattle.std.proofs.lemmas.Nat.{pow-add}
use Rattle.std.proofs.lemmas.List.Sums.{count_by-le-length, sum_by-set}
use Rattle.net_core.specs.declared.tree.Op.TheVariants.{Add, Sub}
use Rattle.net_core.specs.Value.{word, bit, number_of, apply, concatenated}
use Rattle.overlay_net.specs.hazard_core.declared.slot.Slot.{Slot}
use Rattle.overlay_net.specs.hazard_core.Tables.{no_slot, slot_at, used_count}

pub count_set : (slots : List Slot) (n : ℕ) (x : Slot) → n < length slots → used_count (slice_set slots n x) + number_of (slot_at slots n).used ≡ used_count slots + number_of x.used
count_set slots n x l = sum_by-set (λ (s : Slot). number_of s.used) slots n x no_slot l

-- a bit after zeros
pub widened : (bits : ℕ) (b : Bool) → concatenated (word bits 0) (bit b) ≡ word (bits + 1) (number_of b)
widened bits b = let e : 0 * 2 ^ 1 + number_of b ≡ number_of b = omega arith in ap (word (bits + 1)) e

pub bit_small : (b : Bool) → number_of b ≤ 1
bit_small true = omega arith
bit_small false = omega arith

-- the count that is set where a slot becomes another
pub count_next : (bits : ℕ) (slots : List Slot) (n : ℕ) (x : Slot) → 1 ≤ bits → n < length slots → length slots ≤ 2 ^ bits
    → apply Sub (apply Add (word (bits + 1) (used_count slots)) (word (bits + 1) (number_of x.used))) (word (bits + 1) (number_of (slot_at slots n).used)) ≡ word (bits + 1) (used_count (slice_set slots n x))
count_next bits slots n x some l most =
    let c = used_count slots in
    let a = number_of x.used in
    let w = number_of (slot_at slots n).used in
    let m = used_count (slice_set slots n x) in
    let h : m + w ≡ c + a = count_set slots n x l in
    let few : c ≤ length slots = count_by-le-length (λ (s : Slot). s.used) slots in
    let two : 2 ^ (bits + 1) ≡ 2 ^ bits * 2 ^ 1 = pow-add 2 bits 1 in
    let big : 2 ^ 1 ≤ 2 ^ bits = pow-le-pow_right {n = 2} (omega arith) {i = 1} {j = bits} some in
    let one = bit_small x.used in
    let small : c + a < 2 ^ (bits + 1) = omega arith in
    let wrapped : c + a + 2 ^ (bits + 1) - w ≡ m + 2 ^ (bits + 1) = omega arith in
    let low : m < 2 ^ (bits + 1) = omega arith in
    let turn : (m + 2 ^ (bits + 1)) % 2 ^ (bits + 1) ≡ m = add-mod_right m (2 ^ (bits + 1)) ∙ mod-eq_of_lt low in
    ap (λ k. word (bits + 1) ((k + 2 ^ (bits + 1) - w) % 2 ^ (bits + 1))) (mod-eq_of_lt small) ∙ ap (λ k. word (bits + 1) (k % 2 ^ (bits + 1))) wrapped ∙ ap (word (bits + 1)) turn
