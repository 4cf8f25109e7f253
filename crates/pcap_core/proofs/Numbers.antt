-- Numbers that are written are read back, and the other way round.
use Rattle.std.proofs.Common.{◌≡◌, ℕ, ◌^◌, ◌<◌, ◌≤◌, List, ◌++◌, length, take, arith}
use Rattle.std.specs.Int.{w16, w32, from_le_bytes, from_be_bytes}
use Rattle.std.proofs.lemmas.List.{length-take-le, get_or-take}
use Rattle.std.proofs.lemmas.Nat.{le_bytes_2, be_bytes_2, le_bytes_4, be_bytes_4}
use Rattle.byteorder.specs.Numbers.{length-bytes_low_first, length-bytes_high_first, little_number-reads_back, big_number-reads_back, little_from-lt, big_from-lt}
use Rattle.pcap_core.specs.declared.order.Order.{Order}
use Rattle.pcap_core.specs.declared.order.Order.TheVariants.{Little, Big}
use Rattle.pcap_core.specs.Number.{number, spelled}
use Rattle.beat_core.specs.list_laws.Bytes.{IsBytes}
use Rattle.beat_core.proofs.list_laws_laws.ByteLaws.{IsBytes-take}

-- n bytes hold a number below the limit, and give it back
pub record IsWide (order : Order) (n : ℕ) : Type 0 where
  pub len : (x : ℕ) → length (spelled order n x) ≡ n
  pub again : (x : ℕ) (rest : List ℕ) → x < 256 ^ n → number order n (spelled order n x ++ rest) ≡ x
  pub below : (xs : List ℕ) → IsBytes xs → number order n xs < 256 ^ n
  pub back : (xs : List ℕ) → IsBytes xs → n ≤ length xs → spelled order n (number order n xs) ≡ take n xs

little_back2 : (xs : List ℕ) → IsBytes xs → 2 ≤ length xs → spelled Little 2 (number Little 2 xs) ≡ take 2 xs
unfolding spelled number
little_back2 xs h len =
    let same : number Little 2 xs ≡ from_le_bytes w16 (take 2 xs) = omega (arith, get_or-take 2 xs 0 0 (omega arith), get_or-take 2 xs 1 0 (omega arith)) in
    le_bytes_2 (take 2 xs) (number Little 2 xs) (length-take-le 2 xs len) (IsBytes-take 2 xs h) same

big_back2 : (xs : List ℕ) → IsBytes xs → 2 ≤ length xs → spelled Big 2 (number Big 2 xs) ≡ take 2 xs
unfolding spelled number
big_back2 xs h len =
    let same : number Big 2 xs ≡ from_be_bytes w16 (take 2 xs) = omega (arith, get_or-take 2 xs 0 0 (omega arith), get_or-take 2 xs 1 0 (omega arith)) in
    be_bytes_2 (take 2 xs) (number Big 2 xs) (length-take-le 2 xs len) (IsBytes-take 2 xs h) same

little_back4 : (xs : List ℕ) → IsBytes xs → 4 ≤ length xs → spelled Little 4 (number Little 4 xs) ≡ take 4 xs
unfolding spelled number
little_back4 xs h len =
    let same : number Little 4 xs ≡ from_le_bytes w32 (take 4 xs) = omega (arith, get_or-take 4 xs 0 0 (omega arith), get_or-take 4 xs 1 0 (omega arith), get_or-take 4 xs 2 0 (omega arith), get_or-take 4 xs 3 0 (omega arith)) in
    le_bytes_4 (take 4 xs) (number Little 4 xs) (length-take-le 4 xs len) (IsBytes-take 4 xs h) same

big_back4 : (xs : List ℕ) → IsBytes xs → 4 ≤ length xs → spelled Big 4 (number Big 4 xs) ≡ take 4 xs
unfolding spelled number
big_back4 xs h len =
    let same : number Big 4 xs ≡ from_be_bytes w32 (take 4 xs) = omega (arith, get_or-take 4 xs 0 0 (omega arith), get_or-take 4 xs 1 0 (omega arith), get_or-take 4 xs 2 0 (omega arith), get_or-take 4 xs 3 0 (omega arith)) in
    be_bytes_4 (take 4 xs) (number Big 4 xs) (length-take-le 4 xs len) (IsBytes-take 4 xs h) same

little_wide : (n : ℕ) → ((xs : List ℕ) → IsBytes xs → n ≤ length xs → spelled Little n (number Little n xs) ≡ take n xs) → IsWide Little n
unfolding spelled number
little_wide n back = record {
  len = λ x. length-bytes_low_first 0 n x;
  again = λ x rest h. little_number-reads_back n x rest h;
  below = λ xs h. little_from-lt 0 n xs h;
  back = back;
}

big_wide : (n : ℕ) → ((xs : List ℕ) → IsBytes xs → n ≤ length xs → spelled Big n (number Big n xs) ≡ take n xs) → IsWide Big n
unfolding spelled number
big_wide n back = record {
  len = λ x. length-bytes_high_first n x;
  again = λ x rest h. big_number-reads_back n x rest h;
  below = λ xs h. big_from-lt 0 n xs h;
  back = back;
}

pub wide2 : (order : Order) → IsWide order 2
wide2 Little = little_wide 2 little_back2
wide2 Big = big_wide 2 big_back2

pub wide4 : (order : Order) → IsWide order 4
wide4 Little = little_wide 4 little_back4
wide4 Big = big_wide 4 big_back4
