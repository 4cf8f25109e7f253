-- Words of bytes, and bytes in which one is written.
use Rattle.std.specs.Prelude.{◌≡◌, ◌≢◌, ℕ, ◌+◌, ◌-◌, ◌*◌, ◌%◌, ◌^◌, ◌<◌, ◌≤◌, nat_le, min, Bool, true, false, List, ◌++◌, length, take, drop, replicate, slice_index}
use Rattle.std.proofs.Common.{refl, sym, ap, ◌∙◌, arith, ◌⊎◌, inl, inr, append_assoc}
use Rattle.std.proofs.lemmas.Bool.Decides.{nat_tests}
use Rattle.std.proofs.lemmas.List.{get_or-take, get_or-drop, get_or_append_left, get_or-append_right, length-take-le, length-append, length-drop, take_all}
use Rattle.std.proofs.Math.Seq.{drop-append_seam}
use Rattle.block_core.proofs.list_laws_laws.PositionLaws.{zeros}
use Rattle.byteorder.specs.Endian.{little_from, little_bytes}
use Rattle.byteorder.specs.Numbers.{little_from-take, little_from-bytes, length-bytes_low_first}
use Rattle.byteorder.proofs.Bytes.{take-bytes_low_first}
use Rattle.xdp_maps.proofs.ByteLaws.{length-patched}
use Rattle.xdp_maps.proofs.LittleLaws.{no_bytes, same_bytes, beyond, low_is}
use Rattle.hazard_core.specs.Commits.{word_count, word_at as byte_word, with_word}
use Rattle.array_net.specs.Words.{word_width}

-- ---- numbers in bytes
word_from : (xs : List ℕ) (j : ℕ) → byte_word xs j ≡ little_from 0 8 (drop (8 * j) xs)
word_from xs j = little_from-take 0 8 8 (drop (8 * j) xs) (omega arith)

-- ---- bytes in which a word is written
module _ (xs : List ℕ) (j n : ℕ) (there : 8 * j < length xs) where
  abbrev left : ℕ
  left = length xs - 8 * j

  abbrev new : List ℕ
  new = take left (little_bytes 8 n)

  abbrev rest : List ℕ
  rest = drop (8 * j + length new) xs

  new_is : (new ≡ little_bytes (min 8 left) n) × (length new ≡ min 8 left)
  new_is = by_test (nat_le 8 left) refl
    where
      by_test : (t : Bool) → nat_le 8 left ≡ t → (new ≡ little_bytes (min 8 left) n) × (length new ≡ min 8 left)
      by_test true e =
          let whole : 8 ≤ left = grind (arith, nat_tests) in
          let m : 8 ≡ min 8 left = omega arith in
          let count : length (little_bytes 8 n) ≡ 8 = length-bytes_low_first 0 8 n in
          let all : new ≡ little_bytes 8 n = take_all left (little_bytes 8 n) (omega (arith, count)) in
          (all ∙ ap (λ k. little_bytes k n) m, ap length all ∙ count ∙ m)
      by_test false e =
          let short : left < 8 = grind (arith, nat_tests) in
          let m : left ≡ min 8 left = omega arith in
          let all : new ≡ little_bytes left n = take-bytes_low_first 0 8 left n (omega arith) in
          (all ∙ ap (λ k. little_bytes k n) m, ap length all ∙ length-bytes_low_first 0 left n ∙ m)

  front : length (take (8 * j) xs) ≡ 8 * j
  front = length-take-le (8 * j) xs (omega arith)

  whole : with_word xs j n ≡ take (8 * j) xs ++ (new ++ rest)
  whole = append_assoc (take (8 * j) xs) new rest

  behind : drop (8 * j) (with_word xs j n) ≡ new ++ rest
  behind = ap (λ k. drop k (with_word xs j n)) (sym front) ∙ ap (drop (length (take (8 * j) xs))) whole ∙ drop-append_seam (take (8 * j) xs) (new ++ rest)

  pub length_stays : length (with_word xs j n) ≡ length xs
  length_stays = length-patched xs (8 * j) new (let m = new_is.1 in omega (arith, m))

  -- the word is the low part of the number
  pub word_written : byte_word (with_word xs j n) j ≡ n % 2 ^ word_width (length xs) j
  word_written =
      word_from (with_word xs j n) j ∙ ap (little_from 0 8) behind ∙ shortened (nat_le 8 left) refl ∙ ap (λ zs. little_from 0 (min 8 left) (zs ++ rest)) new_is.0 ∙ little_from-bytes (min 8 left) 0 n rest ∙ low_is n (min 8 left)
    where
      shortened : (t : Bool) → nat_le 8 left ≡ t → little_from 0 8 (new ++ rest) ≡ little_from 0 (min 8 left) (new ++ rest)
      shortened true e = let whole : 8 ≤ left = grind (arith, nat_tests) in let m : 8 ≡ min 8 left = omega arith in ap (λ k. little_from 0 k (new ++ rest)) m
      shortened false e =
          let short : left < 8 = grind (arith, nat_tests) in
          let c = new_is.1 in
          let d : length rest ≡ length xs - (8 * j + length new) = length-drop (8 * j + length new) xs in
          beyond 8 0 (min 8 left) (new ++ rest) (omega arith) (omega (arith, length-append new rest, c, d))

  byte_kept : (k : ℕ) → (k < 8 * j) ⊎ (8 * j + 8 ≤ k) → slice_index (with_word xs j n) k ≡ slice_index xs k
  byte_kept k (inl before) = ap (λ ys. slice_index ys k) whole ∙ get_or_append_left (take (8 * j) xs) (new ++ rest) 0 k (omega (arith, front)) ∙ get_or-take (8 * j) xs k 0 before
  byte_kept k (inr past) =
      let c = new_is.1 in
      let e : 8 * j + length new + (k - 8 * j - length new) ≡ k = omega (arith, c) in
      ap (λ ys. slice_index ys k) whole
      ∙ get_or-append_right (take (8 * j) xs) (new ++ rest) (8 * j) k 0 front (omega arith)
      ∙ get_or-append_right new rest (length new) (k - 8 * j) 0 refl (omega (arith, c))
      ∙ get_or-drop (8 * j + length new) xs (k - 8 * j - length new) 0
      ∙ ap (slice_index xs) e

  pub word_kept : (i : ℕ) → i ≢ j → byte_word (with_word xs j n) i ≡ byte_word xs i
  word_kept i other =
      word_from (with_word xs j n) i
      ∙ same_bytes 8 0 (drop (8 * i) (with_word xs j n)) (drop (8 * i) xs)
      (λ k l m. get_or-drop (8 * i) (with_word xs j n) k 0 ∙ byte_kept (8 * i + k) (apart k m) ∙ sym (get_or-drop (8 * i) xs k 0))
      ∙ sym (word_from xs i)
    where
      apart : (k : ℕ) → k < 0 + 8 → (8 * i + k < 8 * j) ⊎ (8 * j + 8 ≤ 8 * i + k)
      apart k m = by_test (nat_le j i) refl
        where
          by_test : (t : Bool) → nat_le j i ≡ t → (8 * i + k < 8 * j) ⊎ (8 * j + 8 ≤ 8 * i + k)
          by_test true e = let le : j ≤ i = grind (arith, nat_tests) in inr (omega arith)
          by_test false e = let lt : i < j = grind (arith, nat_tests) in inl (omega arith)

-- ---- words of zeros
pub word_zero : (n j : ℕ) → byte_word (replicate n 0) j ≡ 0
word_zero n j = word_from (replicate n 0) j ∙ no_bytes 8 0 (drop (8 * j) (replicate n 0)) (λ k. get_or-drop (8 * j) (replicate n 0) k 0 ∙ zeros n (8 * j + k))

-- ---- words of so many bytes
pub width_some : (bytes j : ℕ) → j < word_count bytes → 8 ≤ word_width bytes j
width_some bytes j h = omega arith

pub width_most : (bytes j : ℕ) → word_width bytes j ≤ 64
width_most bytes j = omega arith

pub word_there : (bytes j : ℕ) → j < word_count bytes → 8 * j < bytes
word_there bytes j h = omega arith
