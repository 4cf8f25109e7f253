-- A frame of whole words, and one more beat of it.
use Rattle.std.specs.Prelude.{◌≡◌, ℕ, suc, ◌*◌, ◌<◌, ◌≤◌, min, List, ◌++◌, length, take, drop}
use Rattle.std.proofs.Common.{ap, ◌∙◌, arith, length-append}
use Rattle.std.proofs.lemmas.List.{take_all, drop_all, take-append-le, drop-append-le, length-drop}
use Rattle.block_core.proofs.list_laws_laws.ByteLaws.{IsBytes-append}
use Rattle.beat_core.specs.list_laws.Bytes.{IsBytes}
use Rattle.beat_core.specs.declared.frame.TheConstants.{BEAT_LIMIT}
use Rattle.beat_core.specs.Words.{word_of}
use Rattle.beat_core.specs.Beats.{beat_count}
use Rattle.beat_core.specs.Laws.{IsFrame}
use Rattle.frame_net.specs.Frames.{beat_of, last_of}

module _ (xs ys : List ℕ) (q : ℕ) (whole : length xs ≡ 8 * q) (some : 1 ≤ length ys) (most : length ys ≤ 8) where
  pub count_more : beat_count (length (xs ++ ys)) ≡ suc q
  count_more = omega (arith, length-append xs ys, whole)

  pub last_more : last_of (xs ++ ys) ≡ q
  last_more = omega (arith, count_more)

  pub earlier_word : (b : ℕ) → b < q → (beat_of (xs ++ ys) b).word ≡ (beat_of xs b).word
  earlier_word b h =
      let within : 8 * b ≤ length xs = omega (arith, whole) in
      let left : 8 ≤ length (drop (8 * b) xs) = omega (arith, length-drop (8 * b) xs, whole) in
      ap (λ zs. word_of (take 8 zs)) (drop-append-le (8 * b) xs ys within) ∙ ap word_of (take-append-le 8 (drop (8 * b) xs) ys left)

  rest_is : drop (8 * q) (xs ++ ys) ≡ ys
  rest_is =
      let within : 8 * q ≤ length xs = omega (arith, whole) in
      let past : length xs ≤ 8 * q = omega (arith, whole) in
      drop-append-le (8 * q) xs ys within ∙ ap (λ zs. zs ++ ys) (drop_all (8 * q) xs past)

  pub new_word : (beat_of (xs ++ ys) q).word ≡ word_of ys
  new_word = ap (λ zs. word_of (take 8 zs)) rest_is ∙ ap word_of (take_all 8 ys most)

  pub new_bytes : (beat_of (xs ++ ys) q).bytes ≡ length ys
  new_bytes = ap (λ zs. min 8 (length zs)) rest_is ∙ omega arith

  pub is_frame : q < BEAT_LIMIT → IsBytes xs → IsBytes ys → IsFrame (xs ++ ys)
  is_frame h bx by = record { bytes = IsBytes-append xs ys bx by; some = omega (arith, length-append xs ys); room = omega (arith, length-append xs ys, whole) }
