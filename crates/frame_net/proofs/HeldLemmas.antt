-- One more beat in the memories that hold frames.
use Rattle.std.specs.Prelude.{◌≡◌, ◌≢◌, ℕ, suc, ◌+◌, ◌*◌, ◌/◌, ◌%◌, ◌^◌, ◌<◌, ◌≤◌, ◌==◌, Bool, true, false, not, Option, Some, None, is_some, List, [], ◌++◌, length}
use Rattle.std.proofs.Common.{get_or, refl, sym, ap, ◌∙◌, subst, arith}
use Rattle.std.proofs.lemmas.Bool.{eqb-true}
use Rattle.std.proofs.lemmas.Bool.Decides.{nat_tests}
use Rattle.std.proofs.lemmas.List.{get_or-set_same, get_or-set_other}
use Rattle.beat_core.specs.list_laws.Bytes.{IsBytes}
use Rattle.beat_core.specs.Words.{word_of}
use Rattle.beat_core.specs.Beats.{bytes_of_beat, beat_count}
use Rattle.beat_core.specs.Ports.{Arrival, Offered, arrived}
use Rattle.net_core.specs.declared.tree.Word.{Word}
use Rattle.net_core.specs.Value.{word, nothing}
use Rattle.frame_net.specs.declared.held.Kept.{Kept}
use Rattle.frame_net.specs.declared.held.Kept.TheVariants.{Ifindex, Time, Word as FrameWord}
use Rattle.frame_net.specs.Frames.{beat_of, word_at, bank, HoldsBeats, HoldsKept, HoldsBegun, position_of}
use Rattle.frame_net.proofs.StoreLaws.{put}
use Rattle.frame_net.proofs.FrameLemmas.{count_more, earlier_word, new_word}

-- ---- a word of a memory
pub put_here : (m n : List Word) (i : ℕ) (w : Word) → n ≡ put true m i w → i < length m → word_at n i ≡ w
put_here m n i w e h = ap (λ l. get_or l i nothing) e ∙ get_or-set_same m i w nothing h

pub put_not : (m n : List Word) (j : ℕ) → n ≡ m → word_at n j ≡ word_at m j
put_not m n j e = ap (λ l. get_or l j nothing) e

pub put_other : (t : Bool) (m n : List Word) (i j : ℕ) (w : Word) → n ≡ put t m i w → j ≢ i → word_at n j ≡ word_at m j
put_other true m n i j w e h = ap (λ l. get_or l j nothing) e ∙ get_or-set_other m i j w nothing h
put_other false m n i j w e h = ap (λ l. get_or l j nothing) e

-- ---- what has come
abbrev pub bytes_so_far : Option Arrival → List ℕ
bytes_so_far None = []
bytes_so_far (Some a) = a.frame

abbrev pub HeldSoFar : Kept → List Word → ℕ → Option Arrival → Type 0
HeldSoFar x m at None = Unit {0}
HeldSoFar x m at (Some a) = HoldsKept x m at a

pub record SoFar (kept : List Kept) (ms : List (List Word)) (at : ℕ) (part : Option Arrival) : Type 0 where
  pub bytes : IsBytes (bytes_so_far part)
  pub whole : length (bytes_so_far part) ≡ 8 * position_of part
  pub beats : (b : ℕ) → b < position_of part → word_at (get_or ms (bank kept (at / 32)) []) (at % 32 * 2 ^ 11 + b) ≡ word 64 (beat_of (bytes_so_far part) b).word
  pub rest : (k : ℕ) → k < length kept → HeldSoFar (get_or kept k Ifindex) (get_or ms (3 + k) []) at part

pub so_far_is : (kept : List Kept) (ms : List (List Word)) (at : ℕ) (part : Option Arrival) → HoldsBegun kept ms at part → SoFar kept ms at part
so_far_is kept ms at None h = record { bytes = λ i. omega arith; whole = refl; beats = λ b l. absurd (omega arith); rest = λ k l. tt }
so_far_is kept ms at (Some a) h =
    let w = h.0.whole in
    let n : beat_count (length a.frame) ≡ length a.frame / 8 = omega arith in
    record { bytes = h.0.bytes; whole = w; beats = λ b l. h.1.beats b (omega (arith, n)); rest = h.1.rest }

pub arrived_frame : (part : Option Arrival) (o : Offered) → (arrived part o).frame ≡ bytes_so_far part ++ bytes_of_beat o.beat
arrived_frame None o = refl
arrived_frame (Some a) o = refl

-- what a memory takes of a beat
abbrev pub Takes : Kept → Option Arrival → Offered → List Word → List Word → ℕ → Type 0
Takes Ifindex part o m n at = n ≡ put (not (is_some part)) m at (word 32 o.ifindex)
Takes Time part o m n at = n ≡ put (not (is_some part)) m at (word 64 o.time)
Takes (FrameWord j) part o m n at = n ≡ put (position_of part == j) m at (word 64 (word_of (bytes_of_beat o.beat)))

-- ---- what is kept
module _ (o : Offered) (m n : List Word) (at : ℕ) (within : at < length m) (some : 1 ≤ length (bytes_of_beat o.beat)) (most : length (bytes_of_beat o.beat) ≤ 8) where
  old_word : (j : ℕ) (part : Option Arrival) → length (bytes_so_far part) ≡ 8 * position_of part → j < position_of part → HeldSoFar (FrameWord j) m at part → word_at m at ≡ word 64 (beat_of (bytes_so_far part) j).word
  old_word j None w l h = absurd (omega arith)
  old_word j (Some a) w l h = let q : beat_count (length a.frame) ≡ length a.frame / 8 = omega arith in h (omega (arith, q))

  word_more : (j : ℕ) (part : Option Arrival) → length (bytes_so_far part) ≡ 8 * position_of part → HeldSoFar (FrameWord j) m at part → (t : Bool) → (position_of part == j) ≡ t → n ≡ put t m at (word 64 (word_of (bytes_of_beat o.beat)))
      → j < suc (position_of part) → word_at n at ≡ word 64 (beat_of (bytes_so_far part ++ bytes_of_beat o.beat) j).word
  word_more j part w h true e s l =
      let is : position_of part ≡ j = eqb-true (position_of part) j e in
      put_here m n at _ s within
      ∙ ap (word 64) (sym (new_word (bytes_so_far part) (bytes_of_beat o.beat) (position_of part) w some most))
      ∙ ap (λ q. word 64 (beat_of (bytes_so_far part ++ bytes_of_beat o.beat) q).word) is
  word_more j part w h false e s l =
      let other : position_of part ≢ j = grind (arith, nat_tests) in
      let before : j < position_of part = omega arith in
      put_not m n at s
      ∙ old_word j part w before h
      ∙ ap (word 64) (sym (earlier_word (bytes_so_far part) (bytes_of_beat o.beat) (position_of part) w some most j before))

  pub kept_more : (x : Kept) (part : Option Arrival) → length (bytes_so_far part) ≡ 8 * position_of part → HeldSoFar x m at part → Takes x part o m n at → HoldsKept x n at (arrived part o)
  kept_more Ifindex None w h s = put_here m n at _ s within
  kept_more Ifindex (Some a) w h s = put_not m n at s ∙ h
  kept_more Time None w h s = put_here m n at _ s within
  kept_more Time (Some a) w h s = put_not m n at s ∙ h
  kept_more (FrameWord j) part w h s =
      let ys = bytes_of_beat o.beat in
      subst (λ zs. j < beat_count (length zs) → word_at n at ≡ word 64 (beat_of zs j).word) (sym (arrived_frame part o))
      (λ l. word_more j part w h (position_of part == j) refl s (omega (arith, count_more (bytes_so_far part) ys (position_of part) w some most)))

-- what is kept of other frames stays
pub kept_same : (x : Kept) (m n : List Word) (slot : ℕ) (a : Arrival) → word_at n slot ≡ word_at m slot → HoldsKept x m slot a → HoldsKept x n slot a
kept_same Ifindex m n slot a e h = e ∙ h
kept_same Time m n slot a e h = e ∙ h
kept_same (FrameWord j) m n slot a e h = λ l. e ∙ h l

pub others_stay : (x : Kept) (part : Option Arrival) (o : Offered) (m n : List Word) (at slot : ℕ) → slot ≢ at → Takes x part o m n at → word_at n slot ≡ word_at m slot
others_stay Ifindex part o m n at slot h s = put_other _ m n at slot _ s h
others_stay Time part o m n at slot h s = put_other _ m n at slot _ s h
others_stay (FrameWord j) part o m n at slot h s = put_other _ m n at slot _ s h

-- ---- beats
pub beats_more : (xs ys : List ℕ) (q : ℕ) (m n : List Word) (at : ℕ) → length xs ≡ 8 * q → 1 ≤ length ys → length ys ≤ 8 → at * 2 ^ 11 + q < length m → n ≡ put true m (at * 2 ^ 11 + q) (word 64 (word_of ys))
    → ((b : ℕ) → b < q → word_at m (at * 2 ^ 11 + b) ≡ word 64 (beat_of xs b).word) → HoldsBeats n at (xs ++ ys)
beats_more xs ys q m n at w some most within s h b l =
    let few : b < suc q = omega (arith, count_more xs ys q w some most) in
    by_test (q == b) refl few
  where
    by_test : (t : Bool) → (q == b) ≡ t → b < suc q → word_at n (at * 2 ^ 11 + b) ≡ word 64 (beat_of (xs ++ ys) b).word
    by_test true e few =
        let is : q ≡ b = eqb-true q b e in
        subst (λ k. word_at n (at * 2 ^ 11 + k) ≡ word 64 (beat_of (xs ++ ys) k).word) is
        (put_here m n (at * 2 ^ 11 + q) _ s within ∙ ap (word 64) (sym (new_word xs ys q w some most)))
    by_test false e few =
        let other : q ≢ b = grind (arith, nat_tests) in
        let before : b < q = omega arith in
        let apart : at * 2 ^ 11 + b ≢ at * 2 ^ 11 + q = omega arith in
        put_other true m n (at * 2 ^ 11 + q) (at * 2 ^ 11 + b) _ s apart ∙ h b before ∙ ap (word 64) (sym (earlier_word xs ys q w some most b before))

pub beats_same : (m n : List Word) (t : Bool) (at slot q : ℕ) (x : Word) (xs : List ℕ) → n ≡ put t m (at * 2 ^ 11 + q) x → slot ≢ at → q < 2 ^ 11 → beat_count (length xs) ≤ 2 ^ 11 → HoldsBeats m slot xs → HoldsBeats n slot xs
beats_same m n t at slot q x xs s h few most held b l =
    let apart : slot * 2 ^ 11 + b ≢ at * 2 ^ 11 + q = omega arith in
    put_other t m n (at * 2 ^ 11 + q) (slot * 2 ^ 11 + b) x s apart ∙ held b l
