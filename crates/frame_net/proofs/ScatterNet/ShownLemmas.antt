-- What the block of answers shows, and what a clock does.
use Rattle.std.specs.Prelude.{◌≡◌, ◌≢◌, ℕ, ◌+◌, ◌-◌, ◌*◌, ◌/◌, ◌^◌, ◌<◌, ◌≤◌, ◌==◌, min, Bool, true, false, List, [], ◌∷◌, length, drop, Contains}
use Rattle.std.proofs.Common.{get_or, refl, sym, ap, ◌∙◌, subst, arith}
use Rattle.std.proofs.lemmas.Bool.{le-leb}
use Rattle.std.proofs.lemmas.Bool.Decides.{nat_tests}
use Rattle.std.proofs.lemmas.List.{length-drop}
use Rattle.beat_core.specs.declared.answer.Answer.{Answer}
use Rattle.beat_core.specs.declared.frame.TheConstants.{BEAT_LIMIT}
use Rattle.beat_core.specs.Beats.{beat_count}
use Rattle.beat_core.specs.Ports.{Arrival}
use Rattle.net_core.specs.declared.tree.Op.TheVariants.{Add, Equal}
use Rattle.net_core.specs.declared.tree.Word.{Word}
use Rattle.net_core.specs.Nets.{TRead}
use Rattle.net_core.specs.Value.{word, bit, Env, value, apply, concatenated, conditional}
use Rattle.net_core.specs.Clock.{Stored, done}
use Rattle.block_core.specs.declared.name.Name.{Name}
use Rattle.block_core.specs.declared.name.Name.TheVariants as name
use Rattle.block_core.specs.Parts.{Solve}
use Rattle.frame_net.specs.declared.held.Kept.{Kept}
use Rattle.frame_net.specs.Frames.{banks, beat_of, last_of, word_at, HoldsFrame}
use Rattle.frame_net.specs.SourcesNets.{held}
use Rattle.frame_net.specs.Answers.{byte_of, HoldsAnswer, Changes}
use Rattle.frame_net.proofs.BankLaws.{bank_within}
use Rattle.frame_net.proofs.BitLaws.{on, off, next_is}
use Rattle.frame_net.proofs.ReadLaws.{held_word, held_here, count_held}
use Rattle.frame_net.specs.ScatterNet.Scatter.{last_name, at_position, position_after, SeesAnswer, ShowsBeat}
use Rattle.frame_net.specs.ScatterNet.ScatterNets.{scatter_wires, scatter_statement}
use Rattle.frame_net.proofs.ScatterNet.BeatLemmas.{beat_is}
use Rattle.frame_net.proofs.ScatterNet.ChosenLemmas.{IsAnswered, raw_right, chosen}
use Rattle.frame_net.proofs.AnswerLaws.{count_answers}

-- ---- which beat is the last, and how many bytes it has
is_last : (xs : List ℕ) (pos : ℕ) → pos < beat_count (length xs) → (pos == last_of xs) ≡ (beat_of xs pos).last
is_last xs pos h = let n = length-drop (8 * pos) xs in by_test (pos == last_of xs) refl n
  where
    by_test : (t : Bool) → (pos == last_of xs) ≡ t → length (drop (8 * pos) xs) ≡ length xs - 8 * pos → (pos == last_of xs) ≡ (beat_of xs pos).last
    by_test true e n = let is : pos ≡ last_of xs = grind (arith, nat_tests) in let few : length (drop (8 * pos) xs) ≤ 8 = omega (arith, n) in e ∙ sym (le-leb (length (drop (8 * pos) xs)) 8 few)
    by_test false e n = let other : pos ≢ last_of xs = grind (arith, nat_tests) in let many : 8 < length (drop (8 * pos) xs) = omega (arith, n) in grind (arith, nat_tests)

bytes_are : (xs ys : List ℕ) (pos : ℕ) → length xs ≡ length ys → pos < beat_count (length xs) → (t : Bool) → (pos == last_of ys) ≡ t → conditional (bit t) (word 4 (beat_of ys (last_of ys)).bytes) (word 4 8) ≡ word 4 (beat_of xs pos).bytes
bytes_are xs ys pos s h true e =
    let is : pos ≡ last_of ys = grind (arith, nat_tests) in
    let n = length-drop (8 * pos) xs in
    let m = length-drop (8 * last_of ys) ys in
    let same : min 8 (length (drop (8 * last_of ys) ys)) ≡ min 8 (length (drop (8 * pos) xs)) = omega (arith, n, m) in
    ap (word 4) same
bytes_are xs ys pos s h false e =
    let other : pos ≢ last_of ys = grind (arith, nat_tests) in
    let n = length-drop (8 * pos) xs in
    let full : 8 ≡ min 8 (length (drop (8 * pos) xs)) = omega (arith, n) in
    ap (word 4) full

some_bytes : (xs : List ℕ) (pos : ℕ) → pos < beat_count (length xs) → 1 ≤ (beat_of xs pos).bytes
some_bytes xs pos h = let n = length-drop (8 * pos) xs in omega (arith, n)

-- ---- a clock in which a beat is shown
module _ {P : Type 0} (p gather exit : P) (bits : ℕ) (some : 1 ≤ bits) (kept : List Kept) (words bytes : List ℕ) (slot : Name P) (covered : (b : ℕ) → Contains bytes b → Contains words (b / 8)) (v : Env (Name P)) (ms es : List (List Word)) (pos at : ℕ) (a : Arrival) (r : Answer)
    (solved : Solve v p 0 (scatter_wires p gather exit bits kept words bytes slot)) (sees : SeesAnswer p gather exit bits kept words slot v ms es pos at) (holds : HoldsFrame kept ms at a) (answer : HoldsAnswer bytes words es at r)
    (changes : Changes bytes a.frame r) (few : pos < beat_count (length r.frame)) where
  here : (k : ℕ) → k < 3 → value v (held gather k (TRead slot)) ≡ word_at (get_or ms k []) at
  here k l = held_here gather bits kept slot v ms at sees.held k (omega (arith, count_held bits kept))

  there : (k : ℕ) → k < 2 + length words → v.memory_word (name.Memory exit k) at ≡ word_at (get_or es k []) at
  there k l = sees.answers k at (omega (arith, count_answers bits words))

  answered_at : (k : ℕ) → k < 2 + length words → value v (held exit k (TRead slot)) ≡ word_at (get_or es k []) at
  answered_at k l = held_word v exit slot k bits at _ sees.held.in_slot (there k l)

  within : pos < beat_count (length a.frame)
  within = omega (arith, changes.count)

  last_net : v.net (last_name p) ≡ bit (pos == last_of a.frame)
  last_net = solved.1.1.1.0 ∙ ap (λ x. apply Equal x (v.net (name.Wire p 1))) sees.position ∙ ap (apply Equal (word 11 pos)) (solved.1.0 ∙ here 1 (omega arith) ∙ holds.last)

  bytes_net : v.net (name.Wire p 4) ≡ word 4 (beat_of r.frame pos).bytes
  bytes_net =
      solved.1.1.1.1.0
      ∙ ap (λ x. conditional x (v.net (name.Wire p 2)) (word 4 8)) last_net
      ∙ ap (λ x. conditional (bit (pos == last_of a.frame)) x (word 4 8)) (solved.1.1.0 ∙ here 2 (omega arith) ∙ holds.bytes)
      ∙ bytes_are r.frame a.frame pos changes.count few (pos == last_of a.frame) refl

  raw_net : v.net (name.Wire p 9) ≡ word 64 (beat_of a.frame pos).word
  raw_net =
      let e : 0 * 2 ^ bits + at ≡ at = omega arith in
      let wide_net : v.net (name.Wire p 0) ≡ word (5 + bits) at = solved.0 ∙ ap (concatenated (word 5 0)) sees.held.in_slot ∙ ap (word (5 + bits)) e in
      let l : at / 32 < banks bits = bank_within bits at sees.held.within in
      solved.1.1.1.1.1.1.1.1.1.0 ∙ beat_is p gather bits kept some slot v ms at pos sees.held wide_net sees.position 0 (banks bits - 1) (omega arith) (omega arith) ∙ holds.part.beats pos within

  -- no byte of a beat may change whose word is none of these
  as_it_came : ¬ (Contains words pos) → (k : ℕ) → k < 8 → ¬ (Contains bytes (8 * pos + k))
  as_it_came other k l c = let e : (8 * pos + k) / 8 ≡ pos = omega arith in other (subst (Contains words) e (covered (8 * pos + k) c))

  answered : (j : ℕ) → j < length words → IsAnswered p exit bytes slot v bits at pos a.frame r sees.position sees.held.in_slot holds.frame.bytes changes raw_net (0 + j) (get_or words j 0)
  answered j l k few' c inside =
      let z : 2 + (0 + j) ≡ 2 + j = omega arith in
      ap (λ i. byte_of (v.memory_word (name.Memory exit i) at).value k) z ∙ ap (λ (x : Word). byte_of x.value k) (there (2 + j) (omega arith)) ∙ answer.changed j k l few' c inside

  content_net : v.net (name.Wire p (10 + 3 * (0 + length words))) ≡ word 64 (beat_of r.frame pos).word
  content_net =
      chosen p exit bytes slot v bits at pos a.frame r sees.position sees.held.in_slot holds.frame.bytes changes raw_net (beat_of r.frame pos).bytes refl (some_bytes r.frame pos few) bytes_net solved.1.1.1.1.1.1.1.0 solved.1.1.1.1.1.1.1.1.0 words 0
      (beat_of a.frame pos).word solved.1.1.1.1.1.1.1.1.1.1 raw_net answered
      (λ other. raw_right p exit bytes slot v bits at pos a.frame r sees.position sees.held.in_slot holds.frame.bytes changes raw_net (as_it_came other))

  pub shows_beat : ShowsBeat p words v r pos
  shows_beat = record {
    content = let z : 10 + 3 * length words ≡ 10 + 3 * (0 + length words) = omega arith in ap (λ k. v.net (name.Wire p k)) z ∙ content_net;
    bytes = bytes_net;
    last = last_net ∙ ap bit (ap (λ n. pos == beat_count n - 1) (sym changes.count) ∙ is_last r.frame pos few);
    verdict = solved.1.1.1.1.1.0 ∙ answered_at 0 (omega arith) ∙ answer.verdict;
    target = solved.1.1.1.1.1.1.0 ∙ answered_at 1 (omega arith) ∙ answer.target;
  }

-- ---- the register
abbrev at_word : Word → Stored
at_word x = record { registers = x ∷ []; memories = [] }

pub moves : {P : Type 0} (p : P) (taken : Name P) (v : Env (Name P)) (pos : ℕ) (goes last : Bool) → pos < BEAT_LIMIT → v.net (name.Register p 0) ≡ word 11 pos → v.net taken ≡ bit goes → v.net (last_name p) ≡ bit last
    → done v (scatter_statement p taken) (at_position pos) ≡ at_position (position_after goes last pos)
moves p taken v pos true last few position t l =
    on (v.net taken) (at_position pos) _ t
    ∙ ap at_word (ap (λ x. conditional x (word 11 0) (apply Add (v.net (name.Register p 0)) (word 11 1))) l ∙ ap (λ x. conditional (bit last) (word 11 0) (apply Add x (word 11 1))) position ∙ next_is last pos few)
moves p taken v pos false last few position t l = off (v.net taken) (at_position pos) _ t
