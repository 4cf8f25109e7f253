-- The word of a beat of an answer, chosen among the words that have bytes that may change and the beat as it came.
use Rattle.std.specs.Prelude.{◌≡◌, ◌≢◌, ℕ, zero, suc, ◌+◌, ◌*◌, ◌<◌, ◌≤◌, ◌==◌, if◌then◌else◌, Bool, true, false, List, [], ◌∷◌, length, Contains}
use Rattle.std.proofs.Common.{get_or, refl, sym, ap, ◌∙◌, subst, arith}
use Rattle.std.proofs.lemmas.Bool.{eqb-true}
use Rattle.std.proofs.lemmas.Bool.Decides.{nat_tests}
use Rattle.beat_core.specs.list_laws.Bytes.{IsBytes}
use Rattle.beat_core.specs.declared.answer.Answer.{Answer}
use Rattle.beat_core.specs.Words.{word_of}
use Rattle.net_core.specs.declared.tree.Op.TheVariants.{Equal}
use Rattle.net_core.specs.declared.tree.Word.{Word}
use Rattle.net_core.specs.Value.{word, bit, Env, value, apply, conditional}
use Rattle.block_core.specs.declared.name.Name.{Name}
use Rattle.block_core.specs.declared.name.Name.TheVariants as name
use Rattle.block_core.specs.Parts.{Solve}
use Rattle.frame_net.specs.Frames.{beat_of}
use Rattle.frame_net.specs.GatherNets.{net, uncounted, in_bits}
use Rattle.frame_net.specs.Answers.{byte_of, Changes}
use Rattle.frame_net.proofs.MaskLaws.{masked_word}
use Rattle.frame_net.proofs.ReadLaws.{held_word}
use Rattle.frame_net.specs.ScatterNet.ScatterNets.{may_change, byte_name, merged, word_wires}
use Rattle.frame_net.proofs.ScatterNet.ByteLemmas.{beat_byte, beat_word, eight, eight_byte, eight_word, may, may_not}

none : (x : ℕ) → ¬ (Contains [] x)
none x c = let l = c.1 in absurd (omega arith)

not_more : (w x : ℕ) (ws : List ℕ) → w ≢ x → ¬ (Contains ws x) → ¬ (Contains (w ∷ ws) x)
not_more w x ws h n c = by_place c.0 c.1 c.2
  where
    by_place : (k : ℕ) → k < length (w ∷ ws) → get_or (w ∷ ws) k x ≡ x → ⊥
    by_place zero l e = h e
    by_place (suc k) l e = n (k, omega arith, e)

module _ {P : Type 0} (p exit : P) (bytes : List ℕ) (slot : Name P) (v : Env (Name P)) (bits at pos : ℕ) (frame : List ℕ) (r : Answer) (position : v.net (name.Register p 0) ≡ word 11 pos) (in_slot : v.net slot ≡ word bits at)
    (is_bytes : IsBytes frame) (changes : Changes bytes frame r) (raw : v.net (name.Wire p 9) ≡ word 64 (beat_of frame pos).word) where
  -- a word has the bytes of the beat
  abbrev pub IsRight : ℕ → Type 0
  IsRight d = (k : ℕ) → k < 8 → 8 * pos + k < length r.frame → byte_of d k ≡ get_or r.frame (8 * pos + k) 0

  -- a word has those bytes of a word of the answer that may change
  abbrev HasChanged : Word → ℕ → Type 0
  HasChanged x w = (k : ℕ) → k < 8 → Contains bytes (8 * w + k) → 8 * w + k < length r.frame → byte_of x.value k ≡ get_or r.frame (8 * w + k) 0

  abbrev pub IsAnswered : ℕ → ℕ → Type 0
  IsAnswered i w = HasChanged (v.memory_word (name.Memory exit (2 + i)) at) w

  raw_byte : (k : ℕ) → k < 8 → 8 * pos + k < length r.frame → ¬ (Contains bytes (8 * pos + k)) → byte_of (beat_of frame pos).word k ≡ get_or r.frame (8 * pos + k) 0
  raw_byte k few within same = beat_byte frame pos k is_bytes few (omega (arith, changes.count)) ∙ sym (changes.others (8 * pos + k) same)

  -- where none of its bytes may change it is right as it came
  pub raw_right : ((k : ℕ) → k < 8 → ¬ (Contains bytes (8 * pos + k))) → IsRight (beat_of frame pos).word
  raw_right h k few within = raw_byte k few within (h k few)

  -- ---- the bytes of two nets
  module _ (changed : Name P) where
    abbrev part : ℕ → ℕ
    part k = byte_of (v.net (byte_name bytes (8 * pos + k) changed (name.Wire p 9))).value k

    small : (k : ℕ) → part k < 256
    small k = omega arith

    merged_is : value v (merged bytes pos changed (name.Wire p 9)) ≡ word 64 (word_of (eight part))
    merged_is = ap (word 64) (eight_word part)

    merged_right : HasChanged (v.net changed) pos → IsRight (word_of (eight part))
    merged_right h k few within = eight_byte part k small few ∙ by_test (may_change bytes (8 * pos + k)) refl
      where
        by_test : (t : Bool) → may_change bytes (8 * pos + k) ≡ t → part k ≡ get_or r.frame (8 * pos + k) 0
        by_test true e = ap (λ t. byte_of (v.net (if t then changed else name.Wire p 9)).value k) e ∙ h k few (may bytes (8 * pos + k) e) within
        by_test false e =
            ap (λ t. byte_of (v.net (if t then changed else name.Wire p 9)).value k) e ∙ ap (λ (x : Word). byte_of x.value k) raw ∙ raw_byte k few within (may_not bytes (8 * pos + k) e)

  -- ---- one word after another
  module _ (n : ℕ) (counted : n ≡ (beat_of r.frame pos).bytes) (some : 1 ≤ n) (count : v.net (name.Wire p 4) ≡ word 4 n) (left : v.net (name.Wire p 7) ≡ value v (uncounted (net p 4))) (shift : v.net (name.Wire p 8) ≡ value v (in_bits (net p 7))) where
    -- after so many words the data is right
    abbrev IsShown : ℕ → List ℕ → Type 0
    IsShown i ws = v.net (name.Wire p (10 + 3 * (i + length ws))) ≡ word 64 (beat_of r.frame pos).word

    one_more : (w : ℕ) (ws : List ℕ) (i d : ℕ) → Solve v p (10 + 3 * i) (word_wires p exit slot bytes i (w ∷ ws)) → v.net (name.Wire p (9 + 3 * i)) ≡ word 64 d → IsAnswered i w → (¬ (Contains (w ∷ ws) pos) → IsRight d)
        → ((e : ℕ) → v.net (name.Wire p (9 + 3 * suc i)) ≡ word 64 e → (¬ (Contains ws pos) → IsRight e) → IsShown (suc i) ws) → IsShown (suc i) ws
    one_more w ws i d solved here answered right further = by_test (pos == w) refl
      where
        choice_is : (t : Bool) → (pos == w) ≡ t → v.net (name.Wire p (9 + 3 * suc i)) ≡ conditional (bit t) (v.net (name.Wire p (11 + 3 * i))) (v.net (name.Wire p (9 + 3 * i)))
        choice_is t e =
            let n : 9 + 3 * suc i ≡ suc (suc (10 + 3 * i)) = omega arith in
            ap (λ k. v.net (name.Wire p k)) n
            ∙ solved.1.1.0
            ∙ ap (λ x. conditional (apply Equal x (word 11 w)) (v.net (name.Wire p (11 + 3 * i))) (v.net (name.Wire p (9 + 3 * i)))) position
            ∙ ap (λ t. conditional (bit t) (v.net (name.Wire p (11 + 3 * i))) (v.net (name.Wire p (9 + 3 * i)))) e

        has_changed : w ≡ pos → HasChanged (v.net (name.Wire p (10 + 3 * i))) pos
        has_changed e =
            let at_memory : v.net (name.Wire p (10 + 3 * i)) ≡ v.memory_word (name.Memory exit (2 + i)) at = solved.0 ∙ held_word v exit slot (2 + i) bits at _ in_slot refl in
            subst (λ x. HasChanged x pos) (sym at_memory) (subst (IsAnswered i) e answered)

        by_test : (t : Bool) → (pos == w) ≡ t → IsShown (suc i) ws
        by_test true e =
            let is : w ≡ pos = sym (eqb-true pos w e) in
            let next : 11 + 3 * i ≡ suc (10 + 3 * i) = omega arith in
            further (word_of (eight (part (name.Wire p (10 + 3 * i)))))
            (choice_is true e
            ∙ ap (λ k. v.net (name.Wire p k)) next
            ∙ solved.1.0
            ∙ ap (λ k. value v (merged bytes k (name.Wire p (10 + 3 * i)) (name.Wire p 9))) is
            ∙ merged_is (name.Wire p (10 + 3 * i))) (λ _. merged_right (name.Wire p (10 + 3 * i)) (has_changed is))
        by_test false e =
            let other : w ≢ pos = grind (arith, nat_tests) in
            further d (choice_is false e ∙ here) (λ same. right (not_more w pos ws other same))

    pub chosen : (ws : List ℕ) (i d : ℕ) → Solve v p (10 + 3 * i) (word_wires p exit slot bytes i ws) → v.net (name.Wire p (9 + 3 * i)) ≡ word 64 d → ((j : ℕ) → j < length ws → IsAnswered (i + j) (get_or ws j 0)) → (¬ (Contains ws pos) → IsRight d)
        → IsShown i ws
    chosen [] i d solved here answered right =
        let z : i + 0 ≡ i = omega arith in
        let most : n ≤ 8 = omega (arith, counted) in
        ap (λ k. v.net (name.Wire p (10 + 3 * k))) z
        ∙ solved.0
        ∙ masked_word v (net p 4) (net p 7) (net p 8) (net p (9 + 3 * i)) n d some most count left shift here
        ∙ ap (word 64) (beat_word r.frame pos n d counted (right (none pos)))
    chosen (w ∷ ws) i d solved here answered right =
        let z : i + 0 ≡ i = omega arith in
        let a : suc (suc (suc (10 + 3 * i))) ≡ 10 + 3 * suc i = omega arith in
        let c : 10 + 3 * (i + length (w ∷ ws)) ≡ 10 + 3 * (suc i + length ws) = omega arith in
        ap (λ k. v.net (name.Wire p k)) c
        ∙ one_more w ws i d solved here (subst (λ k. IsAnswered k w) z (answered 0 (omega arith))) right
        (λ e there right'. chosen ws (suc i) e (subst (λ k. Solve v p k (word_wires p exit slot bytes (suc i) ws)) a solved.1.1.1) there
        (λ j l. let s : i + suc j ≡ suc i + j = omega arith in subst (λ k. IsAnswered k (get_or ws j 0)) s (answered (suc j) (omega arith))) right')
