-- The exit and the answers that stand in their slots, in a clock.
use Rattle.std.specs.Prelude.{◌≡◌, ℕ, zero, suc, ◌+◌, ◌-◌, ◌^◌, ◌<◌, ◌≤◌, Bool, Option, Some, None, is_some, List, [], ◌∷◌, ◌++◌, length, drop, map, replicate}
use Rattle.std.proofs.Common.{get_or, refl, sym, ap, ◌∙◌, subst, arith, inl, inr, length-append, length-drop}
use Rattle.std.proofs.lemmas.Bool.{cases_lt}
use Rattle.std.proofs.lemmas.List.{nil_from_length, length-map, get_or-map, get_or-drop, get_or_append_left}
use Rattle.std.proofs.Math.Seq.{get_or-append_right}
use Rattle.beat_core.specs.declared.answer.Answer.{Answer}
use Rattle.beat_core.specs.Ports.{Arrival}
use Rattle.block_core.specs.net_core.declared.tree.Word.{Word}
use Rattle.block_core.specs.net_core.declared.ports.Inputs.{Inputs}
use Rattle.block_core.specs.net_core.Value.{bit, Env}
use Rattle.block_core.specs.net_core.Clock.{Stored, done}
use Rattle.block_core.specs.declared.name.Name.{Name}
use Rattle.block_core.specs.Blocks.{Whole}
use Rattle.block_core.specs.Formed.{block_memory_width}
use Rattle.hazard_core.specs.cell_core.Cells.{bit as bit_of}
use Rattle.control_net.specs.declared.ring_net.names.Counter.TheVariants.{Answered}
use Rattle.control_net.specs.RingNet.Ring.{slot}
use Rattle.control_net.proofs.RingNet.RingLaws.{slots_apart}
use Rattle.control_net.specs.declared.names.Wire.TheVariants as wire
use Rattle.control_net.specs.Block.{Shows}
use Rattle.commit_net.specs.frame_net.declared.held.Kept.{Kept}
use Rattle.commit_net.specs.frame_net.Frames.{HoldsFrame}
use Rattle.commit_net.specs.frame_net.Answers.{answer_widths, word_widths, HoldsAnswer}
use Rattle.pipe_core.specs.Machine.{Packet, State, flushed, inside, no_frame, answer_of}
use Rattle.pipe_core.proofs.FlushLaws.{flushed_inside}
use Rattle.stage_net.specs.row_net.PlaceNet.Exit.{byte_numbers, KeepsAnswers, SeesExit, HasLeft}
use Rattle.pipe_net.specs.declared.parts.Part.{Part}
use Rattle.pipe_net.specs.Parts as part
use Rattle.pipe_net.specs.Machine.{input_of}
use Rattle.pipe_net.specs.Layout.{Layout}
use Rattle.pipe_net.specs.Relation.{HoldsAnswered, HoldsAnswers, no_answer}
use Rattle.pipe_net.specs.Saying.{moves_in, ShowsAnswer}
use Rattle.pipe_net.specs.PipeFrames.Parts.{told_by, next_slot}
use Rattle.pipe_net.proofs.PipeFrames.Cases.{same_some, none_some}
use Rattle.pipe_net.proofs.PipeFrames.Clocking.{leaver, leaver_was}
use Rattle.pipe_net.proofs.PipeFrames.Tests.{leaver_inside}
use Rattle.pipe_net.proofs.PipeFrames.Telling.{exits_is}
use Rattle.pipe_net.proofs.PipeFrames.Parts.{has_exit}
use Rattle.pipe_net.proofs.PipeFrames.Seeing.{IsSeen, now, signals_with, slot_fits}
use Rattle.pipe_net.proofs.PipeFrames.Answers.{is_answer, changes}

-- ---- memories of answers
same_lengths : (ms : List (List Word)) (n c : ℕ) → length ms ≡ n → ((i : ℕ) → i < n → length (get_or ms i []) ≡ c) → map length ms ≡ replicate n c
same_lengths [] zero c e h = refl
same_lengths [] (suc n) c e h = absurd (omega (arith, e))
same_lengths (m ∷ ms) zero c e h = absurd (omega (arith, e))
same_lengths (m ∷ ms) (suc n) c e h =
    let x : length m ≡ c = h 0 (omega arith) in
    let more = same_lengths ms n c (omega (arith, e)) (λ i lt. h (suc i) (omega arith)) in
    λ j. x j ∷ more j

widths_index : (bits : ℕ) (words : List ℕ) (i : ℕ) → i < 2 + length words → (get_or (answer_widths bits words) i (0, 0)).0 ≡ bits
widths_index bits words zero h = refl
widths_index bits words (suc zero) h = refl
widths_index bits words (suc (suc i)) h = ap (λ (x : ℕ × ℕ). x.0) (get_or-map (word_widths bits) words i 0 (0, 0) (omega arith))

-- the packet that leaves in a clock
abbrev pub leaver_in : Layout → Inputs → State → Option Packet
leaver_in l i s = leaver (moves_in l.build (input_of i) s) l.build (flushed l.build 0 s.places)

pub some_inside : (l : Layout) (i : Inputs) (s : State) (x : Packet) → leaver_in l i s ≡ Some x → 1 ≤ inside s.places
some_inside l i s x e =
    let one : 1 ≤ inside (flushed l.build 0 s.places) = subst (λ o. bit_of (is_some o) ≤ inside (flushed l.build 0 s.places)) e (leaver_inside (moves_in l.build (input_of i) s) l.build (flushed l.build 0 s.places)) in
    let few = flushed_inside l.build 0 s.places in
    omega (arith, one, few)

-- What a clock makes of what the exit stores: answers stay in their slots, and that of a packet that leaves is added.
pub record ExitStep (l : Layout) (i : Inputs) (s : State) (from : ℕ) (old new : Stored) : Type 0 where
  pub stays : (k : ℕ) (r : Answer) → from ≤ k → k < from + length s.answers → HoldsAnswer (byte_numbers l.answer) l.words old.memories (slot l.shape.slots k) r → HoldsAnswer (byte_numbers l.answer) l.words new.memories (slot l.shape.slots k) r
  pub left : (x : Packet) → leaver_in l i s ≡ Some x → HoldsAnswer (byte_numbers l.answer) l.words new.memories (slot l.shape.slots (from + length s.answers)) (answer_of l.build.program x.held (get_or s.frames 0 no_frame))

module _ (l : Layout) (d : Whole Part) (i : Inputs) (s : State) (ss : Part → Stored) (v : Env (Name Part)) (h : IsSeen l d i s ss v) where
  abbrev answered_now : ℕ
  answered_now = (now l d i s ss v h).answered

  abbrev old : Stored
  old = ss (part.exit l.sizes)

  abbrev new : Stored
  new = done v (d.block (part.exit l.sizes)).statement old

  shown_of : (x : Packet) → leaver_in l i s ≡ Some x → ShowsAnswer l v x
  shown_of x e = h.says.answer.is x (leaver_was (moves_in l.build (input_of i) s) l.build s.places x e)

  keeps : KeepsAnswers l.shape.slot_bits l.words old
  keeps =
      let stored = h.stored (part.exit l.sizes) (has_exit l.sizes d h.listed) in
      let e = ap length h.parts.exit.memories in
      let f = length-map (d.block (part.exit l.sizes)).memories block_memory_width in
      let g = length-map l.words (word_widths l.shape.slot_bits) in
      record {
        registers = nil_from_length old.registers (stored.registers ∙ ap length h.parts.exit.registers);
        memories = same_lengths old.memories (2 + length l.words) (2 ^ l.shape.slot_bits) (stored.memories ∙ omega (arith, e, f, g)) (λ n lt.
            (stored.memory n (omega (arith, e, f, g, lt))).count ∙ ap (λ m. 2 ^ m) (ap (λ (ws : List (ℕ × ℕ)). (get_or ws n (0, 0)).0) h.parts.exit.memories ∙ widths_index l.shape.slot_bits l.words n lt));
      }

  module _ (last : Bool) (shows : Shows l.shape (part.control l.sizes) (signals_with l d i s ss v h last) (now l d i s ss v h) v) where
    exits_as : (o : Option Packet) → leaver_in l i s ≡ o → v.net (told_by l.sizes wire.Exits) ≡ bit (is_some o)
    exits_as o e = shows.wire wire.Exits ∙ ap bit (exits_is l d i s ss v h last ∙ ap is_some e)

    exit_none : leaver_in l i s ≡ None → ExitStep l i s h.given old new
    exit_none e =
        let same : new ≡ old = h.parts.exit.stays v old (exits_as None e) in
        record {
          stays = λ k r low high f. subst (λ (t : Stored). HoldsAnswer (byte_numbers l.answer) l.words t.memories (slot l.shape.slots k) r) (sym same) f;
          left = λ x q. none_some x (sym e ∙ q);
        }

    sees_exit : (x : Packet) → leaver_in l i s ≡ Some x → SeesExit l.shape.slot_bits (told_by l.sizes wire.Exits) (next_slot l.sizes Answered) l.answer v (slot l.shape.slots answered_now)
    sees_exit x e = record { leaves = exits_as (Some x) e; in_slot = shows.slot Answered; within = slot_fits l d i s ss v h answered_now; fit = h.says.answer.fit }

    exit_some : (x : Packet) → leaver_in l i s ≡ Some x → ExitStep l i s h.given old new
    exit_some x e =
        let t : HasLeft l.shape.slot_bits l.words l.answer v (slot l.shape.slots answered_now) old new = h.parts.exit.takes v old (slot l.shape.slots answered_now) (sees_exit x e) keeps in
        let some = some_inside l i s x e in
        let a = h.held.sound.injected in
        let b = h.held.sound.gathered in
        record {
          stays = λ k r low high f. t.others (slot l.shape.slots k) r (slots_apart l.shape.slots k answered_now high (omega (arith, a, b, some, low))) f;
          left = λ y q.
              subst (λ (z : Packet). HoldsAnswer (byte_numbers l.answer) l.words new.memories (slot l.shape.slots answered_now) (answer_of l.build.program z.held (get_or s.frames 0 no_frame))) (same_some x y (sym e ∙ q))
              (t.answer _ (is_answer l h.has_bytes v x (shown_of x e) (get_or s.frames 0 no_frame)));
        }

    pub exit_step : ExitStep l i s h.given old new
    exit_step = by (leaver_in l i s) refl
      where
        by : (o : Option Packet) → leaver_in l i s ≡ o → ExitStep l i s h.given old new
        by None e = exit_none e
        by (Some x) e = exit_some x e

  -- the answer of the packet that leaves, where its frame stays in its slot
  pub new_answer : (ms : List (List Word)) → ExitStep l i s h.given old new
      → ((a : Arrival) → HoldsFrame l.kept (ss (part.gather l.sizes)).memories (slot l.shape.slots answered_now) a → HoldsFrame l.kept ms (slot l.shape.slots answered_now) a)
      → (x : Packet) → leaver_in l i s ≡ Some x → HoldsAnswered l.kept (byte_numbers l.answer) l.words ms new.memories (slot l.shape.slots answered_now) (answer_of l.build.program x.held (get_or s.frames 0 no_frame))
  new_answer ms step stays x e =
      let some = some_inside l i s x e in
      let few = h.held.sound.injected in
      let z : answered_now + 0 ≡ answered_now = omega arith in
      let f : HoldsFrame l.kept (ss (part.gather l.sizes)).memories (slot l.shape.slots answered_now) (get_or s.frames 0 no_frame) =
      subst (λ n. HoldsFrame l.kept (ss (part.gather l.sizes)).memories (slot l.shape.slots n) (get_or s.frames 0 no_frame)) z (h.held.frames 0 (omega (arith, some, few))) in
      record { frame = get_or s.frames 0 no_frame; held = stays _ f; answer = step.left x e; changes = changes l h.has_bytes v x (shown_of x e) (get_or s.frames 0 no_frame) f.frame }

-- ---- answers that are not given, where the first may go and one may come
-- some answers, and the rest of them after the first that are given
pub given_on : (kept : List Kept) (bytes words : List ℕ) (n : ℕ) (ms es : List (List Word)) (from gone : ℕ) (rs : List Answer) → HoldsAnswers kept bytes words n ms es from rs → HoldsAnswers kept bytes words n ms es (from + gone) (drop gone rs)
given_on kept bytes words n ms es from gone rs h j lt =
    let e = get_or-drop gone rs j no_answer in
    let k : from + gone + j ≡ from + (gone + j) = omega arith in
    let size = length-drop gone rs in
    rw (e, k) (h (gone + j) (omega (arith, size, lt)))

-- answers, and more after them
pub more_answers : (kept : List Kept) (bytes words : List ℕ) (n : ℕ) (ms es : List (List Word)) (from : ℕ) (rs more : List Answer) → HoldsAnswers kept bytes words n ms es from rs → HoldsAnswers kept bytes words n ms es (from + length rs) more
    → HoldsAnswers kept bytes words n ms es from (rs ++ more)
more_answers kept bytes words n ms es from rs more h g j lt =
    let size = length-append rs more in
    elim (cases_lt j (length rs)) [
      | inl low ↦ let e = get_or_append_left rs more no_answer j low in rw e (h j low)
      | inr high ↦
          let m = j - length rs in
          let e = get_or-append_right rs more j no_answer high in
          let k : from + j ≡ from + length rs + m = omega arith in
          rw (e, k) (g m (omega (arith, size, lt)))
    ]
