-- The part that shows answers, in a clock.
use Rattle.std.specs.Prelude.{◌≡◌, ℕ, suc, ◌+◌, ◌*◌, ◌<◌, nat_le, if◌then◌else◌, Bool, true, false, ◌&&◌, Option, Some, None, is_some, List, [], ◌∷◌, ◌++◌, length, drop}
use Rattle.std.proofs.Common.{get_or, refl, sym, ap, ◌∙◌, subst, arith, length-drop}
use Rattle.std.proofs.lemmas.Bool.Decides.{nat_tests}
use Rattle.std.proofs.lemmas.List.{nil_from_length, length-map}
use Rattle.beat_core.specs.declared.beat.Beat.{Beat}
use Rattle.beat_core.specs.declared.answer.Answer.{Answer}
use Rattle.beat_core.specs.declared.frame.TheConstants.{BEAT_LIMIT}
use Rattle.beat_core.specs.Beats.{beat_count, first_beat}
use Rattle.block_core.specs.net_core.declared.tree.Word.{Word}
use Rattle.block_core.specs.net_core.declared.ports.Inputs.{Inputs}
use Rattle.block_core.specs.net_core.Value.{word, bit, nothing, Env}
use Rattle.block_core.specs.net_core.Clock.{Stored, done}
use Rattle.block_core.specs.declared.name.Name.{Name}
use Rattle.block_core.specs.declared.name.Name.TheVariants as name
use Rattle.block_core.specs.Blocks.{Whole}
use Rattle.block_core.specs.Formed.{block_memory_width}
use Rattle.hazard_core.specs.cell_core.Cells.{bit as bit_of}
use Rattle.control_net.specs.declared.ring_net.names.Counter.TheVariants.{Given}
use Rattle.control_net.specs.declared.names.Wire.TheVariants as wire
use Rattle.control_net.specs.Control.{Signals}
use Rattle.control_net.specs.RingNet.Ring.{slot}
use Rattle.control_net.specs.Block.{Shows}
use Rattle.commit_net.specs.frame_net.ScatterNet.Scatter.{last_name, at_position, position_after, SeesAnswer, ShowsBeat}
use Rattle.pipe_core.specs.Machine.{State, beat_at, shown_beat, taken_beat}
use Rattle.stage_net.specs.row_net.PlaceNet.Exit.{byte_numbers}
use Rattle.pipe_net.specs.declared.parts.Part.{Part}
use Rattle.pipe_net.specs.Parts as part
use Rattle.pipe_net.specs.PipeFrames.Parts.{next_slot}
use Rattle.pipe_net.specs.Machine.{input_of}
use Rattle.pipe_net.specs.Layout.{Layout}
use Rattle.pipe_net.specs.Relation.{HoldsAnswered, no_answer, IsAt}
use Rattle.pipe_net.proofs.PipeFrames.Cases.{same_some, none_some}
use Rattle.pipe_net.proofs.PipeFrames.Clocking.{ends_with, pos_after}
use Rattle.pipe_net.proofs.PipeFrames.Telling.{taken_is}
use Rattle.pipe_net.proofs.PipeFrames.Parts.{has_scatter, has_gather, has_exit}
use Rattle.pipe_net.proofs.PipeFrames.Seeing.{IsSeen, slot_fits, now, signals_with}

-- ---- the position among the beats of the first answer
-- each of these answers has a byte
abbrev pub AreSome : List Answer → Type 0
AreSome rs = (j : ℕ) → j < length rs → 0 < length (get_or rs j no_answer).frame

at_first : (rs : List Answer) → AreSome rs → IsAt 0 rs
at_first [] h = refl
at_first (r ∷ rs) h = let some : 0 < length r.frame = h 0 (omega arith) in omega (arith, some)

some_behind : (r : Answer) (rs : List Answer) → AreSome (r ∷ rs) → AreSome rs
some_behind r rs h j lt = h (suc j) (omega arith)

is_at_if : (pos : ℕ) (r : Answer) (rs : List Answer) (l : Bool) → nat_le (length (drop (8 * pos) r.frame)) 8 ≡ l → AreSome (r ∷ rs) → IsAt (if l then 0 else suc pos) (drop (bit_of l) (r ∷ rs))
is_at_if pos r rs true e h = at_first rs (some_behind r rs h)
is_at_if pos r rs false e h =
    let size = length-drop (8 * pos) r.frame in
    let far : 8 < length (drop (8 * pos) r.frame) = grind (arith, nat_tests) in
    omega (arith, size, far)

pub position_step : (pos : ℕ) (rs more : List Answer) (take : Bool) → IsAt pos rs → AreSome (rs ++ more)
    → IsAt (pos_after (if take then beat_at pos rs else None) pos) (drop (bit_of (ends_with (if take then beat_at pos rs else None))) (rs ++ more))
position_step pos [] more true at h = subst (λ n. IsAt n more) (sym at) (at_first more h)
position_step pos [] more false at h = subst (λ n. IsAt n more) (sym at) (at_first more h)
position_step pos (r ∷ rs) more false at h = at
position_step pos (r ∷ rs) more true at h = is_at_if pos r (rs ++ more) (nat_le (length (drop (8 * pos) r.frame)) 8) refl h

-- ---- the wires
same_bit : (a b : Bool) → bit a ≡ bit b → a ≡ b
same_bit true true e = refl
same_bit false false e = refl
same_bit true false e = let z : 1 ≡ 0 = ap (λ (w : Word). w.value) e in absurd (omega (arith, z))
same_bit false true e = let z : 0 ≡ 1 = ap (λ (w : Word). w.value) e in absurd (omega (arith, z))

position_is : (o : Option Beat) (take last : Bool) (pos : ℕ) → ((x : Beat) → o ≡ Some x → last ≡ x.last) → position_after (is_some o && take) last pos ≡ pos_after (if take then o else None) pos
position_is None true last pos h = refl
position_is None false last pos h = refl
position_is (Some x) true last pos h = ap (λ b. if b then 0 else suc pos) (h x refl)
position_is (Some x) false last pos h = refl

-- what stands first where a beat is shown
pub first_shown : (pos : ℕ) (rs : List Answer) (x : Beat) → beat_at pos rs ≡ Some x → (0 < length rs) × (first_beat (drop (8 * pos) (get_or rs 0 no_answer).frame) ≡ x)
first_shown pos [] x e = none_some x e
first_shown pos (r ∷ rs) x e = (omega arith, same_some _ x e)

at_within : (pos : ℕ) (rs : List Answer) → 0 < length rs → IsAt pos rs → pos < beat_count (length (get_or rs 0 no_answer).frame)
at_within pos [] h at = absurd (omega arith)
at_within pos (r ∷ rs) h at = at

module _ (l : Layout) (d : Whole Part) (i : Inputs) (s : State) (ss : Part → Stored) (v : Env (Name Part)) (h : IsSeen l d i s ss v) where
  abbrev given : ℕ
  given = h.given

  answered : 0 < length s.answers → HoldsAnswered l.kept (byte_numbers l.answer) l.words (ss (part.gather l.sizes)).memories (ss (part.exit l.sizes)).memories (slot l.shape.slots given) (get_or s.answers 0 no_answer)
  answered lt = let z : given + 0 ≡ given = omega arith in subst (λ n. HoldsAnswered l.kept (byte_numbers l.answer) l.words (ss (part.gather l.sizes)).memories (ss (part.exit l.sizes)).memories (slot l.shape.slots n) (get_or s.answers 0 no_answer)) z (h.held.answers 0 lt)

  position_net : v.net (name.Register part.scatter 0) ≡ word 11 s.pos
  position_net =
      let size = h.held.scatter in
      h.sees.register part.scatter 0 (has_scatter l.sizes d h.listed) (subst (λ rs. 0 < length rs) (sym size) (omega arith)) ∙ ap (λ rs. get_or rs 0 nothing) size

  pub last_is : (last : Bool) × (v.net (last_name part.scatter) ≡ bit last)
  last_is = h.parts.scatter.has_last v (h.sees.wires part.scatter (has_scatter l.sizes d h.listed))

  module _ (sig : Signals) (shows : Shows l.shape (part.control l.sizes) sig (now l d i s ss v h) v) where
    sees_answer : SeesAnswer part.scatter (part.gather l.sizes) (part.exit l.sizes) l.shape.slot_bits l.kept l.words (next_slot l.sizes Given) v (ss (part.gather l.sizes)).memories (ss (part.exit l.sizes)).memories s.pos (slot l.shape.slots given)
    sees_answer =
        let size = (h.stored (part.gather l.sizes) (has_gather l.sizes d h.listed)).memories in
        let e = ap length h.parts.gather.memories in
        let f = length-map (d.block (part.gather l.sizes)).memories block_memory_width in
        let size' = (h.stored (part.exit l.sizes) (has_exit l.sizes d h.listed)).memories in
        let e' = ap length h.parts.exit.memories in
        let f' = length-map (d.block (part.exit l.sizes)).memories block_memory_width in
        record {
          position = position_net;
          held = record {
            memory = λ k n lt. h.sees.memory_word (part.gather l.sizes) k n (has_gather l.sizes d h.listed) (omega (arith, size, e, f));
            in_slot = shows.slot Given;
            within = slot_fits l d i s ss v h given;
          };
          answers = λ k n lt. h.sees.memory_word (part.exit l.sizes) k n (has_exit l.sizes d h.listed) (omega (arith, size', e', f'));
        }

    pub beat_shows : 0 < length s.answers → ShowsBeat part.scatter l.words v (get_or s.answers 0 no_answer) s.pos
    beat_shows lt =
        let a = answered lt in
        h.parts.scatter.shows v (ss (part.gather l.sizes)).memories (ss (part.exit l.sizes)).memories s.pos (slot l.shape.slots given) a.frame (get_or s.answers 0 no_answer) (h.sees.wires part.scatter (has_scatter l.sizes d h.listed)) sees_answer
        a.held a.answer a.changes (at_within s.pos s.answers lt h.held.position)

    -- the shown beat is the last one where the wire says so
    pub last_shown : (last : Bool) → v.net (last_name part.scatter) ≡ bit last → (x : Beat) → shown_beat s ≡ Some x → last ≡ x.last
    last_shown last e x q =
        let f = first_shown s.pos s.answers x q in
        let b = beat_shows f.0 in
        same_bit last x.last (sym e ∙ b.last ∙ ap (λ (y : Beat). bit y.last) f.1)

  pos_small : s.pos < BEAT_LIMIT
  pos_small = by s.answers refl
    where
      by : (rs : List Answer) → s.answers ≡ rs → s.pos < BEAT_LIMIT
      by [] e = let z : s.pos ≡ 0 = subst (IsAt s.pos) e h.held.position in omega (arith, z)
      by (r ∷ rs) e =
          let at : s.pos < beat_count (length r.frame) = subst (IsAt s.pos) e h.held.position in
          let a = answered (subst (λ xs. 0 < length xs) (sym e) (omega arith)) in
          let room = a.held.frame.room in
          let count : length (get_or s.answers 0 no_answer).frame ≡ length a.frame.frame = a.changes.count in
          let same : length (get_or s.answers 0 no_answer).frame ≡ length r.frame = ap (λ xs. length (get_or xs 0 no_answer).frame) e in
          omega (arith, at, room, count, same)

  stored_is : ss part.scatter ≡ at_position s.pos
  stored_is =
      let m = (h.stored part.scatter (has_scatter l.sizes d h.listed)).memories ∙ ap length h.parts.scatter.memories in
      is_stored (ss part.scatter) h.held.scatter (nil_from_length (ss part.scatter).memories m)
    where
      is_stored : (t : Stored) → t.registers ≡ word 11 s.pos ∷ [] → t.memories ≡ [] → t ≡ at_position s.pos
      is_stored t e f = λ j. record { registers = e j; memories = f j }

  pub scatter_step : (last : Bool) → v.net (last_name part.scatter) ≡ bit last → Shows l.shape (part.control l.sizes) (signals_with l d i s ss v h last) (now l d i s ss v h) v
      → done v (d.block part.scatter).statement (ss part.scatter) ≡ at_position (pos_after (taken_beat s (input_of i)) s.pos)
  scatter_step last e shows =
      ap (done v (d.block part.scatter).statement) stored_is
      ∙ h.parts.scatter.clock v s.pos (is_some (shown_beat s) && i.out_ready) last pos_small position_net (shows.wire wire.Taken ∙ ap bit (taken_is l d i s ss v h last)) e
      ∙ ap at_position (position_is (shown_beat s) i.out_ready last s.pos (last_shown (signals_with l d i s ss v h last) shows last e))
