-- The gatherer and the frames that it holds, in a clock.
use Rattle.std.specs.Prelude.{◌≡◌, ◌≢◌, ℕ, zero, suc, ◌+◌, ◌-◌, ◌<◌, ◌≤◌, nat_lt, if◌then◌else◌, Bool, true, false, ◌||◌, Option, Some, None, is_some, List, [], ◌∷◌, ◌++◌, length, drop}
use Rattle.std.proofs.Common.{get_or, refl, sym, ap, ◌∙◌, subst, arith, inl, inr, length-append, length-drop}
use Rattle.std.proofs.lemmas.Bool.{cases_lt, ltb-true}
use Rattle.std.proofs.lemmas.List.{get_or_append_left, get_or-drop}
use Rattle.std.proofs.Math.Seq.{get_or-append_right}
use Rattle.beat_core.specs.declared.beat.Beat.{Beat}
use Rattle.beat_core.specs.Beats.{IsOffer}
use Rattle.beat_core.specs.Ports.{Arrival, Offered, offered}
use Rattle.block_core.specs.net_core.declared.tree.Word.{Word}
use Rattle.block_core.specs.net_core.declared.ports.Inputs.{Inputs}
use Rattle.block_core.specs.net_core.declared.ports.TheConstants.{IN_DATA, IN_BYTES, IN_LAST, IN_IFINDEX, IN_TIME}
use Rattle.block_core.specs.net_core.Value.{bit, Env}
use Rattle.block_core.specs.net_core.Clock.{Stored, done}
use Rattle.block_core.specs.declared.name.Name.{Name}
use Rattle.block_core.specs.Blocks.{Whole}
use Rattle.pipe_core.specs.Machine.{State, Input, is_ready, beat_over, came_with, no_frame}
use Rattle.pipe_core.specs.History.{came_in}
use Rattle.control_net.specs.RingNet.Ring.{slot}
use Rattle.control_net.specs.Block.{Shows}
use Rattle.control_net.specs.declared.ring_net.names.Counter.TheVariants.{Gathered}
use Rattle.control_net.specs.declared.names.Wire.TheVariants as wire
use Rattle.control_net.proofs.RingNet.RingLaws.{slots_apart}
use Rattle.commit_net.specs.frame_net.declared.held.Kept.{Kept}
use Rattle.commit_net.specs.frame_net.Frames.{HoldsFrame, Gathers}
use Rattle.commit_net.specs.frame_net.Gather.{SeesBeat, HasTaken}
use Rattle.commit_net.specs.frame_net.ScatterNet.Scatter.{last_name}
use Rattle.pipe_core.proofs.ClockLaws.{part_after}
use Rattle.pipe_net.specs.declared.parts.Part.{Part}
use Rattle.pipe_net.specs.Parts as part
use Rattle.pipe_net.specs.PipeFrames.Parts.{told_by, next_slot}
use Rattle.pipe_net.specs.Machine.{beat_in, input_of, MayCome}
use Rattle.pipe_net.specs.Layout.{Layout}
use Rattle.pipe_net.specs.Relation.{HoldsFrames}
use Rattle.pipe_net.proofs.PipeFrames.Cases.{same_some, none_some}
use Rattle.pipe_net.proofs.PipeFrames.Clocking.{ends_with}
use Rattle.pipe_net.proofs.PipeFrames.Telling.{over_is}
use Rattle.pipe_net.proofs.PipeFrames.Parts.{has_gather}
use Rattle.pipe_net.proofs.PipeFrames.Seeing.{IsSeen, control_shows, slot_fits, now, signals_with}

-- What a clock makes of what the gatherer stores: after it stands what has come of a frame, in this slot, and each frame that stood in a slot of the
-- ring, and one that has come wholly.
pub record GatherStep (l : Layout) (s : State) (i : Inputs) (from to at : ℕ) (old new : Stored) : Type 0 where
  pub gathers : Gathers l.shape.slot_bits l.kept (part_after s.part (input_of i) (beat_over l.build s (input_of i))) (slot l.shape.slots at) new
  pub stays : (k : ℕ) (a : Arrival) → from ≤ k → k < to → HoldsFrame l.kept old.memories (slot l.shape.slots k) a → HoldsFrame l.kept new.memories (slot l.shape.slots k) a
  pub came : (x : Beat) → beat_over l.build s (input_of i) ≡ Some x → x.last ≡ true → HoldsFrame l.kept new.memories (slot l.shape.slots to) (came_with s.part (input_of i) x)

-- where a frame is whole any slot may be the next
gathers_none : (bits : ℕ) (kept : List Kept) (at to : ℕ) (s : Stored) → Gathers bits kept None at s → Gathers bits kept None to s
gathers_none bits kept at to s h = record { registers = h.registers; memories = h.memories; begun = tt }

-- the beat that goes over is the one that is offered
over_beat : (r v : Bool) (b x : Beat) → (if r then (if v then Some b else None) else None) ≡ Some x → b ≡ x
over_beat true true b x e = cc
over_beat true false b x e = cc
over_beat false v b x e = cc

over_ready : (r v : Bool) (b x : Beat) → (if r then (if v then Some b else None) else None) ≡ Some x → r ≡ true
over_ready true v b x e = refl
over_ready false v b x e = cc

module _ (l : Layout) (d : Whole Part) (i : Inputs) (s : State) (ss : Part → Stored) (v : Env (Name Part)) (h : IsSeen l d i s ss v) (come : MayCome l.build s i) (last : Bool) (is_last : v.net (last_name part.scatter) ≡ bit last) where
  abbrev given : ℕ
  given = h.given

  abbrev gathered_now : ℕ
  gathered_now = (now l d i s ss v h).gathered

  abbrev offer : Offered
  offer = offered i.in_ifindex i.in_time (beat_in i)

  shows : Shows l.shape (part.control l.sizes) (signals_with l d i s ss v h last) (now l d i s ss v h) v
  shows = control_shows l d i s ss v h last is_last

  sees_beat : (goes : Bool) → is_some (beat_over l.build s (input_of i)) ≡ goes → SeesBeat (part.gather l.sizes) l.shape.slot_bits (told_by l.sizes wire.Over) (next_slot l.sizes Gathered) v (ss (part.gather l.sizes)) goes (slot l.shape.slots gathered_now) offer
  sees_beat goes e =
      let size = h.held.gather.registers in
      record {
        register = λ k lt. h.sees.register (part.gather l.sizes) k (has_gather l.sizes d h.listed) (subst (λ rs. k < length rs) (sym size) lt);
        goes_over = shows.wire wire.Over ∙ ap bit (over_is l d i s ss v h last ∙ e);
        in_slot = shows.slot Gathered;
        within = slot_fits l d i s ss v h gathered_now;
        content = h.sees.port IN_DATA;
        bytes = h.sees.port IN_BYTES;
        last = h.sees.port IN_LAST;
        ifindex = h.sees.port IN_IFINDEX;
        time = h.sees.port IN_TIME;
      }

  abbrev new : Stored
  new = done v (d.block (part.gather l.sizes)).statement (ss (part.gather l.sizes))

  -- a frame that stands in the ring stands in another slot than the one that comes
  apart : gathered_now < given + l.shape.slots → (k : ℕ) → given ≤ k → k < gathered_now → slot l.shape.slots k ≢ slot l.shape.slots gathered_now
  apart room k low high = slots_apart l.shape.slots k gathered_now high (omega arith)

  has_room : (x : Beat) → beat_over l.build s (input_of i) ≡ Some x → gathered_now < given + l.shape.slots
  has_room x e = by (is_some s.part) refl
    where
      ready : is_ready l.build s ≡ true
      ready = over_ready (is_ready l.build s) i.in_valid (beat_in i) x e

      by : (p : Bool) → is_some s.part ≡ p → gathered_now < given + l.shape.slots
      by true q = h.held.sound.room q
      by false q =
          let t : (false || nat_lt (length s.answers + length s.frames) l.build.slots) ≡ true = ap (λ b. b || nat_lt (length s.answers + length s.frames) l.build.slots) (sym q) ∙ ready in
          let u : length s.answers + length s.frames < l.build.slots = ltb-true _ _ t in
          let n = h.sized.slots in
          omega (arith, u, n)

  over_none : beat_over l.build s (input_of i) ≡ None → GatherStep l s i given gathered_now gathered_now (ss (part.gather l.sizes)) new
  over_none e =
      let same : new ≡ ss (part.gather l.sizes) = h.parts.gather.stays v (ss (part.gather l.sizes)) (slot l.shape.slots gathered_now) offer (h.sees.wires (part.gather l.sizes) (has_gather l.sizes d h.listed)) (sees_beat false (ap is_some e)) in
      record {
        gathers = subst (λ (t : Stored). Gathers l.shape.slot_bits l.kept (part_after s.part (input_of i) (beat_over l.build s (input_of i))) (slot l.shape.slots gathered_now) t) (sym same)
            (subst (λ o. Gathers l.shape.slot_bits l.kept (part_after s.part (input_of i) o) (slot l.shape.slots gathered_now) (ss (part.gather l.sizes))) (sym e) h.held.gather);
        stays = λ k a low high f. subst (λ (t : Stored). HoldsFrame l.kept t.memories (slot l.shape.slots k) a) (sym same) f;
        came = λ x q. none_some x (sym e ∙ q);
      }

  taken : (x : Beat) → beat_over l.build s (input_of i) ≡ Some x → HasTaken l.shape.slot_bits l.kept s.part (slot l.shape.slots gathered_now) offer (ss (part.gather l.sizes)) new
  taken x e =
      let b = over_beat (is_ready l.build s) i.in_valid (beat_in i) x e in
      h.parts.gather.takes v (ss (part.gather l.sizes)) (slot l.shape.slots gathered_now) offer s.part (h.sees.wires (part.gather l.sizes) (has_gather l.sizes d h.listed)) (sees_beat true (ap is_some e))
      (subst IsOffer (sym b) (come.offer x e)) (come.room x e) h.held.gather

  -- what has come of the frame after a beat
  over_part : (at : ℕ) (x : Beat) (goes : Bool) → x.last ≡ goes → (goes ≡ false → at ≡ gathered_now)
      → Gathers l.shape.slot_bits l.kept (if goes then None else Some (came_with s.part (input_of i) x)) (slot l.shape.slots gathered_now) new
      → Gathers l.shape.slot_bits l.kept (if goes then None else Some (came_with s.part (input_of i) x)) (slot l.shape.slots at) new
  over_part at x true e n g = gathers_none l.shape.slot_bits l.kept _ _ new g
  over_part at x false e n g = subst (λ k. Gathers l.shape.slot_bits l.kept (Some (came_with s.part (input_of i) x)) (slot l.shape.slots k) new) (sym (n refl)) g

  over_some : (x : Beat) → beat_over l.build s (input_of i) ≡ Some x → (at : ℕ) → (x.last ≡ false → at ≡ gathered_now) → GatherStep l s i given gathered_now at (ss (part.gather l.sizes)) new
  over_some x e at n =
      let b = over_beat (is_ready l.build s) i.in_valid (beat_in i) x e in
      let t = subst (λ y. HasTaken l.shape.slot_bits l.kept s.part (slot l.shape.slots gathered_now) (offered i.in_ifindex i.in_time y) (ss (part.gather l.sizes)) new) b (taken x e) in
      record {
        gathers = rw e (over_part at x x.last refl n t.gathers);
        stays = λ k a low high f. t.others (slot l.shape.slots k) a (apart (has_room x e) k low high) f;
        came = λ y q z. subst (λ (w : Beat). w.last ≡ true → HoldsFrame l.kept new.memories (slot l.shape.slots gathered_now) (came_with s.part (input_of i) w)) (same_some x y (sym e ∙ q)) t.frame z;
      }

  -- the slot stays until a frame has come wholly
  pub gather_step : (at : ℕ) → (ends_with (beat_over l.build s (input_of i)) ≡ false → at ≡ gathered_now) → GatherStep l s i given gathered_now at (ss (part.gather l.sizes)) new
  gather_step at n = by (beat_over l.build s (input_of i)) refl
    where
      by : (o : Option Beat) → beat_over l.build s (input_of i) ≡ o → GatherStep l s i given gathered_now at (ss (part.gather l.sizes)) new
      by None e = subst (λ k. GatherStep l s i given gathered_now k (ss (part.gather l.sizes)) new) (sym (n (ap ends_with e))) (over_none e)
      by (Some x) e = over_some x e at (λ f. n (ap ends_with e ∙ f))

-- ---- frames that wait, where the oldest may go and one may come
pub frames_hold : (kept : List Kept) (n : ℕ) (old new : List (List Word)) (from out : ℕ) (frames came : List Arrival) → out ≤ length frames → HoldsFrames kept n old from frames
    → ((k : ℕ) (a : Arrival) → from ≤ k → k < from + length frames → HoldsFrame kept old (slot n k) a → HoldsFrame kept new (slot n k) a)
    → HoldsFrames kept n new (from + length frames) came → HoldsFrames kept n new (from + out) (drop out frames ++ came)
frames_hold kept n old new from out frames came few holds stays come j lt =
    let size = length-append (drop out frames) came in
    let left = length-drop out frames in
    elim (cases_lt j (length (drop out frames))) [
      | inl low ↦
          let e : get_or (drop out frames ++ came) j no_frame ≡ get_or frames (out + j) no_frame = get_or_append_left (drop out frames) came no_frame j low ∙ get_or-drop out frames j no_frame in
          let k : from + out + j ≡ from + (out + j) = omega arith in
          rw (e, k) (stays (from + (out + j)) (get_or frames (out + j) no_frame) (omega arith) (omega arith) (holds (out + j) (omega arith)))
      | inr high ↦
          let m = j - length (drop out frames) in
          let e : get_or (drop out frames ++ came) j no_frame ≡ get_or came m no_frame = get_or-append_right (drop out frames) came j no_frame high in
          let k : from + out + j ≡ from + length frames + m = omega arith in
          rw (e, k) (come m (omega arith))
    ]

pub came_holds : (kept : List Kept) (n : ℕ) (new : List (List Word)) (from : ℕ) (s : State) (i : Input) (o : Option Beat)
    → ((x : Beat) → o ≡ Some x → x.last ≡ true → HoldsFrame kept new (slot n from) (came_with s.part i x)) → HoldsFrames kept n new from (came_in s i o)
came_holds kept n new from s i None h j lt = absurd (omega arith)
came_holds kept n new from s i (Some x) h j lt = one x.last refl j lt
  where
    one : (b : Bool) → x.last ≡ b → HoldsFrames kept n new from (if b then came_with s.part i x ∷ [] else [])
    one true e zero lt = let z : from + 0 ≡ from = omega arith in rw z (h x refl e)
    one true e (suc j) lt = absurd (omega arith)
    one false e j lt = absurd (omega arith)
