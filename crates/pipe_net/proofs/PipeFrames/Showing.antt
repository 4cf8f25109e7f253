-- What the parts of frames show in a clock.
use Rattle.std.specs.Prelude.{◌≡◌, ℕ, ◌<◌, nat_lt, if◌then◌else◌, Bool, true, false, not, ◌&&◌, Some, None, List, [], ◌∷◌, length}
use Rattle.std.proofs.Common.{get_or, refl, sym, ap, ◌∙◌, subst, arith}
use Rattle.std.proofs.lemmas.Bool.{ltb-true, and_parts}
use Rattle.std.proofs.lemmas.List.{length-map}
use Rattle.beat_core.specs.declared.beat.Beat.{Beat}
use Rattle.beat_core.specs.declared.answer.Answer.{Answer}
use Rattle.block_core.specs.net_core.declared.ports.Inputs.{Inputs}
use Rattle.block_core.specs.net_core.Value.{word, bit, Env}
use Rattle.block_core.specs.net_core.Clock.{Stored}
use Rattle.block_core.specs.declared.name.Name.{Name}
use Rattle.block_core.specs.Blocks.{Whole}
use Rattle.block_core.specs.Formed.{block_memory_width}
use Rattle.control_net.specs.declared.ring_net.names.Counter.TheVariants.{Injected}
use Rattle.control_net.specs.RingNet.Ring.{slot}
use Rattle.control_net.specs.declared.names.Wire.TheVariants as wire
use Rattle.commit_net.specs.frame_net.Frames.{HoldsFrame}
use Rattle.commit_net.specs.frame_net.Sources.{SeesHeld, ShowsFrame}
use Rattle.stage_net.specs.row_net.PlaceNet.Sources.{IsShownIn}
use Rattle.pipe_core.specs.Machine.{Packet, State, injected, newcomer, some_send, flushed, inside, no_frame, shown_beat, first_answer}
use Rattle.pipe_core.proofs.FlushLaws.{flushed_none}
use Rattle.pipe_net.specs.declared.parts.Part.{Part}
use Rattle.pipe_net.specs.Parts as part
use Rattle.pipe_net.specs.Machine.{input_of}
use Rattle.pipe_net.specs.Layout.{Layout}
use Rattle.pipe_net.specs.Relation.{no_answer}
use Rattle.pipe_net.specs.Saying.{moves_in}
use Rattle.pipe_net.specs.PipeFrames.Parts.{next_slot}
use Rattle.pipe_net.specs.PipeFrames.Following.{ShowsBeat, ShowFrames}
use Rattle.pipe_net.proofs.PipeFrames.Cases.{none_some, not_not}
use Rattle.pipe_net.proofs.PipeFrames.Parts.{has_gather, has_sources}
use Rattle.pipe_net.proofs.PipeFrames.Telling.{ready_is, shown_is}
use Rattle.pipe_net.proofs.PipeFrames.Seeing.{IsSeen, now, signals_with, slot_fits}
use Rattle.pipe_net.proofs.PipeFrames.Scattering.{first_shown, beat_shows}
use Rattle.pipe_net.proofs.PipeFrames.Counting.{last, shows}

first_is : (rs : List Answer) → get_or rs 0 no_answer ≡ first_answer rs
first_is [] = refl
first_is (r ∷ rs) = refl

injected_some : (l : Layout) (c : Bool) (x : Packet) → (if c then Some (injected l.build.program) else None) ≡ Some x → c ≡ true
injected_some l true x e = refl
injected_some l false x e = none_some x e

module _ (l : Layout) (d : Whole Part) (i : Inputs) (s : State) (ss : Part → Stored) (v : Env (Name Part)) (h : IsSeen l d i s ss v) where
  shows_beat : (x : Beat) → shown_beat s ≡ Some x → ShowsBeat l s x (length l.words) v
  shows_beat x e =
      let f = first_shown s.pos s.answers x e in
      let b = beat_shows l d i s ss v h (signals_with l d i s ss v h (last l d i s ss v h)) (shows l d i s ss v h) f.0 in
      let r = first_is s.answers in
      record {
        content = b.content ∙ ap (λ (y : Beat). word 64 y.word) f.1;
        bytes = b.bytes ∙ ap (λ (y : Beat). word 4 y.bytes) f.1;
        last = b.last ∙ ap (λ (y : Beat). bit y.last) f.1;
        verdict = b.verdict ∙ ap (λ (y : Answer). word 32 y.verdict) r;
        target = b.target ∙ ap (λ (y : Answer). word 32 y.target) r;
      }

  -- ---- the frame of the next packet, where none is sent back
  abbrev next : ℕ
  next = (now l d i s ss v h).injected

  sees_held : SeesHeld (part.gather l.sizes) l.shape.slot_bits l.kept (next_slot l.sizes Injected) v (ss (part.gather l.sizes)).memories (slot l.shape.slots next)
  sees_held =
      let there = has_gather l.sizes d h.listed in
      let size = (h.stored (part.gather l.sizes) there).memories in
      let e = ap length h.parts.gather.memories in
      let f = length-map (d.block (part.gather l.sizes)).memories block_memory_width in
      record {
        memory = λ k n lt. h.sees.memory_word (part.gather l.sizes) k n there (omega (arith, size, e, f, lt));
        in_slot = (shows l d i s ss v h).slot Injected;
        within = slot_fits l d i s ss v h next;
      }

  shows_frame : (x : Packet) → newcomer l.build (some_send l.build 0 s.places) s.frames (flushed l.build 0 s.places) ≡ Some x
      → IsShownIn (part.sources l.sizes) l.kept v (get_or s.frames (inside (flushed l.build 0 s.places)) no_frame)
  shows_frame x e =
      let send = some_send l.build 0 s.places in
      let both = and_parts (not send) (nat_lt (inside (flushed l.build 0 s.places)) (length s.frames)) (injected_some l (not send && nat_lt (inside (flushed l.build 0 s.places)) (length s.frames)) x e) in
      let same : flushed l.build 0 s.places ≡ s.places = flushed_none l.build 0 s.places (sym (not_not send) ∙ ap not both.0) in
      let lt : inside s.places < length s.frames = subst (λ ps. inside ps < length s.frames) same (ltb-true _ _ both.1) in
      let a = get_or s.frames (inside s.places) no_frame in
      let f : HoldsFrame l.kept (ss (part.gather l.sizes)).memories (slot l.shape.slots next) a = h.held.frames (inside s.places) lt in
      let y : ShowsFrame (part.sources l.sizes) l.kept v a = h.parts.sources.shows v (ss (part.gather l.sizes)).memories (slot l.shape.slots next) a (h.sees.wires (part.sources l.sizes) (has_sources l.sizes d h.listed)) sees_held f in
      subst (λ ps. IsShownIn (part.sources l.sizes) l.kept v (get_or s.frames (inside ps) no_frame)) (sym same) (record { bytes = f.frame.bytes; shows = y })

  pub frames_shown : ShowFrames l i s (length l.words) v
  frames_shown =
      let c = shows l d i s ss v h in
      record {
        ready = c.wire wire.Ready ∙ ap bit (ready_is l d i s ss v h (last l d i s ss v h));
        shown = c.wire wire.Shown ∙ ap bit (shown_is l d i s ss v h (last l d i s ss v h));
        beat = shows_beat;
        passed = c.passed;
        advances = c.wire wire.Advances ∙ ap bit (not_not (moves_in l.build (input_of i) s));
        frame = shows_frame;
      }
