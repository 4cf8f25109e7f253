-- What control counts is what the machine holds, after a clock too.
use Rattle.std.specs.Prelude.{◌≡◌, ℕ, ◌+◌, ◌%◌, ◌^◌, ◌≤◌, if◌then◌else◌, Bool, not, ◌&&◌, Option, is_some, List, ◌++◌, length, drop, map}
use Rattle.std.proofs.Common.{sym, ap, ◌∙◌, subst, arith, length-append, length-drop}
use Rattle.block_core.specs.net_core.declared.ports.Inputs.{Inputs}
use Rattle.block_core.specs.net_core.Value.{number_of, bit as bit_word, Env}
use Rattle.block_core.specs.net_core.Clock.{Stored}
use Rattle.block_core.specs.declared.name.Name.{Name}
use Rattle.block_core.specs.Blocks.{Whole}
use Rattle.hazard_core.specs.cell_core.Cells.{bit}
use Rattle.pipe_core.specs.Machine.{Packet, State, Build, inside, some_send, flushed, newcomer, answers_by, is_ready, beat_over, shown_beat, taken_beat, clock}
use Rattle.pipe_core.specs.History.{came_in}
use Rattle.control_net.specs.RingNet.Control.{packets}
use Rattle.control_net.specs.Control as control
use Rattle.control_net.specs.Control.{Signals, shifted, step, partial_after, IsSound, StaysSound}
use Rattle.control_net.specs.Block.{Shows}
use Rattle.commit_net.specs.frame_net.ScatterNet.Scatter.{last_name}
use Rattle.pipe_core.proofs.FlushLaws.{flushed_inside}
use Rattle.pipe_net.specs.declared.parts.Part.{Part}
use Rattle.pipe_net.specs.Parts as part
use Rattle.pipe_net.specs.Machine.{beat_in, input_of}
use Rattle.pipe_net.specs.Layout.{Layout}
use Rattle.pipe_net.specs.Relation.{counts}
use Rattle.pipe_net.specs.Saying.{moves_in}
use Rattle.pipe_net.proofs.PipeFrames.Cases.{if_not}
use Rattle.pipe_net.proofs.PipeFrames.Flushing.{packets_inside}
use Rattle.pipe_net.proofs.PipeFrames.Clocking.{leaver, ends_with, Clocked, clocked}
use Rattle.pipe_net.proofs.PipeFrames.Tests.{gone_ends, counted_is, part_some, answers_length, came_length, ends_within, leaver_inside, if_goes, passed_is}
use Rattle.pipe_net.proofs.PipeFrames.Seeing.{IsSeen, now, signals_with, control_shows}
use Rattle.pipe_net.proofs.PipeFrames.Telling.{ready_is, ends_is, shown_is, rest_is, exits_is, passes_is, injects_is}
use Rattle.pipe_net.proofs.PipeFrames.Scattering.{last_is, last_shown}

module _ (l : Layout) (d : Whole Part) (i : Inputs) (s : State) (ss : Part → Stored) (v : Env (Name Part)) (h : IsSeen l d i s ss v) where
  -- whether the beat that is shown is a last one
  abbrev pub last : Bool
  last = (last_is l d i s ss v h).0

  pub is_last : v.net (last_name part.scatter) ≡ bit_word last
  is_last = (last_is l d i s ss v h).1

  abbrev seen : Signals
  seen = signals_with l d i s ss v h last

  abbrev state : control.State
  state = now l d i s ss v h

  pub shows : Shows l.shape (part.control l.sizes) seen state v
  shows = control_shows l d i s ss v h last is_last

  -- ---- what a clock makes of the machine, and of what control counts
  abbrev b : Build
  b = l.build

  abbrev goes : Bool
  goes = moves_in b (input_of i) s

  abbrev kept : List (Option Packet)
  kept = flushed b 0 s.places

  abbrev new : Option Packet
  new = newcomer b (some_send b 0 s.places) s.frames kept

  abbrev pub t : State
  t = clock b (input_of i) s

  pub change : Clocked b (input_of i) s t
  change = clocked b (input_of i) s

  -- how many answers are given then, and the numbers of packets
  abbrev pub given_then : ℕ
  given_then = (step l.shape seen state).given

  abbrev pub numbers_then : List ℕ
  numbers_then = (step l.shape seen state).numbers

  abbrev pub counts_then : control.State
  counts_then = counts given_then numbers_then t

  -- whether a packet leaves, an answer is given wholly, a frame has come wholly
  abbrev pub out : ℕ
  out = bit (is_some (leaver goes b kept))

  abbrev pub gone : ℕ
  gone = bit (ends_with (taken_beat s (input_of i)))

  abbrev come : ℕ
  come = bit (ends_with (beat_over b s (input_of i)))

  pub out_few : out ≤ length s.frames
  out_few =
      let e = h.held.sound.injected in
      let f = leaver_inside goes b kept in
      let g = flushed_inside b 0 s.places in
      omega (arith, e, f, g)

  pub given_is : given_then ≡ h.given + gone
  given_is =
      let goes_whole : control.gone seen state ≡ ends_with (taken_beat s (input_of i)) =
      ap (λ x. (x && i.out_ready) && last) (shown_is l d i s ss v h last) ∙ gone_ends (shown_beat s) i.out_ready last (last_shown l d i s ss v h seen shows last is_last) in
      counted_is (control.gone seen state) h.given ∙ ap (λ x. h.given + bit x) goes_whole

  answers_then : length t.answers + gone ≡ length s.answers + out
  answers_then =
      let more = answers_by b.program s.frames (leaver goes b kept) in
      let e = ap length change.answers ∙ length-drop gone (s.answers ++ more) in
      let f = length-append s.answers more in
      let g : length more ≡ out = answers_length b.program s.frames (leaver goes b kept) in
      let k : gone ≤ length s.answers = ends_within s.pos s.answers i.out_ready in
      omega (arith, e, f, g, k)

  frames_then : length t.frames + out ≡ length s.frames + come
  frames_then =
      let came = came_in s (input_of i) (beat_over b s (input_of i)) in
      let e = ap length change.frames ∙ length-append (drop out s.frames) came in
      let f = length-drop out s.frames in
      let g : length came ≡ come = came_length s (input_of i) (beat_over b s (input_of i)) in
      let k = out_few in
      omega (arith, e, f, g, k)

  pub answered_is : state.answered + out ≡ counts_then.answered
  answered_is = let g = given_is in let a = answers_then in omega (arith, g, a)

  pub gathered_is : state.gathered + come ≡ counts_then.gathered
  gathered_is = let g = given_is in let a = answers_then in let f = frames_then in omega (arith, g, a, f)

  answered_then : (step l.shape seen state).answered ≡ counts_then.answered
  answered_then = counted_is (control.exits l.shape seen state) state.answered ∙ ap (λ x. state.answered + bit x) (exits_is l d i s ss v h last) ∙ answered_is

  gathered_then : (step l.shape seen state).gathered ≡ counts_then.gathered
  gathered_then = counted_is (control.ends l.shape seen state) state.gathered ∙ ap (λ x. state.gathered + bit x) (ends_is l d i s ss v h last) ∙ gathered_is

  holds_then : (step l.shape seen state).holds ≡ map is_some t.places
  holds_then =
      let enters = is_some new in
      let hs = map is_some kept in
      (λ j. if not goes then rest_is l d i s ss v h last j else shifted (injects_is l d i s ss v h last j) (rest_is l d i s ss v h last j))
      ∙ if_not goes hs (shifted (goes && enters) hs) ∙ if_goes goes enters hs ∙ sym change.holds

  passed_then : (step l.shape seen state).passed ≡ t.passed
  passed_then = ap (λ x. (s.passed + number_of x) % 2 ^ 32) (passes_is l d i s ss v h last) ∙ passed_is goes b kept s.passed h.held.sound.passed ∙ sym change.passed

  partial_then : partial_after l.shape seen state ≡ is_some t.part
  partial_then = ap (λ r. if i.in_valid && r then not i.in_last else is_some s.part) (ready_is l d i s ss v h last) ∙ part_some s (input_of i) (is_ready b s) i.in_valid (beat_in i) ∙ ap is_some (sym change.part)

  module _ (stays : StaysSound) where
    -- as many are injected as are answered and inside, whether some are sent back or not
    injected_then : (step l.shape seen state).injected ≡ counts_then.injected
    injected_then =
        let e = (stays l.shape seen state h.held.sound).inside in
        let f = answered_then in
        let g : packets (step l.shape seen state).holds ≡ inside t.places = ap packets holds_then ∙ packets_inside t.places in
        omega (arith, e, f, g)

    pub counts_step : step l.shape seen state ≡ counts_then
    counts_step = λ j. record {
      given = given_then;
      answered = answered_then j;
      injected = injected_then j;
      gathered = gathered_then j;
      holds = holds_then j;
      numbers = numbers_then;
      passed = passed_then j;
    }

    pub sound_then : IsSound l.shape (is_some t.part) counts_then
    sound_then = subst (λ q. IsSound l.shape q counts_then) partial_then (subst (λ c. IsSound l.shape (partial_after l.shape seen state) c) counts_step (stays l.shape seen state h.held.sound))
