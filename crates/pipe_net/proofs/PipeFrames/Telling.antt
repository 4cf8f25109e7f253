-- What control tells is what the machine does.
use Rattle.std.specs.Prelude.{◌≡◌, ℕ, ◌+◌, nat_lt, Bool, false, not, ◌&&◌, ◌||◌, Option, None, is_some, List, length, map}
use Rattle.std.proofs.Common.{get_or, refl, ap, ◌∙◌, arith}
use Rattle.std.proofs.Math.ListN.{get_or-map}
use Rattle.block_core.specs.net_core.declared.ports.Inputs.{Inputs}
use Rattle.block_core.specs.net_core.Value.{Env}
use Rattle.block_core.specs.net_core.Clock.{Stored}
use Rattle.block_core.specs.declared.name.Name.{Name}
use Rattle.block_core.specs.Blocks.{Whole}
use Rattle.pipe_core.specs.Machine.{Packet, State, Build, place_at, inside, some_send, flushed, newcomer, is_ready, beat_over, shown_beat}
use Rattle.control_net.specs.Control as control
use Rattle.control_net.specs.Control.{Signals, rest}
use Rattle.pipe_net.specs.declared.parts.Part.{Part}
use Rattle.pipe_net.specs.Machine.{beat_in, input_of}
use Rattle.pipe_net.specs.Layout.{Layout}
use Rattle.pipe_net.specs.Saying.{moves_in}
use Rattle.pipe_net.proofs.PipeFrames.Cases.{not_not}
use Rattle.pipe_net.proofs.PipeFrames.Sending.{sends_is, flushed_is}
use Rattle.pipe_net.proofs.PipeFrames.Clocking.{leaver, ends_with}
use Rattle.pipe_net.proofs.PipeFrames.Tests.{less_shifted, over_some, over_ends, shows_some, new_some, leaves_some, and_assoc, enters_same}
use Rattle.pipe_net.proofs.PipeFrames.Seeing.{IsSeen, now, told, tells, signals_with}

module _ (l : Layout) (d : Whole Part) (i : Inputs) (s : State) (ss : Part → Stored) (v : Env (Name Part)) (h : IsSeen l d i s ss v) (last : Bool) where
  abbrev b : Build
  b = l.build

  abbrev goes : Bool
  goes = moves_in b (input_of i) s

  -- the packets that are not sent back
  abbrev kept : List (Option Packet)
  kept = flushed b 0 s.places

  -- the packet that comes in, if there is one
  abbrev new : Option Packet
  new = newcomer b (some_send b 0 s.places) s.frames kept

  abbrev seen : Signals
  seen = signals_with l d i s ss v h last

  abbrev state : control.State
  state = now l d i s ss v h

  abbrev reload : ℕ → Bool
  reload = told l d i s ss v h

  pub ready_is : control.ready l.shape seen state ≡ is_ready b s
  ready_is =
      let e : nat_lt (h.given + length s.answers + length s.frames) (h.given + l.shape.slots) ≡ nat_lt (length s.answers + length s.frames) b.slots =
      ap (λ n. nat_lt n (h.given + l.shape.slots)) (omega arith) ∙ less_shifted h.given (length s.answers + length s.frames) l.shape.slots ∙ ap (nat_lt (length s.answers + length s.frames)) h.sized.slots in
      ap (λ r. is_some s.part || r) e

  pub over_is : control.over l.shape seen state ≡ is_some (beat_over b s (input_of i))
  over_is = ap (λ r. i.in_valid && r) ready_is ∙ over_some (is_ready b s) i.in_valid (beat_in i)

  pub ends_is : control.ends l.shape seen state ≡ ends_with (beat_over b s (input_of i))
  ends_is = ap (λ r. (i.in_valid && r) && i.in_last) ready_is ∙ over_ends (is_ready b s) i.in_valid (beat_in i)

  pub shown_is : control.shown state ≡ is_some (shown_beat s)
  shown_is = shows_some h.given s.pos s.answers

  pub taken_is : control.taken seen state ≡ is_some (shown_beat s) && i.out_ready
  taken_is = ap (λ x. x && i.out_ready) shown_is

  pub rest_is : rest l.shape seen state ≡ map is_some kept
  rest_is = flushed_is b l.shape h.sized.commits reload s.places 0 (tells l d i s ss v h)

  pub exits_is : control.exits l.shape seen state ≡ is_some (leaver goes b kept)
  exits_is =
      (λ j. not_not goes j && get_or (rest_is j) l.shape.stages false)
      ∙ ap (λ n. goes && get_or (map is_some kept) n false) h.sized.stages
      ∙ ap (λ x. goes && x) (get_or-map is_some kept b.plan.last None)
      ∙ leaves_some goes b kept

  pub passes_is : control.passes l.shape seen state ≡ goes && is_some (place_at kept b.plan.commit)
  passes_is =
      (λ j. not_not goes j && get_or (rest_is j) l.shape.commit false)
      ∙ ap (λ n. goes && get_or (map is_some kept) n false) h.sized.commits
      ∙ ap (λ x. goes && x) (get_or-map is_some kept b.plan.commit None)

  pub injects_is : control.injects l.shape seen state ≡ goes && is_some new
  injects_is =
      let send = some_send b 0 s.places in
      (λ j. (not_not goes j && not (sends_is b l.shape h.sized.commits reload s.places 0 (tells l d i s ss v h) j)) && less_shifted (h.given + length s.answers) (inside s.places) (length s.frames) j)
      ∙ and_assoc goes (not send) (nat_lt (inside s.places) (length s.frames))
      ∙ ap (λ x. goes && x) (enters_same b s.places (length s.frames) send refl ∙ new_some b.program (not send && nat_lt (inside kept) (length s.frames)))
