-- A clock of the parts of frames leads from what they store for a state to what they store for the next.
use Rattle.std.specs.Prelude.{◌≡◌, ℕ, zero, suc, ◌+◌, Option, Some, None, List, [], ◌∷◌, ◌++◌, length}
use Rattle.std.proofs.Common.{get_or, refl, sym, ap, ◌∙◌, subst, arith}
use Rattle.beat_core.specs.declared.answer.Answer.{Answer}
use Rattle.block_core.specs.net_core.declared.tree.Word.{Word}
use Rattle.block_core.specs.net_core.declared.ports.Inputs.{Inputs}
use Rattle.block_core.specs.net_core.Value.{word, Env}
use Rattle.block_core.specs.net_core.Clock.{Stored, done}
use Rattle.block_core.specs.declared.name.Name.{Name}
use Rattle.block_core.specs.Blocks.{Whole}
use Rattle.hazard_core.specs.cell_core.Cells.{bit as bit_of}
use Rattle.control_net.specs.RingNet.Ring.{slot}
use Rattle.control_net.specs.Control as control
use Rattle.control_net.specs.Control.{StaysSound}
use Rattle.control_net.specs.Block.{code}
use Rattle.commit_net.specs.frame_net.Frames.{Gathers}
use Rattle.stage_net.specs.row_net.PlaceNet.Exit.{byte_numbers}
use Rattle.pipe_core.specs.Machine.{Packet, State, answers_by, beat_over}
use Rattle.pipe_core.specs.History.{came_in}
use Rattle.pipe_net.specs.declared.parts.Part.{Part}
use Rattle.pipe_net.specs.Parts as part
use Rattle.pipe_net.specs.Machine.{input_of, MayCome}
use Rattle.pipe_net.specs.Layout.{Layout}
use Rattle.pipe_net.specs.Relation.{HoldsFrames, HoldsAnswers, no_answer, IsAt}
use Rattle.pipe_net.specs.PipeFrames.Following.{FramesGo}
use Rattle.pipe_net.proofs.PipeFrames.Clocking.{ends_with, Clocked}
use Rattle.pipe_net.proofs.PipeFrames.Counting.{last, is_last, shows, t, change, counts_then, out, gone, out_few, given_is, answered_is, gathered_is, counts_step, sound_then}
use Rattle.pipe_net.proofs.PipeFrames.Seeing.{IsSeen, now, control_clock}
use Rattle.pipe_net.proofs.PipeFrames.Gathering.{GatherStep, gather_step, frames_hold, came_holds}
use Rattle.pipe_net.proofs.PipeFrames.Answering.{leaver_in, some_inside, ExitStep, exit_step, new_answer, given_on, more_answers}
use Rattle.pipe_net.proofs.PipeFrames.Scattering.{AreSome, position_step, scatter_step}

module _ (l : Layout) (d : Whole Part) (i : Inputs) (s : State) (ss : Part → Stored) (v : Env (Name Part)) (h : IsSeen l d i s ss v) where
  abbrev next : Part → Stored
  next p = done v (d.block p).statement (ss p)

  abbrev ms : List (List Word)
  ms = (next (part.gather l.sizes)).memories

  abbrev es : List (List Word)
  es = (next (part.exit l.sizes)).memories

  abbrev before : control.State
  before = now l d i s ss v h

  abbrev then : control.State
  then = counts_then l d i s ss v h

  abbrev moved : State
  moved = t l d i s ss v h

  abbrev changed : Clocked l.build (input_of i) s moved
  changed = change l d i s ss v h

  module _ (come : MayCome l.build s i) where
    -- ---- frames
    gathers : GatherStep l s i h.given before.gathered then.gathered (ss (part.gather l.sizes)) (next (part.gather l.sizes))
    gathers = gather_step l d i s ss v h come (last l d i s ss v h) (is_last l d i s ss v h) then.gathered (λ e.
        let g = gathered_is l d i s ss v h in
        let none : bit_of (ends_with (beat_over l.build s (input_of i))) ≡ 0 = ap bit_of e in
        omega (arith, g, none))

    frames_then : HoldsFrames l.kept l.shape.slots ms then.answered moved.frames
    frames_then =
        let f = frames_hold l.kept l.shape.slots (ss (part.gather l.sizes)).memories ms before.answered (out l d i s ss v h) s.frames (came_in s (input_of i) (beat_over l.build s (input_of i))) (out_few l d i s ss v h) h.held.frames
        (λ k a low high. gathers.stays k a (omega (arith, low)) high)
        (came_holds l.kept l.shape.slots ms before.gathered s (input_of i) (beat_over l.build s (input_of i)) gathers.came)
        in
        subst (λ n. HoldsFrames l.kept l.shape.slots ms n moved.frames) (answered_is l d i s ss v h) (subst (HoldsFrames l.kept l.shape.slots ms (before.answered + out l d i s ss v h)) (sym changed.frames) f)

    -- ---- answers
    exits : ExitStep l i s h.given (ss (part.exit l.sizes)) (next (part.exit l.sizes))
    exits = exit_step l d i s ss v h (last l d i s ss v h) (shows l d i s ss v h)

    abbrev AreHeld : ℕ → List Answer → Type 0
    AreHeld from rs = HoldsAnswers l.kept (byte_numbers l.answer) l.words l.shape.slots ms es from rs

    abbrev more : List Answer
    more = answers_by l.build.program s.frames (leaver_in l i s)

    old_hold : AreHeld h.given s.answers
    old_hold j lt =
        let a = h.held.answers j lt in
        record {
          frame = a.frame;
          held = gathers.stays (h.given + j) a.frame (omega arith) (omega (arith, lt)) a.held;
          answer = exits.stays (h.given + j) (get_or s.answers j no_answer) (omega arith) (omega (arith, lt)) a.answer;
          changes = a.changes;
        }

    new_hold : AreHeld (h.given + length s.answers) more
    new_hold = by (leaver_in l i s) refl
      where
        by : (o : Option Packet) → leaver_in l i s ≡ o → AreHeld (h.given + length s.answers) (answers_by l.build.program s.frames o)
        by None e j lt = absurd (omega arith)
        by (Some x) e zero lt =
            let z : h.given + length s.answers + 0 ≡ h.given + length s.answers = omega arith in
            let some = some_inside l i s x e in
            let inside = h.held.sound.injected in
            rw z (new_answer l d i s ss v h ms exits (λ a f. gathers.stays (h.given + length s.answers) a (omega arith) (omega (arith, some, inside)) f) x e)
        by (Some x) e (suc j) lt = absurd (omega arith)

    all_hold : AreHeld h.given (s.answers ++ more)
    all_hold = more_answers l.kept (byte_numbers l.answer) l.words l.shape.slots ms es h.given s.answers more old_hold new_hold

    answers_hold : AreHeld then.given moved.answers
    answers_hold =
        let g = gone l d i s ss v h in
        subst (λ n. AreHeld n moved.answers) (sym (given_is l d i s ss v h))
        (subst (AreHeld (h.given + g)) (sym changed.answers) (given_on l.kept (byte_numbers l.answer) l.words l.shape.slots ms es h.given g (s.answers ++ more) all_hold))

    some_bytes : AreSome (s.answers ++ more)
    some_bytes j lt = let a = all_hold j lt in let f = a.held.frame.some in let c = a.changes.count in omega (arith, f, c)

    position_then : IsAt moved.pos moved.answers
    position_then = subst (λ n. IsAt n moved.answers) (sym changed.pos) (subst (IsAt _) (sym changed.answers) (position_step s.pos s.answers more i.out_ready h.held.position some_bytes))

    scatter_then : (next part.scatter).registers ≡ word 11 moved.pos ∷ []
    scatter_then = ap (λ (x : Stored). x.registers) (scatter_step l d i s ss v h (last l d i s ss v h) (is_last l d i s ss v h) (shows l d i s ss v h)) ∙ ap (λ n. word 11 n ∷ []) (sym changed.pos)

    pub frames_go : StaysSound → FramesGo l d i s ss v
    frames_go stays = record {
      given = then.given;
      packet_numbers = then.numbers;
      held = record {
        sound = sound_then l d i s ss v h stays;
        control = control_clock l d i s ss v h (last l d i s ss v h) (is_last l d i s ss v h) ∙ ap (code l.shape) (counts_step l d i s ss v h stays);
        gather = subst (λ o. Gathers l.shape.slot_bits l.kept o (slot l.shape.slots then.gathered) (next (part.gather l.sizes))) (sym changed.part) gathers.gathers;
        frames = frames_then;
        answers = answers_hold;
        scatter = scatter_then;
        position = position_then;
      };
    }
