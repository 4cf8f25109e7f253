use Rattle.std.proofs.Common.{◌≡◌, ℕ, Option, Some, sym, ap, ◌∙◌, subst}
use Rattle.std.specs.Prelude.{is_some}
use Rattle.realization.specs.beat_core.declared.beat.Beat.{Beat}
use Rattle.pipe_core.specs.Machine.{State, is_ready, came_with, gathered}
use Rattle.pipe_core.specs.BuildView.{build_in}
use Rattle.pipe_core.specs.StateView.{state_of}
use Rattle.pipe_core.specs.FrameQueue.{FrameQueue}
use Rattle.pipe_core.specs.PipeView.{PipeView, IsSteady, has_room, input_of}
use Rattle.pipe_core.proofs.Clocking.{gathered_steady}
use Rattle.pipe_core.proofs.Piping.{slot_in, room_in, gathered_queue, gathered_slots}
use Rattle.pipe_core.proofs.pipe.Pipe.gather.Goals as goal

pub gather-requires-clause-slot : goal.gather-requires-clause-slot
gather-requires-clause-slot c =
    let i = c.self.inside in
    slot_in (build_in i.places.build) i.tables i.queue i.places.places i.done i.taken.items i.passed c.self.invariant.slots
    ∙ ap (λ (T : PipeView). is_ready (build_in T.build) T.state) c.self.view_is ∙ c.requires.slot (ap is_some c.in-Some.is)

pub gather-requires-clause-room : goal.gather-requires-clause-room
gather-requires-clause-room c =
    let i = c.self.inside in
    room_in (state_of i.tables i.queue i.places.places i.done i.taken.items i.passed) c.in-Some.beat
    (ap (λ (T : PipeView). has_room T.state (Some c.in-Some.beat)) c.self.view_is ∙ ap (has_room c.args.self.now.state) (sym c.in-Some.is) ∙ c.requires.room)

pub invariant_of-self : goal.invariant_of-self
invariant_of-self c =
    let i = c.self.inside in
    let x = c.in-Some.beat in
    let s = state_of i.tables i.queue i.places.places i.done i.taken.items i.passed in
    let same : state_of i.tables c.gather.new.self i.places.places i.done i.taken.items i.passed ≡ gathered s (input_of c.args.input.now) (Some x)
    = ap (λ (q : FrameQueue). state_of i.tables q i.places.places i.done i.taken.items i.passed) c.gather.ensures ∙ gathered_queue i.tables i.queue i.places.places i.done i.taken.items i.passed (input_of c.args.input.now) x in
    let slots : c.gather.new.self.slots ≡ i.queue.slots = ap (λ (q : FrameQueue). q.slots) c.gather.ensures ∙ gathered_slots x.last (came_with i.queue.part (input_of c.args.input.now) x) i.queue in
    subst (λ (n : ℕ). IsSteady (build_in i.places.build) (state_of i.tables c.gather.new.self i.places.places i.done i.taken.items i.passed) n) (sym slots)
    (subst (λ (t : State). IsSteady (build_in i.places.build) t i.queue.slots) (sym same) (gathered_steady (build_in i.places.build) s i.queue.slots (input_of c.args.input.now) (Some x) c.self.invariant))

pub returns-in-Some : goal.returns-in-Some
returns-in-Some c =
    let i = c.self.inside in
    let x = c.in-Some.beat in
    let S = c.args.self.now in
    let pipe : State → PipeView = λ t. record { build = i.places.build; state = t } in
    ap pipe (ap (λ (q : FrameQueue). state_of i.tables q i.places.places i.done i.taken.items i.passed) c.gather.ensures ∙ gathered_queue i.tables i.queue i.places.places i.done i.taken.items i.passed (input_of c.args.input.now) x)
    ∙ ap (λ (T : PipeView). record T { state = gathered T.state (input_of c.args.input.now) (Some x) }) c.self.view_is
    ∙ ap (λ (o : Option Beat). record S { state = gathered S.state (input_of c.args.input.now) o }) (sym c.in-Some.is)
