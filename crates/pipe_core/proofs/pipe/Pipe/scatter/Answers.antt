use Rattle.std.proofs.Common.{◌≡◌, ◌<◌, ◌≤◌, ◌+◌, ◌*◌, ℕ, false, Option, Some, length, sym, ap, ◌∙◌, subst}
use Rattle.std.specs.Prelude.{is_some, IfSome}
use Rattle.realization.specs.beat_core.declared.beat.Beat.{Beat}
use Rattle.pipe_core.specs.Machine.{State, scattered}
use Rattle.pipe_core.specs.BuildView.{build_in}
use Rattle.pipe_core.specs.StateView.{state_of}
use Rattle.pipe_core.specs.FrameQueue.{FrameQueue}
use Rattle.pipe_core.specs.PipeView.{PipeView, IsSteady}
use Rattle.pipe_core.specs.declared.arrived.TheConstants.{FRAME_ROOM}
use Rattle.pipe_core.proofs.Clocking.{scattered_steady}
use Rattle.pipe_core.proofs.Piping.{given_queue, given_slots}
use Rattle.pipe_core.proofs.pipe.Pipe.scatter.Goals as goal

pub give-requires-clause-some : goal.give-requires-clause-some
give-requires-clause-some c = subst (λ (T : PipeView). 0 < length T.state.answers) (sym c.self.view_is) (c.requires.some (ap is_some c.in-Some.is))

pub give-requires-clause-more : goal.give-requires-clause-more
give-requires-clause-more c =
    subst (λ (T : PipeView). c.in-Some.beat.last ≡ false → 8 * (T.state.pos + 1) ≤ FRAME_ROOM) (sym c.self.view_is)
    (subst (λ (o : Option Beat). IfSome o (λ b. b.last ≡ false → 8 * (c.args.self.now.state.pos + 1) ≤ FRAME_ROOM)) c.in-Some.is c.requires.more)

pub invariant_of-self : goal.invariant_of-self
invariant_of-self c =
    let i = c.self.inside in
    let x = c.in-Some.beat in
    let s = state_of i.tables i.queue i.places.places i.done i.taken.items i.passed in
    let same : state_of i.tables c.give.new.self i.places.places i.done i.taken.items i.passed ≡ scattered s (Some x)
    = ap (λ (q : FrameQueue). state_of i.tables q i.places.places i.done i.taken.items i.passed) c.give.ensures ∙ given_queue i.tables i.queue i.places.places i.done i.taken.items i.passed x in
    let slots : c.give.new.self.slots ≡ i.queue.slots = ap (λ (q : FrameQueue). q.slots) c.give.ensures ∙ given_slots x.last i.queue in
    subst (λ (n : ℕ). IsSteady (build_in i.places.build) (state_of i.tables c.give.new.self i.places.places i.done i.taken.items i.passed) n) (sym slots)
    (subst (λ (t : State). IsSteady (build_in i.places.build) t i.queue.slots) (sym same) (scattered_steady (build_in i.places.build) s i.queue.slots (Some x) c.self.invariant))

pub returns-in-Some : goal.returns-in-Some
returns-in-Some c =
    let i = c.self.inside in
    let x = c.in-Some.beat in
    let S = c.args.self.now in
    let pipe : State → PipeView = λ t. record { build = i.places.build; state = t } in
    ap pipe (ap (λ (q : FrameQueue). state_of i.tables q i.places.places i.done i.taken.items i.passed) c.give.ensures ∙ given_queue i.tables i.queue i.places.places i.done i.taken.items i.passed x)
    ∙ ap (λ (T : PipeView). record T { state = scattered T.state (Some x) }) c.self.view_is
    ∙ ap (λ (o : Option Beat). record S { state = scattered S.state o }) (sym c.in-Some.is)
