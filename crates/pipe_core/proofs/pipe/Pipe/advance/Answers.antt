use Rattle.std.proofs.Common.{◌≡◌, ℕ, ◌<◌, length, sym, ap, ◌∙◌, subst, arith}
use Rattle.std.specs.Option.{option_map}
use Rattle.hazard_core.specs.cell_core.View.{program_of}
use Rattle.pipe_core.specs.Machine.{Moves, worked}
use Rattle.pipe_core.specs.BuildView.{BuildView, build_in}
use Rattle.pipe_core.specs.StateView.{state_of}
use Rattle.pipe_core.specs.FrameQueue.{FrameQueue, left_word}
use Rattle.pipe_core.specs.PipeView.{PipeView, IsSteady}
use Rattle.pipe_core.proofs.Clocking.{moved_steady}
use Rattle.pipe_core.proofs.Piping.{moved_pipe, steady_as, map_map, frame_for, left_length, some_of, answered_slots}
use Rattle.pipe_core.proofs.pipe.Pipe.advance.Goals as goal

pub leave-left-requires-clause-frame : goal.leave-left-requires-clause-frame
leave-left-requires-clause-frame c = frame_for (λ x. x.now) c.at-leaving.result c.self.inside.places.places c.planned-planned.result.now.last (length c.self.inside.queue.frames) c.at-leaving.ensures.packet c.self.invariant.packets

pub answer-requires : goal.answer-requires
answer-requires c = λ some.
    let i = c.self.inside in
    let frame : 0 < length i.queue.frames = frame_for (λ x. x.now) c.at-leaving.result i.places.places c.planned-planned.result.now.last (length i.queue.frames) c.at-leaving.ensures.packet c.self.invariant.packets (some_of _ c.at-leaving.result c.leave-left.result c.leave-left.ensures.answer some) in
    omega (arith, frame, ap (λ (q : FrameQueue). length q.frames) c.leave-left.ensures.queue, left_length (program_of c.planned-planned.result.now.program.now) (option_map (λ x. x.now) c.at-leaving.result) i.queue.frames)

pub invariant_of-self : goal.invariant_of-self
invariant_of-self c =
    let i = c.self.inside in
    let plan = c.planned-planned.result.now in
    let p = program_of plan.program.now in
    let build = c.planned-planned.ensures.build in
    let slots : c.answer.new.self.slots ≡ i.queue.slots = ap (λ (q : FrameQueue). q.slots) c.answer.ensures ∙ answered_slots c.leave-left.result c.leave-left.new.self ∙ ap (λ (q : FrameQueue). q.slots) c.leave-left.ensures.queue in
    let same = moved_pipe i.tables i.queue c.leave-left.new.self c.answer.new.self i.places c.advance.new.self i.done i.taken.items i.passed c.counted-passed.result p plan.last plan.commit (option_map (λ x. x.now) c.at-leaving.result) c.leave-left.result c.has_packet-passes.result c.args.back c.frames.result.now
    (ap (λ (b : BuildView). b.program) build) c.at-leaving.ensures.packet (ap (λ (b : BuildView). b.last) build) (ap (λ (b : BuildView). b.commit) build) c.self.invariant.places c.self.invariant.packets
    c.leave-left.ensures.queue (c.leave-left.ensures.answer ∙ map_map _ (left_word p) c.at-leaving.result) c.has_packet-passes.ensures c.counted-passed.ensures c.frames.ensures c.advance.ensures c.answer.ensures in
    subst (λ (n : ℕ). IsSteady (build_in c.advance.new.self.build) (state_of i.tables c.answer.new.self c.advance.new.self.places 0 i.taken.items c.counted-passed.result) n) (sym slots) (steady_as _ _ _ same (moved_steady (build_in i.places.build) (state_of i.tables i.queue i.places.places i.done i.taken.items i.passed) i.queue.slots c.args.back c.self.invariant))

pub returns : goal.returns
returns c =
    let i = c.self.inside in
    let plan = c.planned-planned.result.now in
    let p = program_of plan.program.now in
    let build = c.planned-planned.ensures.build in
    moved_pipe i.tables i.queue c.leave-left.new.self c.answer.new.self i.places c.advance.new.self i.done i.taken.items i.passed c.counted-passed.result p plan.last plan.commit (option_map (λ x. x.now) c.at-leaving.result) c.leave-left.result c.has_packet-passes.result c.args.back c.frames.result.now
    (ap (λ (b : BuildView). b.program) build) c.at-leaving.ensures.packet (ap (λ (b : BuildView). b.last) build) (ap (λ (b : BuildView). b.commit) build) c.self.invariant.places c.self.invariant.packets
    c.leave-left.ensures.queue (c.leave-left.ensures.answer ∙ map_map _ (left_word p) c.at-leaving.result) c.has_packet-passes.ensures c.counted-passed.ensures c.frames.ensures c.advance.ensures c.answer.ensures
    ∙ ap (λ (T : PipeView). record T { state = worked (build_in T.build) T.state c.args.back T.state.places Moves }) c.self.view_is
