use Rattle.std.proofs.Common.{◌≡◌, ◌<◌, ◌≤◌, ℕ, Bool, length, sym, ap, ◌∙◌, subst, arith}
use Rattle.std.specs.Prelude.{IfSome}
use Rattle.pipe_core.specs.Machine.{inside, flushed, is_idle, is_ready, host_ready, host_writes, work}
use Rattle.pipe_core.specs.BuildView.{build_in}
use Rattle.pipe_core.specs.PipeView.{PipeView, input_of}
use Rattle.pipe_core.proofs.Clocking.{work_ready}
use Rattle.pipe_core.proofs.Piping.{worked_pipe}
use Rattle.pipe_core.proofs.pipe.Pipe.work.Goals as goal
use Rattle.pipe_core.proofs.FlushLaws.{flushed_inside}

-- how many are left
left : (S T : PipeView) → T ≡ record S { state = record S.state { places = flushed (build_in S.build) 0 S.state.places } } → inside T.state.places ≡ inside (flushed (build_in S.build) 0 S.state.places)
left S T e = ap (λ (U : PipeView). inside U.state.places) e

pub action-requires : goal.action-requires
action-requires c =
    let same : length c.self.inside.tables.decls ≡ length c.flush-back.new.self.state.tables.decls = ap (λ (T : PipeView). length T.state.tables.decls) c.self.view_is ∙ sym (ap (λ (T : PipeView). length T.state.tables.decls) c.flush-back.ensures.pipe) in
    subst (λ (n : ℕ). IfSome c.host_writes-writes.result (λ w. w.0.map < n)) same c.host_writes-writes.ensures.map

pub overflow_sub-result : goal.overflow_sub-result
overflow_sub-result c =
    let S = c.args.self.now in
    let before : c.count-before.result ≡ inside S.state.places = c.count-before.ensures.count ∙ ap (λ (T : PipeView). inside T.state.places) c.self.view_is in
    let after : c.count-after.result ≡ inside (flushed (build_in S.build) 0 S.state.places) = c.count-after.ensures.count ∙ ap (λ (T : PipeView). inside T.state.places) c.self-2.view_is ∙ left S c.flush-back.new.self c.flush-back.ensures.pipe in
    omega (arith, before, after, flushed_inside (build_in S.build) 0 S.state.places)

pub returns-clause-reloaded : goal.returns-clause-reloaded
returns-clause-reloaded c =
    let S = c.args.self.now in
    let before : c.count-before.result ≡ inside S.state.places = c.count-before.ensures.count ∙ ap (λ (T : PipeView). inside T.state.places) c.self.view_is in
    let after : c.count-after.result ≡ inside (flushed (build_in S.build) 0 S.state.places) = c.count-after.ensures.count ∙ ap (λ (T : PipeView). inside T.state.places) c.self-2.view_is ∙ left S c.flush-back.new.self c.flush-back.ensures.pipe in
    omega (arith, before, after)

pub returns-clause-pipe : goal.returns-clause-pipe
returns-clause-pipe c =
    let S = c.args.self.now in
    let i = input_of c.args.input.now in
    let idle : c.is_idle.result ≡ is_idle S.state = c.is_idle.ensures ∙ ap (λ (T : PipeView). is_idle T.state) c.self.view_is in
    let writes : c.host_writes-writes.result ≡ host_writes (host_ready (build_in S.build) S.state) (is_idle S.state) S.state.tables i.host = c.host_writes-writes.ensures.writes
    ∙ ap (λ (r : Bool). host_writes r c.is_idle.result c.self.inside.tables i.host) c.host_ready-ready.ensures
    ∙ ap (λ (r : Bool). host_writes (host_ready (build_in S.build) S.state) r c.self.inside.tables i.host) idle
    ∙ ap (λ (T : PipeView). host_writes (host_ready (build_in S.build) S.state) (is_idle S.state) T.state.tables i.host) c.self.view_is in
    worked_pipe S c.flush-back.new.self c.action.new.self i c.flush-back.result c.host_writes-writes.result c.flush-back.ensures.pipe c.flush-back.ensures.some writes c.action.ensures

pub returns-clause-ready : goal.returns-clause-ready
returns-clause-ready c =
    let S = c.args.self.now in
    let i = input_of c.args.input.now in
    let idle : c.is_idle.result ≡ is_idle S.state = c.is_idle.ensures ∙ ap (λ (T : PipeView). is_idle T.state) c.self.view_is in
    let writes : c.host_writes-writes.result ≡ host_writes (host_ready (build_in S.build) S.state) (is_idle S.state) S.state.tables i.host = c.host_writes-writes.ensures.writes
    ∙ ap (λ (r : Bool). host_writes r c.is_idle.result c.self.inside.tables i.host) c.host_ready-ready.ensures
    ∙ ap (λ (r : Bool). host_writes (host_ready (build_in S.build) S.state) r c.self.inside.tables i.host) idle
    ∙ ap (λ (T : PipeView). host_writes (host_ready (build_in S.build) S.state) (is_idle S.state) T.state.tables i.host) c.self.view_is in
    let same : c.action.new.self ≡ record S { state = work (build_in S.build) i S.state } = worked_pipe S c.flush-back.new.self c.action.new.self i c.flush-back.result c.host_writes-writes.result c.flush-back.ensures.pipe c.flush-back.ensures.some writes c.action.ensures in
    let packets : inside S.state.places ≤ length S.state.frames = subst (λ (T : PipeView). inside T.state.places ≤ length T.state.frames) c.self.view_is c.self.invariant.packets in
    ap (λ (T : PipeView). is_ready (build_in S.build) T.state) same ∙ work_ready (build_in S.build) i S.state packets
