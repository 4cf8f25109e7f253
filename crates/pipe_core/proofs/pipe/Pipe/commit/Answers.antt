use Rattle.std.proofs.Common.{◌≡◌, ◌+◌, ℕ, List, Some, length, true, ap, ◌∙◌, arith}
use Rattle.std.proofs.lemmas.List.{take_at}
use Rattle.hazard_core.specs.cell_core.View.{program_of}
use Rattle.hazard_core.specs.Tables.{TableState}
use Rattle.hazard_core.specs.Commits.{committed, taken_after, change_by}
use Rattle.pipe_core.specs.Machine.{Packet, Commits, place_at, worked}
use Rattle.pipe_core.specs.BuildView.{BuildView, build_in}
use Rattle.pipe_core.specs.StateView.{state_of}
use Rattle.pipe_core.specs.PipeView.{PipeView}
use Rattle.pipe_core.proofs.Clocking.{fits_as, committed_decls, committed_steady, taken_length}
use Rattle.pipe_core.proofs.Piping.{pipe_view, committed_pipe, steady_as}
use Rattle.pipe_core.proofs.pipe.Pipe.commit.Goals as goal

pub mark_below-requires : goal.mark_below-requires
mark_below-requires c = fits_as (build_in c.self.inside.places.build) c.self.inside.tables.decls _ (ap (λ (t : TableState). t.decls) c.commit.ensures.tables ∙ committed_decls _ _ _ _ _) c.self.invariant.fits

pub invariant_of-self : goal.invariant_of-self
invariant_of-self c =
    let i = c.self.inside in
    let plan = c.planned-planned.result.now in
    let p = program_of plan.program.now in
    let build = c.planned-planned.ensures.build in
    let x = c.in-Some.packet.now in
    let kept : c.commit.new.taken ≡ taken_after p i.tables i.taken.items c.held-held.result.now c.args.j = c.commit.ensures.taken ∙ ap (λ (k : List ℕ). taken_after p i.tables k c.held-held.result.now c.args.j) c.deref_mut.ensures.value in
    let long : length c.commit.new.taken ≡ i.taken.len = omega (arith, ap length kept, taken_length p i.tables i.taken.items c.held-held.result.now c.args.j, i.taken.ok.0) in
    let same = committed_pipe i.tables c.commit.new.tables i.queue i.places c.mark_below.new.self i.done i.taken.items c.commit.new.taken i.passed p plan.commit c.args.j c.held-held.result.now c.change_by-change.result x true
    (ap (λ (b : BuildView). b.program) build) (ap (λ (b : BuildView). b.commit) build) c.held-held.ensures
    (c.change_by-change.ensures ∙ ap (λ (k : List ℕ). change_by p i.tables k c.held-held.result.now c.args.j) c.deref.ensures.value)
    (c.commit.ensures.tables ∙ ap (λ (k : List ℕ). committed p i.tables k c.held-held.result.now c.args.j) c.deref_mut.ensures.value)
    kept c.mark_below.ensures in
    rw (take_at c.commit.new.taken _ _ long) (steady_as _ _ _ same (committed_steady (build_in i.places.build) (state_of i.tables i.queue i.places.places i.done i.taken.items i.passed) i.queue.slots true c.args.j x c.self.invariant))

pub returns-in-Some : goal.returns-in-Some
returns-in-Some c = λ back x here.
    let i = c.self.inside in
    let plan = c.planned-planned.result.now in
    let p = program_of plan.program.now in
    let build = c.planned-planned.ensures.build in
    let there : place_at i.places.places plan.commit ≡ Some x = ap (λ (b : BuildView). place_at i.places.places b.commit) build ∙ ap (λ (T : PipeView). place_at T.state.places T.build.commit) c.self.view_is ∙ here in
    let found : Some c.in-Some.packet.now ≡ place_at i.places.places plan.commit = c.in-Some.ensures.packet in
    let same : c.in-Some.packet.now ≡ x = cc in
    let held : c.held-held.result.now ≡ x.held = c.held-held.ensures ∙ ap (λ (y : Packet). y.held) same in
    let kept : c.commit.new.taken ≡ taken_after p i.tables i.taken.items c.held-held.result.now c.args.j = c.commit.ensures.taken ∙ ap (λ (k : List ℕ). taken_after p i.tables k c.held-held.result.now c.args.j) c.deref_mut.ensures.value in
    let long : length c.commit.new.taken ≡ i.taken.len = omega (arith, ap length kept, taken_length p i.tables i.taken.items c.held-held.result.now c.args.j, i.taken.ok.0) in
    ap (λ (k : List ℕ). pipe_view c.commit.new.tables i.queue c.mark_below.new.self (c.args.j + 1) k i.passed) (take_at c.commit.new.taken _ _ long)
    ∙ committed_pipe i.tables c.commit.new.tables i.queue i.places c.mark_below.new.self i.done i.taken.items c.commit.new.taken i.passed p plan.commit c.args.j c.held-held.result.now c.change_by-change.result x back
    (ap (λ (b : BuildView). b.program) build) (ap (λ (b : BuildView). b.commit) build) held
    (c.change_by-change.ensures ∙ ap (λ (k : List ℕ). change_by p i.tables k c.held-held.result.now c.args.j) c.deref.ensures.value)
    (c.commit.ensures.tables ∙ ap (λ (k : List ℕ). committed p i.tables k c.held-held.result.now c.args.j) c.deref_mut.ensures.value)
    kept c.mark_below.ensures
    ∙ ap (λ (T : PipeView). record T { state = worked (build_in T.build) T.state back T.state.places (Commits c.args.j x) }) c.self.view_is
