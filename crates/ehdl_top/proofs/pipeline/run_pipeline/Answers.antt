use Rattle.std.proofs.Common.{◌≡◌, ◌∙◌, ℕ, List, length, sym, ap, subst, arith}
use Rattle.beat_core.specs.declared.answer.Answer.{Answer}
use Rattle.xdp_maps.specs.declared.decl.MapDecl.{MapDecl}
use Rattle.xdp_maps.specs.State.{MapState}
use Rattle.ehdl_build.specs.Compiled.{IsSequential}
use Rattle.capture_run.specs.Results.{came_by}
use Rattle.ehdl_top.proofs.RealizedLemmas.{at_most, limits_of, sequential_decls, shows_as}
use Rattle.ehdl_top.proofs.pipeline.run_pipeline.Goals as goal

pub answers_in_time-requires : goal.answers_in_time-requires
answers_in_time-requires c =
    let r = c.requires.realized in
    (c.in_ok-sim.ensures.pipeline r.0 r.1 c.args.ifindex c.clock_limit-limit.result c.args.packets.now c.ranges.ifindex.fits c.requires.packets (at_most _ _ c.clock_limit-limit.ensures)).ended

pub shown_maps-requires-clause-limits : goal.shown_maps-requires-clause-limits
shown_maps-requires-clause-limits c =
    let r = c.requires.realized in
    limits_of r.0 c.decls-decls.result.now r.1.is_program (c.decls-decls.ensures.decls ∙ c.requires.decls ∙ r.1.decls)

pub shown_maps-requires-clause-shows : goal.shown_maps-requires-clause-shows
shown_maps-requires-clause-shows c =
    let r = c.requires.realized in
    let a = c.in_ok-sim.ensures.pipeline r.0 r.1 c.args.ifindex c.clock_limit-limit.result c.args.packets.now c.ranges.ifindex.fits c.requires.packets (at_most _ _ c.clock_limit-limit.ensures) in
    let left : a.last.decls ≡ c.decls-decls.result.now = sequential_decls r.0 c.args.first.now (came_by c.args.ifindex c.args.packets.now) _ a.last a.all ∙ sym c.decls-decls.ensures.decls in
    let shows = shows_as c.in_ok-sim.sim.netlist c.answers_in_time.new.sim.netlist _ c.answers_in_time.new.sim.stored a.last c.in_ok-answers.ensures.netlist c.in_ok-answers.ensures.stored a.shown in
    (a.last, left, shows)

pub returns-clause-sequential : goal.returns-clause-sequential
returns-clause-sequential c = λ program realized.
    let first = c.args.first.now in
    let a = c.in_ok-sim.ensures.pipeline program realized c.args.ifindex c.clock_limit-limit.result c.args.packets.now c.ranges.ifindex.fits c.requires.packets (at_most _ _ c.clock_limit-limit.ensures) in
    let came = came_by c.args.ifindex c.args.packets.now in
    let left : a.last.decls ≡ c.decls-decls.result.now = sequential_decls program first came _ a.last a.all ∙ sym c.decls-decls.ensures.decls in
    let shows = shows_as c.in_ok-sim.sim.netlist c.answers_in_time.new.sim.netlist _ c.answers_in_time.new.sim.stored a.last c.in_ok-answers.ensures.netlist c.in_ok-answers.ensures.stored a.shown in
    subst (λ (m : MapState). IsSequential program first came c.in_ok-answers.answers m) (sym (c.in_ok-maps.ensures a.last left shows))
    (subst (λ (given : List Answer). IsSequential program first came given a.last) (sym c.in_ok-answers.ensures.answers) a.all)

pub returns-clause-few : goal.returns-clause-few
returns-clause-few c =
    let r = c.requires.realized in
    let a = c.in_ok-sim.ensures.pipeline r.0 r.1 c.args.ifindex c.clock_limit-limit.result c.args.packets.now c.ranges.ifindex.fits c.requires.packets (at_most _ _ c.clock_limit-limit.ensures) in
    let left : a.last.decls ≡ c.decls-decls.result.now = sequential_decls r.0 c.args.first.now (came_by c.args.ifindex c.args.packets.now) _ a.last a.all ∙ sym c.decls-decls.ensures.decls in
    let shows = shows_as c.in_ok-sim.sim.netlist c.answers_in_time.new.sim.netlist _ c.answers_in_time.new.sim.stored a.last c.in_ok-answers.ensures.netlist c.in_ok-answers.ensures.stored a.shown in
    omega (arith, ap (λ (m : MapState). length m.decls) (c.in_ok-maps.ensures a.last left shows), ap (λ (ds : List MapDecl). length ds) (left ∙ c.decls-decls.ensures.decls ∙ c.requires.decls ∙ r.1.decls), r.1.is_program.maps)
