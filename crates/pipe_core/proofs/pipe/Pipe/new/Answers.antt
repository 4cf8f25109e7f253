use Rattle.std.proofs.Common.{◌≡◌, ℕ, suc, None, length, sym, ap, ◌∙◌, subst, arith}
use Rattle.std.specs.Prelude.{replicate}
use Rattle.std.proofs.lemmas.List.{length-map}
use Rattle.hazard_core.specs.cell_core.View.{program_of, site_of}
use Rattle.pipe_core.specs.PlacesView.{PlacesView}
use Rattle.pipe_core.specs.FrameQueue.{FrameQueue}
use Rattle.pipe_core.specs.BuildView.{BuildView, build_in}
use Rattle.pipe_core.specs.StateView.{state_of}
use Rattle.pipe_core.specs.PipeView.{IsSteady}
use Rattle.pipe_core.proofs.Piping.{new_pipe, new_steady, steady_as}
use Rattle.pipe_core.proofs.pipe.Pipe.new.Goals as goal

abbrev placed : BuildView → PlacesView
placed b = record { build = b; places = replicate (suc b.last) None }

pub invariant_of-result : goal.invariant_of-result
invariant_of-result c =
    let sites = c.args.program.now.sites in
    let b : BuildView = record { program = program_of c.args.program.now; rows = c.args.plan.now.rows; commit = c.args.plan.now.commit; last = c.args.plan.now.last; slots = c.args.slots } in
    let count : c.len-sites.result ≡ length b.program.sites = omega (arith, c.len-sites.ensures, sites.ok.0, length-map sites.items site_of) in
    let places : c.in_ok-new-3.field-0 ≡ placed b = c.in_ok-new-3.ensures ∙ ap placed c.in_ok-planned.ensures in
    let same = new_pipe c.args.maps.now c.in_ok-new.field-0 c.in_ok-new-2.field-0 c.in_ok-new-3.field-0 b c.in_ok-vec.field-0.items c.in_ok-new.ensures c.in_ok-new-2.ensures places (c.in_ok-vec.ensures.items_if_clones_equal (λ y e. cc) ∙ ap (λ (n : ℕ). replicate n 0) count) in
    subst (λ (n : ℕ). IsSteady (build_in c.in_ok-new-3.field-0.build) (state_of c.in_ok-new.field-0 c.in_ok-new-2.field-0 c.in_ok-new-3.field-0.places 0 c.in_ok-vec.field-0.items 0) n) (sym (ap (λ (q : FrameQueue). q.slots) c.in_ok-new-2.ensures)) (steady_as _ _ _ same (new_steady c.args.maps.now b c.requires.fits))

pub returns : goal.returns
returns c =
    let sites = c.args.program.now.sites in
    let b : BuildView = record { program = program_of c.args.program.now; rows = c.args.plan.now.rows; commit = c.args.plan.now.commit; last = c.args.plan.now.last; slots = c.args.slots } in
    let count : c.len-sites.result ≡ length b.program.sites = omega (arith, c.len-sites.ensures, sites.ok.0, length-map sites.items site_of) in
    let places : c.in_ok-new-3.field-0 ≡ placed b = c.in_ok-new-3.ensures ∙ ap placed c.in_ok-planned.ensures in
    new_pipe c.args.maps.now c.in_ok-new.field-0 c.in_ok-new-2.field-0 c.in_ok-new-3.field-0 b c.in_ok-vec.field-0.items c.in_ok-new.ensures c.in_ok-new-2.ensures places (c.in_ok-vec.ensures.items_if_clones_equal (λ y e. cc) ∙ ap (λ (n : ℕ). replicate n 0) count)
