use Rattle.std.specs.declared.alloc.Global.{Global}
use Rattle.std.specs.declared.vec.Vec.{Vec}
use Rattle.std.proofs.Common.{◌≡◌, ◌∙◌, ◌+◌, ◌<◌, rules, List, length, get_or, sym, ap, subst, arith}
use Rattle.std.proofs.lemmas.List.{length-map, get_or_default}
use Rattle.block_core.specs.declared.name.Name.{Name}
use Rattle.hazard_core.specs.cell_core.Sites.{site_at}
use Rattle.hazard_core.specs.cell_core.View.{site_of}
use Rattle.commit_net.specs.declared.choosing.CommitNets.{CommitNets}
use Rattle.turn_net.specs.declared.target_net.targets.Target.{Target}
use Rattle.pipe_net.specs.declared.parts.Part.{Part}
use Rattle.turn_net.specs.Actions.{record_sites}
use Rattle.pipe_parts.specs.PipeDraft.PipelinePlan.{program_in}
use Rattle.pipe_design.proofs.MapParts.Taking.{number_is, number_known, number_on, number_off, room, HaveTaken, taken_more, taken_same, taken_all}
use Rattle.pipe_design.proofs.map_parts.operations.operations.Goals as goal
use Rattle.pipe_design.proofs.map_parts.operations.operations.Goals.{then-site-map+in_ok-push, else-site-map}

pub site_at-site-requires : goal.site_at-site-requires
site_at-site-requires c = number_known c.args.pipeline_plan.now c.requires.pipeline_plan c.loop-place.place c.index.result.now (omega (arith, c.loop-place-test.true, c.len-place-end.ensures)) c.index.ensures

pub offset_bounds-targets-len : goal.offset_bounds-targets-len
offset_bounds-targets-len c =
    let a = c.args in
    let l = c.loop-place in
    let low : l.place < length a.pipeline_plan.now.records.items = omega (arith, c.loop-place-test.true, c.len-place-end.ensures) in
    let room_left = room a.pipeline_plan.now c.requires.pipeline_plan l.place c.index.result.now low c.index.ensures a.sites.now a.chosen.now a.targets.now a.map c.site_at-site.result.now.map l.all.items l.invariant c.requires.targets c.site_at-site.ensures.map c.if-site-map.true in
    let below : c.len.result < length a.targets.now = omega (arith, c.len.ensures, room_left) in
    search rules

pub bounds-targets-len : goal.bounds-targets-len
bounds-targets-len c =
    let a = c.args in
    let l = c.loop-place in
    let low : l.place < length a.pipeline_plan.now.records.items = omega (arith, c.loop-place-test.true, c.len-place-end.ensures) in
    let room_left = room a.pipeline_plan.now c.requires.pipeline_plan l.place c.index.result.now low c.index.ensures a.sites.now a.chosen.now a.targets.now a.map c.site_at-site.result.now.map l.all.items l.invariant c.requires.targets c.site_at-site.ensures.map c.if-site-map.true in
    omega (arith, c.len.ensures, room_left)

pub bounds-sites-number : goal.bounds-sites-number
bounds-sites-number c =
    let low = number_known c.args.pipeline_plan.now c.requires.pipeline_plan c.loop-place.place c.index.result.now (omega (arith, c.loop-place-test.true, c.len-place-end.ensures)) c.index.ensures in
    omega (arith, low, c.requires.sites, length-map c.args.pipeline_plan.now.program.now.sites.items site_of)

pub loop-place-preserved : goal.loop-place-preserved
loop-place-preserved c =
    let a = c.args in
    let d = a.pipeline_plan.now in
    let p = program_in d in
    let l = c.loop-place in
    let n = c.index.result.now in
    let s = c.site_at-site.result.now.map in
    let low : l.place < length d.records.items = omega (arith, c.loop-place-test.true, c.len-place-end.ensures) in
    let low_too : l.place < length (record_sites p) = omega (arith, low, ap length c.requires.pipeline_plan.records) in
    let is = number_is d c.requires.pipeline_plan l.place n low c.index.ensures in
    let known : n < length a.sites.now = omega (arith, number_known d c.requires.pipeline_plan l.place n low c.index.ensures, c.requires.sites, length-map d.program.now.sites.items site_of) in
    elim c.if-site-map.branch [
      | then-site-map+in_ok-push w ↦
          let on = number_on d c.requires.pipeline_plan l.place n low c.index.ensures a.map s c.site_at-site.ensures.map w.if-site-map.true in
          let len : w.len.result ≡ length l.all.items = omega (arith, w.len.ensures) in
          let below : w.len.result < length a.targets.now =
          omega (arith, len, room d c.requires.pipeline_plan l.place n low c.index.ensures a.sites.now a.chosen.now a.targets.now a.map s l.all.items l.invariant c.requires.targets c.site_at-site.ensures.map w.if-site-map.true) in
          subst (λ (v : Vec (CommitNets (Name Part)) Global). HaveTaken p a.sites.now a.chosen.now a.targets.now a.map (l.place + 1) v.items) (sym w.all-is)
          (subst (λ (xs : List (CommitNets (Name Part))). HaveTaken p a.sites.now a.chosen.now a.targets.now a.map (l.place + 1) xs) (sym w.in_ok-push.ensures.items)
          (taken_more p a.sites.now a.chosen.now a.targets.now a.map l.place l.all.items l.invariant low_too on _
          (record {
            act = c.site_at-site.ensures.act ∙ ap (λ j. (site_at p.sites j).act) is;
            nets = λ o. w.index-sites-number.is ∙ get_or_default a.sites.now n w.index-sites-number.result o known ∙ ap (λ j. get_or a.sites.now j o) is;
            target = λ t. ap (λ (o : Target (Name Part)). o.slot) (get_or_default a.targets.now w.len.result _ t below ∙ ap (λ k. get_or a.targets.now k t) len);
            makes = λ t. ap (λ (o : Target (Name Part)). o.makes) (get_or_default a.targets.now w.len.result _ t below ∙ ap (λ k. get_or a.targets.now k t) len);
            chosen_is = λ o. get_or_default a.chosen.now l.place _ o (omega (arith, low_too, c.requires.chosen));
          })))
      | else-site-map w ↦
          subst (λ (v : Vec (CommitNets (Name Part)) Global). HaveTaken p a.sites.now a.chosen.now a.targets.now a.map (l.place + 1) v.items) (sym w.all-is)
          (taken_same p a.sites.now a.chosen.now a.targets.now a.map l.place l.all.items l.invariant low_too (number_off d c.requires.pipeline_plan l.place n low c.index.ensures a.map s c.site_at-site.ensures.map w.if-site-map.false))
    ]

pub returns : goal.returns
returns c =
    let a = c.args in
    let whole : c.loop-place.place ≡ length (record_sites (program_in a.pipeline_plan.now)) = omega (arith, c.loop-place-test.false, c.loop-place.auto, c.len-place-end.ensures, ap length c.requires.pipeline_plan.records) in
    taken_all (program_in a.pipeline_plan.now) a.sites.now a.chosen.now a.targets.now a.map c.loop-place.place c.loop-place.all.items c.loop-place.invariant whole
