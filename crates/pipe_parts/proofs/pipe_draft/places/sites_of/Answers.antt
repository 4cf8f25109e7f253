use Rattle.std.proofs.Common.{◌≡◌, ℕ, ◌+◌, ◌<◌, length, get_or, sym, subst, arith}
use Rattle.std.proofs.lemmas.List.{length-map}
use Rattle.block_core.proofs.list_laws_laws.PlaceLaws.{each_more, one_more}
use Rattle.block_core.specs.declared.name.Name.{Name}
use Rattle.hazard_core.specs.cell_core.View.{site_of}
use Rattle.overlay_net.specs.declared.site_operands.SiteNets.{SiteNets}
use Rattle.overlay_net.specs.SiteOperands.Sites.{operands_of}
use Rattle.stage_net.specs.SiteTable.Sites.{IsSiteOf}
use Rattle.pipe_net.specs.declared.parts.Part.{Part}
use Rattle.pipe_parts.specs.PipeDraft.PipelinePlan.{program_in}
use Rattle.pipe_parts.proofs.pipe_draft.places.sites_of.Goals as goal

pub loop-j-preserved : goal.loop-j-preserved
loop-j-preserved c =
    let inv = c.loop-j.invariant in
    let t = c.args.tables.now in
    let x = c.in_ok-nets.nets in
    let P : ℕ → SiteNets (Name Part) → Type 0 = λ j s. IsSiteOf (program_in c.args.pipeline_plan.now) t.table.items t.pointers.items j (operands_of s) in
    let made : P c.loop-j.j x = rw (sym c.deref.ensures.value, sym c.deref-in-loop-j.ensures.value) c.in_ok-nets.ensures in
    subst (λ xs. record { count : length xs ≡ c.loop-j.j + 1; each : (j : ℕ) (s : SiteNets (Name Part)) → j < c.loop-j.j + 1 → P j (get_or xs j s) }) (sym c.in_ok-push.ensures.items)
    (record {
      count = one_more c.loop-j.sites.items c.loop-j.j x inv.count;
      each = each_more P c.loop-j.sites.items c.loop-j.j x inv.count inv.each made;
    })

pub returns : goal.returns
returns c =
    let inv = c.loop-j.invariant in
    let sites = c.args.pipeline_plan.now.program.now.sites.items in
    let all : c.loop-j.j ≡ length sites = omega (arith, c.len-j-end.ensures, c.requires.few_sites, length-map sites site_of) in
    let many = length-map sites site_of in
    record { count = omega (arith, inv.count, all, many); each = λ j s lt. inv.each j s (omega (arith, lt, all, many)) }
