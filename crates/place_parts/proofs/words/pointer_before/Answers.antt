use Rattle.std.proofs.Common.{◌≡◌, ◌∙◌, ℕ, suc, ◌-◌, ◌<◌, ◌≤◌, length, get_or, ap, arith}
use Rattle.std.proofs.lemmas.List.{get_or_default}
use Rattle.overlay_net.specs.declared.site_operands.SiteNets.{SiteNets}
use Rattle.block_core.specs.declared.name.Name.{Name}
use Rattle.pipe_net.specs.declared.parts.Part.{Part}
use Rattle.pipe_parts.specs.declared.pipe_draft.places.StageSources.{StageSources}
use Rattle.pipe_parts.specs.PipeDraft.PipelinePlan.{plan_in}
use Rattle.place_parts.proofs.WordParts.{pointer_at}
use Rattle.place_parts.proofs.words.pointer_before.Goals as goal

pub returns-else-row-eq0 : goal.returns-else-row-eq0
returns-else-row-eq0 c =
    let places = c.args.places.now in
    let row : ℕ = c.args.row in
    let j : ℕ = c.args.site in
    let k : ℕ = row - 1 in
    let next : row ≡ suc k = omega (arith, c.if-row-eq0.false) in
    let low : k ≤ (plan_in c.args.pipeline_plan.now).last = omega (arith, c.requires.row) in
    let there : k < length places = omega (arith, low, c.requires.places.count) in
    pointer_at places row k j _ next
    (λ b s.
    let all = (get_or places k b).sites.items in
    let within : j < length all = omega (arith, c.requires.site, (c.requires.places.each k b low).sites.count) in
    ap (λ (x : SiteNets (Name Part)). x.pointer) (c.index.ensures ∙ ap (λ (x : StageSources). get_or x.sites.items j c.index.result.now) (get_or_default places k c.index-places-row.result b there) ∙ get_or_default all j c.index.result.now s within))
