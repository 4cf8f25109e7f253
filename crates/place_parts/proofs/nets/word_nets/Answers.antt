use Rattle.std.proofs.Common.{◌≡◌, ◌∙◌, ℕ, ◌<◌, length, get_or, sym, ap, subst, arith}
use Rattle.std.proofs.lemmas.List.{length-map, get_or_default}
use Rattle.block_core.specs.declared.name.Name.{Name}
use Rattle.hazard_core.specs.cell_core.View.{site_of}
use Rattle.overlay_net.specs.cell_nets.declared.operand.Operand.TheVariants.{Net}
use Rattle.commit_net.specs.declared.change_net.pointed.PointedWords.{PointedWords}
use Rattle.pipe_net.specs.declared.parts.Part.{Part}
use Rattle.pipe_parts.specs.PipeDraft.PipelinePlan.{program_in}
use Rattle.place_parts.specs.Words.{load_at}
use Rattle.place_parts.proofs.Pointing.{load_low}
use Rattle.place_parts.proofs.Taking.{no_nets, nets_more}
use Rattle.place_parts.proofs.nets.word_nets.Goals as goal

pub loop-i-init : goal.loop-i-init
loop-i-init c =
    let d = c.args.pipeline_plan.now in
    no_nets d c.args.words.now c.in_ok-nets.nets.items (c.in_ok-nets.ensures.count ∙ sym (length-map d.program.now.sites.items site_of)) c.in_ok-nets.ensures.none

pub index_mut-requires : goal.index_mut-requires
index_mut-requires c =
    let d = c.args.pipeline_plan.now in
    let lt : c.loop-i.i < length d.loads.items = omega (arith, c.loop-i-test.true, c.len-i-end.ensures) in
    let low : c.index-in-loop-i.result.now < length (program_in d).sites = subst (λ n. n < length (program_in d).sites) (sym c.index-in-loop-i.ensures) (load_low d c.requires.pipeline_plan c.loop-i.i c.index-in-loop-i.result.now lt) in
    omega (arith, low, c.loop-i.invariant.count)

pub loop-i-preserved : goal.loop-i-preserved
loop-i-preserved c =
    let d = c.args.pipeline_plan.now in
    let words = c.args.words.now in
    let n : ℕ = c.loop-i.i in
    let lt : n < length d.loads.items = omega (arith, c.loop-i-test.true, c.len-i-end.ensures) in
    let there : n < length words = omega (arith, lt, c.requires.words.count) in
    let x = c.index-words-i.result in
    let number : c.index-in-loop-i.result.now ≡ load_at d n = c.index-in-loop-i.ensures ∙ get_or_default d.loads.items n c.index-in-loop-i.result.now 0 lt in
    let one : 0 < length (get_or words n x).words.items = omega (arith, c.requires.words.each n x lt) in
    nets_more d c.requires.pipeline_plan words n c.loop-i.nets.items c.index-in-loop-i.result.now (Net c.index.result.now 64) c.requires.words.count lt c.loop-i.invariant number
    (λ y. ap (λ (m : Name Part). Net m 64) (c.index.ensures ∙ get_or_default (get_or words n x).words.items 0 c.index.result.now (get_or words n x).slot one) ∙ ap (λ (z : PointedWords (Name Part)). Net (get_or z.words.items 0 z.slot) 64) (get_or_default words n x y there))
