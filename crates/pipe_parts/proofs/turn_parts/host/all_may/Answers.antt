use Rattle.std.proofs.Common.{◌≡◌, ◌∙◌, ℕ, ◌+◌, ◌<◌, List, [], ◌∷◌, ◌++◌, length, map, get_or, sym, ap, subst, arith}
use Rattle.std.proofs.lemmas.List.{map-append, get_or_default}
use Rattle.block_core.proofs.list_laws_laws.PlaceLaws.{each_more, one_more}
use Rattle.net_core.specs.Nets.{Tree, TConst}
use Rattle.net_core.specs.Value.{nothing}
use Rattle.net_core.specs.View.{tree_of}
use Rattle.block_core.specs.declared.name.Name.{Name}
use Rattle.turn_net.specs.HostNet.Host.{may_tree}
use Rattle.commit_net.specs.declared.map_block.form.MapForm.{MapForm}
use Rattle.commit_net.specs.MapBlock.Forms.{FormFits}
use Rattle.commit_net.specs.MapBlock.Stored.{host_may}
use Rattle.pipe_net.specs.declared.parts.Part.{Part}
use Rattle.pipe_net.specs.Parts as part
use Rattle.pipe_parts.proofs.SlotParts.Showing.{maps_many}
use Rattle.pipe_parts.specs.TurnParts.Nets.{idle_of}
use Rattle.pipe_parts.proofs.turn_parts.host.all_may.Goals as goal

pub may_write-requires-clause-form_fits : goal.may_write-requires-clause-form_fits
may_write-requires-clause-form_fits c =
    let d = c.args.pipeline_plan.now in
    let within : c.loop-m.m < length d.forms.items = omega (arith, c.loop-m-test.true, maps_many d c.requires) in
    subst FormFits (sym c.index.ensures) (c.requires.forms.form_fits c.loop-m.m c.index.result.now within)

pub loop-m-preserved : goal.loop-m-preserved
loop-m-preserved c =
    let d = c.args.pipeline_plan.now in
    let m : ℕ = c.loop-m.m in
    let inv = c.loop-m.invariant in
    let x = c.in_ok-may_write.field-0 in
    let ts : List (Tree (Name Part)) = map tree_of c.loop-m.may.items in
    let within : m < length d.forms.items = omega (arith, c.loop-m-test.true, maps_many d c.requires) in
    let P : ℕ → Tree (Name Part) → Type 0 = λ k t. (f : MapForm) → t ≡ host_may (get_or d.forms.items k f) (part.own d.sizes k) (idle_of d.sizes) in
    let made : P m (tree_of x) = λ f. c.in_ok-may_write.ensures ∙ ap (λ g. host_may g (part.own d.sizes m) (idle_of d.sizes)) (c.index.ensures ∙ get_or_default d.forms.items m c.index.result.now f within) in
    let more = each_more P ts m (tree_of x) inv.count (λ k t l f. get_or_default ts k t (TConst nothing) (omega (arith, l, inv.count)) ∙ inv.each k f l) made in
    let grown : map tree_of c.push.new.self.items ≡ ts ++ tree_of x ∷ [] = ap (map tree_of) c.in_ok-push.ensures.items ∙ map-append tree_of c.loop-m.may.items (x ∷ []) in
    subst (λ (us : List (Tree (Name Part))). record { count : length us ≡ m + 1; each : (k : ℕ) (f : MapForm) → k < m + 1 → may_tree us k ≡ host_may (get_or d.forms.items k f) (part.own d.sizes k) (idle_of d.sizes) }) (sym grown)
    (record { count = one_more ts m (tree_of x) inv.count; each = λ k f l. more k (TConst nothing) l f })
