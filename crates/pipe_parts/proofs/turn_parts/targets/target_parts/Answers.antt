use Rattle.std.specs.declared.alloc.Global.{Global}
use Rattle.std.specs.declared.vec.Vec.{Vec}
use Rattle.std.proofs.Common.{◌≡◌, ◌∙◌, ℕ, ◌+◌, ◌<◌, List, length, get_or, sym, ap, subst, arith}
use Rattle.std.proofs.lemmas.List.{get_or_default}
use Rattle.block_core.proofs.list_laws_laws.PlaceLaws.{each_more, one_more}
use Rattle.block_core.specs.declared.name.Name.{Name}
use Rattle.read_net.specs.declared.sites.OwnSite.{OwnSite}
use Rattle.read_net.specs.declared.sites.MapNets.{MapNets}
use Rattle.commit_net.specs.declared.map_block.form.MapForm.{MapForm}
use Rattle.turn_net.specs.declared.target_net.targets.TargetPart.{TargetPart}
use Rattle.pipe_net.specs.declared.parts.Part.{Part}
use Rattle.pipe_parts.specs.SlotParts.Nets.{IsMapIn}
use Rattle.pipe_parts.proofs.SlotParts.Showing.{maps_many}
use Rattle.pipe_parts.specs.TurnParts.Sites.{AreOwnOf, list_at}
use Rattle.pipe_parts.specs.TurnParts.Records.{IsTargetPart}
use Rattle.pipe_parts.proofs.TurnParts.Aiming.{list_is}
use Rattle.pipe_parts.proofs.turn_parts.targets.target_parts.Goals as goal

pub target_part-requires-clause-map : goal.target_part-requires-clause-map
target_part-requires-clause-map c =
    let d = c.args.pipeline_plan.now in
    let within : c.loop-m.m < length d.forms.items = omega (arith, c.loop-m-test.true, maps_many d c.requires.pipeline_plan) in
    subst (λ (n : MapNets (Name Part)). IsMapIn d c.loop-m.m n) (sym c.index-maps-m.is) (c.requires.maps.each c.loop-m.m c.index-maps-m.result within)

pub target_part-requires-clause-owns : goal.target_part-requires-clause-owns
target_part-requires-clause-owns c =
    let d = c.args.pipeline_plan.now in
    let b = c.requires.owns.0 in
    let m : ℕ = c.loop-m.m in
    let within : m < length d.forms.items = omega (arith, c.loop-m-test.true, maps_many d c.requires.pipeline_plan) in
    let r = c.index-owns-m.result in
    let same : c.deref.result.now ≡ (get_or c.args.owns.now m r).items = c.deref.ensures.value ∙ ap (λ (x : Vec (OwnSite (Name Part)) Global). x.items) c.index-owns-m.is in
    (b, subst (AreOwnOf d b m) (sym same) ((c.requires.owns.1).each m r within))

pub loop-m-preserved : goal.loop-m-preserved
loop-m-preserved c =
    let d = c.args.pipeline_plan.now in
    let m : ℕ = c.loop-m.m in
    let maps = c.args.maps.now in
    let lists = c.args.owns.now in
    let taken = c.args.taken.now in
    let inv = c.loop-m.invariant in
    let x = c.in_ok-part.part in
    let within : m < length d.forms.items = omega (arith, c.loop-m-test.true, maps_many d c.requires.pipeline_plan) in
    let P : ℕ → TargetPart Part → Type 0 = λ k r. (n : MapNets (Name Part)) (f : MapForm) → IsTargetPart d k (get_or maps k n) (list_at lists k) taken (get_or d.forms.items k f) r in
    let r = c.index-owns-m.result in
    let own : c.deref.result.now ≡ list_at lists m =
    c.deref.ensures.value ∙ ap (λ (v : Vec (OwnSite (Name Part)) Global). v.items) c.index-owns-m.is ∙ sym (list_is lists m r (omega (arith, within, (c.requires.owns.1).count))) in
    let made : P m x = λ n f.
    subst (λ (y : MapNets (Name Part)). IsTargetPart d m y (list_at lists m) taken (get_or d.forms.items m f) x) (c.index-maps-m.is ∙ get_or_default maps m c.index-maps-m.result n (omega (arith, within, c.requires.maps.count)))
    (subst (λ (os : List (OwnSite (Name Part))). IsTargetPart d m c.index-maps-m.result os taken (get_or d.forms.items m f) x) own (c.in_ok-part.ensures f)) in
    let more = each_more P c.loop-m.parts.items m x inv.count (λ k s l n f. inv.each k n f s l) made in
    subst (λ xs. record { count : length xs ≡ m + 1; each : (k : ℕ) (n : MapNets (Name Part)) (f : MapForm) (s : TargetPart Part) → k < m + 1 → IsTargetPart d k (get_or maps k n) (list_at lists k) taken (get_or d.forms.items k f) (get_or xs k s) })
    (sym {A = List (TargetPart Part)} c.in_ok-push.ensures.items) (record { count = one_more c.loop-m.parts.items m x inv.count; each = λ k n f s l. more k s l n f })

pub returns : goal.returns
returns c =
    let inv = c.loop-m.invariant in
    let all : c.loop-m.m ≡ length c.args.pipeline_plan.now.forms.items = omega (arith, maps_many c.args.pipeline_plan.now c.requires.pipeline_plan) in
    record { count = omega (arith, inv.count, all); each = λ m n f r lt. inv.each m n f r (omega (arith, lt, all)) }
