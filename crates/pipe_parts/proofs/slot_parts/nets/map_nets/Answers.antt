use Rattle.std.proofs.Common.{◌≡◌, ℕ, ◌+◌, ◌<◌, List, length, get_or, sym, subst, arith}
use Rattle.block_core.proofs.list_laws_laws.PlaceLaws.{each_more, one_more}
use Rattle.block_core.specs.declared.name.Name.{Name}
use Rattle.read_net.specs.declared.sites.MapNets.{MapNets}
use Rattle.pipe_net.specs.declared.parts.Part.{Part}
use Rattle.pipe_parts.specs.declared.slot_parts.slots.SlotsPart.{SlotsPart}
use Rattle.pipe_parts.specs.SlotParts.Slots.{IsSlotsPartIn}
use Rattle.pipe_parts.specs.SlotParts.Nets.{IsMapIn}
use Rattle.pipe_parts.proofs.SlotParts.Showing.{maps_many}
use Rattle.pipe_parts.proofs.slot_parts.nets.map_nets.Goals as goal

pub nets_of-requires-clause-part : goal.nets_of-requires-clause-part
nets_of-requires-clause-part c =
    let within : c.loop-m.m < length c.args.pipeline_plan.now.forms.items = omega (arith, c.loop-m-test.true, maps_many c.args.pipeline_plan.now c.requires.pipeline_plan) in
    subst (λ (r : SlotsPart). IsSlotsPartIn c.args.pipeline_plan.now c.loop-m.m r) (sym c.index-parts-m.is) (c.requires.parts.each c.loop-m.m c.index-parts-m.result within)

pub loop-m-preserved : goal.loop-m-preserved
loop-m-preserved c =
    let inv = c.loop-m.invariant in
    let x = c.nets_of.result in
    subst (λ xs. record { count : length xs ≡ c.loop-m.m + 1; each : (m : ℕ) (n : MapNets (Name Part)) → m < c.loop-m.m + 1 → IsMapIn c.args.pipeline_plan.now m (get_or xs m n) }) (sym {A = List (MapNets (Name Part))} c.in_ok-push.ensures.items)
    (record {
      count = one_more c.loop-m.nets.items c.loop-m.m x inv.count;
      each = each_more (IsMapIn c.args.pipeline_plan.now) c.loop-m.nets.items c.loop-m.m x inv.count inv.each c.nets_of.ensures;
    })

pub returns : goal.returns
returns c =
    let inv = c.loop-m.invariant in
    let all : c.loop-m.m ≡ length c.args.pipeline_plan.now.forms.items = omega (arith, maps_many c.args.pipeline_plan.now c.requires.pipeline_plan) in
    record { count = omega (arith, inv.count, all); each = λ m n lt. inv.each m n (omega (arith, lt, all)) }
