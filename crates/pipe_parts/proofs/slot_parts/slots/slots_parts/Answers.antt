use Rattle.std.proofs.Common.{◌≡◌, ℕ, ◌+◌, ◌<◌, List, length, get_or, sym, subst, arith}
use Rattle.block_core.proofs.list_laws_laws.PlaceLaws.{each_more, one_more}
use Rattle.pipe_parts.specs.declared.slot_parts.slots.SlotsPart.{SlotsPart}
use Rattle.pipe_parts.specs.SlotParts.Slots.{IsSlotsPartIn}
use Rattle.pipe_parts.proofs.SlotParts.Showing.{maps_many}
use Rattle.pipe_parts.proofs.slot_parts.slots.slots_parts.Goals as goal

pub slots_part-requires-clause-map : goal.slots_part-requires-clause-map
slots_part-requires-clause-map c = omega (arith, c.loop-m-test.true, maps_many c.args.pipeline_plan.now c.requires)

pub loop-m-preserved : goal.loop-m-preserved
loop-m-preserved c =
    let inv = c.loop-m.invariant in
    let x = c.in_ok-slots_part.field-0 in
    subst (λ xs. record { count : length xs ≡ c.loop-m.m + 1; each : (m : ℕ) (r : SlotsPart) → m < c.loop-m.m + 1 → IsSlotsPartIn c.args.pipeline_plan.now m (get_or xs m r) }) (sym {A = List SlotsPart} c.in_ok-push.ensures.items)
    (record {
      count = one_more c.loop-m.parts.items c.loop-m.m x inv.count;
      each = each_more (IsSlotsPartIn c.args.pipeline_plan.now) c.loop-m.parts.items c.loop-m.m x inv.count inv.each c.in_ok-slots_part.ensures;
    })

pub returns : goal.returns
returns c =
    let inv = c.loop-m.invariant in
    let all : c.loop-m.m ≡ length c.args.pipeline_plan.now.forms.items = omega (arith, maps_many c.args.pipeline_plan.now c.requires) in
    record { count = omega (arith, inv.count, all); each = λ m r lt. inv.each m r (omega (arith, lt, all)) }
