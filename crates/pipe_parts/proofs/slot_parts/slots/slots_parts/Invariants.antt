use Rattle.std.proofs.Common.{◌≡◌, ℕ, ◌<◌, length, get_or}
use Rattle.pipe_parts.specs.declared.slot_parts.slots.SlotsPart.{SlotsPart}
use Rattle.pipe_parts.specs.SlotParts.Slots.{IsSlotsPartIn}
use Rattle.pipe_parts.proofs.slot_parts.slots.slots_parts.Given as goal

abbrev pub invariant-loop-m : goal.invariant-loop-m
invariant-loop-m l = record {
  count : length l.parts.items ≡ l.m;
  each : (m : ℕ) (r : SlotsPart) → m < l.m → IsSlotsPartIn l.pipeline_plan m (get_or l.parts.items m r);
}
