use Rattle.std.proofs.Common.{not}
use Rattle.hazard_core.specs.Tables.{Slot}
use Rattle.hazard_core.proofs.Positions.{found_or_len}
use Rattle.hazard_core.proofs.slot.free_slot.Goals as goal

pub returns : goal.returns
returns c = let e = found_or_len (λ (s : Slot). not s.used) c.args.slots.now in cc
