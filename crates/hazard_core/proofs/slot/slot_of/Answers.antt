use Rattle.hazard_core.specs.Tables.{has_key}
use Rattle.hazard_core.proofs.Positions.{found_or_len}
use Rattle.hazard_core.proofs.slot.slot_of.Goals as goal

pub returns : goal.returns
returns c = let e = found_or_len (has_key c.args.key.now) c.args.slots.now in cc
