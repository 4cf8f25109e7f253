use Rattle.pipe_parts.proofs.SlotParts.Laying.{shown_maps}
use Rattle.pipe_parts.proofs.slot_parts.laws.slots_are_shown.Goals as goal

pub returns : goal.returns
returns c d places l w rs nets from parts maps blocks = shown_maps d places l w rs nets from parts maps blocks
