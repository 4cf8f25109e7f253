use Rattle.std.proofs.Common.{◌+◌, ◌-◌, ◌/◌, ◌^◌}
use Rattle.bits_core.proofs.fields.slice.Goals as goal
use Rattle.bits_core.proofs.Words.{masked, masked_below}

pub returns-clause-value : goal.returns-clause-value
returns-clause-value c = masked (c.args.v / 2 ^ c.args.lo) c.mask.result (c.args.hi - c.args.lo + 1) c.mask.ensures

pub returns-clause-word : goal.returns-clause-word
returns-clause-word c = masked_below (c.args.v / 2 ^ c.args.lo) c.mask.result (c.args.hi - c.args.lo + 1) c.mask.ensures
