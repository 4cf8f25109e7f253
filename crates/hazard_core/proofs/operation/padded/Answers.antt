use Rattle.std.proofs.Common.{arith}
use Rattle.hazard_core.proofs.Padding.{padded_all}
use Rattle.hazard_core.proofs.operation.padded.Goals as goal

pub returns : goal.returns
returns c = padded_all c.args.bytes.now _ c.args.at c.args.count (λ k h. c.loop-j.invariant.1 k (omega arith))
