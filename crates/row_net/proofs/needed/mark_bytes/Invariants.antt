use Rattle.std.specs.Prelude.{Contains}
use Rattle.std.proofs.Common.{take, map}
use Rattle.row_net.specs.Needed.{Marks}
use Rattle.row_net.proofs.needed.mark_bytes.Given as goal

abbrev pub invariant-loop-byte : goal.invariant-loop-byte
invariant-loop-byte l = Marks (Contains (take l.byte-index (map (λ b. b.cell) l.frame))) l.fn.flags l.flags
