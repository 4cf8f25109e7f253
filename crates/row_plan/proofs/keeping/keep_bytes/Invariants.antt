use Rattle.std.proofs.Common.{take}
use Rattle.std.proofs.Common.{map as map_list}
use Rattle.row_plan.specs.Steps.{Keeps, OfAll}
use Rattle.row_plan.proofs.keeping.keep_bytes.Given as goal

abbrev pub invariant-loop-byte : goal.invariant-loop-byte
invariant-loop-byte l = Keeps (OfAll (take l.byte-index (map_list (λ b. b.cell) l.frame)) l.last) l.fn.kept l.kept
