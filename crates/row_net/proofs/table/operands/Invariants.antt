use Rattle.std.proofs.Common.{◌≡◌, ◌<◌, ℕ, length, get_or, slice_index}
use Rattle.cell_nets.specs.declared.operand.Operand.{Operand}
use Rattle.row_net.specs.Table.{Stands}
use Rattle.row_net.proofs.table.operands.Given as goal

abbrev pub invariant-loop-cell : goal.invariant-loop-cell
invariant-loop-cell g l = record { count : length l.args.items ≡ l.cell-index; each : (n : ℕ) (d : Operand _) → n < l.cell-index → Stands l.table (slice_index l.ins n) (get_or l.args.items n d) }
