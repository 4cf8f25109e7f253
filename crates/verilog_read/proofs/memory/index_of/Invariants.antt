use Rattle.std.proofs.Common.{◌≡◌, ◌-◌}
use Rattle.verilog_read.specs.Declarations as items
use Rattle.verilog_read.proofs.memory.index_of.Given as goal

abbrev pub invariant-loop-width : goal.invariant-loop-width
invariant-loop-width l = items.index_of l.last ≡ items.index_from (17 - l.width) l.width l.last
