use Rattle.std.proofs.Common.{take, map as map_list}
use Rattle.net_core.specs.View.{statement_of}
use Rattle.cell_nets.specs.OperandBlocks.Sets.{AreSets}
use Rattle.cell_nets.proofs.operand_blocks.registers.sets.Given as goal

abbrev pub invariant-loop-k : goal.invariant-loop-k
invariant-loop-k g l = AreSets 0 (take l.k l.all) (map_list statement_of l.listed.items)
