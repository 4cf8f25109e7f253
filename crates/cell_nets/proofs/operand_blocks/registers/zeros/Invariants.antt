use Rattle.std.proofs.Common.{◌≡◌, take, map as map_list}
use Rattle.cell_nets.specs.OperandBlocks.Registers.{zero_word}
use Rattle.cell_nets.proofs.operand_blocks.registers.zeros.Given as goal

abbrev pub invariant-loop-taken : goal.invariant-loop-taken
invariant-loop-taken g l = l.words.items ≡ map_list zero_word (take l.taken-index l.all)
