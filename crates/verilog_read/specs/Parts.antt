-- The parts of a loop in memory.
use Rattle.verilog_expression.specs.View.{mark_lexeme}
use Rattle.verilog_read.specs.declared.memory.Part as memory
use Rattle.verilog_read.specs.declared.memory.Part.TheVariants as part
use Rattle.verilog_read.specs.Declarations.{Part, This, Same, Bound}

abbrev pub part_of : memory.Part → Part
part_of (part.This m) = This (mark_lexeme m)
part_of (part.Same s) = Same s.now
part_of (part.Bound n) = Bound n
