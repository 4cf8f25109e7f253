use Rattle.std.proofs.Common.{◌≡◌, drop, map}
use Rattle.verilog_expression.specs.View.{lexemes_left}
use Rattle.verilog_read.specs.Declarations.{all_parts_at}
use Rattle.verilog_read.specs.Parts.{part_of}
use Rattle.verilog_read.proofs.memory.all_parts.Given as goal

abbrev pub invariant-loop-part : goal.invariant-loop-part
invariant-loop-part l = all_parts_at (map part_of l.parts) (lexemes_left l.rest) ≡ all_parts_at (map part_of (drop l.part-index l.parts)) (lexemes_left l.after)
