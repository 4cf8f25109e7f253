use Rattle.std.proofs.Common.{◌≡◌, drop, map}
use Rattle.verilog_expression.specs.Lexemes.{behind}
use Rattle.verilog_expression.specs.View.{mark_lexeme, lexemes_left}
use Rattle.verilog_expression.proofs.lexemes.phrase.Given as goal

abbrev pub invariant-loop-mark : goal.invariant-loop-mark
invariant-loop-mark l =
    behind (map mark_lexeme l.marks) (lexemes_left l.rest)
    ≡ behind (map mark_lexeme (drop l.mark-index l.marks)) (lexemes_left l.after)
