use Rattle.std.proofs.Common.{rules}
use Rattle.std.specs.Fmt.{decimal}
use Rattle.verilog_lex.specs.Lexeme.{LNumber}
use Rattle.verilog_lex.proofs.SpellingLaws.{IsOpen-number, opens}
use Rattle.verilog_lex.proofs.write.push_number.Goals as goal

pub returns-clause-read : goal.returns-clause-read
returns-clause-read c =
    opens c.extend_from_slice.result c.args.text.now.items c.extend_from_slice.new.self.items (decimal c.args.number) (LNumber c.args.number)
    (IsOpen-number c.args.number c.requires)
    (search rules)
