use Rattle.std.proofs.Common.{rules}
use Rattle.verilog_lex.specs.Lexeme.{LName}
use Rattle.verilog_lex.proofs.SpellingLaws.{IsOpen-name, opens}
use Rattle.verilog_lex.proofs.write.push_name.Goals as goal

pub returns-clause-read : goal.returns-clause-read
returns-clause-read c =
    opens c.extend_from_slice.result c.args.text.now.items c.extend_from_slice.new.self.items c.args.name.now (LName c.args.name.now)
    (IsOpen-name c.args.name.now c.requires)
    (search rules)
