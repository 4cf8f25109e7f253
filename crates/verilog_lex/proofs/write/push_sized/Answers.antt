use Rattle.std.proofs.Common.{rules}
use Rattle.verilog_lex.specs.Lexeme.{LSized}
use Rattle.verilog_lex.specs.Spelling.{sized_text}
use Rattle.verilog_lex.proofs.SpellingLaws.{IsOpen-sized, opens}
use Rattle.verilog_lex.proofs.write.push_sized.Goals as goal

pub returns-clause-read : goal.returns-clause-read
returns-clause-read c =
    opens c.push_parts.result c.args.text.now.items c.push_parts.new.text.items (sized_text c.args.width c.args.value)
    (LSized c.args.width c.args.value) (IsOpen-sized c.args.width c.args.value c.requires)
    (search rules)
