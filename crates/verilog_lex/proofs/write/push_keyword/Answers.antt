use Rattle.std.proofs.Common.{rules}
use Rattle.verilog_lex.specs.Lexeme.{LKeyword}
use Rattle.verilog_lex.specs.Words.{keyword_text}
use Rattle.verilog_lex.proofs.SpellingLaws.{IsOpen-keyword, opens}
use Rattle.verilog_lex.proofs.write.push_keyword.Goals as goal

pub returns-clause-read : goal.returns-clause-read
returns-clause-read c =
    opens c.extend_from_slice.result c.args.text.now.items c.extend_from_slice.new.self.items (keyword_text c.args.keyword) (LKeyword c.args.keyword)
    (IsOpen-keyword c.args.keyword)
    (search rules)
