use Rattle.std.proofs.Common.{rules}
use Rattle.verilog_lex.specs.Lexeme.{LSymbol}
use Rattle.verilog_lex.specs.Spelling.{symbol_spelling}
use Rattle.verilog_lex.proofs.SpellingLaws.{IsClosed-symbol, closes, goes_on-symbol}
use Rattle.verilog_lex.proofs.write.push_symbol.Goals as goal

pub returns-clause-read : goal.returns-clause-read
returns-clause-read c =
    closes c.extend_from_slice.result c.args.text.now.items c.extend_from_slice.new.self.items (symbol_spelling c.args.symbol) (LSymbol c.args.symbol)
    (IsClosed-symbol c.args.symbol) (goes_on-symbol c.args.symbol)
    (search rules)
