use Rattle.std.proofs.Common.{sym, subst}
use Rattle.verilog_lex.specs.Forms.{IsLongestElement}
use Rattle.verilog_lex.specs.declared.element.LexicalElement.{LexicalElement}
use Rattle.verilog_lex.proofs.Longest.{element_longest}
use Rattle.verilog_lex.proofs.element.first_element.Goals as goal

pub returns-clause-longest : goal.returns-clause-longest
returns-clause-longest c =
    let P : LexicalElement → Type 0 = λ p. IsLongestElement c.args.text.now p in
    subst P (sym c.leading.ensures.element) (element_longest c.args.text.now)
