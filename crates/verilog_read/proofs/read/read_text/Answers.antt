use Rattle.verilog_read.proofs.TextLaws.{found_clause, only_clause}
use Rattle.verilog_read.proofs.Outcomes.{tokens_read, no_tokens}
use Rattle.verilog_read.proofs.read.read_text.Goals as goal

pub returns-in-Ok-clause-outcome : goal.returns-in-Ok-clause-outcome
returns-in-Ok-clause-outcome c = tokens_read c.args.text.now _ _ c.read_tokens.result c.in-Ok.ensures.exact c.deref.ensures.value c.read_tokens.ensures

pub returns-in-Ok-clause-found : goal.returns-in-Ok-clause-found
returns-in-Ok-clause-found c =
    found_clause c.args.text.now _ c.read_tokens.result c.in-Ok.ensures.exact c.in-Ok.ensures.lexes
    (tokens_read c.args.text.now _ _ c.read_tokens.result c.in-Ok.ensures.exact c.deref.ensures.value c.read_tokens.ensures)

pub returns-in-Ok-clause-only : goal.returns-in-Ok-clause-only
returns-in-Ok-clause-only c p s =
    only_clause c.args.text.now _ c.read_tokens.result c.in-Ok.ensures.exact c.in-Ok.ensures.spelled
    (tokens_read c.args.text.now _ _ c.read_tokens.result c.in-Ok.ensures.exact c.deref.ensures.value c.read_tokens.ensures) p s

pub returns-in-Err-At-clause-outcome : goal.returns-in-Err-At-clause-outcome
returns-in-Err-At-clause-outcome c = no_tokens c.args.text.now c.in-Err-At.field-0 _ (cc) c.in-Err-At.ensures.exact
