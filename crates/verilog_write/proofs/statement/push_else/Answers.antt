use Rattle.verilog_write.proofs.AddsLemmas.{from_ok}
use Rattle.verilog_write.proofs.statement.push_else.Goals as goal

pub returns : goal.returns
returns c = from_ok c.push_space.result c.push_space.ensures.read (λ last. record { read = λ before h. (last _ (c.in_ok-push_keyword.ensures.read _ (c.in_ok-push_line.ensures.read _ h))) })
