use Rattle.verilog_write.proofs.AddsLemmas.{from_ok, opened}
use Rattle.verilog_write.proofs.spaced.push_operator.Goals as goal

pub returns : goal.returns
returns c = from_ok c.push_apart.result c.push_apart.ensures (λ last. record { read = λ before h. (last _ (c.in_ok-push_symbol.ensures.read _ (opened (c.in_ok-push_space.ensures.read _ h)))) })
