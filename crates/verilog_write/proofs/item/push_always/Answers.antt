use Rattle.std.proofs.Common.{append_assoc}
use Rattle.verilog_write.proofs.AddsLemmas.{from_ok, opened}
use Rattle.verilog_write.proofs.item.push_always.Goals as goal

pub returns : goal.returns
returns c = from_ok c.push_statement.result c.push_statement.ensures (λ last. record { read = λ before h. simp append_assoc at (last.read _ (c.in_ok-push_edge.ensures.read _ (opened (c.in_ok-push_space.ensures.read _ (c.in_ok-push_keyword.ensures.read _ h))))) })
