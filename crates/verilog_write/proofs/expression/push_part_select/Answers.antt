use Rattle.std.proofs.Common.{append_assoc}
use Rattle.verilog_write.proofs.AddsLemmas.{from_ok, opened}
use Rattle.verilog_write.proofs.expression.push_part_select.Goals as goal

pub returns : goal.returns
returns c = from_ok c.push_span.result c.push_span.ensures (λ last. record { read = λ before h. simp append_assoc at (opened (last.read _ (c.in_ok-push_net.ensures.read _ h))) })
