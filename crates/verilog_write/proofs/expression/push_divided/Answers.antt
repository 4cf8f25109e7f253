use Rattle.std.proofs.Common.{append_assoc}
use Rattle.verilog_write.proofs.AddsLemmas.{from_ok}
use Rattle.verilog_write.proofs.expression.push_divided.Goals as goal

pub returns : goal.returns
returns c = from_ok c.push_net-2.result c.push_net-2.ensures (λ last. record { read = λ before h. simp append_assoc at (last.read _ (c.in_ok-push_operator.ensures.read _ (c.in_ok-push_net.ensures.read _ h))) })
