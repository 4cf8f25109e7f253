use Rattle.std.proofs.Common.{append_assoc}
use Rattle.verilog_write.proofs.AddsLemmas.{from_ok, opened}
use Rattle.verilog_write.proofs.expression.push_bit.Goals as goal

pub returns : goal.returns
returns c = from_ok c.push_symbol-2.result c.push_symbol-2.ensures.read (λ last. record { read = λ before h. simp append_assoc at (opened (last _ (c.in_ok-push_number.ensures.read _ (c.in_ok-push_symbol.ensures.read _ (c.in_ok-push_net.ensures.read _ h))))) })
