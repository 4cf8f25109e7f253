use Rattle.std.proofs.Common.{append_assoc}
use Rattle.verilog_write.proofs.AddsLemmas.{from_ok}
use Rattle.verilog_write.proofs.fill.push_step.Goals as goal

pub returns : goal.returns
returns c = from_ok c.push_number.result c.push_number.ensures.read (λ last. record { read = λ before h. simp append_assoc at (last _ (c.in_ok-push_operator-2.ensures.read _ (c.in_ok-push_name-2.ensures.read _ (c.in_ok-push_operator.ensures.read _ (c.in_ok-push_name.ensures.read _ h))))) })
