use Rattle.std.proofs.Common.{append_assoc}
use Rattle.verilog_write.proofs.AddsLemmas.{from_ok}
use Rattle.verilog_write.proofs.fill.push_head.Goals as goal

pub returns : goal.returns
returns c = from_ok c.push_symbol-2.result c.push_symbol-2.ensures.read (λ last. record { read = λ before h. simp append_assoc at (last _ (c.in_ok-push_step.ensures.read _ (c.in_ok-push_part-2.ensures.read _ (c.in_ok-push_part.ensures.read _ (c.in_ok-push_symbol.ensures.read _ h))))) })
