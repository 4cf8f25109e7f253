use Rattle.std.proofs.Common.{append_assoc}
use Rattle.verilog_write.proofs.AddsLemmas.{from_ok}
use Rattle.verilog_write.proofs.design.push_items.Goals as goal

pub returns : goal.returns
returns c = from_ok c.push_blocks.result c.push_blocks.ensures (λ last. record { read = λ before h. simp append_assoc at (last.read _ (c.in_ok-push_assigns.ensures.read _ (c.in_ok-push_wires.ensures.read _ (c.in_ok-push_declared.ensures.read _ h)))) })
