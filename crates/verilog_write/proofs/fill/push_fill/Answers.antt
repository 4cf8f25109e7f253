use Rattle.std.proofs.Common.{append_assoc}
use Rattle.verilog_write.proofs.AddsLemmas.{from_ok, opened}
use Rattle.verilog_write.proofs.fill.push_fill.Goals as goal

pub returns : goal.returns
returns c = from_ok c.push_first.result c.push_first.ensures (λ last. record { read = λ before h. simp append_assoc at (last.read _ (c.in_ok-push_space-3.ensures.read _ (opened (c.in_ok-push_head.ensures.read _ (opened (c.in_ok-push_space-2.ensures.read _ (c.in_ok-push_keyword-2.ensures.read _ (c.in_ok-push_space.ensures.read _ (c.in_ok-push_keyword.ensures.read _ h))))))))) })
