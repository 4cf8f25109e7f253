use Rattle.std.proofs.Common.{append_assoc}
use Rattle.verilog_write.proofs.AddsLemmas.{from_ok}
use Rattle.verilog_write.proofs.item.push_port.Goals as goal

pub returns : goal.returns
returns c = from_ok c.push_name.result c.push_name.ensures.read (λ last. record { read = λ before h. rw c.direction.ensures at (simp append_assoc at (last _ (c.in_ok-push_range.ensures.read _ (c.in_ok-push_keyword-2.ensures.read _ (c.in_ok-push_space.ensures.read _ (c.in_ok-push_keyword.ensures.read _ h)))))) })
