use Rattle.std.proofs.Common.{append_assoc}
use Rattle.verilog_write.proofs.AddsLemmas.{from_ok, opened}
use Rattle.verilog_write.proofs.item.push_memory.Goals as goal

pub returns : goal.returns
returns c = from_ok c.push_fill.result c.push_fill.ensures (λ last. record { read = λ before h. rw c.pow-words.ensures at (simp append_assoc at (opened (last.read _ (c.in_ok-push_words.ensures.read _ h)))) })
