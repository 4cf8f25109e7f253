use Rattle.std.proofs.Common.{append_assoc}
use Rattle.verilog_write.proofs.AddsLemmas.{from_ok, opened}
use Rattle.verilog_write.proofs.item.push_words.Goals as goal

pub returns : goal.returns
returns c = from_ok c.push_line.result c.push_line.ensures.read (λ last. record { read = λ before h. simp append_assoc at (last _ (opened (c.in_ok-push_symbol.ensures.read _ (opened (c.in_ok-push_span.ensures.read _ (opened (c.in_ok-push_space.ensures.read _ (c.in_ok-push_name.ensures.read _ (c.in_ok-push_range.ensures.read _ (c.in_ok-push_keyword.ensures.read _ h)))))))))) })
