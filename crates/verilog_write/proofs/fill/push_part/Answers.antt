use Rattle.std.proofs.Common.{append_assoc}
use Rattle.verilog_write.proofs.AddsLemmas.{from_ok, opened}
use Rattle.verilog_write.proofs.fill.push_part.Goals as goal

pub returns : goal.returns
returns c = from_ok c.push_space.result c.push_space.ensures.read (λ last. record { read = λ before h. simp append_assoc at (last _ (opened (c.in_ok-push_symbol.ensures.read _ (c.in_ok-push_number.ensures.read _ (c.in_ok-push_operator.ensures.read _ (c.in_ok-push_name.ensures.read _ h)))))) })
