use Rattle.std.proofs.Common.{append_assoc}
use Rattle.verilog_write.proofs.AddsLemmas.{from_ok, opened}
use Rattle.verilog_write.proofs.design.push_head.Goals as goal

pub returns : goal.returns
returns c =
    from_ok c.push_line-2.result c.push_line-2.ensures.read (λ last. record { read = λ before h. simp append_assoc at (last _ (opened (c.in_ok-push_symbol-3.ensures.read _ (opened (c.in_ok-push_symbol-2.ensures.read _ (opened (c.in_ok-push_ports.ensures.read _ (c.in_ok-push_line.ensures.read _ (opened (c.in_ok-push_symbol.ensures.read _ (c.in_ok-push_name.ensures.read _ (c.in_ok-push_space.ensures.read _ (c.in_ok-push_keyword.ensures.read _ h))))))))))))) })
