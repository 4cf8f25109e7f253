use Rattle.verilog_write.proofs.AddsLemmas.{from_ok, opened, marked_line}
use Rattle.verilog_write.proofs.item.push_port_line.Goals as goal

pub returns : goal.returns
returns c =
    rw c.if-last.false (from_ok c.push_line-2.result c.push_line-2.ensures.read (λ last. marked_line c.in_ok-push_port.ensures (λ before h. last _ (opened (c.in_ok-push_symbol.ensures.read before h)))))
