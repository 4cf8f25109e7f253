use Rattle.std.proofs.Common.{ap, arith, length, map}
use Rattle.net_core.specs.View.{netlist_of, statement_of}
use Rattle.verilog_write.specs.VerilogGrammar.Grammar.{all_always}
use Rattle.verilog_write.proofs.AddsLemmas.{word_line}
use Rattle.verilog_write.proofs.Facts.{block_writable, at_view, below_view}
use Rattle.verilog_write.proofs.Sections.{always_at, section_line, section_done, always_section}
use Rattle.verilog_write.proofs.design.push_blocks.Goals as goal

pub push_always-requires : goal.push_always-requires
push_always-requires c =
    block_writable (netlist_of c.args.names.now.design.now) c.requires c.loop-k.k (statement_of c.index-always-k.result) (below_view statement_of c.args.names.now.design.now.always.items c.loop-k.k (omega (arith, ap length c.as_slice-always.ensures.value))) (at_view statement_of c.args.names.now.design.now.always.items c.loop-k.k c.index-always-k.result (omega (arith, ap length c.as_slice-always.ensures.value)) (rw c.as_slice-always.ensures.value at c.index-always-k.is))

pub loop-k-preserved : goal.loop-k-preserved
loop-k-preserved c = (
  c.loop-k.invariant.0,
  section_line (always_at (netlist_of c.args.names.now.design.now)) 0 c.loop-k.k c.args.names.now.design.now.always.items c.loop-k.k c.index-always-k.result (omega (arith, ap length c.as_slice-always.ensures.value)) (rw c.as_slice-always.ensures.value at c.index-always-k.is) (omega arith)
      c.loop-k.invariant.1 (word_line c.in_ok-push_always.ensures c.in_ok-push_line.ensures.read),
)

pub returns : goal.returns
returns c =
    section_done (always_at (netlist_of c.args.names.now.design.now)) 0 c.args.names.now.design.now.always.items c.loop-k.k (all_always (netlist_of c.args.names.now.design.now) (map statement_of c.args.names.now.design.now.always.items)) (omega (arith, ap length c.as_slice-always.ensures.value)) (always_section (netlist_of c.args.names.now.design.now) 0 c.args.names.now.design.now.always.items) c.loop-k.invariant.1
