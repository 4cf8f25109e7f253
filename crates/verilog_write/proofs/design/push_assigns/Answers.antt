use Rattle.std.proofs.Common.{ap, arith, length, map}
use Rattle.net_core.specs.View.{netlist_of, assign_of}
use Rattle.verilog_write.specs.VerilogGrammar.Grammar.{all_assigns}
use Rattle.verilog_write.proofs.AddsLemmas.{word_line}
use Rattle.verilog_write.proofs.Facts.{assign_named, assign_writable, at_view, below_view}
use Rattle.verilog_write.proofs.Sections.{assign_at, section_line, section_done, assigns_section}
use Rattle.verilog_write.proofs.design.push_assigns.Goals as goal

pub name_at-name-requires : goal.name_at-name-requires
name_at-name-requires c =
    rw c.deref.ensures.value (assign_named (netlist_of c.args.names.now.design.now) c.requires c.loop-k.k (assign_of c.index-assigns-k.result) (below_view assign_of c.args.names.now.design.now.assigns.items c.loop-k.k (omega (arith, ap length c.as_slice-assigns.ensures.value))) (at_view assign_of c.args.names.now.design.now.assigns.items c.loop-k.k c.index-assigns-k.result (omega (arith, ap length c.as_slice-assigns.ensures.value)) (rw c.as_slice-assigns.ensures.value at c.index-assigns-k.is)))

pub push_assign-requires-clause-name : goal.push_assign-requires-clause-name
push_assign-requires-clause-name c =
    rw (c.name_at-name.ensures, c.deref.ensures.value) (assign_named (netlist_of c.args.names.now.design.now) c.requires c.loop-k.k (assign_of c.index-assigns-k.result) (below_view assign_of c.args.names.now.design.now.assigns.items c.loop-k.k (omega (arith, ap length c.as_slice-assigns.ensures.value))) (at_view assign_of c.args.names.now.design.now.assigns.items c.loop-k.k c.index-assigns-k.result (omega (arith, ap length c.as_slice-assigns.ensures.value)) (rw c.as_slice-assigns.ensures.value at c.index-assigns-k.is)))

pub push_assign-requires-clause-value : goal.push_assign-requires-clause-value
push_assign-requires-clause-value c =
    assign_writable (netlist_of c.args.names.now.design.now) c.requires c.loop-k.k (assign_of c.index-assigns-k.result) (below_view assign_of c.args.names.now.design.now.assigns.items c.loop-k.k (omega (arith, ap length c.as_slice-assigns.ensures.value))) (at_view assign_of c.args.names.now.design.now.assigns.items c.loop-k.k c.index-assigns-k.result (omega (arith, ap length c.as_slice-assigns.ensures.value)) (rw c.as_slice-assigns.ensures.value at c.index-assigns-k.is))

pub loop-k-preserved : goal.loop-k-preserved
loop-k-preserved c = (
  c.loop-k.invariant.0,
  section_line (assign_at (netlist_of c.args.names.now.design.now)) 0 c.loop-k.k c.args.names.now.design.now.assigns.items c.loop-k.k c.index-assigns-k.result (omega (arith, ap length c.as_slice-assigns.ensures.value)) (rw c.as_slice-assigns.ensures.value at c.index-assigns-k.is) (omega arith)
      c.loop-k.invariant.1 (word_line (rw (c.name_at-name.ensures, c.deref.ensures.value) at c.in_ok-push_assign.ensures) c.in_ok-push_line.ensures.read),
)

pub returns : goal.returns
returns c =
    section_done (assign_at (netlist_of c.args.names.now.design.now)) 0 c.args.names.now.design.now.assigns.items c.loop-k.k (all_assigns (netlist_of c.args.names.now.design.now) (map assign_of c.args.names.now.design.now.assigns.items)) (omega (arith, ap length c.as_slice-assigns.ensures.value)) (assigns_section (netlist_of c.args.names.now.design.now) 0 c.args.names.now.design.now.assigns.items) c.loop-k.invariant.1
