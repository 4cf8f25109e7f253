use Rattle.std.proofs.Common.{◌+◌, ap, arith, length, map}
use Rattle.net_core.specs.View.{netlist_of, wire_of}
use Rattle.verilog_write.specs.VerilogGrammar.Grammar.{all_wires}
use Rattle.verilog_write.proofs.AddsLemmas.{word_line}
use Rattle.verilog_write.proofs.Facts.{wire_named, wire_wide, wire_writable, at_view, below_view}
use Rattle.verilog_write.proofs.Sections.{wire_at, section_line, section_done, wires_section}
use Rattle.verilog_write.proofs.design.push_wires.Goals as goal

pub name_at-name-requires : goal.name_at-name-requires
name_at-name-requires c =
    rw (c.deref.ensures.value, c.as_slice-ports.ensures.value, c.as_slice-declared.ensures.value) (wire_named (netlist_of c.args.names.now.design.now) c.requires c.loop-k.k (below_view wire_of c.args.names.now.design.now.wires.items c.loop-k.k (omega (arith, ap length c.as_slice-wires.ensures.value))))

pub push_wire-requires-clause-name : goal.push_wire-requires-clause-name
push_wire-requires-clause-name c =
    rw (c.name_at-name.ensures, c.deref.ensures.value, c.as_slice-ports.ensures.value, c.as_slice-declared.ensures.value) (wire_named (netlist_of c.args.names.now.design.now) c.requires c.loop-k.k (below_view wire_of c.args.names.now.design.now.wires.items c.loop-k.k (omega (arith, ap length c.as_slice-wires.ensures.value))))

pub push_wire-requires-clause-width : goal.push_wire-requires-clause-width
push_wire-requires-clause-width c =
    wire_wide (netlist_of c.args.names.now.design.now) c.requires c.loop-k.k (wire_of c.index-wires-k.result) (below_view wire_of c.args.names.now.design.now.wires.items c.loop-k.k (omega (arith, ap length c.as_slice-wires.ensures.value))) (at_view wire_of c.args.names.now.design.now.wires.items c.loop-k.k c.index-wires-k.result (omega (arith, ap length c.as_slice-wires.ensures.value)) (rw c.as_slice-wires.ensures.value at c.index-wires-k.is))

pub push_wire-requires-clause-right : goal.push_wire-requires-clause-right
push_wire-requires-clause-right c =
    wire_writable (netlist_of c.args.names.now.design.now) c.requires c.loop-k.k (wire_of c.index-wires-k.result) (below_view wire_of c.args.names.now.design.now.wires.items c.loop-k.k (omega (arith, ap length c.as_slice-wires.ensures.value))) (at_view wire_of c.args.names.now.design.now.wires.items c.loop-k.k c.index-wires-k.result (omega (arith, ap length c.as_slice-wires.ensures.value)) (rw c.as_slice-wires.ensures.value at c.index-wires-k.is))

pub loop-k-preserved : goal.loop-k-preserved
loop-k-preserved c = (
  c.loop-k.invariant.0,
  section_line (wire_at (netlist_of c.args.names.now.design.now)) (length c.args.names.now.design.now.ports.items + length c.args.names.now.design.now.declared.items) (length c.args.names.now.design.now.ports.items + length c.args.names.now.design.now.declared.items + c.loop-k.k) c.args.names.now.design.now.wires.items c.loop-k.k c.index-wires-k.result (omega (arith, ap length c.as_slice-wires.ensures.value)) (rw c.as_slice-wires.ensures.value at c.index-wires-k.is) (omega arith)
      c.loop-k.invariant.1 (word_line (rw (c.name_at-name.ensures, c.deref.ensures.value, c.as_slice-ports.ensures.value, c.as_slice-declared.ensures.value) at c.in_ok-push_wire.ensures) c.in_ok-push_line.ensures.read),
  c.loop-k.invariant.2,
  c.loop-k.invariant.3,
)

pub returns : goal.returns
returns c =
    section_done (wire_at (netlist_of c.args.names.now.design.now)) (length c.args.names.now.design.now.ports.items + length c.args.names.now.design.now.declared.items) c.args.names.now.design.now.wires.items c.loop-k.k (all_wires (netlist_of c.args.names.now.design.now) (length c.args.names.now.design.now.ports.items + length c.args.names.now.design.now.declared.items) (map wire_of c.args.names.now.design.now.wires.items)) (omega (arith, ap length c.as_slice-wires.ensures.value)) (wires_section (netlist_of c.args.names.now.design.now) (length c.args.names.now.design.now.ports.items + length c.args.names.now.design.now.declared.items) c.args.names.now.design.now.wires.items) c.loop-k.invariant.1
