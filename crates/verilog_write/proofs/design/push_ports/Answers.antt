use Rattle.std.proofs.Common.{ap, arith, false, get_or, length}
use Rattle.std.proofs.lemmas.List.{get_or_default}
use Rattle.net_core.specs.View.{netlist_of}
use Rattle.verilog_write.specs.VerilogGrammar.Grammar.{ports_lexemes}
use Rattle.verilog_write.proofs.Facts.{port_named, port_wide}
use Rattle.verilog_write.proofs.Sections.{port_at, section_line, section_done, ports_section}
use Rattle.verilog_write.proofs.design.push_ports.Goals as goal

pub name_at-name-requires : goal.name_at-name-requires
name_at-name-requires c =
    rw c.deref.ensures.value (port_named (netlist_of c.args.design.now) c.requires c.loop-k.k (omega (arith, ap length c.as_slice-ports.ensures.value)))

pub push_port_line-requires-clause-name : goal.push_port_line-requires-clause-name
push_port_line-requires-clause-name c =
    rw (c.name_at-name.ensures, c.deref.ensures.value) (port_named (netlist_of c.args.design.now) c.requires c.loop-k.k (omega (arith, ap length c.as_slice-ports.ensures.value)))

pub push_port_line-requires-clause-width : goal.push_port_line-requires-clause-width
push_port_line-requires-clause-width c =
    rw c.as_slice-ports.ensures.value (port_wide (netlist_of c.args.design.now) c.requires c.loop-k.k (get_or c.args.design.now.ports.items c.loop-k.k (record { output = false; width = 0 })) (omega (arith, ap length c.as_slice-ports.ensures.value)) (get_or_default c.args.design.now.ports.items c.loop-k.k _ _ (omega (arith, ap length c.as_slice-ports.ensures.value))))

pub loop-k-preserved : goal.loop-k-preserved
loop-k-preserved c = (
  c.loop-k.invariant.0,
  section_line (port_at (netlist_of c.args.design.now) (length c.args.design.now.ports.items)) 0 c.loop-k.k c.args.design.now.ports.items c.loop-k.k (get_or c.args.design.now.ports.items c.loop-k.k (record { output = false; width = 0 })) (omega (arith, ap length c.as_slice-ports.ensures.value)) (get_or_default c.args.design.now.ports.items c.loop-k.k _ _ (omega (arith, ap length c.as_slice-ports.ensures.value))) (omega arith)
      c.loop-k.invariant.1 (rw (c.name_at-name.ensures, c.deref.ensures.value, c.as_slice-ports.ensures.value) at c.in_ok-push_port_line.ensures),
)

pub returns : goal.returns
returns c =
    section_done (port_at (netlist_of c.args.design.now) (length c.args.design.now.ports.items)) 0 c.args.design.now.ports.items c.loop-k.k (ports_lexemes (netlist_of c.args.design.now) 0 c.args.design.now.ports.items) (omega (arith, ap length c.as_slice-ports.ensures.value)) (ports_section (netlist_of c.args.design.now) (length c.args.design.now.ports.items) 0 c.args.design.now.ports.items (omega arith)) c.loop-k.invariant.1
