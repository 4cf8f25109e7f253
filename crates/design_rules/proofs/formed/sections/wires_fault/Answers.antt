-- One item of the section.
use Rattle.std.proofs.Common.{arith, sym, ap, ◌∙◌, length}
use Rattle.net_core.specs.View.{netlist_of, wire_of}
use Rattle.design_rules.specs.Formed.{wire_rules, wires_start}
use Rattle.design_rules.proofs.FormedSections.{section_here, section_more}
use Rattle.design_rules.proofs.formed.sections.wires_fault.Goals as goal

pub returns-in-Some : goal.returns-in-Some
returns-in-Some c = sym (sym c.loop-k.invariant.1
    ∙ section_here wire_of (wire_rules (netlist_of c.args.design.now)) (wires_start (netlist_of c.args.design.now)) c.args.design.now.wires.items c.loop-k.k c.index-wires-k.result c.in-Some.why _ (omega (arith, ap length c.as_slice-wires.ensures.value))
    (rw c.as_slice-wires.ensures.value at c.index-wires-k.is) (sym c.in-Some.ensures) (omega (arith, ap length c.as_slice-declared.ensures.value)))

pub loop-k-preserved : goal.loop-k-preserved
loop-k-preserved c = (
  c.loop-k.invariant.0,
  section_more wire_of (wire_rules (netlist_of c.args.design.now)) (wires_start (netlist_of c.args.design.now)) c.args.design.now.wires.items c.loop-k.k c.index-wires-k.result (omega (arith, ap length c.as_slice-wires.ensures.value))
      (rw c.as_slice-wires.ensures.value at c.index-wires-k.is) (sym c.in_default.ensures)
      ∙ c.loop-k.invariant.1,
)
