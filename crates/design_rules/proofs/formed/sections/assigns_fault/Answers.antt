-- One item of the section.
use Rattle.std.proofs.Common.{arith, sym, ap, ◌∙◌, length}
use Rattle.std.proofs.lemmas.List.{length-map}
use Rattle.net_core.specs.View.{netlist_of, assign_of, wire_of}
use Rattle.design_rules.specs.Formed.{assign_rules, assigns_start}
use Rattle.design_rules.proofs.FormedSections.{section_here, section_more}
use Rattle.design_rules.proofs.formed.sections.assigns_fault.Goals as goal

pub returns-in-Some : goal.returns-in-Some
returns-in-Some c = sym (sym c.loop-k.invariant.1
    ∙ section_here assign_of (assign_rules (netlist_of c.args.design.now)) (assigns_start (netlist_of c.args.design.now)) c.args.design.now.assigns.items c.loop-k.k c.index-assigns-k.result c.in-Some.why _ (omega (arith, ap length c.as_slice-assigns.ensures.value))
    (rw c.as_slice-assigns.ensures.value at c.index-assigns-k.is) (sym c.in-Some.ensures) (omega (arith, ap length c.as_slice-declared.ensures.value, ap length c.as_slice-wires.ensures.value, length-map c.args.design.now.wires.items wire_of)))

pub loop-k-preserved : goal.loop-k-preserved
loop-k-preserved c = (
  c.loop-k.invariant.0,
  section_more assign_of (assign_rules (netlist_of c.args.design.now)) (assigns_start (netlist_of c.args.design.now)) c.args.design.now.assigns.items c.loop-k.k c.index-assigns-k.result (omega (arith, ap length c.as_slice-assigns.ensures.value))
      (rw c.as_slice-assigns.ensures.value at c.index-assigns-k.is) (sym c.in_default.ensures)
      ∙ c.loop-k.invariant.1,
)
