-- One item of the section.
use Rattle.std.proofs.Common.{arith, sym, ap, ◌∙◌, length}
use Rattle.std.proofs.lemmas.List.{length-map}
use Rattle.net_core.specs.View.{netlist_of, statement_of, wire_of, assign_of}
use Rattle.design_rules.specs.Formed.{always_rules, always_start}
use Rattle.design_rules.proofs.FormedSections.{section_here, section_more}
use Rattle.design_rules.proofs.formed.sections.always_fault.Goals as goal

pub returns-in-Some : goal.returns-in-Some
returns-in-Some c = sym (sym c.loop-k.invariant.1
    ∙ section_here statement_of (always_rules (netlist_of c.args.design.now)) (always_start (netlist_of c.args.design.now)) c.args.design.now.always.items c.loop-k.k c.index-always-k.result c.in-Some.why _ (omega (arith, ap length c.as_slice-always.ensures.value))
    (rw c.as_slice-always.ensures.value at c.index-always-k.is) (sym c.in-Some.ensures) (omega (arith, ap length c.as_slice-declared.ensures.value, ap length c.as_slice-wires.ensures.value, ap length c.as_slice-assigns.ensures.value, length-map c.args.design.now.wires.items wire_of, length-map c.args.design.now.assigns.items assign_of)))

pub loop-k-preserved : goal.loop-k-preserved
loop-k-preserved c = (
  c.loop-k.invariant.0,
  section_more statement_of (always_rules (netlist_of c.args.design.now)) (always_start (netlist_of c.args.design.now)) c.args.design.now.always.items c.loop-k.k c.index-always-k.result (omega (arith, ap length c.as_slice-always.ensures.value))
      (rw c.as_slice-always.ensures.value at c.index-always-k.is) (sym c.in_default.ensures)
      ∙ c.loop-k.invariant.1,
)
