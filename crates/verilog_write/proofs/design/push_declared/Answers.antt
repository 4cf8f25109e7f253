use Rattle.std.proofs.Common.{◌+◌, ap, arith, get_or, length}
use Rattle.std.proofs.lemmas.List.{get_or_default}
use Rattle.net_core.specs.View.{netlist_of}
use Rattle.net_core.specs.declared.design.Declared.TheVariants.{Integer}
use Rattle.verilog_write.specs.VerilogGrammar.Grammar.{all_declared}
use Rattle.verilog_write.proofs.AddsLemmas.{word_line}
use Rattle.verilog_write.proofs.Facts.{declared_named, declared_writable}
use Rattle.verilog_write.proofs.Sections.{declared_at, section_line, section_done, declared_section}
use Rattle.verilog_write.proofs.design.push_declared.Goals as goal

pub name_at-name-requires : goal.name_at-name-requires
name_at-name-requires c =
    rw (c.deref.ensures.value, c.as_slice-ports.ensures.value) (declared_named (netlist_of c.args.names.now.design.now) c.requires c.loop-k.k (omega (arith, ap length c.as_slice-declared.ensures.value)))

pub push_declaration-requires-clause-name : goal.push_declaration-requires-clause-name
push_declaration-requires-clause-name c =
    rw (c.name_at-name.ensures, c.deref.ensures.value, c.as_slice-ports.ensures.value) (declared_named (netlist_of c.args.names.now.design.now) c.requires c.loop-k.k (omega (arith, ap length c.as_slice-declared.ensures.value)))

pub push_declaration-requires-clause-item : goal.push_declaration-requires-clause-item
push_declaration-requires-clause-item c =
    rw c.as_slice-declared.ensures.value (declared_writable (netlist_of c.args.names.now.design.now) c.requires c.loop-k.k (get_or c.args.names.now.design.now.declared.items c.loop-k.k Integer) (omega (arith, ap length c.as_slice-declared.ensures.value)) (get_or_default c.args.names.now.design.now.declared.items c.loop-k.k Integer _ (omega (arith, ap length c.as_slice-declared.ensures.value))))

pub loop-k-preserved : goal.loop-k-preserved
loop-k-preserved c = (
  c.loop-k.invariant.0,
  section_line (declared_at (netlist_of c.args.names.now.design.now)) (length c.args.names.now.design.now.ports.items) (length c.args.names.now.design.now.ports.items + c.loop-k.k) c.args.names.now.design.now.declared.items c.loop-k.k (get_or c.args.names.now.design.now.declared.items c.loop-k.k Integer) (omega (arith, ap length c.as_slice-declared.ensures.value)) (get_or_default c.args.names.now.design.now.declared.items c.loop-k.k Integer _ (omega (arith, ap length c.as_slice-declared.ensures.value))) (omega arith)
      c.loop-k.invariant.1 (word_line (rw (c.name_at-name.ensures, c.deref.ensures.value, c.as_slice-ports.ensures.value, c.as_slice-declared.ensures.value) at c.in_ok-push_declaration.ensures) c.in_ok-push_line.ensures.read),
  c.loop-k.invariant.2,
)

pub returns : goal.returns
returns c =
    section_done (declared_at (netlist_of c.args.names.now.design.now)) (length c.args.names.now.design.now.ports.items) c.args.names.now.design.now.declared.items c.loop-k.k (all_declared (netlist_of c.args.names.now.design.now) (length c.args.names.now.design.now.ports.items) c.args.names.now.design.now.declared.items) (omega (arith, ap length c.as_slice-declared.ensures.value)) (declared_section (netlist_of c.args.names.now.design.now) (length c.args.names.now.design.now.ports.items) c.args.names.now.design.now.declared.items) c.loop-k.invariant.1
