use Rattle.std.proofs.Common.{◌∙◌, sym, arith}
use Rattle.std.proofs.lemmas.List.{length-map}
use Rattle.net_core.specs.View.{wire_of}
use Rattle.net_optimize.proofs.KeptLists.{words_counted}
use Rattle.net_optimize.proofs.optimizing.without_dead.Goals as goal

pub returns : goal.returns
returns c =
    let wires = c.args.short.now.wires.items in
    let declared = c.args.design.now.declared.items in
    let kept = c.in_ok-kept.kept in
    let e = c.in_ok-kept.ensures in
    record {
      wires_kept = kept.wires.items;
      registers_kept = kept.registers.items;
      all_wires = e.all_wires ∙ sym (length-map wires wire_of);
      all_registers = e.all_registers;
      few_wires = omega (arith, e.all_wires, c.requires.wires);
      few_registers = omega (arith, e.all_registers, words_counted declared, c.requires.declared);
      words = rw (c.deref.ensures.value, c.deref-2.ensures.value) at c.in_ok-declared.ensures.words;
      memories = rw c.deref.ensures.value at c.in_ok-declared.ensures.memories;
      wires = rw (e.wires, e.registers, e.firsts, c.deref-3.ensures.value, c.deref-4.ensures.value) at c.in_ok-wires.ensures;
      assigns = rw (e.wires, e.registers, e.firsts, c.deref-5.ensures.value) at c.in_ok-assigns.ensures;
      always = rw (e.wires, e.registers, e.firsts, c.deref-6.ensures.value) at c.in_ok-always.ensures;
    }
