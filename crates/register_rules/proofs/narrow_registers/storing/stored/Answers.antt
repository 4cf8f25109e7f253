use Rattle.std.proofs.Common.{[], sym, subst}
use Rattle.net_core.specs.Nets.{Netlist}
use Rattle.net_core.specs.View.{netlist_of}
use Rattle.net_core.specs.Clock.{first_words}
use Rattle.register_rules.specs.NarrowRegisters.Narrow.{Coding, coding_of, AreNarrowedWords, AreNarrowedWires}
use Rattle.register_rules.proofs.NarrowRegisters.DesignLemmas.{shows_the_same}
use Rattle.register_rules.proofs.narrow_registers.storing.stored.Goals as goal

pub returns : goal.returns
returns c =
    let codes : Coding = coding_of c.in_ok-codes.field-0.codes in
    let a : Netlist = netlist_of c.args.design.now in
    let b : Netlist = netlist_of (record {
      names = c.in_ok-names.names;
      ports = c.in_ok-ports.ports;
      declared = c.in_ok-declared.declared;
      wires = c.in_ok-codes.field-0.wires;
      assigns = c.in_ok-assigns.assigns;
      always = c.in_ok-always.always;
    }) in
    let same = sym c.in_ok-codes.ensures.registers in
    shows_the_same codes a b
    (record {
      registers = subst (λ l. AreNarrowedWords l (first_words a.declared) (first_words b.declared)) same (rw (c.deref-3.ensures.value, c.deref-4.ensures.value) at c.in_ok-declared.ensures.words);
      memories = rw c.deref-4.ensures.value at c.in_ok-declared.ensures.memories;
    })
    (subst (λ l. AreNarrowedWires l [] codes.wires a.wires b.wires) same (rw c.deref-5.ensures.value at c.in_ok-codes.ensures.wires))
    (rw c.deref-6.ensures.value at c.in_ok-assigns.ensures)
    (rw c.deref-7.ensures.value at c.in_ok-always.ensures)
