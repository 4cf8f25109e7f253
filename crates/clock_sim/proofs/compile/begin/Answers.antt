use Rattle.std.specs.Prelude.{replicate}
use Rattle.std.proofs.Common.{◌≡◌, ◌+◌, None, length, ap, ◌∙◌, arith}
use Rattle.net_core.specs.declared.ports.TheConstants.{PORT_COUNT}
use Rattle.net_core.specs.Width.{register_widths}
use Rattle.clock_sim.specs.Flat.{Flat}
use Rattle.clock_sim.specs.Layouts.{slots_in}
use Rattle.clock_sim.proofs.CompiledLemmas.{count_is}
use Rattle.clock_sim.proofs.compile.begin.Goals as goal

pub returns-clause-begins : goal.returns-clause-begins
returns-clause-begins c =
    let layout = c.in_ok-layout.ensures in
    let registers = c.in_ok-layout.layout.registers in
    let len : c.len.result ≡ length registers.items = omega (arith, c.len.ensures, registers.ok.0) in
    let count : c.len.result ≡ length (register_widths c.args.declared.now) = count_is registers.items c.len.result (register_widths c.args.declared.now) len layout.registers in
    record {
      ports = c.in_ok-ports.ensures;
      registers = layout.registers;
      memories = layout.memories;
      wires = c.new-wires.ensures.items;
      steps = ap (λ (b : Flat). b.steps) c.in_ok-builder.ensures;
      slots = ap (λ (b : Flat). b.slots) c.in_ok-builder.ensures ∙ ap (λ k. replicate (PORT_COUNT + k) None) count;
      next = c.in_ok-next.ensures ∙ ap slots_in c.deref.ensures.value;
      stores = c.new-stores.ensures.items;
    }
