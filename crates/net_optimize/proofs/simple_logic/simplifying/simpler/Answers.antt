use Rattle.std.proofs.Common.{◌∙◌}
use Rattle.net_optimize.proofs.SimpleLogic.SameLemmas.{show_the_same}
use Rattle.net_optimize.proofs.simple_logic.simplifying.simpler.Goals as goal

pub returns : goal.returns
returns c formed formed_too =
    let ensured = rw c.deref-4.ensures.value at c.in_ok-facts.ensures in
    show_the_same c.in_ok-registers.registers.items _ _ formed formed_too c.ports_have_sizes.ensures c.in_ok-registers.ensures (record {
      declared = c.in_ok-declared.ensures.items ∙ c.deref-3.ensures.value;
      wires = λ v sized. ensured.same v sized.fit sized.solve;
      assigns = λ v sized. (rw c.deref-5.ensures.value at c.in_ok-assigns.ensures) v (ensured.hold v sized.fit sized.solve);
      always = λ v s sized. (rw c.deref-6.ensures.value at c.in_ok-always.ensures) v s (ensured.hold v sized.fit sized.solve);
    })
