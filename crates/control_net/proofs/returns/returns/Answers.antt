use Rattle.control_net.proofs.Returning.{made}
use Rattle.control_net.proofs.returns.returns.Goals as goal

pub returns : goal.returns
returns g c =
    let a = c.args in
    made a.shape.now a.part a.control a.reload.now _ (λ i. record { registers = c.new.ensures.items i; memories = c.new-2.ensures.items i; wires = c.in_ok-wires.ensures i; statement = c.in_ok-statement.ensures i })
