use Rattle.cell_core.specs.declared.operator.Operator.TheVariants.{Join, Any, Phi}
use Rattle.cell_nets.proofs.ComputingLemmas.{phi_left, worth_of}
use Rattle.cell_nets.proofs.operators.list_wires.Goals as goal

pub returns-in_ok-out-in-Join : goal.returns-in_ok-out-in-Join
returns-in_ok-out-in-Join g c = λ packet. worth_of c.args.part _ _ c.args.args.now packet c.args.op (Join c.in-Join.bits) c.args.width c.in_ok-out-in-Join.out c.in-Join.is (c.in_ok-out-in-Join.ensures packet)

pub returns-in_ok-out-in-Any : goal.returns-in_ok-out-in-Any
returns-in_ok-out-in-Any g c = λ packet. worth_of c.args.part _ _ c.args.args.now packet c.args.op Any c.args.width c.in_ok-out-in-Any.out c.in-Any.is (c.in_ok-out-in-Any.ensures packet)

pub returns-in_ok-out-in_default : goal.returns-in_ok-out-in_default
returns-in_ok-out-in_default g c = λ packet.
    worth_of c.args.part _ _ c.args.args.now packet c.args.op Phi c.args.width c.in_ok-out-in_default.out (phi_left c.args.op c.requires.all c.in_default.not-Join c.in_default.not-Any) (c.in_ok-out-in_default.ensures packet)
