use Rattle.std.proofs.Common.{arith}
use Rattle.pipe_net.proofs.PipePlaces.Showing.{packets_shown, registers_fit, answers_shown}
use Rattle.pipe_net.proofs.pipe_places.laws.packets_are_shown.Goals as goal

pub returns-clause-held : goal.returns-clause-held
returns-clause-held c = λ l d sized laid parts i t ss v computed holds sees. packets_shown l d sized parts i ss v sees t computed holds

pub returns-clause-fit : goal.returns-clause-fit
returns-clause-fit c = λ l d sized whole parts i ss v sees stored k q. registers_fit l d sized parts i ss v sees whole stored k q

pub returns-clause-answers : goal.returns-clause-answers
returns-clause-answers c = λ l d sized whole parts i s ss v sees stored shows. answers_shown l whole.laid v s (registers_fit l d sized parts i ss v sees whole stored _ (omega arith)) shows
