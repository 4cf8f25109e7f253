use Rattle.pipe_net.proofs.PipeForms.DeclaredLemmas.{all_are_declared}
use Rattle.pipe_net.proofs.pipe_forms.laws.all_are_declared.Goals as goal

pub returns : goal.returns
returns c = all_are_declared
