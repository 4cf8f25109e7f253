use Rattle.pipe_net.proofs.PipeForms.FormedLemmas.{pipelines_are_formed, have_no_product_chains}
use Rattle.pipe_net.proofs.pipe_forms.laws.pipelines_are_formed.Goals as goal

pub returns-clause-formed : goal.returns-clause-formed
returns-clause-formed c = pipelines_are_formed

pub returns-clause-apart : goal.returns-clause-apart
returns-clause-apart c = have_no_product_chains
