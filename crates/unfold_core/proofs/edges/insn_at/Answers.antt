use Rattle.std.proofs.Common.{None, ◌∙◌, arith}
use Rattle.unfold_core.proofs.Laid.{legal_found}
use Rattle.unfold_core.proofs.edges.insn_at.Goals as goal

pub returns-in-Some-clause-found : goal.returns-in-Some-clause-found
returns-in-Some-clause-found c = c.as_ref.ensures.value ∙ c.in-Some.ensures.lookup.3.1 None

pub returns-in-Some-clause-legal : goal.returns-in-Some-clause-legal
returns-in-Some-clause-legal c = legal_found c.args.units.now c.args.place c.as_ref.result c.requires (c.as_ref.ensures.value ∙ c.in-Some.ensures.lookup.3.1 None)

pub returns-in-None-clause-found : goal.returns-in-None-clause-found
returns-in-None-clause-found c = c.in-None.ensures.lookup.4 (omega arith) None
