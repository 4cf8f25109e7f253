use Rattle.command_line.proofs.Nones.{if_none}
use Rattle.command_line.proofs.values.read_choice.Goals as goal

pub returns-in_err-hash_cap-clause-none : goal.returns-in_err-hash_cap-clause-none
returns-in_err-hash_cap-clause-none c = if_none c.from_residual.result (λ selected gives. c.in_err-hash_cap.ensures.none selected.hash_cap gives.hash_cap)
