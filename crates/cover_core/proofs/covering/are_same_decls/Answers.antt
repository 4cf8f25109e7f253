use Rattle.std.proofs.Common.{refl, arith}
use Rattle.std.proofs.lemmas.List.{same_lists}
use Rattle.cover_core.proofs.covering.are_same_decls.Goals as goal

pub returns : goal.returns
returns c = (λ _. same_lists c.args.xs.now c.args.ys.now (omega arith) (λ k d below. c.loop-i.invariant k d (omega (arith, below))), λ _. refl)
