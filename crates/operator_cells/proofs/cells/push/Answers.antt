use Rattle.std.proofs.Common.{ℕ, List, arith, ap}
use Rattle.operator_cells.proofs.Growing.{pushed_adds}
use Rattle.operator_cells.proofs.cells.push.Goals as goal

pub returns : goal.returns
returns c = pushed_adds _ _ _ _ _ c.in_ok-push.ensures.items (ap (λ (ins : List ℕ). record { op = c.args.op; ins = ins; width = c.args.width; from = c.args.from }) c.in_ok-ins.ensures.ok) (omega (arith, c.in-Ok.ensures, c.len.ensures))
