use Rattle.std.proofs.Common.{false, [], ◌∷◌, arith}
use Rattle.cell_nets.proofs.ExpressionPartLaws.{part_computes}
use Rattle.cell_nets.proofs.NarrowLaws.{bits_small}
use Rattle.cell_nets.proofs.wires.cut.Goals as goal

pub returns : goal.returns
returns g c = c.in_ok-out.ensures.gives false (c.args.a ∷ []) _ (λ v. bits_small _ c.args.from c.args.width) (λ ins h. part_computes ins 2 c.args.width _ _ (omega arith) (c.in_ok-e.ensures ins (h 0 c.args.a (omega arith))).part)
