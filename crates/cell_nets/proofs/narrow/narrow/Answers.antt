use Rattle.std.proofs.Common.{[], ◌∷◌, subst, arith}
use Rattle.net_core.specs.View.{tree_of}
use Rattle.cell_nets.specs.Parts.{ComputesBy, worth}
use Rattle.cell_nets.proofs.ExpressionPartLaws.{binary_computes, computes_as}
use Rattle.cell_nets.proofs.NarrowLaws.{narrow_is, narrow_width, narrow_product}
use Rattle.cell_nets.proofs.narrow.narrow.Goals as goal

pub returns : goal.returns
returns g c = λ ins packet o e h k.
    let w = c.args.width in
    let left = c.in_ok-left.ensures ins h in
    let right = c.in_ok-right.ensures ins k in
    subst (λ b. ComputesBy b ins w (worth packet o (c.args.a ∷ c.args.b ∷ []) w) (tree_of c.in_ok-e.e)) (narrow_product o c.args.op e)
    (computes_as ins w _ _ _ c.in_ok-e.ensures
    (binary_computes ins 2 2 w w w _ _ _ c.args.op _ _ (omega arith) (omega arith) (narrow_width o c.args.op w e) (λ v f. narrow_is packet o c.args.op w _ _ e c.requires.width.most) left.part right.part))
