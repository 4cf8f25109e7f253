use Rattle.std.proofs.Common.{◌≡◌, [], ◌∷◌, subst, sym, ◌∙◌, ap, Some, None}
use Rattle.net_core.specs.View.{tree_of}
use Rattle.cell_nets.specs.Narrow.{test_op}
use Rattle.cell_nets.specs.Parts.{ComputesBy, worth}
use Rattle.cell_nets.proofs.TestLemmas.{test_product}
use Rattle.cell_nets.proofs.operators.pair.Goals as goal

pub returns-in-Some : goal.returns-in-Some
returns-in-Some g c = λ ins packet h k.
    let is = sym c.test_op.ensures ∙ c.in-Some.is in
    subst (λ b. ComputesBy b ins c.args.width (worth packet c.args.op (c.args.a ∷ c.args.b ∷ []) c.args.width) (tree_of c.in_ok-e.e)) (sym (test_product c.args.op c.in-Some.test is)) (c.in_ok-e.ensures ins packet c.args.op is h k)

pub returns : goal.returns
returns g c = λ ins packet h k.
    let none : test_op c.args.op ≡ None = sym c.test_op.ensures ∙ c.in_default.is in
    let o = c.requires.pair none in
    c.in_ok-e-2.ensures ins packet c.args.op (o.1 ∙ ap Some (sym (c.narrow_op.ensures o.0 o.1))) h k
