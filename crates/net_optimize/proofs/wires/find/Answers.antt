use Rattle.std.proofs.Common.{◌∙◌, sym, ap, map, arith}
use Rattle.std.proofs.Math.ListN.{get_or-map}
use Rattle.std.proofs.lemmas.List.{length-map}
use Rattle.net_core.specs.declared.design.Wire.{Wire}
use Rattle.net_core.specs.View.{tree_of, right_of, wire_of}
use Rattle.design_rules.proofs.SolvedWires.SolvingLaws.{found}
use Rattle.net_optimize.proofs.wires.find.Goals as goal

pub returns-in-loop-j : goal.returns-in-loop-j
returns-in-loop-j c v s =
    let w = c.index-earlier-j.result in
    found v (map wire_of c.args.earlier.now) c.loop-j.j (wire_of w) (tree_of c.in-Plain.other) (tree_of c.args.e.now) s (omega (arith, length-map c.args.earlier.now wire_of))
    (ap wire_of c.index-earlier-j.is ∙ sym (get_or-map wire_of c.args.earlier.now c.loop-j.j w)) (ap (λ (x : Wire). right_of x.right) c.index-earlier-j.is ∙ ap right_of c.in-Plain.is) (c.is_same.ensures c.if-is_same.true)
