use Rattle.std.proofs.Common.{◌+◌, ◌-◌, length, drop, map, ◌≡◌, ap, arith}
use Rattle.cell_core.specs.Cells.{bits_from, phi}
use Rattle.cell_nets.specs.Operands.{number_in}
use Rattle.cell_nets.proofs.ExpressionPartLaws.{part_same, part_computes}
use Rattle.cell_nets.proofs.ListLemmas.{chosen_more}
use Rattle.cell_nets.proofs.listing.phi.Goals as goal

pub loop-at-preserved : goal.loop-at-preserved
loop-at-preserved g c =
    chosen_more c.args.args.now c.args.width c.loop-at.at c.index-args-at.result c.index-args-at-in-loop-at.result _ _ _ _ c.loop-at-test.true c.in_ok-chosen-2.ensures c.index-args-at.is c.index-args-at-in-loop-at.is c.loop-at.invariant
    c.in_ok-edge.ensures c.in_ok-value.ensures

pub returns : goal.returns
returns g c = λ ins packet h.
    let none : c.loop-at.at ≡ 0 = omega (arith, c.loop-at.invariant.even) in
    part_computes ins (3 + (length c.args.args.now - c.loop-at.at)) c.args.width _ _ (omega (arith, c.requires.few))
    (part_same ins _ c.args.width _ _ _ (λ v f. ap (λ k. bits_from (phi (map (number_in v) (drop k c.args.args.now))) 0 c.args.width) none) (c.loop-at.invariant.part ins h))
