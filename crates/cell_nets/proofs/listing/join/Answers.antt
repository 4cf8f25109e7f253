use Rattle.std.proofs.Common.{◌+◌, ◌-◌, ◌≡◌, ℕ, length, map, subst, arith}
use Rattle.net_core.specs.View.{tree_of}
use Rattle.cell_core.specs.Cells.{bits_from, joined}
use Rattle.cell_nets.specs.Operands.{number_in}
use Rattle.cell_nets.specs.Parts.{IsPart}
use Rattle.cell_nets.proofs.ExpressionPartLaws.{part_computes}
use Rattle.cell_nets.proofs.JoinLemmas.{joined_first, joined_next}
use Rattle.cell_nets.proofs.listing.join.Goals as goal

pub loop-done-init : goal.loop-done-init
loop-done-init g c =
    let d = c.given-done.ensures in
    joined_first c.args.args.now c.args.bits c.args.width (length c.args.args.now - 1) c.given-done.result c.index-args-at.result _ (omega arith) c.index-args-at.is c.requires.bits.1 c.requires.width.most c.requires.apart d.some d.most
    d.others d.rest c.in_ok-e.ensures

pub loop-done-preserved : goal.loop-done-preserved
loop-done-preserved g c =
    let m = c.given-more.ensures in
    joined_next c.args.args.now c.args.bits c.args.width c.loop-done.at c.loop-done.done c.given-more.result c.index-args-at-in-loop-done.result _ _ _ c.loop-done.invariant c.loop-done-test.true c.index-args-at-in-loop-done.is
    c.requires.bits.1 c.requires.width.most c.requires.apart m.some m.most m.others m.rest c.in_ok-piece.ensures c.in_ok-e-2.ensures

pub returns : goal.returns
returns g c = λ ins packet h.
    let whole : c.loop-done.done ≡ c.args.width = omega (arith, c.loop-done.invariant.most) in
    let P : ℕ → Type 0 = λ k. IsPart ins (2 + (length c.args.args.now - 1 - c.loop-done.at)) k (λ v. bits_from (joined c.args.bits (map (number_in v) c.args.args.now)) 0 k) (tree_of c.loop-done.e) in
    part_computes ins (2 + (length c.args.args.now - 1 - c.loop-done.at)) c.args.width _ _ (omega (arith, c.requires.few)) (subst P whole (c.loop-done.invariant.part ins h))
