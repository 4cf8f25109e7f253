use Rattle.std.proofs.Common.{◌+◌, refl, sym, subst, arith}
use Rattle.hazard_core.specs.cell_core.Cells.{bit}
use Rattle.cell_nets.specs.declared.operand.Operand.TheVariants.{Known}
use Rattle.cell_nets.specs.Wires.{wires_of, always, Gives}
use Rattle.cell_nets.proofs.StepNets.ChainLaws.{starts, ends}
use Rattle.turn_net.specs.TargetNet.Commits.{any_on}
use Rattle.turn_net.proofs.TargetNet.CommitLemmas.{also_on, not_on, all_on}
use Rattle.turn_net.proofs.target_net.commits.commits_on.Goals as goal
use Rattle.turn_net.proofs.target_net.commits.commits_on.Goals.{then-maps-i+in_ok-any, else-maps-i}

pub loop-i-init : goal.loop-i-init
loop-i-init g c = ends (starts c.args.part (wires_of c.args.wires.now.items) c.args.chosen.now always) _ 1 (Known 0) (λ ins a. tt) (omega arith) (omega arith) (λ v f k. refl)

pub choose-requires-clause-right : goal.choose-requires-clause-right
choose-requires-clause-right g c = c.loop-i.invariant.operand

pub loop-i-preserved : goal.loop-i-preserved
loop-i-preserved g c =
    let part = c.args.part in
    let ws = wires_of c.args.wires.now.items in
    let maps = c.args.maps.now in
    let chosen = c.args.chosen.now in
    let map = c.args.map in
    let l = c.loop-i in
    elim c.if-maps-i.branch [
      | then-maps-i+in_ok-any w ↦
          subst (λ a. Gives part ws (wires_of c.if-maps-i.wires.items) chosen always (λ v. bit (any_on v maps chosen map (l.i + 1))) 1 a) (sym w.any-is)
          (subst (λ o. Gives part ws (wires_of o.items) chosen always (λ v. bit (any_on v maps chosen map (l.i + 1))) 1 w.in_ok-any.any) (sym w.wires-is)
          (also_on part ws (wires_of l.wires.items) maps chosen map l.i l.any l.invariant (wires_of w.choose.new.wires.items) w.index-chosen-i.result w.in_ok-any.any c.loop-i-test.true w.index-chosen-i.is w.if-maps-i.true w.in_ok-any.ensures))
      | else-maps-i w ↦
          subst (λ a. Gives part ws (wires_of c.if-maps-i.wires.items) chosen always (λ v. bit (any_on v maps chosen map (l.i + 1))) 1 a) (sym w.any-is)
          (subst (λ o. Gives part ws (wires_of o.items) chosen always (λ v. bit (any_on v maps chosen map (l.i + 1))) 1 l.any) (sym w.wires-is)
          (not_on part ws (wires_of l.wires.items) maps chosen map l.i l.any l.invariant w.if-maps-i.false))
    ]

pub returns : goal.returns
returns g c =
    let l = c.loop-i in
    all_on c.args.part (wires_of c.args.wires.now.items) (wires_of l.wires.items) c.args.maps.now c.args.chosen.now c.args.map l.i l.any l.invariant (omega (arith, c.loop-i-test.false, c.loop-i.auto))
