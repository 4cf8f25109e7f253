use Rattle.std.proofs.Common.{ℕ, List, [], sym, subst}
use Rattle.hazard_core.specs.StageValues.{StageValues}
use Rattle.hazard_core.specs.Tables.{TableState}
use Rattle.cell_nets.specs.Wires.{wires_of}
use Rattle.cell_nets.specs.StepNets.Standing.{Stands}
use Rattle.read_net.specs.Sites.{IsMapOf}
use Rattle.cell_nets.proofs.OperandBlocks.WiringLaws.{is_wiring, offers, all_known}
use Rattle.turn_net.specs.TargetNet.Tables.{first_tables}
use Rattle.turn_net.specs.TargetNet.Targets.{all_of, outside_of, Shows, ShowTargets, IsTargets}
use Rattle.turn_net.proofs.target_net.targets.targets.Goals as goal

pub returns : goal.returns
returns g c = λ p m own.
    let part = c.args.part in
    let map = c.args.map.now in
    let rs = c.args.records.now in
    let ss = c.args.taken.now in
    let ds = c.in_ok-targets.targets.items in
    let ws = wires_of c.target_nets.new.wires.items in
    let outside = outside_of map rs ss in
    let outs = all_of ds in
    let x : (u : TableState) (took : List ℕ) (h : StageValues) → IsMapOf u m map.decl.now → Stands part [] ws outside (λ v. Shows v p u took h m map rs ss) outs (λ v. ShowTargets v p u took h ss rs ds) =
    λ u took h is. subst (λ os. Stands part (wires_of os) ws outside (λ v. Shows v p u took h m map rs ss) outs (λ v. ShowTargets v p u took h ss rs ds)) c.new-wires.ensures.items (c.in_ok-targets.ensures.stands p u took h m own is) in
    let any = x (first_tables map.decl.now m) [] (record { values = []; pointers = [] }) (c.tables_are_there.ensures map.decl.now m c.requires.map.limits) in
    subst (IsTargets p m part map c.args.slot_bits rs ss ds) (sym c.in_ok-block.ensures)
    (record {
      wiring = is_wiring part ws outside outs _ _ any;
      offers = offers part ws outside outs _ _ any c.in_ok-targets.ensures.has.operands;
      has = c.in_ok-targets.ensures.has;
      shows = λ v u took h is f s n. all_known part ws outside outs (λ v. Shows v p u took h m map rs ss) (λ v. ShowTargets v p u took h ss rs ds) (x u took h is) v f s n;
    })
