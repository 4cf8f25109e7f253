use Rattle.std.proofs.Common.{◌∙◌, length, sym, ap, subst, arith}
use Rattle.std.proofs.lemmas.List.{length_push}
use Rattle.cell_nets.specs.Wires.{wires_of}
use Rattle.turn_net.proofs.TargetNet.CommitLemmas.{Far, far_none, far_more, far_all}
use Rattle.turn_net.proofs.target_net.commits.commit_nets.Goals as goal

pub loop-map-init : goal.loop-map-init
loop-map-init g c =
    let e = c.new-all.ensures.items in
    let ws = wires_of c.args.wires.now.items in
    let maps = c.args.maps.now in
    let chosen = c.args.chosen.now in
    record { count = ap length e; stands = subst (Far c.args.part maps chosen ws ws) (sym e) (far_none c.args.part maps chosen ws) }

pub loop-map-preserved : goal.loop-map-preserved
loop-map-preserved g c =
    let l = c.loop-map in
    let ns = l.all.items in
    let n = c.in_ok-named.field-0 in
    let e = c.in_ok-push.ensures.items in
    let maps = c.args.maps.now in
    let chosen = c.args.chosen.now in
    let ws = wires_of c.args.wires.now.items in
    record {
      count = ap length e ∙ length_push ns n ∙ omega (arith, l.invariant.count);
      stands =
          subst (Far c.args.part maps chosen ws (wires_of c.named.new.wires.items)) (sym e)
          (far_more c.args.part maps chosen ws _ (wires_of c.commits_on.new.wires.items) (wires_of c.named.new.wires.items) ns l.map c.in_ok-any.any n l.invariant.count l.invariant.stands c.in_ok-any.ensures c.in_ok-named.ensures);
    }

pub returns-clause-stands : goal.returns-clause-stands
returns-clause-stands g c = far_all c.args.part c.args.maps.now c.args.chosen.now (wires_of c.args.wires.now.items) (wires_of c.loop-map.wires.items) c.loop-map.all.items c.loop-map.invariant.stands
