use Rattle.std.proofs.Common.{false, ◌*◌, ◌/◌, [], ◌∷◌, drop, map, arith}
use Rattle.net_core.specs.View.{tree_of}
use Rattle.cell_core.specs.declared.operator.Operator.TheVariants.{Select, Phi}
use Rattle.cell_core.specs.Cells.{number, phi}
use Rattle.cell_nets.specs.Operands.{number_in}
use Rattle.cell_nets.specs.Parts.{worth}
use Rattle.cell_nets.specs.Wires.{wires_of}
use Rattle.cell_nets.proofs.NarrowLaws.{bits_small}
use Rattle.cell_nets.proofs.GatherLemmas.{no_packet}
use Rattle.cell_nets.proofs.PhiLemmas.{chosen, last_computes, pair_chosen, all_chosen}
use Rattle.cell_nets.proofs.phi.phi_wires.Goals as goal

pub loop-at-init : goal.loop-at-init
loop-at-init g c =
    let at = c.saturating_sub.result / 2 * 2 in
    let args = c.args.args.now in
    record {
      within = omega (arith, c.saturating_sub.ensures, c.if-args-le-MOST_OPERANDS.false);
      even = omega arith;
      gives = c.in_ok-chosen.ensures.gives false args (chosen args c.args.width at) (λ v. bits_small (phi (map (number_in v) (drop at args))) 0 c.args.width)
          (last_computes args c.args.width at (tree_of c.in_ok-last.last) (omega (arith, c.saturating_sub.ensures)) c.in_ok-last.ensures);
    }

pub loop-at-preserved : goal.loop-at-preserved
loop-at-preserved g c =
    let args = c.args.args.now in
    let w = c.args.width in
    let x = c.index-args-at.result in
    let y = c.index-args-at-in-loop-at.result in
    let rest = c.loop-at.chosen in
    record {
      within = omega (arith, c.loop-at.invariant.within);
      even = omega (arith, c.loop-at.invariant.even, c.loop-at-test.true);
      gives = pair_chosen c.args.part (wires_of c.args.wires.now.items) (wires_of c.loop-at.wires.items) (wires_of c.add_wire-in-loop-at.new.wires.items) args no_packet w c.loop-at.at x y rest c.in_ok-chosen-2.chosen c.loop-at-test.true c.loop-at.invariant.within
          c.index-args-at.is c.index-args-at-in-loop-at.is c.loop-at.invariant.gives
          (c.in_ok-chosen-2.ensures.gives false (x ∷ y ∷ rest ∷ []) (worth no_packet Select (x ∷ y ∷ rest ∷ []) w) (λ v. bits_small (number no_packet Select (number_in v x ∷ number_in v y ∷ number_in v rest ∷ [])) 0 w)
          (λ ins h. c.in_ok-e-2.ensures ins no_packet (h 0 x (omega arith)) (h 1 x (omega arith)) (h 2 x (omega arith))));
    }

pub returns-then-args-le-MOST_OPERANDS : goal.returns-then-args-le-MOST_OPERANDS
returns-then-args-le-MOST_OPERANDS g c = λ packet.
    c.in_ok-out.ensures.gives false c.args.args.now (worth packet Phi c.args.args.now c.args.width) (λ v. bits_small (phi (map (number_in v) c.args.args.now)) 0 c.args.width) (λ ins h. c.in_ok-e.ensures ins packet h)

pub returns : goal.returns
returns g c = λ packet. all_chosen c.args.part (wires_of c.args.wires.now.items) (wires_of c.loop-at.wires.items) c.args.args.now packet c.args.width c.loop-at.at c.loop-at.chosen (omega (arith, c.loop-at.invariant.even, c.loop-at-test.false)) c.loop-at.invariant.gives
