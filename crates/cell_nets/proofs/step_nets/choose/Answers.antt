use Rattle.std.specs.Prelude.{if◌then◌else◌}
use Rattle.std.proofs.Common.{false, refl, [], ◌∷◌, arith}
use Rattle.cell_core.specs.Cells.{on, bits_from}
use Rattle.cell_nets.specs.Operands.{number_in, IsOperand}
use Rattle.cell_nets.specs.Wires.{wires_of}
use Rattle.cell_nets.proofs.NarrowLaws.{bits_small}
use Rattle.cell_nets.proofs.StepNets.StepLaws.{no_packet}
use Rattle.cell_nets.proofs.StepNets.FoldLaws.{of_either, settled_gives, truth_gives}
use Rattle.cell_nets.proofs.step_nets.choose.Goals as goal

pub cut-requires-clause-operand : goal.cut-requires-clause-operand
cut-requires-clause-operand g c = of_either IsOperand c.in-Some.x c.args.a c.args.b (c.in-Some.ensures c.in-Some.x refl).either c.requires.left c.requires.right

pub returns-in-Some : goal.returns-in-Some
returns-in-Some g c = settled_gives c.args.part (wires_of c.args.wires.now.items) _ c.args.c c.args.a c.args.b c.in-Some.x _ c.args.width (c.in-Some.ensures c.in-Some.x refl) c.in_ok-out.ensures

pub returns-then-is_truth : goal.returns-then-is_truth
returns-then-is_truth g c = truth_gives c.args.part (wires_of c.args.wires.now.items) _ c.args.c c.args.a c.args.b _ c.args.width (c.if-is_truth.ensures refl) c.in_ok-out-2.ensures

pub returns : goal.returns
returns g c =
    let x = c.args.c in
    let y = c.args.a in
    let z = c.args.b in
    let w = c.args.width in
    c.in_ok-out-3.ensures.gives false (x ∷ y ∷ z ∷ []) (λ v. bits_from (if on (number_in v x) then number_in v y else number_in v z) 0 w) (λ v. bits_small (if on (number_in v x) then number_in v y else number_in v z) 0 w)
    (λ ins h. c.in_ok-e.ensures ins no_packet (h 0 x (omega arith)) (h 1 y (omega arith)) (h 2 z (omega arith)))
