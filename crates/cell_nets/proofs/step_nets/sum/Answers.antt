use Rattle.std.proofs.Common.{◌≡◌, ◌+◌, false, refl, [], ◌∷◌, sym, ◌∙◌, ap, arith}
use Rattle.block_core.proofs.list_laws_laws.AllLaws.{all_one}
use Rattle.cell_core.specs.declared.operator.Operator.TheVariants.{Add}
use Rattle.cell_core.specs.Cells.{bits_from}
use Rattle.cell_nets.specs.Operands.{number_in, IsAvailable}
use Rattle.cell_nets.specs.Parts.{worth}
use Rattle.cell_nets.specs.Wires.{wires_of, always}
use Rattle.cell_nets.proofs.ChoiceLaws.{number_small}
use Rattle.cell_nets.proofs.NarrowLaws.{bits_small}
use Rattle.cell_nets.proofs.GiveLaws.{gives_as}
use Rattle.cell_nets.proofs.StepNets.ChainLaws.{starts, last}
use Rattle.cell_nets.proofs.StepNets.StepLaws.{no_packet, summed}
use Rattle.cell_nets.proofs.step_nets.sum.Goals as goal

pub returns-then-is_zero : goal.returns-then-is_zero
returns-then-is_zero g c =
    let a = c.args.a in
    let b = c.args.b in
    gives_as c.args.part (wires_of c.args.wires.now.items) _ (b ∷ []) (a ∷ b ∷ []) always always _ _ c.args.width _ c.in_ok-out.ensures (λ ins h. all_one (IsAvailable ins) b (h 1 b (omega arith)))
    (λ v f n.
    let e : number_in v b ≡ 0 + number_in v b = omega arith in
    (tt, ap (λ k. bits_from k 0 c.args.width) e ∙ ap (λ x. bits_from (number_in v x + number_in v b) 0 c.args.width) (sym (c.if-is_zero.ensures refl))))

pub returns-then-is_zero-2 : goal.returns-then-is_zero-2
returns-then-is_zero-2 g c =
    let a = c.args.a in
    let b = c.args.b in
    gives_as c.args.part (wires_of c.args.wires.now.items) _ (a ∷ []) (a ∷ b ∷ []) always always _ _ c.args.width _ c.in_ok-out-2.ensures (λ ins h. all_one (IsAvailable ins) a (h 0 a (omega arith)))
    (λ v f n.
    let e : number_in v a ≡ number_in v a + 0 = omega arith in
    (tt, ap (λ k. bits_from k 0 c.args.width) e ∙ ap (λ x. bits_from (number_in v a + number_in v x) 0 c.args.width) (sym (c.if-is_zero-2.ensures refl))))

pub returns : goal.returns
returns g c =
    let a = c.args.a in
    let b = c.args.b in
    let w = c.args.width in
    last (starts c.args.part (wires_of c.args.wires.now.items) (a ∷ b ∷ []) always)
    (c.in_ok-out-3.ensures.gives false (a ∷ b ∷ []) (worth no_packet Add (a ∷ b ∷ []) w) (λ v. bits_small _ 0 w) (λ ins h. c.in_ok-e.ensures ins no_packet Add refl (h 0 a (omega arith)) (h 1 b (omega arith)))) (λ ins h. h)
    (λ v f k. tt) (λ v. bits_from (number_in v a + number_in v b) 0 w)
    (λ v f k. summed (number_in v a) (number_in v b) w (number_small v a c.requires.left (f 0 a (omega arith))) (number_small v b c.requires.right (f 1 b (omega arith))) c.requires.width.most)
