use Rattle.std.proofs.Common.{◌∷◌, [], refl, sym, subst, arith}
use Rattle.net_core.specs.View.{tree_of}
use Rattle.cell_core.specs.Cells.{bits_from}
use Rattle.cell_nets.specs.declared.operand.Operand.TheVariants.{Net}
use Rattle.cell_nets.specs.Operands.{number_in}
use Rattle.cell_nets.specs.Wires.{wires_of, always, Gives}
use Rattle.cell_nets.proofs.GiveLaws.{whole_gives}
use Rattle.cell_nets.proofs.ExpressionPartLaws.{part_computes}
use Rattle.cell_nets.proofs.NarrowLaws.{bits_small}
use Rattle.cell_nets.proofs.WireLemmas.{wire_gives}
use Rattle.cell_nets.proofs.operand_blocks.wiring.named.Goals as goal

pub returns-in-Some : goal.returns-in-Some
returns-in-Some g c =
    let w = c.args.width in
    let n = c.in-Some.net in
    let ws = wires_of c.args.wires.now.items in
    subst (λ a. Gives c.args.part ws ws (a ∷ []) always (λ v. bits_from (number_in v a) 0 w) w (Net n w)) (sym (c.whole_net.ensures n c.in-Some.is)) (whole_gives c.args.part ws n w 0 w c.requires.width refl refl)

pub returns : goal.returns
returns g c =
    let a = c.args.a in
    let w = c.args.width in
    wire_gives c.args.part _ _ (a ∷ []) (λ v. bits_from (number_in v a) 0 w) w (tree_of c.in_ok-e.e) _ c.in_ok-n.ensures.wires c.in_ok-n.ensures.name c.requires.width (λ v. bits_small (number_in v a) 0 w) (λ ins h. part_computes ins 2 w (λ v. bits_from (number_in v a) 0 w) _ (omega arith) (c.in_ok-e.ensures ins (h 0 a (omega arith))).part)
