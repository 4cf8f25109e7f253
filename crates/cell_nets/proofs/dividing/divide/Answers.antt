use Rattle.std.proofs.Common.{[], ◌∷◌, ◌∙◌, ap, arith}
use Rattle.net_core.specs.View.{tree_of}
use Rattle.cell_core.specs.Cells.{number, bits_from}
use Rattle.cell_nets.specs.Dividing.{division}
use Rattle.cell_nets.specs.Operands.{number_in}
use Rattle.cell_nets.proofs.ExpressionPartLaws.{part_computes}
use Rattle.cell_nets.proofs.ShiftLaws.{cut_low}
use Rattle.cell_nets.proofs.GiveLaws.{gives_next}
use Rattle.cell_nets.proofs.DivisionLemmas.{divided_gives}
use Rattle.cell_nets.proofs.dividing.divide.Goals as goal

pub returns : goal.returns
returns g c = λ packet.
    let x = divided_gives c.args.part _ _ _ _ c.args.remainder c.args.a c.args.b (tree_of c.in_ok-top.top) (tree_of c.in_ok-bottom.bottom) _ _ _ _ packet c.in_ok-dividend.ensures.wires c.in_ok-dividend.ensures.name c.in_ok-divisor.ensures.wires
    c.in_ok-divisor.ensures.name c.divided-right.ensures c.in_ok-whole.ensures.wires c.in_ok-whole.ensures.name c.requires.right (λ ins h. part_computes ins 2 64 _ _ (omega arith) (c.in_ok-top.ensures ins h).part)
    (λ ins h. c.in_ok-bottom.ensures ins packet h)
    in
    gives_next c.args.part _ _ _ _ _ _ _ _ 64 c.args.width _ _ x c.in_ok-out.ensures
    (λ v fit e. ap (λ k. bits_from k 0 c.args.width) e ∙ cut_low (number packet (division c.args.remainder) (number_in v c.args.a ∷ number_in v c.args.b ∷ [])) 64 c.args.width c.requires.width.most)
