use Rattle.std.proofs.Common.{◌∙◌, sym, ap, subst, refl, map as map_list}
use Rattle.net_core.specs.Nets.{SBlock}
use Rattle.net_core.specs.View.{statement_of}
use Rattle.cell_nets.specs.Wires.{wires_of}
use Rattle.frame_net.proofs.FormLaws.{same_block}
use Rattle.cell_nets.specs.OperandBlocks.Registers.{IsRegistered}
use Rattle.cell_nets.proofs.OperandBlocks.RegisterLemmas.{is_registered}
use Rattle.cell_nets.proofs.operand_blocks.registers.registered.Goals as goal

pub returns : goal.returns
returns g c = λ part outside wires available.
    let all = c.args.all.now in
    let ws = wires_of c.args.wires.items in
    subst (IsRegistered part outside all ws) (sym (same_block _ _ _ _ _ c.in_ok-registers.ensures c.new.ensures.items refl (c.in_ok-statement.ensures ∙ ap SBlock c.in_ok-listed.ensures)))
    (is_registered part outside all ws (map_list statement_of c.in_ok-sets.field-0.items) c.requires.widths c.in_ok-sets.ensures wires available)
