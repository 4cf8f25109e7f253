use Rattle.std.proofs.Common.{All, length, sym, ap, subst, arith, map as map_list}
use Rattle.overlay_net.specs.cell_nets.Wires.{wires_of, always}
use Rattle.overlay_net.specs.cell_nets.StepNets.Standing.{Stands}
use Rattle.overlay_net.specs.cell_nets.OperandBlocks.Registers.{operand_in}
use Rattle.read_net.specs.MarkNet.Sites.{outside}
use Rattle.read_net.specs.MarkNet.Marks.{IsBit, TakeMarks}
use Rattle.read_net.proofs.MarkNet.BlockLemmas.{bits_operands, bits_wide, marks_block}
use Rattle.read_net.proofs.mark_net.marks.marks.Goals as goal

pub registered-requires-clause-few : goal.registered-requires-clause-few
registered-requires-clause-few g c = omega (arith, ap length c.deref.ensures.value, c.in_ok-taken.ensures.count, c.requires.few)

pub registered-requires-clause-operands : goal.registered-requires-clause-operands
registered-requires-clause-operands g c = bits_operands _ (subst (All IsBit) (sym c.deref.ensures.value) c.in_ok-taken.ensures.bits)

pub registered-requires-clause-widths : goal.registered-requires-clause-widths
registered-requires-clause-widths g c = bits_wide _ (subst (All IsBit) (sym c.deref.ensures.value) c.in_ok-taken.ensures.bits)

pub returns : goal.returns
returns g c = λ p decls are.
    let a = c.args in
    let ms = a.sites.now in
    let ts = c.in_ok-taken.taken.items in
    let ws = wires_of c.next_marks.new.wires.items in
    marks_block a.part p decls a.advance ms ts _ ws _ c.deref.ensures.value c.in_ok-taken.ensures.count c.in_ok-taken.ensures.bits
    (subst (λ l. Stands a.part (wires_of l) ws (outside a.advance ms) always (map_list operand_in ts) (λ v. TakeMarks v p decls a.advance ms ts)) c.new-wires.ensures.items (c.in_ok-taken.ensures.stand p decls are)) c.in_ok-block.ensures
