use Rattle.std.proofs.Common.{All, sym, subst}
use Rattle.read_net.specs.TouchNet.Marking.{HasOperands}
use Rattle.place_parts.proofs.MarkParts.Forming.{nets_have}
use Rattle.place_parts.proofs.mark_parts.reload.reload_part.Goals as goal

pub reload-requires-2 : goal.reload-requires-2
reload-requires-2 c = subst (All HasOperands) (sym c.deref-2.ensures.value) (nets_have c.args.layout.now c.args.sites.now c.requires.operands c.args.k c.in_ok-nets.nets.items c.in_ok-nets.ensures)
