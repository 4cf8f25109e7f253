use Rattle.overlay_net.specs.cell_nets.declared.operand.Operand.TheVariants.{Net}
use Rattle.commit_net.proofs.ChangeNet.PresenceLemmas.{presence_stands}
use Rattle.commit_net.proofs.change_net.presence.presence_net.Goals as goal

pub returns-clause-stands : goal.returns-clause-stands
returns-clause-stands g c =
    presence_stands c.args.part c.args.sites.now c.args.commits (Net c.in_ok-insert_net.field-0 1) (Net c.in_ok-delete_net.field-0 1) c.in_ok-moves.moves c.in_ok-out.out c.in_ok-insert_net.ensures c.in_ok-delete_net.ensures c.in_ok-moves.ensures c.in_ok-out.ensures
