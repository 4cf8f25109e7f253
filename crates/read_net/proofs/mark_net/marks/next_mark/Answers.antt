use Rattle.overlay_net.specs.cell_nets.Wires.{wires_of}
use Rattle.read_net.proofs.MarkNet.NextLemmas.{next_stands}
use Rattle.read_net.proofs.mark_net.marks.next_mark.Goals as goal

pub returns-clause-stands : goal.returns-clause-stands
returns-clause-stands g c = λ p decls is.
    let m = c.args.mark.now in
    next_stands c.args.part c.args.advance p decls m (wires_of c.args.wires.now.items) _ _ _ _ _ c.in_ok-touched.touched c.in_ok-hit.hit c.in_ok-stays.stays c.in_ok-before.before c.in_ok-out.out c.in_ok-hit.ensures c.in_ok-stays.ensures c.in_ok-before.ensures c.in_ok-out.ensures
    (λ h e same. c.in_ok-touched.ensures.given p decls h m.site e is.site same is.owns)
