use Rattle.std.proofs.Common.{[], ap, subst}
use Rattle.block_core.specs.View.{block_of}
use Rattle.overlay_net.specs.cell_nets.Wires.{wires_of, always, Gives}
use Rattle.commit_net.specs.ChangeNet.Pointed.{IsPointedWords}
use Rattle.commit_net.specs.ChangeNet.Written.{written_outside}
use Rattle.commit_net.proofs.ChangeNet.PointedLaws.{over_given}
use Rattle.commit_net.proofs.ChangeNet.WrittenLemmas.{chosen_number, is_written}
use Rattle.commit_net.proofs.change_net.written.written.Goals as goal

pub returns : goal.returns
returns g c =
    let a = c.args in
    let d = a.decl.now in
    let r = c.in_ok-shown.shown in
    let ws = wires_of c.choose.new.wires.items in
    let o = c.in_ok-number.number in
    let out = written_outside a.bits a.commits a.slot in
    let b = block_of r.block in
    let x : Gives a.part [] ws out always (chosen_number a.part a.of d a.bits a.commits a.slot r.slot r.words.items ws o b) a.bits o =
    subst (λ l. Gives a.part l ws out always (chosen_number a.part a.of d a.bits a.commits a.slot r.slot r.words.items ws o b) a.bits o) (ap wires_of c.new-wires.ensures.items) c.in_ok-number.ensures in
    is_written a.part a.of d a.bits a.commits a.slot r.slot r.words.items ws o b x
    (subst (λ n. IsPointedWords a.part a.of out ws o 0 a.bits 1 d.key 0 n r.slot r.words.items b) c.key_count-count.ensures.count (c.in_ok-shown.ensures out (over_given x)))
