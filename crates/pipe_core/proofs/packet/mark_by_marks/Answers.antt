use Rattle.std.proofs.Common.{◌≡◌, ◌∙◌, length, sym, arith}
use Rattle.std.proofs.lemmas.List.{length-map}
use Rattle.hazard_core.specs.cell_core.View.{program_of, site_of}
use Rattle.pipe_core.proofs.Numbered.{made_all}
use Rattle.pipe_core.proofs.packet.mark_by_marks.Goals as goal

pub returns-clause-marks : goal.returns-clause-marks
returns-clause-marks c =
    let n = length (program_of c.args.planned.now.program.now).sites in
    let sites : n ≡ length c.args.planned.now.program.now.sites.items = length-map c.args.planned.now.program.now.sites.items site_of in
    let end : c.loop-j.j ≡ n = omega (arith, sites, c.len-j-end.ensures, c.loop-j-test.false, c.loop-j.auto.j-end) in
    c.loop-j.invariant ∙ made_all _ c.args.marks.now.items n c.loop-j.j (c.requires.count ∙ sym sites) end
