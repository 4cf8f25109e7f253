use Rattle.std.proofs.Common.{rules, ◌≡◌, length, arith}
use Rattle.std.proofs.lemmas.List.{length-map}
use Rattle.hazard_core.specs.cell_core.View.{program_of, site_of}
use Rattle.pipe_core.proofs.Fitting.{new_of}
use Rattle.pipe_core.proofs.packet.Packet.new.Goals as goal

pub returns-clause-of : goal.returns-clause-of
returns-clause-of c =
    let p = program_of c.args.program.now in
    let count : c.len-count.result ≡ length p.sites = omega (arith, c.len-count.ensures, length-map c.args.program.now.sites.items site_of) in
    new_of p _ _ c.len-count.result c.in_ok-new.ensures count (c.in_ok-vec.ensures.items_if_clones_equal (λ y e. search rules))
