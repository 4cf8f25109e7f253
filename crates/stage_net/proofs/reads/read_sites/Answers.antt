use Rattle.std.proofs.Common.{◌≡◌, ◌+◌, length, slice_index, subst, arith, map as map_list}
use Rattle.std.proofs.lemmas.List.{length-map}
use Rattle.hazard_core.specs.cell_core.View.{program_of, site_of}
use Rattle.overlay_net.specs.cell_nets.Wires.{wires_of}
use Rattle.stage_net.specs.Rows.{AreRead}
use Rattle.stage_net.proofs.RowLemmas.{none_read, read_then}
use Rattle.stage_net.proofs.reads.read_sites.Goals as goal

pub read_site-requires-clause-table : goal.read_site-requires-clause-table
read_site-requires-clause-table g c = c.loop-j.invariant.cells_are

pub read_site-requires-clause-pointers : goal.read_site-requires-clause-pointers
read_site-requires-clause-pointers g c = c.loop-j.invariant.pointers_are

pub loop-j-init : goal.loop-j-init
loop-j-init g c = none_read c.args.part (program_of c.args.at.now.program.now) (slice_index c.args.at.now.rows.now) c.args.at.now.row c.args.nets.now c.args.slots.now 0 0 (wires_of c.args.wires.now.items) c.args.table.now.items c.args.pointers.now.items c.requires.table c.requires.pointers (λ k j l e o a b. omega arith)

pub loop-j-preserved : goal.loop-j-preserved
loop-j-preserved g c =
    read_then c.args.part (program_of c.args.at.now.program.now) (slice_index c.args.at.now.rows.now) c.args.at.now.row c.args.nets.now c.args.slots.now 0 c.loop-j.j (c.loop-j.j + 1) (wires_of c.args.wires.now.items) (wires_of c.loop-j.wires.items) (wires_of c.read_site.new.wires.items) c.args.table.now.items c.loop-j.table.items
    c.read_site.new.table.items c.args.pointers.now.items c.loop-j.pointers.items c.read_site.new.pointers.items c.loop-j.invariant c.in_ok-read_site.ensures

pub returns : goal.returns
returns g c =
    let e : c.loop-j.j ≡ length (map_list site_of c.args.at.now.program.now.sites.items) = omega (arith, c.loop-j-test.false, c.loop-j.auto.j-end, c.len-j-end.ensures, length-map c.args.at.now.program.now.sites.items site_of) in
    subst
    (λ n. AreRead c.args.part (program_of c.args.at.now.program.now) (slice_index c.args.at.now.rows.now) c.args.at.now.row c.args.nets.now c.args.slots.now 0 n (wires_of c.args.wires.now.items) (wires_of c.loop-j.wires.items) c.args.table.now.items c.loop-j.table.items c.args.pointers.now.items c.loop-j.pointers.items) e
    c.loop-j.invariant
