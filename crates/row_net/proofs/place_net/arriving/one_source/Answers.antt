use Rattle.std.proofs.Common.{[], refl}
use Rattle.overlay_net.specs.cell_core.Cells.{number, bits_from}
use Rattle.cell_nets.specs.Wires.{wires_of}
use Rattle.row_net.specs.PlaceNet.Sources.{packet_in, source_operands, IsShownIn}
use Rattle.row_net.specs.PlaceNet.SourceNets.{number_width}
use Rattle.row_net.proofs.PlaceNet.SourceLemmas.{gives_bits}
use Rattle.row_net.proofs.place_net.arriving.one_source.Goals as goal

pub cut-requires-clause-operand : goal.cut-requires-clause-operand
cut-requires-clause-operand g c = (c.in_ok-number.ensures (record { ifindex = 0; time = 0; frame = [] })).operand

pub returns : goal.returns
returns g c = λ a.
    let s = c.args.sources in
    let list = c.args.kept.now in
    let cell = c.args.cell.now in
    gives_bits c.args.part (wires_of c.args.wires.now.items) (wires_of c.number.new.wires.items) (wires_of c.cut.new.wires.items) (source_operands s list) (λ v. IsShownIn s list v a) (λ v. number (packet_in a) cell.op [])
    (λ v. bits_from (number (packet_in a) cell.op []) cell.from cell.width) (number_width cell.op) cell.width cell.from c.in_ok-number.number c.in_ok-out.out (c.in_ok-number.ensures a) c.in_ok-out.ensures (λ v h. refl)
