-- What a program in memory stands for.
use Rattle.std.specs.Prelude.{map as map_list}
use Rattle.xdp_state.specs.xdp_machine.State as machine
use Rattle.cell_core.specs.declared.cell.Cell.{Cell}
use Rattle.cell_core.specs.declared.site.Site.{Site}
use Rattle.cell_core.specs.declared.program.PacketIn.{PacketIn}
use Rattle.cell_core.specs.declared.program.CellProgram.{CellProgram}
use Rattle.cell_core.specs.Cells.{CellView}
use Rattle.cell_core.specs.Sites.{SiteView, ProgramView}

abbrev pub cell_of : Cell → CellView
cell_of c = record { op = c.op; ins = c.ins.items; width = c.width; from = c.from }

abbrev pub site_of : Site → SiteView
site_of s = record { node = s.node; map = s.map; guard = s.guard; act = s.act; key = s.key.items; operands = s.operands.items }

abbrev pub program_of : CellProgram → ProgramView
program_of p = record {
  cells = map_list cell_of p.cells.items;
  nodes = p.nodes.items;
  sites = map_list site_of p.sites.items;
  verdict = p.verdict;
  target = p.target;
  frame = p.frame.items;
}

abbrev pub packet_of : PacketIn → machine.PacketIn
packet_of packet = record { frame = packet.frame; ifindex = packet.ifindex; time = packet.time }
