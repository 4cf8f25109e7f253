use Rattle.std.proofs.Common.{◌≡◌, All, List, length}
use Rattle.overlay_net.specs.xdp_maps.declared.decl.MapDecl.{MapDecl}
use Rattle.overlay_net.specs.cell_core.Sites.{ProgramView}
use Rattle.overlay_net.specs.cell_nets.Wires.{wires_of}
use Rattle.read_net.specs.MarkNet.Sites.{AreMarkSites}
use Rattle.read_net.specs.MarkNet.Marks.{IsBit}
use Rattle.read_net.proofs.MarkNet.GatherLemmas.{AreNext}
use Rattle.read_net.proofs.mark_net.marks.next_marks.Given as goal

abbrev pub invariant-loop-site : goal.invariant-loop-site
invariant-loop-site g l = record {
  count : length l.all.items ≡ l.site-index;
  bits : All IsBit l.all.items;
  stand : (p : ProgramView) (decls : List MapDecl) → AreMarkSites p decls l.sites → AreNext l.part l.advance p decls l.sites (wires_of l.fn.wires.items) (wires_of l.wires.items) l.site-index l.all.items;
}
