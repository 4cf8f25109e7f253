use Rattle.std.proofs.Common.{◌≡◌, ℕ, ◌<◌, All, length, get_or}
use Rattle.overlay_net.specs.cell_core.Sites.{ProgramView}
use Rattle.pipe_core.specs.hazard_core.StageValues.{StageValues}
use Rattle.pipe_core.specs.hazard_core.Tables.{TableState}
use Rattle.overlay_net.specs.cell_nets.Wires.{wires_of}
use Rattle.overlay_net.specs.declared.site_operands.Pending.{Pending}
use Rattle.overlay_net.specs.Seen.{IsSeen}
use Rattle.read_net.specs.declared.sites.OwnSite.{OwnSite}
use Rattle.read_net.specs.Sites.{IsOwn, IsMapOf, IsSeenOf}
use Rattle.read_net.proofs.PendingLemmas.{Far}
use Rattle.read_net.proofs.pendings.pendings.Given as goal

abbrev pub invariant-loop-own : goal.invariant-loop-own
invariant-loop-own g l = record {
  count : length l.all.items ≡ l.own-index;
  seen : All (IsSeen l.map.decl.now.key l.map.bits) l.all.items;
  of : (n : ℕ) (s : OwnSite _) (d : Pending _) → n < l.own-index → IsSeenOf (get_or l.earlier n s) (get_or l.all.items n d);
  stands : (p : ProgramView) (t : TableState) (h : StageValues) (m : ℕ) → All (IsOwn p m) l.earlier → IsMapOf t m l.map.decl.now → Far l.part l.map l.earlier p t h m (wires_of l.fn.wires.items) (wires_of l.wires.items) l.all.items l.own-index;
}
