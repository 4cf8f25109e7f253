use Rattle.std.specs.declared.alloc.Global.{Global}
use Rattle.std.specs.declared.vec.Vec.{Vec}
use Rattle.std.proofs.Common.{◌≡◌, ℕ, ◌<◌, length, get_or}
use Rattle.block_core.specs.declared.name.Name.{Name}
use Rattle.read_net.specs.declared.sites.OwnSite.{OwnSite}
use Rattle.pipe_net.specs.declared.parts.Part.{Part}
use Rattle.pipe_parts.specs.TurnParts.Sites.{AreOwnOf}
use Rattle.pipe_parts.proofs.turn_parts.sites.own_lists.Given as goal

abbrev pub invariant-loop-m : goal.invariant-loop-m
invariant-loop-m l = record {
  count : length l.lists.items ≡ l.m;
  each : (m : ℕ) (r : Vec (OwnSite (Name Part)) Global) → m < l.m → AreOwnOf l.pipeline_plan l.at m (get_or l.lists.items m r).items;
}
