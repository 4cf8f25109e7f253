-- Operations that fit the values of a map.
use Rattle.std.specs.Prelude.{length}
use Rattle.overlay_net.specs.xdp_maps.declared.decl.MapDecl.{MapDecl}
use Rattle.overlay_net.specs.cell_core.Formed.{HasWords, IsInside}
use Rattle.overlay_net.specs.ValueNet.Words.{IsAligned}
use Rattle.commit_net.specs.declared.choosing.CommitNets.{CommitNets}

-- an access is aligned and inside a value, and there are words enough
pub record IsFitting {N : Type 0} (d : MapDecl) (n : CommitNets N) : Type 0 where
  pub aligned : IsAligned n.act
  pub words : HasWords d.value n.act (length n.nets.now.operands.items)
  pub inside : IsInside d.value n.act
