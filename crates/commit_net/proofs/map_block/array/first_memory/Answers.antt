use Rattle.std.proofs.Common.{sym, ap}
use Rattle.overlay_net.specs.xdp_maps.declared.decl.MapKind.{MapKind}
use Rattle.commit_net.specs.MapBlock.Stored.{first_value_as}
use Rattle.commit_net.proofs.map_block.array.first_memory.Goals as goal

pub returns : goal.returns
returns c = sym (ap (λ (k : MapKind). first_value_as k c.args.form.now.decl) c.requires)
