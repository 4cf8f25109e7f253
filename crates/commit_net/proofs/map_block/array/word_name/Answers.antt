use Rattle.std.proofs.Common.{◌∙◌, sym, ap}
use Rattle.overlay_net.specs.xdp_maps.declared.decl.MapKind.{MapKind}
use Rattle.commit_net.specs.MapBlock.Stored.{host_word_as}
use Rattle.commit_net.proofs.map_block.array.word_name.Goals as goal

pub returns : goal.returns
returns g c = c.value_name.ensures ∙ sym (ap (λ (k : MapKind). host_word_as k c.args.own) c.requires)
