use Rattle.std.proofs.lemmas.List.{take-replicate}
use Rattle.xdp_maps.proofs.short.ShortBytes.zeros.Goals as goal

pub returns : goal.returns
returns c = take-replicate c.args.len 64 0 c.requires
