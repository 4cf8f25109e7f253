use Rattle.std.proofs.Common.{sym, ap, ◌∙◌}
use Rattle.std.specs.Prelude.{nat_lt}
use Rattle.xdp_maps.specs.Contents.{index_of}
use Rattle.maps_text.specs.Reading.{has_key_as}
use Rattle.maps_text.proofs.listed.has_key.Goals as goal

pub returns-in-Array : goal.returns-in-Array
unfolding index_of
returns-in-Array c =
    ap (λ i. nat_lt i c.args.decl.now.cap) c.read_u32.ensures ∙ ap (λ k. has_key_as k c.args.decl.now.cap c.args.key.now) (sym c.in-Array.is)
