use Rattle.std.proofs.Common.{◌∙◌, ap, codes, nat_eq}
use Rattle.std.specs.List.{starts_with}
use Rattle.xdp_object.proofs.Strings.{front_read, xdp_letters}
use Rattle.xdp_object.proofs.text.begins_with_xdp.Goals as goal

pub returns : goal.returns
returns c =
    c.starts_with.ensures.value ∙ ap (λ ys. starts_with nat_eq ys (codes "xdp")) c.from_place.ensures
    ∙ front_read c.args.table.now (codes "xdp") c.args.at xdp_letters c.requires
