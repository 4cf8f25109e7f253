use Rattle.std.proofs.Common.{◌∙◌, ap, arith, length}
use Rattle.xdp_object.proofs.Places.{length-places_of}
use Rattle.xdp_object.proofs.relocations.known_places.Goals as goal

pub check_places-requires : goal.check_places-requires
check_places-requires c =
    ap length (c.deref.ensures.value ∙ c.in_ok-places.ensures) ∙ length-places_of c.args.view.now c.args.function.now ∙ omega arith
