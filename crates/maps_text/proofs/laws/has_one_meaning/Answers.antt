use Rattle.std.proofs.Common.{◌≡◌, Result, Ok}
use Rattle.xdp_maps.specs.State.{MapState}
use Rattle.maps_text.specs.declared.error.MapsError.{MapsError}
use Rattle.maps_text.specs.Reading.{outcome}
use Rattle.maps_text.proofs.Texts.{text-outcome}
use Rattle.maps_text.proofs.laws.has_one_meaning.Goals as goal

one_result : (r : Result MapState MapsError) (s t : MapState) → r ≡ Ok s → r ≡ Ok t → s ≡ t
one_result r s t e f = cc

pub returns : goal.returns
returns c = λ decls text s t is other.
    one_result (outcome decls text) s t (text-outcome decls text s c.same_by_lookups.ensures is) (text-outcome decls text t c.same_by_lookups.ensures other)
