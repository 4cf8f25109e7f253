-- The first few of a list of resources are in it.
use Rattle.std.specs.Prelude.{Contains}
use Rattle.std.proofs.Common.{List, [], ◌∷◌, refl, arith}
use Rattle.xdp_maps.specs.Touched.{Resource}

pub first : (r : Resource) (rs : List Resource) → Contains (r ∷ rs) r
first r rs = (0, omega arith, refl)

pub second : (r s : Resource) (rs : List Resource) → Contains (r ∷ s ∷ rs) s
second r s rs = (1, omega arith, refl)

pub third : (r s t : Resource) → Contains (r ∷ s ∷ t ∷ []) t
third r s t = (2, omega arith, refl)
