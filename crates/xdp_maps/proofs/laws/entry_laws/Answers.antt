use Rattle.std.proofs.Common.{◌≡◌, Some, None, refl}
use Rattle.std.specs.Option.{option_map}
use Rattle.std.specs.FinMap as map
use Rattle.xdp_maps.specs.Calls.{with_value}
use Rattle.xdp_maps.proofs.Over.{same_insert, other_insert}
use Rattle.xdp_maps.proofs.laws.entry_laws.Goals as goal

pub returns : goal.returns
returns c m key f = record {
  same_key = elim (map.get m key) as (λ o. map.get m key ≡ o → map.get (with_value m key f o) key ≡ option_map f o) [
    | None ↦ λ is. is
    | Some v ↦ λ is. same_insert m key (f v)
  ] refl;
  other_keys = λ q differ. elim (map.get m key) as (λ o. map.get (with_value m key f o) q ≡ map.get m q) [
    | None ↦ refl
    | Some v ↦ other_insert m key (f v) q differ
  ];
}
