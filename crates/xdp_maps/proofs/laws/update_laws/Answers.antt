use Rattle.std.proofs.Common.{◌≡◌, Some, None, refl, ap, ◌∙◌}
use Rattle.std.specs.FinMap as map
use Rattle.xdp_maps.specs.Calls.{update_error, unless}
use Rattle.xdp_maps.proofs.Over.{same_insert, other_insert}
use Rattle.xdp_maps.proofs.Refusals.{update_taken, unless_refused}
use Rattle.xdp_maps.proofs.laws.update_laws.Goals as goal

pub returns : goal.returns
returns c d m key value flags = record {
  same_key = λ zero. ap (λ e. map.get (unless e m (map.insert m key value)) key) (update_taken d m key flags zero) ∙ same_insert m key value;
  other_keys = λ q differ. elim (update_error d m key flags) as (λ e. map.get (unless e m (map.insert m key value)) q ≡ map.get m q) [
    | None ↦ other_insert m key value q differ
    | Some e ↦ refl
  ];
  refused = λ refused. unless_refused (update_error d m key flags) m (map.insert m key value) refused;
}
