use Rattle.std.proofs.Common.{◌≡◌, Some, None, refl, ap, ◌∙◌}
use Rattle.std.specs.FinMap as map
use Rattle.xdp_maps.specs.Calls.{delete_error, unless}
use Rattle.xdp_maps.proofs.Over.{same_remove, other_remove}
use Rattle.xdp_maps.proofs.Refusals.{delete_taken, unless_refused}
use Rattle.xdp_maps.proofs.laws.delete_laws.Goals as goal

pub returns : goal.returns
returns c d m key = record {
  same_key = λ zero. ap (λ e. map.get (unless e m (map.remove m key)) key) (delete_taken d m key zero) ∙ same_remove m key;
  other_keys = λ q differ. elim (delete_error d m key) as (λ e. map.get (unless e m (map.remove m key)) q ≡ map.get m q) [
    | None ↦ other_remove m key q differ
    | Some e ↦ refl
  ];
  refused = λ refused. unless_refused (delete_error d m key) m (map.remove m key) refused;
}
