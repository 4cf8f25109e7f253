-- Whether an output is assigned, as a search of a list.
use Rattle.std.specs.Prelude.{◌≡◌, ℕ, ◌==◌, ◌||◌, List, [], ◌∷◌, map, take}
use Rattle.std.specs.List.{list_any}
use Rattle.std.proofs.Common.{refl, ap, ◌∙◌}
use Rattle.std.proofs.lemmas.List.{take-map}
use Rattle.net_core.specs.declared.design.Assign.{Assign}
use Rattle.net_core.specs.View.{assign_of}
use Rattle.net_core.specs.Width.{is_assigned}

pub is_assigned_any : (made : List Assign) (port : ℕ) → is_assigned (map assign_of made) port ≡ list_any (λ a. a.port == port) made
is_assigned_any [] port = refl
is_assigned_any (a ∷ rest) port = ap (λ b. (a.port == port) || b) (is_assigned_any rest port)

pub is_assigned_before : (made : List Assign) (k port : ℕ) → is_assigned (take k (map assign_of made)) port ≡ list_any (λ a. a.port == port) (take k made)
is_assigned_before made k port = ap (λ l. is_assigned l port) (take-map assign_of k made) ∙ is_assigned_any (take k made) port
