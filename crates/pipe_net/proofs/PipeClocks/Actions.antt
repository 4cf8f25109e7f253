-- Whose operation a clock commits.
use Rattle.std.specs.Prelude.{◌≡◌, ℕ, zero, suc, Option, Some, None, List, [], ◌∷◌}
use Rattle.std.proofs.Common.{ap, arith}
use Rattle.hazard_core.specs.declared.access.Access.{Access}
use Rattle.pipe_core.specs.Machine.{Packet, State, Build, Commits, place_at, inside, commits_as, commits_or_moves, action_as}

pub none_some : {X Y : Type 0} (x : X) → None ≡ Some x → Y
none_some x e = cc

-- none stands where there is none
pub none_at : (xs : List (Option Packet)) (k : ℕ) (x : Packet) → inside xs ≡ 0 → place_at xs k ≡ Some x → ⊥
none_at [] k x z e = none_some x e
none_at (None ∷ xs) zero x z e = none_some x e
none_at (None ∷ xs) (suc k) x z e = none_at xs k x z e
none_at (Some y ∷ xs) k x z e = absurd (omega (arith, z))

-- the packet of an operation that commits is the one at the commit place
module _ (b : Build) (s : State) (rest : List (Option Packet)) (j : ℕ) (x : Packet) where
  chosen_of : (y : Packet) (o : Option ℕ) → commits_as y o ≡ Commits j x → y ≡ x
  chosen_of y None e = cc
  chosen_of y (Some k) e = cc

  committer : (p : Option Packet) → commits_or_moves b s p ≡ Commits j x → p ≡ Some x
  committer None e = cc
  committer (Some y) e = ap Some (chosen_of y _ e)

  pub commits_at : (o : Option (Access × ℕ)) → action_as b s rest o ≡ Commits j x → place_at rest b.plan.commit ≡ Some x
  commits_at (Some w) e = cc
  commits_at None e = committer (place_at rest b.plan.commit) e
