-- One step of the search for the places of what is declared of a sort.
use Rattle.std.specs.Prelude.{◌≡◌, ℕ, ◌+◌, ◌-◌, ◌<◌, ◌≤◌, Bool, List, length, drop}
use Rattle.std.proofs.Common.{get_or}
use Rattle.net_core.specs.declared.design.Declared.{Declared}
use Rattle.net_core.specs.Names.{place_of}

-- the places of those before `i`, and how the search goes on for any other number
pub record AreFound (p : Declared → Bool) (xs : List Declared) (i : ℕ) (places : List ℕ) : Type 0 where
  pub listed : (k : ℕ) → k < length places → get_or places k 0 ≡ place_of p xs k
  pub past : (k : ℕ) → length places ≤ k → i + place_of p (drop i xs) (k - length places) ≡ place_of p xs k
