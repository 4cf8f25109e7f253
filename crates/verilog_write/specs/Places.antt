-- Where what is declared of a sort stands, in order.
use Rattle.std.specs.Prelude.{◌≡◌, ℕ, ◌+◌, ◌-◌, ◌<◌, ◌≤◌, Bool, List, length}
use Rattle.std.proofs.Common.{get_or}
use Rattle.net_core.specs.declared.design.Declared.{Declared}
use Rattle.net_core.specs.Names.{place_of}

-- the places of all that pass: a number past the last counts on after what is declared
pub record ArePlaces (p : Declared → Bool) (declared : List Declared) (places : List ℕ) : Type 0 where
  pub listed : (k : ℕ) → k < length places → get_or places k 0 ≡ place_of p declared k
  pub past : (k : ℕ) → length places ≤ k → length declared + (k - length places) ≡ place_of p declared k
