-- What is stored, in as many words.
use Rattle.std.specs.Prelude.{◌≡◌, ℕ, ◌<◌, [], length}
use Rattle.std.proofs.Common.{get_or}
use Rattle.net_core.specs.Clock.{Stored}

pub record HaveOneShape (a b : Stored) : Type 0 where
  pub registers : length a.registers ≡ length b.registers
  pub memories : length a.memories ≡ length b.memories
  pub memory : (m : ℕ) → m < length a.memories → length (get_or a.memories m []) ≡ length (get_or b.memories m [])
