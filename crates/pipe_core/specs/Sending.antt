-- Who is sent back in a clock.
use Rattle.std.specs.Prelude.{◌≡◌, ℕ, ◌<◌, ◌≤◌, true, Option, None, List, length}
use Rattle.realization.specs.beat_core.Ports.{Arrival}
use Rattle.pipe_core.specs.Machine.{Packet, Build, place_at, sends, some_send, flushed, newcomer}

-- A place at or past place k sends back: it holds a packet with a mark whose guard is known as 1, and lies not past the commit place.
pub record SentBack (b : Build) (places : List (Option Packet)) (k : ℕ) : Type 0 where
  pub at : ℕ
  pub further : k ≤ at
  pub inside : at < length places
  pub sends_back : sends b at (place_at places at) ≡ true

-- Just then place k is emptied; otherwise it keeps its packet. And where one is sent back, none is injected.
pub record SendsBack (b : Build) (places : List (Option Packet)) : Type 0 where
  pub sent : (k : ℕ) → k < length places → SentBack b places k → place_at (flushed b 0 places) k ≡ None
  pub kept : (k : ℕ) → k < length places → (SentBack b places k → ⊥) → place_at (flushed b 0 places) k ≡ place_at places k
  pub none_injected : SentBack b places 0 → (frames : List Arrival) (rest : List (Option Packet)) → newcomer b (some_send b 0 places) frames rest ≡ None

abbrev pub AlwaysSendsBack : Type 0
AlwaysSendsBack = (b : Build) (places : List (Option Packet)) → SendsBack b places
