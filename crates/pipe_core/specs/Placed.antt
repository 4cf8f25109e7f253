-- What holds of the packets in their places.
use Rattle.std.specs.Prelude.{ℕ, suc, Option, Some, None, List, [], ◌∷◌}
use Rattle.std.proofs.Common.{get_or}
use Rattle.realization.specs.beat_core.Ports.{Arrival}
use Rattle.pipe_core.specs.Machine.{Packet, no_frame, inside}

-- Something holds of each packet, by its place and its frame, from place k on. The frame stands after those of the older packets.
abbrev pub Placed : (ℕ → Arrival → Packet → Type 0) → List Arrival → ℕ → List (Option Packet) → Type 0
Placed P frames k [] = Unit {0}
Placed P frames k (None ∷ xs) = Placed P frames (suc k) xs
Placed P frames k (Some x ∷ xs) = P k (get_or frames (inside xs) no_frame) x × Placed P frames (suc k) xs
