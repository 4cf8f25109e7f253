-- The host reads maps back.
use Rattle.std.specs.Prelude.{◌≡◌, ℕ, ◌<◌, ◌≤◌, true, length}
use Rattle.hazard_core.specs.xdp_maps.Contents.{IsBytes}
use Rattle.hazard_core.specs.xdp_maps.State.{IsSound}
use Rattle.hazard_core.specs.Tables.{TableState, decl_of, table_at, slot_at, maps_of}
use Rattle.hazard_core.specs.Tabled.{AreTables}
use Rattle.realization.specs.HostHistory.Host.{dump, dumped}
use Rattle.pipe_core.specs.Machine.{State, Build, is_idle, inside}
use Rattle.pipe_core.specs.HostRuns.Runs.{after, outputs, shown_words}

-- the value of a used slot has the length that its map declares
abbrev pub HoldValues : TableState → Type 0
HoldValues t = (m n : ℕ) → m < length t.decls → n < length (table_at t m) → (slot_at (table_at t m) n).used ≡ true → IsBytes (decl_of t.decls m).value (slot_at (table_at t m) n).value

-- So it is where the tables stand for maps that hold what their declarations allow.
abbrev pub HoldSoundValues : Type 0
HoldSoundValues = (t : TableState) → AreTables t → IsSound (maps_of t) → HoldValues t

-- While no frame is inside, and no packet, a dump shows what the maps hold, and leaves the tables as they are.
pub record IsDumped (b : Build) (s : State) : Type 0 where
  pub shown : dumped s.tables.decls (shown_words (outputs b (dump s.tables.decls) s)) ≡ (maps_of s.tables).contents
  pub stays : (after b (dump s.tables.decls) s).tables ≡ s.tables

abbrev pub DumpsMaps : Type 0
DumpsMaps = (b : Build) (s : State) → AreTables s.tables → HoldValues s.tables → is_idle s ≡ true → inside s.places ≤ length s.frames → IsDumped b s
