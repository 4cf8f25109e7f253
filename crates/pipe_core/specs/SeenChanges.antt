-- What packets have seen of the maps: beside a trace, by place, the changes since the packet was injected, and the tables that it is to have read.
use Rattle.std.specs.Prelude.{ℕ, zero, suc, nat_lt, if◌then◌else◌, Option, Some, None, List, [], ◌∷◌}
use Rattle.hazard_core.specs.xdp_maps.State.{MapState}
use Rattle.hazard_core.specs.cell_core.Sites.{ProgramView}
use Rattle.hazard_core.specs.Tables.{TableState, tables_of}
use Rattle.hazard_core.specs.StageValues.{StageValues}
use Rattle.hazard_core.specs.Rows.{nothing_held}
use Rattle.hazard_core.specs.declared.change.Change.{Change}
use Rattle.hazard_core.specs.Commits.{committed, change_by, host_written, host_change}
use Rattle.pipe_core.specs.Machine.{Packet, State, Input, Build, Action, Commits, Writes, Moves, place_at, flushed, action_of}
use Rattle.pipe_core.specs.History.{Trace, next, begin}

-- a change, the place of the packet that saw it, and what the packet held then
pub record Seen : Type 0 where
  pub place : ℕ
  pub held : StageValues
  pub change : Change

-- By place: what its packet has seen since it was injected; and the tables that it agrees with, which up to the commit place are those of now,
-- and from there on those that its own operations began with.
pub record SeenChanges : Type 0 where
  pub trace : Trace
  pub seen : ℕ → List Seen
  pub views : ℕ → TableState

abbrev pub held_in : ProgramView → Option Packet → StageValues
held_in p None = nothing_held p
held_in p (Some x) = x.held

-- the packets below a place see a change
abbrev pub sees : Build → List (Option Packet) → ℕ → Change → (ℕ → List Seen) → ℕ → List Seen
sees b rest to e seen k = if nat_lt k to then (record { place = k; held = held_in b.program (place_at rest k); change = e }) ∷ seen k else seen k

-- each packet one place on, and one that has seen nothing into the first
abbrev pub seen_on : (ℕ → List Seen) → ℕ → List Seen
seen_on seen zero = []
seen_on seen (suc k) = seen k

abbrev pub seen_after : Build → State → List (Option Packet) → Action → (ℕ → List Seen) → ℕ → List Seen
seen_after b s rest (Commits j x) seen = sees b rest b.plan.commit (change_by b.program s.tables s.taken x.held j) seen
seen_after b s rest (Writes a n) seen = sees b rest (suc b.plan.commit) (host_change s.tables a) seen
seen_after b s rest Moves seen = seen_on seen

-- the tables of the places below one become these
abbrev pub views_below : ℕ → TableState → (ℕ → TableState) → ℕ → TableState
views_below to t views k = if nat_lt k to then t else views k

-- each packet one place on: up to the commit place it reads the tables as they are
abbrev pub views_on : ℕ → TableState → (ℕ → TableState) → ℕ → TableState
views_on commit t views zero = t
views_on commit t views (suc k) = if nat_lt k commit then t else views k

abbrev pub views_after : Build → State → Action → (ℕ → TableState) → ℕ → TableState
views_after b s (Commits j x) views = views_below b.plan.commit (committed b.program s.tables s.taken x.held j) views
views_after b s (Writes a n) views = views_below (suc b.plan.commit) (host_written s.tables a n) views
views_after b s Moves views = views_on b.plan.commit s.tables views

abbrev pub rest_of : Build → State → List (Option Packet)
rest_of b s = flushed b 0 s.places

abbrev pub action_in : Build → Input → State → Action
action_in b i s = action_of b i s (rest_of b s)

-- a clock more
unfoldable pub observed : Build → Input → SeenChanges → SeenChanges
observed b i w =
    let s = w.trace.state in
    record {
      trace = next b i w.trace;
      seen = seen_after b s (rest_of b s) (action_in b i s) w.seen;
      views = views_after b s (action_in b i s) w.views;
    }

abbrev pub watch : Build → List Input → SeenChanges → SeenChanges
watch b [] w = w
watch b (i ∷ is) w = watch b is (observed b i w)

-- before the first clock
abbrev pub watch_start : Build → MapState → SeenChanges
watch_start b maps = record { trace = begin b maps; seen = λ k. []; views = λ k. tables_of maps }
