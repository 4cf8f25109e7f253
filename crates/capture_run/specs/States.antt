-- The state of a shelf and of a sink, and how they may change.
use Rattle.std.specs.Prelude.{◌≡◌, ◌≢◌, ◌⊎◌, ℕ, ◌≤◌, Bool, List, [], ◌∷◌, Option}
use Rattle.shelf_core.specs.Shelf.{Holding, Counts, NoneFell, Rose}
use Rattle.shelf_core.specs.declared.outside.Shelf as shelf
use Rattle.shelf_core.specs.declared.outside.Sink as sink

-- ---- shelves
-- whether a shelf tells what it holds, what its names hold, and how often reading and writing them have failed
pub record ShelfState : Type 0 where
  pub tells : Bool
  pub held : Holding
  pub read_faults : Counts
  pub write_faults : Counts

abbrev pub state_of : {S : Type 0} → shelf.Ghosts S → S → ShelfState
state_of g s = record { tells = g.tells s; held = g.held s; read_faults = g.read_faults s; write_faults = g.write_faults s }

-- a name is none of these
abbrev pub IsOther : List (List ℕ) → List ℕ → Type 0
IsOther [] other = Unit {0}
IsOther (name ∷ rest) other = (other ≢ name) × IsOther rest other

-- a later state of a shelf: it tells what it holds where it did, and no count fell
pub record IsLater (old new : ShelfState) : Type 0 where
  pub tells : new.tells ≡ old.tells
  pub reads : NoneFell old.read_faults new.read_faults
  pub writes : NoneFell old.write_faults new.write_faults

-- a later state, in which no name but these has changed
pub record Changes (names : List (List ℕ)) (old new : ShelfState) : Type 0 where
  pub later : IsLater old new
  pub others : (other : List ℕ) → IsOther names other → new.held other ≡ old.held other

-- a count of one of these names has risen
abbrev pub OneRose : List (List ℕ) → Counts → Counts → Type 0
OneRose [] old new = ⊥
OneRose (name ∷ rest) old new = Rose (old name) (new name) ⊎ OneRose rest old new

-- ---- sinks
-- whether a sink tells what it has taken, what that is, and how often putting has failed
pub record SinkState : Type 0 where
  pub tells : Bool
  pub taken : Option (List ℕ)
  pub faults : ℕ

abbrev pub sink_of : {O : Type 0} → sink.Ghosts O → O → SinkState
sink_of g o = record { tells = g.tells o; taken = g.taken o; faults = g.faults o }

-- a later state of a sink: it tells what it has taken where it did, and its count has not fallen
pub record IsLaterSink (old new : SinkState) : Type 0 where
  pub tells : new.tells ≡ old.tells
  pub faults : old.faults ≤ new.faults
