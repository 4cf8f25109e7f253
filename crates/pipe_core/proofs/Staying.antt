-- What gathers frames and scatters answers leaves the tables as they are.
use Rattle.std.proofs.Common.{◌≡◌, Bool, true, false, [], ◌∷◌, ◌++◌, Option, Some, None, drop, suc, refl}
use Rattle.std.specs.Prelude.{if◌then◌else◌}
use Rattle.realization.specs.beat_core.declared.beat.Beat.{Beat}
use Rattle.pipe_core.specs.Machine.{State, Input, came_with, gathered, scattered}

pub gathered_tables : (s : State) (i : Input) (e : Option Beat) → (gathered s i e).tables ≡ s.tables
gathered_tables s i None = refl
gathered_tables s i (Some x) = by x.last
  where
    by : (l : Bool) → (let t : State = (if l then record s { frames = s.frames ++ came_with s.part i x ∷ []; part = None } else record s { part = Some (came_with s.part i x) }) in t.tables ≡ s.tables)
    by true = refl
    by false = refl

pub scattered_tables : (s : State) (e : Option Beat) → (scattered s e).tables ≡ s.tables
scattered_tables s None = refl
scattered_tables s (Some x) = by x.last
  where
    by : (l : Bool) → (let t : State = (if l then record s { answers = drop 1 s.answers; pos = 0 } else record s { pos = suc s.pos }) in t.tables ≡ s.tables)
    by true = refl
    by false = refl
