-- What a clock leaves: an action leaves the frame that is coming in, and beats leave the tables and what is committed.
use Rattle.std.proofs.Common.{◌≡◌, suc, Bool, true, false, List, [], ◌∷◌, ◌++◌, Option, Some, None, drop, refl, ◌∙◌}
use Rattle.std.specs.Prelude.{if◌then◌else◌}
use Rattle.realization.specs.beat_core.declared.beat.Beat.{Beat}
use Rattle.realization.specs.beat_core.Ports.{Arrival}
use Rattle.pipe_core.specs.Machine.{Packet, State, Input, Build, Action, Commits, Writes, Moves, worked, work, came_with, gathered, scattered, beat_over, taken_beat, clock}

-- ---- the frame that is coming in
pub worked_part : (b : Build) (s : State) (back : Bool) (rest : List (Option Packet)) (u : Action) → (worked b s back rest u).part ≡ s.part
worked_part b s back rest (Commits j x) = refl
worked_part b s back rest (Writes a n) = refl
worked_part b s back rest Moves = refl

-- after a beat
abbrev pub part_after : Option Arrival → Input → Option Beat → Option Arrival
part_after part i None = part
part_after part i (Some x) = if x.last then None else Some (came_with part i x)

-- ---- beats leave the tables and what is committed
pub record Aside (w c : State) : Type 0 where
  pub tables : c.tables ≡ w.tables
  pub done : c.done ≡ w.done
  pub taken : c.taken ≡ w.taken

gathered_aside : (s : State) (i : Input) (e : Option Beat) → Aside s (gathered s i e)
gathered_aside s i None = record { tables = refl; done = refl; taken = refl }
gathered_aside s i (Some x) = by x.last
  where
    by : (l : Bool) → Aside s (if l then record s { frames = s.frames ++ came_with s.part i x ∷ []; part = None } else record s { part = Some (came_with s.part i x) })
    by true = record { tables = refl; done = refl; taken = refl }
    by false = record { tables = refl; done = refl; taken = refl }

scattered_aside : (s : State) (e : Option Beat) → Aside s (scattered s e)
scattered_aside s None = record { tables = refl; done = refl; taken = refl }
scattered_aside s (Some x) = by x.last
  where
    by : (l : Bool) → Aside s (if l then record s { answers = drop 1 s.answers; pos = 0 } else record s { pos = suc s.pos })
    by true = record { tables = refl; done = refl; taken = refl }
    by false = record { tables = refl; done = refl; taken = refl }

pub clock_aside : (b : Build) (i : Input) (s : State) → Aside (work b i s) (clock b i s)
unfolding clock
clock_aside b i s =
    let w = work b i s in
    let g = gathered w i (beat_over b s i) in
    let p = gathered_aside w i (beat_over b s i) in
    let q = scattered_aside g (taken_beat s i) in
    record { tables = q.tables ∙ p.tables; done = q.done ∙ p.done; taken = q.taken ∙ p.taken }
