-- What has gone over at the ports of a design, as frames that came and answers that were given.
use Rattle.std.specs.Prelude.{ℕ, List, [], ◌∷◌, ◌++◌, Option, Some, None, map, if◌then◌else◌}
use Rattle.beat_core.specs.declared.beat.Beat.{Beat}
use Rattle.beat_core.specs.declared.frame.Timed.{Timed}
use Rattle.beat_core.specs.declared.answer.Answer.{Answer}
use Rattle.beat_core.specs.Beats.{bytes_of_beat, beats_of}

-- a beat that went over inwards, and the interface number and the time beside it
pub record Offered : Type 0 where
  pub beat : Beat
  pub ifindex : ℕ
  pub time : ℕ

abbrev pub offered : ℕ → ℕ → Beat → Offered
offered ifindex time b = record { beat = b; ifindex = ifindex; time = time }

-- the beats of a frame, each beside its time
abbrev pub offers_of : ℕ → Timed → List Offered
offers_of ifindex p = map (offered ifindex p.time) (beats_of p.frame)

-- a frame that came whole, or so far, with the interface number and the time of its first beat
pub record Arrival : Type 0 where
  pub ifindex : ℕ
  pub time : ℕ
  pub frame : List ℕ

-- what has come of a frame after one more beat: before the first beat there is none
abbrev pub arrived : Option Arrival → Offered → Arrival
arrived None o = record { ifindex = o.ifindex; time = o.time; frame = bytes_of_beat o.beat }
arrived (Some a) o = record a { frame = a.frame ++ bytes_of_beat o.beat }

-- the frames that came whole, the first of them begun before
abbrev pub arrivals_among : Option Arrival → List Offered → List Arrival
arrivals_among so_far [] = []
arrivals_among so_far (o ∷ os) =
    if o.beat.last then arrived so_far o ∷ arrivals_among None os else arrivals_among (Some (arrived so_far o)) os

-- a beat that went over outwards, with the verdict and the target beside it
pub record Given : Type 0 where
  pub beat : Beat
  pub verdict : ℕ
  pub target : ℕ

abbrev pub given : ℕ → ℕ → Beat → Given
given verdict target b = record { beat = b; verdict = verdict; target = target }

-- The answers that were given whole, each with the verdict and the target of its last beat. Of the first
-- some bytes were given before.
abbrev pub answers_among : List ℕ → List Given → List Answer
answers_among so_far [] = []
answers_among so_far (g ∷ gs) =
    if g.beat.last then record { verdict = g.verdict; target = g.target; frame = so_far ++ bytes_of_beat g.beat } ∷ answers_among [] gs else answers_among (so_far ++ bytes_of_beat g.beat) gs
