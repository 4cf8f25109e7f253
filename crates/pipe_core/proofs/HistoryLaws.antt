-- Beats in front of others, and as many answers as frames.
use Rattle.std.proofs.Common.{◌≡◌, suc, ◌≤◌, List, [], ◌∷◌, ◌++◌, Option, Some, None, length, refl, ap, arith}
use Rattle.realization.specs.beat_core.declared.beat.Beat.{Beat}
use Rattle.realization.specs.beat_core.Ports.{Arrival}
use Rattle.hazard_core.specs.cell_core.Sites.{ProgramView}
use Rattle.hazard_core.specs.StageValues.{StageValues}
use Rattle.pipe_core.specs.History.{answers_of}
use Rattle.pipe_core.specs.Drive.{ahead}

pub ahead_append : (o : Option Beat) (xs ys : List Beat) → ahead o xs ++ ys ≡ ahead o (xs ++ ys)
ahead_append None xs ys = refl
ahead_append (Some x) xs ys = refl

pub answers_length : (p : ProgramView) (hs : List StageValues) (cs : List Arrival) → length hs ≤ length cs → length (answers_of p hs cs) ≡ length hs
answers_length p [] cs h = refl
answers_length p (x ∷ hs) [] h = absurd (omega arith)
answers_length p (x ∷ hs) (c ∷ cs) h = ap suc (answers_length p hs cs (omega arith))
