-- What a clock of the machine makes of the frame that comes and of the answer that is given.
use Rattle.std.specs.Prelude.{◌≡◌, ℕ, suc, ◌*◌, ◌<◌, ◌≤◌, if◌then◌else◌, Bool, true, false, Option, Some, None, List, [], ◌∷◌, ◌++◌, length, drop, take}
use Rattle.std.specs.List.{AllByRecursion}
use Rattle.std.proofs.Common.{refl, sym, ap, ◌∙◌, subst, arith, append-nil, length-drop}
use Rattle.cell_core.specs.list_laws.Bytes.{IsBytes}
use Rattle.cell_core.specs.beat_core.declared.beat.Beat.{Beat}
use Rattle.cell_core.specs.beat_core.declared.answer.Answer.{Answer}
use Rattle.cell_core.specs.beat_core.Beats.{first_beat, beat_count, beats_of, frame_of, bytes_of_beat}
use Rattle.pipe_core.specs.net_core.declared.ports.Inputs.{Inputs}
use Rattle.pipe_core.specs.Machine.{Packet, State, Input, Build, Action, Commits, Writes, Moves, flushed, some_send, action_of, worked, work, beat_over, came_with, gathered, beat_at, taken_beat, scattered, first_answer, clock}
use Rattle.pipe_core.specs.HostRuns.Inputs.{input_of}
use Rattle.pipe_net.specs.Relation.{IsAt}
use Rattle.pipe_runs.specs.PipePorts.Ports.{begun}
use Rattle.pipe_runs.proofs.PipePorts.Beats.{take_beat, whole_beat, not_at_most}
use Rattle.pipe_runs.proofs.PipePorts.Ports.{part_by, begun_by}

record Keeps (s w : State) : Type 0 where
  pos : w.pos ≡ s.pos
  part : w.part ≡ s.part
  more : List Answer
  answers : w.answers ≡ s.answers ++ more

action_keeps : (b : Build) (s : State) (back : Bool) (rest : List (Option Packet)) (u : Action) → Keeps s (worked b s back rest u)
action_keeps b s back rest (Commits j x) = record { pos = refl; part = refl; more = []; answers = sym (append-nil s.answers) }
action_keeps b s back rest (Writes a n) = record { pos = refl; part = refl; more = []; answers = sym (append-nil s.answers) }
action_keeps b s back rest Moves = record { pos = refl; part = refl; more = _; answers = refl }

work_keeps : (b : Build) (i : Input) (s : State) → Keeps s (work b i s)
unfolding work
work_keeps b i s = action_keeps b s (some_send b 0 s.places) (flushed b 0 s.places) (action_of b i s (flushed b 0 s.places))

-- ---- beats inwards
record Gathers (i : Inputs) (o : Option Beat) (w g : State) : Type 0 where
  pos : g.pos ≡ w.pos
  answers : g.answers ≡ w.answers
  part : g.part ≡ part_by w.part i o

gathers : (w : State) (i : Inputs) (o : Option Beat) → Gathers i o w (gathered w (input_of i) o)
gathers w i None = record { pos = refl; answers = refl; part = refl }
gathers w i (Some x) = let r = by x.last in record { pos = r.0; answers = r.1; part = r.2 }
  where
    by : (last : Bool) →
        (let a = came_with w.part (input_of i) x in
        let g : State = (if last then record w { frames = w.frames ++ a ∷ []; part = None } else record w { part = Some a }) in
        (g.pos ≡ w.pos) × (g.answers ≡ w.answers) × (g.part ≡ (if last then None else Some a)))
    by true = (refl, refl, refl)
    by false = (refl, refl, refl)

-- ---- beats outwards
scattered_part : (g : State) (e : Option Beat) → (scattered g e).part ≡ g.part
scattered_part g None = refl
scattered_part g (Some x) = by x.last
  where
    by : (last : Bool) → (let c : State = (if last then record g { answers = drop 1 g.answers; pos = 0 } else record g { pos = suc g.pos }) in c.part ≡ g.part)
    by true = refl
    by false = refl

-- the first of these answers, if there is one, has the bytes of a frame
abbrev pub FirstIsBytes : List Answer → Type 0
FirstIsBytes [] = Unit {0}
FirstIsBytes (a ∷ more) = IsBytes a.frame

begins : (g : State) (old more : List Answer) (take' : Bool) → g.answers ≡ old ++ more → IsAt g.pos old → FirstIsBytes old →
    begun (scattered g (if take' then beat_at g.pos old else None)) ≡ begun_by (take g.pos (beats_of (first_answer old).frame)) (if take' then beat_at g.pos old else None)
begins g [] more true e at bytes = ap (λ n. take n (beats_of (first_answer g.answers).frame)) at ∙ sym (ap (λ n. take n (beats_of (first_answer []).frame)) at)
begins g [] more false e at bytes = ap (λ n. take n (beats_of (first_answer g.answers).frame)) at ∙ sym (ap (λ n. take n (beats_of (first_answer []).frame)) at)
begins g (a ∷ rest) more false e at bytes = ap (λ as'. take g.pos (beats_of (first_answer as').frame)) e
begins g (a ∷ rest) more true e at bytes = by x.last
  where
    x : Beat
    x = first_beat (drop (8 * g.pos) a.frame)

    by : (last : Bool) → begun (if last then record g { answers = drop 1 g.answers; pos = 0 } else record g { pos = suc g.pos }) ≡ (if last then [] else take g.pos (beats_of a.frame) ++ x ∷ [])
    by true = refl
    by false = ap (λ as'. take (suc g.pos) (beats_of (first_answer as').frame)) e ∙ take_beat g.pos a.frame at

-- the last beat of the first answer makes it whole
pub whole_then : (pos : ℕ) (old : List Answer) (take' : Bool) → IsAt pos old → FirstIsBytes old → (x : Beat) → (if take' then beat_at pos old else None) ≡ Some x → x.last ≡ true →
    frame_of (take pos (beats_of (first_answer old).frame)) ++ bytes_of_beat x ≡ (first_answer old).frame
whole_then pos [] true at bytes x e last = absurd cc
whole_then pos [] false at bytes x e last = absurd cc
whole_then pos (a ∷ rest) false at bytes x e last = absurd cc
whole_then pos (a ∷ rest) true at bytes x e last =
    let same : first_beat (drop (8 * pos) a.frame) ≡ x = some_same _ x e in
    subst (λ (y : Beat). frame_of (take pos (beats_of a.frame)) ++ bytes_of_beat y ≡ a.frame) same (whole_beat pos a.frame bytes at (ap (λ (y : Beat). y.last) same ∙ last))
  where
    some_same : (y x : Beat) → Some y ≡ Some x → y ≡ x
    some_same y x e = cc

-- ---- the place in the first answer
-- an answer has bytes
abbrev pub IsSome : Answer → Type 0
IsSome r = 1 ≤ length r.frame

some_at : (pos : ℕ) (answers : List Answer) → pos ≡ 0 → AllByRecursion IsSome answers → IsAt pos answers
some_at pos [] e h = e
some_at pos (r ∷ rest) e h = omega (arith, e, h.0)

goes_on : (pos : ℕ) (f : List ℕ) → pos < beat_count (length f) → (first_beat (drop (8 * pos) f)).last ≡ false → suc pos < beat_count (length f)
goes_on pos f at e = omega (arith, at, not_at_most (length (drop (8 * pos) f)) 8 e, length-drop (8 * pos) f)

at_then : (g : State) (old more : List Answer) (take' : Bool) → g.answers ≡ old ++ more → IsAt g.pos old → (let u = scattered g (if take' then beat_at g.pos old else None) in AllByRecursion IsSome u.answers → IsAt u.pos u.answers)
at_then g [] more true e at some = some_at g.pos g.answers at some
at_then g [] more false e at some = some_at g.pos g.answers at some
at_then g (a ∷ rest) more false e at some = subst (IsAt g.pos) (sym e) at
at_then g (a ∷ rest) more true e at some = by x.last refl some
  where
    x : Beat
    x = first_beat (drop (8 * g.pos) a.frame)

    by : (last : Bool) → x.last ≡ last → (let u : State = (if last then record g { answers = drop 1 g.answers; pos = 0 } else record g { pos = suc g.pos }) in AllByRecursion IsSome u.answers → IsAt u.pos u.answers)
    by true q some = some_at 0 (drop 1 g.answers) refl some
    by false q some = subst (IsAt (suc g.pos)) (sym e) (goes_on g.pos a.frame at q)

-- ---- the whole clock
pub record Ticks (b : Build) (s : State) (i : Inputs) : Type 0 where
  pub part : (clock b (input_of i) s).part ≡ part_by s.part i (beat_over b s (input_of i))
  pub begun : begun (clock b (input_of i) s) ≡ begun_by (begun s) (taken_beat s (input_of i))

module _ (b : Build) (s : State) (i : Inputs) (at : IsAt s.pos s.answers) where
  abbrev over : Option Beat
  over = beat_over b s (input_of i)

  abbrev gone : State
  gone = gathered (work b (input_of i) s) (input_of i) over

  kept : Keeps s (work b (input_of i) s)
  kept = work_keeps b (input_of i) s

  held : Gathers i over (work b (input_of i) s) gone
  held = gathers (work b (input_of i) s) i over

  same_pos : gone.pos ≡ s.pos
  same_pos = held.pos ∙ kept.pos

  pub ticks : FirstIsBytes s.answers → Ticks b s i
  unfolding clock
  ticks bytes = record {
    part = scattered_part gone (taken_beat s (input_of i)) ∙ held.part ∙ ap (λ a. part_by a i over) kept.part;
    begun = subst (λ n. begun (scattered gone (if i.out_ready then beat_at n s.answers else None)) ≡ begun_by (take n (beats_of (first_answer s.answers).frame)) (if i.out_ready then beat_at n s.answers else None)) same_pos
        (begins gone s.answers kept.more i.out_ready (held.answers ∙ kept.answers) (subst (λ n. IsAt n s.answers) (sym same_pos) at) bytes);
  }

  pub position_then : AllByRecursion IsSome (clock b (input_of i) s).answers → IsAt (clock b (input_of i) s).pos (clock b (input_of i) s).answers
  unfolding clock
  position_then = subst (λ n. (let u = scattered gone (if i.out_ready then beat_at n s.answers else None) in AllByRecursion IsSome u.answers → IsAt u.pos u.answers)) same_pos
      (at_then gone s.answers kept.more i.out_ready (held.answers ∙ kept.answers) (subst (λ n. IsAt n s.answers) (sym same_pos) at))
