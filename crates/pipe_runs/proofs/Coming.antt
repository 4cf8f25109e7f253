-- A full drive may come, and what has come after it.
use Rattle.std.specs.Prelude.{◌≡◌, ℕ, zero, suc, ◌<◌, min, if◌then◌else◌, is_some, not, Bool, true, false, Option, Some, None, List, [], ◌∷◌, ◌++◌, drop}
use Rattle.std.specs.List.{AllByRecursion}
use Rattle.std.proofs.Common.{refl, sym, ap, ◌∙◌, subst, arith, length-append}
use Rattle.cell_core.specs.beat_core.declared.beat.Beat.{Beat}
use Rattle.cell_core.specs.beat_core.declared.frame.TheConstants.{BEAT_LIMIT}
use Rattle.cell_core.specs.beat_core.Beats.{bytes_of_beat, IsOffer}
use Rattle.cell_core.specs.beat_core.Clocks.{AreOffers}
use Rattle.cell_core.specs.beat_core.Ports.{Arrival, Offered}
use Rattle.cell_core.proofs.beat_core_laws.BeatLaws.{IsOffer-eight}
use Rattle.cell_core.proofs.beat_core_laws.WordLaws.{length-low_bytes}
use Rattle.pipe_core.specs.net_core.declared.ports.Inputs.{Inputs}
use Rattle.pipe_net.specs.frame_net.Frames.{position_of}
use Rattle.pipe_core.specs.Machine.{State, Input, Build, flushed, some_send, action_of, work, is_ready, beat_over, came_with, gathered, taken_beat, scattered, clock}
use Rattle.pipe_core.specs.History.{Trace, next, run}
use Rattle.pipe_core.specs.Drive.{ahead, beats_in}
use Rattle.pipe_core.specs.HostRuns.Inputs.{input_of}
use Rattle.pipe_runs.specs.PipeAnswers.Coming.{AllMayCome}
use Rattle.pipe_core.specs.realization.History.{drive_inputs}
use Rattle.pipe_core.specs.realization.Realizes.{beats_offered}
use Rattle.pipe_core.proofs.ClockLaws.{worked_part, part_after}
use Rattle.pipe_runs.proofs.Histories.{is_open}
use Rattle.pipe_runs.proofs.Drives.{Fits, fit_inputs, left_by, driven}

-- ---- what has come of a frame after a clock

gathered_part : (w : State) (i : Input) (o : Option Beat) → (gathered w i o).part ≡ part_after w.part i o
gathered_part w i None = refl
gathered_part w i (Some x) = by x.last
  where
    by : (last : Bool) →
        (let a = came_with w.part i x in
        let g : State = (if last then record w { frames = w.frames ++ a ∷ []; part = None } else record w { part = Some a }) in g.part ≡ (if last then None else Some a))
    by true = refl
    by false = refl

scattered_part : (g : State) (e : Option Beat) → (scattered g e).part ≡ g.part
scattered_part g None = refl
scattered_part g (Some x) = by x.last
  where
    by : (last : Bool) → (let c : State = (if last then record g { answers = drop 1 g.answers; pos = 0 } else record g { pos = suc g.pos }) in c.part ≡ g.part)
    by true = refl
    by false = refl

part_then : (b : Build) (i : Input) (s : State) → (clock b i s).part ≡ part_after s.part i (beat_over b s i)
unfolding clock work
part_then b i s =
    let rest = flushed b 0 s.places in
    let over = beat_over b s i in
    scattered_part (gathered (work b i s) i over) (taken_beat s i) ∙ gathered_part (work b i s) i over
    ∙ ap (λ p. part_after p i over) (worked_part b s (some_send b 0 s.places) rest (action_of b i s rest))

next_part : (b : Build) (i : Input) (t : Trace) → (next b i t).state.part ≡ part_after t.state.part i (beat_over b t.state i)
unfolding next
next_part b i t = part_then b i t.state

-- ---- offers of the frame that is coming
offer_now : (n : ℕ) (o : Option Beat) (bs : List Beat) → AreOffers n (ahead o bs) → (x : Beat) → o ≡ Some x → IsOffer x × (n < BEAT_LIMIT)
offer_now n None bs h x e = absurd cc
offer_now n (Some y) bs h x e = subst (λ (z : Beat). IsOffer z × (n < BEAT_LIMIT)) (some_same y x e) (h.0, h.1)
  where
    some_same : (y x : Beat) → Some y ≡ Some x → y ≡ x
    some_same y x e = cc

one_more : (part : Option Arrival) (i : Input) (x : Beat) → x.bytes ≡ 8 → position_of (Some (came_with part i x)) ≡ suc (position_of part)
one_more None i x e = let n = length-low_bytes (min x.bytes 8) x.word in omega (arith, n, e)
one_more (Some a) i x e = let n = length-low_bytes (min x.bytes 8) x.word in omega (arith, n, e, length-append a.frame (bytes_of_beat x))

offers_then : (part : Option Arrival) (i : Input) (o : Option Beat) (bs : List Beat) → AreOffers (position_of part) (ahead o bs) → AreOffers (position_of (part_after part i o)) bs
offers_then part i None bs h = h
offers_then part i (Some x) bs h = by x.last refl h.2
  where
    by : (last : Bool) → x.last ≡ last → AreOffers (if last then 0 else suc (position_of part)) bs → AreOffers (position_of (if last then None else Some (came_with part i x))) bs
    by true e more = more
    by false e more = subst (λ n. AreOffers n bs) (sym (one_more part i x (IsOffer-eight x h.0 e))) more

-- ---- the drive
over_beats : (ready : Bool) (left : List Offered) → ahead (if ready then (input_of (drive_inputs left)).beat else None) (beats_offered (left_by ready left)) ≡ beats_offered left
over_beats true [] = refl
over_beats false [] = refl
over_beats true (o ∷ os) = refl
over_beats false (o ∷ os) = refl

left_fits : (ready : Bool) (left : List Offered) → AllByRecursion Fits left → AllByRecursion Fits (left_by ready left)
left_fits ready [] h = tt
left_fits true (o ∷ os) h = h.1
left_fits false (o ∷ os) h = h

pub drives_come : (b : Build) (n : ℕ) (t : Trace) (left : List Offered) → AllByRecursion Fits left → AreOffers (position_of t.state.part) (beats_offered left) → AllMayCome b (driven b n t left) t
drives_come b zero t left fits offers = tt
drives_come b (suc n) t left fits offers =
    let i : Inputs = drive_inputs left in
    let over = beat_over b t.state (input_of i) in
    let left' = left_by (is_ready b t.state) left in
    let coming : AreOffers (position_of t.state.part) (ahead over (beats_offered left')) = subst (AreOffers (position_of t.state.part)) (sym (over_beats (is_ready b t.state) left)) offers in
    let more = offers_then t.state.part (input_of i) over (beats_offered left') coming in (
      record {
        fits = fit_inputs left fits;
        offer = λ x e. (offer_now (position_of t.state.part) over (beats_offered left') coming x e).0;
        room = λ x e. (offer_now (position_of t.state.part) over (beats_offered left') coming x e).1;
      },
      drives_come b n (next b (input_of i) t) left' (left_fits (is_ready b t.state) left fits) (subst (λ p. AreOffers (position_of p) (beats_offered left')) (sym (next_part b (input_of i) t)) more),
    )

-- ---- whether a frame has begun
open_by : (part : Option Arrival) (i : Input) (o : Option Beat) (bs : List Beat) → is_open (is_some (part_after part i o)) bs ≡ is_open (is_some part) (ahead o bs)
open_by part i None bs = refl
open_by part i (Some x) bs = ap (λ c. is_open c bs) (by x.last)
  where
    by : (last : Bool) → is_some (if last then None else Some (came_with part i x)) ≡ not last
    by true = refl
    by false = refl

next_state : (b : Build) (i : Input) (t : Trace) → (next b i t).state ≡ clock b i t.state
unfolding next
next_state b i t = refl

pub part_open : (b : Build) (is : List Input) (t : Trace) → is_some (run b is t).state.part ≡ is_open (is_some t.state.part) (beats_in b is t.state)
part_open b [] t = refl
part_open b (i ∷ is) t =
    part_open b is (next b i t) ∙ ap (λ s. is_open (is_some s.part) (beats_in b is s)) (next_state b i t) ∙ ap (λ p. is_open (is_some p) (beats_in b is (clock b i t.state))) (part_then b i t.state)
    ∙ open_by t.state.part i (beat_over b t.state i) (beats_in b is (clock b i t.state))
