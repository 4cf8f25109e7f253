-- The clocks of a full drive, at the ports and for the machine.
use Rattle.std.specs.Prelude.{◌≡◌, ℕ, zero, suc, ◌+◌, ◌^◌, ◌<◌, if◌then◌else◌, Bool, true, false, None, List, [], ◌∷◌, ◌++◌, length, map, drop}
use Rattle.std.specs.List.{AllByRecursion}
use Rattle.std.proofs.Common.{refl, sym, ap, ◌∙◌, arith}
use Rattle.cell_core.specs.beat_core.Ports.{Offered}
use Rattle.cell_core.specs.Cells.{bit}
use Rattle.pipe_core.specs.net_core.declared.ports.Inputs.{Inputs}
use Rattle.pipe_core.specs.net_core.Trace.{IsInput}
use Rattle.pipe_core.specs.Machine.{Build, some_send, is_ready}
use Rattle.pipe_core.specs.History.{Trace, next, run}
use Rattle.pipe_core.specs.Drive.{Driven, driving, drive_clock, Beside, drive}
use Rattle.pipe_core.specs.LineRate.{reloads_in}
use Rattle.pipe_core.specs.HostRuns.Inputs.{access_in, input_of}
use Rattle.pipe_core.specs.HostRuns.Silent.{silent, ReadsAreSilent}
use Rattle.pipe_core.specs.realization.History.{drive_inputs}
use Rattle.pipe_core.specs.realization.Realizes.{IsBeside, beats_offered}
use Rattle.pipe_runs.specs.PipePorts.Followed.{WriteNothing}

-- what stands at the ports in a drive fits them
pub record Fits (o : Offered) : Type 0 where
  pub word : o.beat.word < 2 ^ 64
  pub bytes : o.beat.bytes < 2 ^ 4
  pub beside : IsBeside o

none : (k : ℕ) → 0 < 2 ^ k → 0 < 2 ^ k
none k h = h

pub fit_inputs : (left : List Offered) → AllByRecursion Fits left → IsInput (drive_inputs left)
fit_inputs [] h = record { in_data = none 64 (omega arith); in_bytes = none 4 (omega arith); in_ifindex = none 32 (omega arith); in_time = none 64 (omega arith); host_map = none 4 (omega arith); host_index = none 16 (omega arith); host_word = none 4 (omega arith); host_data = none 64 (omega arith) }
fit_inputs (o ∷ os) h =
    record { in_data = h.0.word; in_bytes = h.0.bytes; in_ifindex = h.0.beside.ifindex; in_time = h.0.beside.time; host_map = none 4 (omega arith); host_index = none 16 (omega arith); host_word = none 4 (omega arith); host_data = none 64 (omega arith) }

-- what is left to offer after a clock
abbrev pub left_by : Bool → List Offered → List Offered
left_by ready [] = []
left_by ready (o ∷ os) = if ready then os else o ∷ os

-- what stands at the ports in so many clocks of a drive, by what the machine takes, and what is left after them
abbrev pub driven : Build → ℕ → Trace → List Offered → List Inputs
driven b zero t left = []
driven b (suc n) t left = drive_inputs left ∷ driven b n (next b (input_of (drive_inputs left)) t) (left_by (is_ready b t.state) left)

abbrev pub left_behind : Build → ℕ → Trace → List Offered → List Offered
left_behind b zero t left = left
left_behind b (suc n) t left = left_behind b n (next b (input_of (drive_inputs left)) t) (left_by (is_ready b t.state) left)

abbrev pub behind : Build → ℕ → Trace → List Offered → Trace
behind b n t left = run b (map input_of (driven b n t left)) t

-- in how many of these clocks packets are sent back
abbrev pub reloads_by : Build → ℕ → Trace → List Offered → ℕ
reloads_by b zero t left = 0
reloads_by b (suc n) t left = bit (some_send b 0 t.state.places) + reloads_by b n (next b (input_of (drive_inputs left)) t) (left_by (is_ready b t.state) left)

writes_nothing : (left : List Offered) → (drive_inputs left).host_write ≡ false
writes_nothing [] = refl
writes_nothing (o ∷ os) = refl

pub drives_silent : (b : Build) (n : ℕ) (t : Trace) (left : List Offered) → WriteNothing (driven b n t left)
drives_silent b zero t left = tt
drives_silent b (suc n) t left = (writes_nothing left, drives_silent b n (next b (input_of (drive_inputs left)) t) (left_by (is_ready b t.state) left))

-- ---- the same for the machine, whose host is silent
abbrev beside : List Offered → Beside
beside [] = record { ifindex = 0; time = 0 }
beside (o ∷ os) = record { ifindex = o.ifindex; time = o.time }

abbrev pub besides : Build → ℕ → Trace → List Offered → List Beside
besides b zero t left = []
besides b (suc n) t left = beside left ∷ besides b n (next b (input_of (drive_inputs left)) t) (left_by (is_ready b t.state) left)

pub length_besides : (b : Build) (n : ℕ) (t : Trace) (left : List Offered) → length (besides b n t left) ≡ n
length_besides b zero t left = refl
length_besides b (suc n) t left = ap suc (length_besides b n (next b (input_of (drive_inputs left)) t) (left_by (is_ready b t.state) left))

drives_so : (left : List Offered) → silent (input_of (drive_inputs left)) ≡ driving (beside left).ifindex (beside left).time (beats_offered left)
drives_so [] = refl
drives_so (o ∷ os) = refl

reads_only : (left : List Offered) → (access_in (drive_inputs left)).write ≡ None
reads_only [] = refl
reads_only (o ∷ os) = refl

left_beats : (ready : Bool) (left : List Offered) → (if ready then drop 1 (beats_offered left) else beats_offered left) ≡ beats_offered (left_by ready left)
left_beats true [] = refl
left_beats false [] = refl
left_beats true (o ∷ os) = refl
left_beats false (o ∷ os) = refl

-- the machine's drive after these clocks
abbrev pub drive_from : Trace → List Offered → Driven
drive_from t left = record { left = beats_offered left; trace = t }

module _ (reads : ReadsAreSilent) (b : Build) where
  next_is : (t : Trace) (left : List Offered) → next b (input_of (drive_inputs left)) t ≡ next b (driving (beside left).ifindex (beside left).time (beats_offered left)) t
  next_is t left =
      let i = drive_inputs left in
      (reads b (input_of i) (access_in i) refl (reads_only left)).trace t ∙ ap (λ x. next b x t) (drives_so left)

  clock_is : (t : Trace) (left : List Offered) → drive_clock b (beside left).ifindex (beside left).time (drive_from t left) ≡ drive_from (next b (input_of (drive_inputs left)) t) (left_by (is_ready b t.state) left)
  unfolding drive_clock
  clock_is t left =
      let e = left_beats (is_ready b t.state) left in
      let f = sym (next_is t left) in
      λ j. record { left = e j; trace = f j }

  pub same_drive : (n : ℕ) (t : Trace) (left : List Offered) → drive b (besides b n t left) (drive_from t left) ≡ drive_from (behind b n t left) (left_behind b n t left)
  same_drive zero t left = refl
  same_drive (suc n) t left =
      let t' = next b (input_of (drive_inputs left)) t in
      let left' = left_by (is_ready b t.state) left in
      ap (drive b (besides b n t' left')) (clock_is t left) ∙ same_drive n t' left'

  -- in how many clocks packets are sent back
  pub same_reloads : (n : ℕ) (t : Trace) (left : List Offered) → reloads_in b (besides b n t left) (drive_from t left) ≡ reloads_by b n t left
  same_reloads zero t left = refl
  same_reloads (suc n) t left =
      let t' = next b (input_of (drive_inputs left)) t in
      let left' = left_by (is_ready b t.state) left in
      let rest = ap (reloads_in b (besides b n t' left')) (clock_is t left) ∙ same_reloads n t' left' in
      omega (arith, rest)

-- ---- more clocks after these
pub behind_more : (b : Build) (n m k : ℕ) → k ≡ n + m → (t : Trace) (left : List Offered) → behind b k t left ≡ behind b m (behind b n t left) (left_behind b n t left)
behind_more b zero m k e t left = let same : k ≡ m = omega (arith, e) in ap (λ j. behind b j t left) same
behind_more b (suc n) m zero e t left = absurd (omega (arith, e))
behind_more b (suc n) m (suc k) e t left = behind_more b n m k (omega (arith, e)) (next b (input_of (drive_inputs left)) t) (left_by (is_ready b t.state) left)

pub besides_more : (b : Build) (n m k : ℕ) → k ≡ n + m → (t : Trace) (left : List Offered) → besides b k t left ≡ besides b n t left ++ besides b m (behind b n t left) (left_behind b n t left)
besides_more b zero m k e t left = let same : k ≡ m = omega (arith, e) in ap (λ j. besides b j t left) same
besides_more b (suc n) m zero e t left = absurd (omega (arith, e))
besides_more b (suc n) m (suc k) e t left = ap (λ xs. beside left ∷ xs) (besides_more b n m k (omega (arith, e)) (next b (input_of (drive_inputs left)) t) (left_by (is_ready b t.state) left))
