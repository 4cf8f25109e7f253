-- A drive that does not stop at a divisor is the same for two designs that show the same.
use Rattle.std.specs.Prelude.{◌≡◌, ℕ, zero, suc, Option, Some, None, List, [], ◌∷◌, ◌++◌}
use Rattle.std.proofs.Common.{refl, sym, ap, ◌∙◌, subst}
use Rattle.beat_core.specs.Ports.{Offered}
use Rattle.net_core.specs.declared.ports.Inputs.{Inputs}
use Rattle.net_core.specs.Nets.{Netlist}
use Rattle.net_core.specs.Clock.{Stored, first_stored, after, stopping}
use Rattle.net_core.specs.Ports.{words_of}
use Rattle.net_core.specs.Trace.{Cycle, cycle_of}
use Rattle.realization.specs.History.{drive_inputs, left_after, owed_after, Drive, drive, and_then, Answered, Stopped}
use Rattle.net_core.specs.SameClocks.Same.{reached, ShowTheSame}
use Rattle.net_core.proofs.SameClocks.SameLaws.{reached_next}
use Rattle.realization.proofs.DriveLaws.{stopped_drive}
use Rattle.realization.proofs.SameDesigns.HistoryLaws.{same_cycle}

-- the drive does not stop at a divisor
abbrev pub NeverStopped : Drive → Type 0
NeverStopped r = (w : ℕ) → r.ended ≡ Stopped w → ⊥

pub answers_never_stop : (r : Drive) → r.ended ≡ Answered → NeverStopped r
answers_never_stop r e w f = let g : Answered ≡ Stopped w = sym e ∙ f in cc

-- what is left of a drive after its first clock, which was this one and left this stored
abbrev rest : Netlist → Stored → Cycle → List Offered → ℕ → ℕ → Drive
rest d t m left owed limit = drive d t (left_after m left) (owed_after m (suc owed)) limit

first_goes : (d : Netlist) (s : Stored) (left : List Offered) (owed limit : ℕ) → stopping d (words_of (drive_inputs left)) s ≡ None →
    (let m : Cycle = cycle_of d s (drive_inputs left) in
    drive d s left (suc owed) (suc limit) ≡ and_then m (rest d (after d (words_of (drive_inputs left)) s) m left owed limit))
unfolding drive
first_goes d s left owed limit e = rw (e, drive)

module _ (a b : Netlist) (same : ShowTheSame a b) where
  -- the same drive, where what is left of it after the first clock is the same
  same_behind : (before : List Inputs) (left : List Offered) (owed limit : ℕ) (stop : Option ℕ) → stopping a (words_of (drive_inputs left)) (reached a before) ≡ stop →
      (let i : Inputs = drive_inputs left in
      let m : Cycle = cycle_of a (reached a before) i in
      NeverStopped (rest a (after a (words_of i) (reached a before)) m left owed limit)
      → rest b (after b (words_of i) (reached b before)) m left owed limit ≡ rest a (after a (words_of i) (reached a before)) m left owed limit) →
      NeverStopped (drive a (reached a before) left (suc owed) (suc limit)) → drive b (reached b before) left (suc owed) (suc limit) ≡ drive a (reached a before) left (suc owed) (suc limit)
  same_behind before left owed limit None e rests ended =
      let i : Inputs = drive_inputs left in
      let s : Stored = reached a before in
      let t : Stored = reached b before in
      let m : Cycle = cycle_of a s i in
      let goes : drive a s left (suc owed) (suc limit) ≡ and_then m (rest a (after a (words_of i) s) m left owed limit) = first_goes a s left owed limit e in
      first_goes b t left owed limit (same.goes before i e)
      ∙ ap (λ (n : Cycle). and_then n (rest b (after b (words_of i) t) n left owed limit)) (same_cycle a b same before i)
      ∙ ap (λ (r : Drive). and_then m r) (rests (λ w stopped. ended w (ap (λ (r : Drive). r.ended) goes ∙ stopped)))
      ∙ sym goes
  same_behind before left owed limit (Some w) e rests ended =
      let stops : (drive a (reached a before) left (suc owed) (suc limit)).ended ≡ Stopped w = ap (λ (r : Drive). r.ended) (stopped_drive a (reached a before) left owed limit w e) in
      absurd (ended w stops)

pub same_drive : (a b : Netlist) → ShowTheSame a b → (before : List Inputs) (left : List Offered) (owed limit : ℕ)
    → NeverStopped (drive a (reached a before) left owed limit) → drive b (reached b before) left owed limit ≡ drive a (reached a before) left owed limit
unfolding drive
same_drive a b same before left zero limit ended = refl
same_drive a b same before left (suc owed) zero ended = refl
same_drive a b same before left (suc owed) (suc limit) ended =
    let i : Inputs = drive_inputs left in
    let m : Cycle = cycle_of a (reached a before) i in
    same_behind a b same before left owed limit (stopping a (words_of i) (reached a before)) refl
    (λ going.
    let more = same_drive a b same (before ++ i ∷ []) (left_after m left) (owed_after m (suc owed)) limit in
    let of_a = reached_next a (first_stored a) before i in
    let of_b = reached_next b (first_stored b) before i in
    ap (λ (s : Stored). rest b s m left owed limit) (sym of_b)
    ∙ more (subst (λ (s : Stored). NeverStopped (rest a s m left owed limit)) (sym of_a) going)
    ∙ ap (λ (s : Stored). rest a s m left owed limit) of_a) ended
