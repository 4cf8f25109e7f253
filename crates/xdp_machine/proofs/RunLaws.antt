-- A run by its first step.
use Rattle.std.proofs.Common.{zero, List, [], ◌∷◌, length, ◌∙◌, ◌≡◌, ℕ, suc, ◌+◌, ◌-◌, ◌<◌, refl, sym, subst, ap, arith}
use Rattle.xdp_maps.specs.State.{MapState}
use Rattle.xdp_machine.specs.State.{Code, Machine, PacketIn, start}
use Rattle.xdp_machine.specs.MachineLaws.{IsOver, IsDeterministic, HasOneAnswer, KeepsSizes, RunsKeepSizes}
use Rattle.xdp_machine.proofs.ChangeLaws.{steps_change_only}
use Rattle.xdp_machine.specs.Step.{Outcome, Goes, Ends, NoCase, step}
use Rattle.xdp_machine.specs.Runs.{run, Progress, Ended, Stuck, Going, Leaves, leaves, then_on, AreRuns}

pub run_none : (code : Code) (n : ℕ) (m : Machine) → n ≡ 0 → run code n m ≡ Going m
unfolding run
run_none code n m e = rw e refl

-- a run of some steps begins with one
pub run_first : (code : Code) (n k : ℕ) (m : Machine) (o : Outcome) → n ≡ suc k → step code m ≡ o → run code n m ≡ then_on (run code k) m o
unfolding run
run_first code n k m o e h = subst (λ x. run code x m ≡ then_on (run code k) m o) (sym e) (ap (then_on (run code k) m) h)

-- the same by what the step led to, with a count that goes down
pub run_goes : (code : Code) (n i : ℕ) (m next : Machine) → i < n → step code m ≡ Goes next → run code (n - i) m ≡ run code (n - (i + 1)) next
run_goes code n i m next below h = run_first code (n - i) (n - (i + 1)) m (Goes next) (omega arith) h

pub run_ends : (code : Code) (n i verdict : ℕ) (m : Machine) → i < n → step code m ≡ Ends verdict → run code (n - i) m ≡ Ended (leaves verdict m)
run_ends code n i verdict m below h = run_first code (n - i) (n - (i + 1)) m (Ends verdict) (omega arith) h

pub run_stops : (code : Code) (n i : ℕ) (m : Machine) → i < n → step code m ≡ NoCase → run code (n - i) m ≡ Stuck m
run_stops code n i m below h = run_first code (n - i) (n - (i + 1)) m NoCase (omega arith) h

both_over : (f g : Machine → Progress) (m : Machine) (o : Outcome) → ((next : Machine) → IsOver (f next) → IsOver (g next) → f next ≡ g next)
    → IsOver (then_on f m o) → IsOver (then_on g m o) → then_on f m o ≡ then_on g m o
both_over f g m (Goes next) same h h' = same next h h'
both_over f g m (Ends verdict) same h h' = refl
both_over f g m NoCase same h h' = refl

over_same : (code : Code) (n k : ℕ) (m : Machine) → IsOver (run code n m) → IsOver (run code k m) → run code n m ≡ run code k m
unfolding run
over_same code zero k m h g = absurd h
over_same code (suc n) zero m h g = absurd g
over_same code (suc n) (suc k) m h g = both_over (run code n) (run code k) m (step code m) (λ next. over_same code n k next) h g

pub is_deterministic : IsDeterministic
is_deterministic code m n k h g = over_same code n k m h g

pub has_one_answer : HasOneAnswer
has_one_answer code packet maps e f (n, ran) (k, ran') =
    let over : IsOver (run code n (start packet maps)) = subst IsOver (sym ran) tt in
    let over' : IsOver (run code k (start packet maps)) = subst IsOver (sym ran') tt in
    ended_inj e f (sym ran ∙ over_same code n k (start packet maps) over over' ∙ ran')
  where
    ended_inj : (a b : Leaves) → Ended a ≡ Ended b → a ≡ b
    ended_inj a b h = cc

-- sizes along a run, by its first step
sizes_after : (old new : Machine) (r : Progress) → length new.frame ≡ length old.frame → new.maps.decls ≡ old.maps.decls → KeepsSizes new r → KeepsSizes old r
sizes_after old new r frame decls h = record { frame = h.frame ∙ frame; decls = h.decls ∙ decls }

sizes_by : (code : Code) (m : Machine) (f : Machine → Progress) (o : Outcome) → length m.registers ≡ 11 → step code m ≡ o
    → ((next : Machine) → length next.registers ≡ 11 → KeepsSizes next (f next)) → KeepsSizes m (then_on f m o)
sizes_by code m f (Goes next) len e keeps =
    let changes = steps_change_only code m next len e in
    sizes_after m next (f next) changes.frame changes.decls (keeps next (changes.registers ∙ len))
sizes_by code m f (Ends verdict) len e keeps = record { frame = refl; decls = refl }
sizes_by code m f NoCase len e keeps = record { frame = refl; decls = refl }

pub runs_keep_sizes : RunsKeepSizes
unfolding run
runs_keep_sizes code zero m len = record { frame = refl; decls = refl }
runs_keep_sizes code (suc n) m len = sizes_by code m (run code n) (step code m) len refl (λ next h. runs_keep_sizes code n next h)

-- each packet of a capture run comes to one end
pub runs_length : (code : Code) (maps : MapState) (packets : List PacketIn) (es : List Leaves) (last : MapState) → AreRuns code maps packets es last → length es ≡ length packets
runs_length code maps [] [] last runs = refl
runs_length code maps [] (e ∷ es) last runs = absurd runs
runs_length code maps (packet ∷ packets) [] last runs = absurd runs
runs_length code maps (packet ∷ packets) (e ∷ es) last runs = ap suc (runs_length code e.maps packets es last runs.1)
