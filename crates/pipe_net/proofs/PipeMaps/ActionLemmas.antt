-- What a clock of the machine does to its tables.
use Rattle.std.specs.Prelude.{if◌then◌else◌, Option, Some, None}
use Rattle.std.proofs.Common.{◌≡◌, ℕ, zero, suc, Bool, true, false, List, [], ◌∷◌, refl, sym, ◌∙◌, ap}
use Rattle.std.proofs.lemmas.Bool.{and_parts}
use Rattle.block_core.specs.net_core.declared.ports.Inputs.{Inputs}
use Rattle.beat_core.specs.declared.beat.Beat.{Beat}
use Rattle.hazard_core.specs.declared.access.Access.{Access}
use Rattle.hazard_core.specs.Tables.{TableState, table_at, slot_at}
use Rattle.hazard_core.specs.Commits.{committed, host_written, word_in, may_write}
use Rattle.pipe_core.specs.Machine.{Packet, State, Input, Build, Action, Commits, Writes, Moves, place_at, chosen, commits_as, commits_or_moves, action_as, host_writes, host_ready, is_idle, written_if, some_send, flushed, worked, gathered, scattered, beat_over, taken_beat, work, clock}
use Rattle.pipe_net.specs.Machine.{input_of, access_in}
use Rattle.pipe_net.specs.Saying.{action_in}
use Rattle.turn_net.specs.HostNet.Laws.{WritesItsNumber}

-- ---- the tables after the clock
abbrev pub tables_by : Build → State → Action → TableState
tables_by b s (Commits j x) = committed b.program s.tables s.taken x.held j
tables_by b s (Writes a n) = host_written s.tables a n
tables_by b s Moves = s.tables

-- one of two states that have these tables
either : (c : Bool) (t : TableState) (x y : State) → x.tables ≡ t → y.tables ≡ t → State.tables (if c then x else y) ≡ t
either true t x y h g = h
either false t x y h g = g

gathered_tables : (s : State) (i : Input) (o : Option Beat) → (gathered s i o).tables ≡ s.tables
gathered_tables s i None = refl
gathered_tables s i (Some b) = either b.last s.tables _ _ refl refl

scattered_tables : (s : State) (o : Option Beat) → (scattered s o).tables ≡ s.tables
scattered_tables s None = refl
scattered_tables s (Some b) = either b.last s.tables _ _ refl refl

work_tables : (b : Build) (i : Input) (s : State) → (work b i s).tables ≡ tables_by b s (action_in b i s)
unfolding work
work_tables b i s = by (action_in b i s)
  where
    by : (t : Action) → (worked b s (some_send b 0 s.places) (flushed b 0 s.places) t).tables ≡ tables_by b s t
    by (Commits j x) = refl
    by (Writes a n) = refl
    by Moves = refl

pub clock_tables : (b : Build) (i : Input) (s : State) → (clock b i s).tables ≡ tables_by b s (action_in b i s)
unfolding clock
clock_tables b i s = scattered_tables (gathered (work b i s) i (beat_over b s i)) (taken_beat s i) ∙ gathered_tables (work b i s) i (beat_over b s i) ∙ work_tables b i s

-- ---- an operation of the packet at the commit place commits
pub record IsCommitted (b : Build) (s : State) (j : ℕ) (x : Packet) : Type 0 where
  pub here : place_at s.places b.plan.commit ≡ Some x
  pub chosen_is : chosen b s.tables s.done x ≡ Some j

unflushed : (b : Build) (n k : ℕ) (places : List (Option Packet)) (x : Packet) → place_at (flushed b n places) k ≡ Some x → place_at places k ≡ Some x
unflushed b n k [] x e = e
unflushed b n zero (y ∷ ys) x e = by (some_send b n (y ∷ ys)) e
  where
    by : (c : Bool) → (if c then None else y) ≡ Some x → y ≡ Some x
    by true e = cc
    by false e = e
unflushed b n (suc k) (y ∷ ys) x e = unflushed b (suc n) k ys x e

pub committed_action : (b : Build) (i : Input) (s : State) (j : ℕ) (x : Packet) → action_in b i s ≡ Commits j x → IsCommitted b s j x
committed_action b i s j x e = by_host (host_writes (host_ready b s) (is_idle s) s.tables i.host) e
  where
    rest : List (Option Packet)
    rest = flushed b 0 s.places

    by_choice : (y : Packet) → place_at rest b.plan.commit ≡ Some y → (o : Option ℕ) → chosen b s.tables s.done y ≡ o → commits_as y o ≡ Commits j x → IsCommitted b s j x
    by_choice y here None is e = cc
    by_choice y here (Some k) is e =
        let same : y ≡ x = cc in
        let number : k ≡ j = cc in
        record { here = unflushed b 0 b.plan.commit s.places x (here ∙ ap Some same); chosen_is = ap (chosen b s.tables s.done) (sym same) ∙ is ∙ ap Some number }

    by_packet : (o : Option Packet) → place_at rest b.plan.commit ≡ o → commits_or_moves b s o ≡ Commits j x → IsCommitted b s j x
    by_packet None here e = cc
    by_packet (Some y) here e = by_choice y here (chosen b s.tables s.done y) refl e

    by_host : (o : Option (Access × ℕ)) → action_as b s rest o ≡ Commits j x → IsCommitted b s j x
    by_host None e = by_packet (place_at rest b.plan.commit) refl e
    by_host (Some w) e = cc

-- ---- the host writes
pub record IsHostsAction (i : Inputs) (s : State) (a : Access) (n : ℕ) : Type 0 where
  pub access : a ≡ access_in i
  pub number : n ≡ i.host_data
  pub may : may_write (is_idle s) (slot_at (table_at s.tables a.map) a.index) (word_in s.tables a) ≡ true

abbrev IsWrite : Option (Access × ℕ) → Access → ℕ → Type 0
IsWrite o a n = let w : Access × ℕ = (a, n) in o ≡ Some w

host_action : (b : Build) (s : State) (rest : List (Option Packet)) (o : Option (Access × ℕ)) (a : Access) (n : ℕ) → action_as b s rest o ≡ Writes a n → IsWrite o a n
host_action b s rest (Some w) a n e = let map : w.0 ≡ a = cc in let number : w.1 ≡ n = cc in λ k. Some (map k, number k)
host_action b s rest None a n e = by_packet (place_at rest b.plan.commit) e
  where
    by_choice : (y : Packet) (o : Option ℕ) → commits_as y o ≡ Writes a n → IsWrite None a n
    by_choice y None e = cc
    by_choice y (Some k) e = cc

    by_packet : (o : Option Packet) → commits_or_moves b s o ≡ Writes a n → IsWrite None a n
    by_packet None e = cc
    by_packet (Some y) e = by_choice y (chosen b s.tables s.done y) e

the_number : (i : Inputs) (n : ℕ) → (access_in i).write ≡ Some n → n ≡ i.host_data
the_number i n e = by i.host_write e
  where
    by : (c : Bool) → (if c then Some i.host_data else None) ≡ Some n → n ≡ i.host_data
    by true e = cc
    by false e = cc

allowed : (c : Bool) (a : Access) (o : Option ℕ) (w : Access × ℕ) → written_if c a o ≡ Some w → c ≡ true
allowed true a o w e = refl
allowed false a o w e = cc

pub hosts_action : WritesItsNumber → (b : Build) (i : Inputs) (s : State) (a : Access) (n : ℕ) → action_in b (input_of i) s ≡ Writes a n → IsHostsAction i s a n
hosts_action law b i s a n e =
    let access = access_in i in
    let is : IsWrite (host_writes (host_ready b s) (is_idle s) s.tables (Some access)) a n = host_action b s (flushed b 0 s.places) (host_writes (host_ready b s) (is_idle s) s.tables (Some access)) a n e in
    let w = law (host_ready b s) (is_idle s) s.tables access (a, n) is in
    let may = and_parts (host_ready b s) (may_write (is_idle s) (slot_at (table_at s.tables access.map) access.index) (word_in s.tables access)) (allowed _ access access.write (a, n) is) in
    record { access = w.0; number = the_number i n w.1; may = ap (λ (a : Access). may_write (is_idle s) (slot_at (table_at s.tables a.map) a.index) (word_in s.tables a)) w.0 ∙ may.1 }
