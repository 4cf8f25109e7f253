-- Lists of clocks one after the other.
use Rattle.std.specs.Prelude.{◌≡◌, if◌then◌else◌, Bool, true, false, List, [], ◌∷◌, ◌++◌, map as map_list}
use Rattle.std.specs.List.{AllByRecursion}
use Rattle.std.proofs.Common.{refl, ap, ◌∙◌}
use Rattle.pipe_core.specs.net_core.declared.ports.Inputs.{Inputs}
use Rattle.pipe_core.specs.net_core.Nets.{Netlist}
use Rattle.pipe_core.specs.net_core.Ports.{words_of}
use Rattle.pipe_core.specs.net_core.Clock.{Stored, after}
use Rattle.pipe_core.specs.net_core.Trace.{Cycle, cycle_of, trace, stored_after}
use Rattle.pipe_core.specs.realization.History.{goes_in, offered_beat, beats_in}
use Rattle.pipe_core.specs.Machine.{Build}
use Rattle.pipe_core.specs.History.{Trace, next, run}
use Rattle.pipe_core.specs.HostRuns.Inputs.{input_of}
use Rattle.pipe_runs.specs.PipeAnswers.Coming.{AllMayCome}
use Rattle.pipe_runs.specs.PipeAnswers.Following.{FollowsAlways}

pub all_append : {A : Type 0} (P : A → Type 0) (xs ys : List A) → AllByRecursion P xs → AllByRecursion P ys → AllByRecursion P (xs ++ ys)
all_append P [] ys h k = k
all_append P (x ∷ xs) ys h k = (h.0, all_append P xs ys h.1 k)

pub all_behind : {A : Type 0} (P : A → Type 0) (xs ys : List A) → AllByRecursion P (xs ++ ys) → AllByRecursion P ys
all_behind P [] ys h = h
all_behind P (x ∷ xs) ys h = all_behind P xs ys h.1

-- ---- the machine
pub run_behind : (b : Build) (xs ys : List Inputs) (t : Trace) → run b (map_list input_of (xs ++ ys)) t ≡ run b (map_list input_of ys) (run b (map_list input_of xs) t)
run_behind b [] ys t = refl
run_behind b (x ∷ xs) ys t = run_behind b xs ys (next b (input_of x) t)

pub come_both : (b : Build) (xs ys : List Inputs) (t : Trace) → AllMayCome b xs t → AllMayCome b ys (run b (map_list input_of xs) t) → AllMayCome b (xs ++ ys) t
come_both b [] ys t h k = k
come_both b (x ∷ xs) ys t h k = (h.0, come_both b xs ys (next b (input_of x) t) h.1 k)

pub come_behind : (b : Build) (xs ys : List Inputs) (t : Trace) → AllMayCome b (xs ++ ys) t → AllMayCome b ys (run b (map_list input_of xs) t)
come_behind b [] ys t h = h
come_behind b (x ∷ xs) ys t h = come_behind b xs ys (next b (input_of x) t) h.1

-- ---- the design
pub follows_behind : (b : Build) (n : Netlist) (xs ys : List Inputs) (t : Trace) (st : Stored) → FollowsAlways b n (xs ++ ys) t st → FollowsAlways b n ys (run b (map_list input_of xs) t) (stored_after n st xs)
follows_behind b n [] ys t st h = h
follows_behind b n (x ∷ xs) ys t st h = follows_behind b n xs ys (next b (input_of x) t) (after n (words_of x) st) h.2

pub trace_append : (n : Netlist) (st : Stored) (xs ys : List Inputs) → trace n st (xs ++ ys) ≡ trace n st xs ++ trace n (stored_after n st xs) ys
trace_append n st [] ys = refl
trace_append n st (x ∷ xs) ys = ap (λ ms. cycle_of n st x ∷ ms) (trace_append n (after n (words_of x) st) xs ys)

pub beats_append : (ms ns : List Cycle) → beats_in (ms ++ ns) ≡ beats_in ms ++ beats_in ns
beats_append [] ns = refl
beats_append (m ∷ ms) ns = ap (λ bs. if goes_in m then offered_beat m ∷ bs else bs) (beats_append ms ns) ∙ by (goes_in m)
  where
    by : (t : Bool) → (if t then offered_beat m ∷ beats_in ms ++ beats_in ns else beats_in ms ++ beats_in ns) ≡ (if t then offered_beat m ∷ beats_in ms else beats_in ms) ++ beats_in ns
    by true = refl
    by false = refl
