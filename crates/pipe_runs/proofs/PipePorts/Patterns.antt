-- What a pattern offers may come.
use Rattle.std.specs.Prelude.{◌≡◌, false, List, [], ◌∷◌, ◌++◌}
use Rattle.std.specs.List.{AllByRecursion}
use Rattle.std.proofs.Common.{sym, ap, ◌∙◌, subst, append_assoc}
use Rattle.cell_core.specs.beat_core.declared.beat.Beat.{Beat}
use Rattle.cell_core.specs.beat_core.Clocks.{AreOffers}
use Rattle.cell_core.specs.xdp_maps.State.{MapState}
use Rattle.pipe_core.specs.net_core.declared.ports.Inputs.{Inputs}
use Rattle.pipe_core.specs.net_core.Nets.{Netlist}
use Rattle.pipe_core.specs.net_core.Ports.{words_of}
use Rattle.pipe_core.specs.net_core.Clock.{Stored, after, shown}
use Rattle.pipe_core.specs.net_core.Trace.{NeverStops, trace, stored_after, IsInput, IsSilent}
use Rattle.pipe_core.specs.realization.History.{beats_in}
use Rattle.pipe_core.specs.realization.Realizes.{IsPattern}
use Rattle.pipe_net.specs.frame_net.Frames.{position_of}
use Rattle.pipe_core.specs.Machine.{State, Build, beat_over}
use Rattle.pipe_core.specs.History.{Trace, next, begin}
use Rattle.pipe_core.specs.Drive.{ahead}
use Rattle.pipe_core.specs.HostRuns.Inputs.{input_of}
use Rattle.pipe_net.specs.Machine.{MayCome}
use Rattle.pipe_runs.specs.PipeAnswers.Coming.{AllMayCome}
use Rattle.pipe_runs.specs.PipeAnswers.Following.{FollowsAlways}
use Rattle.pipe_runs.specs.PipePorts.Followed.{WriteNothing, IsFollowed, ran}
use Rattle.pipe_runs.specs.PipePorts.Ports.{cycle, PortsShowClocks, PortsShowHistories}
use Rattle.pipe_runs.specs.PipePorts.Patterns.{IsInPattern, GoesOn, PatternsMayCome, PatternsGoOn}
use Rattle.pipe_runs.proofs.PipePorts.Ports.{offer_now}
use Rattle.pipe_runs.proofs.PipePorts.Lists.{all_append, run_behind, come_both, come_behind, follows_behind, trace_append, beats_append}

write_nothing : (is : List Inputs) → AllByRecursion IsSilent is → WriteNothing is
write_nothing [] h = tt
write_nothing (i ∷ is) h = (h.0.host_write, write_nothing is h.1)

never_stops : (b : Build) (n : Netlist) (is : List Inputs) (t : Trace) (st : Stored) → FollowsAlways b n is t st → NeverStops n st is
never_stops b n [] t st h = tt
never_stops b n (i ∷ is) t st h = (h.0, never_stops b n is (next b (input_of i) t) (after n (words_of i) st) h.2)

-- these beats may come while a state of the machine stands
may_come : (b : Build) (s : State) (i : Inputs) → IsInput i → (bs : List Beat) → AreOffers (position_of s.part) (ahead (beat_over b s (input_of i)) bs) → MayCome b s i
may_come b s i fits bs offers = record {
  fits = fits;
  offer = λ x e. (offer_now (position_of s.part) (beat_over b s (input_of i)) bs offers x e).0;
  room = λ x e. (offer_now (position_of s.part) (beat_over b s (input_of i)) bs offers x e).1;
}

module _ (clocks : PortsShowClocks) (histories : PortsShowHistories) (b : Build) (maps : MapState) (n : Netlist) (st : Stored) (h : IsFollowed b maps n st) where
  -- After clocks in which only what may come did, so does the next one: what is offered is known from the design's outputs, which show what the machine does whatever it is.
  next_may_come : (xs : List Inputs) → WriteNothing xs → AllMayCome b xs (begin b maps) → (i : Inputs) (is : List Inputs) → IsInput i → i.host_write ≡ false → AreOffers 0 (beats_in (trace n st (xs ++ i ∷ is))) → MayCome b (ran b maps xs).state i
  next_may_come xs silent come i is fits quiet offers =
      let s = (ran b maps xs).state in
      let here = stored_after n st xs in
      let at = shown n (words_of i) here in
      let ms = trace n (after n (words_of i) here) is in
      let split : beats_in (trace n st (xs ++ i ∷ is)) ≡ beats_in (trace n st xs) ++ beats_in (cycle i at ∷ ms) = ap beats_in (trace_append n st xs (i ∷ is)) ∙ beats_append (trace n st xs) (cycle i at ∷ ms) in
      let rest = (histories b maps n st h xs silent come).rest (beats_in (cycle i at ∷ ms)) (subst (AreOffers 0) split offers) in
      may_come b s i fits (beats_in ms) (subst (AreOffers (position_of s.part)) ((clocks b s i at (h.follows.shows xs i silent come fits quiet)).beats ms) rest)

  all_may_come : (xs : List Inputs) → WriteNothing xs → AllMayCome b xs (begin b maps) → (is : List Inputs) → AllByRecursion IsInput is → WriteNothing is → AreOffers 0 (beats_in (trace n st (xs ++ is))) → AllMayCome b is (ran b maps xs)
  all_may_come xs silent come [] inputs quiet offers = tt
  all_may_come xs silent come (i ∷ is) inputs quiet offers =
      let may = next_may_come xs silent come i is inputs.0 quiet.0 offers in
      let later = all_may_come (xs ++ i ∷ []) (all_append (λ j. j.host_write ≡ false) xs (i ∷ []) silent (quiet.0, tt)) (come_both b xs (i ∷ []) (begin b maps) come (may, tt)) is inputs.1 quiet.1
      (subst (λ ys. AreOffers 0 (beats_in (trace n st ys))) (sym (append_assoc xs (i ∷ []) is)) offers) in
      (may, subst (AllMayCome b is) (run_behind b xs (i ∷ []) (begin b maps)) later)

  in_pattern : (is : List Inputs) → IsPattern n st is → IsInPattern b maps n st is
  in_pattern is w =
      let quiet = write_nothing is w.silent in
      let come = all_may_come [] tt tt is w.inputs quiet w.offers in
      let follows = h.follows.clocks is quiet come in
      record { silent = quiet; comes = come; follows = follows; never = never_stops b n is (begin b maps) st follows; history = histories b maps n st h is quiet come }

  goes_on : (is : List Inputs) (i : Inputs) → IsPattern n st (is ++ i ∷ []) → GoesOn b maps n st is i
  goes_on is i w =
      let all = in_pattern (is ++ i ∷ []) w in
      let now = follows_behind b n is (i ∷ []) (begin b maps) st all.follows in
      record {
        may = (come_behind b is (i ∷ []) (begin b maps) all.comes).0;
        goes = now.0;
        shows = now.1;
        clock = clocks b (ran b maps is).state i (shown n (words_of i) (stored_after n st is)) now.1;
      }

pub patterns_may_come : PortsShowClocks → PortsShowHistories → PatternsMayCome
patterns_may_come clocks histories b maps n st h is w = in_pattern clocks histories b maps n st h is w

pub patterns_go_on : PortsShowClocks → PortsShowHistories → PatternsGoOn
patterns_go_on clocks histories b maps n st h is i w = goes_on clocks histories b maps n st h is i w
