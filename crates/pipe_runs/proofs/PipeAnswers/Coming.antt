-- A load may come.
use Rattle.std.specs.Prelude.{◌≡◌, Option, None, Some, List, [], ◌∷◌, ◌++◌, map as map_list}
use Rattle.std.specs.List.{AllByRecursion}
use Rattle.std.proofs.Common.{sym, subst}
use Rattle.std.proofs.lemmas.List.{get_or-map, length-map}
use Rattle.std.specs.FinMap as map
use Rattle.cell_core.specs.beat_core.declared.beat.Beat.{Beat}
use Rattle.cell_core.specs.xdp_maps.declared.decl.MapDecl.{MapDecl}
use Rattle.cell_core.specs.xdp_maps.Contents.{Contents, IsOver, opened}
use Rattle.cell_core.specs.xdp_maps.Laws.{KeepsOver}
use Rattle.cell_core.specs.xdp_maps.State.{no_decl, decl_at, opened_state}
use Rattle.pipe_core.specs.net_core.declared.ports.Inputs.{Inputs}
use Rattle.pipe_core.specs.realization.HostHistory.Host.{load}
use Rattle.pipe_core.specs.Machine.{Build, beat_over}
use Rattle.pipe_core.specs.History.{Trace, next, run, begin}
use Rattle.pipe_core.specs.HostRuns.Inputs.{input_of}
use Rattle.pipe_core.specs.HostRuns.Fits.{IsHostClock, LoadsFit}
use Rattle.pipe_core.specs.HostRuns.Loads.{LoadsTraces}
use Rattle.pipe_runs.specs.PipeAnswers.Coming.{AllMayCome, HostMayCome, LoadsMayCome, OpenedAreSound}
use Rattle.pipe_runs.proofs.PipeAnswers.Loading.{no_beat}

no_some : {X : Type 0} (o : Option Beat) (x : Beat) → o ≡ None → o ≡ Some x → X
no_some None x e f = cc
no_some (Some y) x e f = cc

pub host_may_come : HostMayCome
host_may_come b s i offers fits = record {
  fits = fits;
  offer = λ x e. no_some (beat_over b s (input_of i)) x (no_beat b s i offers) e;
  room = λ x e. no_some (beat_over b s (input_of i)) x (no_beat b s i offers) e;
}

before : (b : Build) (xs ys : List Inputs) → AllByRecursion IsHostClock xs → (t : Trace) → AllMayCome b ys (run b (map_list input_of xs) t) → AllMayCome b (xs ++ ys) t
before b [] ys h t g = g
before b (x ∷ xs) ys h t g = (host_may_come b t.state x h.0.offers h.0.fits, before b xs ys h.1 (next b (input_of x) t) g)

pub loads_may_come : LoadsTraces → LoadsFit → LoadsMayCome
loads_may_come loads fit b maps sound few is come =
    before b (load maps) is (fit maps sound few).load (begin b (opened_state maps.decls)) (subst (AllMayCome b is) (sym (loads b maps sound)) come)

pub opened_are_sound : ((d : MapDecl) (c : Contents) → KeepsOver d c) → OpenedAreSound
opened_are_sound keeps maps sound = record {
  beside = length-map maps.decls opened;
  limits = sound.limits;
  over = λ m lt. subst (IsOver (decl_at maps m)) (sym (get_or-map opened maps.decls m no_decl map.empty lt)) ((keeps (decl_at maps m) map.empty).opens (sound.limits m lt));
}
