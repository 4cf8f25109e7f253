-- Designs of pipelines follow the machine through a load and after it.
use Rattle.std.specs.Prelude.{◌≡◌, ℕ, ◌<◌, List, [], ◌∷◌, ◌++◌, length}
use Rattle.std.proofs.Common.{sym, subst}
use Rattle.cell_core.specs.xdp_maps.declared.decl.MapDecl.{MapDecl}
use Rattle.cell_core.specs.xdp_maps.State.{MapState, IsSound, opened_state}
use Rattle.pipe_core.specs.net_core.declared.ports.Inputs.{Inputs}
use Rattle.pipe_core.specs.net_core.Ports.{words_of}
use Rattle.pipe_core.specs.net_core.Clock.{Stored, after, first_stored}
use Rattle.pipe_net.specs.block_core.Blocks.{Whole}
use Rattle.pipe_core.specs.realization.HostHistory.Host.{load}
use Rattle.pipe_core.specs.hazard_core.Tables.{decl_of, table_at, tables_of}
use Rattle.pipe_net.specs.commit_net.MapBlock.Stored.{IsFirst}
use Rattle.pipe_core.specs.History.{Trace, next}
use Rattle.pipe_core.specs.HostRuns.Inputs.{input_of}
use Rattle.pipe_net.specs.declared.parts.Part.{Part}
use Rattle.pipe_net.specs.Layout.{Layout}
use Rattle.pipe_net.specs.PipeMaps.Tables.{OpenedAreFirst}
use Rattle.pipe_net.specs.PipeForms.Parts.{design}
use Rattle.pipe_net.specs.PipeClocks.Standing.{AreFirst, FollowsAll, PipelinesFollow}
use Rattle.pipe_runs.specs.PipeAnswers.Coming.{OpenedAreSound}
use Rattle.pipe_runs.specs.PipeAnswers.Following.{FollowsRight, DesignsFollow, DesignsShow}
use Rattle.pipe_runs.specs.PipeLoads.Loaded.{PipelinesFollowLoaded, PipelinesShowLoaded}

rightly : (l : Layout) (d : Whole Part) (names : List (List ℕ)) (is : List Inputs) (t : Trace) (st : Stored) → FollowsAll l d names is t st → FollowsRight l (design l d names) is t st
rightly l d names [] t st h = tt
rightly l d names (i ∷ is) t st h = (
  λ within right. h.0 within (record { tables = right.tables; commits = right.action.commits }),
  λ come right.
      let now = h.1 come (record { tables = right.tables; commits = right.action.commits }) in
      (now.0, rightly l d names is (next l.build (input_of i) t) (after (design l d names) (words_of i) st) now.1),
)

first_maps : OpenedAreFirst → OpenedAreSound → (l : Layout) (maps : MapState) → maps.decls ≡ l.decls → IsSound maps → AreFirst l (opened_state maps.decls)
first_maps first opened l maps are sound = record {
  decls = are;
  sound = opened maps sound;
  first = λ m lt. subst (λ (ds : List MapDecl). IsFirst (decl_of ds m) (table_at (tables_of (opened_state maps.decls)) m)) are (first maps.decls m (subst (λ (ds : List MapDecl). m < length ds) (sym are) lt));
}

pub loads_follow : PipelinesFollow → OpenedAreFirst → OpenedAreSound → DesignsFollow → PipelinesFollowLoaded
loads_follow pipelines first opened designs l d names pipe goes pipelinable maps are sound few is quiet come =
    designs l pipelinable maps are sound few is quiet come (design l d names) (first_stored (design l d names))
    (rightly l d names (load maps ++ is) _ _ (pipelines l d names (opened_state maps.decls) pipe goes (first_maps first opened l maps are sound) (load maps ++ is)))

pub loads_show : PipelinesFollow → OpenedAreFirst → OpenedAreSound → DesignsShow → PipelinesShowLoaded
loads_show pipelines first opened designs l d names pipe leads pipelinable maps are sound few is i quiet come within none =
    designs l pipelinable maps are sound few is i quiet come within none (design l d names) (first_stored (design l d names))
    (rightly l d names (load maps ++ (is ++ i ∷ [])) _ _ (pipelines l d names (opened_state maps.decls) pipe leads (first_maps first opened l maps are sound) (load maps ++ (is ++ i ∷ []))))
