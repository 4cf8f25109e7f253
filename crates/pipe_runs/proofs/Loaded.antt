-- So do pipelines, whatever maps are loaded.
use Rattle.std.specs.Prelude.{List, []}
use Rattle.std.proofs.Common.{sym, subst, append-nil}
use Rattle.cell_core.specs.xdp_maps.declared.decl.MapDecl.{MapDecl}
use Rattle.pipe_core.specs.net_core.Nets.{Netlist}
use Rattle.pipe_core.specs.net_core.Clock.{first_stored}
use Rattle.pipe_core.specs.net_core.Trace.{NeverStops, stored_after}
use Rattle.pipe_core.specs.realization.HostHistory.Host.{load}
use Rattle.pipe_core.specs.Pipeable.{IsPipelinable}
use Rattle.pipe_net.specs.PipeForms.Parts.{design}
use Rattle.pipe_runs.specs.PipeLoads.Loaded.{PipelinesFollowLoaded, PipelinesShowLoaded}
use Rattle.pipe_runs.specs.Meeting.{FollowersMeet, PipelinesMeet}

pub pipelines_meet : PipelinesFollowLoaded → PipelinesShowLoaded → FollowersMeet → PipelinesMeet
pipelines_meet follow show meet l d names pipe leads pipelinable slots maps are sound few =
    let n : Netlist = design l d names in
    record {
      loads = subst (NeverStops n (first_stored n)) (append-nil (load maps)) (follow l d names pipe leads pipelinable maps are sound few [] tt tt).never;
      meets = meet l maps n (stored_after n (first_stored n) (load maps)) (record {
        pipelinable = subst (λ (ds : List MapDecl). IsPipelinable ds l.build) (sym are) pipelinable;
        answer = pipe.parts.stages.laid.has_answer;
        sound = sound;
        follows = record {
          clocks = λ is quiet come. (follow l d names pipe leads pipelinable maps are sound few is quiet come).runs;
          shows = λ is i quiet come fits writes. show l d names pipe leads pipelinable maps are sound few is i quiet come fits writes;
        };
      }) are few slots;
    }
