-- Which clocks are right.
use Rattle.std.proofs.Common.{refl, sym, ◌∙◌, subst}
use Rattle.pipe_core.specs.Machine.{flushed, host_writes, host_ready, is_idle}
use Rattle.pipe_core.specs.Agreed.{IsRightAction}
use Rattle.pipe_core.specs.Right.{ActionsAreRight}
use Rattle.pipe_core.specs.HostRuns.Silent.{silent}
use Rattle.pipe_core.proofs.FlushLaws.{flushed_at}
use Rattle.pipe_net.specs.Machine.{input_of}
use Rattle.pipe_net.specs.PipeClocks.Right.{ReadsAreRight, EmptyIsRight}
use Rattle.pipe_net.proofs.PipeClocks.Actions.{commits_at, none_at}
use Rattle.pipe_net.proofs.PipeClocks.SilentLaws.{silent_action}

pub reads_are_right : ActionsAreRight → ReadsAreRight
reads_are_right law l pipelinable w right i quiet = record {
  tables = λ k x le e. right.at.tables_are;
  commits = λ j x e.
      subst (IsRightAction l.build w.trace.state) (sym (silent_action l.build w.trace.state i quiet) ∙ e) (law l.build l.decls pipelinable (silent (input_of i)) refl w right);
}

pub empty_is_right : EmptyIsRight
empty_is_right l i s none = record {
  tables = λ k x le e. absurd (none_at s.places k x none e);
  commits = λ j x e.
      absurd (none_at s.places l.build.plan.commit x none
      (flushed_at l.build 0 s.places l.build.plan.commit x (commits_at l.build s (flushed l.build 0 s.places) j x (host_writes (host_ready l.build s) (is_idle s) s.tables (input_of i).host) e)));
}
