-- The machine goes on while the host only reads.
use Rattle.std.specs.Prelude.{◌≡◌, false, List, [], ◌∷◌}
use Rattle.std.specs.List.{AllByRecursion}
use Rattle.std.proofs.Common.{refl, sym, ◌∙◌, subst}
use Rattle.list_laws.proofs.OptionLaws.{none_unless}
use Rattle.cell_core.specs.xdp_maps.declared.decl.MapDecl.{MapDecl}
use Rattle.pipe_core.specs.net_core.declared.ports.Inputs.{Inputs}
use Rattle.cell_core.specs.Formed.{AllFit}
use Rattle.pipe_core.specs.History.{Trace, next, begin, KeepsOrder, IsAlwaysInOrder}
use Rattle.pipe_core.specs.SeenChanges.{SeenChanges, Seen, observed, watch_start, seen_after, views_after, rest_of}
use Rattle.pipe_core.specs.SeenChanges as seen_changes
use Rattle.pipe_core.specs.Pipeable.{IsPipelinable}
use Rattle.pipe_core.specs.Agreed as agreed
use Rattle.pipe_core.specs.Right.{IsRight, ActionsAreRight, KeepsRight, IsAlwaysRight}
use Rattle.pipe_core.specs.HostRuns.Inputs.{input_of, access_in}
use Rattle.pipe_core.specs.HostRuns.Silent.{silent, ReadsAreSilent}
use Rattle.pipe_net.specs.Layout.{Layout}
use Rattle.pipe_net.specs.PipeMaps.Keys.{KeysFollow, KeysBegin}
use Rattle.pipe_net.proofs.PipeClocks.SilentLaws.{silent_action}
use Rattle.pipe_runs.specs.PipeAnswers.Going.{IsGoing, AreRightClocks, RightActions, GoOn, BeginGoing, RunsAreRight}

pub right_actions : ActionsAreRight → RightActions
right_actions law l pipelinable i quiet t going = record {
  tables = λ k x le e. going.right.at.tables_are;
  action = record {
    tables = λ j x e. going.right.at.tables_are;
    commits = λ j x e.
        subst (agreed.IsRightAction l.build t.state) (sym (silent_action l.build t.state i quiet) ∙ e)
        (law l.build l.decls pipelinable (silent (input_of i)) refl (record { trace = t; seen = going.seen; views = going.views }) going.right);
  };
}

pub go_on : ActionsAreRight → KeepsOrder → KeepsRight → KeysFollow → ReadsAreSilent → GoOn
unfolding next observed
go_on actions order keeps keys reads l pipelinable i quiet t going =
    let b = l.build in
    let q = silent (input_of i) in
    let action = seen_changes.action_in b q t.state in
    let same : next b (input_of i) t ≡ next b q t = (reads b (input_of i) (access_in i) refl (none_unless i.host_write i.host_data quiet)).trace t in
    let kept : IsRight b l.decls (record { trace = next b q t; seen = seen_after b t.state (rest_of b t.state) action going.seen; views = views_after b t.state action going.views }) = keeps b l.decls pipelinable q refl (record { trace = t; seen = going.seen; views = going.views }) going.order going.right in
    record {
      seen = seen_after b t.state (rest_of b t.state) action going.seen;
      views = views_after b t.state action going.views;
      order = order b (input_of i) t going.order;
      right = subst (λ (u : Trace). IsRight b l.decls (record { trace = u; seen = seen_after b t.state (rest_of b t.state) action going.seen; views = views_after b t.state action going.views })) (sym same) kept;
      keys = keys b (input_of i) t.state (subst (λ (ds : List MapDecl). AllFit ds b.program.sites) (sym going.right.at.decls_are) pipelinable.fits) (right_actions actions l pipelinable i quiet t going).action.commits going.keys;
    }

pub begin_going : IsAlwaysInOrder → IsAlwaysRight → KeysBegin → BeginGoing
begin_going order right keys l pipelinable maps are sound = record {
  seen = λ k. [];
  views = (watch_start l.build maps).views;
  order = order l.build maps [];
  right = subst (λ (ds : List MapDecl). IsRight l.build ds (watch_start l.build maps)) are (right l.build maps (subst (λ (ds : List MapDecl). IsPipelinable ds l.build) (sym are) pipelinable) sound [] tt);
  keys = keys maps sound;
}

pub all_right : RightActions → GoOn → (l : Layout) → IsPipelinable l.decls l.build → (is : List Inputs) → AllByRecursion (λ i. i.host_write ≡ false) is → (t : Trace) → IsGoing l t → AreRightClocks l is t
all_right actions on l pipelinable [] quiet t going = tt
all_right actions on l pipelinable (i ∷ is) quiet t going = (actions l pipelinable i quiet.0 t going, all_right actions on l pipelinable is quiet.1 (next l.build (input_of i) t) (on l pipelinable i quiet.0 t going))

pub runs_are_right : RightActions → GoOn → BeginGoing → RunsAreRight
runs_are_right actions on first l pipelinable maps are sound is quiet = all_right actions on l pipelinable is quiet (begin l.build maps) (first l pipelinable maps are sound)
