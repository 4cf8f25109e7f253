-- What the parts say to one another in a clock.
use Rattle.std.specs.Prelude.{◌≤◌, length}
use Rattle.std.proofs.Common.{arith}
use Rattle.block_core.specs.net_core.declared.ports.Inputs.{Inputs}
use Rattle.block_core.specs.net_core.Ports.{port_list, words_of}
use Rattle.block_core.specs.net_core.Value.{Env}
use Rattle.block_core.specs.net_core.Clock.{Stored, done}
use Rattle.block_core.specs.net_core.Trace.{IsInput}
use Rattle.block_core.specs.declared.name.Name.{Name}
use Rattle.block_core.specs.Blocks.{Whole}
use Rattle.block_core.specs.Parts.{Sees}
use Rattle.block_core.specs.Formed.{names_scope, IsThere, IsFormed}
use Rattle.hazard_core.specs.cell_core.Formed.{AllFit}
use Rattle.turn_net.specs.Nets.{signals, all_read}
use Rattle.pipe_net.specs.PipeTurns.Parts.{action_nets}
use Rattle.pipe_core.specs.Machine.{State, clock}
use Rattle.pipe_core.specs.History.{Trace, IsInOrder}
use Rattle.pipe_core.specs.Computed.{IsComputed}
use Rattle.pipe_net.specs.declared.parts.Part.{Part}
use Rattle.pipe_net.specs.Machine.{input_of, MayCome}
use Rattle.pipe_net.specs.Layout.{Layout, program_of, last_of, commit_of}
use Rattle.pipe_net.specs.Relation.{HoldMaps, Relates}
use Rattle.pipe_net.specs.Saying.{ShowReloads, ShowReturns, ShowChanges, ShowAnswers}
use Rattle.pipe_net.specs.Standing.{ShowPackets}
use Rattle.pipe_net.specs.PipeFrames.Returning.{PlacesReturn}
use Rattle.pipe_net.specs.PipeFrames.Following.{OthersSay, ShowFrames, FramesGo, FramesFollow}
use Rattle.pipe_net.specs.PipeMarks.Following.{MarksAreFit, ReloadsAreShown, MarksFollow}
use Rattle.pipe_net.specs.PipeTurns.Hosting.{ShowsHost, HostIsShown}
use Rattle.pipe_net.specs.PipeTurns.Acting.{ActionsAreFit, ShowsAction, ShowsTargets, ActionIsShown, TargetsAreShown}
use Rattle.pipe_net.specs.PipeTurns.Following.{ActionFollows}
use Rattle.pipe_net.specs.PipeMaps.Premises.{MapsAreFit, IsMapClock, HasMaps}
use Rattle.pipe_net.specs.PipeMaps.Tables.{TablesFollow}
use Rattle.pipe_net.specs.PipeMaps.Saying.{ChangesAreShown, ValueIsShown, MapsLetWrite}
use Rattle.pipe_net.specs.PipePlaces.Parts.{PlacesAreFit}
use Rattle.pipe_net.specs.PipePlaces.Shown.{PacketsAreShown, AnswersAreShown}
use Rattle.pipe_net.specs.PipePlaces.Following.{PacketsFollow}
use Rattle.pipe_net.specs.PipeForms.Parts.{outputs_of, AreParts}
use Rattle.pipe_net.specs.PipeForms.Declared.{AreAllDeclared, AllAreDeclared}
use Rattle.pipe_net.specs.PipeForms.Forming.{PipelinesAreFormed}
use Rattle.pipe_net.specs.PipeClocks.Following.{IsPipeline, IsFollowable}
use Rattle.pipe_net.proofs.PipeClocks.Fitting.{AreOfWidths, all_fit, stored_stays}
use Rattle.pipe_net.proofs.PipeClocks.Fits.{are_fit, fit_behind}
use Rattle.pipe_net.proofs.PipeClocks.Some.{sources_some, word_some, place_some, targets_some, action_some, chosen_some, operations_some, written_some, change_some, marks_some, reloads_some}
use Rattle.pipe_net.proofs.PipeClocks.Inputs.{inputs_fit}

-- the laws of the parts, and of what is first
pub record ClockLaws : Type 0 where
  pub declared : AllAreDeclared
  pub formed : PipelinesAreFormed
  pub packets : PacketsAreShown
  pub reloads : ReloadsAreShown
  pub returns : PlacesReturn
  pub allow : MapsLetWrite
  pub host : HostIsShown
  pub action : ActionIsShown
  pub targets : TargetsAreShown
  pub changes : ChangesAreShown
  pub value : ValueIsShown
  pub answers : AnswersAreShown
  pub frames : FramesFollow
  pub packets_follow : PacketsFollow
  pub marks_follow : MarksFollow
  pub action_follows : ActionFollows
  pub tables_follow : TablesFollow

-- A clock in which the parts store what a state of the machine says.
pub record IsSeen (l : Layout) (d : Whole Part) (i : Inputs) (t : Trace) (ss : Part → Stored) (v : Env (Name Part)) : Type 0 where
  pub pipe : IsPipeline l d
  pub order : IsInOrder l.build t
  pub computed : IsComputed l.build t
  pub fits : IsInput i
  pub follow : IsFollowable l i t.state
  pub related : Relates l d t.state ss
  pub sees : Sees d (words_of i) ss v

module _ (laws : ClockLaws) (l : Layout) (d : Whole Part) (i : Inputs) (t : Trace) (ss : Part → Stored) (v : Env (Name Part)) (h : IsSeen l d i t ss v) where
  abbrev parts : AreParts l d
  parts = h.pipe.parts

  pub all : AreAllDeclared l d parts
  all = laws.declared l d parts

  abbrev pub formed : IsFormed d port_list (outputs_of l)
  formed = (laws.formed l d parts).0

  abbrev s : State
  s = t.state

  -- ---- the nets that parts read have numbers of their widths
  pub widths : AreOfWidths (names_scope d port_list) (IsThere d) v
  widths = all_fit d port_list (words_of i) ss v h.sees h.related.stored (inputs_fit i h.fits) formed.blocks formed.ordered

  pub marks_fit : MarksAreFit l d parts.marks v
  marks_fit k w = (are_fit d v widths _ (all.marks k w).marks (marks_some l d parts formed k w), are_fit d v widths _ (all.marks k w).reloads (reloads_some l d parts formed k w))

  pub actions_fit : ActionsAreFit l d parts.actions v
  actions_fit = record {
    records = fit_behind v (signals (action_nets l)) (all_read l.records) (are_fit d v widths _ all.action (action_some l d parts formed));
    chosen = are_fit d v widths _ all.chosen (chosen_some l d parts formed);
    targets = λ m w. are_fit d v widths _ (all.maps m w).targets (targets_some l d parts formed m w);
  }

  pub maps_fit : MapsAreFit l d parts.actions parts.maps v
  maps_fit m w = record {
    operations = are_fit d v widths _ (all.maps m w).operations (operations_some l d parts formed m w);
    written = are_fit d v widths _ (all.maps m w).written (written_some l d parts formed m w);
    change = are_fit d v widths _ (all.maps m w).change (change_some l d parts formed m w);
  }

  pub places_fit : PlacesAreFit l d parts.stages v
  places_fit = record {
    sources = are_fit d v widths _ all.held.sources (sources_some l d parts formed);
    words = λ j w. are_fit d v widths _ (all.words j w) (word_some l d parts formed j w);
    places = λ k w. are_fit d v widths _ (all.places k w) (place_some l d parts formed k w);
  }

  -- ---- what is shown
  packets : ShowPackets l s v
  packets = laws.packets l d parts.sized parts.stages.laid parts.parts i t ss v h.computed h.related.packets h.sees

  reloads : ShowReloads l s v
  reloads = laws.reloads l d parts.sized parts.marks parts.parts i s ss v h.related.marks h.sees h.related.stored marks_fit packets

  pub returns : ShowReturns l s v
  returns = laws.returns l d parts.sized parts.frames parts.parts i s ss v h.related.given h.related.packet_numbers h.related.frames h.sees reloads

  fit_sites : AllFit l.decls (program_of l).sites
  fit_sites = parts.stages.laid.staged.fits

  pub has_maps : HasMaps l d parts.actions
  has_maps = record { sized = parts.sized; parts = parts.maps; places = parts.parts; within = commits_within; fits = fit_sites }
    where
      commits_within : commit_of l ≤ last_of l
      commits_within = let a = parts.sized.small.commit in let b = parts.sized.commit in let c = parts.sized.last in omega (arith, a, b, c)

  pub host : ShowsHost l i s v
  host = laws.host l d parts.sized parts.actions parts.parts (laws.allow l d parts.actions has_maps) i s ss v h.related.given h.related.packet_numbers h.related.frames h.related.maps h.sees returns

  action : ShowsAction l d parts.actions i s v
  action = laws.action l d parts.sized parts.actions parts.parts i s ss v h.related.maps h.sees actions_fit returns host packets

  targets : ShowsTargets l d parts.actions i s v
  targets = laws.targets l d parts.sized parts.actions parts.parts i s ss v h.related.maps h.sees actions_fit packets h.follow.right

  map_clock : IsMapClock l d parts.actions has_maps.parts i s ss v
  unfolding has_maps
  map_clock = record { held = h.related.maps; sees = h.sees; fit = maps_fit; packets = packets; host = host; actions = action; targets = targets; right = h.follow.right; keys = h.follow.keys }

  changes : ShowChanges l (input_of i) s v
  changes = laws.changes l d parts.actions has_maps i s ss v map_clock

  answers : ShowAnswers l s v
  answers = laws.answers l d parts.sized parts.stages parts.parts i s ss v h.sees h.related.stored packets

  others : OthersSay l i s v
  others = record { reload = reloads; stays = action.stays; answer = answers }

  frames_follow : ShowFrames l i s (length l.words) v × (MayCome l.build s i → FramesGo l d i s ss v)
  frames_follow = laws.frames l d parts.sized (record { answer = parts.stages.laid.has_answer; changed = h.pipe.changed }) parts.frames parts.parts i s ss v h.related.given h.related.packet_numbers h.related.stored h.related.frames h.sees others

  pub frames : ShowFrames l i s (length l.words) v
  frames = frames_follow.0

  -- ---- what is stored after it
  abbrev next : Part → Stored
  next p = done v (d.block p).statement (ss p)

  maps_then : HoldMaps l (clock l.build (input_of i) s) next
  maps_then =
      let a = laws.action_follows l d parts.sized parts.actions parts.parts i s ss v h.related.maps h.sees actions_fit returns host packets h.follow.right in
      let b = laws.tables_follow l d parts.actions has_maps i s ss v map_clock in
      record { decls = b.decls; long = a.long; action = a.action; tables = b.tables }

  pub related_then : MayCome l.build s i → Relates l d (clock l.build (input_of i) s) next
  related_then come =
      let f = frames_follow.1 come in
      record {
        given = f.given;
        packet_numbers = f.packet_numbers;
        stored = stored_stays d port_list (words_of i) ss v h.sees h.related.stored (inputs_fit i h.fits) formed.blocks formed.ordered formed.statements;
        frames = f.held;
        packets = laws.packets_follow l d parts.sized parts.stages parts.parts i t ss v h.order h.computed h.related.packets h.related.maps h.sees h.related.stored places_fit h.follow.served frames.advances frames.frame;
        marks = laws.marks_follow l d parts.sized parts.marks parts.parts fit_sites i s ss v h.related.marks h.sees h.related.stored marks_fit packets frames.advances changes h.related.maps.decls;
        maps = maps_then;
      }
