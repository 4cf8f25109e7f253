-- The clocks of a pipeline are those of the machine.
use Rattle.std.specs.Prelude.{ℕ, List}
use Rattle.block_core.specs.net_core.declared.ports.Inputs.{Inputs}
use Rattle.block_core.specs.net_core.Ports.{port_list, words_of}
use Rattle.block_core.specs.net_core.Clock.{Stored, done, shown}
use Rattle.block_core.specs.net_core.Trace.{IsInput}
use Rattle.block_core.specs.Blocks.{Whole, first_of}
use Rattle.block_core.specs.Parts.{ClockOfParts, stored_of}
use Rattle.block_core.proofs.LinkedLaws.{linked, starts_as_parts}
use Rattle.pipe_core.specs.Machine.{output}
use Rattle.pipe_core.specs.History.{Trace, IsInOrder}
use Rattle.pipe_core.specs.Computed.{IsComputed}
use Rattle.pipe_net.specs.declared.parts.Part.{Part}
use Rattle.pipe_net.specs.Machine.{input_of, MayCome, Shows}
use Rattle.pipe_net.specs.Layout.{Layout}
use Rattle.pipe_net.specs.Relation.{Relates}
use Rattle.pipe_net.specs.PipeFrames.Following.{FramesBegin}
use Rattle.pipe_net.specs.PipeMarks.Following.{MarksBegin}
use Rattle.pipe_net.specs.PipeTurns.Following.{ActionBegins}
use Rattle.pipe_net.specs.PipeMaps.Tables.{TablesBegin}
use Rattle.pipe_net.specs.PipePlaces.Following.{PacketsBegin}
use Rattle.pipe_net.specs.PipeForms.Forming.{PipelinesAreFormed}
use Rattle.pipe_net.specs.PipeForms.Parts.{outputs_of, design}
use Rattle.pipe_net.specs.PipeClocks.Following.{IsPipeline, IsFollowable, Follows, ClocksShow, ClocksFollow, BeginRelated}
use Rattle.pipe_net.proofs.PipeClocks.Fitting.{first_stored as first_fits}
use Rattle.pipe_net.proofs.PipeClocks.Clock.{ClockLaws, IsSeen, related_then}
use Rattle.pipe_net.proofs.PipeClocks.Linking.{linkable}
use Rattle.pipe_net.proofs.PipeClocks.Going.{all_parts_go}
use Rattle.pipe_net.proofs.PipeClocks.Showing.{all_shown, shown_as}

module _ (laws : ClockLaws) (l : Layout) (d : Whole Part) (names : List (List ℕ)) (pipe : IsPipeline l d) where
  -- a clock of the design is one of its parts
  abbrev parts_clock : (i : Inputs) (ss : Part → Stored) → Type 0
  parts_clock i ss = ClockOfParts d (design l d names) (outputs_of l) (words_of i) ss

  by_parts : (i : Inputs) (t : Trace) (ss : Part → Stored) → Relates l d t.state ss → parts_clock i ss
  by_parts i t ss related =
      linked Part d names port_list (outputs_of l) (words_of i) ss (linkable d port_list (outputs_of l) (laws.formed l d pipe.parts).0) (λ p a. record { registers = (related.stored p a).registers; memories = (related.stored p a).memories })

  module _ (i : Inputs) (t : Trace) (ss : Part → Stored) (order : IsInOrder l.build t) (computed : IsComputed l.build t) (fits : IsInput i) (follow : IsFollowable l i t.state) (related : Relates l d t.state ss) where
    abbrev k : parts_clock i ss
    k = by_parts i t ss related

    seen : IsSeen l d i t ss k.env
    seen = record { pipe = pipe; order = order; computed = computed; fits = fits; follow = follow; related = related; sees = k.sees }

    pub one_shown : Shows (output l.build (input_of i) t.state) (shown (design l d names) (words_of i) (stored_of d ss))
    one_shown = shown_as _ _ _ k.shown (all_shown laws l d i t ss k.env seen)

    pub one_clock : MayCome l.build t.state i → Follows l d names i t.state ss
    one_clock come = record {
      goes = k.goes (all_parts_go laws l d i t ss k.env seen);
      shown = one_shown;
      next = λ p. done k.env (d.block p).statement (ss p);
      after = k.after;
      related = related_then laws l d i t ss k.env seen come;
    }

pub clocks_show : ClockLaws → ClocksShow
clocks_show laws l d names pipe i t ss order computed fits follow related = one_shown laws l d names pipe i t ss order computed fits follow related

pub clocks_follow : ClockLaws → ClocksFollow
clocks_follow laws l d names pipe i t ss order computed come follow related = one_clock laws l d names pipe i t ss order computed come.fits follow related come

-- ---- before the first clock
pub record FirstLaws : Type 0 where
  pub formed : PipelinesAreFormed
  pub frames : FramesBegin
  pub packets : PacketsBegin
  pub marks : MarksBegin
  pub action : ActionBegins
  pub tables : TablesBegin

pub begin_related : FirstLaws → BeginRelated
begin_related laws l d names maps pipe decls empty =
    let f = laws.frames l d maps pipe.parts.sized pipe.parts.frames in
    let a = laws.action l d maps pipe.parts.actions in
    let b = laws.tables l d pipe.parts.actions maps pipe.parts.maps decls empty in
    record {
      first = λ p. first_of (d.block p);
      stored = starts_as_parts Part d names port_list (outputs_of l);
      related = record {
        given = 0;
        packet_numbers = f.0;
        stored = λ p among. first_fits d port_list (d.block p) ((laws.formed l d pipe.parts).0.blocks p among);
        frames = f.1;
        packets = laws.packets l d maps;
        marks = laws.marks l maps (λ p. first_of (d.block p));
        maps = record { decls = b.decls; long = a.long; action = a.action; tables = b.tables };
      };
    }
