use Rattle.pipe_net.proofs.PipeClocks.Clock.{ClockLaws}
use Rattle.pipe_net.proofs.PipeClocks.Clocks.{FirstLaws, clocks_show, clocks_follow, begin_related}
use Rattle.pipe_net.proofs.pipe_clocks.laws.clocks_follow.Goals as goal

pub returns : goal.returns
returns c =
    let laws : ClockLaws = record {
      declared = c.all_are_declared.ensures;
      formed = c.pipelines_are_formed.ensures.formed;
      packets = c.packets_are_shown.ensures.held;
      reloads = c.reloads_are_shown.ensures;
      returns = c.places_return.ensures;
      allow = c.host_is_served.ensures.writes;
      host = c.host_is_shown.ensures;
      action = c.action_is_shown.ensures.action;
      targets = c.action_is_shown.ensures.targets;
      changes = c.changes_are_shown.ensures;
      value = c.host_is_served.ensures.reads;
      answers = c.packets_are_shown.ensures.answers;
      frames = c.frames_follow.ensures.clock;
      packets_follow = c.packets_follow.ensures.clock;
      marks_follow = c.marks_follow.ensures.clock;
      action_follows = c.action_follows.ensures.clock;
      tables_follow = c.tables_follow.ensures.clock;
    } in
    let first : FirstLaws = record {
      formed = c.pipelines_are_formed.ensures.formed;
      frames = c.frames_follow.ensures.first;
      packets = c.packets_follow.ensures.first;
      marks = c.marks_follow.ensures.first;
      action = c.action_follows.ensures.first;
      tables = c.tables_follow.ensures.first;
    } in
    record { shows = clocks_show laws; clock = clocks_follow laws; first = begin_related first }
