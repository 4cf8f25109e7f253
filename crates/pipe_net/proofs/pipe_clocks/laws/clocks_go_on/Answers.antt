use Rattle.pipe_net.proofs.PipeClocks.Standing.{StandingLaws, clocks_go_on, pipelines_start, pipelines_follow}
use Rattle.pipe_net.proofs.pipe_clocks.laws.clocks_go_on.Goals as goal

pub returns : goal.returns
returns c =
    let laws : StandingLaws = record {
      show = c.clocks_follow.ensures.shows;
      follow = c.clocks_follow.ensures.clock;
      begins = c.clocks_follow.ensures.first;
      order = c.in_order.ensures.clock;
      computes = c.computed.ensures.clock;
      in_order = c.in_order.ensures.always;
      computed = c.computed.ensures.always;
      keys = c.keys_stay.ensures.clock;
      first_keys = c.keys_stay.ensures.first;
      entries = c.entries_follow.ensures.clock;
      first_entries = c.entries_follow.ensures.first;
      serve = c.entries_follow.ensures.serve;
    } in
    record { clock = clocks_go_on laws; first = pipelines_start laws; runs = pipelines_follow laws }
