use Rattle.pipe_net.proofs.PipePlaces.Following.{RowLaws, packets_follow, packets_begin}
use Rattle.pipe_net.proofs.pipe_places.laws.packets_follow.Goals as goal

pub returns-clause-clock : goal.returns-clause-clock
returns-clause-clock c =
    let laws : RowLaws = record {
      cells = record { rise = c.rows_rise.ensures; have = c.have_values.ensures; some = c.divisors_are_some.ensures };
      begins = c.rows_fit.ensures.begins;
      rows = c.rows_fit.ensures.rows;
      made = c.row_is_made.ensures.made;
      keeps = c.row_is_made.ensures.keeps;
      placed = c.stages_are_placed.ensures.placed;
      lists = c.stages_are_placed.ensures.lists;
      computed = c.computed.ensures.clock;
    }
    in
    λ l d sized whole parts i t ss v order computed holds maps sees stored fit served says shown. packets_follow laws l d sized whole parts i t ss v order computed holds maps sees stored fit served says shown

pub returns-clause-first : goal.returns-clause-first
returns-clause-first c = packets_begin
