use Rattle.pipe_net.proofs.PipePlaces.Entries.{PointerLaws, entries_follow, entries_begin, entries_serve}
use Rattle.pipe_net.proofs.pipe_places.laws.entries_follow.Goals as goal

pub returns-clause-clock : goal.returns-clause-clock
returns-clause-clock c =
    let laws : PointerLaws = record {
      rows = record { rise = c.rows_rise.ensures; made = c.row_is_made.ensures.made; keeps = c.row_is_made.ensures.keeps; founds = c.founds_lead.ensures.rows };
      begins = c.rows_fit.ensures.begins;
      first = c.founds_lead.ensures.begins;
      changes = c.founds_lead.ensures.changes;
      commit = c.keep_slots.ensures.commit;
      host = c.keep_slots.ensures.host;
    } in
    λ l laid i t ss order holds have. entries_follow laws l laid i t ss order holds have

pub returns-clause-first : goal.returns-clause-first
returns-clause-first c = entries_begin

pub returns-clause-serve : goal.returns-clause-serve
returns-clause-serve c = entries_serve
