use Rattle.xdp_maps.proofs.StateLemmas.{table_at}
use Rattle.xdp_maps.proofs.state.Maps.entry.Goals as goal

pub entry-requires-clause-kept : goal.entry-requires-clause-kept
entry-requires-clause-kept c = table_at c.self.inside.decls.items c.self.inside.tables.items c.args.map c.index-2.result.now c.index.result.now c.self.invariant (rw (← c.self.view_is) at c.requires.map) c.index-2.ensures c.index.ensures
