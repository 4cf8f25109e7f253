use Rattle.xdp_maps.specs.Calls.{changed}
use Rattle.xdp_maps.proofs.StateLemmas.{table_at, tables_set, seen_set}
use Rattle.xdp_maps.proofs.state.Maps.rmw.Goals as goal

pub rmw-requires-clause-kept : goal.rmw-requires-clause-kept
rmw-requires-clause-kept c = table_at c.self.inside.decls.items c.self.inside.tables.items c.args.map c.index.result.now c.index_mut.result.now c.self.invariant (rw (← c.self.view_is) at c.requires.map) c.index.ensures c.index_mut.ensures.value

pub invariant_of-self : goal.invariant_of-self
invariant_of-self c = tables_set c.self.inside.decls.items c.self.inside.tables.items c.args.map c.index.result.now c.rmw.new.self c.self.invariant (rw (← c.self.view_is) at c.requires.map) c.index.ensures c.rmw.ensures.kept

pub returns-clause-maps : goal.returns-clause-maps
returns-clause-maps c = seen_set c.self.inside.decls.items c.self.inside.tables.items c.args.self.now c.args.map c.index.result.now c.index_mut.result.now c.rmw.new.self (λ d m. changed m c.args.key.now c.args.at c.args.change) c.self.view_is c.self.invariant (rw (← c.self.view_is) at c.requires.map) c.index.ensures c.index_mut.ensures.value c.rmw.ensures.contents
