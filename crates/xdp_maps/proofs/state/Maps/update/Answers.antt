use Rattle.xdp_maps.specs.Calls.{updated}
use Rattle.xdp_maps.proofs.StateLemmas.{table_at, tables_set, seen_set}
use Rattle.xdp_maps.proofs.state.Maps.update.Goals as goal

pub update-requires-clause-kept : goal.update-requires-clause-kept
update-requires-clause-kept c = table_at c.self.inside.decls.items c.self.inside.tables.items c.args.map c.index.result.now c.index_mut.result.now c.self.invariant (rw (← c.self.view_is) at c.requires.map) c.index.ensures c.index_mut.ensures.value

pub invariant_of-self : goal.invariant_of-self
invariant_of-self c = tables_set c.self.inside.decls.items c.self.inside.tables.items c.args.map c.index.result.now c.update.new.self c.self.invariant (rw (← c.self.view_is) at c.requires.map) c.index.ensures c.update.ensures.kept

pub returns-clause-maps : goal.returns-clause-maps
returns-clause-maps c = seen_set c.self.inside.decls.items c.self.inside.tables.items c.args.self.now c.args.map c.index.result.now c.index_mut.result.now c.update.new.self (λ d m. updated d m c.args.key.now c.args.value.now c.args.flags) c.self.view_is c.self.invariant (rw (← c.self.view_is) at c.requires.map) c.index.ensures c.index_mut.ensures.value c.update.ensures.contents
