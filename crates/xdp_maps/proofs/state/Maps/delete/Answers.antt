use Rattle.xdp_maps.specs.Calls.{deleted}
use Rattle.xdp_maps.proofs.StateLemmas.{table_at, tables_set, seen_set}
use Rattle.xdp_maps.proofs.state.Maps.delete.Goals as goal

pub delete-requires-clause-kept : goal.delete-requires-clause-kept
delete-requires-clause-kept c = table_at c.self.inside.decls.items c.self.inside.tables.items c.args.map c.index.result.now c.index_mut.result.now c.self.invariant (rw (← c.self.view_is) at c.requires.map) c.index.ensures c.index_mut.ensures.value

pub invariant_of-self : goal.invariant_of-self
invariant_of-self c = tables_set c.self.inside.decls.items c.self.inside.tables.items c.args.map c.index.result.now c.delete.new.self c.self.invariant (rw (← c.self.view_is) at c.requires.map) c.index.ensures c.delete.ensures.kept

pub returns-clause-maps : goal.returns-clause-maps
returns-clause-maps c = seen_set c.self.inside.decls.items c.self.inside.tables.items c.args.self.now c.args.map c.index.result.now c.index_mut.result.now c.delete.new.self (λ d m. deleted d m c.args.key.now) c.self.view_is c.self.invariant (rw (← c.self.view_is) at c.requires.map) c.index.ensures c.index_mut.ensures.value c.delete.ensures.contents
