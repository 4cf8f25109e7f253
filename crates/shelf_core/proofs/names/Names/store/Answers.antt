use Rattle.shelf_core.proofs.Naming.{stored_over, stored_new}
use Rattle.shelf_core.proofs.names.Names.store.Goals as goal

pub returns-in-Some-clause-ok : goal.returns-in-Some-clause-ok
returns-in-Some-clause-ok c =
    stored_over _ _ c.self.inside.entries.items c.self.inside.absent _ c.in-Some.i c.index_mut.result.now c.set_bytes.new.self (cc) c.index_mut.ensures.value c.set_bytes.ensures c.self.view_is

pub returns-in_ok-push-in-None-clause-ok : goal.returns-in_ok-push-in-None-clause-ok
returns-in_ok-push-in-None-clause-ok c =
    rw c.in_ok-push-in-None.ensures.items (stored_new _ _ c.self.inside.entries.items c.self.inside.absent _ c.in_ok-entry-in-None.entry (cc) c.in_ok-entry-in-None.ensures c.self.view_is)
