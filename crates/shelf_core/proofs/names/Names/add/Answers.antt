use Rattle.shelf_core.proofs.Naming.{added_over, held_missing}
use Rattle.shelf_core.proofs.names.Names.add.Goals as goal

pub returns-in-Some-clause-ok : goal.returns-in-Some-clause-ok
returns-in-Some-clause-ok c =
    added_over _ _ _ c.self.inside.entries.items c.self.inside.absent _ c.in-Some.i c.index_mut.result.now c.add.new.self (cc) c.index_mut.ensures.value c.add.ensures.ok c.self.view_is

pub returns-in_ok-bytes-in-None-clause-ok : goal.returns-in_ok-bytes-in-None-clause-ok
returns-in_ok-bytes-in-None-clause-ok c =
    rw (held_missing c.args.name.now c.self.inside.entries.items c.self.inside.absent c.args.self.now (cc) c.self.view_is, ← c.in_ok-bytes-in-None.ensures.items) c.store.ensures.ok
