use Rattle.shelf_core.proofs.Naming.{faults_over}
use Rattle.shelf_core.proofs.names.Names.set_faults.Goals as goal

pub returns-in-Some-clause-faults : goal.returns-in-Some-clause-faults
returns-in-Some-clause-faults c =
    (faults_over _ _ c.self.inside.entries.items c.self.inside.absent _ c.in-Some.i c.index_mut.result.now c.set_faults.new.self (cc) c.index_mut.ensures.value c.set_faults.ensures c.self.view_is).0

pub returns-in-Some-clause-held : goal.returns-in-Some-clause-held
returns-in-Some-clause-held c =
    (faults_over c.args.name.now c.args.faults c.self.inside.entries.items c.self.inside.absent _ c.in-Some.i c.index_mut.result.now c.set_faults.new.self (cc) c.index_mut.ensures.value c.set_faults.ensures c.self.view_is).1
