use Rattle.std.proofs.Common.{arith}
use Rattle.std.proofs.lemmas.Grind.{common_steps}
use Rattle.shelf_core.specs.Memory.{LeavesListed, held_in}
use Rattle.shelf_core.specs.Plan.{next_left}
use Rattle.shelf_core.proofs.Leaving.{leaves_front}
use Rattle.shelf_core.proofs.mem_shelf.MemShelfShelf.append.Goals as goal

pub returns-then-is_err-clause-kept : goal.returns-then-is_err-clause-kept
returns-then-is_err-clause-kept c =
    let listed : LeavesListed (next_left c.args.self.now.writes) (held_in c.args.self.now c.args.name.now) c.args.bytes.now (held_in c.write_fault.new.self c.args.name.now) = grind (arith, common_steps) in
    leaves_front _ _ _ _ listed
