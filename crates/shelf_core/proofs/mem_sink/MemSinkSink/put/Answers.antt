use Rattle.std.proofs.Common.{Some, arith}
use Rattle.std.proofs.lemmas.Grind.{common_steps}
use Rattle.shelf_core.specs.Memory.{LeavesListed}
use Rattle.shelf_core.specs.Plan.{next_left}
use Rattle.shelf_core.proofs.Leaving.{leaves_front}
use Rattle.shelf_core.proofs.mem_sink.MemSinkSink.put.Goals as goal

pub returns-then-is_err-clause-kept : goal.returns-then-is_err-clause-kept
returns-then-is_err-clause-kept c =
    let listed : LeavesListed (next_left c.args.self.now.puts) (Some c.args.self.now.bytes) c.args.bytes.now (Some c.extend_from_slice.new.self.items) = grind (arith, common_steps) in
    leaves_front _ _ _ _ listed
