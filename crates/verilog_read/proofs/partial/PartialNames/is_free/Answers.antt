use Rattle.verilog_read.proofs.Free.{register_free, memory_free}
use Rattle.verilog_read.proofs.partial.PartialNames.is_free.Goals as goal

pub returns-in-Register : goal.returns-in-Register
returns-in-Register c = register_free c.self.inside.design c.args.self.now _ _ _ _ c.in-Register.k _ c.args.target c.self.view_is c.self.invariant c.in-Register.is cc

pub returns-in-Memory : goal.returns-in-Memory
returns-in-Memory c = memory_free c.self.inside.design c.args.self.now _ _ _ _ c.in-Memory.k _ c.args.target c.self.view_is c.self.invariant c.in-Memory.is cc
