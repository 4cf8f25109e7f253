use Rattle.std.proofs.Common.{arith}
use Rattle.port_drive.proofs.DumpLemmas.{first_bytes}
use Rattle.port_drive.proofs.dumping.bytes_of_words.Goals as goal

pub returns : goal.returns
returns c n le = first_bytes c.loop-i.bytes c.args.words.now c.loop-i.i n (omega arith) c.loop-i.invariant le
