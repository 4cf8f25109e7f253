use Rattle.std.proofs.Common.{sym, arith}
use Rattle.pipe_design.proofs.Answering.{any_word}
use Rattle.pipe_design.proofs.answer.has_byte.Goals as goal

pub returns-then-byte-word : goal.returns-then-byte-word
returns-then-byte-word c = sym (any_word c.args.frame.now c.args.word c.loop-byte.byte-index _ (omega arith) c.if-byte-word.true)
