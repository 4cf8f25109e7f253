use Rattle.std.proofs.Common.{◌∙◌, rules}
use Rattle.realization.proofs.beat_core_laws.WordLaws.{written_bytes}
use Rattle.pipe_core.proofs.arrived.bytes_of_word.Goals as goal

pub returns : goal.returns
returns c = c.write_u64.ensures ∙ written_bytes 8 c.args.word (search rules)
