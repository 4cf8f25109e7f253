use Rattle.std.proofs.Common.{◌≡◌, length, min, ap, arith}
use Rattle.realization.specs.beat_core.Beats.{bytes_of_beat}
use Rattle.realization.proofs.beat_core_laws.WordLaws.{length-low_bytes, prefix_is}
use Rattle.realization.proofs.list_laws_laws.WrittenLaws.{written_to}
use Rattle.pipe_core.proofs.arrived.write_beat.Goals as goal

pub overwrite-requires : goal.overwrite-requires
overwrite-requires c =
    let prefix = prefix_is c.min-count.result c.args.beat.now.bytes _ _ c.min-count.ensures c.bytes_of_word-bytes.ensures in
    omega (arith, ap length prefix)

pub returns-clause-end : goal.returns-clause-end
returns-clause-end c = omega (arith, length-low_bytes (min c.args.beat.now.bytes 8) c.args.beat.now.word)

pub returns-clause-prefix : goal.returns-clause-prefix
returns-clause-prefix c =
    let prefix = prefix_is c.min-count.result c.args.beat.now.bytes _ _ c.min-count.ensures c.bytes_of_word-bytes.ensures in
    let len : length (bytes_of_beat c.args.beat.now) ≡ c.min-count.result = omega (arith, length-low_bytes (min c.args.beat.now.bytes 8) c.args.beat.now.word) in
    written_to _ _ _ _ _ _ _ (omega arith) prefix len c.overwrite.ensures
