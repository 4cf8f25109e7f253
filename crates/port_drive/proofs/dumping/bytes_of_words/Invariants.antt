use Rattle.std.proofs.Common.{◌≡◌, ◌*◌, take}
use Rattle.std.specs.List.{flat_map}
use Rattle.beat_core.specs.Words.{low_bytes}
use Rattle.port_drive.proofs.dumping.bytes_of_words.Given as goal

abbrev pub invariant-loop-i : goal.invariant-loop-i
invariant-loop-i l = take (8 * l.i) l.bytes ≡ flat_map (low_bytes 8) (take l.i l.words)
