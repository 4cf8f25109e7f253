use Rattle.std.specs.Prelude.{◌==◌, ◌/◌}
use Rattle.std.specs.List.{list_any}
use Rattle.std.proofs.Common.{◌≡◌, false, take, map}
use Rattle.pipe_design.proofs.answer.has_byte.Given as goal

abbrev pub invariant-loop-byte : goal.invariant-loop-byte
invariant-loop-byte l = list_any (λ n. n == l.word) (map (λ x. x.at / 8) (take l.byte-index l.frame)) ≡ false
