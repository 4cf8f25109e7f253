use Rattle.std.proofs.Common.{◌≡◌, ◌==◌, drop}
use Rattle.std.specs.List.{list_all}
use Rattle.xdp_object.proofs.map_records.record.are_zero.Given as goal

-- the bytes so far are zero
abbrev pub invariant-loop-byte : goal.invariant-loop-byte
invariant-loop-byte l = list_all (λ b. b == 0) l.bytes ≡ list_all (λ b. b == 0) (drop l.byte-index l.bytes)
