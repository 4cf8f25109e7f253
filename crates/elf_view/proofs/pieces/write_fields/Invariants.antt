use Rattle.std.proofs.Common.{◌≡◌, ◌+◌, length, take, drop}
use Rattle.std.specs.List.{flat_map}
use Rattle.elf_view.proofs.pieces.write_fields.Given as goal

-- the fields so far stand at the front, and those that are left have room
abbrev pub invariant-loop-field : goal.invariant-loop-field
invariant-loop-field l =
    (take l.at l.bytes ≡ flat_map (λ f. f.now) (take l.field-index l.fields)) × (l.at + length (flat_map (λ f. f.now) (drop l.field-index l.fields)) ≡ length l.bytes)
