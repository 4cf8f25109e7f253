use Rattle.std.proofs.Common.{◌≡◌, ◌-◌, ◌++◌, length, map}
use Rattle.xdp_object.specs.Relocations.{Reference, references, references_from}
use Rattle.xdp_object.proofs.numbers.referring.Given as goal

-- the places so far, and those that are left
abbrev pub invariant-loop-i : goal.invariant-loop-i
invariant-loop-i l =
    l.refs.items ++ map (λ (r : Reference). r.place) (references_from l.places l.i (length l.places - l.i))
    ≡ map (λ (r : Reference). r.place) (references l.places)
