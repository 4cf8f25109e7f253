-- What stands in a list after what was written into it.
use Rattle.std.proofs.Common.{◌≡◌, ◌∙◌, ◌≤◌, ◌+◌, ◌++◌, ℕ, List, ap, take, drop, length, arith}
use Rattle.std.proofs.lemmas.List.{take_at, length-append, length-take}

-- what stands up to the end of what was written
pub written_to : (n at k : ℕ) (old new xs bs : List ℕ) → at ≤ length old → xs ≡ bs → length bs ≡ n → new ≡ take at old ++ xs ++ drop k old → take (at + n) new ≡ take at old ++ bs
written_to n at k old new xs bs fits prefix len e =
    let size : length (take at old ++ bs) ≡ at + n = omega (arith, length-append (take at old) bs, length-take at old) in
    ap (take (at + n)) (e ∙ ap (λ (w : List ℕ). take at old ++ w ++ drop k old) prefix) ∙ take_at (take at old ++ bs) (drop k old) (at + n) size
