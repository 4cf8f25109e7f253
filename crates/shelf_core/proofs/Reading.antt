-- How far a name has been read.
use Rattle.std.proofs.Common.{◌≡◌, ◌≤◌, ◌<◌, ◌+◌, ℕ, List, [], ◌++◌, length, take, Option, Some, None, ap, refl, ◌∙◌}
use Rattle.std.proofs.Math.Seq.{take-add}
use Rattle.std.proofs.lemmas.List.{length-append, length-take-le}
use Rattle.shelf_core.specs.Shelf.{Reads}

-- a front of what is held has been read, perhaps nothing
abbrev pub HasRead : Option (List ℕ) → List ℕ → Type 0
HasRead None all = all ≡ []
HasRead (Some content) all = (take (length all) content ≡ all) × (length all ≤ length content)

pub read_more : (held : Option (List ℕ)) (all into : List ℕ) (n : ℕ) → HasRead held all → n ≤ length into → 0 < n → Reads held (length all) n into → HasRead held (all ++ take n into)
read_more None all into n front room some reads = absurd reads
read_more (Some content) all into n front room some reads =
    let many : length (all ++ take n into) ≡ length all + n = length-append all (take n into) ∙ ap (λ k. length all + k) (length-take-le n into room) in
    let same : take (length all + n) content ≡ all ++ take n into = take-add (length all) n content ∙ rw (front.0, reads.bytes) refl in
    (rw many same, rw many (reads.within some))
