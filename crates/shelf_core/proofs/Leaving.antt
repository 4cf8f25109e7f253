-- What the lists of calls make fail, and what a failed write leaves.
use Rattle.std.proofs.Common.{◌≡◌, ℕ, ◌+◌, List, length, Option, Some, None, sym, ap, ◌∙◌, inl, inr}
use Rattle.std.proofs.Math.Seq.{take-append_seam, take-append-add}
use Rattle.shelf_core.specs.Shelf.{LeavesFront}
use Rattle.shelf_core.specs.Memory.{LeavesListed}

-- nothing was added
unchanged : (old : Option (List ℕ)) (bytes : List ℕ) (new : Option (List ℕ)) → new ≡ old → LeavesFront old bytes new
unchanged None bytes new is = inl is
unchanged (Some content) bytes new is = record { many = length content; front = is ∙ ap Some (sym (take-append_seam content bytes)) }

pub leaves_front : (left : Option ℕ) (old : Option (List ℕ)) (bytes : List ℕ) (new : Option (List ℕ)) → LeavesListed left old bytes new → LeavesFront old bytes new
leaves_front None old bytes new is = unchanged old bytes new is
leaves_front (Some left) old bytes new (inl is) = unchanged old bytes new is
leaves_front (Some left) None bytes new (inr is) = inr (record { many = left; front = is })
leaves_front (Some left) (Some content) bytes new (inr is) =
    record { many = length content + left; front = is ∙ ap Some (sym (take-append-add content bytes left)) }
