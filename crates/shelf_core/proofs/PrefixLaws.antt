-- Fronts of what is written, for those who write in parts, and counts over several calls.
use Rattle.std.proofs.Common.{ℕ, ◌≤◌, List, ◌++◌, length, min, Option, Some, sym, ap, ◌∙◌, arith}
use Rattle.std.proofs.lemmas.List.{take_min, take-append-le}
use Rattle.std.proofs.Math.Seq.{take-append_seam}
use Rattle.shelf_core.specs.Shelf.{HoldsFront, Rose}

-- a front of the parts so far is a front of them with more
pub front_of_more : (whole more : List ℕ) (held : Option (List ℕ)) → HoldsFront whole held → HoldsFront (whole ++ more) held
front_of_more whole more held front = record {
  many = min front.many (length whole);
  front = front.front ∙ ap Some (sym (take-append-le (min front.many (length whole)) whole more (omega arith) ∙ take_min front.many whole));
}

-- what was written whole is a front of it with more
pub front_of_whole : (whole more : List ℕ) → HoldsFront (whole ++ more) (Some whole)
front_of_whole whole more = record { many = length whole; front = ap Some (sym (take-append_seam whole more)) }

-- a count that rose in one of several calls rose over them all
pub rose_within : (first before now last : ℕ) → first ≤ before → Rose before now → now ≤ last → Rose first last
rose_within first before now last fell rose grew = omega arith
