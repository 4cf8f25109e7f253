-- Nodes: a place stands once for each copy of the loops that hold it.
use Rattle.std.specs.Prelude.{ℕ, ◌≡◌, ◌+◌, ◌<◌, ◌==◌, ◌&&◌, not, nat_lt, if◌then◌else◌, Bool, false, List, [], ◌∷◌, length, replicate, Option, Some, None}
use Rattle.std.specs.List.{list_all}
use Rattle.unfold_core.specs.declared.nesting.Loop.{Loop}
use Rattle.unfold_core.specs.Loops.{holds}

-- a place, and its copy of each loop of a program, in the order of their heads
pub record GraphNode : Type 0 where
  pub place : ℕ
  pub copies : List ℕ

abbrev pub first : List ℕ → ℕ
first [] = 0
first (c ∷ cs) = c

abbrev pub rest : List ℕ → List ℕ
rest [] = []
rest (c ∷ cs) = cs

-- the most copies of a loop
abbrev pub most_copies : ℕ
most_copies = 64

-- a copy of a loop is 0 to 63, and 0 where the loop does not hold the place
abbrev pub IsCopy : Loop → ℕ → ℕ → Type 0
IsCopy l place c = (c < most_copies) × (holds l place ≡ false → c ≡ 0)

abbrev pub AreCopies : List Loop → ℕ → List ℕ → Type 0
AreCopies [] place [] = Unit {0}
AreCopies [] place (c ∷ cs) = ⊥
AreCopies (l ∷ ls) place [] = ⊥
AreCopies (l ∷ ls) place (c ∷ cs) = IsCopy l place c × AreCopies ls place cs

abbrev pub IsNode : List Loop → GraphNode → Type 0
IsNode ls n = AreCopies ls n.place n.copies

-- a run begins at place 0, in copy 0 of each loop
abbrev pub start : List Loop → GraphNode
start ls = record { place = 0; copies = replicate (length ls) 0 }

-- Two nodes are compared by their copies of the loops that hold both places, outermost first, and then by place.
abbrev pub differs : Loop → ℕ → ℕ → ℕ → ℕ → Bool
differs l p c q d = (holds l p && holds l q) && not (c == d)

abbrev pub copies_before : List Loop → ℕ → List ℕ → ℕ → List ℕ → Bool
copies_before [] p cs q ds = nat_lt p q
copies_before (l ∷ ls) p cs q ds = if differs l p (first cs) q (first ds) then nat_lt (first cs) (first ds) else copies_before ls p (rest cs) q (rest ds)

abbrev pub comes_before : List Loop → GraphNode → GraphNode → Bool
comes_before ls a b = copies_before ls a.place a.copies b.place b.copies

-- The copy of a loop at the end of an edge from p to q: one more at the head of the loop, from inside; the same where the edge stays in the
-- loop; 0 where it enters the loop or is outside.
abbrev pub next_copy : Loop → ℕ → ℕ → ℕ → ℕ
next_copy l p q c = if holds l q then (if holds l p then (if q == l.head then c + 1 else c) else 0) else 0

abbrev pub next_copies : List Loop → ℕ → ℕ → List ℕ → List ℕ
next_copies [] p q cs = []
next_copies (l ∷ ls) p q cs = next_copy l p q (first cs) ∷ next_copies ls p q (rest cs)

abbrev pub fits : ℕ → Bool
fits c = nat_lt c most_copies

-- the node at the end of an edge, none where it would be copy 64 of a loop
abbrev pub reached : List Loop → GraphNode → ℕ → Option GraphNode
reached ls n q = if list_all fits (next_copies ls n.place q n.copies) then Some (record { place = q; copies = next_copies ls n.place q n.copies }) else None
