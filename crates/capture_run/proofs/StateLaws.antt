-- Later states of a shelf, one after the other.
use Rattle.std.proofs.Common.{◌≡◌, ◌≢◌, ◌⊎◌, ℕ, ◌≤◌, Bool, IsTrue, List, [], ◌∷◌, refl, sym, ◌∙◌, subst, inl, inr, arith}
use Rattle.shelf_core.specs.Shelf.{Counts, NoneFell, Rose, SameHeld}
use Rattle.capture_run.specs.States.{ShelfState, IsOther, IsLater, Changes, OneRose}

none_fell : (a b c : Counts) → NoneFell a b → NoneFell b c → NoneFell a c
none_fell a b c f g = record { each = λ name. let l : a name ≤ b name = f.each name in let m : b name ≤ c name = g.each name in omega (arith, l, m) }

later_then : (a b c : ShelfState) → IsLater a b → IsLater b c → IsLater a c
later_then a b c f g = record {
  tells = g.tells ∙ f.tells;
  reads = none_fell a.read_faults b.read_faults c.read_faults f.reads g.reads;
  writes = none_fell a.write_faults b.write_faults c.write_faults f.writes g.writes;
}

pub tells_later : (a b : ShelfState) → IsLater a b → IsTrue a.tells → IsTrue b.tells
tells_later a b l told = let P : Bool → Type 0 = λ t. IsTrue t in subst P (sym l.tells) told

pub changes_then : (names : List (List ℕ)) (a b c : ShelfState) → Changes names a b → Changes names b c → Changes names a c
changes_then names a b c f g = record {
  later = later_then a b c f.later g.later;
  others = λ other apart. g.others other apart ∙ f.others other apart;
}

pub changes_none : (a : ShelfState) → Changes [] a a
changes_none a = record {
  later = record { tells = refl; reads = record { each = λ name. omega arith }; writes = record { each = λ name. omega arith } };
  others = λ other apart. refl;
}

-- what changes no name changes none but these
pub changes_within : (names : List (List ℕ)) (a b : ShelfState) → Changes [] a b → Changes names a b
changes_within names a b c = record { later = c.later; others = λ other apart. c.others other tt }

pub same_held : (a b : ShelfState) → Changes [] a b → SameHeld a.held b.held
same_held a b c = record { each = λ name. c.others name tt }

-- ---- counts
pub rose_from : (first before now : ℕ) → first ≤ before → Rose before now → Rose first now
rose_from first before now fell rose = omega arith

pub one_rose_from : (names : List (List ℕ)) (a b c : Counts) → NoneFell a b → OneRose names b c → OneRose names a c
one_rose_from [] a b c fell rose = rose
one_rose_from (name ∷ rest) a b c fell (inl rose) = inl (rose_from (a name) (b name) (c name) (fell.each name) rose)
one_rose_from (name ∷ rest) a b c fell (inr rose) = inr (one_rose_from rest a b c fell rose)

-- ---- a name of a list
abbrev pub IsOneOf : List (List ℕ) → List ℕ → Type 0
IsOneOf [] name = ⊥
IsOneOf (first ∷ rest) name = (name ≡ first) ⊎ IsOneOf rest name

other_one : (names : List (List ℕ)) (name other : List ℕ) → IsOneOf names name → IsOther names other → other ≢ name
other_one [] name other one apart = absurd one
other_one (first ∷ rest) name other (inl e) apart = λ f. apart.0 (f ∙ e)
other_one (first ∷ rest) name other (inr one) apart = other_one rest name other one apart.1

pub changes_one : (names : List (List ℕ)) (name : List ℕ) (a b : ShelfState) → IsOneOf names name → Changes (name ∷ []) a b → Changes names a b
changes_one names name a b one c = record { later = c.later; others = λ other apart. c.others other (other_one names name other one apart, tt) }

pub rose_one : (names : List (List ℕ)) (name : List ℕ) (a b : Counts) → IsOneOf names name → Rose (a name) (b name) → OneRose names a b
rose_one [] name a b one rose = absurd one
rose_one (first ∷ rest) name a b (inl e) rose = let P : List ℕ → Type 0 = λ n. Rose (a n) (b n) in inl (subst P e rose)
rose_one (first ∷ rest) name a b (inr one) rose = inr (rose_one rest name a b one rose)
