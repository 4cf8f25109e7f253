-- Steps in another order give the same.
use Rattle.std.specs.Prelude.{⊤, slice_set, if◌then◌else◌, ◌==◌, max}
use Rattle.std.specs.List.{All, sum_by}
use Rattle.std.specs.List.Sorted.{IsPermutation, IsNonDecreasingBy}
use Rattle.std.proofs.Common.{◌≡◌, ℕ, suc, ◌-◌, ◌<◌, ◌≤◌, Bool, true, false, Option, None, List, [], ◌∷◌, length, get_or, refl, sym, ap, ◌∙◌, subst, arith, ⊎_elim}
use Rattle.std.proofs.Math.Nat.{le-max_left, le-max_right, max-le}
use Rattle.std.proofs.lemmas.Bool.{cases_eq, cases_lt, eq-eqb, eqb-true}
use Rattle.std.proofs.lemmas.List.{length-set, get_or-set_same, get_or-set_other, get_or_past}
use Rattle.std.proofs.lemmas.List.Elements.{All-nil, All-cons, All-head, All-tail}
use Rattle.std.proofs.lemmas.List.Sums.{sum_by-cons}
use Rattle.std.proofs.lemmas.List.Sorted.{All-permutation, IsPermutation-sym, sum_by-IsPermutation}
use Rattle.clock_sim.specs.declared.step.Step.{Step}
use Rattle.clock_sim.specs.declared.step.Opcode.{Opcode}
use Rattle.clock_sim.specs.declared.step.Opcode.TheVariants as opcode
use Rattle.clock_sim.specs.Steps.{worked, given, run}
use Rattle.clock_sim.specs.Flat.{IsThere, IsReading, AreReading, AreFree, IsBehind, Climb, WriteFrom}
use Rattle.clock_sim.specs.Orders.{OfThird, third_depth, depth_of, IsDeeper, AreDepths, kind, rank, Reordered}
use Rattle.clock_sim.proofs.BuilderLemmas.{run_length, reading_more}

-- ---- third operands
third_from : (w : Opcode) (P Q : Type 0) → (P → Q) → OfThird w P → OfThird w Q
third_from opcode.Conditional P Q f p = f p
third_from _ P Q f p = tt

third_there : (w : Opcode) (n m : ℕ) (P : Type 0) → (n < m → P) → IsThere w n m → OfThird w P
third_there opcode.Conditional n m P f h = f h.0
third_there _ n m P f h = tt

-- ---- slots that no step writes
abbrev Unwritten : ℕ → List Step → Type 0
Unwritten k [] = ⊤
Unwritten k (s ∷ rest) = (k ≡ s.to → ⊥) × Unwritten k rest

unwritten_same : (contents : List (List ℕ)) (xs : List Step) (slots : List ℕ) (k : ℕ) → Unwritten k xs → get_or (run contents xs slots) k 0 ≡ get_or slots k 0
unwritten_same contents [] slots k u = refl
unwritten_same contents (s ∷ xs) slots k u = unwritten_same contents xs (slice_set slots s.to (given contents slots s)) k u.1 ∙ get_or-set_other slots s.to k (given contents slots s) 0 u.0

climb_unwritten : (n : ℕ) (xs : List Step) → Climb n xs → (k : ℕ) → k < n → Unwritten k xs
climb_unwritten n [] c k lt = tt
climb_unwritten n (s ∷ xs) c k lt = let from : n ≤ s.to = c.0.from in ((λ e. absurd (omega arith)), climb_unwritten (suc s.to) xs c.1 k (omega arith))

-- ---- slots that agree with their steps
abbrev Solves : List (List ℕ) → List ℕ → List Step → Type 0
Solves contents slots [] = ⊤
Solves contents slots (s ∷ rest) = (get_or slots s.to 0 ≡ given contents slots s) × Solves contents slots rest

worked_same : (w : Opcode) (contents : List (List ℕ)) (xs ys : List ℕ) (n h x y : ℕ) → OfThird w (get_or xs n 0 ≡ get_or ys n 0) → worked w contents xs n h x y ≡ worked w contents ys n h x y
worked_same opcode.Conditional contents xs ys n h x y e = ap (λ v. if x == 0 then v else y) e
worked_same _ contents xs ys n h x y e = refl

given_same : (contents : List (List ℕ)) (xs ys : List ℕ) (s : Step) → get_or xs s.a 0 ≡ get_or ys s.a 0 → get_or xs s.b 0 ≡ get_or ys s.b 0 → OfThird s.opcode (get_or xs s.number 0 ≡ get_or ys s.number 0) → given contents xs s ≡ given contents ys s
given_same contents xs ys s a b third =
    ap (λ v. worked s.opcode contents xs s.number s.shift v (get_or xs s.b 0)) a
    ∙ ap (λ v. worked s.opcode contents xs s.number s.shift (get_or ys s.a 0) v) b
    ∙ worked_same s.opcode contents xs ys s.number s.shift (get_or ys s.a 0) (get_or ys s.b 0) third

-- no step writes what an earlier one reads or writes, or what it reads itself
record IsLeft (s : Step) (rest : List Step) : Type 0 where
  pub to : Unwritten s.to rest
  pub left : Unwritten s.a (s ∷ rest)
  pub right : Unwritten s.b (s ∷ rest)
  pub third : OfThird s.opcode (Unwritten s.number (s ∷ rest))

abbrev InTurn : List Step → Type 0
InTurn [] = ⊤
InTurn (s ∷ rest) = IsLeft s rest × InTurn rest

run_solves : (contents : List (List ℕ)) (xs : List Step) (slots : List ℕ) → InTurn xs → AreReading (length slots) xs → Solves contents (run contents xs slots) xs
run_solves contents [] slots t r = tt
run_solves contents (s ∷ xs) slots t r =
    let n = given contents slots s in
    let same = λ (k : ℕ) (u : Unwritten k (s ∷ xs)). sym (unwritten_same contents (s ∷ xs) slots k u) in (
      unwritten_same contents xs (slice_set slots s.to n) s.to t.0.to
          ∙ get_or-set_same slots s.to n 0 r.0.to
          ∙ given_same contents slots (run contents (s ∷ xs) slots) s (same s.a t.0.left) (same s.b t.0.right) (third_from s.opcode _ _ (same s.number) t.0.third),
      run_solves contents xs (slice_set slots s.to n) t.1 (subst (λ k. AreReading k xs) (sym (length-set slots s.to n)) r.1),
    )

-- two such slots are the same, where those that no step writes are
all_same : (contents : List (List ℕ)) (xs ys : List ℕ) (n : ℕ) (steps : List Step) → Climb n steps → Solves contents xs steps → Solves contents ys steps → ((k : ℕ) → Unwritten k steps → get_or xs k 0 ≡ get_or ys k 0) → (k : ℕ) → get_or xs k 0 ≡ get_or ys k 0
all_same contents xs ys n [] c f g h k = h k tt
all_same contents xs ys n (s ∷ rest) c f g h k = all_same contents xs ys (suc s.to) rest c.1 f.1 g.1 more k
  where
    low : (j : ℕ) → j < s.to → get_or xs j 0 ≡ get_or ys j 0
    low j lt = h j ((λ e. absurd (omega arith)), climb_unwritten (suc s.to) rest c.1 j (omega arith))

    here : get_or xs s.to 0 ≡ get_or ys s.to 0
    here = f.0 ∙ given_same contents xs ys s (low s.a c.0.left) (low s.b c.0.right) (third_there s.opcode s.number s.to _ (low s.number) c.0.third) ∙ sym g.0

    more : (j : ℕ) → Unwritten j rest → get_or xs j 0 ≡ get_or ys j 0
    more j u = ⊎_elim (λ e. subst (λ i. get_or xs i 0 ≡ get_or ys i 0) (sym e) here) (λ other. h j (other, u)) (cases_eq j s.to)

same_list : (xs ys : List ℕ) → length xs ≡ length ys → ((k : ℕ) → get_or xs k 0 ≡ get_or ys k 0) → xs ≡ ys
same_list [] [] l h = refl
same_list [] (y ∷ ys) l h = absurd (omega (arith, l))
same_list (x ∷ xs) [] l h = absurd (omega (arith, l))
same_list (x ∷ xs) (y ∷ ys) l h =
    let e : x ≡ y = h 0 in
    let m : length xs ≡ length ys = omega (arith, l) in
    ap (λ z. z ∷ xs) e ∙ ap (λ zs. y ∷ zs) (same_list xs ys m (λ k. h (suc k)))

-- ---- steps that climb are in order
climb_in_turn : (n : ℕ) (xs : List Step) → Climb n xs → InTurn xs
climb_in_turn n [] c = tt
climb_in_turn n (s ∷ xs) c = (
  record { to = climb_unwritten (suc s.to) xs c.1 s.to (omega arith); left = low s.a c.0.left; right = low s.b c.0.right; third = third_there s.opcode s.number s.to _ (low s.number) c.0.third },
  climb_in_turn (suc s.to) xs c.1,
)
  where
    low : (k : ℕ) → k < s.to → Unwritten k (s ∷ xs)
    low k lt = ((λ e. absurd (omega arith)), climb_unwritten (suc s.to) xs c.1 k (omega arith))

-- ---- a slot is written once
abbrev writes : ℕ → Step → ℕ
writes k s = if k == s.to then 1 else 0

writes_here : (k : ℕ) (s : Step) → k ≡ s.to → writes k s ≡ 1
writes_here k s e = ap (λ t. if t then 1 else 0) (eq-eqb k s.to e)

writes_other : (k : ℕ) (s : Step) → (k ≡ s.to → ⊥) → writes k s ≡ 0
writes_other k s ne = by_test (k == s.to) refl
  where
    by_test : (t : Bool) → (k == s.to) ≡ t → (let n : ℕ = if t then 1 else 0 in n) ≡ 0
    by_test true e = absurd (ne (eqb-true k s.to e))
    by_test false e = refl

unwritten_none : (k : ℕ) (xs : List Step) → Unwritten k xs → sum_by (writes k) xs ≡ 0
unwritten_none k [] u = refl
unwritten_none k (s ∷ xs) u = let a = sum_by-cons (writes k) s xs in let b = writes_other k s u.0 in let c = unwritten_none k xs u.1 in omega (arith, a, b, c)

none_unwritten : (k : ℕ) (xs : List Step) → sum_by (writes k) xs ≡ 0 → Unwritten k xs
none_unwritten k [] h = tt
none_unwritten k (s ∷ xs) h =
    let a = sum_by-cons (writes k) s xs in
    ((λ e. let b = writes_here k s e in absurd (omega (arith, a, b, h))), none_unwritten k xs (omega (arith, a, h)))

abbrev AreOnce : List Step → Type 0
AreOnce xs = (k : ℕ) → sum_by (writes k) xs ≤ 1

climb_once : (n : ℕ) (xs : List Step) → Climb n xs → AreOnce xs
climb_once n [] c k = omega arith
climb_once n (s ∷ xs) c k =
    let a = sum_by-cons (writes k) s xs in
    ⊎_elim
    (λ e. let b = writes_here k s e in let d = unwritten_none k xs (climb_unwritten (suc s.to) xs c.1 k (omega (arith, e))) in omega (arith, a, b, d))
    (λ ne. let b = writes_other k s ne in let d = climb_once (suc s.to) xs c.1 k in omega (arith, a, b, d))
    (cases_eq k s.to)

-- ---- steps by their depths are in order
abbrev AtLeast : List ℕ → ℕ → List Step → Type 0
AtLeast depths m [] = ⊤
AtLeast depths m (s ∷ rest) = (m ≤ get_or depths s.to 0) × AtLeast depths m rest

abbrev Rises : List ℕ → List Step → Type 0
Rises depths [] = ⊤
Rises depths (s ∷ rest) = AtLeast depths (get_or depths s.to 0) rest × Rises depths rest

shallow_unwritten : (depths : List ℕ) (m : ℕ) (xs : List Step) → AtLeast depths m xs → (k : ℕ) → get_or depths k 0 < m → Unwritten k xs
shallow_unwritten depths m [] h k lt = tt
shallow_unwritten depths m (s ∷ xs) h k lt =
    let le : m ≤ get_or depths s.to 0 = h.0 in
    ((λ e. let same = ap (λ j. get_or depths j 0) e in absurd (omega (arith, same))), shallow_unwritten depths m xs h.1 k lt)

once_rest : (s : Step) (xs : List Step) → AreOnce (s ∷ xs) → AreOnce xs
once_rest s xs h k = let a = sum_by-cons (writes k) s xs in let b = h k in omega (arith, a, b)

once_head : (s : Step) (xs : List Step) → AreOnce (s ∷ xs) → Unwritten s.to xs
once_head s xs h = none_unwritten s.to xs (let a = sum_by-cons (writes s.to) s xs in let b = h s.to in let d = writes_here s.to s refl in omega (arith, a, b, d))

in_turn : (depths : List ℕ) (xs : List Step) → AreOnce xs → AreDepths depths xs → Rises depths xs → InTurn xs
in_turn depths [] o d r = tt
in_turn depths (s ∷ xs) o d r =
    let m = get_or depths s.to 0 in
    let all : AtLeast depths m (s ∷ xs) = (omega arith, r.0) in (
      record { to = once_head s xs o; left = shallow_unwritten depths m (s ∷ xs) all s.a d.0.left; right = shallow_unwritten depths m (s ∷ xs) all s.b d.0.right; third = third_from s.opcode _ _ (shallow_unwritten depths m (s ∷ xs) all s.number) d.0.third },
      in_turn depths xs (once_rest s xs o) d.1 r.1,
    )

-- ---- ranks that ascend
kind_small : (w : Opcode) → kind w < 32
kind_small w = elim w as (λ v. kind v < 32) [
  | opcode.Add ↦ omega arith
  | opcode.Subtract ↦ omega arith
  | opcode.Multiply ↦ omega arith
  | opcode.And ↦ omega arith
  | opcode.Or ↦ omega arith
  | opcode.Xor ↦ omega arith
  | opcode.ShiftLeft ↦ omega arith
  | opcode.ShiftRight ↦ omega arith
  | opcode.Equal ↦ omega arith
  | opcode.NotEqual ↦ omega arith
  | opcode.Less ↦ omega arith
  | opcode.LessEqual ↦ omega arith
  | opcode.Complement ↦ omega arith
  | opcode.ReduceOr ↦ omega arith
  | opcode.PartSelect ↦ omega arith
  | opcode.Concatenation ↦ omega arith
  | opcode.Conditional ↦ omega arith
  | opcode.Fetch ↦ omega arith
  | opcode.Quotient ↦ omega arith
  | opcode.Remainder ↦ omega arith
]

deeper_by_rank : (depths : List ℕ) (s t : Step) → rank depths s ≤ rank depths t → get_or depths s.to 0 ≤ get_or depths t.to 0
deeper_by_rank depths s t h = let a = kind_small s.opcode in let b = kind_small t.opcode in omega (arith, a, b, h)

at_least : (depths : List ℕ) (s : Step) (xs : List Step) → ((k : ℕ) → k < length xs → rank depths s ≤ rank depths (get_or xs k s)) → AtLeast depths (get_or depths s.to 0) xs
at_least depths s [] h = tt
at_least depths s (t ∷ xs) h = (deeper_by_rank depths s t (h 0 (omega arith)), at_least depths s xs (λ k lt. h (suc k) (omega arith)))

rises : (depths : List ℕ) (xs : List Step) → IsNonDecreasingBy (rank depths) xs → Rises depths xs
rises depths [] h = tt
rises depths (s ∷ xs) h = (at_least depths s xs (λ k lt. h 0 (suc k) s (omega arith) (omega arith)), rises depths xs (λ i j d le lt. h (suc i) (suc j) d (omega arith) (omega arith)))

-- ---- what holds of each step, as a list's and as recursion
all_reading : (n : ℕ) (xs : List Step) → AreReading n xs → All (IsReading n) xs
all_reading n [] h = All-nil (IsReading n)
all_reading n (s ∷ xs) h = All-cons (IsReading n) s xs h.0 (all_reading n xs h.1)

reading_all : (n : ℕ) (xs : List Step) → All (IsReading n) xs → AreReading n xs
reading_all n [] h = tt
reading_all n (s ∷ xs) h = (All-head (IsReading n) s xs h, reading_all n xs (All-tail (IsReading n) s xs h))

all_free : (slots : List (Option ℕ)) (xs : List Step) → AreFree slots xs → All (λ s. get_or slots s.to None ≡ None) xs
all_free slots [] h = All-nil (λ s. get_or slots s.to None ≡ None)
all_free slots (s ∷ xs) h = All-cons (λ t. get_or slots t.to None ≡ None) s xs h.0 (all_free slots xs h.1)

free_all : (slots : List (Option ℕ)) (xs : List Step) → All (λ s. get_or slots s.to None ≡ None) xs → AreFree slots xs
free_all slots [] h = tt
free_all slots (s ∷ xs) h = (All-head (λ t. get_or slots t.to None ≡ None) s xs h, free_all slots xs (All-tail (λ t. get_or slots t.to None ≡ None) s xs h))

all_from : (n : ℕ) (xs : List Step) → WriteFrom n xs → All (λ s. n ≤ s.to) xs
all_from n [] h = All-nil (λ s. n ≤ s.to)
all_from n (s ∷ xs) h = All-cons (λ t. n ≤ t.to) s xs h.0 (all_from n xs h.1)

from_all : (n : ℕ) (xs : List Step) → All (λ s. n ≤ s.to) xs → WriteFrom n xs
from_all n [] h = tt
from_all n (s ∷ xs) h = (All-head (λ t. n ≤ t.to) s xs h, from_all n xs (All-tail (λ t. n ≤ t.to) s xs h))

all_deeper : (depths : List ℕ) (xs : List Step) → AreDepths depths xs → All (IsDeeper depths) xs
all_deeper depths [] h = All-nil (IsDeeper depths)
all_deeper depths (s ∷ xs) h = All-cons (IsDeeper depths) s xs h.0 (all_deeper depths xs h.1)

deeper_all : (depths : List ℕ) (xs : List Step) → All (IsDeeper depths) xs → AreDepths depths xs
deeper_all depths [] h = tt
deeper_all depths (s ∷ xs) h = (All-head (IsDeeper depths) s xs h, deeper_all depths xs (All-tail (IsDeeper depths) s xs h))

all_solved : (contents : List (List ℕ)) (slots : List ℕ) (xs : List Step) → Solves contents slots xs → All (λ s. get_or slots s.to 0 ≡ given contents slots s) xs
all_solved contents slots [] h = All-nil (λ s. get_or slots s.to 0 ≡ given contents slots s)
all_solved contents slots (s ∷ xs) h = All-cons (λ t. get_or slots t.to 0 ≡ given contents slots t) s xs h.0 (all_solved contents slots xs h.1)

solved_all : (contents : List (List ℕ)) (slots : List ℕ) (xs : List Step) → All (λ s. get_or slots s.to 0 ≡ given contents slots s) xs → Solves contents slots xs
solved_all contents slots [] h = tt
solved_all contents slots (s ∷ xs) h = (All-head (λ t. get_or slots t.to 0 ≡ given contents slots t) s xs h, solved_all contents slots xs (All-tail (λ t. get_or slots t.to 0 ≡ given contents slots t) s xs h))

all_unwritten : (k : ℕ) (xs : List Step) → Unwritten k xs → All (λ s. k ≡ s.to → ⊥) xs
all_unwritten k [] h = All-nil (λ s. k ≡ s.to → ⊥)
all_unwritten k (s ∷ xs) h = All-cons (λ t. k ≡ t.to → ⊥) s xs h.0 (all_unwritten k xs h.1)

unwritten_all : (k : ℕ) (xs : List Step) → All (λ s. k ≡ s.to → ⊥) xs → Unwritten k xs
unwritten_all k [] h = tt
unwritten_all k (s ∷ xs) h = (All-head (λ t. k ≡ t.to → ⊥) s xs h, unwritten_all k xs (All-tail (λ t. k ≡ t.to → ⊥) s xs h))

-- ---- another order
pub reordered : (count : ℕ) (old new : List Step) (depths : List ℕ) → Climb 0 old → AreReading count old → AreDepths depths old → IsPermutation old new → IsNonDecreasingBy (rank depths) new → Reordered count old new
reordered count old new depths climb reading deep moved sorted = record {
  reading = reading_new;
  free = λ slots h. free_all slots new (All-permutation (λ s. get_or slots s.to None ≡ None) old new moved (all_free slots old h));
  own = λ n h. from_all n new (All-permutation (λ s. n ≤ s.to) old new moved (all_from n old h));
  same = λ contents slots le.
      same_list (run contents new slots) (run contents old slots) (run_length contents new slots ∙ sym (run_length contents old slots))
      (all_same contents (run contents new slots) (run contents old slots) 0 old climb (solved_new contents slots le) (run_solves contents old slots (climb_in_turn 0 old climb) (reading_in (length slots) le old reading))
      (λ k u. unwritten_same contents new slots k (unwritten_all k new (All-permutation (λ s. k ≡ s.to → ⊥) old new moved (all_unwritten k old u))) ∙ sym (unwritten_same contents old slots k u)));
}
  where
    reading_new : AreReading count new
    reading_new = reading_all count new (All-permutation (IsReading count) old new moved (all_reading count old reading))

    reading_in : (n : ℕ) → count ≤ n → (xs : List Step) → AreReading count xs → AreReading n xs
    reading_in n le xs h = reading_more count n le xs h

    clock_new : InTurn new
    clock_new =
        in_turn depths new
        (λ k. let e = sum_by-IsPermutation (writes k) old new moved in let b = climb_once 0 old climb k in omega (arith, e, b))
        (deeper_all depths new (All-permutation (IsDeeper depths) old new moved (all_deeper depths old deep)))
        (rises depths new sorted)

    solved_new : (contents : List (List ℕ)) (slots : List ℕ) → count ≤ length slots → Solves contents (run contents new slots) old
    solved_new contents slots le =
        solved_all contents (run contents new slots) old
        (All-permutation (λ s. get_or (run contents new slots) s.to 0 ≡ given contents (run contents new slots) s) new old (IsPermutation-sym old new moved)
        (all_solved contents (run contents new slots) new (run_solves contents new slots clock_new (reading_in (length slots) le new reading_new))))

-- ---- depths
-- the depths once these steps have theirs
abbrev pub depths_after : List Step → List ℕ → List ℕ
depths_after [] depths = depths
depths_after (s ∷ rest) depths = depths_after rest (slice_set depths s.to (depth_of depths s))

depths_kept : (n : ℕ) (xs : List Step) → Climb n xs → (depths : List ℕ) (k : ℕ) → k < n → get_or (depths_after xs depths) k 0 ≡ get_or depths k 0
depths_kept n [] c depths k lt = refl
depths_kept n (s ∷ xs) c depths k lt =
    let from : n ≤ s.to = c.0.from in
    depths_kept (suc s.to) xs c.1 (slice_set depths s.to (depth_of depths s)) k (omega arith)
    ∙ get_or-set_other depths s.to k (depth_of depths s) 0 (λ e. absurd (omega arith))

third_deep : (w : Opcode) (old new : List ℕ) (n m t : ℕ) → IsThere w n m → ((k : ℕ) → k < m → get_or new k 0 ≡ get_or old k 0) → third_depth w old n < get_or new t 0 → OfThird w (get_or new n 0 < get_or new t 0)
third_deep opcode.Conditional old new n m t h low lt = let e = low n h.0 in omega (arith, e, lt)
third_deep _ old new n m t h low lt = tt

pub depths_are : (n : ℕ) (xs : List Step) (depths : List ℕ) → Climb n xs → AreReading (length depths) xs → AreDepths (depths_after xs depths) xs
depths_are n [] depths c r = tt
depths_are n (s ∷ xs) depths c r = (
  record {
    left = let e = low s.a c.0.left in let m = le-max_left (get_or depths s.a 0) (get_or depths s.b 0) in let l = first in omega (arith, e, m, l, here);
    right = let e = low s.b c.0.right in let m = le-max_right (get_or depths s.a 0) (get_or depths s.b 0) in let l = first in omega (arith, e, m, l, here);
    third = third_deep s.opcode depths after s.number s.to s.to c.0.third low (let l = second in omega (arith, l, here));
  },
  depths_are (suc s.to) xs (slice_set depths s.to (depth_of depths s)) c.1 (subst (λ k. AreReading k xs) (sym (length-set depths s.to (depth_of depths s))) r.1),
)
  where
    after : List ℕ
    after = depths_after (s ∷ xs) depths

    low : (k : ℕ) → k < s.to → get_or after k 0 ≡ get_or depths k 0
    low k lt =
        depths_kept (suc s.to) xs c.1 (slice_set depths s.to (depth_of depths s)) k (omega arith)
        ∙ get_or-set_other depths s.to k (depth_of depths s) 0 (λ e. absurd (omega arith))

    here : get_or after s.to 0 ≡ depth_of depths s
    here =
        depths_kept (suc s.to) xs c.1 (slice_set depths s.to (depth_of depths s)) s.to (omega arith)
        ∙ get_or-set_same depths s.to (depth_of depths s) 0 r.0.to

    first : max (get_or depths s.a 0) (get_or depths s.b 0) ≤ max (max (get_or depths s.a 0) (get_or depths s.b 0)) (third_depth s.opcode depths s.number)
    first = le-max_left (max (get_or depths s.a 0) (get_or depths s.b 0)) (third_depth s.opcode depths s.number)

    second : third_depth s.opcode depths s.number ≤ max (max (get_or depths s.a 0) (get_or depths s.b 0)) (third_depth s.opcode depths s.number)
    second = le-max_right (max (get_or depths s.a 0) (get_or depths s.b 0)) (third_depth s.opcode depths s.number)

-- ---- one more step's depth
pub low_set : (xs : List ℕ) (i d : ℕ) → ((k : ℕ) → get_or xs k 0 ≤ k) → d ≤ i → (k : ℕ) → get_or (slice_set xs i d) k 0 ≤ k
low_set xs i d low le k = ⊎_elim (λ e. same e) (λ ne. let o = get_or-set_other xs i k d 0 ne in let l = low k in omega (arith, o, l)) (cases_eq k i)
  where
    inside : i < length xs → get_or (slice_set xs i d) i 0 ≤ i
    inside lt = let o = get_or-set_same xs i d 0 lt in omega (arith, o)

    outside : length xs ≤ i → get_or (slice_set xs i d) i 0 ≤ i
    outside past = let o = get_or_past (slice_set xs i d) i 0 (let l = length-set xs i d in omega arith) in omega (arith, o)

    same : k ≡ i → get_or (slice_set xs i d) k 0 ≤ k
    same e = subst (λ j. get_or (slice_set xs i d) j 0 ≤ j) (sym e) (⊎_elim inside outside (cases_lt i (length xs)))

third_low : (w : Opcode) (depths : List ℕ) (n m : ℕ) → ((k : ℕ) → get_or depths k 0 ≤ k) → 0 < m → IsThere w n m → third_depth w depths n < m
third_low opcode.Conditional depths n m low some h = let l = low n in let lt : n < m = h.0 in omega arith
third_low _ depths n m low some h = some

pub depth_low : (depths : List ℕ) (n : ℕ) (s : Step) → ((k : ℕ) → get_or depths k 0 ≤ k) → IsBehind n s → depth_of depths s ≤ s.to
depth_low depths n s low b =
    let a = low s.a in let l = b.left in let c = low s.b in let r = b.right in
    let t = third_low s.opcode depths s.number s.to low (omega arith) b.third in
    let k : ℕ = s.to - 1 in
    let m = max-le (max-le (let x : get_or depths s.a 0 ≤ k = omega arith in x) (let x : get_or depths s.b 0 ≤ k = omega arith in x)) (let x : third_depth s.opcode depths s.number ≤ k = omega arith in x) in
    omega (arith, m)
