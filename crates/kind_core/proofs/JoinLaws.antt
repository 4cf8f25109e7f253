-- Laws of joins.
use Rattle.std.proofs.Common.{◌≡◌, ℕ, ℤ, ◌==◌, ◌&&◌, min, max, int_lt, Bool, true, false, cond, List, [], ◌∷◌, refl, sym, ap, ◌∙◌, arith}
use Rattle.std.specs.Ordering.{int_eq}
use Rattle.std.specs.Int.{int_min}
use Rattle.std.proofs.lemmas.Int.{ints}
use Rattle.std.proofs.lemmas.Bool.{and_parts}
use Rattle.std.proofs.lemmas.Bool.Decides.{nat_tests}
use Rattle.xdp_state.proofs.list_laws_laws.BoolLaws.{and_is}
use Rattle.kind_core.specs.declared.number.Number.{Number}
use Rattle.kind_core.specs.declared.number.Number.TheVariants.{Known, Between}
use Rattle.kind_core.specs.declared.kind.Kind.{Kind}
use Rattle.kind_core.specs.declared.kind.Kind.TheVariants.{Unset, Num, Packet, Var, End, Stack, Ctx, MapRef, Maybe, Entry, Stale, Mixed}
use Rattle.kind_core.specs.declared.base.Base.{Base}
use Rattle.kind_core.specs.declared.kind.Kinds.{Kinds}
use Rattle.kind_core.specs.declared.kind.Offsets.{Offsets}
use Rattle.kind_core.specs.declared.kind.Offsets.TheVariants.{Fixed, Varying}
use Rattle.kind_core.specs.Numbers.{join_number}
use Rattle.kind_core.specs.Bases.{same_base, joined_base}
use Rattle.kind_core.specs.Joins.{join_kind, join_list, join_offsets, JoinIsCommutative, JoinIsIdempotent}

-- bounds by their ends
pub between : (a b c d : ℕ) → a ≡ c → b ≡ d → Between a b ≡ Between c d
between a b c d p q = ap (λ x. Between x b) p ∙ ap (Between c) q

min-comm : (a b : ℕ) → min a b ≡ min b a
min-comm a b = omega arith

max-comm : (a b : ℕ) → max a b ≡ max b a
max-comm a b = omega arith

min-same : (a : ℕ) → min a a ≡ a
min-same a = omega arith

max-same : (a : ℕ) → max a a ≡ a
max-same a = omega arith

turned : (a b c d : ℕ) → Between (min a b) (max c d) ≡ Between (min b a) (max d c)
turned a b c d = between (min a b) (max c d) (min b a) (max d c) (min-comm a b) (max-comm c d)

join_number-comm : (a b : Number) → join_number a b ≡ join_number b a
join_number-comm (Known a) (Known b) = by_tests (a == b) refl (b == a) refl
  where
    by_tests : (s : Bool) → (a == b) ≡ s → (t : Bool) → (b == a) ≡ t → cond s (Known a) (Between (min a b) (max a b)) ≡ cond t (Known b) (Between (min b a) (max b a))
    by_tests true e true f = let same : a ≡ b = grind (arith, nat_tests) in ap Known same
    by_tests true e false f = let same : a ≡ b = grind (arith, nat_tests) in absurd (grind (arith, nat_tests))
    by_tests false e true f = let same : b ≡ a = grind (arith, nat_tests) in absurd (grind (arith, nat_tests))
    by_tests false e false f = turned a b a b
join_number-comm (Known a) (Between lo hi) = turned a lo a hi
join_number-comm (Between lo hi) (Known b) = turned lo b hi b
join_number-comm (Between lo hi) (Between l h) = turned lo l hi h

join_number-same : (a : Number) → join_number a a ≡ a
join_number-same (Known a) = let e : (a == a) ≡ true = grind (arith, nat_tests) in ap (λ t. cond t (Known a) (Between (min a a) (max a a))) e
join_number-same (Between lo hi) = between (min lo lo) (max hi hi) lo hi (min-same lo) (max-same hi)

-- ---- bases

-- the test of two places at distances from bases
abbrev pub same_var : Base → Base → ℤ → ℤ → Bool
same_var a b f g = same_base a b && int_eq f g

pub record IsSameVar (a b : Base) (f g : ℤ) : Type 0 where
  pub node : a.node ≡ b.node
  pub low : a.bounds.low ≡ b.bounds.low
  pub high : a.bounds.high ≡ b.bounds.high
  pub at : f ≡ g

nat_is : (a b : ℕ) → (a == b) ≡ true → a ≡ b
nat_is a b h = grind (arith, nat_tests)

is_nat : (a b : ℕ) → a ≡ b → (a == b) ≡ true
is_nat a b h = grind (arith, nat_tests)

int_is : (a b : ℤ) → int_eq a b ≡ true → a ≡ b
int_is a b h = grind (arith, ints)

is_int : (a b : ℤ) → a ≡ b → int_eq a b ≡ true
is_int a b h = grind (arith, ints)

pub same_of : (a b : Base) (f g : ℤ) → same_var a b f g ≡ true → IsSameVar a b f g
same_of a b f g h =
    let nodes = a.node == b.node in
    let lows = a.bounds.low == b.bounds.low in
    let highs = a.bounds.high == b.bounds.high in
    let whole = and_parts (nodes && (lows && highs)) (int_eq f g) h in
    let bases = and_parts nodes (lows && highs) whole.0 in
    let ends = and_parts lows highs bases.1 in
    record {
      node = nat_is a.node b.node bases.0;
      low = nat_is a.bounds.low b.bounds.low ends.0;
      high = nat_is a.bounds.high b.bounds.high ends.1;
      at = int_is f g whole.1;
    }

pub of_same : (a b : Base) (f g : ℤ) → IsSameVar a b f g → same_var a b f g ≡ true
of_same a b f g s =
    let nodes = a.node == b.node in
    let lows = a.bounds.low == b.bounds.low in
    let highs = a.bounds.high == b.bounds.high in
    and_is (nodes && (lows && highs)) (int_eq f g)
    (and_is nodes (lows && highs) (is_nat a.node b.node s.node) (and_is lows highs (is_nat a.bounds.low b.bounds.low s.low) (is_nat a.bounds.high b.bounds.high s.high)))
    (is_int f g s.at)

pub turned_same : (a b : Base) (f g : ℤ) → IsSameVar a b f g → IsSameVar b a g f
turned_same a b f g s = record { node = sym s.node; low = sym s.low; high = sym s.high; at = sym s.at }

-- a base by its parts
abbrev pub base : ℕ → ℕ → ℕ → ℤ → Base
base node low high checked = record { node = node; bounds = record { low = low; high = high }; checked = checked }

pub bases : (n l h : ℕ) (c : ℤ) (n' l' h' : ℕ) (c' : ℤ) → n ≡ n' → l ≡ l' → h ≡ h' → c ≡ c' → base n l h c ≡ base n' l' h' c'
bases n l h c n' l' h' c' p q r s = ap (λ x. base x l h c) p ∙ ap (λ x. base n' x h c) q ∙ ap (λ x. base n' l' x c) r ∙ ap (base n' l' h') s

int_min-comm : (x y : ℤ) → int_min x y ≡ int_min y x
int_min-comm x y = by_tests (int_lt y x) refl (int_lt x y) refl
  where
    by_tests : (s : Bool) → int_lt y x ≡ s → (t : Bool) → int_lt x y ≡ t → cond s y x ≡ cond t x y
    by_tests true e true f = absurd (omega (arith, ints))
    by_tests true e false f = refl
    by_tests false e true f = refl
    by_tests false e false f = omega (arith, ints)

int_min-same : (x : ℤ) → int_min x x ≡ x
int_min-same x = by_test (int_lt x x)
  where
    by_test : (t : Bool) → cond t x x ≡ x
    by_test true = refl
    by_test false = refl

var-comm : (a b : Base) (f g : ℤ) → cond (same_var a b f g) (Var (joined_base a b) f) Mixed ≡ cond (same_var b a g f) (Var (joined_base b a) g) Mixed
var-comm a b f g = by_tests (same_var a b f g) refl (same_var b a g f) refl
  where
    by_tests : (s : Bool) → same_var a b f g ≡ s → (t : Bool) → same_var b a g f ≡ t → cond s (Var (joined_base a b) f) Mixed ≡ cond t (Var (joined_base b a) g) Mixed
    by_tests true e true h =
        let s = same_of a b f g e in
        let parts : joined_base a b ≡ joined_base b a =
        bases a.node a.bounds.low a.bounds.high (int_min a.checked b.checked) b.node b.bounds.low b.bounds.high (int_min b.checked a.checked) s.node s.low s.high (int_min-comm a.checked b.checked) in
        ap (λ x. Var x f) parts ∙ ap (Var (joined_base b a)) s.at
    by_tests true e false h = let k = of_same b a g f (turned_same a b f g (same_of a b f g e)) in absurd (cc)
    by_tests false e true h = let k = of_same a b f g (turned_same b a g f (same_of b a g f h)) in absurd (cc)
    by_tests false e false h = refl

var-same : (a : Base) (f : ℤ) → cond (same_var a a f f) (Var (joined_base a a) f) Mixed ≡ Var a f
var-same a f =
    let e = of_same a a f f (record { node = refl; low = refl; high = refl; at = refl }) in
    ap (λ t. cond t (Var (joined_base a a) f) Mixed) e ∙ ap (λ x. Var (base a.node a.bounds.low a.bounds.high x) f) (int_min-same a.checked)

pub join_kind-comm : (a b : Kind) → join_kind a b ≡ join_kind b a
join_kind-comm (Num a) (Num b) = ap Num (join_number-comm a b)
join_kind-comm (Packet o) (Packet p) = grind (arith, nat_tests)
join_kind-comm (Var a f) (Var b g) = var-comm a b f g
join_kind-comm (Stack o) (Stack p) = grind (arith, ints)
join_kind-comm (MapRef q) (MapRef r) = grind (arith, nat_tests)
join_kind-comm (Maybe q n) (Maybe r m) = grind (arith, nat_tests)
join_kind-comm (Entry q o) (Entry r p) = grind (arith, nat_tests)
join_kind-comm a Unset = refl
join_kind-comm a b = refl

pub join_kind-same : (a : Kind) → join_kind a a ≡ a
join_kind-same (Num a) = ap Num (join_number-same a)
join_kind-same (Packet o) = grind (arith, nat_tests)
join_kind-same (Var b f) = var-same b f
join_kind-same (Stack o) = grind (arith, ints)
join_kind-same (MapRef q) = grind (arith, nat_tests)
join_kind-same (Maybe q n) = grind (arith, nat_tests)
join_kind-same (Entry q o) = grind (arith, nat_tests)
join_kind-same Unset = refl
join_kind-same End = refl
join_kind-same Ctx = refl
join_kind-same Stale = refl
join_kind-same Mixed = refl

join_list-comm : (as' bs : List Kind) → join_list as' bs ≡ join_list bs as'
join_list-comm (a ∷ as') (b ∷ bs) = ap (λ x. x ∷ join_list as' bs) (join_kind-comm a b) ∙ ap (λ xs. join_kind b a ∷ xs) (join_list-comm as' bs)
join_list-comm (a ∷ as') [] = refl
join_list-comm [] (b ∷ bs) = refl
join_list-comm [] [] = refl

join_list-same : (as' : List Kind) → join_list as' as' ≡ as'
join_list-same (a ∷ as') = ap (λ x. x ∷ join_list as' as') (join_kind-same a) ∙ ap (λ xs. a ∷ xs) (join_list-same as')
join_list-same [] = refl

join_offsets-comm : (a b : Offsets) → join_offsets a b ≡ join_offsets b a
join_offsets-comm Varying Varying = refl
join_offsets-comm Varying Fixed = refl
join_offsets-comm Fixed Varying = refl
join_offsets-comm Fixed Fixed = refl

join_offsets-same : (a : Offsets) → join_offsets a a ≡ a
join_offsets-same Varying = refl
join_offsets-same Fixed = refl

-- kinds by their parts
abbrev pub kinds : List Kind → List Kind → ℕ → Offsets → Kinds
kinds registers slots checked offsets = record { registers = registers; slots = slots; checked = checked; offsets = offsets }

pub join_is_commutative : JoinIsCommutative
join_is_commutative k j =
    ap (λ x. kinds x (join_list k.slots j.slots) (min k.checked j.checked) (join_offsets k.offsets j.offsets)) (join_list-comm k.registers j.registers)
    ∙ ap (λ x. kinds (join_list j.registers k.registers) x (min k.checked j.checked) (join_offsets k.offsets j.offsets)) (join_list-comm k.slots j.slots)
    ∙ ap (λ x. kinds (join_list j.registers k.registers) (join_list j.slots k.slots) x (join_offsets k.offsets j.offsets)) (min-comm k.checked j.checked)
    ∙ ap (λ x. kinds (join_list j.registers k.registers) (join_list j.slots k.slots) (min j.checked k.checked) x) (join_offsets-comm k.offsets j.offsets)

pub join_is_idempotent : JoinIsIdempotent
join_is_idempotent k =
    ap (λ x. kinds x (join_list k.slots k.slots) (min k.checked k.checked) (join_offsets k.offsets k.offsets)) (join_list-same k.registers)
    ∙ ap (λ x. kinds k.registers x (min k.checked k.checked) (join_offsets k.offsets k.offsets)) (join_list-same k.slots)
    ∙ ap (λ x. kinds k.registers k.slots x (join_offsets k.offsets k.offsets)) (min-same k.checked)
    ∙ ap (λ x. kinds k.registers k.slots k.checked x) (join_offsets-same k.offsets)
