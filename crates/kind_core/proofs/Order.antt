-- Kinds in order, from what is known exactly to what is not known at all: a join is the least kind above both sides.
use Rattle.std.proofs.Common.{◌≡◌, ℤ, ◌≤◌, ◌==◌, min, max, int_lt, Bool, true, false, cond, refl, sym, ap, ◌∙◌, subst, arith}
use Rattle.std.specs.Prelude.{◌≤ℤ◌}
use Rattle.std.specs.Int.{int_min}
use Rattle.std.proofs.lemmas.Int.{ints}
use Rattle.std.proofs.lemmas.Bool.Decides.{nat_tests}
use Rattle.kind_core.specs.declared.number.Number.{Number}
use Rattle.kind_core.specs.declared.number.Number.TheVariants.{Known, Between}
use Rattle.kind_core.specs.declared.kind.Kind.{Kind}
use Rattle.kind_core.specs.declared.kind.Kind.TheVariants.{Unset, Num, Packet, Var, End, Stack, Ctx, MapRef, Maybe, Entry, Stale, Mixed}
use Rattle.kind_core.specs.declared.base.Base.{Base}
use Rattle.kind_core.specs.NumberBounds.{lower, upper}
use Rattle.kind_core.specs.Numbers.{join_number}
use Rattle.kind_core.specs.Bases.{joined_base}
use Rattle.kind_core.specs.Joins.{join_kind}
use Rattle.kind_core.proofs.JoinLaws.{between, of_same, bases, join_kind-comm, join_kind-same}

abbrev is_unset : Kind → Bool
is_unset Unset = true
is_unset k = false

-- bounds that lie within others, and what is known exactly
abbrev Finer : Number → Number → Type 0
Finer a (Known c) = a ≡ Known c
Finer a (Between lo hi) = (lo ≤ lower a) × (upper a ≤ hi)

finer_left : (a b : Number) → Finer a (join_number a b)
finer_left (Known a) (Known b) = by_test (a == b)
  where
    by_test : (t : Bool) → Finer (Known a) (cond t (Known a) (Between (min a b) (max a b)))
    by_test true = refl
    by_test false = (omega arith, omega arith)
finer_left (Known a) (Between lo hi) = (omega arith, omega arith)
finer_left (Between lo hi) n = (omega arith, omega arith)

finer_least : (a b c : Number) → Finer a c → Finer b c → Finer (join_number a b) c
finer_least (Known a) (Known b) (Known c) p q =
    let first : a ≡ c = cc in
    let second : b ≡ c = cc in
    let e : (a == b) ≡ true = grind (arith, nat_tests) in
    ap (λ t. cond t (Known a) (Between (min a b) (max a b))) e ∙ p
finer_least (Known a) (Known b) (Between lo hi) p q = by_test (a == b)
  where
    by_test : (t : Bool) → Finer (cond t (Known a) (Between (min a b) (max a b))) (Between lo hi)
    by_test true = p
    by_test false = (omega (arith, p.0, q.0), omega (arith, p.1, q.1))
finer_least (Known a) (Between l h) (Known c) p q = cc
finer_least (Known a) (Between l h) (Between lo hi) p q = (omega (arith, p.0, q.0), omega (arith, p.1, q.1))
finer_least (Between l h) b (Known c) p q = cc
finer_least (Between l h) b (Between lo hi) p q = (omega (arith, p.0, q.0), omega (arith, p.1, q.1))

finer_same : (a : Number) → Finer a a
finer_same (Known a) = refl
finer_same (Between lo hi) = (omega arith, omega arith)

finer_trans : (a b c : Number) → Finer a b → Finer b c → Finer a c
finer_trans a (Known b) c p q = subst (λ x. Finer x c) (sym p) q
finer_trans a (Between l h) (Known c) p q = cc
finer_trans a (Between l h) (Between lo hi) p q = (omega (arith, p.0, q.0), omega (arith, p.1, q.1))

finer_antisym : (a b : Number) → Finer a b → Finer b a → a ≡ b
finer_antisym a (Known b) p q = p
finer_antisym (Known a) (Between lo hi) p q = sym q
finer_antisym (Between l h) (Between lo hi) p q = between l h lo hi (omega (arith, p.0, q.0)) (omega (arith, p.1, q.1))

-- a base of which less is checked
record Weaker (a b : Base) : Type 0 where
  node : a.node ≡ b.node
  low : a.bounds.low ≡ b.bounds.low
  high : a.bounds.high ≡ b.bounds.high
  checked : b.checked ≤ℤ a.checked

weaker_trans : (a b c : Base) → Weaker a b → Weaker b c → Weaker a c
weaker_trans a b c p q = record { node = p.node ∙ q.node; low = p.low ∙ q.low; high = p.high ∙ q.high; checked = omega (arith, ints, p.checked, q.checked) }

weaker_antisym : (a b : Base) → Weaker a b → Weaker b a → a ≡ b
weaker_antisym a b p q =
    bases a.node a.bounds.low a.bounds.high a.checked b.node b.bounds.low b.bounds.high b.checked p.node p.low p.high (omega (arith, ints, p.checked, q.checked))

pub int_min_left : (x y : ℤ) → int_min x y ≤ℤ x
int_min_left x y = by_test (int_lt y x) refl
  where
    by_test : (t : Bool) → int_lt y x ≡ t → cond t y x ≤ℤ x
    by_test true e = omega (arith, ints)
    by_test false e = omega (arith, ints)

int_min_least : (x y z : ℤ) → z ≤ℤ x → z ≤ℤ y → z ≤ℤ int_min x y
int_min_least x y z p q = by_test (int_lt y x)
  where
    by_test : (t : Bool) → z ≤ℤ cond t y x
    by_test true = q
    by_test false = p

weaker_left : (a b : Base) → Weaker a (joined_base a b)
weaker_left a b = record { node = refl; low = refl; high = refl; checked = int_min_left a.checked b.checked }

data Below : Kind → Kind → Type 0 where
  same : {k : Kind} → Below k k
  number : {n m : Number} → Finer n m → Below (Num n) (Num m)
  weaker : {a b : Base} {f : ℤ} → Weaker a b → Below (Var a f) (Var b f)
  mixed : {k : Kind} → is_unset k ≡ false → Below k Mixed
  unset : {k : Kind} → Below k Unset

below_choice : (t : Bool) (k : Kind) → is_unset k ≡ false → Below k (cond t k Mixed)
below_choice true k h = same
below_choice false k h = mixed h

below_var : (t : Bool) (a b : Base) (f : ℤ) → Below (Var a f) (cond t (Var (joined_base a b) f) Mixed)
below_var true a b f = weaker (weaker_left a b)
below_var false a b f = mixed refl

below_left : (a b : Kind) → Below a (join_kind a b)
below_left Unset b = same
below_left a Unset = unset
below_left (Num a) (Num b) = number (finer_left a b)
below_left (Var a f) (Var b g) = below_var _ a b f
below_left (Packet o) (Packet p) = below_choice _ (Packet o) refl
below_left End End = same
below_left (Stack o) (Stack p) = below_choice _ (Stack o) refl
below_left Ctx Ctx = same
below_left (MapRef q) (MapRef r) = below_choice _ (MapRef q) refl
below_left (Maybe q n) (Maybe r m) = below_choice _ (Maybe q n) refl
below_left (Entry q o) (Entry r p) = below_choice _ (Entry q o) refl
below_left Stale Stale = same
below_left a b = mixed refl

below_right : (a b : Kind) → Below b (join_kind a b)
below_right a b = subst (Below b) (join_kind-comm b a) (below_left b a)

set_choice : (t : Bool) (k : Kind) → is_unset k ≡ false → is_unset (cond t k Mixed) ≡ false
set_choice true k h = h
set_choice false k h = refl

set_join : (a b : Kind) → is_unset a ≡ false → is_unset b ≡ false → is_unset (join_kind a b) ≡ false
set_join Unset b h g = h
set_join a Unset h g = g
set_join (Num a) (Num b) h g = refl
set_join (Var a f) (Var b g) h i = set_choice _ (Var (joined_base a b) f) refl
set_join (Packet o) (Packet p) h g = set_choice _ (Packet o) refl
set_join End End h g = refl
set_join (Stack o) (Stack p) h g = set_choice _ (Stack o) refl
set_join Ctx Ctx h g = refl
set_join (MapRef q) (MapRef r) h g = set_choice _ (MapRef q) refl
set_join (Maybe q n) (Maybe r m) h g = set_choice _ (Maybe q n) refl
set_join (Entry q o) (Entry r p) h g = set_choice _ (Entry q o) refl
set_join Stale Stale h g = refl
set_join a b h g = refl

least_var : (a b c : Base) (f : ℤ) → Weaker a c → Weaker b c → Below (join_kind (Var a f) (Var b f)) (Var c f)
least_var a b c f p q =
    let e = of_same a b f f (record { node = p.node ∙ sym q.node; low = p.low ∙ sym q.low; high = p.high ∙ sym q.high; at = refl }) in
    subst (λ t. Below (cond t (Var (joined_base a b) f) Mixed) (Var c f)) (sym e)
    (weaker (record { node = p.node; low = p.low; high = p.high; checked = int_min_least a.checked b.checked c.checked p.checked q.checked }))

weaker_same : (a : Base) → Weaker a a
weaker_same a = record { node = refl; low = refl; high = refl; checked = omega (arith, ints) }

-- the join is below whatever is above both
least : (a b c : Kind) → Below a c → Below b c → Below (join_kind a b) c
least a b c same same = subst (λ k. Below k a) (sym (join_kind-same a)) same
least a b c p unset = unset
least a b c unset q = unset
least a b c (mixed h) (mixed g) = mixed (set_join a b h g)
least a b c (mixed h) same = mixed (set_join a Mixed h refl)
least a b c same (mixed g) = mixed (set_join Mixed b refl g)
least a b c (number {n = n} {m = m} p) (number {n = k} {m = l} q) = number (finer_least n k m p q)
least a b c (number {n = n} {m = m} p) same = number (finer_least n m m p (finer_same m))
least a b c same (number {n = n} {m = m} q) = number (finer_least m n m (finer_same m) q)
least a b c (weaker {a = x} {b = z} {f = f} p) (weaker {a = y} {b = t} {f = g} q) = least_var x y z f p q
least a b c (weaker {a = x} {b = z} {f = f} p) same = least_var x z z f p (weaker_same z)
least a b c same (weaker {a = y} {b = z} {f = f} q) = least_var z y z f (weaker_same z) q

above_unset : (a b : Kind) → Below Unset b → Below a b
above_unset a b same = unset
above_unset a b unset = unset
above_unset a b (mixed h) = cc

above_mixed : (a b : Kind) → is_unset a ≡ false → Below Mixed b → Below a b
above_mixed a b h same = mixed h
above_mixed a b h unset = unset
above_mixed a b h (mixed g) = mixed h

above_number : (n m : Number) (b : Kind) → Finer n m → Below (Num m) b → Below (Num n) b
above_number n m b p same = number p
above_number n m b p (number {n = k} {m = l} q) = number (finer_trans n m l p q)
above_number n m b p unset = unset
above_number n m b p (mixed g) = mixed refl

above_var : (x y : Base) (f : ℤ) (b : Kind) → Weaker x y → Below (Var y f) b → Below (Var x f) b
above_var x y f b p same = weaker p
above_var x y f b p (weaker {a = u} {b = v} {f = g} q) = weaker (weaker_trans x y v p q)
above_var x y f b p unset = unset
above_var x y f b p (mixed g) = mixed refl

below_trans : (a b c : Kind) → Below a b → Below b c → Below a c
below_trans a b c same q = q
below_trans a b c unset q = above_unset a c q
below_trans a b c (mixed h) q = above_mixed a c h q
below_trans a b c (number {n = n} {m = m} p) q = above_number n m c p q
below_trans a b c (weaker {a = x} {b = y} {f = f} p) q = above_var x y f c p q

antisym_unset : (a : Kind) → Below Unset a → a ≡ Unset
antisym_unset a same = refl
antisym_unset a unset = refl
antisym_unset a (mixed h) = cc

antisym_mixed : (a : Kind) → is_unset a ≡ false → Below Mixed a → a ≡ Mixed
antisym_mixed a h same = refl
antisym_mixed a h (mixed g) = refl
antisym_mixed a h unset = cc

antisym_number : (n m : Number) → Finer n m → Below (Num m) (Num n) → Num n ≡ Num m
antisym_number n m p same = refl
antisym_number n m p (number {n = k} {m = l} q) = ap Num (finer_antisym n m p q)

antisym_var : (x y : Base) (f g : ℤ) → Weaker x y → f ≡ g → Below (Var y g) (Var x f) → Var x f ≡ Var y g
antisym_var x y f g p e same = refl
antisym_var x y f g p e (weaker {a = u} {b = v} {f = h} q) = ap (λ b. Var b h) (weaker_antisym x y p q)

antisym : (a b : Kind) → Below a b → Below b a → a ≡ b
antisym a b same q = refl
antisym a b unset q = antisym_unset a q
antisym a b (mixed h) q = antisym_mixed a h q
antisym a b (number {n = n} {m = m} p) q = antisym_number n m p q
antisym a b (weaker {a = x} {b = y} {f = f} p) q = antisym_var x y f f p refl q

pub join_kind-assoc : (a b c : Kind) → join_kind (join_kind a b) c ≡ join_kind a (join_kind b c)
join_kind-assoc a b c =
    let left = join_kind (join_kind a b) c in
    let right = join_kind a (join_kind b c) in
    antisym left right
    (least (join_kind a b) c right
    (least a b right (below_left a (join_kind b c)) (below_trans b (join_kind b c) right (below_left b c) (below_right a (join_kind b c))))
    (below_trans c (join_kind b c) right (below_right b c) (below_right a (join_kind b c))))
    (least a (join_kind b c) left
    (below_trans a (join_kind a b) left (below_left a b) (below_left (join_kind a b) c))
    (least b c left (below_trans b (join_kind a b) left (below_right a b) (below_left (join_kind a b) c)) (below_right (join_kind a b) c)))
