-- What is known where edges meet.
use Rattle.std.proofs.Common.{◌≡◌, ◌≢◌, ℕ, zero, suc, ◌≤◌, ◌==◌, ◌&&◌, min, max, Bool, true, false, if◌then◌else◌, List, [], ◌∷◌, length, get_or, refl, sym, ◌∙◌, ap, subst, arith}
use Rattle.std.specs.Prelude.{ℤ, fold, cond, int_lt, ◌≤ℤ◌}
use Rattle.std.specs.Ordering.{int_eq}
use Rattle.std.specs.Int.{int_min}
use Rattle.std.proofs.lemmas.Int.{ints}
use Rattle.std.proofs.lemmas.List.Elements.{All-head, All-tail, All-cons, All-nil}
use Rattle.kind_core.specs.declared.number.Number.{Number}
use Rattle.kind_core.specs.declared.number.Number.TheVariants.{Known, Between}
use Rattle.kind_core.specs.declared.kind.Kind.{Kind}
use Rattle.kind_core.specs.declared.kind.Kind.TheVariants.{Unset, Num, Packet, Var, End, Stack, Ctx, MapRef, Maybe, Entry, Stale, Mixed}
use Rattle.kind_core.specs.declared.base.Base.{Base}
use Rattle.kind_core.specs.declared.kind.Kinds.{Kinds}
use Rattle.kind_core.specs.declared.kind.Offsets.{Offsets}
use Rattle.kind_core.specs.declared.kind.Offsets.TheVariants.{Fixed, Varying}
use Rattle.kind_core.specs.NumberBounds.{lower, upper}
use Rattle.kind_core.specs.Bases.{same_base, joined_base}
use Rattle.kind_core.specs.Joins.{join_kind, join_list, join_offsets, joined}
use Rattle.kind_core.proofs.JoinLaws.{join_kind-comm}
use Rattle.kind_core.proofs.FixedLaws.{both_fixed}
use Rattle.edge_cells.specs.Widening.{Widens, AreWider, AreAlike, AreFilled, JoinsWiden, JoinsAreFilled}

same-le : (n : ℕ) → n ≤ n
same-le n = omega arith

same-int : (z : ℤ) → z ≤ℤ z
same-int z = omega (arith, ints)

int_min-left : (x y : ℤ) → int_min x y ≤ℤ x
int_min-left x y = by_test (int_lt y x) refl
  where
    by_test : (t : Bool) → int_lt y x ≡ t → cond t y x ≤ℤ x
    by_test true e = omega (arith, ints)
    by_test false e = omega (arith, ints)

least-left : (a b : ℕ) → min a b ≤ a
least-left a b = omega arith

most-left : (a b : ℕ) → a ≤ max a b
most-left a b = omega arith

pub widens-same : (a : Kind) → Widens a a
widens-same Unset = tt
widens-same Mixed = tt
widens-same (Num (Between lo hi)) = (Between lo hi, refl, same-le lo, same-le hi)
widens-same (Var a f) = (a, refl, refl, same-int a.checked)
widens-same (Num (Known n)) = refl
widens-same a = refl

widens-if : (t : Bool) (a : Kind) → Widens (if t then a else Mixed) a
widens-if true a = widens-same a
widens-if false a = tt

widens-known : (t : Bool) (a b : ℕ) → Widens (Num (if t then Known a else Between (min a b) (max a b))) (Num (Known a))
widens-known true a b = refl
widens-known false a b = (Known a, refl, least-left a b, most-left a b)

-- of one base the lesser of what is checked
widens-var : (t : Bool) (a b : Base) (f : ℤ) → Widens (if t then Var (joined_base a b) f else Mixed) (Var a f)
widens-var true a b f = (a, refl, refl, int_min-left a.checked b.checked)
widens-var false a b f = tt

widens-join : (a b : Kind) → Widens (join_kind a b) a
widens-join Unset b = tt
widens-join a Unset = tt
widens-join (Num (Known a)) (Num (Known b)) = widens-known (a == b) a b
widens-join (Num (Known a)) (Num (Between lo hi)) = (Known a, refl, least-left a lo, most-left a hi)
widens-join (Num (Between lo hi)) (Num n) = (Between lo hi, refl, least-left lo (lower n), most-left hi (upper n))
widens-join (Packet o) (Packet p) = widens-if (o == p) (Packet o)
widens-join (Var a f) (Var b g) = widens-var (same_base a b && int_eq f g) a b f
widens-join (Stack o) (Stack p) = widens-if (int_eq o p) (Stack o)
widens-join (MapRef q) (MapRef r) = widens-if (q == r) (MapRef q)
widens-join (Maybe q n) (Maybe r m) = widens-if ((q == r) && (n == m)) (Maybe q n)
widens-join (Entry q o) (Entry r p) = widens-if ((q == r) && (o == p)) (Entry q o)
widens-join End End = refl
widens-join Ctx Ctx = refl
widens-join Stale Stale = refl
widens-join a b = tt

widens-join-right : (a b : Kind) → Widens (join_kind a b) b
widens-join-right a b = subst (λ (k : Kind). Widens k b) (join_kind-comm b a) (widens-join b a)

join-unset : (a : Kind) → join_kind a Unset ≡ Unset
join-unset a = join_kind-comm a Unset

at_join : (xs ys : List Kind) (i : ℕ) → get_or (join_list xs ys) i Unset ≡ join_kind (get_or xs i Unset) (get_or ys i Unset)
at_join [] ys i = refl
at_join (x ∷ xs) [] i = sym (join-unset (get_or (x ∷ xs) i Unset))
at_join (x ∷ xs) (y ∷ ys) zero = refl
at_join (x ∷ xs) (y ∷ ys) (suc i) = at_join xs ys i

join_length : (xs ys : List Kind) → length xs ≡ length ys → length (join_list xs ys) ≡ length xs
join_length [] ys h = refl
join_length (x ∷ xs) [] h = absurd (omega arith)
join_length (x ∷ xs) (y ∷ ys) h = omega (arith, join_length xs ys (omega arith))

fixed-right : (a b : Offsets) → b ≡ Fixed → join_offsets a b ≡ Fixed
fixed-right Fixed b e = refl
fixed-right Varying Fixed e = refl
fixed-right Varying Varying e = e

left : (k j : Kinds) → AreAlike k j → AreWider (joined k j) k
left k j h = record {
  registers = λ r. subst (λ (x : Kind). Widens x (get_or k.registers r Unset)) (sym (at_join k.registers j.registers r)) (widens-join (get_or k.registers r Unset) (get_or j.registers r Unset));
  slots = λ s. subst (λ (x : Kind). Widens x (get_or k.slots s Unset)) (sym (at_join k.slots j.slots s)) (widens-join (get_or k.slots s Unset) (get_or j.slots s Unset));
  checked = omega arith;
  register_count = join_length k.registers j.registers h.registers;
  slot_count = join_length k.slots j.slots h.slots;
  offsets = both_fixed k.offsets j.offsets;
}

right : (k j : Kinds) → AreAlike k j → AreWider (joined k j) j
right k j h = record {
  registers = λ r. subst (λ (x : Kind). Widens x (get_or j.registers r Unset)) (sym (at_join k.registers j.registers r)) (widens-join-right (get_or k.registers r Unset) (get_or j.registers r Unset));
  slots = λ s. subst (λ (x : Kind). Widens x (get_or j.slots s Unset)) (sym (at_join k.slots j.slots s)) (widens-join-right (get_or k.slots s Unset) (get_or j.slots s Unset));
  checked = omega arith;
  register_count = join_length k.registers j.registers h.registers ∙ h.registers;
  slot_count = join_length k.slots j.slots h.slots ∙ h.slots;
  offsets = fixed-right k.offsets j.offsets;
}

number-on : (lo hi : ℕ) (n : Number) (c : Kind) → lo ≤ lower n → upper n ≤ hi → Widens (Num n) c → Widens (Num (Between lo hi)) c
number-on lo hi (Between l m) c low high h = (h.0, h.1, omega (arith, low, h.2), omega (arith, high, h.3))
number-on lo hi (Known x) c low high h = (Known x, sym h, low, high)

var-on : (a j : Base) (f : ℤ) (c : Kind) → a ≡ record j { checked = a.checked } → a.checked ≤ℤ j.checked → Widens (Var j f) c → Widens (Var a f) c
var-on a j f c same less h = (h.0, h.1, same ∙ ap (λ (b : Base). record b { checked = a.checked }) h.2, omega (arith, ints, less, h.3))

widens-on : (a b c : Kind) → Widens a b → Widens b c → Widens a c
widens-on Unset b c g h = tt
widens-on Mixed b c g h = tt
widens-on (Num (Between lo hi)) b c g h = number-on lo hi g.0 c g.2 g.3 (subst (λ (x : Kind). Widens x c) g.1 h)
widens-on (Var a f) b c g h = var-on a g.0 f c g.2 g.3 (subst (λ (x : Kind). Widens x c) g.1 h)
widens-on (Num (Known n)) b c g h = subst (λ (x : Kind). Widens x c) (sym g) h
widens-on a b c g h = subst (λ (x : Kind). Widens x c) (sym g) h

wider-on : (k j i : Kinds) → AreWider k j → AreWider j i → AreWider k i
wider-on k j i g h = record {
  registers = λ r. widens-on (get_or k.registers r Unset) (get_or j.registers r Unset) (get_or i.registers r Unset) (g.registers r) (h.registers r);
  slots = λ s. widens-on (get_or k.slots s Unset) (get_or j.slots s Unset) (get_or i.slots s Unset) (g.slots s) (h.slots s);
  checked = omega (arith, g.checked, h.checked);
  register_count = g.register_count ∙ h.register_count;
  slot_count = g.slot_count ∙ h.slot_count;
  offsets = λ e. g.offsets (h.offsets e);
}

wider-same : (k : Kinds) → AreWider k k
wider-same k = record {
  registers = λ r. widens-same (get_or k.registers r Unset);
  slots = λ s. widens-same (get_or k.slots s Unset);
  checked = omega arith;
  register_count = refl;
  slot_count = refl;
  offsets = λ e. e;
}

pub joins_widen : JoinsWiden
joins_widen k [] alike = (wider-same k, All-nil (AreWider k))
joins_widen k (j ∷ js) alike =
    let first : AreAlike k j = All-head (AreAlike k) j js alike in
    let rest = joins_widen (joined k j) js
    (λ i d l. let a : AreAlike k (get_or js i d) = All-tail (AreAlike k) j js alike i d l in
    record { registers = join_length k.registers j.registers first.registers ∙ a.registers; slots = join_length k.slots j.slots first.slots ∙ a.slots }) in (
      wider-on (fold joined k (j ∷ js)) (joined k j) k rest.0 (left k j first),
      All-cons (AreWider (fold joined k (j ∷ js))) j js (wider-on (fold joined k (j ∷ js)) (joined k j) j rest.0 (right k j first)) rest.1,
    )

if-set : (t : Bool) (a : Kind) → a ≢ Unset → (if t then a else Mixed) ≢ Unset
if-set true a h e = h e
if-set false a h e = absurd (cc)

set-join : (a b : Kind) → a ≢ Unset → b ≢ Unset → join_kind a b ≢ Unset
set-join Unset b h g e = h refl
set-join a Unset h g e = g refl
set-join (Packet o) (Packet p) h g e = if-set (o == p) (Packet o) h e
set-join (Var a f) (Var b i) h g e = if-set (same_base a b && int_eq f i) (Var (joined_base a b) f) (λ u. absurd (cc u)) e
set-join (Stack o) (Stack p) h g e = if-set (int_eq o p) (Stack o) h e
set-join (MapRef q) (MapRef r) h g e = if-set (q == r) (MapRef q) h e
set-join (Maybe q n) (Maybe r m) h g e = if-set ((q == r) && (n == m)) (Maybe q n) h e
set-join (Entry q o) (Entry r p) h g e = if-set ((q == r) && (o == p)) (Entry q o) h e
set-join a b h g e = absurd (cc)

join-filled : (k j : Kinds) → AreFilled k → AreFilled j → AreFilled (joined k j)
join-filled k j h g s l e = set-join (get_or k.slots s Unset) (get_or j.slots s Unset) (h s l) (g s l) (sym (at_join k.slots j.slots s) ∙ e)

pub joins_are_filled : JoinsAreFilled
joins_are_filled k [] h all = h
joins_are_filled k (j ∷ js) h all = joins_are_filled (joined k j) js (join-filled k j h (All-head AreFilled j js all)) (All-tail AreFilled j js all)
