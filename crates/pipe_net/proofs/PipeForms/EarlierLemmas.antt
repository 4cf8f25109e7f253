-- The parts before a part, and operands that it may read: nets that stand before it, declared with their widths.
use Rattle.std.specs.Prelude.{◌≡◌, ℕ, zero, suc, ◌<◌, ◌≤◌, All, List, [], ◌∷◌, ◌++◌, Contains}
use Rattle.std.proofs.Common.{refl, ap, subst, arith, inl, inr, ◌⊎◌}
use Rattle.std.specs.List.{AllByRecursion}
use Rattle.std.proofs.lemmas.Bool.{cases_eq}
use Rattle.std.proofs.lemmas.List.Elements.{All-contains, All-from_recursion, Contains-append_cases}
use Rattle.block_core.specs.net_core.Ports.{port_list}
use Rattle.block_core.specs.declared.name.Name.{Name}
use Rattle.block_core.specs.declared.name.Name.TheVariants as name
use Rattle.block_core.specs.Blocks.{Whole, Among}
use Rattle.block_core.specs.Order.{IsBefore}
use Rattle.block_core.specs.Formed.{names_scope, name_width, IsThere}
use Rattle.turn_net.specs.cell_nets.declared.operand.Operand.{Operand}
use Rattle.turn_net.specs.cell_nets.declared.operand.Operand.TheVariants.{Known, Net, Part as Bits}
use Rattle.turn_net.specs.cell_nets.Operands.{AreDeclared, IsNetOf, IsAvailable}
use Rattle.turn_net.specs.cell_nets.OperandBlocks.Wiring.{Offers}
use Rattle.pipe_net.specs.declared.parts.Part.{Part}
use Rattle.pipe_net.specs.Parts as part

-- ---- the parts before the one of a number, the last one first
abbrev pub earlier : ℕ → List Part
earlier zero = []
earlier (suc n) = part.part n ∷ earlier n

pub among_earlier : (n k : ℕ) → k < n → Among (part.part k) (earlier n)
among_earlier zero k lt = absurd (omega (arith, lt))
among_earlier (suc n) k lt = elim (cases_eq k n) [
  | inl e ↦ inl (ap part.part e)
  | inr o ↦ inr (among_earlier n k (omega (arith, lt, o)))
]

pub earlier_below : (n : ℕ) (p : Part) → Among p (earlier n) → p.number < n
earlier_below zero p a = absurd a
earlier_below (suc n) p (inl e) = let same : p.number ≡ n = ap (λ (q : Part). q.number) e in omega (arith, same)
earlier_below (suc n) p (inr a) = let h = earlier_below n p a in omega (arith, h)

pub among_more : (n m : ℕ) → n ≤ m → (p : Part) → Among p (earlier n) → Among p (earlier m)
among_more n m le p a = let lt = earlier_below n p a in among_earlier m p.number (omega (arith, lt, le))

-- ---- a net that stands before the part of a number, whichever part it is
abbrev pub IsEarly : Whole Part → ℕ → Name Part → Type 0
IsEarly d n x = IsBefore d (earlier n) (part.part n) 0 x

-- ---- an operand of such nets, with their widths
abbrev pub IsReady : Whole Part → ℕ → Operand (Name Part) → Type 0
IsReady d n (Known c) = Unit {0}
IsReady d n (Net x w) = IsEarly d n x × (name_width d port_list x ≡ w)
IsReady d n (Bits x of from w) = IsEarly d n x × (name_width d port_list x ≡ of)

abbrev pub AreReady : Whole Part → ℕ → List (Operand (Name Part)) → Type 0
AreReady d n ins = (a : Operand (Name Part)) → Contains ins a → IsReady d n a

module _ (d : Whole Part) where
  pub early_later : (n m : ℕ) → n ≤ m → (x : Name Part) → IsEarly d n x → IsEarly d m x
  early_later n m le (name.Port i) h = tt
  early_later n m le (name.Register q i) h = h
  early_later n m le (name.Memory q i) h = h
  early_later n m le (name.Wire q i) (inl h) = absurd (omega (arith, h.1))
  early_later n m le (name.Wire q i) (inr h) = inr (among_more n m le q h.0, h.1)

  pub ready_declared : (n : ℕ) (ins : List (Operand (Name Part))) → AreReady d n ins → AreDeclared (names_scope d port_list) ins
  ready_declared n ins h (Known c) x = tt
  ready_declared n ins h (Net y w) x = (h (Net y w) x).1
  ready_declared n ins h (Bits y of from w) x = (h (Bits y of from w) x).1

  pub ready_early : (n : ℕ) (ins : List (Operand (Name Part))) → AreReady d n ins → (x : Name Part) → IsNetOf ins x → IsEarly d n x
  ready_early n ins h x (w, inl c) = (h (Net x w) c).0
  ready_early n ins h x (w, inr (from, u, c)) = (h (Bits x w from u) c).0

  -- both make it so
  pub ready_both : (n : ℕ) (ins : List (Operand (Name Part))) → AreDeclared (names_scope d port_list) ins → ((x : Name Part) → IsNetOf ins x → IsEarly d n x) → AreReady d n ins
  ready_both n ins declared before (Known c) x = tt
  ready_both n ins declared before (Net y w) x = (before y (w, inl x), declared (Net y w) x)
  ready_both n ins declared before (Bits y of from w) x = (before y (of, inr (from, w, x)), declared (Bits y of from w) x)

  pub is_later : (n m : ℕ) → n ≤ m → (a : Operand (Name Part)) → IsReady d n a → IsReady d m a
  is_later n m le (Known c) h = tt
  is_later n m le (Net x w) h = (early_later n m le x h.0, h.1)
  is_later n m le (Bits x of from w) h = (early_later n m le x h.0, h.1)

  pub ready_later : (n m : ℕ) → n ≤ m → (ins : List (Operand (Name Part))) → AreReady d n ins → AreReady d m ins
  ready_later n m le ins h a c = is_later n m le a (h a c)

  pub ready_available : (n : ℕ) (ins : List (Operand (Name Part))) → AreReady d n ins → (a : Operand (Name Part)) → IsAvailable ins a → IsReady d n a
  ready_available n ins h (Known c) x = tt
  ready_available n ins h (Net y w) x = h (Net y w) x
  ready_available n ins h (Bits y of from w) (inl c) = h (Net y of) c
  ready_available n ins h (Bits y of from w) (inr (at, u, c)) = h (Bits y of at u) c

  pub ready_all : (n : ℕ) (ins : List (Operand (Name Part))) → All (IsReady d n) ins → AreReady d n ins
  ready_all n ins h a c = All-contains (IsReady d n) ins a h c

  pub ready_there : (n : ℕ) (ins outs : List (Operand (Name Part))) → AreReady d n ins → All (IsAvailable ins) outs → AreReady d n outs
  ready_there n ins outs h there a c = ready_available n ins h a (All-contains (IsAvailable ins) outs a there c)

  pub ready_none : (n : ℕ) → AreReady d n []
  ready_none n a (k, lt, e) = absurd (omega (arith, lt))

  pub ready_cons : (n : ℕ) (a : Operand (Name Part)) (ins : List (Operand (Name Part))) → IsReady d n a → AreReady d n ins → AreReady d n (a ∷ ins)
  ready_cons n a ins first more b (zero, lt, e) = subst (IsReady d n) e first
  ready_cons n a ins first more b (suc k, lt, e) = more b (k, omega (arith, lt), e)

  pub ready_list : (n : ℕ) (ins : List (Operand (Name Part))) → AllByRecursion (IsReady d n) ins → AreReady d n ins
  ready_list n ins h = ready_all n ins (All-from_recursion (IsReady d n) ins h)

  pub ready_append : (n : ℕ) (xs ys : List (Operand (Name Part))) → AreReady d n xs → AreReady d n ys → AreReady d n (xs ++ ys)
  ready_append n xs ys left right a c = by_case (Contains-append_cases xs ys a c)
    where
      by_case : Contains xs a ⊎ Contains ys a → IsReady d n a
      by_case (inl x) = left a x
      by_case (inr x) = right a x

  -- what an earlier part offers is ready where what it reads is
  pub ready_offers : (k n : ℕ) → k < n → (outside outs : List (Operand (Name Part))) → Offers (part.part k) outside (d.block (part.part k)) outs → AreReady d k outside → AreReady d n outs
  ready_offers k n lt outside outs o h =
      ready_both n outs (o.declared d refl (ready_declared k outside h))
      (o.before d (earlier n) (part.part n) refl (among_earlier n k lt) (λ x c. early_later k n (omega (arith, lt)) x (ready_early k outside h x c)))

  -- ---- all of it is there, where the part is
  module _ (count : ℕ) (among : (k : ℕ) → k < count → Among (part.part k) d.parts) where
    pub early_there : (n : ℕ) → n ≤ count → (x : Name Part) → IsEarly d n x → IsThere d x
    early_there n le (name.Port i) h = tt
    early_there n le (name.Register q i) h = h
    early_there n le (name.Memory q i) h = h
    early_there n le (name.Wire q i) (inl h) = absurd (omega (arith, h.1))
    early_there n le (name.Wire q i) (inr h) = let lt = earlier_below n q h.0 in among q.number (omega (arith, lt, le))

    pub ready_is_there : (n : ℕ) → n ≤ count → (ins : List (Operand (Name Part))) → AreReady d n ins → (x : Name Part) → IsNetOf ins x → IsThere d x
    ready_is_there n le ins h x c = early_there n le x (ready_early n ins h x c)
