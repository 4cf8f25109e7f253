-- What edges bring.
use Rattle.std.proofs.Common.{◌≡◌, ℕ, zero, suc, ◌+◌, ◌%◌, ◌<◌, ◌≤◌, ◌^◌, Bool, true, false, if◌then◌else◌, List, [], ◌∷◌, ◌++◌, length, take, get_or, append_assoc, All, map as map_list, refl, sym, ◌∙◌, ap, subst, arith}
use Rattle.std.specs.Prelude.{◌⊎◌}
use Rattle.std.specs.List.{AllByRecursion}
use Rattle.std.proofs.Common.{inl, inr}
use Rattle.std.proofs.lemmas.Bool.{cases_lt}
use Rattle.std.proofs.lemmas.List.{take_more, get_or_default}
use Rattle.std.proofs.Math.Nat.{pow-le-pow_right}
use Rattle.cell_core.specs.xdp_machine.State.{PacketIn}
use Rattle.cell_core.specs.Cells.{CellView, IsRun, cell_at, on, phi, bits_from}
use Rattle.cell_core.specs.CellLaws.{ValuesFit}
use Rattle.operator_cells.specs.declared.joining.Arm.{Arm}
use Rattle.operator_cells.specs.Joining.{chosen, followed, flat, AreThere, ChoiceIsRight}
use Rattle.operator_cells.specs.Following.{picked}
use Rattle.operator_cells.proofs.Numbers.{from_zero, low_same}

flat_behind : (xs : List Arm) (a : Arm) → flat (xs ++ a ∷ []) ≡ flat xs ++ a.bit ∷ a.cell ∷ []
flat_behind [] a = refl
flat_behind (x ∷ xs) a = ap (λ (ns : List ℕ). x.bit ∷ x.cell ∷ ns) (flat_behind xs a)

pub flat_more : (xs : List Arm) (i : ℕ) (d : Arm) → i < length xs → flat (take (i + 1) xs) ≡ flat (take i xs) ++ (get_or xs i d).bit ∷ (get_or xs i d).cell ∷ []
flat_more xs i d h = ap flat (take_more xs i d h) ∙ flat_behind (take i xs) (get_or xs i d)

-- the operator for joins chooses so
pub phi_flat : (v : ℕ → ℕ) (arms : List Arm) → phi (map_list v (flat arms)) ≡ chosen v arms
phi_flat v [] = refl
phi_flat v (a ∷ []) = refl
phi_flat v (a ∷ b ∷ more) = ap (λ (n : ℕ). if on (v a.bit) then v a.cell else n) (phi_flat v (b ∷ more))

-- and so it picks of the numbers that go with cells
pub picked_flat : (v u : ℕ → ℕ) (arms : List Arm) → picked v u (flat arms) ≡ followed v u arms
picked_flat v u [] = refl
picked_flat v u (a ∷ []) = refl
picked_flat v u (a ∷ b ∷ more) = ap (λ (n : ℕ). if on (v a.bit) then u a.cell else n) (picked_flat v u (b ∷ more))

-- what is chosen is one of what is brought
chosen-one : (P : ℕ → Type 0) (v u : ℕ → ℕ) (arms : List Arm) → 1 ≤ length arms → All (λ a. P (u a.cell)) arms → P (followed v u arms)
chosen-one P v u [] h all = absurd (omega arith)
chosen-one P v u (a ∷ []) h all = all 0 a (omega arith)
chosen-one P v u (a ∷ b ∷ more) h all = by (on (v a.bit)) (chosen-one P v u (b ∷ more) (omega arith) (λ i d l. all (suc i) d (omega arith)))
  where
    by : (t : Bool) → P (followed v u (b ∷ more)) → P (if t then u a.cell else followed v u (b ∷ more))
    by true rest = all 0 a (omega arith)
    by false rest = rest

-- where all edges bring one cell it is that
pub followed_same : (v u : ℕ → ℕ) (arms : List Arm) (c : ℕ) → 1 ≤ length arms → All (λ a. a.cell ≡ c) arms → u c ≡ followed v u arms
followed_same v u arms c h all = chosen-one (λ n. u c ≡ n) v u arms h (λ i d l. ap u (sym (all i d l)))

-- of cells that are not wider nothing is cut off
pub chosen_fits : (packet : PacketIn) (cells : List CellView) (v : ℕ → ℕ) (arms : List Arm) (w : ℕ) → ValuesFit → IsRun packet cells v → 1 ≤ length arms
    → AreThere cells arms → All (λ a. (cell_at cells a.cell).width ≤ w) arms → bits_from (phi (map_list v (flat arms))) 0 w ≡ chosen v arms
chosen_fits packet cells v arms w fit run some there wide =
    from_zero _ w ∙ ap (λ (n : ℕ). n % 2 ^ w) (phi_flat v arms) ∙ low_same w (chosen v arms) (chosen-one (λ n. n < 2 ^ w) v v arms some below)
  where
    below : All (λ a. v a.cell < 2 ^ w) arms
    below i d l = omega (arith, fit packet cells v run (get_or arms i d).cell (there i d l).1, pow-le-pow_right {n = 2} (omega arith) {i = (cell_at cells (get_or arms i d).cell).width} {j = w} (wide i d l))

-- one edge more of which something holds
pub all_more : (P : Arm → Type 0) (arms : List Arm) (n : ℕ) (x : Arm) → n < length arms → P (get_or arms n x) → ((i : ℕ) (d : Arm) → i < n → P (get_or arms i d))
    → (i : ℕ) (d : Arm) → i < n + 1 → P (get_or arms i d)
all_more P arms n x range h old i d l = by (cases_lt i n)
  where
    by : (i < n) ⊎ (n ≤ i) → P (get_or arms i d)
    by (inl l2) = old i d l2
    by (inr l2) = let e : n ≡ i = omega (arith, l, l2) in
        subst (λ (k : ℕ). P (get_or arms k d)) e (subst P (get_or_default arms n x d range) h)

pub flat_step : (arms : List Arm) (i : ℕ) (x : Arm) (a b c : List ℕ) → i < length arms → a ≡ flat (take i arms) → b ≡ a ++ (get_or arms i x).bit ∷ [] → c ≡ b ++ (get_or arms i x).cell ∷ []
    → c ≡ flat (take (i + 1) arms)
flat_step arms i x a b c range e f g =
    g ∙ ap (λ (ns : List ℕ). ns ++ (get_or arms i x).cell ∷ []) f
    ∙ append_assoc a ((get_or arms i x).bit ∷ []) ((get_or arms i x).cell ∷ [])
    ∙ ap (λ (ns : List ℕ). ns ++ (get_or arms i x).bit ∷ (get_or arms i x).cell ∷ []) e
    ∙ sym (flat_more arms i x range)

-- what is there is there by the flat list
pub flat_there : (n : ℕ) (arms : List Arm) → ((i : ℕ) (d : Arm) → i < length arms → ((get_or arms i d).bit < n) × ((get_or arms i d).cell < n)) → AllByRecursion (λ i. i < n) (flat arms)
flat_there n [] there = tt
flat_there n (a ∷ more) there = ((there 0 a (omega arith)).0, ((there 0 a (omega arith)).1, flat_there n more (λ i d l. there (suc i) d (omega arith))))

pub flat_long : (arms : List Arm) → 1 ≤ length arms → 2 ≤ length (flat arms)
flat_long [] h = absurd (omega arith)
flat_long (a ∷ more) h = omega arith

pub choice_is_right : ChoiceIsRight
choice_is_right v [] n i d l h all = absurd (omega arith)
choice_is_right v (a ∷ []) n zero d l h all = all 0 a (omega arith) h
choice_is_right v (a ∷ []) n (suc i) d l h all = absurd (omega arith)
choice_is_right v (a ∷ b ∷ more) n zero d l h all = rw h (all 0 a (omega arith) h)
choice_is_right v (a ∷ b ∷ more) n (suc i) d l h all = by (on (v a.bit)) refl (choice_is_right v (b ∷ more) n i d (omega arith) h (λ j e m. all (suc j) e (omega arith)))
  where
    by : (t : Bool) → on (v a.bit) ≡ t → chosen v (b ∷ more) ≡ n → (if t then v a.cell else chosen v (b ∷ more)) ≡ n
    by true e rest = all 0 a (omega arith) e
    by false e rest = rest
