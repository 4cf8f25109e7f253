-- Registers of a place, one after another, in a table.
use Rattle.std.specs.Prelude.{◌≡◌, ◌≢◌, ℕ, zero, suc, ◌+◌, ◌<◌, ◌≤◌, Option, Some, None, All, List, [], ◌∷◌, length, slice_set}
use Rattle.std.proofs.Common.{get_or, refl, sym, ap, ◌∙◌, subst, arith, inl, inr, ◌⊎◌}
use Rattle.std.proofs.lemmas.Bool.{cases_eq}
use Rattle.std.proofs.lemmas.List.{length-set, get_or-set_same, get_or-set_other, get_or_default}
use Rattle.net_core.specs.Value.{Env}
use Rattle.block_core.specs.declared.name.Name.{Name}
use Rattle.block_core.specs.declared.name.Name.TheVariants as name
use Rattle.overlay_net.specs.cell_core.Cells.{CellView}
use Rattle.overlay_net.specs.cell_core.Formed.{AreFormed}
use Rattle.cell_nets.specs.declared.operand.Operand.{Operand}
use Rattle.cell_nets.specs.declared.operand.Operand.TheVariants.{Net}
use Rattle.cell_nets.specs.Operands.{number_in, IsOperand, IsAvailable}
use Rattle.cell_nets.specs.Wires.{HasBits}
use Rattle.row_net.specs.Table.{Stands, IsIn, IsTable, AreThere, Holds}
use Rattle.row_net.specs.PlaceNet.Place.{width_at, registers_from, IsTaken}

-- what stands for a carried cell
pub record IsRegister {P : Type 0} (p : P) (cells : List CellView) (carried : List ℕ) (upto k : ℕ) (a : Operand (Name P)) : Type 0 where
  pub place : ℕ
  pub below : place < upto
  pub cell : get_or carried place 0 ≡ k
  pub is : a ≡ Net (name.Register p place) (width_at cells k)

-- the first registers stand in the table
pub record HasTaken {P : Type 0} (p : P) (cells : List CellView) (carried : List ℕ) (upto : ℕ) (before now : List (Option (Operand (Name P)))) : Type 0 where
  pub count : length now ≡ length before
  pub taken : (i : ℕ) → i < upto → IsIn now (get_or carried i 0)
  pub grows : (k : ℕ) → IsIn before k → IsIn now k
  pub others : (k : ℕ) → ((i : ℕ) → i < upto → ¬ (get_or carried i 0 ≡ k)) → get_or now k None ≡ get_or before k None
  pub each : (k : ℕ) (a : Operand (Name P)) → Stands now k a → Stands before k a ⊎ IsRegister p cells carried upto k a

-- one more
module _ {P : Type 0} (p : P) (cells : List CellView) (carried : List ℕ) (upto k : ℕ) (before now : List (Option (Operand (Name P)))) (h : HasTaken p cells carried upto before now) (here : get_or carried upto 0 ≡ k) (within : k < length now) where
  abbrev net : Operand (Name P)
  net = Net (name.Register p upto) (width_at cells k)

  abbrev next : List (Option (Operand (Name P)))
  next = slice_set now k (Some net)

  at_k : get_or next k None ≡ Some net
  at_k = get_or-set_same now k (Some net) None within

  at_other : (j : ℕ) → j ≢ k → get_or next j None ≡ get_or now j None
  at_other j apart = get_or-set_other now k j (Some net) None apart

  in_next : (j : ℕ) → IsIn now j → IsIn next j
  in_next j i = by_case (cases_eq j k)
    where
      by_case : (j ≡ k) ⊎ (j ≢ k) → IsIn next j
      by_case (inl e) = (net, ap (λ n. get_or next n None) e ∙ at_k)
      by_case (inr n) = (i.0, at_other j n ∙ i.1)

  earlier : (j : ℕ) (a : Operand (Name P)) → Stands before j a ⊎ IsRegister p cells carried upto j a → Stands before j a ⊎ IsRegister p cells carried (suc upto) j a
  earlier j a (inl s) = inl s
  earlier j a (inr r) = let l = r.below in inr (record { place = r.place; below = omega arith; cell = r.cell; is = r.is })

  each_next : (j : ℕ) (a : Operand (Name P)) → Stands next j a → Stands before j a ⊎ IsRegister p cells carried (suc upto) j a
  each_next j a s = by_case (cases_eq j k)
    where
      by_case : (j ≡ k) ⊎ (j ≢ k) → Stands before j a ⊎ IsRegister p cells carried (suc upto) j a
      by_case (inl e) =
          let same : Some a ≡ Some net = sym s ∙ ap (λ n. get_or next n None) e ∙ at_k in
          let is : a ≡ net = cc in
          inr (record { place = upto; below = omega arith; cell = here ∙ sym e; is = is ∙ ap (λ n. Net (name.Register p upto) (width_at cells n)) (sym e) })
      by_case (inr n) = earlier j a (h.each j a (sym (at_other j n) ∙ s))

  each_taken : (i : ℕ) → i < suc upto → IsIn next (get_or carried i 0)
  each_taken i l = by_case (cases_eq i upto)
    where
      by_case : (i ≡ upto) ⊎ (i ≢ upto) → IsIn next (get_or carried i 0)
      by_case (inl e) = subst (IsIn next) (sym (ap (λ n. get_or carried n 0) e ∙ here)) (net, at_k)
      by_case (inr n) = in_next (get_or carried i 0) (h.taken i (omega arith))

  one_taken : HasTaken p cells carried (suc upto) before next
  one_taken = record {
    count = length-set now k (Some net) ∙ h.count;
    taken = each_taken;
    grows = λ j i. in_next j (h.grows j i);
    others = λ j n. at_other j (λ e. n upto (omega arith) (here ∙ sym e)) ∙ h.others j (λ i l. n i (omega arith));
    each = each_next;
  }

pub taken_next :
    {P : Type 0} (p : P) (cells : List CellView) (carried : List ℕ) (upto register width : ℕ) (before now : List (Option (Operand (Name P)))) → HasTaken p cells carried upto before now → get_or carried upto 0 < length now → register ≡ upto → width ≡ width_at cells (get_or carried upto 0)
    → HasTaken p cells carried (upto + 1) before (slice_set now (get_or carried upto 0) (Some (Net (name.Register p register) width)))
taken_next p cells carried upto register width before now h within e f =
    let k : ℕ = get_or carried upto 0 in
    let n : suc upto ≡ upto + 1 = omega arith in
    subst (λ j. HasTaken p cells carried (upto + 1) before (slice_set now k (Some (Net (name.Register p j) width)))) (sym e)
    (subst (λ j. HasTaken p cells carried (upto + 1) before (slice_set now k (Some (Net (name.Register p upto) j)))) (sym f)
    (subst (λ j. HasTaken p cells carried j before (slice_set now k (Some (Net (name.Register p upto) (width_at cells k))))) n (one_taken p cells carried upto k before now h refl within)))

-- ---- all of them
register_there : {P : Type 0} (p : P) (cells : List CellView) (ins : List (Operand (Name P))) (ks : List ℕ) (at i : ℕ) → i < length ks → All (IsAvailable ins) (registers_from p cells at ks) → IsAvailable ins (Net (name.Register p (at + i)) (width_at cells (get_or ks i 0)))
register_there p cells ins [] at i l h = absurd (omega arith)
register_there p cells ins (k ∷ ks) at zero l h = let z : at + 0 ≡ at = omega arith in subst (λ n. IsAvailable ins (Net (name.Register p n) (width_at cells k))) (sym z) (h 0 (Net (name.Register p at) (width_at cells k)) (omega arith))
register_there p cells ins (k ∷ ks) at (suc i) l h =
    let e : suc at + i ≡ at + suc i = omega arith in
    subst (λ n. IsAvailable ins (Net (name.Register p n) (width_at cells (get_or ks i 0)))) e (register_there p cells ins ks (suc at) i (omega arith) (λ j d m. h (suc j) d (omega arith)))

module _ {P : Type 0} (p : P) (cells : List CellView) (carried : List ℕ) (before now : List (Option (Operand (Name P)))) (formed : AreFormed cells) (table : IsTable cells before) (within : All (λ k. k < length cells) carried)
    (some : All (λ k. 0 < width_at cells k) carried) (h : HasTaken p cells carried (length carried) before now) where
  some_bits : (k : ℕ) (a : Operand (Name P)) → IsRegister p cells carried (length carried) k a → 0 < width_at cells k
  some_bits k a r = subst (λ j. 0 < width_at cells j) r.cell (some r.place 0 r.below)

  most_bits : (k : ℕ) (a : Operand (Name P)) → IsRegister p cells carried (length carried) k a → width_at cells k ≤ 64
  most_bits k a r = subst (λ j. width_at cells j ≤ 64) r.cell (formed.each (get_or carried r.place 0) (within r.place 0 r.below)).width

  operand_is : (k : ℕ) (a : Operand (Name P)) → Stands before k a ⊎ IsRegister p cells carried (length carried) k a → IsOperand a
  operand_is k a (inl s) = table.operand k a s
  operand_is k a (inr r) = subst IsOperand (sym r.is) (record { some = some_bits k a r; most = most_bits k a r })

  bits_are : (k : ℕ) (a : Operand (Name P)) → Stands before k a ⊎ IsRegister p cells carried (length carried) k a → HasBits (width_at cells k) a
  bits_are k a (inl s) = table.bits k a s
  bits_are k a (inr r) = subst (HasBits (width_at cells k)) (sym r.is) refl

  there_is : (ins : List (Operand (Name P))) → AreThere ins before → All (IsAvailable ins) (registers_from p cells 0 carried) → (k : ℕ) (a : Operand (Name P)) → Stands before k a ⊎ IsRegister p cells carried (length carried) k a → IsAvailable ins a
  there_is ins b all k a (inl s) = b k a s
  there_is ins b all k a (inr r) =
      let z : 0 + r.place ≡ r.place = omega arith in
      subst (IsAvailable ins) (ap (λ n. Net (name.Register p n) (width_at cells (get_or carried r.place 0))) z ∙ ap (λ j. Net (name.Register p r.place) (width_at cells j)) r.cell ∙ sym r.is) (register_there p cells ins carried 0 r.place r.below all)

  number_is : (v : Env (Name P)) (val : ℕ → ℕ) → ((i : ℕ) → i < length carried → (v.net (name.Register p i)).value ≡ val (get_or carried i 0)) → Holds v before val → (k : ℕ) (a : Operand (Name P)) → Stands before k a ⊎ IsRegister p cells carried (length carried) k a
      → number_in v a ≡ val k
  number_is v val e b k a (inl s) = b k a s
  number_is v val e b k a (inr r) = ap (number_in v) r.is ∙ e r.place r.below ∙ ap val r.cell

  pub all_taken : IsTaken p cells carried before now
  all_taken = record {
    table = record { count = h.count ∙ table.count; operand = λ k a s. operand_is k a (h.each k a s); bits = λ k a s. bits_are k a (h.each k a s) };
    taken = λ i d l. subst (IsIn now) (get_or_default carried i 0 d l) (h.taken i l);
    grows = h.grows;
    kept = λ k n. h.others k (λ i l e. n (i, l, get_or_default carried i k 0 l ∙ e));
    there = λ ins b all k a s. there_is ins b all k a (h.each k a s);
    value = λ v val e b k a s. number_is v val e b k a (h.each k a s);
  }
