-- Registers that stand for pointers.
use Rattle.std.specs.Prelude.{◌≡◌, ℕ, suc, ◌+◌, ◌<◌, Option, Some, None, All, List, [], ◌∷◌, ◌++◌, length, slice_set, take}
use Rattle.std.proofs.Common.{get_or, refl, sym, ap, ◌∙◌, arith}
use Rattle.std.proofs.lemmas.List.{length-set, get_or-set_other, length-take}
use Rattle.std.proofs.lemmas.List.Elements.{All-nil, All-cons, All-head, All-tail}
use Rattle.std.proofs.Math.Seq.{take-suc}
use Rattle.block_core.specs.declared.name.Name.{Name}
use Rattle.block_core.specs.declared.name.Name.TheVariants as name
use Rattle.overlay_net.specs.cell_core.Cells.{CellView}
use Rattle.cell_nets.specs.declared.operand.Operand.{Operand}
use Rattle.cell_nets.specs.declared.operand.Operand.TheVariants.{Net}
use Rattle.cell_nets.specs.Operands.{number_in, IsOperand, IsWide, IsAvailable}
use Rattle.cell_nets.specs.Wires.{HasBits}
use Rattle.overlay_net.specs.SiteOperands.Pointers.{pointer_number}
use Rattle.row_net.specs.Table.{IsIn}
use Rattle.row_net.specs.SitePlace.Pointing.{IsPointers}
use Rattle.row_net.specs.SitePlace.SitePlace.{pointer_registers, AreTaken}
use Rattle.row_net.proofs.SitePlace.ChangeLemmas.{at_place, of_changed, still_in}

module _ {P : Type 0} (p : P) (bits : ℕ) where
  abbrev register : ℕ → Operand (Name P)
  register n = Net (name.Register p n) bits

  -- a table with registers from a number on
  abbrev pub with_registers : ℕ → List ℕ → List (Option (Operand (Name P))) → List (Option (Operand (Name P)))
  with_registers at [] table = table
  with_registers at (k ∷ ks) table = with_registers (suc at) ks (slice_set table k (Some (register at)))

  pub with_length : (ks : List ℕ) (at : ℕ) (table : List (Option (Operand (Name P)))) → length (with_registers at ks table) ≡ length table
  with_length [] at table = refl
  with_length (k ∷ ks) at table = with_length ks (suc at) (slice_set table k (Some (register at))) ∙ length-set table k (Some (register at))

  at_end : (ks : List ℕ) (k at : ℕ) (table : List (Option (Operand (Name P)))) → with_registers at (ks ++ k ∷ []) table ≡ slice_set (with_registers at ks table) k (Some (register (at + length ks)))
  at_end [] k at table = let z : at ≡ at + 0 = omega arith in ap (λ n. slice_set table k (Some (register n))) z
  at_end (j ∷ ks) k at table =
      let e : suc at + length ks ≡ at + suc (length ks) = omega arith in
      let next = slice_set table j (Some (register at)) in
      at_end ks k (suc at) next ∙ ap (λ n. slice_set (with_registers (suc at) ks next) k (Some (register n))) e

  -- one more
  pub registers_more :
      (first i r : ℕ) (carried : List ℕ) (before now : List (Option (Operand (Name P)))) → i < length carried → r ≡ first + i → now ≡ with_registers first (take i carried) before
      → slice_set now (get_or carried i 0) (Some (register r)) ≡ with_registers first (take (i + 1) carried) before
  registers_more first i r carried before now l e h =
      let k = get_or carried i 0 in
      let s : suc i ≡ i + 1 = omega arith in
      let f : take (i + 1) carried ≡ take i carried ++ k ∷ [] = ap (λ n. take n carried) (sym s) ∙ take-suc carried i 0 l in
      let n : r ≡ first + length (take i carried) = omega (arith, e, l, length-take i carried) in
      ap (λ q. slice_set q k (Some (register r))) h ∙ ap (λ m. slice_set (with_registers first (take i carried) before) k (Some (register m))) n
      ∙ sym (at_end (take i carried) k first before) ∙ ap (λ xs. with_registers first xs before) (sym f)

  module _ (cells : List CellView) (wide : IsWide bits) where
    abbrev Table : Type 0
    Table = List (Option (Operand (Name P)))

    one_is : (table : Table) (k at : ℕ) → k < length table → IsPointers cells bits table → IsPointers cells bits (slice_set table k (Some (register at)))
    one_is table k at l is = record {
      count = length-set table k (Some (register at)) ∙ is.count;
      operand = of_changed table k (register at) l (λ j a. IsOperand a) wide is.operand;
      wide = of_changed table k (register at) l (λ j a. HasBits bits a) refl is.wide;
    }

    one_taken : (table after : Table) (k at : ℕ) (ks : List ℕ) → k < length table → AreTaken p cells bits (suc at) ks (slice_set table k (Some (register at))) after → AreTaken p cells bits at (k ∷ ks) table after
    one_taken table after k at ks l rest = record {
      pointers = rest.pointers;
      taken = All-cons (IsIn after) k ks (rest.grows k (register at, at_place table k (register at) l)) rest.taken;
      grows = λ j i. rest.grows j (still_in table k (register at) l j i);
      kept = λ j n. rest.kept j (λ c. let m = c.1 in n (suc c.0, omega arith, c.2)) ∙ get_or-set_other table k j (Some (register at)) None (λ e. n (0, omega arith, sym e));
      there = λ ins b all.
          rest.there ins
          (of_changed table k (register at) l (λ j a. IsAvailable ins a) (All-head (IsAvailable ins) (register at) (pointer_registers p bits (suc at) ks) all) b) (All-tail (IsAvailable ins) (register at) (pointer_registers p bits (suc at) ks) all);
      value = λ v f e b.
          let z : at ≡ at + 0 = omega arith in
          rest.value v f (λ i m. let s : suc at + i ≡ at + suc i = omega arith in ap (λ n. (v.net (name.Register p n)).value) s ∙ e (suc i) (omega arith))
          (of_changed table k (register at) l (λ j a. number_in v a ≡ pointer_number (f j)) (ap (λ n. (v.net (name.Register p n)).value) z ∙ e 0 (omega arith)) b);
    }

    pub all_taken : (ks : List ℕ) (at : ℕ) (table : Table) → IsPointers cells bits table → All (λ k. k < length table) ks → AreTaken p cells bits at ks table (with_registers at ks table)
    all_taken [] at table is h = record { pointers = is; taken = All-nil (IsIn table); grows = λ k i. i; kept = λ k n. refl; there = λ ins b all. b; value = λ v f e b. b }
    all_taken (k ∷ ks) at table is h =
        let l : k < length table = All-head (λ j. j < length table) k ks h in
        let next = slice_set table k (Some (register at)) in
        one_taken table (with_registers (suc at) ks next) k at ks l
        (all_taken ks (suc at) next (one_is table k at l is) (λ i d m. let w = All-tail (λ j. j < length table) k ks h i d m in omega (arith, w, length-set table k (Some (register at)))))
