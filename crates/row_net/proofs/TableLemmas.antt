-- What stands for cells.
use Rattle.std.specs.Prelude.{◌==◌, Option, IsSome}
use Rattle.std.proofs.Common.{◌≡◌, ℕ, ◌+◌, ◌^◌, ◌<◌, Bool, true, false, Some, None, List, [], ◌∷◌, ◌++◌, length, get_or, map, refl, sym, ◌∙◌, ap, subst, arith, slice_index}
use Rattle.std.proofs.lemmas.Bool.{eqb-true, eqb-false}
use Rattle.std.proofs.lemmas.List.{get_or_push, get_or_append_left, get_or_default}
use Rattle.overlay_net.specs.xdp_machine.State.{PacketIn}
use Rattle.overlay_net.specs.cell_core.Cells.{CellView, cell_at, number, value}
use Rattle.cell_nets.specs.declared.operand.Operand.{Operand}
use Rattle.cell_nets.specs.declared.operand.Operand.TheVariants.{Known}
use Rattle.cell_nets.specs.Operands.{number_in, IsOperand, IsAvailable}
use Rattle.cell_nets.specs.Wires.{HasBits}
use Rattle.row_net.specs.Table.{Stands, IsIn, IsConstantOf, AreConstants}
use Rattle.row_net.proofs.TableLaws.{stands_inside}

-- ---- constants

pub constants_are : {N : Type 0} (cells : List CellView) (table : List (Option (Operand N))) → length table ≡ length cells → ((k : ℕ) → k < length cells → IsConstantOf (cell_at cells k) (get_or table k None)) → AreConstants cells table
constants_are {N} cells table count each = record {
  fits = record {
    count = count;
    operand = λ k a s. let n = at k a s in subst IsOperand (sym n.1) n.2;
    bits = λ k a s. let n = at k a s in subst (HasBits (cell_at cells k).width) (sym n.1) n.3;
  };
  known = λ k lt e. found (get_or table k None) ((each k lt).known e);
  only = λ k a s. (each k (inside k a s)).only a s;
  there = λ ins k a s. let n = at k a s in subst (IsAvailable ins) (sym n.1) tt;
  value = λ v packet val k a s. let n = at k a s in ap (number_in v) n.1 ∙ n.4 packet val;
}
  where
    inside : (k : ℕ) (a : Operand N) → Stands table k a → k < length cells
    inside k a s = omega (arith, count, stands_inside table k a s)

    at : (k : ℕ) (a : Operand N) → Stands table k a → (n : ℕ) × (a ≡ Known n) × (n < 2 ^ 64) × (n < 2 ^ (cell_at cells k).width) × ((packet : PacketIn) (val : ℕ → ℕ) → n ≡ value packet val (cell_at cells k))
    at k a s = (each k (inside k a s)).number a s

    found : (o : Option (Operand N)) → IsSome o → (a : Operand N) × (o ≡ Some a)
    found None h = cc
    found (Some a) h = (a, refl)

-- one more entry
pub entry_old : {X : Type 0} (xs : List (Option X)) (x : Option X) (k : ℕ) → k < length xs → get_or (xs ++ x ∷ []) k None ≡ get_or xs k None
entry_old xs x k lt = get_or_append_left xs (x ∷ []) None k lt

pub constants_more :
    {N : Type 0} (cells : List CellView) (table more : List (Option (Operand N))) (i : ℕ) (c : CellView) (o : Option (Operand N)) → length table ≡ i → ((k : ℕ) → k < i → IsConstantOf (cell_at cells k) (get_or table k None)) → cell_at cells i ≡ c → IsConstantOf c o
    → more ≡ table ++ o ∷ [] → (k : ℕ) → k < i + 1 → IsConstantOf (cell_at cells k) (get_or more k None)
constants_more {N} cells table more i c o count each at is e k lt = subst (λ t. IsConstantOf (cell_at cells k) (get_or t k None)) (sym e) (by_test (k == i) refl)
  where
    by_test : (t : Bool) → (k == i) ≡ t → IsConstantOf (cell_at cells k) (get_or (table ++ o ∷ []) k None)
    by_test true f =
        let same : i ≡ k = sym (eqb-true k i f) in
        let P : ℕ → Type 0 = λ j. IsConstantOf (cell_at cells j) (get_or (table ++ o ∷ []) j None) in
        let here = subst (λ d. IsConstantOf d o) (sym at) is in
        subst P same (subst (λ p. IsConstantOf (cell_at cells i) p) (sym (get_or_push table o None i count)) here)
    by_test false f =
        let less : k < i = omega (arith, lt, eqb-false k i f) in
        subst (λ p. IsConstantOf (cell_at cells k) p) (sym (entry_old table o k (omega arith))) (each k less)

-- ---- operands of inputs
pub stands_at : {N : Type 0} (table : List (Option (Operand N))) (k : ℕ) (o : Option (Operand N)) (a : Operand N) → k < length table → o ≡ get_or table k o → o ≡ Some a → Stands table k a
stands_at table k o a inside is e = get_or_default table k None o inside ∙ sym is ∙ e

pub found_at : {N : Type 0} (table : List (Option (Operand N))) (k : ℕ) (o : Option (Operand N)) → o ≡ get_or table k o → IsIn table k → IsSome o
found_at table k o is (a, s) = let e : o ≡ Some a = is ∙ get_or_default table k o None (stands_inside table k a s) ∙ s in subst IsSome (sym e) refl

pub operands_more :
    {N : Type 0} (table : List (Option (Operand N))) (ins : List ℕ) (args more : List (Operand N)) (i : ℕ) (x : Operand N) → length args ≡ i → ((n : ℕ) (d : Operand N) → n < i → Stands table (slice_index ins n) (get_or args n d)) → Stands table (slice_index ins i) x → more ≡ args ++ x ∷ []
    → (n : ℕ) (d : Operand N) → n < i + 1 → Stands table (slice_index ins n) (get_or more n d)
operands_more {N} table ins args more i x count each here e n d lt = subst (λ l. Stands table (slice_index ins n) (get_or l n d)) (sym e) (by_test (n == i) refl)
  where
    by_test : (t : Bool) → (n == i) ≡ t → Stands table (slice_index ins n) (get_or (args ++ x ∷ []) n d)
    by_test true f =
        let same : n ≡ i = eqb-true n i f in
        let last : get_or (args ++ x ∷ []) n d ≡ x = ap (λ k. get_or (args ++ x ∷ []) k d) same ∙ get_or_push args x d i count in
        subst (Stands table (slice_index ins n)) (sym last) (subst (λ k. Stands table (slice_index ins k) x) (sym same) here)
    by_test false f =
        let less : n < i = omega (arith, lt, eqb-false n i f) in
        subst (Stands table (slice_index ins n)) (sym (get_or_append_left args (x ∷ []) d n (omega (arith, count)))) (each n d less)
