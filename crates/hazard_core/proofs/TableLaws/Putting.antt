-- Tables in which a slot is written.
use Rattle.std.proofs.Common.{◌≡◌, ◌∙◌, ℕ, ◌<◌, ◌≤◌, inl, inr, Bool, true, false, List, [], length, set, refl, sym, ap, subst, arith}
use Rattle.std.specs.Prelude.{◌==◌}
use Rattle.std.proofs.lemmas.Bool.{eqb-true, eqb-false, cases_lt}
use Rattle.std.proofs.lemmas.List.{length-set, get_or-set_same, get_or-set_other, get_or_past}
use Rattle.hazard_core.specs.declared.slot.Slot.{Slot}
use Rattle.hazard_core.specs.Tables.{TableState, decl_of, table_at, slot_at, no_slot}
use Rattle.hazard_core.specs.Commits.{with_slot}
use Rattle.hazard_core.specs.TableLaws.Bytes.{HasBytes, HoldBytes}
use Rattle.hazard_core.specs.TableLaws.Counts.{HaveSameSlots}

module _ (t : TableState) (m n : ℕ) (s : Slot) where
  same : m < length t.tables → table_at (with_slot t m n s) m ≡ set (table_at t m) n s
  same l = get_or-set_same t.tables m (set (table_at t m) n s) [] l

  other : (k : ℕ) → (k == m) ≡ false → table_at (with_slot t m n s) k ≡ table_at t k
  other k e = get_or-set_other t.tables m k (set (table_at t m) n s) [] (eqb-false k m e)

  counts : (k : ℕ) (b : Bool) → (k == m) ≡ b → length (table_at (with_slot t m n s) k) ≡ length (table_at t k)
  counts k false e = ap length (other k e)
  counts k true e = elim (cases_lt k (length t.tables)) [
    | inl l ↦
        let q : k ≡ m = eqb-true k m e in
        let C : ℕ → Type 0 = λ i. length (table_at (with_slot t m n s) i) ≡ length (table_at t i) in
        subst C (sym q) (ap length (same (omega (arith, l, q))) ∙ length-set (table_at t m) n s)
    | inr l ↦
        let past : length (with_slot t m n s).tables ≤ k = omega (arith, l, length-set t.tables m (set (table_at t m) n s)) in
        ap length (get_or_past (with_slot t m n s).tables k [] past ∙ sym (get_or_past t.tables k [] l))
  ]

  pub put_slots : HaveSameSlots t (with_slot t m n s)
  put_slots = record { decls = refl; maps = length-set t.tables m (set (table_at t m) n s); slots = λ k. counts k (k == m) refl }

  -- what holds of each slot and of the one that is written holds of each then
  module _ (P : ℕ → Slot → Type 0) (new : m < length t.tables → n < length (table_at t m) → P m s) (old : (k i : ℕ) → k < length t.tables → i < length (table_at t k) → P k (slot_at (table_at t k) i)) where
    here : m < length t.tables → (i : ℕ) → i < length (table_at t m) → (b : Bool) → (i == n) ≡ b → P m (slot_at (set (table_at t m) n s) i)
    here l i c false f = subst (P m) (sym (get_or-set_other (table_at t m) n i s no_slot (eqb-false i n f))) (old m i l c)
    here l i c true f =
        let q : i ≡ n = eqb-true i n f in
        let at_slot : ℕ → Type 0 = λ a. P m (slot_at (set (table_at t m) n s) a) in
        let within : n < length (table_at t m) = omega (arith, c, q) in
        subst at_slot (sym q) (subst (P m) (sym (get_or-set_same (table_at t m) n s no_slot within)) (new l within))

    slots : (k i : ℕ) → k < length t.tables → i < length (table_at t k) → (b : Bool) → (k == m) ≡ b → P k (slot_at (table_at (with_slot t m n s) k) i)
    slots k i l c false e = subst (λ (xs : List Slot). P k (slot_at xs i)) (sym (other k e)) (old k i l c)
    slots k i l c true e =
        let q : k ≡ m = eqb-true k m e in
        let at_map : ℕ → Type 0 = λ a. P a (slot_at (table_at (with_slot t m n s) a) i) in
        let inside : m < length t.tables = omega (arith, l, q) in
        let within : i < length (table_at t m) = subst (λ a. i < length (table_at t a)) q c in
        subst at_map (sym q) (subst (λ (xs : List Slot). P m (slot_at xs i)) (sym (same inside)) (here inside i within (i == n) refl))

    pub put_each : (k i : ℕ) → k < length t.tables → i < length (table_at t k) → P k (slot_at (table_at (with_slot t m n s) k) i)
    put_each k i l c = slots k i l c (k == m) refl

  pub put_bytes : HoldBytes t → (m < length t.decls → n < length (table_at t m) → HasBytes (decl_of t.decls m) s) → HoldBytes (with_slot t m n s)
  put_bytes held new = record {
    shaped = record {
      beside = put_slots.maps ∙ held.shaped.beside;
      limits = held.shaped.limits;
      counts = λ k l. put_slots.slots k ∙ held.shaped.counts k l;
      each = λ k i l c. let b = bytes k i l c in record { key = b.key.len; value = b.value.len };
    };
    each = bytes;
  }
    where
      bytes : (k i : ℕ) → k < length t.decls → i < length (table_at (with_slot t m n s) k) → HasBytes (decl_of t.decls k) (slot_at (table_at (with_slot t m n s) k) i)
      bytes k i l c =
          put_each (λ a x. HasBytes (decl_of t.decls a) x) (λ a b. new (omega (arith, a, held.shaped.beside)) b) (λ a b x y. held.each a b (omega (arith, x, held.shaped.beside)) y) k i (omega (arith, l, held.shaped.beside)) (omega (arith, c, put_slots.slots k))
