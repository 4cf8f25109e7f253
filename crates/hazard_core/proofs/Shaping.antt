-- Tables keep their shape where a slot is written.
use Rattle.std.proofs.Common.{◌≡◌, ◌∙◌, ℕ, ◌<◌, Bool, true, false, List, [], length, set, refl, sym, ap, subst, arith}
use Rattle.std.specs.Prelude.{◌==◌}
use Rattle.std.proofs.lemmas.Bool.{eqb-true, eqb-false}
use Rattle.std.proofs.lemmas.List.{length-set, get_or-set_same, get_or-set_other}
use Rattle.hazard_core.specs.Tables.{Slot, TableState, decl_of, table_at, slot_at, no_slot}
use Rattle.hazard_core.specs.Commits.{with_slot}
use Rattle.hazard_core.specs.Shaped.{IsShaped, AreShaped}

pub put_shaped : (t : TableState) (m n : ℕ) (s : Slot) → m < length t.decls → AreShaped t → IsShaped (decl_of t.decls m) s → AreShaped (with_slot t m n s)
put_shaped t m n s l w one = record {
  beside = length-set t.tables m (set (table_at t m) n s) ∙ w.beside;
  limits = w.limits;
  counts = λ k b. count k b (k == m) refl;
  each = λ k i b c. slot k i b c (k == m) refl;
}
  where
    inside : m < length t.tables
    inside = omega (arith, l, w.beside)

    same : (k : ℕ) → (k == m) ≡ true → table_at (with_slot t m n s) k ≡ set (table_at t k) n s
    same k e = let q : k ≡ m = eqb-true k m e in rw q (get_or-set_same t.tables m (set (table_at t m) n s) [] inside)

    other : (k : ℕ) → (k == m) ≡ false → table_at (with_slot t m n s) k ≡ table_at t k
    other k e = get_or-set_other t.tables m k (set (table_at t m) n s) [] (eqb-false k m e)

    count : (k : ℕ) → k < length t.decls → (b : Bool) → (k == m) ≡ b → length (table_at (with_slot t m n s) k) ≡ (decl_of t.decls k).cap
    count k b true e = ap length (same k e) ∙ length-set (table_at t k) n s ∙ w.counts k b
    count k b false e = ap length (other k e) ∙ w.counts k b

    here : (k i : ℕ) → k < length t.decls → i < length (table_at t k) → (k == m) ≡ true → (b : Bool) → (i == n) ≡ b → IsShaped (decl_of t.decls k) (slot_at (set (table_at t k) n s) i)
    here k i b c e true f =
        let q : k ≡ m = eqb-true k m e in
        let r : i ≡ n = eqb-true i n f in
        let P : Slot → Type 0 = λ x. IsShaped (decl_of t.decls k) x in
        let D : ℕ → Type 0 = λ y. IsShaped (decl_of t.decls y) s in
        let c' : n < length (table_at t k) = omega (arith, c, r) in
        subst P (sym (ap (slot_at (set (table_at t k) n s)) r ∙ get_or-set_same (table_at t k) n s no_slot c')) (subst D (sym q) one)
    here k i b c e false f =
        let P : Slot → Type 0 = λ x. IsShaped (decl_of t.decls k) x in
        subst P (sym (get_or-set_other (table_at t k) n i s no_slot (eqb-false i n f))) (w.each k i b c)

    slot : (k i : ℕ) → k < length t.decls → i < length (table_at (with_slot t m n s) k) → (b : Bool) → (k == m) ≡ b → IsShaped (decl_of t.decls k) (slot_at (table_at (with_slot t m n s) k) i)
    slot k i b c true e =
        let P : List Slot → Type 0 = λ xs. IsShaped (decl_of t.decls k) (slot_at xs i) in
        let c' : i < length (table_at t k) = omega (arith, c, ap length (same k e), length-set (table_at t k) n s) in
        subst P (sym (same k e)) (here k i b c' e (i == n) refl)
    slot k i b c false e =
        let P : List Slot → Type 0 = λ xs. IsShaped (decl_of t.decls k) (slot_at xs i) in
        let c' : i < length (table_at t k) = omega (arith, c, ap length (other k e)) in
        subst P (sym (other k e)) (w.each k i b c')
