-- What is stored keeps its shape, from the declared values on.
use Rattle.std.specs.Prelude.{slice_set, replicate, nat_lt, nat_le, ◌==◌, if◌then◌else◌}
use Rattle.std.proofs.Common.{◌≡◌, ℕ, zero, suc, ◌^◌, ◌<◌, Bool, true, false, ◌&&◌, List, [], ◌∷◌, length, get_or, refl, sym, ap, ◌∙◌, subst, arith, ⊎_elim}
use Rattle.std.specs.Prelude.{IsTrue}
use Rattle.std.proofs.lemmas.Bool.{and_parts, cases_eq, eqb-true, ltb-true, leb-true}
use Rattle.std.proofs.lemmas.List.{length-set, get_or-set_same, get_or-set_other, length-replicate, get_or-replicate}
use Rattle.net_core.specs.declared.tree.Word.{Word}
use Rattle.net_core.specs.declared.design.Declared.{Declared}
use Rattle.net_core.specs.declared.design.Declared.TheVariants as declared
use Rattle.net_core.specs.Nets.{Tree, StatementTree, SBlock, SIf, SIfElse, SSet, SStore, StatementTrees, SEnd, SThen}
use Rattle.net_core.specs.Value.{Env, nothing, value}
use Rattle.net_core.specs.Width.{Scope, register_widths, memory_widths, same, width_of, word_fits, declared_typed, statement_typed, statements_typed}
use Rattle.net_core.specs.Clock.{Stored, first_words, first_memories, done, all_done}
use Rattle.net_core.specs.Suits.{IsOfWidth, Suits}
use Rattle.net_core.proofs.WidthLaws.{value_fits}
use Rattle.clock_sim.specs.Ready.{IsMemory, IsStored}

-- ---- the declared values
word_is : (w : Word) → IsTrue (word_fits w) → IsOfWidth w.width w
word_is w h =
    let p = and_parts (nat_lt 0 w.width) (nat_le w.width 64 && nat_lt w.value (2 ^ w.width)) h in
    let q = and_parts (nat_le w.width 64) (nat_lt w.value (2 ^ w.width)) p.1 in
    record { width = refl; fits = record { some = ltb-true 0 w.width p.0; most = leb-true w.width 64 q.0; small = ltb-true w.value (2 ^ w.width) q.1 } }

one_more : (w : Word) (ws : List Word) (ns : List ℕ) → IsOfWidth w.width w → ((r : ℕ) → r < length ns → IsOfWidth (get_or ns r 0) (get_or ws r nothing)) → (r : ℕ) → r < length (w.width ∷ ns) → IsOfWidth (get_or (w.width ∷ ns) r 0) (get_or (w ∷ ws) r nothing)
one_more w ws ns f h zero lt = f
one_more w ws ns f h (suc r) lt = h r (omega arith)

one_memory : (n : ℕ × ℕ) (words : List Word) (ns : List (ℕ × ℕ)) (all : List (List Word)) → IsMemory n words → ((m : ℕ) → m < length ns → IsMemory (get_or ns m (0, 0)) (get_or all m [])) → (m : ℕ) → m < length (n ∷ ns) → IsMemory (get_or (n ∷ ns) m (0, 0)) (get_or (words ∷ all) m [])
one_memory n words ns all f h zero lt = f
one_memory n words ns all f h (suc m) lt = h m (omega arith)

filled : (i : ℕ) (w : Word) → IsOfWidth w.width w → IsMemory (i, w.width) (replicate (2 ^ i) w)
filled i w f = record { count = length-replicate (2 ^ i) w; fit = λ a lt. rw (get_or-replicate (2 ^ i) a w nothing lt) f }

pub first_is_stored : (ds : List Declared) → IsTrue (declared_typed ds) → IsStored ds (record { registers = first_words ds; memories = first_memories ds })
first_is_stored [] h = record { registers = refl; register = λ r lt. absurd (omega arith); memories = refl; memory = λ m lt. absurd (omega arith) }
first_is_stored (declared.Integer ∷ ds) h = let t = first_is_stored ds h in record { registers = t.registers; register = t.register; memories = t.memories; memory = t.memory }
first_is_stored (declared.Register w ∷ ds) h =
    let p = and_parts (word_fits w) (declared_typed ds) h in
    let t = first_is_stored ds p.1 in
    record { registers = ap suc t.registers; register = one_more w (first_words ds) (register_widths ds) (word_is w p.0) t.register; memories = t.memories; memory = t.memory }
first_is_stored (declared.Memory i w n ∷ ds) h =
    let p = and_parts (nat_le 1 i && nat_le i 16) (word_fits w && declared_typed ds) h in
    let q = and_parts (word_fits w) (declared_typed ds) p.1 in
    let t = first_is_stored ds q.1 in
    record { registers = t.registers; register = t.register; memories = ap suc t.memories; memory = one_memory (i, w.width) (replicate (2 ^ i) w) (memory_widths ds) (first_memories ds) (filled i w (word_is w q.0)) t.memory }

-- ---- an assignment
pub register_kept : (ds : List Declared) (s : Stored) (r : ℕ) (x : Word) → IsStored ds s → IsOfWidth (get_or (register_widths ds) r 0) x → IsStored ds (record s { registers = slice_set s.registers r x })
register_kept ds s r x h f = record {
  registers = length-set s.registers r x ∙ h.registers;
  register = λ k lt. ⊎_elim (λ here. same_register k lt here) (λ other. rw (get_or-set_other s.registers r k x nothing other) (h.register k lt)) (cases_eq k r);
  memories = h.memories;
  memory = h.memory;
}
  where
    same_register : (k : ℕ) → k < length (register_widths ds) → k ≡ r → IsOfWidth (get_or (register_widths ds) k 0) (get_or (slice_set s.registers r x) k nothing)
    same_register k lt e =
        let n = h.registers in
        let inside : k < length s.registers = omega arith in
        subst (λ j. IsOfWidth (get_or (register_widths ds) k 0) (get_or (slice_set s.registers j x) k nothing)) e
        (rw (get_or-set_same s.registers k x nothing inside) (subst (λ j. IsOfWidth (get_or (register_widths ds) j 0) x) (sym e) f))

word_kept : (n : ℕ × ℕ) (words : List Word) (a : ℕ) (x : Word) → IsMemory n words → IsOfWidth n.1 x → IsMemory n (slice_set words a x)
word_kept n words a x h f = record {
  count = length-set words a x ∙ h.count;
  fit = λ b lt. ⊎_elim (λ here. same_word b lt here) (λ other. rw (get_or-set_other words a b x nothing other) (h.fit b lt)) (cases_eq b a);
}
  where
    same_word : (b : ℕ) → b < 2 ^ n.0 → b ≡ a → IsOfWidth n.1 (get_or (slice_set words a x) b nothing)
    same_word b lt e =
        let c = h.count in
        let inside : b < length words = omega arith in
        subst (λ j. IsOfWidth n.1 (get_or (slice_set words j x) b nothing)) e (rw (get_or-set_same words b x nothing inside) f)

pub memory_kept : (ds : List Declared) (s : Stored) (m a : ℕ) (x : Word) → IsStored ds s → IsOfWidth (get_or (memory_widths ds) m (0, 0)).1 x → IsStored ds (record s { memories = slice_set s.memories m (slice_set (get_or s.memories m []) a x) })
memory_kept ds s m a x h f = record {
  registers = h.registers;
  register = h.register;
  memories = length-set s.memories m (slice_set (get_or s.memories m []) a x) ∙ h.memories;
  memory = λ k lt. ⊎_elim (λ here. same_memory k lt here) (λ other. rw (get_or-set_other s.memories m k (slice_set (get_or s.memories m []) a x) [] other) (h.memory k lt)) (cases_eq k m);
}
  where
    same_memory : (k : ℕ) → k < length (memory_widths ds) → k ≡ m → IsMemory (get_or (memory_widths ds) k (0, 0)) (get_or (slice_set s.memories m (slice_set (get_or s.memories m []) a x)) k [])
    same_memory k lt e =
        let n = h.memories in
        let inside : k < length s.memories = omega arith in
        let f' : IsOfWidth (get_or (memory_widths ds) k (0, 0)).1 x = subst (λ j. IsOfWidth (get_or (memory_widths ds) j (0, 0)).1 x) (sym e) f in
        subst (λ j. IsMemory (get_or (memory_widths ds) k (0, 0)) (get_or (slice_set s.memories j (slice_set (get_or s.memories j []) a x)) k [])) e
        (rw (get_or-set_same s.memories k (slice_set (get_or s.memories k []) a x) [] inside) (word_kept (get_or (memory_widths ds) k (0, 0)) (get_or s.memories k []) a x (h.memory k lt) f'))

-- ---- a statement
pub record Same (a b : ℕ) : Type 0 where
  pub some : 0 < a
  pub is : a ≡ b

pub same_sides : (a b : ℕ) → IsTrue (same a b) → Same a b
same_sides a b h = let p = and_parts (nat_lt 0 a) (a == b) h in record { some = ltb-true 0 a p.0; is = eqb-true a b p.1 }

if_kept : (P : Stored → Type 0) (t : Bool) (a b : Stored) → P a → P b → P (if t then a else b)
if_kept P true a b x y = x
if_kept P false a b x y = y

module _ {N : Type 0} (sc : Scope N) (v : Env N) (suits : Suits sc v) (ds : List Declared) where
  side : (n : ℕ) (e : Tree N) → IsTrue (same n (width_of sc e)) → IsOfWidth n (value v e)
  side n e h =
      let p = same_sides n (width_of sc e) h in
      let f = value_fits sc v suits e (subst (λ k. 0 < k) p.is p.some) in
      record { width = f.width ∙ sym p.is; fits = f.fits }

  mutual
    pub done_kept : (a : StatementTree N) (s : Stored) → IsTrue (statement_typed sc (register_widths ds) (memory_widths ds) a) → IsStored ds s → IsStored ds (done v a s)
    done_kept (SBlock more) s h k = all_kept more s h k
    done_kept (SIf c a) s h k =
        let p = and_parts (width_of sc c == 1) (statement_typed sc (register_widths ds) (memory_widths ds) a) h in
        if_kept (IsStored ds) ((value v c).value == 0) s (done v a s) k (done_kept a s p.1 k)
    done_kept (SIfElse c a b) s h k =
        let p = and_parts (width_of sc c == 1) (statement_typed sc (register_widths ds) (memory_widths ds) a && statement_typed sc (register_widths ds) (memory_widths ds) b) h in
        let q = and_parts (statement_typed sc (register_widths ds) (memory_widths ds) a) (statement_typed sc (register_widths ds) (memory_widths ds) b) p.1 in
        if_kept (IsStored ds) ((value v c).value == 0) (done v b s) (done v a s) (done_kept b s q.1 k) (done_kept a s q.0 k)
    done_kept (SSet r e) s h k = register_kept ds s r (value v e) k (side (get_or (register_widths ds) r 0) e h)
    done_kept (SStore m i e) s h k =
        let p = and_parts (same (get_or (memory_widths ds) m (0, 0)).0 (width_of sc i)) (same (get_or (memory_widths ds) m (0, 0)).1 (width_of sc e)) h in
        memory_kept ds s m (value v i).value (value v e) k (side (get_or (memory_widths ds) m (0, 0)).1 e p.1)

    pub all_kept : (more : StatementTrees N) (s : Stored) → IsTrue (statements_typed sc (register_widths ds) (memory_widths ds) more) → IsStored ds s → IsStored ds (all_done v more s)
    all_kept SEnd s h k = k
    all_kept (SThen a more) s h k =
        let p = and_parts (statement_typed sc (register_widths ds) (memory_widths ds) a) (statements_typed sc (register_widths ds) (memory_widths ds) more) h in
        all_kept more (done v a s) p.1 (done_kept a s p.0 k)
