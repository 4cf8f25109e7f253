-- No two parts set the same register or memory.
use Rattle.std.specs.Prelude.{◌≡◌, ℕ, zero, suc, ◌+◌, ◌<◌, ◌≤◌, ◌==◌, nat_lt, Bool, true, ◌&&◌, List, [], ◌∷◌, ◌++◌, length, take}
use Rattle.std.specs.List.{list_all}
use Rattle.std.proofs.Common.{get_or, not, refl, sym, ap, ◌∙◌, append_assoc, arith, inl, inr}
use Rattle.std.proofs.lemmas.Bool.{and_parts, and_from, ne_eqb, ltb-true, lt-ltb}
use Rattle.std.proofs.lemmas.List.{append-nil}
use Rattle.net_core.specs.declared.tree.Net.{Net}
use Rattle.net_core.specs.Nets.{StatementTree, SBlock, SIf, SIfElse, SSet, SStore, StatementTrees, SEnd, SThen}
use Rattle.design_rules.specs.FormedScope.{targets_pass, all_targets_pass, leaves_register, leaves_memory}
use Rattle.design_rules.specs.Formed.{targets_free}
use Rattle.block_core.specs.Rename.{rename_statement, rename_statements}
use Rattle.block_core.specs.Blocks.{registers_of, memories_of, Whole, Among, start}
use Rattle.block_core.specs.Link.{resolve, link_statement, all_statements}
use Rattle.block_core.proofs.GatheredLaws.{Runs}

mutual
  pub pass_more : {N : Type 0} (p q s t : ℕ → Bool) → ((k : ℕ) → p k ≡ true → q k ≡ true) → ((k : ℕ) → s k ≡ true → t k ≡ true) → (a : StatementTree N) → targets_pass p s a ≡ true → targets_pass q t a ≡ true
  pass_more p q s t f g (SBlock more) h = all_pass_more p q s t f g more h
  pass_more p q s t f g (SIf c a) h = pass_more p q s t f g a h
  pass_more p q s t f g (SIfElse c a b) h =
      let e = and_parts (targets_pass p s a) (targets_pass p s b) h in
      and_from (targets_pass q t a) (targets_pass q t b) (pass_more p q s t f g a e.0) (pass_more p q s t f g b e.1)
  pass_more p q s t f g (SSet k e) h = f k h
  pass_more p q s t f g (SStore k i e) h = g k h

  all_pass_more : {N : Type 0} (p q s t : ℕ → Bool) → ((k : ℕ) → p k ≡ true → q k ≡ true) → ((k : ℕ) → s k ≡ true → t k ≡ true) → (a : StatementTrees N) → all_targets_pass p s a ≡ true → all_targets_pass q t a ≡ true
  all_pass_more p q s t f g SEnd h = refl
  all_pass_more p q s t f g (SThen a more) h =
      let e = and_parts (targets_pass p s a) (all_targets_pass p s more) h in
      and_from (targets_pass q t a) (all_targets_pass q t more) (pass_more p q s t f g a e.0) (all_pass_more p q s t f g more e.1)

mutual
  all_targets : {N : Type 0} (a : StatementTree N) → targets_pass (λ k. true) (λ k. true) a ≡ true
  all_targets (SBlock more) = every_target more
  all_targets (SIf c a) = all_targets a
  all_targets (SIfElse c a b) = and_from _ _ (all_targets a) (all_targets b)
  all_targets (SSet k e) = refl
  all_targets (SStore k i e) = refl

  every_target : {N : Type 0} (a : StatementTrees N) → all_targets_pass (λ k. true) (λ k. true) a ≡ true
  every_target SEnd = refl
  every_target (SThen a more) = and_from _ _ (all_targets a) (every_target more)

mutual
  moved_targets : {M N : Type 0} (f : M → N) (r m : ℕ) (p s : ℕ → Bool) (a : StatementTree M) → targets_pass p s (rename_statement f r m a) ≡ targets_pass (λ k. p (r + k)) (λ k. s (m + k)) a
  moved_targets f r m p s (SBlock more) = all_moved_targets f r m p s more
  moved_targets f r m p s (SIf c a) = moved_targets f r m p s a
  moved_targets f r m p s (SIfElse c a b) = λ i. moved_targets f r m p s a i && moved_targets f r m p s b i
  moved_targets f r m p s (SSet k e) = refl
  moved_targets f r m p s (SStore k i e) = refl

  all_moved_targets : {M N : Type 0} (f : M → N) (r m : ℕ) (p s : ℕ → Bool) (a : StatementTrees M) → all_targets_pass p s (rename_statements f r m a) ≡ all_targets_pass (λ k. p (r + k)) (λ k. s (m + k)) a
  all_moved_targets f r m p s SEnd = refl
  all_moved_targets f r m p s (SThen a more) = λ i. moved_targets f r m p s a i && all_moved_targets f r m p s more i

-- what is set is below these numbers
abbrev pub below : {N : Type 0} → ℕ → ℕ → StatementTree N → Bool
below r m a = targets_pass (λ k. nat_lt k r) (λ k. nat_lt k m) a

later_lt : (k r r' : ℕ) → r ≤ r' → nat_lt k r ≡ true → nat_lt k r' ≡ true
later_lt k r r' l h = let e = ltb-true k r h in lt-ltb k r' (omega (arith, e, l))

not_same : (k r n : ℕ) → r ≤ n → nat_lt k r ≡ true → not (k == n) ≡ true
not_same k r n l h =
    let e = ltb-true k r h in
    ap not (ne_eqb k n (λ z. absurd (omega (arith, e, l, z))))

all_leave_register : (before : List (StatementTree Net)) (r m n : ℕ) → list_all (below r m) before ≡ true → r ≤ n → list_all (leaves_register n) before ≡ true
all_leave_register [] r m n h l = refl
all_leave_register (a ∷ before) r m n h l =
    let p = and_parts (below r m a) (list_all (below r m) before) h in
    and_from _ _ (pass_more (λ k. nat_lt k r) (λ k. not (k == n)) (λ k. nat_lt k m) (λ k. true) (λ k q. not_same k r n l q) (λ k q. refl) a p.0) (all_leave_register before r m n p.1 l)

all_leave_memory : (before : List (StatementTree Net)) (r m n : ℕ) → list_all (below r m) before ≡ true → m ≤ n → list_all (leaves_memory n) before ≡ true
all_leave_memory [] r m n h l = refl
all_leave_memory (a ∷ before) r m n h l =
    let p = and_parts (below r m a) (list_all (below r m) before) h in
    and_from _ _ (pass_more (λ k. nat_lt k r) (λ k. true) (λ k. nat_lt k m) (λ k. not (k == n)) (λ k q. refl) (λ k q. not_same k m n l q) a p.0) (all_leave_memory before r m n p.1 l)

all_later : (before : List (StatementTree Net)) (r m r' m' : ℕ) → r ≤ r' → m ≤ m' → list_all (below r m) before ≡ true → list_all (below r' m') before ≡ true
all_later [] r m r' m' l n h = refl
all_later (a ∷ before) r m r' m' l n h =
    let p = and_parts (below r m a) (list_all (below r m) before) h in
    and_from _ _ (pass_more (λ k. nat_lt k r) (λ k. nat_lt k r') (λ k. nat_lt k m) (λ k. nat_lt k m') (λ k q. later_lt k r r' l q) (λ k q. later_lt k m m' n q) a p.0) (all_later before r m r' m' l n p.1)

one_more : (t : StatementTree Net → Bool) (before : List (StatementTree Net)) (a : StatementTree Net) → list_all t before ≡ true → t a ≡ true → list_all t (before ++ a ∷ []) ≡ true
one_more t [] a h k = and_from (t a) true k refl
one_more t (b ∷ before) a h k = let p = and_parts (t b) (list_all t before) h in and_from _ _ p.0 (one_more t before a p.1 k)

pub free_at : {P : Type 0} (d : Whole P) (front : List (StatementTree Net)) (r m : ℕ) (ps : List P) → list_all (below r m) front ≡ true
    → Runs (λ p. registers_of (d.block p)) (start registers_of d) r ps → Runs (λ p. memories_of (d.block p)) (start memories_of d) m ps
    → ((p : P) → Among p ps → below (registers_of (d.block p)) (memories_of (d.block p)) (d.block p).statement ≡ true)
    → (i : ℕ) (a : StatementTree Net) → i < length (all_statements d ps) → a ≡ get_or (all_statements d ps) i a → targets_free (front ++ take i (all_statements d ps)) a ≡ true
free_at d front r m [] h x y z i a l e = absurd (omega arith)
free_at d front r m (p ∷ ps) h x y z zero a l e =
    ap (λ b. targets_free b a) (append-nil front) ∙ ap (targets_free front) e
    ∙ moved_targets (resolve d) (start registers_of d p) (start memories_of d p) (λ n. list_all (leaves_register n) front) (λ n. list_all (leaves_memory n) front) (d.block p).statement
    ∙ pass_more (λ k. true) (λ k. list_all (leaves_register (start registers_of d p + k)) front) (λ k. true) (λ k. list_all (leaves_memory (start memories_of d p + k)) front)
    (λ k q. all_leave_register front r m (start registers_of d p + k) h (let s = x.0 in omega (arith, s)))
    (λ k q. all_leave_memory front r m (start memories_of d p + k) h (let s = y.0 in omega (arith, s))) (d.block p).statement (all_targets (d.block p).statement)
free_at d front r m (p ∷ ps) h x y z (suc i) a l e =
    let one = link_statement d p in
    let r' = r + registers_of (d.block p) in
    let m' = m + memories_of (d.block p) in
    let own : below r' m' one ≡ true =
    moved_targets (resolve d) (start registers_of d p) (start memories_of d p) (λ k. nat_lt k r') (λ k. nat_lt k m') (d.block p).statement
    ∙ pass_more (λ k. nat_lt k (registers_of (d.block p))) (λ k. nat_lt (start registers_of d p + k) r') (λ k. nat_lt k (memories_of (d.block p))) (λ k. nat_lt (start memories_of d p + k) m')
    (λ k q. let s = x.0 in let b = ltb-true k (registers_of (d.block p)) q in lt-ltb (start registers_of d p + k) r' (omega (arith, s, b)))
    (λ k q. let s = y.0 in let b = ltb-true k (memories_of (d.block p)) q in lt-ltb (start memories_of d p + k) m' (omega (arith, s, b))) (d.block p).statement (z p (inl refl)) in
    ap (λ b. targets_free b a) (sym (append_assoc front (one ∷ []) (take i (all_statements d ps))))
    ∙ free_at d (front ++ one ∷ []) r' m' ps (one_more (below r' m') front one (all_later front r m r' m' (omega arith) (omega arith) h) own) x.1 y.1 (λ q a. z q (inr a)) i a (omega arith) e
