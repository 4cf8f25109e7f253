-- The rules of a statement are those of its parts.
use Rattle.std.specs.Prelude.{nat_lt, nat_le, ◌==◌}
use Rattle.std.proofs.Common.{◌≡◌, ℕ, ◌<◌, ◌≤◌, true, not, ◌&&◌, List, refl, sym, ap, subst, get_or, arith}
use Rattle.std.proofs.lemmas.Bool.{and_parts, and_from, eqb-true, eq-eqb, ltb-true, lt-ltb, le-leb, leb-true}
use Rattle.net_core.specs.declared.tree.Net.{Net}
use Rattle.net_core.specs.declared.tree.Net.TheVariants as net
use Rattle.net_core.specs.Nets.{Tree, StatementTree, SBlock, SIf, SIfElse, SSet, SStore, StatementTrees, SEnd, SThen}
use Rattle.net_core.specs.Width.{Scope, width_of, same, statement_typed, statements_typed}
use Rattle.design_rules.specs.FormedSyntax.{tree_spelled, statement_depth, ends_open, elses_placed, all_placed, trees_pass, all_trees_pass}
use Rattle.design_rules.specs.FormedScope.{Sorts, reads_known, targets_pass, all_targets_pass}
use Rattle.verilog_expression.specs.Statements.{Free}
use Rattle.verilog_expression.specs.Laws.{IsTreeKept, IsStatementKept}

-- all rules but that of the depth
pub record Keeps (s : Scope Net) (k : Sorts Net) (free : Free) (rs : List ℕ) (ms : List (ℕ × ℕ)) (a : StatementTree Net) : Type 0 where
  pub placed : elses_placed a ≡ true
  pub spelled : trees_pass tree_spelled a ≡ true
  pub typed : statement_typed s rs ms a ≡ true
  pub known : trees_pass (reads_known k) a ≡ true
  pub known_targets : targets_pass (λ r. k.value (net.Register r)) (λ m. k.memory (net.Memory m)) a ≡ true
  pub free_targets : targets_pass (λ r. free (net.Register r)) (λ m. free (net.Memory m)) a ≡ true

pub record AllKeep (s : Scope Net) (k : Sorts Net) (free : Free) (rs : List ℕ) (ms : List (ℕ × ℕ)) (more : StatementTrees Net) : Type 0 where
  pub placed : all_placed more ≡ true
  pub spelled : all_trees_pass tree_spelled more ≡ true
  pub typed : statements_typed s rs ms more ≡ true
  pub known : all_trees_pass (reads_known k) more ≡ true
  pub known_targets : all_targets_pass (λ r. k.value (net.Register r)) (λ m. k.memory (net.Memory m)) more ≡ true
  pub free_targets : all_targets_pass (λ r. free (net.Register r)) (λ m. free (net.Memory m)) more ≡ true

-- an expression of this width
pub record IsOfWidth (s : Scope Net) (k : Sorts Net) (w : ℕ) (t : Tree Net) : Type 0 where
  pub kept : IsTreeKept s k t
  pub width : width_of s t ≡ w

same_from : (a b w : ℕ) → a ≡ w → b ≡ w → 0 < w → same a b ≡ true
same_from a b w p q h = rw (p, q, lt-ltb 0 w h, eq-eqb w w refl) refl

same_parts : (a b : ℕ) → same a b ≡ true → (0 < b) × (b ≡ a)
same_parts a b h =
    let p = and_parts (nat_lt 0 a) (a == b) h in
    let i : 0 < a = ltb-true 0 a p.0 in
    let e : a ≡ b = eqb-true a b p.1 in
    (omega arith, sym e)

module _ (s : Scope Net) (k : Sorts Net) (free : Free) (rs : List ℕ) (ms : List (ℕ × ℕ)) where
  -- ---- from the parts
  of_width : (w : ℕ) (t : Tree Net) → IsOfWidth s k w t → 0 < w
  of_width w t h = subst (λ v. 0 < v) h.width h.kept.some

  pub if_keeps : (c : Tree Net) (a : StatementTree Net) → IsOfWidth s k 1 c → Keeps s k free rs ms a → Keeps s k free rs ms (SIf c a)
  if_keeps c a t h = record {
    placed = h.placed;
    spelled = and_from _ _ t.kept.spelled h.spelled;
    typed = and_from _ _ (eq-eqb (width_of s c) 1 t.width) h.typed;
    known = and_from _ _ t.kept.known h.known;
    known_targets = h.known_targets;
    free_targets = h.free_targets;
  }

  pub else_keeps : (c : Tree Net) (a b : StatementTree Net) → IsOfWidth s k 1 c → not (ends_open a) ≡ true → Keeps s k free rs ms a → Keeps s k free rs ms b → Keeps s k free rs ms (SIfElse c a b)
  else_keeps c a b t o h i = record {
    placed = and_from _ _ o (and_from _ _ h.placed i.placed);
    spelled = and_from _ _ t.kept.spelled (and_from _ _ h.spelled i.spelled);
    typed = and_from _ _ (eq-eqb (width_of s c) 1 t.width) (and_from _ _ h.typed i.typed);
    known = and_from _ _ t.kept.known (and_from _ _ h.known i.known);
    known_targets = and_from _ _ h.known_targets i.known_targets;
    free_targets = and_from _ _ h.free_targets i.free_targets;
  }

  pub set_keeps : (r : ℕ) (e : Tree Net) (w : ℕ) → get_or rs r 0 ≡ w → IsOfWidth s k w e → k.value (net.Register r) ≡ true → free (net.Register r) ≡ true → Keeps s k free rs ms (SSet r e)
  set_keeps r e w p t h i = record {
    placed = refl;
    spelled = t.kept.spelled;
    typed = same_from (get_or rs r 0) (width_of s e) w p t.width (of_width w e t);
    known = t.kept.known;
    known_targets = h;
    free_targets = i;
  }

  pub store_keeps : (m : ℕ) (i e : Tree Net) (index w : ℕ) → get_or ms m (0, 0) ≡ (index, w) → IsOfWidth s k index i → IsOfWidth s k w e → k.memory (net.Memory m) ≡ true → free (net.Memory m) ≡ true → Keeps s k free rs ms (SStore m i e)
  store_keeps m i e index w p t u h j = record {
    placed = refl;
    spelled = and_from _ _ t.kept.spelled u.kept.spelled;
    typed = and_from _ _ (same_from (get_or ms m (0, 0)).0 (width_of s i) index (ap (λ (x : ℕ × ℕ). x.0) p) t.width (of_width index i t)) (same_from (get_or ms m (0, 0)).1 (width_of s e) w (ap (λ (x : ℕ × ℕ). x.1) p) u.width (of_width w e u));
    known = and_from _ _ t.kept.known u.kept.known;
    known_targets = h;
    free_targets = j;
  }

  pub block_keeps : (more : StatementTrees Net) → AllKeep s k free rs ms more → Keeps s k free rs ms (SBlock more)
  block_keeps more h = record { placed = h.placed; spelled = h.spelled; typed = h.typed; known = h.known; known_targets = h.known_targets; free_targets = h.free_targets }

  pub none_keep : AllKeep s k free rs ms SEnd
  none_keep = record { placed = refl; spelled = refl; typed = refl; known = refl; known_targets = refl; free_targets = refl }

  pub more_keep : (a : StatementTree Net) (more : StatementTrees Net) → Keeps s k free rs ms a → AllKeep s k free rs ms more → AllKeep s k free rs ms (SThen a more)
  more_keep a more h i = record {
    placed = and_from _ _ h.placed i.placed;
    spelled = and_from _ _ h.spelled i.spelled;
    typed = and_from _ _ h.typed i.typed;
    known = and_from _ _ h.known i.known;
    known_targets = and_from _ _ h.known_targets i.known_targets;
    free_targets = and_from _ _ h.free_targets i.free_targets;
  }

  pub statement_keeps : (a : StatementTree Net) → statement_depth a ≤ 64 → Keeps s k free rs ms a → IsStatementKept s k free rs ms a
  statement_keeps a d h = record {
    spelled = and_from (nat_le (statement_depth a) 64) (elses_placed a && trees_pass tree_spelled a) (le-leb (statement_depth a) 64 d) (and_from _ _ h.placed h.spelled);
    typed = h.typed;
    known = h.known;
    known_targets = h.known_targets;
    free_targets = h.free_targets;
  }

  -- ---- of the parts
  condition_kept : (c : Tree Net) → tree_spelled c ≡ true → (width_of s c == 1) ≡ true → reads_known k c ≡ true → IsOfWidth s k 1 c
  condition_kept c p q o =
      let w : width_of s c ≡ 1 = eqb-true (width_of s c) 1 q in
      record { kept = record { spelled = p; some = omega arith; known = o }; width = w }

  side_kept : (a : ℕ) (e : Tree Net) → tree_spelled e ≡ true → same a (width_of s e) ≡ true → reads_known k e ≡ true → IsOfWidth s k a e
  side_kept a e p q o =
      let w = same_parts a (width_of s e) q in
      record { kept = record { spelled = p; some = w.0; known = o }; width = w.1 }

  pub if_kept : (c : Tree Net) (a : StatementTree Net) → Keeps s k free rs ms (SIf c a) → IsOfWidth s k 1 c × Keeps s k free rs ms a
  if_kept c a h =
      let p = and_parts (tree_spelled c) (trees_pass tree_spelled a) h.spelled in
      let q = and_parts (width_of s c == 1) (statement_typed s rs ms a) h.typed in
      let o = and_parts (reads_known k c) (trees_pass (reads_known k) a) h.known in
      (condition_kept c p.0 q.0 o.0, record { placed = h.placed; spelled = p.1; typed = q.1; known = o.1; known_targets = h.known_targets; free_targets = h.free_targets })

  -- both branches of an `if`
  pub record BothKept (c : Tree Net) (a b : StatementTree Net) : Type 0 where
    pub condition : IsOfWidth s k 1 c
    pub closed : not (ends_open a) ≡ true
    pub first : Keeps s k free rs ms a
    pub second : Keeps s k free rs ms b

  pub else_kept : (c : Tree Net) (a b : StatementTree Net) → Keeps s k free rs ms (SIfElse c a b) → BothKept c a b
  else_kept c a b h =
      let l = and_parts (not (ends_open a)) (elses_placed a && elses_placed b) h.placed in
      let l2 = and_parts (elses_placed a) (elses_placed b) l.1 in
      let p = and_parts (tree_spelled c) (trees_pass tree_spelled a && trees_pass tree_spelled b) h.spelled in
      let p2 = and_parts (trees_pass tree_spelled a) (trees_pass tree_spelled b) p.1 in
      let q = and_parts (width_of s c == 1) (statement_typed s rs ms a && statement_typed s rs ms b) h.typed in
      let q2 = and_parts (statement_typed s rs ms a) (statement_typed s rs ms b) q.1 in
      let o = and_parts (reads_known k c) (trees_pass (reads_known k) a && trees_pass (reads_known k) b) h.known in
      let o2 = and_parts (trees_pass (reads_known k) a) (trees_pass (reads_known k) b) o.1 in
      let t = and_parts (targets_pass (λ r. k.value (net.Register r)) (λ m. k.memory (net.Memory m)) a) (targets_pass (λ r. k.value (net.Register r)) (λ m. k.memory (net.Memory m)) b) h.known_targets in
      let f = and_parts (targets_pass (λ r. free (net.Register r)) (λ m. free (net.Memory m)) a) (targets_pass (λ r. free (net.Register r)) (λ m. free (net.Memory m)) b) h.free_targets in
      record {
        condition = condition_kept c p.0 q.0 o.0;
        closed = l.0;
        first = record { placed = l2.0; spelled = p2.0; typed = q2.0; known = o2.0; known_targets = t.0; free_targets = f.0 };
        second = record { placed = l2.1; spelled = p2.1; typed = q2.1; known = o2.1; known_targets = t.1; free_targets = f.1 };
      }

  pub set_kept : (r : ℕ) (e : Tree Net) → Keeps s k free rs ms (SSet r e) → IsOfWidth s k (get_or rs r 0) e
  set_kept r e h = side_kept (get_or rs r 0) e h.spelled h.typed h.known

  pub store_kept : (m : ℕ) (i e : Tree Net) → Keeps s k free rs ms (SStore m i e) → IsOfWidth s k (get_or ms m (0, 0)).0 i × IsOfWidth s k (get_or ms m (0, 0)).1 e
  store_kept m i e h =
      let p = and_parts (tree_spelled i) (tree_spelled e) h.spelled in
      let q = and_parts (same (get_or ms m (0, 0)).0 (width_of s i)) (same (get_or ms m (0, 0)).1 (width_of s e)) h.typed in
      let o = and_parts (reads_known k i) (reads_known k e) h.known in
      (side_kept (get_or ms m (0, 0)).0 i p.0 q.0 o.0, side_kept (get_or ms m (0, 0)).1 e p.1 q.1 o.1)

  pub block_kept : (more : StatementTrees Net) → Keeps s k free rs ms (SBlock more) → AllKeep s k free rs ms more
  block_kept more h = record { placed = h.placed; spelled = h.spelled; typed = h.typed; known = h.known; known_targets = h.known_targets; free_targets = h.free_targets }

  pub more_kept : (a : StatementTree Net) (more : StatementTrees Net) → AllKeep s k free rs ms (SThen a more) → Keeps s k free rs ms a × AllKeep s k free rs ms more
  more_kept a more h =
      let l = and_parts (elses_placed a) (all_placed more) h.placed in
      let p = and_parts (trees_pass tree_spelled a) (all_trees_pass tree_spelled more) h.spelled in
      let q = and_parts (statement_typed s rs ms a) (statements_typed s rs ms more) h.typed in
      let o = and_parts (trees_pass (reads_known k) a) (all_trees_pass (reads_known k) more) h.known in
      let t = and_parts (targets_pass (λ r. k.value (net.Register r)) (λ m. k.memory (net.Memory m)) a) (all_targets_pass (λ r. k.value (net.Register r)) (λ m. k.memory (net.Memory m)) more) h.known_targets in
      let f = and_parts (targets_pass (λ r. free (net.Register r)) (λ m. free (net.Memory m)) a) (all_targets_pass (λ r. free (net.Register r)) (λ m. free (net.Memory m)) more) h.free_targets in
      (record { placed = l.0; spelled = p.0; typed = q.0; known = o.0; known_targets = t.0; free_targets = f.0 }, record { placed = l.1; spelled = p.1; typed = q.1; known = o.1; known_targets = t.1; free_targets = f.1 })

  pub statement_kept : (a : StatementTree Net) → IsStatementKept s k free rs ms a → (statement_depth a ≤ 64) × Keeps s k free rs ms a
  statement_kept a h =
      let p = and_parts (nat_le (statement_depth a) 64) (elses_placed a && trees_pass tree_spelled a) h.spelled in
      let q = and_parts (elses_placed a) (trees_pass tree_spelled a) p.1 in
      (leb-true (statement_depth a) 64 p.0, record { placed = q.0; spelled = q.1; typed = h.typed; known = h.known; known_targets = h.known_targets; free_targets = h.free_targets })
