-- A statement by the new numbers sets what is kept of the registers to what the statement sets them to.
use Rattle.std.specs.Prelude.{◌≡◌, ℕ, suc, ◌<◌, ◌==◌, if◌then◌else◌, Bool, true, false, ◌&&◌, List, [], ◌∷◌, ◌++◌, length, slice_set}
use Rattle.std.proofs.Common.{get_or, refl, sym, ap, ◌∙◌, arith}
use Rattle.std.proofs.lemmas.Bool.{and_parts, eqb-true, eqb-false}
use Rattle.net_core.specs.declared.tree.Net.{Net}
use Rattle.net_core.specs.Nets.{Tree, StatementTree, SBlock, SIf, SIfElse, SSet, SStore, StatementTrees, SEnd, SThen}
use Rattle.net_core.specs.Value.{Env, value}
use Rattle.net_core.specs.Clock.{Stored, done, all_done, edge}
use Rattle.net_core.specs.Chains.{statements_before}
use Rattle.design_rules.specs.FormedSyntax.{trees_pass, all_trees_pass}
use Rattle.design_rules.specs.FormedScope.{Sorts, reads_known}
use Rattle.block_core.specs.Rename.{rename}
use Rattle.net_optimize.specs.Renumber.{dropped, numbers, kept_stored, NewNumbers, renumber, is_idle, renumber_statement, renumber_statements, renumber_always}
use Rattle.net_optimize.specs.Short.{new_numbers}
use Rattle.net_optimize.proofs.SameValues.{value_same}
use Rattle.net_optimize.proofs.KeptLists.{numbers_most, set_dropped, set_numbered}

-- ---- what does nothing
idle_done : (v : Env Net) (a : StatementTree Net) (s : Stored) → is_idle a ≡ true → done v a s ≡ s
idle_done v (SBlock SEnd) s h = refl
idle_done v (SBlock (SThen a more)) s h = absurd (cc)
idle_done v (SIf c a) s h = absurd (cc)
idle_done v (SIfElse c a b) s h = absurd (cc)
idle_done v (SSet k e) s h = absurd (cc)
idle_done v (SStore k i e) s h = absurd (cc)

idle_passes : (p : Tree Net → Bool) (a : StatementTree Net) → is_idle a ≡ true → trees_pass p a ≡ true
idle_passes p (SBlock SEnd) h = refl
idle_passes p (SBlock (SThen a more)) h = absurd (cc)
idle_passes p (SIf c a) h = absurd (cc)
idle_passes p (SIfElse c a b) h = absurd (cc)
idle_passes p (SSet k e) h = absurd (cc)
idle_passes p (SStore k i e) h = absurd (cc)

choice_kept : (rs : List Bool) (t : Bool) (s u : Stored) → (if t then kept_stored rs s else kept_stored rs u) ≡ kept_stored rs (if t then s else u)
choice_kept rs true s u = refl
choice_kept rs false s u = refl

either_kept : (rs : List Bool) (t : Bool) (w s u : Stored) → w ≡ kept_stored rs s → w ≡ kept_stored rs u → w ≡ kept_stored rs (if t then s else u)
either_kept rs true w s u x y = x
either_kept rs false w s u x y = y

module _ (ks rs : List Bool) (firsts : List ℕ) (few : length rs < dropped) (k : Sorts Net) (v2 v : Env Net)
    (nets : (n : Net) → k.value (renumber (new_numbers ks rs firsts) n) ≡ true → v2.net (renumber (new_numbers ks rs firsts) n) ≡ v.net n)
    (words : (m : Net) (a : ℕ) → v2.memory_word (renumber (new_numbers ks rs firsts) m) a ≡ v.memory_word m a) where
  abbrev ns : NewNumbers
  ns = new_numbers ks rs firsts

  abbrev f : Net → Net
  f = renumber ns

  abbrev short : Stored → Stored
  short s = kept_stored rs s

  abbrev knows : StatementTree Net → Bool
  knows a = trees_pass (reads_known k) a

  set_same : (r : ℕ) (e : Tree Net) (s : Stored) (n : ℕ) (is : Bool) → get_or (numbers 0 rs) r dropped ≡ n → (n == dropped) ≡ is → knows (if is then SBlock SEnd else SSet n (rename f e)) ≡ true
      → done v2 (if is then SBlock SEnd else SSet n (rename f e)) (short s) ≡ short (record s { registers = slice_set s.registers r (value v e) })
  set_same r e s n true at is h = let x = set_dropped rs s.registers 0 r (value v e) (omega arith) (at ∙ eqb-true n dropped is) in rw x refl
  set_same r e s n false at is h =
      let x = value_same k f v2 v nets words e h in
      let most = numbers_most rs 0 r (omega arith) in
      let other = eqb-false n dropped is in
      let y = set_numbered rs s.registers 0 r n (value v e) (omega arith) (omega (arith, at, most, other)) (omega (arith, at)) in rw (x, y) refl

  if_same : (c : Tree Net) (a : StatementTree Net) (s u : Stored) (is : Bool) → is_idle a ≡ is → (knows a ≡ true → done v2 a (short s) ≡ short u)
      → knows (if is then a else SIf (rename f c) a) ≡ true → done v2 (if is then a else SIf (rename f c) a) (short s) ≡ short (if (value v c).value == 0 then s else u)
  if_same c a s u true is same h =
      let x = idle_done v2 a (short s) is in
      x ∙ either_kept rs ((value v c).value == 0) (short s) s u refl (sym x ∙ same h)
  if_same c a s u false is same h =
      let t = and_parts _ _ h in
      let x = value_same k f v2 v nets words c t.0 in
      let y = same t.1 in
      rw (x, y) (choice_kept rs ((value v c).value == 0) s u)

  if_else_same : (c : Tree Net) (a b : StatementTree Net) (s u w : Stored) (is : Bool) → (is_idle a && is_idle b) ≡ is → (knows a ≡ true → done v2 a (short s) ≡ short u) → (knows b ≡ true → done v2 b (short s) ≡ short w)
      → knows (if is then a else SIfElse (rename f c) a b) ≡ true → done v2 (if is then a else SIfElse (rename f c) a b) (short s) ≡ short (if (value v c).value == 0 then w else u)
  if_else_same c a b s u w true is same same_too h =
      let i = and_parts _ _ is in
      let x = idle_done v2 a (short s) i.0 in
      let y = idle_done v2 b (short s) i.1 in
      x ∙ either_kept rs ((value v c).value == 0) (short s) w u (sym y ∙ same_too (idle_passes (reads_known k) b i.1)) (sym x ∙ same h)
  if_else_same c a b s u w false is same same_too h =
      let t = and_parts _ _ h in
      let z = and_parts _ _ t.1 in
      let x = value_same k f v2 v nets words c t.0 in
      let y = same z.0 in
      let y_too = same_too z.1 in
      rw (x, y, y_too) (choice_kept rs ((value v c).value == 0) w u)

  then_same : (a : StatementTree Net) (more : StatementTrees Net) (s u w : Stored) (is : Bool) → is_idle a ≡ is → (knows a ≡ true → done v2 a (short s) ≡ short u)
      → (all_trees_pass (reads_known k) more ≡ true → all_done v2 more (short u) ≡ short w)
      → all_trees_pass (reads_known k) (statements_before (if is then [] else a ∷ []) more) ≡ true → all_done v2 (statements_before (if is then [] else a ∷ []) more) (short s) ≡ short w
  then_same a more s u w true is same same_too h =
      ap (all_done v2 more) (sym (idle_done v2 a (short s) is) ∙ same (idle_passes (reads_known k) a is)) ∙ same_too h
  then_same a more s u w false is same same_too h = let t = and_parts _ _ h in ap (all_done v2 more) (same t.0) ∙ same_too t.1

  mutual
    pub done_same : (a : StatementTree Net) (s : Stored) → trees_pass (reads_known k) (renumber_statement (new_numbers ks rs firsts) a) ≡ true
        → done v2 (renumber_statement (new_numbers ks rs firsts) a) (kept_stored rs s) ≡ kept_stored rs (done v a s)
    done_same (SBlock more) s h = all_done_same more s h
    done_same (SIf c a) s h = if_same c (renumber_statement ns a) s (done v a s) (is_idle (renumber_statement ns a)) refl (λ g. done_same a s g) h
    done_same (SIfElse c a b) s h =
        if_else_same c (renumber_statement ns a) (renumber_statement ns b) s (done v a s) (done v b s) (is_idle (renumber_statement ns a) && is_idle (renumber_statement ns b)) refl
        (λ g. done_same a s g) (λ g. done_same b s g) h
    done_same (SSet r e) s h = set_same r e s (get_or (numbers 0 rs) r dropped) (get_or (numbers 0 rs) r dropped == dropped) refl refl h
    done_same (SStore m i e) s h =
        let t = and_parts _ _ h in
        let x = value_same k f v2 v nets words i t.0 in
        let y = value_same k f v2 v nets words e t.1 in rw (x, y) refl

    all_done_same : (a : StatementTrees Net) (s : Stored) → all_trees_pass (reads_known k) (renumber_statements ns a) ≡ true → all_done v2 (renumber_statements ns a) (short s) ≡ short (all_done v a s)
    all_done_same SEnd s h = refl
    all_done_same (SThen a more) s h =
        then_same (renumber_statement ns a) (renumber_statements ns more) s (done v a s) (all_done v more (done v a s)) (is_idle (renumber_statement ns a)) refl
        (λ g. done_same a s g) (λ g. all_done_same more (done v a s) g) h

  -- always blocks, all of which read what is known
  abbrev All : List (StatementTree Net) → Type 0
  All ys = (i : ℕ) (a : StatementTree Net) → i < length ys → a ≡ get_or ys i a → knows a ≡ true

  block_same : (a : StatementTree Net) (ys : List (StatementTree Net)) (s u w : Stored) (is : Bool) → is_idle a ≡ is → (knows a ≡ true → done v2 a (short s) ≡ short u) → (All ys → edge v2 ys (short u) ≡ short w)
      → All ((if is then [] else a ∷ []) ++ ys) → edge v2 ((if is then [] else a ∷ []) ++ ys) (short s) ≡ short w
  block_same a ys s u w true is same same_too h =
      ap (edge v2 ys) (sym (idle_done v2 a (short s) is) ∙ same (idle_passes (reads_known k) a is)) ∙ same_too h
  block_same a ys s u w false is same same_too h = ap (edge v2 ys) (same (h 0 a (omega arith) refl)) ∙ same_too (λ i b l e. h (suc i) b (omega arith) e)

  pub edge_same : (xs : List (StatementTree Net)) (s : Stored)
      → ((i : ℕ) (a : StatementTree Net) → i < length (renumber_always (new_numbers ks rs firsts) xs) → a ≡ get_or (renumber_always (new_numbers ks rs firsts) xs) i a → trees_pass (reads_known k) a ≡ true)
      → edge v2 (renumber_always (new_numbers ks rs firsts) xs) (kept_stored rs s) ≡ kept_stored rs (edge v xs s)
  edge_same [] s h = refl
  edge_same (a ∷ xs) s h =
      block_same (renumber_statement ns a) (renumber_always ns xs) s (done v a s) (edge v xs (done v a s)) (is_idle (renumber_statement ns a)) refl (done_same a s) (edge_same xs (done v a s)) h
