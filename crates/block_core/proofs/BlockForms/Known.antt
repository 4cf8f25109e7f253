-- What a well typed netlist reads and sets is there.
use Rattle.std.specs.Prelude.{◌≡◌, ℕ, zero, suc, ◌+◌, ◌<◌, ◌==◌, nat_lt, nat_le, cond, Bool, true, false, ◌&&◌, List, [], ◌∷◌, ◌++◌, length, take, count_by}
use Rattle.std.proofs.Common.{get_or, not, refl, sym, ap, ◌∙◌, append_assoc, arith}
use Rattle.std.proofs.lemmas.Bool.{and_parts, and_from, eqb-true, lt-ltb}
use Rattle.std.proofs.lemmas.List.{append-nil}
use Rattle.std.proofs.lemmas.List.Recursion.{is_count_by}
use Rattle.list_laws.proofs.PlaceLaws.{some_below}
use Rattle.net_core.specs.declared.tree.Net.{Net}
use Rattle.net_core.specs.declared.tree.Net.TheVariants as net
use Rattle.net_core.specs.declared.design.Port as port
use Rattle.net_core.specs.declared.design.Declared.{Declared}
use Rattle.net_core.specs.declared.design.Declared.TheVariants as declared
use Rattle.net_core.specs.Nets.{Tree, TConst, TRead, TBit, TPartSelect, TMemoryWord, TUnary, TBinary, TConditional, TConcatenation, Trees, TLast, TMore, RightTree, RPlain, RQuotient, RRemainder, StatementTree, SBlock, SIf, SIfElse, SSet, SStore, StatementTrees, SEnd, SThen, WireTree, Netlist}
use Rattle.net_core.specs.Names.{is_register, is_memory}
use Rattle.net_core.specs.Width.{Scope, same_width, width_of, parts_width, right_width, same, statement_typed, statements_typed, register_widths, memory_widths, input_width, port_width, net_width, memory_width, scope, wires_typed, wire_widths}
use Rattle.net_core.proofs.WidthLaws.{same_parts, op_parts, unary_parts, part_select_parts, memory_word_parts, conditional_some, concatenation_parts}
use Rattle.design_rules.specs.FormedSyntax.{trees_pass, all_trees_pass}
use Rattle.design_rules.specs.FormedScope.{Sorts, reads_known, parts_known, right_known, targets_pass, all_targets_pass, is_input, registers_of, memories_of, is_value, is_words, sorts}
use Rattle.design_rules.proofs.FormedWidthLaws.{same_some}

-- ---- what has a width is there
pub record Holds {N : Type 0} (s : Scope N) (k : Sorts N) : Type 0 where
  pub net : (n : N) → 0 < s.net n → k.value n ≡ true
  pub memory : (m : N) → 0 < s.memory_word m → k.memory m ≡ true

module _ {N : Type 0} (s : Scope N) (k : Sorts N) (holds : Holds s k) where
  mutual
    pub tree_known : (e : Tree N) → 0 < width_of s e → reads_known k e ≡ true
    tree_known (TConst w) h = refl
    tree_known (TRead n) h = holds.net n h
    tree_known (TBit n i) h = let p = part_select_parts (s.net n) i i h in holds.net n (omega (arith, p.some))
    tree_known (TPartSelect n hi lo) h = let p = part_select_parts (s.net n) hi lo h in holds.net n (omega (arith, p.some))
    tree_known (TMemoryWord m i) h =
        let p = memory_word_parts (width_of s i) (s.index m) (s.memory_word m) h in
        and_from (k.memory m) (reads_known k i) (holds.memory m (omega (arith, p.is))) (tree_known i p.some)
    tree_known (TUnary o e) h = tree_known e (unary_parts o (width_of s e) h)
    tree_known (TBinary op a b) h =
        let p = op_parts op (width_of s a) (width_of s b) h in
        and_from (reads_known k a) (reads_known k b) (tree_known a p.left) (tree_known b p.right)
    tree_known (TConditional c a b) h =
        let p = conditional_some (width_of s c) (width_of s a) (width_of s b) h in
        and_from (reads_known k c) (reads_known k a && reads_known k b) (tree_known c p.0) (and_from (reads_known k a) (reads_known k b) (tree_known a p.1) (tree_known b p.2))
    tree_known (TConcatenation ps) h = parts_all_known ps h

    parts_all_known : (ps : Trees N) → 0 < parts_width s ps → parts_known k ps ≡ true
    parts_all_known (TLast a) h = tree_known a h
    parts_all_known (TMore a ps) h =
        let p = concatenation_parts (width_of s a) (parts_width s ps) h in
        and_from (reads_known k a) (parts_known k ps) (tree_known a p.left) (parts_all_known ps p.right)

  sides_known : (a b : N) → 0 < same_width (s.net a) (s.net b) → (k.value a && k.value b) ≡ true
  sides_known a b h =
      let p = same_parts (s.net a) (s.net b) h in
      and_from (k.value a) (k.value b) (holds.net a (omega (arith, p.is))) (holds.net b (omega (arith, p.is, p.sides)))

  pub right_all_known : (r : RightTree N) → 0 < right_width s r → right_known k r ≡ true
  right_all_known (RPlain e) h = tree_known e h
  right_all_known (RQuotient a b) h = sides_known a b h
  right_all_known (RRemainder a b) h = sides_known a b h

  one_some : (a : ℕ) → (a == 1) ≡ true → 0 < a
  one_some a h = let e = eqb-true a 1 h in omega (arith, e)

  module _ (rs : List ℕ) (ms : List (ℕ × ℕ)) (r m : ℕ → Bool) (hr : (i : ℕ) → 0 < get_or rs i 0 → r i ≡ true) (hm : (i : ℕ) → 0 < (get_or ms i (0, 0)).1 → m i ≡ true) where
    mutual
      pub statement_known : (a : StatementTree N) → statement_typed s rs ms a ≡ true → (targets_pass r m a && trees_pass (reads_known k) a) ≡ true
      statement_known (SBlock more) h = statements_known more h
      statement_known (SIf c a) h =
          let p = and_parts (width_of s c == 1) (statement_typed s rs ms a) h in
          let q = and_parts (targets_pass r m a) (trees_pass (reads_known k) a) (statement_known a p.1) in
          and_from _ _ q.0 (and_from _ _ (tree_known c (one_some (width_of s c) p.0)) q.1)
      statement_known (SIfElse c a b) h =
          let p = and_parts (width_of s c == 1) (statement_typed s rs ms a && statement_typed s rs ms b) h in
          let o = and_parts (statement_typed s rs ms a) (statement_typed s rs ms b) p.1 in
          let q = and_parts (targets_pass r m a) (trees_pass (reads_known k) a) (statement_known a o.0) in
          let t = and_parts (targets_pass r m b) (trees_pass (reads_known k) b) (statement_known b o.1) in
          and_from _ _ (and_from _ _ q.0 t.0) (and_from _ _ (tree_known c (one_some (width_of s c) p.0)) (and_from _ _ q.1 t.1))
      statement_known (SSet i e) h =
          let p = same_some (get_or rs i 0) (width_of s e) h in
          and_from _ _ (hr i p.0) (tree_known e p.1)
      statement_known (SStore i j e) h =
          let o = and_parts (same (get_or ms i (0, 0)).0 (width_of s j)) (same (get_or ms i (0, 0)).1 (width_of s e)) h in
          let p = same_some (get_or ms i (0, 0)).0 (width_of s j) o.0 in
          let q = same_some (get_or ms i (0, 0)).1 (width_of s e) o.1 in
          and_from _ _ (hm i q.0) (and_from _ _ (tree_known j p.1) (tree_known e q.1))

      statements_known : (a : StatementTrees N) → statements_typed s rs ms a ≡ true → (all_targets_pass r m a && all_trees_pass (reads_known k) a) ≡ true
      statements_known SEnd h = refl
      statements_known (SThen a more) h =
          let p = and_parts (statement_typed s rs ms a) (statements_typed s rs ms more) h in
          let q = and_parts (targets_pass r m a) (trees_pass (reads_known k) a) (statement_known a p.0) in
          let t = and_parts (all_targets_pass r m more) (all_trees_pass (reads_known k) more) (statements_known more p.1) in
          and_from _ _ (and_from _ _ q.0 t.0) (and_from _ _ q.1 t.1)

-- ---- the nets of a netlist
register_step : (x : Declared) (xs : List Declared) → length (register_widths (x ∷ xs)) ≡ cond (is_register x) (1 + length (register_widths xs)) (length (register_widths xs))
register_step declared.Integer xs = refl
register_step (declared.Register w) xs = omega arith
register_step (declared.Memory i w n) xs = refl

memory_step : (x : Declared) (xs : List Declared) → length (memory_widths (x ∷ xs)) ≡ cond (is_memory x) (1 + length (memory_widths xs)) (length (memory_widths xs))
memory_step declared.Integer xs = refl
memory_step (declared.Register w) xs = refl
memory_step (declared.Memory i w n) xs = omega arith

registers_counted : (ds : List Declared) → length (register_widths ds) ≡ count_by is_register ds
registers_counted ds = is_count_by (λ ds. length (register_widths ds)) is_register refl register_step ds

memories_counted : (ds : List Declared) → length (memory_widths ds) ≡ count_by is_memory ds
memories_counted ds = is_count_by (λ ds. length (memory_widths ds)) is_memory refl memory_step ds

pub register_there : (d : Netlist) (i : ℕ) → 0 < get_or (register_widths d.declared) i 0 → nat_lt i (registers_of d) ≡ true
register_there d i h = let l = some_below (λ n. n) 0 (register_widths d.declared) i refl h in let e = registers_counted d.declared in lt-ltb i (registers_of d) (omega (arith, l, e))

pub memory_there : (d : Netlist) (i : ℕ) → 0 < (get_or (memory_widths d.declared) i (0, 0)).1 → nat_lt i (memories_of d) ≡ true
memory_there d i h = let l = some_below (λ (x : ℕ × ℕ). x.1) (0, 0) (memory_widths d.declared) i refl h in let e = memories_counted d.declared in lt-ltb i (memories_of d) (omega (arith, l, e))

input_there : (p : port.Port) → 0 < input_width p → not p.output ≡ true
input_there p h = (elim p.output as (λ o. 0 < (cond o 0 p.width) → not o ≡ true) [ true ↦ λ h. absurd (omega arith) | false ↦ λ h. refl ]) h

port_there : (ports : List port.Port) (i : ℕ) → 0 < port_width ports i → is_input ports i ≡ true
port_there ports zero h = absurd (omega arith)
port_there ports (suc i) h = input_there (get_or ports (suc i) (record { output = true; width = 0 })) h

value_there : (d : Netlist) (ws : List ℕ) (n : ℕ) → length ws ≡ n → (x : Net) → 0 < net_width d ws x → is_value d n x ≡ true
value_there d ws n c (net.Port i) h = port_there d.ports i h
value_there d ws n c (net.Register i) h = register_there d i h
value_there d ws n c (net.Memory i) h = absurd (omega arith)
value_there d ws n c (net.Wire i) h = let l = some_below (λ n. n) 0 ws i refl h in lt-ltb i n (omega (arith, l, c))

words_there : (d : Netlist) (x : Net) → 0 < (memory_width d x).1 → is_words d x ≡ true
words_there d (net.Port i) h = absurd (omega arith)
words_there d (net.Register i) h = absurd (omega arith)
words_there d (net.Memory i) h = memory_there d i h
words_there d (net.Wire i) h = absurd (omega arith)

pub scope_holds : (d : Netlist) (ws : List ℕ) (n : ℕ) → length ws ≡ n → Holds (scope d ws) (sorts d n)
scope_holds d ws n c = record { net = value_there d ws n c; memory = words_there d }

-- ---- wires by their number
pub wires_at : (d : Netlist) (ws : List ℕ) (rest : List WireTree) → wires_typed d ws rest ≡ true → (i : ℕ) (w : WireTree) → i < length rest → w ≡ get_or rest i w
    → (same w.width (right_width (scope d (ws ++ take i (wire_widths rest))) w.right) && nat_le w.width 64) ≡ true
wires_at d ws [] h i w l e = absurd (omega arith)
wires_at d ws (x ∷ rest) h zero w l e =
    let p = and_parts (same x.width (right_width (scope d ws) x.right) && nat_le x.width 64) (wires_typed d (ws ++ x.width ∷ []) rest) h in
    ap (λ us. same w.width (right_width (scope d us) w.right) && nat_le w.width 64) (append-nil ws) ∙ ap (λ (y : WireTree). same y.width (right_width (scope d ws) y.right) && nat_le y.width 64) e ∙ p.0
wires_at d ws (x ∷ rest) h (suc i) w l e =
    let p = and_parts (same x.width (right_width (scope d ws) x.right) && nat_le x.width 64) (wires_typed d (ws ++ x.width ∷ []) rest) h in
    ap (λ us. same w.width (right_width (scope d us) w.right) && nat_le w.width 64) (sym (append_assoc ws (x.width ∷ []) (take i (wire_widths rest))))
    ∙ wires_at d (ws ++ x.width ∷ []) rest p.1 i w (omega arith) e
