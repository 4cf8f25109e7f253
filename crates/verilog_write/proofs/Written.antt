-- What a well-formed design reads and sets can be written.
use Rattle.std.specs.Prelude.{◌≡◌, ℕ, ◌<◌, ◌==◌, ◌^◌, nat_lt, nat_le, if◌then◌else◌, Bool, true, false, ◌&&◌, List}
use Rattle.std.proofs.Common.{get_or, refl, arith}
use Rattle.std.proofs.lemmas.Bool.{and_parts, eqb-true, leb-true, ltb-true}
use Rattle.net_core.specs.declared.tree.Word.{Word}
use Rattle.net_core.specs.declared.tree.Net.{Net}
use Rattle.net_core.specs.declared.tree.Net.TheVariants.{Register, Memory}
use Rattle.net_core.specs.Nets.{Tree, TConst, TRead, TBit, TPartSelect, TMemoryWord, TUnary, TBinary, TConditional, TConcatenation, Trees, TLast, TMore, RightTree, RPlain, RQuotient, RRemainder, StatementTree, SBlock, SIf, SIfElse, SSet, SStore, StatementTrees, SEnd, SThen, Netlist}
use Rattle.net_core.specs.Width.{Fits, Scope, const_width, width_of, parts_width, right_width, same, statement_typed, statements_typed, word_fits}
use Rattle.net_core.proofs.WidthLaws.{memory_word_parts, unary_parts, op_parts, conditional_some, concatenation_parts}
use Rattle.design_rules.specs.FormedSyntax.{trees_pass, all_trees_pass}
use Rattle.design_rules.specs.FormedScope.{Sorts, reads_known, parts_known, right_known, targets_pass, all_targets_pass}
use Rattle.design_rules.proofs.FormedWidthLaws.{same_some}
use Rattle.verilog_write.specs.Writable.{IsNamed, IsWritable, AreWritable, IsRightWritable, IsStatementWritable, AreStatementsWritable}

some_if : (b : Bool) (n : ℕ) → 0 < (if b then n else 0) → (b ≡ true) × (0 < n)
some_if true n h = (refl, h)
some_if false n h = absurd (omega arith)

-- a constant that has a width
fits_of_width : (w : Word) → 0 < const_width w → Fits w
fits_of_width w h =
    let p = some_if (nat_le w.width 64 && nat_lt w.value (2 ^ w.width)) w.width h in
    let s = and_parts (nat_le w.width 64) (nat_lt w.value (2 ^ w.width)) p.0 in
    record { some = p.1; most = leb-true w.width 64 s.0; small = ltb-true w.value (2 ^ w.width) s.1 }

pub fits_of_word : (w : Word) → word_fits w ≡ true → Fits w
fits_of_word w h =
    let s = and_parts (nat_lt 0 w.width) (nat_le w.width 64 && nat_lt w.value (2 ^ w.width)) h in
    let t = and_parts (nat_le w.width 64) (nat_lt w.value (2 ^ w.width)) s.1 in
    record { some = ltb-true 0 w.width s.0; most = leb-true w.width 64 t.0; small = ltb-true w.value (2 ^ w.width) t.1 }

-- the nets that may be read and set have names
pub record AreNamed (d : Netlist) (s : Sorts Net) (registers memories : ℕ → Bool) : Type 0 where
  pub value : (n : Net) → s.value n ≡ true → IsNamed d n
  pub memory : (n : Net) → s.memory n ≡ true → IsNamed d n
  pub register : (k : ℕ) → registers k ≡ true → IsNamed d (Register k)
  pub stored : (k : ℕ) → memories k ≡ true → IsNamed d (Memory k)

mutual
  pub tree_written : (d : Netlist) (s : Sorts Net) (r m : ℕ → Bool) → AreNamed d s r m → (w : Scope Net) (t : Tree Net) → reads_known s t ≡ true → 0 < width_of w t → IsWritable d t
  tree_written d s r m n w (TConst c) k h = fits_of_width c h
  tree_written d s r m n w (TRead a) k h = n.value a k
  tree_written d s r m n w (TBit a i) k h = n.value a k
  tree_written d s r m n w (TPartSelect a hi lo) k h = n.value a k
  tree_written d s r m n w (TMemoryWord a i) k h =
      let p = and_parts (s.memory a) (reads_known s i) k in
      (n.memory a p.0, tree_written d s r m n w i p.1 (memory_word_parts (width_of w i) (w.index a) (w.memory_word a) h).some)
  tree_written d s r m n w (TUnary p a) k h = tree_written d s r m n w a k (unary_parts p (width_of w a) h)
  tree_written d s r m n w (TBinary o a b) k h =
      let p = and_parts (reads_known s a) (reads_known s b) k in
      let q = op_parts o (width_of w a) (width_of w b) h in
      (tree_written d s r m n w a p.0 q.left, tree_written d s r m n w b p.1 q.right)
  tree_written d s r m n w (TConditional c a b) k h =
      let p = and_parts (reads_known s c) (reads_known s a && reads_known s b) k in
      let t = and_parts (reads_known s a) (reads_known s b) p.1 in
      let q = conditional_some (width_of w c) (width_of w a) (width_of w b) h in
      (tree_written d s r m n w c p.0 q.0, tree_written d s r m n w a t.0 q.1, tree_written d s r m n w b t.1 q.2)
  tree_written d s r m n w (TConcatenation ps) k h = trees_written d s r m n w ps k h

  pub trees_written : (d : Netlist) (s : Sorts Net) (r m : ℕ → Bool) → AreNamed d s r m → (w : Scope Net) (ts : Trees Net) → parts_known s ts ≡ true → 0 < parts_width w ts → AreWritable d ts
  trees_written d s r m n w (TLast a) k h = tree_written d s r m n w a k h
  trees_written d s r m n w (TMore a ps) k h =
      let p = and_parts (reads_known s a) (parts_known s ps) k in
      let q = concatenation_parts (width_of w a) (parts_width w ps) h in
      (tree_written d s r m n w a p.0 q.left, trees_written d s r m n w ps p.1 q.right)

pub right_written : (d : Netlist) (s : Sorts Net) (r m : ℕ → Bool) → AreNamed d s r m → (w : Scope Net) (t : RightTree Net) → right_known s t ≡ true → 0 < right_width w t → IsRightWritable d t
right_written d s r m n w (RPlain e) k h = tree_written d s r m n w e k h
right_written d s r m n w (RQuotient a b) k h = let p = and_parts (s.value a) (s.value b) k in (n.value a p.0, n.value b p.1)
right_written d s r m n w (RRemainder a b) k h = let p = and_parts (s.value a) (s.value b) k in (n.value a p.0, n.value b p.1)

one_some : (a : ℕ) → (a == 1) ≡ true → 0 < a
one_some a h = let e : a ≡ 1 = eqb-true a 1 h in omega arith

mutual
  pub statement_written : (d : Netlist) (s : Sorts Net) (r m : ℕ → Bool) → AreNamed d s r m → (w : Scope Net) (rs : List ℕ) (ms : List (ℕ × ℕ)) (a : StatementTree Net)
      → targets_pass r m a ≡ true → trees_pass (reads_known s) a ≡ true → statement_typed w rs ms a ≡ true → IsStatementWritable d a
  statement_written d s r m n w rs ms (SBlock more) t k h = statements_written d s r m n w rs ms more t k h
  statement_written d s r m n w rs ms (SIf c a) t k h =
      let p = and_parts (reads_known s c) (trees_pass (reads_known s) a) k in
      let q = and_parts (width_of w c == 1) (statement_typed w rs ms a) h in
      (tree_written d s r m n w c p.0 (one_some (width_of w c) q.0), statement_written d s r m n w rs ms a t p.1 q.1)
  statement_written d s r m n w rs ms (SIfElse c a b) t k h =
      let u = and_parts (targets_pass r m a) (targets_pass r m b) t in
      let p = and_parts (reads_known s c) (trees_pass (reads_known s) a && trees_pass (reads_known s) b) k in
      let v = and_parts (trees_pass (reads_known s) a) (trees_pass (reads_known s) b) p.1 in
      let q = and_parts (width_of w c == 1) (statement_typed w rs ms a && statement_typed w rs ms b) h in
      let x = and_parts (statement_typed w rs ms a) (statement_typed w rs ms b) q.1 in
      (tree_written d s r m n w c p.0 (one_some (width_of w c) q.0), statement_written d s r m n w rs ms a u.0 v.0 x.0, statement_written d s r m n w rs ms b u.1 v.1 x.1)
  statement_written d s r m n w rs ms (SSet i e) t k h = (n.register i t, tree_written d s r m n w e k (same_some (get_or rs i 0) (width_of w e) h).1)
  statement_written d s r m n w rs ms (SStore a i e) t k h =
      let p = and_parts (reads_known s i) (reads_known s e) k in
      let q = and_parts (same (get_or ms a (0, 0)).0 (width_of w i)) (same (get_or ms a (0, 0)).1 (width_of w e)) h in
      (n.stored a t, tree_written d s r m n w i p.0 (same_some (get_or ms a (0, 0)).0 (width_of w i) q.0).1, tree_written d s r m n w e p.1 (same_some (get_or ms a (0, 0)).1 (width_of w e) q.1).1)

  pub statements_written : (d : Netlist) (s : Sorts Net) (r m : ℕ → Bool) → AreNamed d s r m → (w : Scope Net) (rs : List ℕ) (ms : List (ℕ × ℕ)) (more : StatementTrees Net)
      → all_targets_pass r m more ≡ true → all_trees_pass (reads_known s) more ≡ true → statements_typed w rs ms more ≡ true → AreStatementsWritable d more
  statements_written d s r m n w rs ms SEnd t k h = tt
  statements_written d s r m n w rs ms (SThen a more) t k h =
      let u = and_parts (targets_pass r m a) (all_targets_pass r m more) t in
      let p = and_parts (trees_pass (reads_known s) a) (all_trees_pass (reads_known s) more) k in
      let q = and_parts (statement_typed w rs ms a) (statements_typed w rs ms more) h in
      (statement_written d s r m n w rs ms a u.0 p.0 q.0, statements_written d s r m n w rs ms more u.1 p.1 q.1)
