-- Which widths an expression's parts have where it has one, and that none is above 64.
use Rattle.std.specs.Prelude.{nat_lt, nat_le, if◌then◌else◌, ◌==◌}
use Rattle.std.proofs.Common.{◌≡◌, ℕ, ◌+◌, ◌-◌, ◌^◌, ◌<◌, ◌≤◌, Bool, true, false, ◌&&◌, refl, arith}
use Rattle.std.proofs.lemmas.Bool.{and_parts, and_from, eqb-true, ltb-true, leb-true, lt-ltb, le-leb}
use Rattle.net_core.specs.declared.tree.Net.{Net}
use Rattle.net_core.specs.declared.tree.Op.{Op}
use Rattle.net_core.specs.declared.tree.Op.TheVariants as op
use Rattle.net_core.specs.declared.tree.UnaryOp.{UnaryOp}
use Rattle.net_core.specs.declared.tree.UnaryOp.TheVariants as unary_op
use Rattle.net_core.specs.declared.tree.Word.{Word}
use Rattle.net_core.specs.Nets.{Tree, TConst, TRead, TBit, TPartSelect, TMemoryWord, TUnary, TBinary, TConditional, TConcatenation, Trees, TLast, TMore}
use Rattle.net_core.specs.Width.{Scope, same_width, const_width, part_select_width, unary_width, op_width, concatenation_width, word_fits, width_of, parts_width}
use Rattle.design_rules.specs.FormedScope.{Sorts, reads_known, parts_known}
use Rattle.verilog_expression.specs.Expressions.{whole_width}

-- a width that is 0 where a test fails
tested_some : (b : Bool) (w : ℕ) → 0 < (if b then w else 0) → (b ≡ true) × (0 < w)
tested_some true w h = (refl, h)
tested_some false w h = absurd (omega arith)

tested_most : (b : Bool) (w most : ℕ) → (b ≡ true → w ≤ most) → (if b then w else 0) ≤ most
tested_most true w most h = h refl
tested_most false w most h = omega arith

-- ---- the parts' widths
-- a constant's width is the one that it is written with
pub const_some : (w : Word) → 0 < const_width w → (word_fits w ≡ true) × (const_width w ≡ w.width)
const_some w h =
    let t = tested_some (nat_le w.width 64 && nat_lt w.value (2 ^ w.width)) w.width h in
    (and_from _ _ (lt-ltb 0 w.width t.1) t.0, rw t.0 refl)

-- two of one width
pub same_is : (a b : ℕ) → 0 < same_width a b → (a ≡ b) × (same_width a b ≡ a) × (0 < a)
same_is a b h =
    let t = tested_some (a == b) a h in
    (eqb-true a b t.0, rw t.0 refl, t.1)

pub concatenation_some : (a b : ℕ) → 0 < concatenation_width a b → (0 < a) × (0 < b) × (concatenation_width a b ≡ a + b)
concatenation_some a b h =
    let t = tested_some (nat_lt 0 a && (nat_lt 0 b && nat_le (a + b) 64)) (a + b) h in
    let p = and_parts (nat_lt 0 a) (nat_lt 0 b && nat_le (a + b) 64) t.0 in
    let q = and_parts (nat_lt 0 b) (nat_le (a + b) 64) p.1 in
    (ltb-true 0 a p.0, ltb-true 0 b q.0, rw t.0 refl)

pub whole_most : (w : ℕ) → w ≤ 64 → whole_width w ≡ w
whole_most w h = rw (le-leb w 64 h) refl

-- ---- no width is above 64
part_select_most : (w hi lo most : ℕ) → w ≤ most → part_select_width w hi lo ≤ most
part_select_most w hi lo most h = tested_most (nat_le 2 w && (nat_le lo hi && nat_lt hi w)) (hi + 1 - lo) most (λ e.
    let p = and_parts (nat_le 2 w) (nat_le lo hi && nat_lt hi w) e in
    let q = and_parts (nat_le lo hi) (nat_lt hi w) p.1 in
    let i : hi < w = ltb-true hi w q.1 in
    omega arith)

op_most : (o : Op) (a b most : ℕ) → 1 ≤ most → a ≤ most → op_width o a b ≤ most
op_most op.Add a b most l h = tested_most (a == b) a most (λ e. h)
op_most op.Sub a b most l h = tested_most (a == b) a most (λ e. h)
op_most op.Mul a b most l h = tested_most (a == b) a most (λ e. h)
op_most op.And a b most l h = tested_most (a == b) a most (λ e. h)
op_most op.Or a b most l h = tested_most (a == b) a most (λ e. h)
op_most op.Xor a b most l h = tested_most (a == b) a most (λ e. h)
op_most op.ShiftLeft a b most l h = tested_most (nat_lt 0 b) a most (λ e. h)
op_most op.ShiftRight a b most l h = tested_most (nat_lt 0 b) a most (λ e. h)
op_most op.Equal a b most l h = tested_most (nat_lt 0 a && a == b) 1 most (λ e. l)
op_most op.NotEqual a b most l h = tested_most (nat_lt 0 a && a == b) 1 most (λ e. l)
op_most op.Less a b most l h = tested_most (nat_lt 0 a && a == b) 1 most (λ e. l)
op_most op.LessEqual a b most l h = tested_most (nat_lt 0 a && a == b) 1 most (λ e. l)
op_most op.Greater a b most l h = tested_most (nat_lt 0 a && a == b) 1 most (λ e. l)
op_most op.GreaterEqual a b most l h = tested_most (nat_lt 0 a && a == b) 1 most (λ e. l)

unary_most : (p : UnaryOp) (w most : ℕ) → 1 ≤ most → w ≤ most → unary_width p w ≤ most
unary_most unary_op.Not w most l h = h
unary_most unary_op.ReduceOr w most l h = tested_most (nat_lt 0 w) 1 most (λ e. l)

const_most : (w : Word) → const_width w ≤ 64
const_most w = tested_most (nat_le w.width 64 && nat_lt w.value (2 ^ w.width)) w.width 64 (λ e. leb-true w.width 64 (and_parts (nat_le w.width 64) (nat_lt w.value (2 ^ w.width)) e).0)

concatenation_most : (a b : ℕ) → concatenation_width a b ≤ 64
concatenation_most a b = tested_most (nat_lt 0 a && (nat_lt 0 b && nat_le (a + b) 64)) (a + b) 64 (λ e. leb-true (a + b) 64 (and_parts (nat_lt 0 b) (nat_le (a + b) 64) (and_parts (nat_lt 0 a) (nat_lt 0 b && nat_le (a + b) 64) e).1).1)

module _ (s : Scope Net) (k : Sorts Net) (value : (n : Net) → k.value n ≡ true → s.net n ≤ 64) (words : (n : Net) → k.memory n ≡ true → s.memory_word n ≤ 64) where
  mutual
    tree_most : (t : Tree Net) → reads_known k t ≡ true → width_of s t ≤ 64
    tree_most (TConst w) h = const_most w
    tree_most (TRead n) h = value n h
    tree_most (TBit n i) h = part_select_most (s.net n) i i 64 (value n h)
    tree_most (TPartSelect n hi lo) h = part_select_most (s.net n) hi lo 64 (value n h)
    tree_most (TMemoryWord m i) h = tested_most (nat_lt 0 (width_of s i) && width_of s i == s.index m) (s.memory_word m) 64 (λ e. words m (and_parts (k.memory m) (reads_known k i) h).0)
    tree_most (TUnary p a) h = unary_most p (width_of s a) 64 (omega arith) (tree_most a h)
    tree_most (TBinary o a b) h = op_most o (width_of s a) (width_of s b) 64 (omega arith) (tree_most a (and_parts (reads_known k a) (reads_known k b) h).0)
    tree_most (TConditional c a b) h =
        let p = and_parts (reads_known k c) (reads_known k a && reads_known k b) h in
        tested_most (width_of s c == 1 && width_of s a == width_of s b) (width_of s a) 64 (λ e. tree_most a (and_parts (reads_known k a) (reads_known k b) p.1).0)
    tree_most (TConcatenation ps) h = parts_most ps h

    pub parts_most : (ps : Trees Net) → parts_known k ps ≡ true → parts_width s ps ≤ 64
    parts_most (TLast a) h = tree_most a h
    parts_most (TMore a ps) h = concatenation_most (width_of s a) (parts_width s ps)
