-- A well typed tree's value has the tree's width, where each net's value has its width.
use Rattle.std.specs.Prelude.{◌==◌, nat_lt, nat_le, if◌then◌else◌, bit_and, bit_or, bit_xor}
use Rattle.std.proofs.Common.{◌≡◌, ℕ, ◌+◌, ◌-◌, ◌*◌, ◌/◌, ◌%◌, ◌^◌, ◌<◌, ◌≤◌, Bool, true, false, ◌&&◌, refl, sym, ◌∙◌, subst, arith}
use Rattle.std.proofs.lemmas.Bool.{eqb-true, ltb-true, lt-ltb, leb-true, le-leb, and_parts}
use Rattle.std.proofs.lemmas.Bool.Decides.{nat_tests}
use Rattle.std.proofs.lemmas.Nat.{pow_pos, or_lt, xor_lt, and_le_l, shr_le, mod_below}
use Rattle.std.proofs.Math.Nat.{div-le_self, mod-le}
use Rattle.net_core.specs.declared.tree.Word.{Word}
use Rattle.net_core.specs.declared.tree.Op.{Op}
use Rattle.net_core.specs.declared.tree.Op.TheVariants.{Add, Sub, Mul, And, Or, Xor, ShiftLeft, ShiftRight, Equal, NotEqual, Less, LessEqual, Greater, GreaterEqual}
use Rattle.net_core.specs.declared.tree.UnaryOp.{UnaryOp}
use Rattle.net_core.specs.declared.tree.UnaryOp.TheVariants.{Not, ReduceOr}
use Rattle.net_core.specs.Nets.{Tree, TConst, TRead, TBit, TPartSelect, TMemoryWord, TUnary, TBinary, TConditional, TConcatenation, Trees, TLast, TMore, RightTree, RPlain, RQuotient, RRemainder}
use Rattle.net_core.specs.Value.{word, bit, apply, apply_unary, concatenated, part_select, Env, value, concatenated_parts, right_value}
use Rattle.net_core.specs.Width.{Fits, Scope, same_width, test_width, shift_width, op_width, unary_width, const_width, part_select_width, memory_word_width, conditional_width, concatenation_width, width_of, parts_width, right_width}
use Rattle.net_core.specs.Suits.{IsOfWidth, Suits}
use Rattle.net_core.proofs.LowBitsLaws.{concatenated_small}

-- widths whose sum is one are added
pub concatenation_is : (a b : ℕ) → 0 < a → 0 < b → a + b ≤ 64 → concatenation_width a b ≡ a + b
concatenation_is a b p q r = rw (lt-ltb 0 a p, lt-ltb 0 b q, le-leb (a + b) 64 r) refl

-- ---- what a width says of its parts
pub record Same (a b w : ℕ) : Type 0 where
  pub sides : a ≡ b
  pub is : w ≡ a

pub same_parts : (a b : ℕ) → 0 < same_width a b → Same a b (same_width a b)
same_parts a b h = by_test (a == b) refl h
  where
    by_test : (t : Bool) → (a == b) ≡ t → 0 < (if t then a else 0) → Same a b (if t then a else 0)
    by_test true e h = record { sides = eqb-true a b e; is = refl }
    by_test false e h = absurd (omega arith)

pub record Test (a b w : ℕ) : Type 0 where
  pub some : 0 < a
  pub sides : a ≡ b
  pub is : w ≡ 1

pub test_parts : (a b : ℕ) → 0 < test_width a b → Test a b (test_width a b)
test_parts a b h = by_test (nat_lt 0 a && a == b) refl h
  where
    by_test : (t : Bool) → (nat_lt 0 a && a == b) ≡ t → 0 < (if t then 1 else 0) → Test a b (if t then 1 else 0)
    by_test true e h = let p = and_parts (nat_lt 0 a) (a == b) e in record { some = ltb-true 0 a p.0; sides = eqb-true a b p.1; is = refl }
    by_test false e h = absurd (omega arith)

pub record Shift (a b w : ℕ) : Type 0 where
  pub some : 0 < b
  pub is : w ≡ a

pub shift_parts : (a b : ℕ) → 0 < shift_width a b → Shift a b (shift_width a b)
shift_parts a b h = by_test (nat_lt 0 b) refl h
  where
    by_test : (t : Bool) → nat_lt 0 b ≡ t → 0 < (if t then a else 0) → Shift a b (if t then a else 0)
    by_test true e h = record { some = ltb-true 0 b e; is = refl }
    by_test false e h = absurd (omega arith)

pub record Both (a b : ℕ) : Type 0 where
  pub left : 0 < a
  pub right : 0 < b

same_both : (a b : ℕ) → 0 < same_width a b → Both a b
same_both a b h = let p = same_parts a b h in let s = p.sides in let i = p.is in record { left = omega arith; right = omega arith }

test_both : (a b : ℕ) → 0 < test_width a b → Both a b
test_both a b h = let p = test_parts a b h in let s = p.sides in let i = p.some in record { left = omega arith; right = omega arith }

shift_both : (a b : ℕ) → 0 < shift_width a b → Both a b
shift_both a b h = let p = shift_parts a b h in let s = p.some in let i = p.is in record { left = omega arith; right = omega arith }

-- both operands of an operator have a width
pub op_parts : (op : Op) (a b : ℕ) → 0 < op_width op a b → Both a b
op_parts Add a b h = same_both a b h
op_parts Sub a b h = same_both a b h
op_parts Mul a b h = same_both a b h
op_parts And a b h = same_both a b h
op_parts Or a b h = same_both a b h
op_parts Xor a b h = same_both a b h
op_parts ShiftLeft a b h = shift_both a b h
op_parts ShiftRight a b h = shift_both a b h
op_parts Equal a b h = test_both a b h
op_parts NotEqual a b h = test_both a b h
op_parts Less a b h = test_both a b h
op_parts LessEqual a b h = test_both a b h
op_parts Greater a b h = test_both a b h
op_parts GreaterEqual a b h = test_both a b h

pub unary_parts : (p : UnaryOp) (a : ℕ) → 0 < unary_width p a → 0 < a
unary_parts Not a h = h
unary_parts ReduceOr a h = by_test (nat_lt 0 a) refl h
  where
    by_test : (t : Bool) → nat_lt 0 a ≡ t → 0 < (if t then 1 else 0) → 0 < a
    by_test true e h = ltb-true 0 a e
    by_test false e h = absurd (omega arith)

pub record Selects (w hi lo n : ℕ) : Type 0 where
  pub some : 2 ≤ w
  pub order : lo ≤ hi
  pub within : hi < w
  pub is : n ≡ hi + 1 - lo

pub part_select_parts : (w hi lo : ℕ) → 0 < part_select_width w hi lo → Selects w hi lo (part_select_width w hi lo)
part_select_parts w hi lo h = by_test (nat_le 2 w && (nat_le lo hi && nat_lt hi w)) refl h
  where
    by_test : (t : Bool) → (nat_le 2 w && (nat_le lo hi && nat_lt hi w)) ≡ t → 0 < (if t then hi + 1 - lo else 0) → Selects w hi lo (if t then hi + 1 - lo else 0)
    by_test true e h =
        let p = and_parts (nat_le 2 w) (nat_le lo hi && nat_lt hi w) e in
        let q = and_parts (nat_le lo hi) (nat_lt hi w) p.1 in
        record { some = leb-true 2 w p.0; order = leb-true lo hi q.0; within = ltb-true hi w q.1; is = refl }
    by_test false e h = absurd (omega arith)

pub record Indexed (i index memory_word w : ℕ) : Type 0 where
  pub some : 0 < i
  pub at : i ≡ index
  pub is : w ≡ memory_word

pub memory_word_parts : (i index memory_word : ℕ) → 0 < memory_word_width i index memory_word → Indexed i index memory_word (memory_word_width i index memory_word)
memory_word_parts i index memory_word h = by_test (nat_lt 0 i && i == index) refl h
  where
    by_test : (t : Bool) → (nat_lt 0 i && i == index) ≡ t → 0 < (if t then memory_word else 0) → Indexed i index memory_word (if t then memory_word else 0)
    by_test true e h = let p = and_parts (nat_lt 0 i) (i == index) e in record { some = ltb-true 0 i p.0; at = eqb-true i index p.1; is = refl }
    by_test false e h = absurd (omega arith)

pub record IsConditional (c a b w : ℕ) : Type 0 where
  pub test : c ≡ 1
  pub sides : a ≡ b
  pub is : w ≡ a

pub conditional_parts : (c a b : ℕ) → 0 < conditional_width c a b → IsConditional c a b (conditional_width c a b)
conditional_parts c a b h = by_test (c == 1 && a == b) refl h
  where
    by_test : (t : Bool) → (c == 1 && a == b) ≡ t → 0 < (if t then a else 0) → IsConditional c a b (if t then a else 0)
    by_test true e h = let p = and_parts (c == 1) (a == b) e in record { test = eqb-true c 1 p.0; sides = eqb-true a b p.1; is = refl }
    by_test false e h = absurd (omega arith)

pub record IsConcatenation (a b w : ℕ) : Type 0 where
  pub left : 0 < a
  pub right : 0 < b
  pub most : a + b ≤ 64
  pub is : w ≡ a + b

pub concatenation_parts : (a b : ℕ) → 0 < concatenation_width a b → IsConcatenation a b (concatenation_width a b)
concatenation_parts a b h = by_test (nat_lt 0 a && (nat_lt 0 b && nat_le (a + b) 64)) refl h
  where
    by_test : (t : Bool) → (nat_lt 0 a && (nat_lt 0 b && nat_le (a + b) 64)) ≡ t → 0 < (if t then a + b else 0) → IsConcatenation a b (if t then a + b else 0)
    by_test true e h =
        let p = and_parts (nat_lt 0 a) (nat_lt 0 b && nat_le (a + b) 64) e in
        let q = and_parts (nat_lt 0 b) (nat_le (a + b) 64) p.1 in
        record { left = ltb-true 0 a p.0; right = ltb-true 0 b q.0; most = leb-true (a + b) 64 q.1; is = refl }
    by_test false e h = absurd (omega arith)

pub const_parts : (w : Word) → 0 < const_width w → IsOfWidth (const_width w) w
const_parts w h = by_test (nat_le w.width 64 && nat_lt w.value (2 ^ w.width)) refl h
  where
    by_test : (t : Bool) → (nat_le w.width 64 && nat_lt w.value (2 ^ w.width)) ≡ t → 0 < (if t then w.width else 0) → IsOfWidth (if t then w.width else 0) w
    by_test true e h = let p = and_parts (nat_le w.width 64) (nat_lt w.value (2 ^ w.width)) e in record { width = refl; fits = record { some = h; most = leb-true w.width 64 p.0; small = ltb-true w.value (2 ^ w.width) p.1 } }
    by_test false e h = absurd (omega arith)

-- the parts of a conditional have widths
pub conditional_some : (c a b : ℕ) → 0 < conditional_width c a b → (0 < c) × (0 < a) × (0 < b)
conditional_some c a b h =
    let p = conditional_parts c a b h in
    let one = p.test in let sides = p.sides in let is = p.is in
    (omega arith, omega arith, omega arith)

-- ---- operators, selects, concatenations
bit_fits : (b : Bool) → Fits (bit b)
bit_fits true = record { some = omega arith; most = omega arith; small = omega arith }
bit_fits false = record { some = omega arith; most = omega arith; small = omega arith }

-- a number of the left operand's width
same_fits : (a b : Word) (v : ℕ) → Fits a → v < 2 ^ a.width → 0 < same_width a.width b.width → IsOfWidth (same_width a.width b.width) (word a.width v)
same_fits a b v f small h = record { width = sym (same_parts a.width b.width h).is; fits = record { some = f.some; most = f.most; small = small } }

shift_fits : (a b : Word) (v : ℕ) → Fits a → v < 2 ^ a.width → 0 < shift_width a.width b.width → IsOfWidth (shift_width a.width b.width) (word a.width v)
shift_fits a b v f small h = record { width = sym (shift_parts a.width b.width h).is; fits = record { some = f.some; most = f.most; small = small } }

test_fits : (a b : Word) (t : Bool) → 0 < test_width a.width b.width → IsOfWidth (test_width a.width b.width) (bit t)
test_fits a b t h = record { width = sym (test_parts a.width b.width h).is; fits = bit_fits t }

pub if_small : (t : Bool) (v w : ℕ) → v < 2 ^ w → (if t then v else 0) < 2 ^ w
if_small true v w h = h
if_small false v w h = pow_pos w

low_small : (v w : ℕ) → v % 2 ^ w < 2 ^ w
low_small v w = mod_below v (2 ^ w) (pow_pos w)

pub apply_fits : (op : Op) (a b : Word) → Fits a → Fits b → 0 < op_width op a.width b.width → IsOfWidth (op_width op a.width b.width) (apply op a b)
apply_fits Add a b f g h = same_fits a b _ f (low_small (a.value + b.value) a.width) h
apply_fits Sub a b f g h = same_fits a b _ f (low_small (a.value + 2 ^ a.width - b.value) a.width) h
apply_fits Mul a b f g h = same_fits a b _ f (low_small (a.value * b.value) a.width) h
apply_fits And a b f g h = let le = and_le_l a.value b.value in let s = f.small in same_fits a b (bit_and a.value b.value) f (omega arith) h
apply_fits Or a b f g h = same_fits a b (bit_or a.value b.value) f (or_lt a.width a.value b.value f.small (rw (same_parts a.width b.width h).sides g.small)) h
apply_fits Xor a b f g h = same_fits a b (bit_xor a.value b.value) f (xor_lt a.width a.value b.value f.small (rw (same_parts a.width b.width h).sides g.small)) h
apply_fits ShiftLeft a b f g h = shift_fits a b _ f (if_small (nat_lt b.value a.width) (a.value * 2 ^ b.value % 2 ^ a.width) a.width (low_small (a.value * 2 ^ b.value) a.width)) h
apply_fits ShiftRight a b f g h =
    let le = shr_le a.value b.value in let s = f.small in
    let lt : a.value / 2 ^ b.value < 2 ^ a.width = omega arith in
    shift_fits a b _ f (if_small (nat_lt b.value a.width) (a.value / 2 ^ b.value) a.width lt) h
apply_fits Equal a b f g h = test_fits a b _ h
apply_fits NotEqual a b f g h = test_fits a b _ h
apply_fits Less a b f g h = test_fits a b _ h
apply_fits LessEqual a b f g h = test_fits a b _ h
apply_fits Greater a b f g h = test_fits a b _ h
apply_fits GreaterEqual a b f g h = test_fits a b _ h

pub apply_unary_fits : (p : UnaryOp) (a : Word) → Fits a → IsOfWidth (unary_width p a.width) (apply_unary p a)
apply_unary_fits Not a f = let s = pow_pos a.width in record { width = refl; fits = record { some = f.some; most = f.most; small = omega arith } }
apply_unary_fits ReduceOr a f = by_test (nat_lt 0 a.width) refl
  where
    by_test : (t : Bool) → nat_lt 0 a.width ≡ t → IsOfWidth (if t then 1 else 0) (apply_unary ReduceOr a)
    by_test true e = record { width = refl; fits = bit_fits _ }
    by_test false e = let s = f.some in absurd (grind (arith, nat_tests))

pub part_select_fit : (a : Word) (hi lo : ℕ) → Fits a → 0 < part_select_width a.width hi lo → IsOfWidth (part_select_width a.width hi lo) (part_select a hi lo)
part_select_fit a hi lo f h =
    let p = part_select_parts a.width hi lo h in
    let m = f.most in let o = p.order in let i = p.within in
    record { width = sym p.is; fits = record { some = omega arith; most = omega arith; small = low_small (a.value / 2 ^ lo) (hi + 1 - lo) } }

pub concatenated_fit : (a b : Word) → Fits a → Fits b → 0 < concatenation_width a.width b.width → IsOfWidth (concatenation_width a.width b.width) (concatenated a b)
concatenated_fit a b f g h =
    let p = concatenation_parts a.width b.width h in
    let m = p.left in
    record { width = sym p.is; fits = record { some = omega arith; most = p.most; small = concatenated_small a.value b.value a.width b.width f.small g.small } }

pub conditional_fits : (w : ℕ) (t : Bool) (a b : Word) → IsOfWidth w a → IsOfWidth w b → IsOfWidth w (if t then b else a)
conditional_fits w true a b f g = g
conditional_fits w false a b f g = f

-- ---- trees
module _ {N : Type 0} (s : Scope N) (v : Env N) (suits : Suits s v) where
  binary_fit : (op : Op) (x y : Word) (a b : ℕ) → IsOfWidth a x → IsOfWidth b y → 0 < op_width op a b → IsOfWidth (op_width op a b) (apply op x y)
  binary_fit op x y a b f g h =
      let at : ℕ → ℕ → Type 0 = λ m n. 0 < op_width op m n → IsOfWidth (op_width op m n) (apply op x y) in
      subst (λ m. at m b) f.width (subst (λ n. at x.width n) g.width (apply_fits op x y f.fits g.fits)) h

  unary_fit : (p : UnaryOp) (x : Word) (a : ℕ) → IsOfWidth a x → IsOfWidth (unary_width p a) (apply_unary p x)
  unary_fit p x a f = subst (λ m. IsOfWidth (unary_width p m) (apply_unary p x)) f.width (apply_unary_fits p x f.fits)

  select_fit : (x : Word) (a hi lo : ℕ) → IsOfWidth a x → 0 < part_select_width a hi lo → IsOfWidth (part_select_width a hi lo) (part_select x hi lo)
  select_fit x a hi lo f h = subst (λ m. 0 < part_select_width m hi lo → IsOfWidth (part_select_width m hi lo) (part_select x hi lo)) f.width (part_select_fit x hi lo f.fits) h

  concatenation_fit : (x y : Word) (a b : ℕ) → IsOfWidth a x → IsOfWidth b y → 0 < concatenation_width a b → IsOfWidth (concatenation_width a b) (concatenated x y)
  concatenation_fit x y a b f g h =
      let at : ℕ → ℕ → Type 0 = λ m n. 0 < concatenation_width m n → IsOfWidth (concatenation_width m n) (concatenated x y) in
      subst (λ m. at m b) f.width (subst (λ n. at x.width n) g.width (concatenated_fit x y f.fits g.fits)) h

  same_value : (x : Word) (a b : ℕ) → IsOfWidth a x → b ≡ a → IsOfWidth b x
  same_value x a b f e = record { width = f.width ∙ sym e; fits = f.fits }

  select_some : (a hi lo : ℕ) → 0 < part_select_width a hi lo → 0 < a
  select_some a hi lo h = let p = (part_select_parts a hi lo h).some in omega arith

  mutual
    pub value_fits : (e : Tree N) → 0 < width_of s e → IsOfWidth (width_of s e) (value v e)
    value_fits (TConst w) h = const_parts w h
    value_fits (TRead n) h = suits.net n h
    value_fits (TBit n i) h = select_fit (v.net n) (s.net n) i i (suits.net n (select_some (s.net n) i i h)) h
    value_fits (TPartSelect n hi lo) h = select_fit (v.net n) (s.net n) hi lo (suits.net n (select_some (s.net n) hi lo h)) h
    value_fits (TMemoryWord m i) h =
        let p = memory_word_parts (width_of s i) (s.index m) (s.memory_word m) h in
        let at = value_fits i p.some in
        let lt : (value v i).value < 2 ^ s.index m = subst (λ k. (value v i).value < 2 ^ k) (at.width ∙ p.at) at.fits.small in
        same_value _ _ _ (suits.memory_word m (value v i).value (subst (λ k. 0 < k) p.is h) lt) p.is
    value_fits (TUnary p a) h = unary_fit p (value v a) (width_of s a) (value_fits a (unary_parts p (width_of s a) h))
    value_fits (TBinary op a b) h =
        let p = op_parts op (width_of s a) (width_of s b) h in
        binary_fit op (value v a) (value v b) (width_of s a) (width_of s b) (value_fits a p.left) (value_fits b p.right) h
    value_fits (TConditional c a b) h =
        let p = conditional_parts (width_of s c) (width_of s a) (width_of s b) h in
        let some : 0 < width_of s a = subst (λ k. 0 < k) p.is h in
        let x = value_fits a some in
        let y = value_fits b (subst (λ k. 0 < k) p.sides some) in
        same_value _ _ _ (conditional_fits (width_of s a) ((value v c).value == 0) (value v a) (value v b) x (same_value _ _ _ y p.sides)) p.is
    value_fits (TConcatenation ps) h = parts_fit ps h

    pub parts_fit : (ps : Trees N) → 0 < parts_width s ps → IsOfWidth (parts_width s ps) (concatenated_parts v ps)
    parts_fit (TLast a) h = value_fits a h
    parts_fit (TMore a ps) h =
        let p = concatenation_parts (width_of s a) (parts_width s ps) h in
        concatenation_fit (value v a) (concatenated_parts v ps) (width_of s a) (parts_width s ps) (value_fits a p.left) (parts_fit ps p.right) h

  quotient_fits : (x : Word) (w n : ℕ) → IsOfWidth w x → n ≤ x.value → IsOfWidth w (word x.width n)
  quotient_fits x w n f le = let s = f.fits.small in record { width = f.width; fits = record { some = f.fits.some; most = f.fits.most; small = omega arith } }

  -- the right side of a wire, also where its divisor is zero
  pub right_fits : (r : RightTree N) → 0 < right_width s r → IsOfWidth (right_width s r) (right_value v r)
  right_fits (RPlain e) h = value_fits e h
  right_fits (RQuotient a b) h =
      let p = same_parts (s.net a) (s.net b) h in
      let x = suits.net a (subst (λ k. 0 < k) p.is h) in
      same_value _ _ _ (quotient_fits (v.net a) (s.net a) ((v.net a).value / (v.net b).value) x (div-le_self (v.net a).value (v.net b).value)) p.is
  right_fits (RRemainder a b) h =
      let p = same_parts (s.net a) (s.net b) h in
      let x = suits.net a (subst (λ k. 0 < k) p.is h) in
      same_value _ _ _ (quotient_fits (v.net a) (s.net a) ((v.net a).value % (v.net b).value) x (mod-le (v.net a).value (v.net b).value)) p.is
