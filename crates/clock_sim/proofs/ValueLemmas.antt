-- What the steps of a tree give is its value.
use Rattle.std.proofs.Common.{◌≡◌, ℕ, ◌+◌, ◌<◌, ◌≤◌, ◌/◌, ◌%◌, length, get_or, sym, ap, ◌∙◌, subst, arith}
use Rattle.std.proofs.Math.Path.{fun_ext}
use Rattle.std.proofs.Math.Nat.{div-le_self, mod-le}
use Rattle.net_core.specs.declared.tree.Word.{Word}
use Rattle.net_core.specs.declared.tree.Net.{Net}
use Rattle.net_core.specs.declared.tree.Op.{Op}
use Rattle.net_core.specs.declared.tree.UnaryOp.{UnaryOp}
use Rattle.net_core.specs.Nets.{Tree, TConst, TBit, TPartSelect, TMemoryWord, TUnary, TBinary, TConditional, TConcatenation, Trees, TLast, TMore, RPlain, RQuotient, RRemainder}
use Rattle.net_core.specs.Value.{apply, apply_unary, part_select, concatenated, conditional, word, value, concatenated_parts, right_value}
use Rattle.net_core.specs.Width.{const_width, same_width, part_select_width, concatenation_width, width_of, parts_width}
use Rattle.net_core.specs.Suits.{IsOfWidth}
use Rattle.net_core.proofs.WidthLaws.{const_parts, part_select_parts, same_parts, concatenation_parts, concatenation_is}
use Rattle.net_core.proofs.PartLaws.{concatenated_assoc}
use Rattle.clock_sim.specs.declared.step.Opcode.TheVariants.{Quotient, Remainder}
use Rattle.clock_sim.specs.declared.builder.Operand.{Operand}
use Rattle.clock_sim.specs.Steps.{worked, run}
use Rattle.clock_sim.specs.declared.operands.Operands.{Operands}
use Rattle.clock_sim.specs.Flat.{Flat, Situation, contents_of, Gives, Works, Holds, Extends, Adds, MakesOne, MakesTwo, MakesThree, Fetches, Values, PartValues, Joins, RightValues, AreOperands, scope_of, operand_in, env_at}
use Rattle.clock_sim.proofs.BuilderLemmas.{extends_more, gives_later, knows_later, operands_later}

pub const_values : (old new : Flat) (n : Operands) (w : Word) (p : Operand) → Holds new p.slot w.value → p.width ≡ w.width → 0 < const_width w → Values old new n (TConst w) p
const_values old new n w p h width typed = record { gives = λ ds wires k. record { number = h.gives ds; fits = λ x fine. record { width = sym width; fits = (const_parts w typed).fits } } }

pub select_some : (w hi lo : ℕ) → 0 < part_select_width w hi lo → 0 < w
select_some w hi lo h = let p = (part_select_parts w hi lo h).some in omega arith

module _ (old new : Flat) (n : Operands) (k : Net) (q p : Operand) (is : q ≡ operand_in n k) where
  pub bit_values : (i : ℕ) → 0 < part_select_width (operand_in n k).width i i → MakesOne old new q p (λ w. part_select w i i) → Values old new n (TBit k i) p
  bit_values i typed made = record { gives = λ ds wires h. (subst (λ r. MakesOne old new r p (λ w. part_select w i i)) is made).gives ds (λ x. (env_at wires x).net k) (h.net k (select_some (operand_in n k).width i i typed)) }

  pub part_select_values : (hi lo : ℕ) → 0 < part_select_width (operand_in n k).width hi lo → MakesOne old new q p (λ w. part_select w hi lo) → Values old new n (TPartSelect k hi lo) p
  part_select_values hi lo typed made = record { gives = λ ds wires h. (subst (λ r. MakesOne old new r p (λ w. part_select w hi lo)) is made).gives ds (λ x. (env_at wires x).net k) (h.net k (select_some (operand_in n k).width hi lo typed)) }

module _ (old one new : Flat) (n : Operands) (a : Tree Net) (q p : Operand) (first : Values old one n a q) where
  pub unary_values : (o : UnaryOp) → MakesOne one new q p (apply_unary o) → Values old new n (TUnary o a) p
  unary_values o made = record { gives = λ ds wires h. made.gives ds (λ x. value (env_at wires x) a) (first.gives ds wires h) }

  pub memory_word_values : (m : Net) → Fetches one new n m q p → Values old new n (TMemoryWord m a) p
  memory_word_values m made = record { gives = λ ds wires h. made.gives ds (λ x. value (env_at wires x) a) h.cells (first.gives ds wires h) }

module _ (old one both new : Flat) (n : Operands) (a : Tree Net) (q r p : Operand) (e : Extends old one) (f : Extends one both) (first : Values old one n a q) where
  pub binary_values : (op : Op) (b : Tree Net) → Values one both n b r → MakesTwo both new q r p (apply op) → Values old new n (TBinary op a b) p
  binary_values op b second made = record {
    gives = λ ds wires h.
        made.gives ds (λ x. value (env_at wires x) a) (λ x. value (env_at wires x) b)
        (gives_later ds one both q (λ x. value (env_at wires x) a) f (first.gives ds wires h))
        (second.gives ds wires (knows_later ds old one n wires e h));
  }

pub conditional_values :
    (old one two three new : Flat) (n : Operands) (c a b : Tree Net) (q r s p : Operand) → Extends old one → Extends one two → Extends two three
    → Values old one n c q → Values one two n a r → Values two three n b s → MakesThree three new q r s p conditional → Values old new n (TConditional c a b) p
conditional_values old one two three new n c a b q r s p e f g first second third made = record {
  gives = λ ds wires h.
      let k = knows_later ds old one n wires e h in
      made.gives ds (λ x. value (env_at wires x) c) (λ x. value (env_at wires x) a) (λ x. value (env_at wires x) b)
      (gives_later ds two three q (λ x. value (env_at wires x) c) g (gives_later ds one two q (λ x. value (env_at wires x) c) f (first.gives ds wires h)))
      (gives_later ds two three r (λ x. value (env_at wires x) a) g (second.gives ds wires k))
      (third.gives ds wires (knows_later ds one two n wires f k));
}

pub concatenation_values : (old new : Flat) (n : Operands) (ps : Trees Net) (p : Operand) → PartValues old new n ps p → Values old new n (TConcatenation ps) p
concatenation_values old new n ps p h = record { gives = h.gives }

-- ---- parts, one after another
pub more_values : (old one new : Flat) (n : Operands) (a : Tree Net) (ps : Trees Net) (q p : Operand) → Extends old one → Values old one n a q → Joins one new n q ps p → PartValues old new n (TMore a ps) p
more_values old one new n a ps q p e first joins = record { gives = λ ds wires h. joins.gives ds wires (λ x. value (env_at wires x) a) (knows_later ds old one n wires e h) (first.gives ds wires h) }

pub last_joins : (old one new : Flat) (n : Operands) (front : Operand) (a : Tree Net) (q p : Operand) → Extends old one → Values old one n a q → MakesTwo one new front q p concatenated → Joins old new n front (TLast a) p
last_joins old one new n front a q p e last made = record {
  gives = λ ds wires u h g. made.gives ds u (λ x. value (env_at wires x) a) (gives_later ds old one front u e g) (last.gives ds wires h);
}

-- a word before others can be put before the first of them
record Regroups (a b c : ℕ) : Type 0 where
  some : 0 < concatenation_width a b
  is : concatenation_width (concatenation_width a b) c ≡ concatenation_width a (concatenation_width b c)

regroups : (a b c : ℕ) → 0 < concatenation_width a (concatenation_width b c) → Regroups a b c
regroups a b c h =
    let p = concatenation_parts a (concatenation_width b c) h in
    let q = concatenation_parts b c p.right in
    let pl = p.left in let pm = p.most in let ql = q.left in let qr = q.right in let qi = q.is in
    let most : a + b ≤ 64 = omega arith in
    let first : concatenation_width a b ≡ a + b = concatenation_is a b p.left q.left most in
    let front : 0 < concatenation_width a b = omega arith in
    let all : concatenation_width a b + c ≤ 64 = omega arith in
    let left : concatenation_width (concatenation_width a b) c ≡ concatenation_width a b + c = concatenation_is (concatenation_width a b) c front q.right all in
    let right : concatenation_width a (concatenation_width b c) ≡ a + concatenation_width b c = p.is in
    record { some = front; is = omega arith }

-- what joins the parts that are left joins all of them
pub record Joining (n : Operands) (first : Operand) (all left : Trees Net) (old now : Flat) (front : Operand) : Type 0 where
  pub typed : 0 < concatenation_width front.width (parts_width (scope_of n) left)
  pub width : concatenation_width front.width (parts_width (scope_of n) left) ≡ concatenation_width first.width (parts_width (scope_of n) all)
  pub extends : Extends old now
  pub there : front.slot < length now.slots
  pub operands : AreOperands n (length now.slots)
  pub joins : (last : Flat) (p : Operand) → Joins now last n front left p → Joins old last n first all p

-- the next word fits after the front
pub joining_next : (n : Operands) (first : Operand) (all left rest : Trees Net) (a : Tree Net) (old now : Flat) (front : Operand) → left ≡ TMore a rest → Joining n first all left old now front → 0 < concatenation_width front.width (width_of (scope_of n) a)
joining_next n first all left rest a old now front e h0 =
    let h = subst (λ l. Joining n first all l old now front) e h0 in
    (regroups front.width (width_of (scope_of n) a) (parts_width (scope_of n) rest) h.typed).some

pub joining_more :
    (n : Operands) (first : Operand) (all left rest : Trees Net) (a : Tree Net) (old now one new : Flat) (front q front' : Operand)
    → left ≡ TMore a rest → Adds now one q.slot → q.width ≡ width_of (scope_of n) a → Values now one n a q
    → Adds one new front'.slot → front'.width ≡ concatenation_width front.width q.width → MakesTwo one new front q front' concatenated
    → Joining n first all left old now front → Joining n first all rest old new front'
joining_more n first all left rest a old now one new front q front' e next width values more width' made h0 =
    let h = subst (λ l. Joining n first all l old now front) e h0 in
    let g = regroups front.width (width_of (scope_of n) a) (parts_width (scope_of n) rest) h.typed in
    let is : concatenation_width front'.width (parts_width (scope_of n) rest) ≡ concatenation_width front.width (parts_width (scope_of n) (TMore a rest)) =
    ap (λ w. concatenation_width w (parts_width (scope_of n) rest)) (width' ∙ ap (λ w. concatenation_width front.width w) width) ∙ g.is in
    let ext = extends_more now one new next.extends more.extends in
    record {
      typed = subst (λ w. 0 < w) (sym is) h.typed;
      width = is ∙ h.width;
      extends = extends_more old now new h.extends ext;
      there = more.there;
      operands = operands_later n now new ext h.operands;
      joins = λ last p joins. h.joins last p (record {
        gives = λ ds wires u k w.
            let f = λ (x : Situation). value (env_at wires x) a in
            subst (λ v. Gives ds last p v) (fun_ext (λ x. concatenated_assoc (u x) (f x) (concatenated_parts (env_at wires x) rest)))
            (joins.gives ds wires (λ x. concatenated (u x) (f x)) (knows_later ds now new n wires ext k) (made.gives ds u f (gives_later ds now one front u next.extends w) (values.gives ds wires k)));
      });
    }

pub last_values : (old new : Flat) (n : Operands) (a : Tree Net) (p : Operand) → Values old new n a p → PartValues old new n (TLast a) p
last_values old new n a p h = record { gives = h.gives }

pub plain_values : (old new : Flat) (n : Operands) (a : Tree Net) (p : Operand) → Values old new n a p → RightValues old new n (RPlain a) p
plain_values old new n a p h = record { gives = h.gives }

part_fits : (w : ℕ) (x : Word) (n : ℕ) → IsOfWidth w x → n ≤ x.value → IsOfWidth w (word x.width n)
part_fits w x n f le = let s = f.fits.small in record { width = f.width; fits = record { some = f.fits.some; most = f.fits.most; small = omega arith } }

module _ (old new : Flat) (n : Operands) (a b : Net) (q r p : Operand) (left : q ≡ operand_in n a) (right : r ≡ operand_in n b) (typed : 0 < same_width (operand_in n a).width (operand_in n b).width) (width : p.width ≡ q.width) where
  left_some : 0 < (operand_in n a).width
  left_some = subst (λ k. 0 < k) (same_parts (operand_in n a).width (operand_in n b).width typed).is typed

  right_some : 0 < (operand_in n b).width
  right_some = subst (λ k. 0 < k) (same_parts (operand_in n a).width (operand_in n b).width typed).sides left_some

  pub quotient_values : (i : ℕ) → Works Quotient q.slot r.slot 0 i old new p.slot → RightValues old new n (RQuotient a b) p
  quotient_values i made = record {
    gives = λ ds wires h.
        let u = h.net a left_some in let v = h.net b right_some in
        record {
          number = made.gives ds (λ x. (right_value (env_at wires x) (RQuotient a b)).value) (λ x slots fine starts.
              let after = run (contents_of x.stored) old.steps slots in
              ap (λ s. worked Quotient (contents_of x.stored) after i 0 (get_or after s.slot 0) (get_or after r.slot 0)) left
              ∙ ap (λ s. worked Quotient (contents_of x.stored) after i 0 (get_or after (operand_in n a).slot 0) (get_or after s.slot 0)) right
              ∙ ap (λ k. worked Quotient (contents_of x.stored) after i 0 k (get_or after (operand_in n b).slot 0)) (u.number.at x slots fine starts)
              ∙ ap (λ k. worked Quotient (contents_of x.stored) after i 0 ((env_at wires x).net a).value k) (v.number.at x slots fine starts));
          fits = λ x fine. subst (λ k. IsOfWidth k (right_value (env_at wires x) (RQuotient a b))) (sym (width ∙ ap (λ (s : Operand). s.width) left)) (part_fits (operand_in n a).width ((env_at wires x).net a) (((env_at wires x).net a).value / ((env_at wires x).net b).value) (u.fits x fine) (div-le_self ((env_at wires x).net a).value ((env_at wires x).net b).value));
        };
  }

  pub remainder_values : (i : ℕ) → Works Remainder q.slot r.slot 0 i old new p.slot → RightValues old new n (RRemainder a b) p
  remainder_values i made = record {
    gives = λ ds wires h.
        let u = h.net a left_some in let v = h.net b right_some in
        record {
          number = made.gives ds (λ x. (right_value (env_at wires x) (RRemainder a b)).value) (λ x slots fine starts.
              let after = run (contents_of x.stored) old.steps slots in
              ap (λ s. worked Remainder (contents_of x.stored) after i 0 (get_or after s.slot 0) (get_or after r.slot 0)) left
              ∙ ap (λ s. worked Remainder (contents_of x.stored) after i 0 (get_or after (operand_in n a).slot 0) (get_or after s.slot 0)) right
              ∙ ap (λ k. worked Remainder (contents_of x.stored) after i 0 k (get_or after (operand_in n b).slot 0)) (u.number.at x slots fine starts)
              ∙ ap (λ k. worked Remainder (contents_of x.stored) after i 0 ((env_at wires x).net a).value k) (v.number.at x slots fine starts));
          fits = λ x fine. subst (λ k. IsOfWidth k (right_value (env_at wires x) (RRemainder a b))) (sym (width ∙ ap (λ (s : Operand). s.width) left)) (part_fits (operand_in n a).width ((env_at wires x).net a) (((env_at wires x).net a).value % ((env_at wires x).net b).value) (u.fits x fine) (mod-le ((env_at wires x).net a).value ((env_at wires x).net b).value));
        };
  }
