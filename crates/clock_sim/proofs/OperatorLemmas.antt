-- What the steps of one operator make.
use Rattle.std.specs.Prelude.{if◌then◌else◌, ◌==◌}
use Rattle.std.proofs.Common.{◌≡◌, ℕ, ◌+◌, ◌-◌, ◌^◌, ◌<◌, ◌≤◌, Bool, true, false, List, [], get_or, sym, ap, ◌∙◌, subst}
use Rattle.net_core.specs.declared.tree.Word.{Word}
use Rattle.net_core.specs.declared.tree.Net.TheVariants.{Memory}
use Rattle.net_core.specs.declared.tree.Op.{Op}
use Rattle.net_core.specs.declared.tree.UnaryOp.TheVariants.{Not, ReduceOr}
use Rattle.net_core.specs.Value.{apply, apply_unary, part_select, concatenated, conditional}
use Rattle.net_core.specs.Width.{op_width, unary_width, part_select_width, concatenation_width, conditional_width, memory_word_width}
use Rattle.net_core.specs.Clock.{memory_word_value}
use Rattle.net_core.specs.Suits.{IsOfWidth}
use Rattle.net_core.proofs.WidthLaws.{apply_fits, apply_unary_fits, part_select_fit, concatenated_fit, conditional_parts, memory_word_parts}
use Rattle.clock_sim.specs.declared.step.Opcode.{Opcode}
use Rattle.clock_sim.specs.declared.step.Opcode.TheVariants as opcode
use Rattle.clock_sim.specs.declared.builder.Operand.{Operand}
use Rattle.clock_sim.specs.declared.operands.Operands.{Operands}
use Rattle.clock_sim.specs.Steps.{worked, run, opcode_of, op_swaps}
use Rattle.clock_sim.specs.Flat.{Flat, contents_of, Works, MakesOne, MakesTwo, MakesThree, Fetches, widths_in}
use Rattle.clock_sim.proofs.StepLemmas.{op_works, part_select_works, concatenation_works, conditional_works, fetch_works}

-- at the widths of words, and back
at_word : (P : ℕ → Type 0) (a : ℕ) (x : Word) → IsOfWidth a x → P a → P x.width
at_word P a x f p = subst P (sym f.width) p

at_words : (P : ℕ → ℕ → Type 0) (a b : ℕ) (x y : Word) → IsOfWidth a x → IsOfWidth b y → P a b → P x.width y.width
at_words P a b x y f g p = at_word (λ m. P m y.width) a x f (at_word (λ n. P a n) b y g p)

from_words : (P : ℕ → ℕ → Type 0) (a b : ℕ) (x y : Word) → IsOfWidth a x → IsOfWidth b y → P x.width y.width → P a b
from_words P a b x y f g p = subst (λ m. P m b) f.width (subst (λ n. P x.width n) g.width p)

pub not_makes : (old new : Flat) (a p : Operand) (n y : ℕ) → Works opcode.Complement a.slot y 0 n old new p.slot → (a.width ≤ 64 → n ≡ 2 ^ a.width - 1) → p.width ≡ a.width → MakesOne old new a p (apply_unary Not)
not_makes old new a p n y w mask width = record {
  gives = λ ds u g. record {
    number = w.gives ds (λ x. (apply_unary Not (u x)).value) (λ x slots fine starts.
        let f = g.fits x fine in
        let most : a.width ≤ 64 = subst (λ k. k ≤ 64) f.width f.fits.most in
        let is : n ≡ 2 ^ (u x).width - 1 = mask most ∙ ap (λ k. 2 ^ k - 1) (sym f.width) in
        ap (λ k. n - k) (g.number.at x slots fine starts) ∙ ap (λ k. k - (u x).value) is);
    fits = λ x fine.
        let f = g.fits x fine in
        let o = apply_unary_fits Not (u x) f.fits in
        record { width = o.width ∙ f.width ∙ sym width; fits = o.fits };
  };
}

pub reduce_or_makes : (old new : Flat) (a p : Operand) (n y : ℕ) → Works opcode.ReduceOr a.slot y 0 n old new p.slot → p.width ≡ unary_width ReduceOr a.width → MakesOne old new a p (apply_unary ReduceOr)
reduce_or_makes old new a p n y w width = record {
  gives = λ ds u g. record {
    number = w.gives ds (λ x. (apply_unary ReduceOr (u x)).value) (λ x slots fine starts. ap (λ k. worked opcode.ReduceOr (contents_of x.stored) slots n 0 k 0) (g.number.at x slots fine starts));
    fits = λ x fine.
        let f = g.fits x fine in
        let o = apply_unary_fits ReduceOr (u x) f.fits in
        record { width = o.width ∙ ap (unary_width ReduceOr) f.width ∙ sym width; fits = o.fits };
  };
}

turned : (t : Bool) (slots : List ℕ) (a b x y : ℕ) → get_or slots a 0 ≡ x → get_or slots b 0 ≡ y → get_or slots (if t then b else a) 0 ≡ (if t then y else x)
turned true slots a b x y e f = f
turned false slots a b x y e f = e

pub binary_makes :
    (op : Op) (old new : Flat) (a b p : Operand) (w : Opcode) (i j n : ℕ) → Works w i j 0 n old new p.slot → w ≡ opcode_of op → i ≡ (if op_swaps op then b.slot else a.slot) → j ≡ (if op_swaps op then a.slot else b.slot)
    → (a.width ≤ 64 → n ≡ 2 ^ a.width - 1) → 0 < op_width op a.width b.width → p.width ≡ op_width op a.width b.width → MakesTwo old new a b p (apply op)
binary_makes op old new a b p w i j n made is first second mask typed width = record {
  gives = λ ds u v g h. record {
    number = made.gives ds (λ x. (apply op (u x) (v x)).value) (λ x slots fine starts.
        let f = g.fits x fine in let f' = h.fits x fine in
        let most : a.width ≤ 64 = subst (λ k. k ≤ 64) f.width f.fits.most in
        let m : n ≡ 2 ^ (u x).width - 1 = mask most ∙ ap (λ k. 2 ^ k - 1) (sym f.width) in
        let after = run (contents_of x.stored) old.steps slots in
        let l = ap (λ k. get_or after k 0) first ∙ turned (op_swaps op) after a.slot b.slot (u x).value (v x).value (g.number.at x slots fine starts) (h.number.at x slots fine starts) in
        let r = ap (λ k. get_or after k 0) second ∙ turned (op_swaps op) after b.slot a.slot (v x).value (u x).value (h.number.at x slots fine starts) (g.number.at x slots fine starts) in
        ap (λ k. worked k (contents_of x.stored) after n 0 (get_or after i 0) (get_or after j 0)) is
        ∙ ap (λ k. worked (opcode_of op) (contents_of x.stored) after n 0 k (get_or after j 0)) l
        ∙ ap (λ k. worked (opcode_of op) (contents_of x.stored) after n 0 (if op_swaps op then (v x).value else (u x).value) k) r
        ∙ op_works (contents_of x.stored) after (u x) (v x) n f.fits f'.fits m op (at_words (λ k l. 0 < op_width op k l) a.width b.width (u x) (v x) f f' typed));
    fits = λ x fine.
        let f = g.fits x fine in let f' = h.fits x fine in
        subst (λ k. IsOfWidth k (apply op (u x) (v x))) (sym width)
        (from_words (λ k l. 0 < op_width op k l → IsOfWidth (op_width op k l) (apply op (u x) (v x))) a.width b.width (u x) (v x) f f' (apply_fits op (u x) (v x) f.fits f'.fits) typed);
  };
}

pub part_select_makes :
    (old new : Flat) (a p : Operand) (hi lo n y : ℕ) → Works opcode.PartSelect a.slot y lo n old new p.slot → (p.width ≤ 64 → n ≡ 2 ^ p.width - 1) → 0 < part_select_width a.width hi lo → p.width ≡ part_select_width a.width hi lo
    → hi + 1 - lo ≡ part_select_width a.width hi lo → MakesOne old new a p (λ w. part_select w hi lo)
part_select_makes old new a p hi lo n y made mask typed width is = record {
  gives = λ ds u g. record {
    number = made.gives ds (λ x. (part_select (u x) hi lo).value) (λ x slots fine starts.
        let f = g.fits x fine in
        let some = at_word (λ k. 0 < part_select_width k hi lo) a.width (u x) f typed in
        let o = part_select_fit (u x) hi lo f.fits some in
        let same : hi + 1 - lo ≡ p.width = is ∙ sym width in
        let most : p.width ≤ 64 = subst (λ k. k ≤ 64) same o.fits.most in
        let m : n ≡ 2 ^ (hi + 1 - lo) - 1 = mask most ∙ ap (λ k. 2 ^ k - 1) (sym same) in
        let after = run (contents_of x.stored) old.steps slots in
        ap (λ k. worked opcode.PartSelect (contents_of x.stored) after n lo k (get_or after y 0)) (g.number.at x slots fine starts)
        ∙ part_select_works (contents_of x.stored) after (u x) hi lo n (get_or after y 0) f.fits some m);
    fits = λ x fine.
        let f = g.fits x fine in
        let o = part_select_fit (u x) hi lo f.fits (at_word (λ k. 0 < part_select_width k hi lo) a.width (u x) f typed) in
        record { width = is ∙ sym width; fits = o.fits };
  };
}

pub concatenation_makes :
    (old new : Flat) (a b p : Operand) (n : ℕ) → Works opcode.Concatenation a.slot b.slot b.width n old new p.slot → 0 < concatenation_width a.width b.width → p.width ≡ concatenation_width a.width b.width → MakesTwo old new a b p concatenated
concatenation_makes old new a b p n made typed width = record {
  gives = λ ds u v g h. record {
    number = made.gives ds (λ x. (concatenated (u x) (v x)).value) (λ x slots fine starts.
        let f = g.fits x fine in let f' = h.fits x fine in
        let after = run (contents_of x.stored) old.steps slots in
        ap (λ k. worked opcode.Concatenation (contents_of x.stored) after n k (get_or after a.slot 0) (get_or after b.slot 0)) (sym f'.width)
        ∙ ap (λ k. worked opcode.Concatenation (contents_of x.stored) after n (v x).width k (get_or after b.slot 0)) (g.number.at x slots fine starts)
        ∙ ap (λ k. worked opcode.Concatenation (contents_of x.stored) after n (v x).width (u x).value k) (h.number.at x slots fine starts)
        ∙ concatenation_works (contents_of x.stored) after (u x) (v x) n f.fits f'.fits (at_words (λ k l. 0 < concatenation_width k l) a.width b.width (u x) (v x) f f' typed));
    fits = λ x fine.
        let f = g.fits x fine in let f' = h.fits x fine in
        subst (λ k. IsOfWidth k (concatenated (u x) (v x))) (sym width)
        (from_words (λ k l. 0 < concatenation_width k l → IsOfWidth (concatenation_width k l) (concatenated (u x) (v x))) a.width b.width (u x) (v x) f f' (concatenated_fit (u x) (v x) f.fits f'.fits) typed);
  };
}

either_fits : (w : ℕ) (t : Bool) (x y : Word) → IsOfWidth w x → IsOfWidth w y → IsOfWidth w (if t then y else x)
either_fits w true x y f g = g
either_fits w false x y f g = f

pub conditional_makes :
    (old new : Flat) (t a b p : Operand) (n : ℕ) → n ≡ b.slot → Works opcode.Conditional t.slot a.slot 0 n old new p.slot → 0 < conditional_width t.width a.width b.width → p.width ≡ conditional_width t.width a.width b.width → MakesThree old new t a b p conditional
conditional_makes old new t a b p n is made typed width =
    let c = conditional_parts t.width a.width b.width typed in
    let same : p.width ≡ a.width = width ∙ c.is in
    record {
      gives = λ ds u v w g h k. record {
        number = made.gives ds (λ x. (conditional (u x) (v x) (w x)).value) (λ x slots fine starts.
            let after = run (contents_of x.stored) old.steps slots in
            ap (λ m. worked opcode.Conditional (contents_of x.stored) after n 0 m (get_or after a.slot 0)) (g.number.at x slots fine starts)
            ∙ ap (λ m. worked opcode.Conditional (contents_of x.stored) after n 0 (u x).value m) (h.number.at x slots fine starts)
            ∙ conditional_works (contents_of x.stored) after (u x) (v x) (w x) n 0 (ap (λ j. get_or after j 0) is ∙ k.number.at x slots fine starts));
        fits = λ x fine.
            let f = h.fits x fine in let f' = k.fits x fine in
            either_fits p.width ((u x).value == 0) (v x) (w x) (record { width = f.width ∙ sym same; fits = f.fits }) (record { width = f'.width ∙ sym c.sides ∙ sym same; fits = f'.fits });
      };
    }

pub fetch_makes :
    (old new : Flat) (n : Operands) (i j : ℕ) (at p : Operand) (y : ℕ) → j ≡ i → Works opcode.Fetch at.slot y 0 j old new p.slot → 0 < memory_word_width at.width (widths_in n (Memory i)).index (widths_in n (Memory i)).word → p.width ≡ (widths_in n (Memory i)).word → Fetches old new n (Memory i) at p
fetch_makes old new n i j at p y is made typed width =
    let c = memory_word_parts at.width (widths_in n (Memory i)).index (widths_in n (Memory i)).word typed in
    record {
      gives = λ ds u cells g. record {
        number = made.gives ds (λ x. (memory_word_value x.stored (Memory i) (u x).value).value) (λ x slots fine starts.
            let after = run (contents_of x.stored) old.steps slots in
            ap (λ k. worked opcode.Fetch (contents_of x.stored) after j 0 k (get_or after y 0)) (g.number.at x slots fine starts)
            ∙ ap (λ k. get_or (get_or (contents_of x.stored) k []) (u x).value 0) is
            ∙ fetch_works x.stored.memories i (u x).value);
        fits = λ x fine.
            let f = g.fits x fine in
            let lt : (u x).value < 2 ^ (widths_in n (Memory i)).index = subst (λ k. (u x).value < 2 ^ k) (f.width ∙ c.at) f.fits.small in
            subst (λ k. IsOfWidth k (memory_word_value x.stored (Memory i) (u x).value)) (sym width) (cells.fit (Memory i) (u x).value x fine (subst (λ k. 0 < k) c.is typed) lt);
      };
    }
