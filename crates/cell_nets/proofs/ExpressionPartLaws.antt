-- Expressions over the nets of operands, from their parts.
use Rattle.std.specs.Prelude.{Contains, ◌==◌, if◌then◌else◌}
use Rattle.std.proofs.Common.{◌≡◌, ℕ, zero, suc, ◌+◌, ◌-◌, ◌*◌, ◌/◌, ◌%◌, ◌^◌, ◌<◌, ◌≤◌, max, Bool, true, false, ◌&&◌, ◌||◌, List, [], ◌∷◌, refl, sym, ◌∙◌, ap, subst, arith, inl, inr}
use Rattle.std.proofs.lemmas.Bool.{lt-ltb, le-leb, eq-eqb}
use Rattle.net_core.specs.declared.tree.Op.{Op}
use Rattle.net_core.specs.declared.tree.UnaryOp.TheVariants.{Not, ReduceOr}
use Rattle.net_core.specs.Nets.{Tree, TConst, TRead, TBit, TPartSelect, TUnary, TBinary, TConditional, TConcatenation, TMore, TLast}
use Rattle.net_core.specs.Value.{Env, word, apply, number_of}
use Rattle.net_core.specs.Width.{Scope, op_width, same_width, test_width, shift_width, part_select_width}
use Rattle.net_core.proofs.WidthLaws.{concatenation_is}
use Rattle.block_core.specs.design_rules.FormedSyntax.{is_prefixed, prefixes_apart, depth, tree_spelled}
use Rattle.net_core.specs.ProductRules.Products.{is_product}
use Rattle.block_core.proofs.ProductBlocks.FreeLaws.{flat_without}
use Rattle.block_core.proofs.ProductBlocks.CleanLaws.{flat_over}
use Rattle.cell_nets.specs.declared.operand.Operand.{Operand}
use Rattle.cell_nets.specs.declared.operand.Operand.TheVariants.{Net, Part}
use Rattle.cell_nets.specs.Operands.{HasWidth, IsFit, AreFit, IsDeclared, AreDeclared, HasNet, IsNetOf}
use Rattle.cell_nets.specs.Parts.{IsPart, IsSlice, ComputesBy, Computes}
use Rattle.cell_nets.proofs.WireLemmas.{reads_as}

-- the same value in other words
pub part_same : {N : Type 0} (ins : List (Operand N)) (d w : ℕ) (f g : Env N → ℕ) (t : Tree N) → ((v : Env N) → AreFit v ins → f v ≡ g v) → IsPart ins d w f t → IsPart ins d w g t
part_same ins d w f g t e p = record { typed = p.typed; value = λ v h. p.value v h ∙ ap (word w) (e v h); reads = p.reads; depth = p.depth; apart = p.apart; no_product = p.no_product }

pub slice_same : {N : Type 0} (ins : List (Operand N)) (d w : ℕ) (f g : Env N → ℕ) (t : Tree N) → ((v : Env N) → AreFit v ins → f v ≡ g v) → IsSlice ins d w f t → IsSlice ins d w g t
slice_same ins d w f g t e p = record { part = part_same ins d w f g t e p.part; bare = p.bare }

-- a looser bound on the depth, of the same tree in other words
pub part_of : {N : Type 0} (ins : List (Operand N)) (d e w : ℕ) (f : Env N → ℕ) (t u : Tree N) → d ≤ e → u ≡ t → IsPart ins d w f t → IsPart ins e w f u
part_of ins d e w f t u le same p =
    let P : Tree _ → Type 0 = λ x. IsPart ins e w f x in
    subst P (sym same) (record { typed = p.typed; value = p.value; reads = p.reads; depth = omega (arith, p.depth); apart = p.apart; no_product = p.no_product })

pub slice_of : {N : Type 0} (ins : List (Operand N)) (d e w : ℕ) (f : Env N → ℕ) (t u : Tree N) → d ≤ e → u ≡ t → IsSlice ins d w f t → IsSlice ins e w f u
slice_of ins d e w f t u le same p = record { part = part_of ins d e w f t u le same p.part; bare = ap is_prefixed same ∙ p.bare }

-- a number of a width
pub const_slice : {N : Type 0} (ins : List (Operand N)) (w n : ℕ) → w ≤ 64 → n < 2 ^ w → IsSlice ins 1 w (λ v. n) (TConst (word w n))
const_slice ins w n most small = record {
  part = record { typed = λ s h. rw (le-leb w 64 most, lt-ltb n (2 ^ w) small) refl; value = λ v h. refl; reads = tt; depth = omega arith; apart = refl; no_product = refl };
  bare = refl;
}

-- the whole of a net
pub read_slice : {N : Type 0} (ins : List (Operand N)) (n : N) (w : ℕ) → Contains ins (Net n w) → IsSlice ins 1 w (λ v. (v.net n).value) (TRead n)
read_slice ins n w c = record {
  part = record {
    typed = λ s h. h (Net n w) c;
    value = λ v h. let fit : HasWidth v n w = h (Net n w) c in ap (λ k. word k (v.net n).value) fit.width;
    reads = (w, inl c);
    depth = omega arith;
    apart = refl;
    no_product = refl;
  };
  bare = refl;
}

-- ---- an expression over one net, where operands have this
pub fit_net : {N : Type 0} (ins : List (Operand N)) (v : Env N) (n : N) (of : ℕ) → HasNet ins n of → AreFit v ins → HasWidth v n of
fit_net ins v n of (inl c) f = f (Net n of) c
fit_net ins v n of (inr (from, w, c)) f = f (Part n of from w) c

declared_net : {N : Type 0} (ins : List (Operand N)) (s : Scope N) (n : N) (of : ℕ) → HasNet ins n of → AreDeclared s ins → s.net n ≡ of
declared_net ins s n of (inl c) d = d (Net n of) c
declared_net ins s n of (inr (from, w, c)) d = d (Part n of from w) c

module _ {N : Type 0} (ins : List (Operand N)) (n : N) (of : ℕ) (has : HasNet ins n of) where
  alone_fit : (v : Env N) → AreFit v ins → AreFit v (Net n of ∷ [])
  alone_fit v f a (zero, lt, e) = subst (IsFit v) e (fit_net ins v n of has f)
  alone_fit v f a (suc k, lt, e) = absurd (omega arith)

  alone_declared : (s : Scope N) → AreDeclared s ins → AreDeclared s (Net n of ∷ [])
  alone_declared s d a (zero, lt, e) = subst (IsDeclared s) e (declared_net ins s n of has d)
  alone_declared s d a (suc k, lt, e) = absurd (omega arith)

  alone_net : (m : N) → IsNetOf (Net n of ∷ []) m → IsNetOf ins m
  alone_net m (w, inl (zero, lt, e)) = let same : n ≡ m = cc in (of, subst (λ x. HasNet ins x of) same has)
  alone_net m (w, inl (suc k, lt, e)) = absurd (omega arith)
  alone_net m (w, inr (from, u, (zero, lt, e))) = cc
  alone_net m (w, inr (from, u, (suc k, lt, e))) = absurd (omega arith)

  pub slice_over : (d w : ℕ) (f : Env N → ℕ) (t : Tree N) → IsSlice (Net n of ∷ []) d w f t → IsSlice ins d w f t
  slice_over d w f t p = record {
    part = record {
      typed = λ s h. p.part.typed s (alone_declared s h);
      value = λ v h. p.part.value v (alone_fit v h);
      reads = reads_as (IsNetOf (Net n of ∷ [])) (IsNetOf ins) alone_net t p.part.reads;
      depth = p.part.depth;
      apart = p.part.apart;
      no_product = p.part.no_product;
    };
    bare = p.bare;
  }

select_width : (w hi lo : ℕ) → 2 ≤ w → lo ≤ hi → hi < w → part_select_width w hi lo ≡ hi + 1 - lo
select_width w hi lo two order within = rw (le-leb 2 w two, le-leb lo hi order, lt-ltb hi w within) refl

-- some bits of a net
pub bits_slice : {N : Type 0} (ins : List (Operand N)) (n : N) (w hi lo : ℕ) → Contains ins (Net n w) → 2 ≤ w → lo ≤ hi → hi < w → IsSlice ins 1 (hi + 1 - lo) (λ v. (v.net n).value / 2 ^ lo % 2 ^ (hi + 1 - lo)) (TPartSelect n hi lo)
bits_slice ins n w hi lo c two order within = record {
  part = record {
    typed = λ s h. ap (λ k. part_select_width k hi lo) (h (Net n w) c) ∙ select_width w hi lo two order within;
    value = λ v h. refl;
    reads = (w, inl c);
    depth = omega arith;
    apart = refl;
    no_product = refl;
  };
  bare = refl;
}

pub bit_slice : {N : Type 0} (ins : List (Operand N)) (n : N) (w at : ℕ) → Contains ins (Net n w) → 2 ≤ w → at < w → IsSlice ins 1 (at + 1 - at) (λ v. (v.net n).value / 2 ^ at % 2 ^ (at + 1 - at)) (TBit n at)
bit_slice ins n w at c two within = record {
  part = record {
    typed = λ s h. ap (λ k. part_select_width k at at) (h (Net n w) c) ∙ select_width w at at two (omega arith) within;
    value = λ v h. refl;
    reads = (w, inl c);
    depth = omega arith;
    apart = refl;
    no_product = refl;
  };
  bare = refl;
}

both : (p q : Bool) → p ≡ true → q ≡ true → (p && q) ≡ true
both p q e f = rw (e, f) refl

neither : (p q : Bool) → p ≡ false → q ≡ false → (p || q) ≡ false
neither p q e f = rw (e, f) refl

-- one expression above another
pub beside_slice :
    {N : Type 0} (ins : List (Operand N)) (d e m n : ℕ) (f g : Env N → ℕ) (a b : Tree N) → 0 < m → 0 < n → m + n ≤ 64 → IsPart ins d m f a → IsPart ins e n g b
    → IsSlice ins (suc (max d e)) (m + n) (λ v. f v * 2 ^ n + g v) (TConcatenation (TMore a (TLast b)))
beside_slice ins d e m n f g a b some more most p q = record {
  part = record {
    typed = λ s h. rw (p.typed s h, q.typed s h) (concatenation_is m n some more most);
    value = λ v h. rw (p.value v h, q.value v h) refl;
    reads = (p.reads, q.reads);
    depth = omega (arith, p.depth, q.depth);
    apart = both _ _ p.apart q.apart;
    no_product = neither _ _ p.no_product q.no_product;
  };
  bare = refl;
}

-- an operation between two
pub binary_part :
    {N : Type 0} (ins : List (Operand N)) (d e m n w : ℕ) (f g : Env N → ℕ) (h : ℕ → ℕ → ℕ) (op : Op) (a b : Tree N) → op_width op m n ≡ w → ((x y : ℕ) → apply op (word m x) (word n y) ≡ word w (h x y))
    → is_product op ≡ false → IsPart ins d m f a → IsPart ins e n g b → IsPart ins (suc (max d e)) w (λ v. h (f v) (g v)) (TBinary op a b)
binary_part ins d e m n w f g h op a b width is plain p q = record {
  typed = λ s k. rw (p.typed s k, q.typed s k) width;
  value = λ v k. rw (p.value v k, q.value v k) (is (f v) (g v));
  reads = (p.reads, q.reads);
  depth = omega (arith, p.depth, q.depth);
  apart = both _ _ p.apart q.apart;
  no_product = neither _ _ plain (neither _ _ p.no_product q.no_product);
}

choice : (b : Bool) (w x y : ℕ) → (if b then word w y else word w x) ≡ word w (if b then y else x)
choice true w x y = refl
choice false w x y = refl

-- the first of two where a bit is 1, else the second
pub conditional_part :
    {N : Type 0} (ins : List (Operand N)) (c d e w : ℕ) (k f g : Env N → ℕ) (t a b : Tree N) → IsPart ins c 1 k t → IsPart ins d w f a → IsPart ins e w g b
    → IsPart ins (suc (max c (max d e))) w (λ v. if k v == 0 then g v else f v) (TConditional t a b)
conditional_part ins c d e w k f g t a b o p q = record {
  typed = λ s h. rw (o.typed s h, p.typed s h, q.typed s h, eq-eqb w w refl) refl;
  value = λ v h. rw (o.value v h, p.value v h, q.value v h) (choice (k v == 0) w (f v) (g v));
  reads = (o.reads, p.reads, q.reads);
  depth = omega (arith, o.depth, p.depth, q.depth);
  apart = both _ _ o.apart (both _ _ p.apart q.apart);
  no_product = neither _ _ o.no_product (neither _ _ p.no_product q.no_product);
}

-- each bit turned
pub not_part : {N : Type 0} (ins : List (Operand N)) (d w : ℕ) (f : Env N → ℕ) (a : Tree N) → IsSlice ins d w f a → IsPart ins (suc d) w (λ v. 2 ^ w - 1 - f v) (TUnary Not a)
not_part ins d w f a p = record {
  typed = p.part.typed;
  value = λ v h. rw (p.part.value v h) refl;
  reads = p.part.reads;
  depth = omega (arith, p.part.depth);
  apart = rw p.bare p.part.apart;
  no_product = p.part.no_product;
}

-- whether a bit is 1
pub any_part :
    {N : Type 0} (ins : List (Operand N)) (d w : ℕ) (f : Env N → ℕ) (a : Tree N) → 0 < w → IsSlice ins d w f a → IsPart ins (suc d) 1 (λ v. number_of (if f v == 0 then false else true)) (TUnary ReduceOr a)
any_part ins d w f a some p = record {
  typed = λ s h. rw (p.part.typed s h, lt-ltb 0 w some) refl;
  value = λ v h. rw (p.part.value v h) refl;
  reads = p.part.reads;
  depth = omega (arith, p.part.depth);
  apart = rw p.bare p.part.apart;
  no_product = p.part.no_product;
}

-- ---- what is right of a wire
spelled : {N : Type 0} (t : Tree N) → depth t ≤ 64 → prefixes_apart t ≡ true → tree_spelled t ≡ true
spelled t le apart = both _ _ (le-leb (depth t) 64 le) apart

pub part_computes : {N : Type 0} (ins : List (Operand N)) (d w : ℕ) (f : Env N → ℕ) (t : Tree N) → d ≤ 64 → IsPart ins d w f t → Computes ins w f t
part_computes ins d w f t le p = record { typed = p.typed; value = p.value; reads = p.reads; spelled = spelled t (omega (arith, p.depth)) p.apart; flat = λ made c. flat_without made t p.no_product; no_product = λ e. p.no_product }

-- an operation between two, which may be a product
pub binary_computes :
    {N : Type 0} (ins : List (Operand N)) (d e m n w : ℕ) (f g h : Env N → ℕ) (op : Op) (a b : Tree N) → d ≤ 63 → e ≤ 63 → op_width op m n ≡ w → ((v : Env N) → AreFit v ins → apply op (word m (f v)) (word n (g v)) ≡ word w (h v))
    → IsPart ins d m f a → IsPart ins e n g b → ComputesBy (is_product op) ins w h (TBinary op a b)
binary_computes ins d e m n w f g h op a b le ge width is p q = record {
  typed = λ s k. rw (p.typed s k, q.typed s k) width;
  value = λ v k. rw (p.value v k, q.value v k) (is v k);
  reads = (p.reads, q.reads);
  spelled = spelled (TBinary op a b) (omega (arith, p.depth, q.depth)) (both _ _ p.apart q.apart);
  flat = λ made c. flat_over made (IsNetOf ins) c op a b p.reads q.reads p.no_product q.no_product;
  no_product = λ e. neither _ _ e (neither _ _ p.no_product q.no_product);
}

-- the same tree in other words
pub computes_as : {N : Type 0} {b : Bool} (ins : List (Operand N)) (w : ℕ) (f : Env N → ℕ) (t u : Tree N) → u ≡ t → ComputesBy b ins w f t → ComputesBy b ins w f u
computes_as {b = b} ins w f t u same p = let P : Tree _ → Type 0 = λ x. ComputesBy b ins w f x in subst P (sym same) p

-- widths of operations on two sides of one width
pub same_is : (w : ℕ) → same_width w w ≡ w
same_is w = rw (eq-eqb w w refl) refl

pub test_is : (w : ℕ) → 0 < w → test_width w w ≡ 1
test_is w some = rw (lt-ltb 0 w some, eq-eqb w w refl) refl

pub shift_is : (m n : ℕ) → 0 < n → shift_width m n ≡ m
shift_is m n some = rw (lt-ltb 0 n some) refl
