-- Wires in order within their parts are in order in the design.
use Rattle.std.specs.Prelude.{◌≡◌, ℕ, suc, ◌+◌, ◌≤◌, List, [], ◌∷◌, ◌++◌, length}
use Rattle.std.proofs.Common.{sym, ap, arith, subst, inl, inr}
use Rattle.net_core.specs.Nets.{Tree, TConst, TRead, TBit, TPartSelect, TMemoryWord, TUnary, TBinary, TConditional, TConcatenation, Trees, TLast, TMore, RightTree, RPlain, RQuotient, RRemainder, WireTree}
use Rattle.block_core.specs.declared.name.Name.{Name}
use Rattle.block_core.specs.declared.name.Name.TheVariants as name
use Rattle.block_core.specs.Rename.{rename, rename_parts, rename_right}
use Rattle.block_core.specs.Blocks.{BlockWireTree, wires_of, Whole, IsPlaced, Among, start}
use Rattle.block_core.specs.Link.{resolve, link_wires, all_wires}
use Rattle.block_core.specs.Order.{Reads, AllRead, RightReads, IsBefore, InOrder, AllInOrder}
use Rattle.block_core.proofs.GatheredLaws.{Runs, runs}
use Rattle.block_core.proofs.Solved.{IsEarly, Ordered}

module _ {M N : Type 0} (f : M → N) (p : M → Type 0) (q : N → Type 0) (h : (n : M) → p n → q (f n)) where
  mutual
    pub reads_renamed : (e : Tree M) → Reads p e → Reads q (rename f e)
    reads_renamed (TConst w) r = tt
    reads_renamed (TRead n) r = h n r
    reads_renamed (TBit n i) r = h n r
    reads_renamed (TPartSelect n hi lo) r = h n r
    reads_renamed (TMemoryWord m i) r = (h m r.0, reads_renamed i r.1)
    reads_renamed (TUnary o a) r = reads_renamed a r
    reads_renamed (TBinary op a b) r = (reads_renamed a r.0, reads_renamed b r.1)
    reads_renamed (TConditional c a b) r = (reads_renamed c r.0, reads_renamed a r.1, reads_renamed b r.2)
    reads_renamed (TConcatenation ps) r = parts_renamed ps r

    parts_renamed : (e : Trees M) → AllRead p e → AllRead q (rename_parts f e)
    parts_renamed (TLast a) r = reads_renamed a r
    parts_renamed (TMore a ps) r = (reads_renamed a r.0, parts_renamed ps r.1)

  pub right_renamed : (e : RightTree M) → RightReads p e → RightReads q (rename_right f e)
  right_renamed (RPlain e) r = reads_renamed e r
  right_renamed (RQuotient a b) r = (h a r.0, h b r.1)
  right_renamed (RRemainder a b) r = (h a r.0, h b r.1)

-- earlier parts end where this one begins
abbrev pub Below : {P : Type 0} → Whole P → List P → ℕ → Type 0
Below {P = P} d before w = (q : P) → Among q before → start wires_of d q + wires_of (d.block q) ≤ w

pub below_next : {P : Type 0} (d : Whole P) (before : List P) (p : P) (w : ℕ) → Below d before w → start wires_of d p ≡ w → Below d (p ∷ before) (w + wires_of (d.block p))
below_next d before p w b e q (inl h) = rw h (omega arith)
below_next d before p w b e q (inr a) = let k = b q a in omega arith

early_name : {P : Type 0} (d : Whole P) (before : List P) (p : P) (at w : ℕ) → Below d before w → start wires_of d p ≡ w → (n : Name P) → IsBefore d before p at n → IsEarly (w + at) (resolve d n)
early_name d before p at w b e (name.Port i) h = tt
early_name d before p at w b e (name.Register q i) h = tt
early_name d before p at w b e (name.Memory q i) h = tt
early_name d before p at w b e (name.Wire q i) (inl h) = let k = ap (start wires_of d) h.0 in let l = h.1 in omega arith
early_name d before p at w b e (name.Wire q i) (inr h) = let k = b q h.0 in let l = h.1 in omega arith

one_part : {P : Type 0} (d : Whole P) (before : List P) (p : P) (at w : ℕ) (ws : List (BlockWireTree (Name P))) (rest : List WireTree) → Below d before w → start wires_of d p ≡ w
    → InOrder d before p at ws → Ordered (w + at + length ws) rest → Ordered (w + at) (link_wires (resolve d) ws ++ rest)
one_part d before p at w [] rest b e h o = let k : w + at + 0 ≡ w + at = omega arith in rw k at o
one_part d before p at w (x ∷ ws) rest b e h o =
    let k : w + suc at ≡ suc (w + at) = omega arith in
    let l : w + at + suc (length ws) ≡ w + suc at + length ws = omega arith in (
      right_renamed (resolve d) (IsBefore d before p at) (IsEarly (w + at)) (early_name d before p at w b e) x.right h.0,
      subst (λ n. Ordered n (link_wires (resolve d) ws ++ rest)) k (one_part d before p (suc at) w ws rest b e h.1 (subst (λ n. Ordered n rest) l o)),
    )

ordered_parts : {P : Type 0} (d : Whole P) (before : List P) (w : ℕ) (ps : List P) → Runs (λ p. wires_of (d.block p)) (start wires_of d) w ps → Below d before w → AllInOrder d before ps → Ordered w (all_wires d ps)
ordered_parts d before w [] l b h = tt
ordered_parts d before w (p ∷ ps) l b h =
    let z : w + 0 ≡ w = omega arith in
    let k : w + 0 + wires_of (d.block p) ≡ w + wires_of (d.block p) = omega arith in
    subst (λ n. Ordered n (all_wires d (p ∷ ps))) z
    (one_part d before p 0 w (d.block p).wires (all_wires d ps) b l.0 h.0
    (subst (λ n. Ordered n (all_wires d ps)) (sym k) (ordered_parts d (p ∷ before) (w + wires_of (d.block p)) ps l.1 (below_next d before p w b l.0) h.1)))

pub ordered : {P : Type 0} (d : Whole P) → IsPlaced d → AllInOrder d [] d.parts → Ordered 0 (all_wires d d.parts)
ordered d l h = ordered_parts d [] 0 d.parts (runs wires_of d l) (λ q a. absurd a) h
