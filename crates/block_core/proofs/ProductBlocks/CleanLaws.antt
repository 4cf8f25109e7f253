-- Trees without products that read clean nets alone, those that no product makes, may be operands of products; and marks of wires after others.
use Rattle.std.specs.Prelude.{◌≡◌, cond, Bool, true, false, List, [], ◌∷◌, ◌++◌}
use Rattle.std.proofs.Common.{refl, not}
use Rattle.std.proofs.lemmas.Bool.{and_from}
use Rattle.net_core.specs.declared.tree.Op.{Op}
use Rattle.net_core.specs.Nets.{Tree, TConst, TRead, TBit, TPartSelect, TMemoryWord, TUnary, TBinary, TConditional, TConcatenation, Trees, TLast, TMore}
use Rattle.net_core.specs.ProductRules.Products.{is_product, has_product, parts_product, is_flat}
use Rattle.block_core.specs.Blocks.{BlockWireTree}
use Rattle.block_core.specs.Order.{Reads, AllRead}
use Rattle.block_core.specs.ProductBlocks.Apart.{AreMarked}
use Rattle.block_core.proofs.ProductBlocks.Renamed.{both_fewer}
use Rattle.block_core.proofs.ProductBlocks.FreeLaws.{flat_without}

-- operands without products
operator_over : (p x : Bool) → x ≡ false → cond p (not x) true ≡ true
operator_over false x h = refl
operator_over true x h = rw h refl

module _ {N : Type 0} (made : N → Bool) (q : N → Type 0) (clean : (n : N) → q n → made n ≡ false) where
  mutual
    pub none_in : (t : Tree N) → Reads q t → has_product (λ n. false) t ≡ false → has_product made t ≡ false
    none_in (TConst w) r h = refl
    none_in (TRead n) r h = clean n r
    none_in (TBit n i) r h = clean n r
    none_in (TPartSelect n hi lo) r h = clean n r
    none_in (TMemoryWord m i) r h = none_in i r.1 h
    none_in (TUnary p a) r h = none_in a r h
    none_in (TBinary op a b) r h = both_fewer (is_product op) _ (is_product op) _ (λ e. e) (both_fewer _ _ _ _ (none_in a r.0) (none_in b r.1)) h
    none_in (TConditional c a b) r h = both_fewer _ _ _ _ (none_in c r.0) (both_fewer _ _ _ _ (none_in a r.1) (none_in b r.2)) h
    none_in (TConcatenation ps) r h = none_in_parts ps r h

    none_in_parts : (ps : Trees N) → AllRead q ps → parts_product (λ n. false) ps ≡ false → parts_product made ps ≡ false
    none_in_parts (TLast a) r h = none_in a r h
    none_in_parts (TMore a ps) r h = both_fewer _ _ _ _ (none_in a r.0) (none_in_parts ps r.1) h

  -- any operator of two such trees, a product too
  pub flat_over : (op : Op) (a b : Tree N) → Reads q a → Reads q b → has_product (λ n. false) a ≡ false → has_product (λ n. false) b ≡ false → is_flat made (TBinary op a b) ≡ true
  flat_over op a b r s h k =
      let x = none_in a r h in
      let y = none_in b s k in
      let none = both_fewer false false (has_product made a) (has_product made b) (λ e. x) (λ e. y) refl in
      and_from _ _ (operator_over (is_product op) _ none) (and_from _ _ (flat_without made a h) (flat_without made b k))

pub marked_behind : {N : Type 0} (made : N → Bool) (ms ns : List Bool) (ws vs : List (BlockWireTree N)) → AreMarked made ms ws → AreMarked made ns vs → AreMarked made (ms ++ ns) (ws ++ vs)
marked_behind made [] ns [] vs h k = k
marked_behind made [] ns (w ∷ ws) vs h k = absurd h
marked_behind made (m ∷ ms) ns [] vs h k = absurd h
marked_behind made (m ∷ ms) ns (w ∷ ws) vs h k = (h.0, h.1, marked_behind made ms ns ws vs h.2 k)
