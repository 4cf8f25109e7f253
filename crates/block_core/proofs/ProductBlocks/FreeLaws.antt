-- Blocks and trees without products have them apart, whichever wires are marked.
use Rattle.std.specs.Prelude.{◌≡◌, cond, Bool, true, false, ◌||◌, List, [], ◌∷◌, map}
use Rattle.std.specs.List.{list_all}
use Rattle.std.proofs.Common.{refl, not}
use Rattle.std.proofs.lemmas.Bool.{and_parts, and_from}
use Rattle.net_core.specs.Nets.{Tree, TConst, TRead, TBit, TPartSelect, TMemoryWord, TUnary, TBinary, TConditional, TConcatenation, Trees, TLast, TMore}
use Rattle.net_core.specs.ProductRules.Products.{is_product, has_product, parts_product, is_flat, parts_flat}
use Rattle.block_core.specs.Blocks.{BlockTree, BlockWireTree}
use Rattle.block_core.specs.ProductBlocks.Apart.{AreMarked, IsApart}
use Rattle.block_core.specs.ProductBlocks.Alone.{wire_flat, IsFree}

-- ---- a block: all its wires are marked
abbrev pub all_marked : {N : Type 0} → List (BlockWireTree N) → List Bool
all_marked ws = map (λ w. true) ws

free_wires : {N : Type 0} (made : N → Bool) (ws : List (BlockWireTree N)) → list_all (wire_flat made) ws ≡ true → AreMarked made (all_marked ws) ws
free_wires made [] h = tt
free_wires made (w ∷ ws) h =
    let p = and_parts (wire_flat made w) (list_all (wire_flat made) ws) h in
    (λ e. cc, p.0, free_wires made ws p.1)

pub free_is_apart : {N : Type 0} (b : BlockTree N) → IsFree b → (made : N → Bool) → IsApart made (all_marked b.wires) b
free_is_apart b f made = record { wires = free_wires made b.wires (f.wires made); statement = f.statement made }

-- ---- a tree
or_none : (x y : Bool) → (x || y) ≡ false → (x ≡ false) × (y ≡ false)
or_none false y h = (refl, h)
or_none true y h = cc

-- an operator that is no product
operator_flat : (p x : Bool) → p ≡ false → cond p (not x) true ≡ true
operator_flat p x h = rw h refl

module _ {N : Type 0} (made : N → Bool) where
  mutual
    pub flat_without : (t : Tree N) → has_product (λ n. false) t ≡ false → is_flat made t ≡ true
    flat_without (TConst w) h = refl
    flat_without (TRead n) h = refl
    flat_without (TBit n i) h = refl
    flat_without (TPartSelect n hi lo) h = refl
    flat_without (TMemoryWord m i) h = flat_without i h
    flat_without (TUnary p a) h = flat_without a h
    flat_without (TBinary op a b) h =
        let o = or_none (is_product op) (has_product (λ n. false) a || has_product (λ n. false) b) h in
        let x = or_none (has_product (λ n. false) a) (has_product (λ n. false) b) o.1 in
        and_from _ _ (operator_flat (is_product op) _ o.0) (and_from _ _ (flat_without a x.0) (flat_without b x.1))
    flat_without (TConditional c a b) h =
        let o = or_none (has_product (λ n. false) c) (has_product (λ n. false) a || has_product (λ n. false) b) h in
        let x = or_none (has_product (λ n. false) a) (has_product (λ n. false) b) o.1 in
        and_from _ _ (flat_without c o.0) (and_from _ _ (flat_without a x.0) (flat_without b x.1))
    flat_without (TConcatenation ps) h = parts_without ps h

    parts_without : (ps : Trees N) → parts_product (λ n. false) ps ≡ false → parts_flat made ps ≡ true
    parts_without (TLast a) h = flat_without a h
    parts_without (TMore a ps) h =
        let o = or_none (has_product (λ n. false) a) (parts_product (λ n. false) ps) h in
        and_from _ _ (flat_without a o.0) (parts_without ps o.1)
