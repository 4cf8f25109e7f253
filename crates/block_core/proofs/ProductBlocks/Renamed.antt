-- Trees under other names of nets: a product is found in no more of them where no more nets are marked.
use Rattle.std.specs.Prelude.{◌≡◌, ℕ, cond, Bool, true, false, ◌&&◌, ◌||◌}
use Rattle.std.proofs.Common.{refl, not}
use Rattle.net_core.specs.Nets.{Tree, TConst, TRead, TBit, TPartSelect, TMemoryWord, TUnary, TBinary, TConditional, TConcatenation, Trees, TLast, TMore, RightTree, RPlain, RQuotient, RRemainder, StatementTree, SBlock, SIf, SIfElse, SSet, SStore, StatementTrees, SEnd, SThen}
use Rattle.net_core.specs.ProductRules.Products.{is_product, has_product, parts_product, is_flat, parts_flat, right_product, right_flat, statement_flat, statements_flat}
use Rattle.block_core.specs.Rename.{rename, rename_parts, rename_right, rename_statement, rename_statements}
use Rattle.block_core.specs.Order.{Reads, AllRead, RightReads}
use Rattle.block_core.specs.Formed.{StatementReads, StatementsRead}

-- ---- two at once
pub both_fewer : (x y x' y' : Bool) → (x ≡ false → x' ≡ false) → (y ≡ false → y' ≡ false) → (x || y) ≡ false → (x' || y') ≡ false
both_fewer false y x' y' f g h = let e = f refl in rw e (g h)
both_fewer true y x' y' f g h = cc

pub both_still : (x y x' y' : Bool) → (x ≡ true → x' ≡ true) → (y ≡ true → y' ≡ true) → (x && y) ≡ true → (x' && y') ≡ true
both_still false y x' y' f g h = cc
both_still true y x' y' f g h = let e = f refl in rw e (g h)

-- no operand of an operator has a product, where it is one
under : (p x y : Bool) → (x ≡ false → y ≡ false) → cond p (not x) true ≡ true → cond p (not y) true ≡ true
under false x y f h = refl
under true false y f h = let e = f refl in rw e refl
under true true y f h = cc

module _ {M N : Type 0} (f : M → N) (q : M → Type 0) (made : M → Bool) (m : N → Bool) (fewer : (n : M) → q n → made n ≡ false → m (f n) ≡ false) where
  mutual
    product_less : (t : Tree M) → Reads q t → has_product made t ≡ false → has_product m (rename f t) ≡ false
    product_less (TConst w) r h = refl
    product_less (TRead n) r h = fewer n r h
    product_less (TBit n i) r h = fewer n r h
    product_less (TPartSelect n hi lo) r h = fewer n r h
    product_less (TMemoryWord x i) r h = product_less i r.1 h
    product_less (TUnary p a) r h = product_less a r h
    product_less (TBinary op a b) r h = both_fewer (is_product op) _ (is_product op) _ (λ e. e) (both_fewer _ _ _ _ (product_less a r.0) (product_less b r.1)) h
    product_less (TConditional c a b) r h = both_fewer _ _ _ _ (product_less c r.0) (both_fewer _ _ _ _ (product_less a r.1) (product_less b r.2)) h
    product_less (TConcatenation ps) r h = parts_less ps r h

    parts_less : (ps : Trees M) → AllRead q ps → parts_product made ps ≡ false → parts_product m (rename_parts f ps) ≡ false
    parts_less (TLast a) r h = product_less a r h
    parts_less (TMore a ps) r h = both_fewer _ _ _ _ (product_less a r.0) (parts_less ps r.1) h

  both_less : (a b : Tree M) → Reads q a → Reads q b → (has_product made a || has_product made b) ≡ false → (has_product m (rename f a) || has_product m (rename f b)) ≡ false
  both_less a b r s h = both_fewer _ _ _ _ (product_less a r) (product_less b s) h

  mutual
    pub flat_still : (t : Tree M) → Reads q t → is_flat made t ≡ true → is_flat m (rename f t) ≡ true
    flat_still (TConst w) r h = refl
    flat_still (TRead n) r h = refl
    flat_still (TBit n i) r h = refl
    flat_still (TPartSelect n hi lo) r h = refl
    flat_still (TMemoryWord x i) r h = flat_still i r.1 h
    flat_still (TUnary p a) r h = flat_still a r h
    flat_still (TBinary op a b) r h = both_still _ _ _ _ (under (is_product op) _ _ (both_less a b r.0 r.1)) (both_still _ _ _ _ (flat_still a r.0) (flat_still b r.1)) h
    flat_still (TConditional c a b) r h = both_still _ _ _ _ (flat_still c r.0) (both_still _ _ _ _ (flat_still a r.1) (flat_still b r.2)) h
    flat_still (TConcatenation ps) r h = parts_still ps r h

    parts_still : (ps : Trees M) → AllRead q ps → parts_flat made ps ≡ true → parts_flat m (rename_parts f ps) ≡ true
    parts_still (TLast a) r h = flat_still a r h
    parts_still (TMore a ps) r h = both_still _ _ _ _ (flat_still a r.0) (parts_still ps r.1) h

  -- ---- right sides
  pub right_less : (e : RightTree M) → RightReads q e → right_product made e ≡ false → right_product m (rename_right f e) ≡ false
  right_less (RPlain e) r h = product_less e r h
  right_less (RQuotient a b) r h = h
  right_less (RRemainder a b) r h = h

  -- both operands of a quotient
  operands_still : (a b : M) → q a → q b → not (made a || made b) ≡ true → not (m (f a) || m (f b)) ≡ true
  operands_still a b r s h = under true _ _ (both_fewer _ _ _ _ (fewer a r) (fewer b s)) h

  pub right_still : (e : RightTree M) → RightReads q e → right_flat made e ≡ true → right_flat m (rename_right f e) ≡ true
  right_still (RPlain e) r h = flat_still e r h
  right_still (RQuotient a b) r h = operands_still a b r.0 r.1 h
  right_still (RRemainder a b) r h = operands_still a b r.0 r.1 h

  -- ---- statements
  module _ (i j : ℕ) where
    mutual
      pub statement_still : (s : StatementTree M) → StatementReads q s → statement_flat made s ≡ true → statement_flat m (rename_statement f i j s) ≡ true
      statement_still (SBlock more) r h = statements_still more r h
      statement_still (SIf c a) r h = both_still _ _ _ _ (flat_still c r.0) (statement_still a r.1) h
      statement_still (SIfElse c a b) r h = both_still _ _ _ _ (flat_still c r.0) (both_still _ _ _ _ (statement_still a r.1) (statement_still b r.2)) h
      statement_still (SSet k e) r h = flat_still e r h
      statement_still (SStore k x e) r h = both_still _ _ _ _ (flat_still x r.0) (flat_still e r.1) h

      statements_still : (s : StatementTrees M) → StatementsRead q s → statements_flat made s ≡ true → statements_flat m (rename_statements f i j s) ≡ true
      statements_still SEnd r h = refl
      statements_still (SThen a more) r h = both_still _ _ _ _ (statement_still a r.0) (statements_still more r.1) h
