-- A tree under other names has the value that it has where each net is seen through its name.
use Rattle.std.specs.Prelude.{◌≡◌}
use Rattle.std.proofs.Common.{refl, ap}
use Rattle.net_core.specs.declared.tree.Word.{Word}
use Rattle.net_core.specs.Nets.{Tree, TConst, TRead, TBit, TPartSelect, TMemoryWord, TUnary, TBinary, TConditional, TConcatenation, Trees, TLast, TMore, RightTree, RPlain, RQuotient, RRemainder}
use Rattle.net_core.specs.Value.{apply_unary, Env, value, concatenated_parts, right_value, stops}
use Rattle.block_core.specs.Rename.{rename, rename_parts, rename_right, seen}

mutual
  pub value-rename : {M N : Type 0} (f : M → N) (v : Env N) (e : Tree M) → value v (rename f e) ≡ value (seen f v) e
  value-rename f v (TConst w) = refl
  value-rename f v (TRead n) = refl
  value-rename f v (TBit n i) = refl
  value-rename f v (TPartSelect n hi lo) = refl
  value-rename f v (TMemoryWord m i) = ap (λ (w : Word). v.memory_word (f m) w.value) (value-rename f v i)
  value-rename f v (TUnary p a) = ap (apply_unary p) (value-rename f v a)
  value-rename f v (TBinary op a b) = let x = value-rename f v a in let y = value-rename f v b in rw (x, y)
  value-rename f v (TConditional c a b) = let x = value-rename f v c in let y = value-rename f v a in let z = value-rename f v b in rw (x, y, z)
  value-rename f v (TConcatenation ps) = parts-rename f v ps

  pub parts-rename : {M N : Type 0} (f : M → N) (v : Env N) (ps : Trees M) → concatenated_parts v (rename_parts f ps) ≡ concatenated_parts (seen f v) ps
  parts-rename f v (TLast a) = value-rename f v a
  parts-rename f v (TMore a ps) = let x = value-rename f v a in let y = parts-rename f v ps in rw (x, y)

pub right-rename : {M N : Type 0} (f : M → N) (v : Env N) (r : RightTree M) → right_value v (rename_right f r) ≡ right_value (seen f v) r
right-rename f v (RPlain e) = value-rename f v e
right-rename f v (RQuotient a b) = refl
right-rename f v (RRemainder a b) = refl

pub stops-rename : {M N : Type 0} (f : M → N) (v : Env N) (r : RightTree M) → stops v (rename_right f r) ≡ stops (seen f v) r
stops-rename f v (RPlain e) = refl
stops-rename f v (RQuotient a b) = refl
stops-rename f v (RRemainder a b) = refl
