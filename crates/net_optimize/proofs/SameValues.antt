-- What reads known nets alone has under the new names of nets the value that it had.
use Rattle.std.specs.Prelude.{◌≡◌, ℕ, true}
use Rattle.std.proofs.Common.{ap, ◌∙◌, refl}
use Rattle.std.proofs.lemmas.Bool.{and_parts}
use Rattle.net_core.specs.declared.tree.Word.{Word}
use Rattle.net_core.specs.declared.tree.Net.{Net}
use Rattle.net_core.specs.Nets.{Tree, TConst, TRead, TBit, TPartSelect, TMemoryWord, TUnary, TBinary, TConditional, TConcatenation, Trees, TLast, TMore, RightTree, RPlain, RQuotient, RRemainder}
use Rattle.net_core.specs.Value.{part_select, apply_unary, Env, value, concatenated_parts, right_value, stops}
use Rattle.design_rules.specs.FormedScope.{Sorts, reads_known, parts_known, right_known}
use Rattle.block_core.specs.Rename.{rename, rename_parts, rename_right}

module _ (k : Sorts Net) (f : Net → Net) (v2 v : Env Net) (nets : (n : Net) → k.value (f n) ≡ true → v2.net (f n) ≡ v.net n) (words : (m : Net) (a : ℕ) → v2.memory_word (f m) a ≡ v.memory_word m a) where
  mutual
    pub value_same : (e : Tree Net) → reads_known k (rename f e) ≡ true → value v2 (rename f e) ≡ value v e
    value_same (TConst w) h = refl
    value_same (TRead n) h = nets n h
    value_same (TBit n i) h = ap (λ w. part_select w i i) (nets n h)
    value_same (TPartSelect n hi lo) h = ap (λ w. part_select w hi lo) (nets n h)
    value_same (TMemoryWord m i) h = words m _ ∙ ap (λ (w : Word). v.memory_word m w.value) (value_same i (and_parts _ _ h).1)
    value_same (TUnary p a) h = ap (apply_unary p) (value_same a h)
    value_same (TBinary op a b) h = let t = and_parts _ _ h in let x = value_same a t.0 in let y = value_same b t.1 in rw (x, y)
    value_same (TConditional c a b) h =
        let t = and_parts _ _ h in let u = and_parts _ _ t.1 in
        let x = value_same c t.0 in let y = value_same a u.0 in let z = value_same b u.1 in rw (x, y, z)
    value_same (TConcatenation ps) h = parts_same ps h

    parts_same : (ps : Trees Net) → parts_known k (rename_parts f ps) ≡ true → concatenated_parts v2 (rename_parts f ps) ≡ concatenated_parts v ps
    parts_same (TLast a) h = value_same a h
    parts_same (TMore a ps) h = let t = and_parts _ _ h in let x = value_same a t.0 in let y = parts_same ps t.1 in rw (x, y)

  -- the right side of a wire
  pub right_same : (r : RightTree Net) → right_known k (rename_right f r) ≡ true → right_value v2 (rename_right f r) ≡ right_value v r
  right_same (RPlain e) h = value_same e h
  right_same (RQuotient a b) h = let t = and_parts _ _ h in let x = nets a t.0 in let y = nets b t.1 in rw (x, y)
  right_same (RRemainder a b) h = let t = and_parts _ _ h in let x = nets a t.0 in let y = nets b t.1 in rw (x, y)

  pub stops_same : (r : RightTree Net) → right_known k (rename_right f r) ≡ true → stops v2 (rename_right f r) ≡ stops v r
  stops_same (RPlain e) h = refl
  stops_same (RQuotient a b) h = let y = nets b (and_parts _ _ h).1 in rw y
  stops_same (RRemainder a b) h = let y = nets b (and_parts _ _ h).1 in rw y
