-- The value of a right side depends on the nets alone that it reads.
use Rattle.std.specs.Prelude.{◌&&◌, slice_set}
use Rattle.std.proofs.Common.{◌≡◌, ℕ, true, false, refl, ap, ◌∙◌}
use Rattle.std.proofs.lemmas.Bool.{and_parts}
use Rattle.net_core.specs.declared.tree.Word.{Word}
use Rattle.net_core.specs.Nets.{Tree, TConst, TRead, TBit, TPartSelect, TMemoryWord, TUnary, TBinary, TConditional, TConcatenation, Trees, TLast, TMore, RightTree, RPlain, RQuotient, RRemainder, StatementTree, SBlock, SIf, SIfElse, SSet, SStore, StatementTrees, SEnd, SThen}
use Rattle.net_core.specs.Value.{Env, part_select, apply_unary, value, concatenated_parts, right_value, stops}
use Rattle.net_core.specs.Clock.{Stored, done, all_done}
use Rattle.design_rules.specs.FormedSyntax.{trees_pass, all_trees_pass}
use Rattle.design_rules.specs.FormedScope.{Sorts, reads_known, parts_known, right_known}
use Rattle.event_sim.specs.Events.{event_value}

module _ {N : Type 0} (s : Sorts N) (v w : Env N) (words : (m : N) (a : ℕ) → v.memory_word m a ≡ w.memory_word m a) (nets : (n : N) → s.value n ≡ true → v.net n ≡ w.net n) where
  mutual
    pub same_value : (e : Tree N) → reads_known s e ≡ true → value v e ≡ value w e
    same_value (TConst x) h = refl
    same_value (TRead n) h = nets n h
    same_value (TBit n i) h = ap (λ x. part_select x i i) (nets n h)
    same_value (TPartSelect n hi lo) h = ap (λ x. part_select x hi lo) (nets n h)
    same_value (TMemoryWord m i) h = words m (value v i).value ∙ ap (λ (x : Word). w.memory_word m x.value) (same_value i (and_parts _ _ h).1)
    same_value (TUnary p a) h = ap (apply_unary p) (same_value a h)
    same_value (TBinary op a b) h = let g = and_parts _ _ h in let x = same_value a g.0 in let y = same_value b g.1 in rw (x, y)
    same_value (TConditional c a b) h = let g = and_parts _ _ h in let f = and_parts _ _ g.1 in let x = same_value c g.0 in let y = same_value a f.0 in let z = same_value b f.1 in rw (x, y, z)
    same_value (TConcatenation ps) h = same_parts ps h

    same_parts : (ps : Trees N) → parts_known s ps ≡ true → concatenated_parts v ps ≡ concatenated_parts w ps
    same_parts (TLast a) h = same_value a h
    same_parts (TMore a ps) h = let g = and_parts _ _ h in let x = same_value a g.0 in let y = same_parts ps g.1 in rw (x, y)

  pub same_event : (r : RightTree N) → right_known s r ≡ true → event_value v r ≡ event_value w r
  same_event (RPlain e) h = same_value e h
  same_event (RQuotient a b) h = let g = and_parts _ _ h in let x = nets a g.0 in let y = nets b g.1 in rw (x, y)
  same_event (RRemainder a b) h = let g = and_parts _ _ h in let x = nets a g.0 in let y = nets b g.1 in rw (x, y)

  pub same_stops : (r : RightTree N) → right_known s r ≡ true → stops v r ≡ stops w r
  same_stops (RPlain e) h = refl
  same_stops (RQuotient a b) h = let y = nets b (and_parts _ _ h).1 in rw y
  same_stops (RRemainder a b) h = let y = nets b (and_parts _ _ h).1 in rw y

-- a right side that does not stop
pub event_is_right : {N : Type 0} (v : Env N) (r : RightTree N) → stops v r ≡ false → event_value v r ≡ right_value v r
event_is_right v r h = rw h

-- ---- statements
module _ {N : Type 0} (s : Sorts N) (v w : Env N) (words : (m : N) (a : ℕ) → v.memory_word m a ≡ w.memory_word m a) (nets : (n : N) → s.value n ≡ true → v.net n ≡ w.net n) where
  mutual
    pub same_done : (a : StatementTree N) (t : Stored) → trees_pass (reads_known s) a ≡ true → done v a t ≡ done w a t
    same_done (SBlock more) t h = all_same more t h
    same_done (SIf c a) t h =
        let p = and_parts (reads_known s c) (trees_pass (reads_known s) a) h in
        let x = same_value s v w words nets c p.0 in let y = same_done a t p.1 in rw (x, y)
    same_done (SIfElse c a b) t h =
        let p = and_parts (reads_known s c) (trees_pass (reads_known s) a && trees_pass (reads_known s) b) h in
        let q = and_parts (trees_pass (reads_known s) a) (trees_pass (reads_known s) b) p.1 in
        let x = same_value s v w words nets c p.0 in let y = same_done a t q.0 in let z = same_done b t q.1 in rw (x, y, z)
    same_done (SSet r e) t h = ap (λ y. record t { registers = slice_set t.registers r y }) (same_value s v w words nets e h)
    same_done (SStore m i e) t h =
        let p = and_parts (reads_known s i) (reads_known s e) h in
        let x = same_value s v w words nets i p.0 in let y = same_value s v w words nets e p.1 in rw (x, y)

    all_same : (more : StatementTrees N) (t : Stored) → all_trees_pass (reads_known s) more ≡ true → all_done v more t ≡ all_done w more t
    all_same SEnd t h = refl
    all_same (SThen a more) t h =
        let p = and_parts (trees_pass (reads_known s) a) (all_trees_pass (reads_known s) more) h in
        ap (all_done v more) (same_done a t p.0) ∙ all_same more (done w a t) p.1
