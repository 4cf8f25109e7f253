-- In a well typed design of parts what is stored keeps its widths, and each net has a word of its width, whatever these are.
use Rattle.std.specs.Prelude.{◌≡◌, ℕ, zero, suc, ◌+◌, ◌/◌, ◌%◌, ◌^◌, ◌<◌, ◌≤◌, ◌==◌, nat_lt, nat_le, ◌&&◌, if◌then◌else◌, Bool, true, false, List, [], ◌∷◌, ◌++◌, length, map, slice_set}
use Rattle.std.proofs.Common.{get_or, refl, sym, ap, ◌∙◌, subst, arith, inl, inr, append_assoc, length-append, length-set, get_or-set_same, get_or-set_other}
use Rattle.std.proofs.Math.Nat.{mod-le, div-le_self}
use Rattle.std.proofs.lemmas.Bool.{eqb-true, ltb-true, leb-true, and_parts, and_from, cases_eq}
use Rattle.std.proofs.lemmas.List.{length-map, length-replicate, get_or-replicate, get_or_at}
use Rattle.block_core.proofs.list_laws_laws.PlaceLaws.{some_below}
use Rattle.block_core.specs.net_core.declared.tree.Word.{Word}
use Rattle.block_core.specs.net_core.declared.tree.Op.{Op}
use Rattle.block_core.specs.net_core.declared.tree.UnaryOp.{UnaryOp}
use Rattle.block_core.specs.net_core.declared.design.Port.{Port}
use Rattle.block_core.specs.net_core.Nets.{Tree, TConst, TRead, TBit, TPartSelect, TMemoryWord, TUnary, TBinary, TConditional, TConcatenation, Trees, TLast, TMore, RightTree, RPlain, RQuotient, RRemainder, StatementTree, SBlock, SIf, SIfElse, SSet, SStore, StatementTrees, SEnd, SThen}
use Rattle.block_core.specs.net_core.Width.{Scope, op_width, unary_width, part_select_width, concatenation_width, width_of, parts_width, right_width, same, port_width, word_fits, statement_typed, statements_typed}
use Rattle.block_core.specs.net_core.Suits.{IsOfWidth}
use Rattle.block_core.specs.net_core.Value.{word, nothing, Env, apply, apply_unary, concatenated, part_select, value, concatenated_parts, right_value}
use Rattle.block_core.specs.net_core.Clock.{Stored, done, all_done}
use Rattle.block_core.proofs.net_core_laws.WidthLaws.{same_parts, op_parts, unary_parts, part_select_parts, memory_word_parts, conditional_parts, concatenation_parts, const_parts, apply_fits, apply_unary_fits, part_select_fit, concatenated_fit, conditional_fits}
use Rattle.block_core.specs.declared.name.Name.{Name}
use Rattle.block_core.specs.declared.name.Name.TheVariants as name
use Rattle.block_core.specs.declared.block.BlockMemory.{BlockMemory}
use Rattle.block_core.specs.Blocks.{BlockTree, BlockWireTree, wires_of, first_memory, first_of, Whole, Among}
use Rattle.block_core.specs.Parts.{Solve, Sees}
use Rattle.block_core.specs.Order.{Reads, AllRead, RightReads, IsBefore, InOrder, AllInOrder}
use Rattle.block_core.specs.Formed.{word_width, block_memory_width, block_wire_width, block_registers, block_memories, block_wires, name_width, name_memory, names_scope, words_fit, memories_fit, block_wires_typed, StatementReads, StatementsRead, IsThere, IsTypedBlock}
use Rattle.pipe_net.specs.Relation.{IsMemory, IsStored}

-- ---- the value of a tree has its width where the nets that it reads have theirs
binary_fit : (op : Op) (x y : Word) (a b : ℕ) → IsOfWidth a x → IsOfWidth b y → 0 < op_width op a b → IsOfWidth (op_width op a b) (apply op x y)
binary_fit op x y a b f g h =
    let at : ℕ → ℕ → Type 0 = λ m n. 0 < op_width op m n → IsOfWidth (op_width op m n) (apply op x y) in
    subst (λ m. at m b) f.width (subst (λ n. at x.width n) g.width (apply_fits op x y f.fits g.fits)) h

unary_fit : (p : UnaryOp) (x : Word) (a : ℕ) → IsOfWidth a x → IsOfWidth (unary_width p a) (apply_unary p x)
unary_fit p x a f = subst (λ m. IsOfWidth (unary_width p m) (apply_unary p x)) f.width (apply_unary_fits p x f.fits)

select_fit : (x : Word) (a hi lo : ℕ) → IsOfWidth a x → 0 < part_select_width a hi lo → IsOfWidth (part_select_width a hi lo) (part_select x hi lo)
select_fit x a hi lo f h = subst (λ m. 0 < part_select_width m hi lo → IsOfWidth (part_select_width m hi lo) (part_select x hi lo)) f.width (part_select_fit x hi lo f.fits) h

concatenation_fit : (x y : Word) (a b : ℕ) → IsOfWidth a x → IsOfWidth b y → 0 < concatenation_width a b → IsOfWidth (concatenation_width a b) (concatenated x y)
concatenation_fit x y a b f g h =
    let at : ℕ → ℕ → Type 0 = λ m n. 0 < concatenation_width m n → IsOfWidth (concatenation_width m n) (concatenated x y) in
    subst (λ m. at m b) f.width (subst (λ n. at x.width n) g.width (concatenated_fit x y f.fits g.fits)) h

of_width : (x : Word) (a b : ℕ) → IsOfWidth a x → b ≡ a → IsOfWidth b x
of_width x a b f e = record { width = f.width ∙ sym e; fits = f.fits }

select_some : (a hi lo : ℕ) → 0 < part_select_width a hi lo → 0 < a
select_some a hi lo h = let p = (part_select_parts a hi lo h).some in omega (arith, p)

-- the nets and memories that may be read have words of their widths
pub record AreOfWidths {N : Type 0} (s : Scope N) (q : N → Type 0) (v : Env N) : Type 0 where
  pub net : (n : N) → q n → 0 < s.net n → IsOfWidth (s.net n) (v.net n)
  pub memory_word : (m : N) (a : ℕ) → q m → 0 < s.memory_word m → a < 2 ^ s.index m → IsOfWidth (s.memory_word m) (v.memory_word m a)

module _ {N : Type 0} (s : Scope N) (q : N → Type 0) (v : Env N) (fit : AreOfWidths s q v) where
  mutual
    pub value_fits : (e : Tree N) → Reads q e → 0 < width_of s e → IsOfWidth (width_of s e) (value v e)
    value_fits (TConst w) r h = const_parts w h
    value_fits (TRead n) r h = fit.net n r h
    value_fits (TBit n i) r h = select_fit (v.net n) (s.net n) i i (fit.net n r (select_some (s.net n) i i h)) h
    value_fits (TPartSelect n hi lo) r h = select_fit (v.net n) (s.net n) hi lo (fit.net n r (select_some (s.net n) hi lo h)) h
    value_fits (TMemoryWord m i) r h =
        let p = memory_word_parts (width_of s i) (s.index m) (s.memory_word m) h in
        let at = value_fits i r.1 p.some in
        let lt : (value v i).value < 2 ^ s.index m = subst (λ k. (value v i).value < 2 ^ k) (at.width ∙ p.at) at.fits.small in
        of_width _ _ _ (fit.memory_word m (value v i).value r.0 (subst (λ k. 0 < k) p.is h) lt) p.is
    value_fits (TUnary p a) r h = unary_fit p (value v a) (width_of s a) (value_fits a r (unary_parts p (width_of s a) h))
    value_fits (TBinary op a b) r h =
        let p = op_parts op (width_of s a) (width_of s b) h in
        binary_fit op (value v a) (value v b) (width_of s a) (width_of s b) (value_fits a r.0 p.left) (value_fits b r.1 p.right) h
    value_fits (TConditional c a b) r h =
        let p = conditional_parts (width_of s c) (width_of s a) (width_of s b) h in
        let some : 0 < width_of s a = subst (λ k. 0 < k) p.is h in
        let x = value_fits a r.1 some in
        let y = value_fits b r.2 (subst (λ k. 0 < k) p.sides some) in
        of_width _ _ _ (conditional_fits (width_of s a) ((value v c).value == 0) (value v a) (value v b) x (of_width _ _ _ y p.sides)) p.is
    value_fits (TConcatenation ps) r h = parts_fit ps r h

    pub parts_fit : (ps : Trees N) → AllRead q ps → 0 < parts_width s ps → IsOfWidth (parts_width s ps) (concatenated_parts v ps)
    parts_fit (TLast a) r h = value_fits a r h
    parts_fit (TMore a ps) r h =
        let p = concatenation_parts (width_of s a) (parts_width s ps) h in
        concatenation_fit (value v a) (concatenated_parts v ps) (width_of s a) (parts_width s ps) (value_fits a r.0 p.left) (parts_fit ps r.1 p.right) h

  quotient_fits : (x : Word) (w n : ℕ) → IsOfWidth w x → n ≤ x.value → IsOfWidth w (word x.width n)
  quotient_fits x w n f le = let m = f.fits.small in record { width = f.width; fits = record { some = f.fits.some; most = f.fits.most; small = omega (arith, m, le) } }

  pub right_fits : (r : RightTree N) → RightReads q r → 0 < right_width s r → IsOfWidth (right_width s r) (right_value v r)
  right_fits (RPlain e) r h = value_fits e r h
  right_fits (RQuotient a b) r h =
      let p = same_parts (s.net a) (s.net b) h in
      let x = fit.net a r.0 (subst (λ k. 0 < k) p.is h) in
      of_width _ _ _ (quotient_fits (v.net a) (s.net a) ((v.net a).value / (v.net b).value) x (div-le_self (v.net a).value (v.net b).value)) p.is
  right_fits (RRemainder a b) r h =
      let p = same_parts (s.net a) (s.net b) h in
      let x = fit.net a r.0 (subst (λ k. 0 < k) p.is h) in
      of_width _ _ _ (quotient_fits (v.net a) (s.net a) ((v.net a).value % (v.net b).value) x (mod-le (v.net a).value (v.net b).value)) p.is

-- ---- sides of an assignment
same_sides : (a b : ℕ) → same a b ≡ true → (0 < a) × (a ≡ b)
same_sides a b h = let p = and_parts (nat_lt 0 a) (a == b) h in (ltb-true 0 a p.0, eqb-true a b p.1)

-- ---- what a statement makes of what is stored
module _ {N : Type 0} (b : BlockTree N) where
  set_register : (s : Stored) (r : ℕ) (w : Word) → IsStored b s → IsOfWidth (get_or (block_registers b) r 0) w → IsStored b (record s { registers = slice_set s.registers r w })
  set_register s r w h f = record {
    registers = length-set s.registers r w ∙ h.registers;
    memories = h.memories;
    register = λ i lt. elim (cases_eq i r) [
      | inl e ↦
          let n = h.registers in
          let here : get_or (slice_set s.registers r w) r nothing ≡ w = get_or-set_same s.registers r w nothing (omega (arith, e, n, lt)) in
          rw (e, here) f
      | inr o ↦ let there = get_or-set_other s.registers r i w nothing o in rw there (h.register i lt)
    ];
    memory = h.memory;
  }

  set_word : (index width at : ℕ) (m : List Word) (w : Word) → IsMemory index width m → IsOfWidth width w → IsMemory index width (slice_set m at w)
  set_word index width at m w h f = record {
    count = length-set m at w ∙ h.count;
    each = λ a lt. elim (cases_eq a at) [
      | inl e ↦
          let n = h.count in
          let here : get_or (slice_set m at w) at nothing ≡ w = get_or-set_same m at w nothing (omega (arith, e, n, lt)) in
          rw (e, here) f
      | inr o ↦ let there = get_or-set_other m at a w nothing o in rw there (h.each a lt)
    ];
  }

  set_memory : (s : Stored) (m at : ℕ) (w : Word) → IsStored b s → IsOfWidth (get_or (block_memories b) m (0, 0)).1 w → IsStored b (record s { memories = slice_set s.memories m (slice_set (get_or s.memories m []) at w) })
  set_memory s m at w h f = record {
    registers = h.registers;
    memories = length-set s.memories m (slice_set (get_or s.memories m []) at w) ∙ h.memories;
    register = h.register;
    memory = λ i lt. elim (cases_eq i m) [
      | inl e ↦
          let n = h.memories in
          let here : get_or (slice_set s.memories m (slice_set (get_or s.memories m []) at w)) m [] ≡ slice_set (get_or s.memories m []) at w = get_or-set_same s.memories m (slice_set (get_or s.memories m []) at w) [] (omega (arith, e, n, lt)) in
          let old = h.memory i lt in
          rw (e, here) (set_word _ _ at (get_or s.memories m []) w (rw e at old) f)
      | inr o ↦ let there = get_or-set_other s.memories m i (slice_set (get_or s.memories m []) at w) [] o in rw there (h.memory i lt)
    ];
  }

  if_stored : (c : Bool) (x y : Stored) → IsStored b x → IsStored b y → IsStored b (if c then x else y)
  if_stored true x y h k = h
  if_stored false x y h k = k

  module _ (sc : Scope N) (q : N → Type 0) (v : Env N) (fit : AreOfWidths sc q v) where
    mutual
      pub statement_fits : (a : StatementTree N) → StatementReads q a → statement_typed sc (block_registers b) (block_memories b) a ≡ true → (s : Stored) → IsStored b s → IsStored b (done v a s)
      statement_fits (SBlock more) r h s k = statements_fit more r h s k
      statement_fits (SIf c a) r h s k =
          let p = and_parts (width_of sc c == 1) (statement_typed sc (block_registers b) (block_memories b) a) h in
          if_stored ((value v c).value == 0) s (done v a s) k (statement_fits a r.1 p.1 s k)
      statement_fits (SIfElse c x y) r h s k =
          let p = and_parts (width_of sc c == 1) (statement_typed sc (block_registers b) (block_memories b) x && statement_typed sc (block_registers b) (block_memories b) y) h in
          let o = and_parts (statement_typed sc (block_registers b) (block_memories b) x) (statement_typed sc (block_registers b) (block_memories b) y) p.1 in
          if_stored ((value v c).value == 0) (done v y s) (done v x s) (statement_fits y r.2 o.1 s k) (statement_fits x r.1 o.0 s k)
      statement_fits (SSet i e) r h s k =
          let p = same_sides (get_or (block_registers b) i 0) (width_of sc e) h in
          set_register s i (value v e) k (of_width _ _ _ (value_fits sc q v fit e r (subst (λ n. 0 < n) p.1 p.0)) p.1)
      statement_fits (SStore m i e) r h s k =
          let o = and_parts (same (get_or (block_memories b) m (0, 0)).0 (width_of sc i)) (same (get_or (block_memories b) m (0, 0)).1 (width_of sc e)) h in
          let p = same_sides (get_or (block_memories b) m (0, 0)).1 (width_of sc e) o.1 in
          set_memory s m (value v i).value (value v e) k (of_width _ _ _ (value_fits sc q v fit e r.1 (subst (λ n. 0 < n) p.1 p.0)) p.1)

      pub statements_fit : (more : StatementTrees N) → StatementsRead q more → statements_typed sc (block_registers b) (block_memories b) more ≡ true → (s : Stored) → IsStored b s → IsStored b (all_done v more s)
      statements_fit SEnd r h s k = k
      statements_fit (SThen a more) r h s k =
          let p = and_parts (statement_typed sc (block_registers b) (block_memories b) a) (statements_typed sc (block_registers b) (block_memories b) more) h in
          statements_fit more r.1 p.1 (done v a s) (statement_fits a r.0 p.0 s k)

-- ---- the nets of a clock
module _ {P : Type 0} (d : Whole P) (ports : List Port) (ins : List Word) (ss : P → Stored) (v : Env (Name P)) (sees : Sees d ins ss v) (stored : (p : P) → Among p d.parts → IsStored (d.block p) (ss p))
    (inputs : (k : ℕ) → 0 < port_width ports k → IsOfWidth (port_width ports k) (get_or ins k nothing)) where
  abbrev WireFits : P → ℕ → Type 0
  WireFits p j = IsOfWidth (get_or (block_wires (d.block p)) j 0) (v.net (name.Wire p j))

  -- the wires of earlier parts, and those of a part before one
  record IsKnown (before : List P) (p : P) (at : ℕ) : Type 0 where
    earlier : (q : P) → Among q before → (j : ℕ) → j < wires_of (d.block q) → WireFits q j
    own : (j : ℕ) → j < at → WireFits p j

  register_fits : (p : P) (k : ℕ) → Among p d.parts → 0 < get_or (block_registers (d.block p)) k 0 → IsOfWidth (get_or (block_registers (d.block p)) k 0) (v.net (name.Register p k))
  register_fits p k a h =
      let lt = some_below (λ n. n) 0 (block_registers (d.block p)) k refl h in
      let n = length-map (d.block p).registers word_width in
      let m = (stored p a).registers in
      subst (IsOfWidth (get_or (block_registers (d.block p)) k 0)) (sym (sees.register p k a (omega (arith, lt, n, m)))) ((stored p a).register k (omega (arith, lt, n)))

  memory_fits : (p : P) (k at : ℕ) → Among p d.parts → 0 < (get_or (block_memories (d.block p)) k (0, 0)).1 → at < 2 ^ (get_or (block_memories (d.block p)) k (0, 0)).0
      → IsOfWidth (get_or (block_memories (d.block p)) k (0, 0)).1 (v.memory_word (name.Memory p k) at)
  memory_fits p k at a h within =
      let lt = some_below (λ (x : ℕ × ℕ). x.1) (0, 0) (block_memories (d.block p)) k refl h in
      let n = length-map (d.block p).memories block_memory_width in
      let m = (stored p a).memories in
      subst (IsOfWidth (get_or (block_memories (d.block p)) k (0, 0)).1) (sym (sees.memory_word p k at a (omega (arith, lt, n, m)))) (((stored p a).memory k (omega (arith, lt, n))).each at within)

  known_fits : (before : List P) (p : P) (at : ℕ) → IsKnown before p at → AreOfWidths (names_scope d ports) (IsBefore d before p at) v
  known_fits before p at k = record { net = on_net; memory_word = on_word }
    where
      on_net : (n : Name P) → IsBefore d before p at n → 0 < name_width d ports n → IsOfWidth (name_width d ports n) (v.net n)
      on_net (name.Port i) b h = subst (IsOfWidth (port_width ports i)) (sym (sees.port i)) (inputs i h)
      on_net (name.Register q i) b h = register_fits q i b h
      on_net (name.Memory q i) b h = absurd (omega (arith, h))
      on_net (name.Wire q i) (inl b) h = subst (λ r. WireFits r i) (sym b.0) (k.own i b.1)
      on_net (name.Wire q i) (inr b) h = k.earlier q b.0 i b.1

      on_word : (n : Name P) (a : ℕ) → IsBefore d before p at n → 0 < (name_memory d n).1 → a < 2 ^ (name_memory d n).0 → IsOfWidth (name_memory d n).1 (v.memory_word n a)
      on_word (name.Port i) a b h lt = absurd (omega (arith, h))
      on_word (name.Register q i) a b h lt = absurd (omega (arith, h))
      on_word (name.Memory q i) a b h lt = memory_fits q i a b h lt
      on_word (name.Wire q i) a b h lt = absurd (omega (arith, h))

  own_wires : (before : List P) (p : P) (at : ℕ) (front : List ℕ) (ws : List (BlockWireTree (Name P))) → block_wires_typed (names_scope d ports) ws ≡ true → InOrder d before p at ws → Solve v p at ws
      → block_wires (d.block p) ≡ front ++ map block_wire_width ws → length front ≡ at → IsKnown before p at → (j : ℕ) → j < at + length ws → WireFits p j
  own_wires before p at front [] h o s e c k j lt = k.own j (omega (arith, lt))
  own_wires before p at front (w ∷ ws) h o s e c k j lt =
      let y = and_parts (same w.width (right_width (names_scope d ports) w.right) && nat_le w.width 64) (block_wires_typed (names_scope d ports) ws) h in
      let z = and_parts (same w.width (right_width (names_scope d ports) w.right)) (nat_le w.width 64) y.0 in
      let t = same_sides w.width (right_width (names_scope d ports) w.right) z.0 in
      let f = right_fits (names_scope d ports) (IsBefore d before p at) v (known_fits before p at k) w.right o.0 (subst (λ n. 0 < n) t.1 t.0) in
      let here : get_or (block_wires (d.block p)) at 0 ≡ w.width = ap (λ xs. get_or xs at 0) e ∙ get_or_at front w.width (map block_wire_width ws) 0 at c in
      let new : WireFits p at = subst (IsOfWidth (get_or (block_wires (d.block p)) at 0)) (sym s.0) (of_width (right_value v w.right) (right_width (names_scope d ports) w.right) (get_or (block_wires (d.block p)) at 0) f (here ∙ t.1)) in
      let known : IsKnown before p (suc at) = record {
        earlier = k.earlier;
        own = λ i l. elim (cases_eq i at) [
          | inl same ↦ subst (WireFits p) (sym same) new
          | inr other ↦ k.own i (omega (arith, l, other))
        ];
      } in
      own_wires before p (suc at) (front ++ w.width ∷ []) ws y.1 o.1 s.1 (e ∙ sym (append_assoc front (w.width ∷ []) (map block_wire_width ws))) (length-append front (w.width ∷ []) ∙ omega (arith, c)) known j (omega (arith, lt))

  module _ (typed : (p : P) → Among p d.parts → IsTypedBlock d ports (d.block p)) where
    all_wires : (before ps : List P) → AllInOrder d before ps → ((q : P) → Among q ps → Among q d.parts) → ((q : P) → Among q before → (j : ℕ) → j < wires_of (d.block q) → WireFits q j)
        → (q : P) → Among q ps → (j : ℕ) → j < wires_of (d.block q) → WireFits q j
    all_wires before [] o there known q a j lt = absurd a
    all_wires before (p ∷ ps) o there known q a j lt = by a (all_wires (p ∷ before) ps o.1 (λ r c. there r (inr c)) with_own)
      where
        own : (j : ℕ) → j < wires_of (d.block p) → WireFits p j
        own j lt =
            own_wires before p 0 [] (d.block p).wires (typed p (there p (inl refl))).wires o.0 (sees.wires p (there p (inl refl))) refl refl
            (record { earlier = known; own = λ i l. absurd (omega (arith, l)) }) j (omega (arith, lt))

        with_own : (r : P) → Among r (p ∷ before) → (j : ℕ) → j < wires_of (d.block r) → WireFits r j
        with_own r (inl e) j lt = subst (λ (x : P). (j : ℕ) → j < wires_of (d.block x) → WireFits x j) (sym e) own j lt
        with_own r (inr b) j lt = known r b j lt

        by : Among q (p ∷ ps) → ((r : P) → Among r ps → (i : ℕ) → i < wires_of (d.block r) → WireFits r i) → WireFits q j
        by (inl e) rest = with_own q (inl e) j lt
        by (inr b) rest = rest q b j lt

    module _ (ordered : AllInOrder d [] d.parts) where
      -- all nets that are there have their widths
      pub all_fit : AreOfWidths (names_scope d ports) (IsThere d) v
      all_fit = record { net = on_net; memory_word = on_word }
        where
          on_net : (n : Name P) → IsThere d n → 0 < name_width d ports n → IsOfWidth (name_width d ports n) (v.net n)
          on_net (name.Port i) b h = subst (IsOfWidth (port_width ports i)) (sym (sees.port i)) (inputs i h)
          on_net (name.Register q i) b h = register_fits q i b h
          on_net (name.Memory q i) b h = absurd (omega (arith, h))
          on_net (name.Wire q i) b h =
              let lt = some_below (λ n. n) 0 (block_wires (d.block q)) i refl h in
              let n = length-map (d.block q).wires block_wire_width in
              all_wires [] d.parts ordered (λ r c. c) (λ r c. absurd c) q b i (omega (arith, lt, n))

          on_word : (n : Name P) (a : ℕ) → IsThere d n → 0 < (name_memory d n).1 → a < 2 ^ (name_memory d n).0 → IsOfWidth (name_memory d n).1 (v.memory_word n a)
          on_word (name.Port i) a b h lt = absurd (omega (arith, h))
          on_word (name.Register q i) a b h lt = absurd (omega (arith, h))
          on_word (name.Memory q i) a b h lt = memory_fits q i a b h lt
          on_word (name.Wire q i) a b h lt = absurd (omega (arith, h))

      -- what is stored keeps its widths
      pub stored_stays : ((p : P) → Among p d.parts → StatementReads (IsThere d) (d.block p).statement) → (p : P) → Among p d.parts → IsStored (d.block p) (done v (d.block p).statement (ss p))
      stored_stays reads p a = statement_fits (d.block p) (names_scope d ports) (IsThere d) v all_fit (d.block p).statement (reads p a) (typed p a).statement (ss p) (stored p a)

-- ---- what is first stored
first_registers : (ws : List Word) → words_fit ws ≡ true → (i : ℕ) → i < length ws → IsOfWidth (get_or (map word_width ws) i 0) (get_or ws i nothing)
first_registers [] h i lt = absurd (omega (arith, lt))
first_registers (w ∷ ws) h zero lt =
    let p = and_parts (word_fits w) (words_fit ws) h in
    let q = and_parts (nat_lt 0 w.width) (nat_le w.width 64 && nat_lt w.value (2 ^ w.width)) p.0 in
    let r = and_parts (nat_le w.width 64) (nat_lt w.value (2 ^ w.width)) q.1 in
    record { width = refl; fits = record { some = ltb-true 0 w.width q.0; most = leb-true w.width 64 r.0; small = ltb-true w.value (2 ^ w.width) r.1 } }
first_registers (w ∷ ws) h (suc i) lt = first_registers ws (and_parts (word_fits w) (words_fit ws) h).1 i (omega (arith, lt))

first_memories : (ms : List BlockMemory) → memories_fit ms ≡ true → (i : ℕ) → i < length ms → IsMemory (get_or (map block_memory_width ms) i (0, 0)).0 (get_or (map block_memory_width ms) i (0, 0)).1 (get_or (map first_memory ms) i [])
first_memories [] h i lt = absurd (omega (arith, lt))
first_memories (m ∷ ms) h zero lt =
    let p = and_parts ((nat_le 1 m.index && nat_le m.index 16) && word_fits m.first) (memories_fit ms) h in
    let f : IsOfWidth m.first.width m.first = first_registers (m.first ∷ []) (and_from (word_fits m.first) true (and_parts (nat_le 1 m.index && nat_le m.index 16) (word_fits m.first) p.0).1 refl) 0 (omega arith) in
    record {
      count = length-replicate (2 ^ m.index) m.first;
      each = λ a l. subst (IsOfWidth m.first.width) (sym (get_or-replicate (2 ^ m.index) a m.first nothing l)) f;
    }
first_memories (m ∷ ms) h (suc i) lt = first_memories ms (and_parts ((nat_le 1 m.index && nat_le m.index 16) && word_fits m.first) (memories_fit ms) h).1 i (omega (arith, lt))

pub first_stored : {P : Type 0} (d : Whole P) (ports : List Port) (b : BlockTree (Name P)) → IsTypedBlock d ports b → IsStored b (first_of b)
first_stored d ports b h = record {
  registers = refl;
  memories = length-map b.memories first_memory;
  register = first_registers b.registers h.registers;
  memory = first_memories b.memories h.memories;
}
