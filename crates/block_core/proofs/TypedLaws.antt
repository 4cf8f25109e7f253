-- The wires, statements and outputs of a linked design are well typed where the blocks' are.
use Rattle.std.specs.Prelude.{◌≡◌, ◌≢◌, ℕ, suc, ◌+◌, ◌<◌, ◌==◌, nat_le, ◌&&◌, true, false, List, [], ◌∷◌, ◌++◌, length, map}
use Rattle.std.proofs.Common.{refl, sym, ap, ◌∙◌, arith, get_or, append_assoc, length-append, subst, inl, inr}
use Rattle.std.proofs.lemmas.Bool.{eqb-true, and_parts, and_from}
use Rattle.std.proofs.lemmas.Bool.Decides.{nat_tests}
use Rattle.std.proofs.lemmas.List.{get_or_append_left, get_or_at}
use Rattle.net_core.specs.declared.design.Port.{Port}
use Rattle.net_core.specs.Nets.{Tree, StatementTree, SBlock, SIf, SIfElse, SSet, SStore, StatementTrees, SEnd, SThen, WireTree}
use Rattle.net_core.specs.Width.{Scope, width_of, right_width, same, statement_typed, statements_typed, scope, wires_typed, full_scope, statements_all_typed, output_width, assigns_typed}
use Rattle.list_laws.proofs.BoolLaws.{by_test}
use Rattle.block_core.specs.declared.name.Name.{Name}
use Rattle.block_core.specs.declared.name.Name.TheVariants as name
use Rattle.block_core.specs.Rename.{rename, rename_right, rename_statement, rename_statements}
use Rattle.block_core.specs.Blocks.{BlockWireTree, OutputTree, registers_of, memories_of, wires_of, Whole, IsPlaced, Among, start}
use Rattle.block_core.specs.Link.{resolve, link_wires, link_output, all_wires, all_statements, link}
use Rattle.block_core.specs.Order.{Reads, IsBefore, InOrder, AllInOrder}
use Rattle.block_core.specs.Formed.{block_wire_width, block_registers, block_memories, block_wires, names_scope, block_wires_typed, IsTypedBlock, StatementReads, StatementsRead, OutputsRead, IsThere, outputs_typed, LinkedIsTyped}
use Rattle.block_core.proofs.GatheredLaws.{Runs, runs}
use Rattle.block_core.proofs.Ordered.{Below, below_next}
use Rattle.block_core.proofs.Widths.{Agree, width_renamed, right_renamed, sides, register_at, memory_at, wire_at, all_declared_typed}

-- ---- wires: what stands before has its width
pub record Known {P : Type 0} (d : Whole P) (before : List P) (p : P) (at : ℕ) (ws : List ℕ) : Type 0 where
  pub earlier : (q : P) → Among q before → (j : ℕ) → j < wires_of (d.block q) → get_or ws (start wires_of d q + j) 0 ≡ get_or (block_wires (d.block q)) j 0
  pub own : (j : ℕ) → j < at → get_or ws (start wires_of d p + j) 0 ≡ get_or (block_wires (d.block p)) j 0
  pub count : length ws ≡ start wires_of d p + at

next_known : {P : Type 0} (d : Whole P) (before : List P) (p : P) (at : ℕ) (ws front more : List ℕ) (x : ℕ) → Known d before p at ws → Below d before (start wires_of d p) → block_wires (d.block p) ≡ front ++ x ∷ more → length front ≡ at → Known d before p (suc at) (ws ++ x ∷ [])
next_known d before p at ws front more x k b e c = record {
  earlier = λ q a j l. let lt = b q a in let n = k.count in let i : start wires_of d q + j < length ws = omega arith in get_or_append_left ws (x ∷ []) 0 (start wires_of d q + j) i ∙ k.earlier q a j l;
  own = λ j l. by_test (λ t. ((j == at) ≡ t) → get_or (ws ++ x ∷ []) (start wires_of d p + j) 0 ≡ get_or (block_wires (d.block p)) j 0) (j == at)
      (λ q g. let z : j ≡ at = eqb-true j at g in rw z (get_or_at ws x [] 0 (start wires_of d p + at) k.count ∙ sym (ap (λ xs. get_or xs at 0) e ∙ get_or_at front x more 0 at c)))
      (λ q g. let o : j ≢ at = grind (arith, nat_tests) in let lt : j < at = omega arith in let n = k.count in let i : start wires_of d p + j < length ws = omega arith in get_or_append_left ws (x ∷ []) 0 (start wires_of d p + j) i ∙ k.own j lt)
      refl;
  count = length-append ws (x ∷ []) ∙ (let n = k.count in omega arith);
}

-- what a part sets stands in the design further on
pub record Moved (rs : List ℕ) (ms : List (ℕ × ℕ)) (all_rs : List ℕ) (all_ms : List (ℕ × ℕ)) (r m : ℕ) : Type 0 where
  pub register : (i : ℕ) → 0 < get_or rs i 0 → get_or all_rs (r + i) 0 ≡ get_or rs i 0
  pub memory : (i : ℕ) → 0 < (get_or ms i (0, 0)).1 → get_or all_ms (m + i) (0, 0) ≡ get_or ms i (0, 0)

module _ {M N : Type 0} (f : M → N) (q : M → Type 0) (s : Scope M) (t : Scope N) (a : Agree f q s t) where
  one_typed : (c : Tree M) → Reads q c → (width_of s c == 1) ≡ true → (width_of t (rename f c) == 1) ≡ true
  one_typed c r h = let e = eqb-true (width_of s c) 1 h in let k = width_renamed f q s t a c r (omega arith) in rw k h

  module _ (rs : List ℕ) (ms : List (ℕ × ℕ)) (all_rs : List ℕ) (all_ms : List (ℕ × ℕ)) (r m : ℕ) (v : Moved rs ms all_rs all_ms r m) where
    mutual
      pub statement_moved : (x : StatementTree M) → StatementReads q x → statement_typed s rs ms x ≡ true → statement_typed t all_rs all_ms (rename_statement f r m x) ≡ true
      statement_moved (SBlock more) e h = statements_moved more e h
      statement_moved (SIf c x) e h =
          let p = and_parts (width_of s c == 1) (statement_typed s rs ms x) h in
          and_from _ _ (one_typed c e.0 p.0) (statement_moved x e.1 p.1)
      statement_moved (SIfElse c x y) e h =
          let p = and_parts (width_of s c == 1) (statement_typed s rs ms x && statement_typed s rs ms y) h in
          let o = and_parts (statement_typed s rs ms x) (statement_typed s rs ms y) p.1 in
          and_from _ _ (one_typed c e.0 p.0) (and_from _ _ (statement_moved x e.1 o.0) (statement_moved y e.2 o.1))
      statement_moved (SSet i x) e h =
          let p = sides (get_or rs i 0) (width_of s x) h in
          let k = width_renamed f q s t a x e (omega (arith, p.some, p.is)) in
          let l = v.register i p.some in
          rw (k, l) h
      statement_moved (SStore i x y) e h =
          let o = and_parts (same (get_or ms i (0, 0)).0 (width_of s x)) (same (get_or ms i (0, 0)).1 (width_of s y)) h in
          let p = sides (get_or ms i (0, 0)).0 (width_of s x) o.0 in
          let p' = sides (get_or ms i (0, 0)).1 (width_of s y) o.1 in
          let k = width_renamed f q s t a x e.0 (omega (arith, p.some, p.is)) in
          let k' = width_renamed f q s t a y e.1 (omega (arith, p'.some, p'.is)) in
          let l = v.memory i p'.some in
          rw (k, k', l) h

      statements_moved : (x : StatementTrees M) → StatementsRead q x → statements_typed s rs ms x ≡ true → statements_typed t all_rs all_ms (rename_statements f r m x) ≡ true
      statements_moved SEnd e h = refl
      statements_moved (SThen x more) e h =
          let p = and_parts (statement_typed s rs ms x) (statements_typed s rs ms more) h in
          and_from _ _ (statement_moved x e.0 p.0) (statements_moved more e.1 p.1)

module _ {P : Type 0} (d : Whole P) (names : List (List ℕ)) (ports : List Port) (outputs : List (OutputTree (Name P))) (l : IsPlaced d) where
  agree_before : (before : List P) (p : P) (at : ℕ) (ws : List ℕ) → Known d before p at ws → Agree (resolve d) (IsBefore d before p at) (names_scope d ports) (scope (link d names ports outputs) ws)
  agree_before before p at ws k = record { net = on_net; memory_word = on_word; index = on_index }
    where
      on_net : (n : Name P) → IsBefore d before p at n → 0 < (names_scope d ports).net n → (scope (link d names ports outputs) ws).net (resolve d n) ≡ (names_scope d ports).net n
      on_net (name.Port i) b h = refl
      on_net (name.Register q i) b h = register_at d l q i b h
      on_net (name.Memory q i) b h = refl
      on_net (name.Wire q i) (inl b) h = let e = b.0 in rw e (k.own i b.1)
      on_net (name.Wire q i) (inr b) h = k.earlier q b.0 i b.1

      on_word : (n : Name P) → IsBefore d before p at n → 0 < (names_scope d ports).memory_word n → (scope (link d names ports outputs) ws).memory_word (resolve d n) ≡ (names_scope d ports).memory_word n
      on_word (name.Port i) b h = refl
      on_word (name.Register q i) b h = refl
      on_word (name.Memory q i) b h = ap (λ (x : ℕ × ℕ). x.1) (memory_at d l q i b h)
      on_word (name.Wire q i) b h = refl

      on_index : (n : Name P) → IsBefore d before p at n → 0 < (names_scope d ports).memory_word n → (scope (link d names ports outputs) ws).index (resolve d n) ≡ (names_scope d ports).index n
      on_index (name.Port i) b h = refl
      on_index (name.Register q i) b h = refl
      on_index (name.Memory q i) b h = ap (λ (x : ℕ × ℕ). x.0) (memory_at d l q i b h)
      on_index (name.Wire q i) b h = refl

  part_typed : (before : List P) (p : P) (at : ℕ) (ws front : List ℕ) (own : List (BlockWireTree (Name P))) (rest : List WireTree)
      → Below d before (start wires_of d p) → Known d before p at ws → block_wires (d.block p) ≡ front ++ map block_wire_width own → length front ≡ at → InOrder d before p at own → block_wires_typed (names_scope d ports) own ≡ true
      → ((ws : List ℕ) → Known d before p (at + length own) ws → wires_typed (link d names ports outputs) ws rest ≡ true) → wires_typed (link d names ports outputs) ws (link_wires (resolve d) own ++ rest) ≡ true
  part_typed before p at ws front [] rest b k e c o h go = let z : at + 0 ≡ at = omega arith in go ws (subst (λ n. Known d before p n ws) (sym z) k)
  part_typed before p at ws front (x ∷ own) rest b k e c o h go =
      let s = names_scope d ports in
      let t = scope (link d names ports outputs) ws in
      let y = and_parts (same x.width (right_width s x.right) && nat_le x.width 64) (block_wires_typed s own) h in
      let z = and_parts (same x.width (right_width s x.right)) (nat_le x.width 64) y.0 in
      let w = sides x.width (right_width s x.right) z.0 in
      let r : right_width t (rename_right (resolve d) x.right) ≡ right_width s x.right = right_renamed (resolve d) (IsBefore d before p at) s t (agree_before before p at ws k) x.right o.0 (omega (arith, w.some, w.is)) in
      let one : (same x.width (right_width t (rename_right (resolve d) x.right)) && nat_le x.width 64) ≡ true = rw r y.0 in
      let n : at + suc (length own) ≡ suc at + length own = omega arith in
      and_from _ _ one (part_typed before p (suc at) (ws ++ x.width ∷ []) (front ++ x.width ∷ []) own rest b
      (next_known d before p at ws front (map block_wire_width own) x.width k b e c) (e ∙ sym (append_assoc front (x.width ∷ []) (map block_wire_width own))) (length-append front (x.width ∷ []) ∙ omega arith) o.1 y.1
      (λ ws k. go ws (subst (λ m. Known d before p m ws) (sym n) k)))

  parts_typed : (before : List P) (w : ℕ) (ps : List P) (ws : List ℕ)
      → Runs (λ p. wires_of (d.block p)) (start wires_of d) w ps → Below d before w → length ws ≡ w
      → ((q : P) → Among q before → (j : ℕ) → j < wires_of (d.block q) → get_or ws (start wires_of d q + j) 0 ≡ get_or (block_wires (d.block q)) j 0)
      → AllInOrder d before ps → ((p : P) → Among p ps → IsTypedBlock d ports (d.block p)) → wires_typed (link d names ports outputs) ws (all_wires d ps) ≡ true
  parts_typed before w [] ws t b c k o h = refl
  parts_typed before w (p ∷ ps) ws t b c k o h =
      let e = t.0 in
      let b' : Below d before (start wires_of d p) = λ (q : P) (a : Among q before). rw e (b q a) in
      let first : Known d before p 0 ws = record { earlier = k; own = λ j x. absurd (omega arith); count = omega arith } in
      part_typed before p 0 ws [] (d.block p).wires (all_wires d ps) b' first refl refl o.0 (h p (inl refl)).wires
      (λ ws g. parts_typed (p ∷ before) (w + wires_of (d.block p)) ps ws t.1 (below_next d before p w b e)
      (let n = g.count in omega arith) (all_earlier ws g) o.1 (λ q a. h q (inr a)))
    where
      all_earlier : (ws : List ℕ) → Known d before p (0 + length (d.block p).wires) ws → (q : P) → Among q (p ∷ before) → (j : ℕ) → j < wires_of (d.block q) → get_or ws (start wires_of d q + j) 0 ≡ get_or (block_wires (d.block q)) j 0
      all_earlier ws g q (inl x) j y = rw x (let z : j < length (d.block p).wires = subst (λ q. j < wires_of (d.block q)) x y in g.own j (omega arith))
      all_earlier ws g q (inr a) j y = g.earlier q a j y

  -- ---- statements and outputs: all nets have their widths
  agree_all : Agree (resolve d) (IsThere d) (names_scope d ports) (full_scope (link d names ports outputs))
  agree_all = record { net = on_net; memory_word = on_word; index = on_index }
    where
      on_net : (n : Name P) → IsThere d n → 0 < (names_scope d ports).net n → (full_scope (link d names ports outputs)).net (resolve d n) ≡ (names_scope d ports).net n
      on_net (name.Port i) b h = refl
      on_net (name.Register q i) b h = register_at d l q i b h
      on_net (name.Memory q i) b h = refl
      on_net (name.Wire q i) b h = wire_at d l q i b h

      on_word : (n : Name P) → IsThere d n → 0 < (names_scope d ports).memory_word n → (full_scope (link d names ports outputs)).memory_word (resolve d n) ≡ (names_scope d ports).memory_word n
      on_word (name.Port i) b h = refl
      on_word (name.Register q i) b h = refl
      on_word (name.Memory q i) b h = ap (λ (x : ℕ × ℕ). x.1) (memory_at d l q i b h)
      on_word (name.Wire q i) b h = refl

      on_index : (n : Name P) → IsThere d n → 0 < (names_scope d ports).memory_word n → (full_scope (link d names ports outputs)).index (resolve d n) ≡ (names_scope d ports).index n
      on_index (name.Port i) b h = refl
      on_index (name.Register q i) b h = refl
      on_index (name.Memory q i) b h = ap (λ (x : ℕ × ℕ). x.0) (memory_at d l q i b h)
      on_index (name.Wire q i) b h = refl

  statements_typed_in : (ps : List P) → ((p : P) → Among p d.parts → IsTypedBlock d ports (d.block p)) → ((p : P) → Among p d.parts → StatementReads (IsThere d) (d.block p).statement)
      → ((p : P) → Among p ps → Among p d.parts) → statements_all_typed (link d names ports outputs) (all_statements d ps) ≡ true
  statements_typed_in [] h r i = refl
  statements_typed_in (p ∷ ps) h r i =
      let a = i p (inl refl) in
      and_from _ _
      (statement_moved (resolve d) (IsThere d) (names_scope d ports) (full_scope (link d names ports outputs)) agree_all (block_registers (d.block p)) (block_memories (d.block p)) _ _ (start registers_of d p) (start memories_of d p)
      (record { register = λ j q. register_at d l p j a q; memory = λ j q. memory_at d l p j a q }) (d.block p).statement (r p a) (h p a).statement)
      (statements_typed_in ps h r (λ q x. i q (inr x)))

  outputs_shown : (os : List (OutputTree (Name P))) → OutputsRead (IsThere d) os → outputs_typed (names_scope d ports) ports os ≡ true → assigns_typed (link d names ports outputs) (map (link_output (resolve d)) os) ≡ true
  outputs_shown [] r h = refl
  outputs_shown (x ∷ os) r h =
      let s = names_scope d ports in
      let w = output_width (get_or ports x.port (record { output = false; width = 0 })) in
      let p = and_parts (same w (width_of s x.value)) (outputs_typed s ports os) h in
      let o = sides w (width_of s x.value) p.0 in
      let k = width_renamed (resolve d) (IsThere d) s (full_scope (link d names ports outputs)) agree_all x.value r.0 (omega (arith, o.some, o.is)) in
      and_from _ _ (rw k p.0) (outputs_shown os r.1 p.1)

pub linked_is_typed : (P : Type 0) → LinkedIsTyped P
linked_is_typed P d names ports outputs h = record {
  ports = h.has_ports;
  declared = all_declared_typed d (λ p a. (h.blocks p a).registers) (λ p a. (h.blocks p a).memories);
  wires = parts_typed d names ports outputs h.placed [] 0 d.parts [] (runs wires_of d h.placed) (λ q a. absurd a) refl (λ q a. absurd a) h.ordered h.blocks;
  assigns = outputs_shown d names ports outputs h.placed outputs h.shows h.shown;
  outputs = h.assigned;
  always = statements_typed_in d names ports outputs h.placed d.parts h.blocks h.statements (λ p a. a);
}
