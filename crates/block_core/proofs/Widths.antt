-- Widths under other names, and those of a linked design.
use Rattle.std.specs.Prelude.{◌≡◌, ℕ, ◌+◌, ◌<◌, ◌==◌, nat_lt, nat_le, ◌&&◌, true, List, [], ◌∷◌, ◌++◌, map}
use Rattle.std.proofs.Common.{refl, ap, ◌∙◌, arith, get_or, inl, inr}
use Rattle.std.proofs.lemmas.Bool.{eqb-true, ltb-true, and_parts, and_from}
use Rattle.std.proofs.lemmas.List.{append-nil}
use Rattle.list_laws.proofs.PlaceLaws.{some_below}
use Rattle.net_core.specs.declared.tree.Word.{Word}
use Rattle.net_core.specs.declared.design.Declared.{Declared}
use Rattle.net_core.specs.Nets.{Tree, TConst, TRead, TBit, TPartSelect, TMemoryWord, TUnary, TBinary, TConditional, TConcatenation, Trees, TLast, TMore, RightTree, RPlain, RQuotient, RRemainder, WireTree}
use Rattle.net_core.specs.Width.{Scope, same_width, unary_width, width_of, parts_width, right_width, same, register_widths, memory_widths, wire_widths, word_fits, declared_typed}
use Rattle.net_core.proofs.WidthLaws.{same_parts, op_parts, unary_parts, part_select_parts, memory_word_parts, conditional_parts, concatenation_parts}
use Rattle.block_core.specs.declared.name.Name.{Name}
use Rattle.block_core.specs.declared.block.BlockMemory.{BlockMemory}
use Rattle.block_core.specs.Rename.{rename, rename_parts, rename_right}
use Rattle.block_core.specs.Blocks.{BlockWireTree, registers_of, memories_of, wires_of, Whole, IsPlaced, Among, gather, start}
use Rattle.block_core.specs.Link.{resolve, link_wires, all_wires, all_registers, all_memories, all_declared, declare_register, declare_memory}
use Rattle.block_core.specs.Order.{Reads, AllRead, RightReads}
use Rattle.block_core.specs.Formed.{word_width, block_memory_width, block_wire_width, block_registers, block_memories, block_wires, words_fit, memories_fit}
use Rattle.block_core.proofs.GatheredLaws.{runs, get_gather, map_gather}
use Rattle.block_core.proofs.GatheredLaws.{length_map}

-- what is there under its name has the same width under the other
pub record Agree {M N : Type 0} (f : M → N) (q : M → Type 0) (s : Scope M) (t : Scope N) : Type 0 where
  pub net : (n : M) → q n → 0 < s.net n → t.net (f n) ≡ s.net n
  pub memory_word : (m : M) → q m → 0 < s.memory_word m → t.memory_word (f m) ≡ s.memory_word m
  pub index : (m : M) → q m → 0 < s.memory_word m → t.index (f m) ≡ s.index m

module _ {M N : Type 0} (f : M → N) (q : M → Type 0) (s : Scope M) (t : Scope N) (a : Agree f q s t) where
  mutual
    pub width_renamed : (e : Tree M) → Reads q e → 0 < width_of s e → width_of t (rename f e) ≡ width_of s e
    width_renamed (TConst w) r h = refl
    width_renamed (TRead n) r h = a.net n r h
    width_renamed (TBit n i) r h = let p = part_select_parts (s.net n) i i h in let k = a.net n r (omega (arith, p.some)) in rw k
    width_renamed (TPartSelect n hi lo) r h = let p = part_select_parts (s.net n) hi lo h in let k = a.net n r (omega (arith, p.some)) in rw k
    width_renamed (TMemoryWord m i) r h =
        let p = memory_word_parts (width_of s i) (s.index m) (s.memory_word m) h in
        let c : 0 < s.memory_word m = omega (arith, p.is) in
        let x = width_renamed i r.1 p.some in
        let y = a.memory_word m r.0 c in
        let z = a.index m r.0 c in
        rw (x, y, z)
    width_renamed (TUnary o e) r h = ap (unary_width o) (width_renamed e r (unary_parts o (width_of s e) h))
    width_renamed (TBinary op e g) r h =
        let p = op_parts op (width_of s e) (width_of s g) h in
        let x = width_renamed e r.0 p.left in
        let y = width_renamed g r.1 p.right in
        rw (x, y)
    width_renamed (TConditional c e g) r h =
        let p = conditional_parts (width_of s c) (width_of s e) (width_of s g) h in
        let x = width_renamed c r.0 (omega (arith, p.test)) in
        let y = width_renamed e r.1 (omega (arith, p.is)) in
        let z = width_renamed g r.2 (omega (arith, p.is, p.sides)) in
        rw (x, y, z)
    width_renamed (TConcatenation ps) r h = parts_renamed ps r h

    parts_renamed : (e : Trees M) → AllRead q e → 0 < parts_width s e → parts_width t (rename_parts f e) ≡ parts_width s e
    parts_renamed (TLast e) r h = width_renamed e r h
    parts_renamed (TMore e ps) r h =
        let p = concatenation_parts (width_of s e) (parts_width s ps) h in
        let x = width_renamed e r.0 p.left in
        let y = parts_renamed ps r.1 p.right in
        rw (x, y)

  divided_renamed : (m n : M) → q m → q n → 0 < same_width (s.net m) (s.net n) → same_width (t.net (f m)) (t.net (f n)) ≡ same_width (s.net m) (s.net n)
  divided_renamed m n x y h =
      let p = same_parts (s.net m) (s.net n) h in
      let k = a.net m x (omega (arith, p.is)) in
      let l = a.net n y (omega (arith, p.is, p.sides)) in
      rw (k, l)

  pub right_renamed : (e : RightTree M) → RightReads q e → 0 < right_width s e → right_width t (rename_right f e) ≡ right_width s e
  right_renamed (RPlain e) r h = width_renamed e r h
  right_renamed (RQuotient m n) r h = divided_renamed m n r.0 r.1 h
  right_renamed (RRemainder m n) r h = divided_renamed m n r.0 r.1 h

pub record Sides (a b : ℕ) : Type 0 where
  pub some : 0 < a
  pub is : a ≡ b

pub sides : (a b : ℕ) → same a b ≡ true → Sides a b
sides a b h = let p = and_parts (nat_lt 0 a) (a == b) h in record { some = ltb-true 0 a p.0; is = eqb-true a b p.1 }

-- ---- what is declared
registers_past : (rs : List Word) (ds : List Declared) → register_widths (map declare_register rs ++ ds) ≡ map word_width rs ++ register_widths ds
registers_past [] ds = refl
registers_past (r ∷ rs) ds = ap (λ l. r.width ∷ l) (registers_past rs ds)

no_registers : (ms : List BlockMemory) → register_widths (map declare_memory ms) ≡ []
no_registers [] = refl
no_registers (m ∷ ms) = no_registers ms

no_memories : (rs : List Word) (ds : List Declared) → memory_widths (map declare_register rs ++ ds) ≡ memory_widths ds
no_memories [] ds = refl
no_memories (r ∷ rs) ds = no_memories rs ds

memories_past : (ms : List BlockMemory) → memory_widths (map declare_memory ms) ≡ map block_memory_width ms
memories_past [] = refl
memories_past (m ∷ ms) = ap (λ l. block_memory_width m ∷ l) (memories_past ms)

module _ {P : Type 0} (d : Whole P) (l : IsPlaced d) where
  all_register_widths : register_widths (all_declared (all_registers d d.parts) (all_memories d d.parts)) ≡ gather (λ p. block_registers (d.block p)) d.parts
  all_register_widths =
      let rs = all_registers d d.parts in
      let ms = all_memories d d.parts in
      registers_past rs (map declare_memory ms) ∙ ap (λ xs. map word_width rs ++ xs) (no_registers ms) ∙ append-nil (map word_width rs) ∙ map_gather word_width (λ p. (d.block p).registers) d.parts

  all_memory_widths : memory_widths (all_declared (all_registers d d.parts) (all_memories d d.parts)) ≡ gather (λ p. block_memories (d.block p)) d.parts
  all_memory_widths =
      let rs = all_registers d d.parts in
      let ms = all_memories d d.parts in
      no_memories rs (map declare_memory ms) ∙ memories_past ms ∙ map_gather block_memory_width (λ p. (d.block p).memories) d.parts

  link_widths : (ws : List (BlockWireTree (Name P))) (rest : List WireTree) → wire_widths (link_wires (resolve d) ws ++ rest) ≡ map block_wire_width ws ++ wire_widths rest
  link_widths [] rest = refl
  link_widths (w ∷ ws) rest = ap (λ xs. w.width ∷ xs) (link_widths ws rest)

  all_wire_widths : (ps : List P) → wire_widths (all_wires d ps) ≡ gather (λ p. block_wires (d.block p)) ps
  all_wire_widths [] = refl
  all_wire_widths (p ∷ ps) = link_widths (d.block p).wires (all_wires d ps) ∙ ap (λ xs. block_wires (d.block p) ++ xs) (all_wire_widths ps)

  pub register_at : (p : P) (i : ℕ) → Among p d.parts → 0 < get_or (block_registers (d.block p)) i 0
      → get_or (register_widths (all_declared (all_registers d d.parts) (all_memories d d.parts))) (start registers_of d p + i) 0 ≡ get_or (block_registers (d.block p)) i 0
  register_at p i a h = ap (λ xs. get_or xs (start registers_of d p + i) 0) all_register_widths
      ∙ get_gather (λ p. block_registers (d.block p)) (λ p. registers_of (d.block p)) (start registers_of d) [] 0 d.parts refl (runs registers_of d l) (λ p a. length_map word_width (d.block p).registers) p i 0 a (some_below (λ n. n) 0 (block_registers (d.block p)) i refl h)

  pub memory_at : (p : P) (i : ℕ) → Among p d.parts → 0 < (get_or (block_memories (d.block p)) i (0, 0)).1
      → get_or (memory_widths (all_declared (all_registers d d.parts) (all_memories d d.parts))) (start memories_of d p + i) (0, 0) ≡ get_or (block_memories (d.block p)) i (0, 0)
  memory_at p i a h = ap (λ xs. get_or xs (start memories_of d p + i) (0, 0)) all_memory_widths
      ∙ get_gather (λ p. block_memories (d.block p)) (λ p. memories_of (d.block p)) (start memories_of d) [] 0 d.parts refl (runs memories_of d l) (λ p a. length_map block_memory_width (d.block p).memories) p i (0, 0) a (some_below (λ (x : ℕ × ℕ). x.1) (0, 0) (block_memories (d.block p)) i refl h)

  pub wire_at : (p : P) (i : ℕ) → Among p d.parts → 0 < get_or (block_wires (d.block p)) i 0 → get_or (wire_widths (all_wires d d.parts)) (start wires_of d p + i) 0 ≡ get_or (block_wires (d.block p)) i 0
  wire_at p i a h = ap (λ xs. get_or xs (start wires_of d p + i) 0) (all_wire_widths d.parts)
      ∙ get_gather (λ p. block_wires (d.block p)) (λ p. wires_of (d.block p)) (start wires_of d) [] 0 d.parts refl (runs wires_of d l) (λ p a. length_map block_wire_width (d.block p).wires) p i 0 a (some_below (λ n. n) 0 (block_wires (d.block p)) i refl h)

-- ---- first values fit
words_declared : (rs : List Word) (ds : List Declared) → words_fit rs ≡ true → declared_typed ds ≡ true → declared_typed (map declare_register rs ++ ds) ≡ true
words_declared [] ds h k = k
words_declared (r ∷ rs) ds h k = let p = and_parts (word_fits r) (words_fit rs) h in and_from _ _ p.0 (words_declared rs ds p.1 k)

memories_declared : (ms : List BlockMemory) → memories_fit ms ≡ true → declared_typed (map declare_memory ms) ≡ true
memories_declared [] h = refl
memories_declared (m ∷ ms) h =
    let p = and_parts ((nat_le 1 m.index && nat_le m.index 16) && word_fits m.first) (memories_fit ms) h in
    let q = and_parts (nat_le 1 m.index && nat_le m.index 16) (word_fits m.first) p.0 in
    and_from _ _ q.0 (and_from _ _ q.1 (memories_declared ms p.1))

words_both : (xs ys : List Word) → words_fit xs ≡ true → words_fit ys ≡ true → words_fit (xs ++ ys) ≡ true
words_both [] ys h k = k
words_both (x ∷ xs) ys h k = let p = and_parts (word_fits x) (words_fit xs) h in and_from _ _ p.0 (words_both xs ys p.1 k)

memories_both : (xs ys : List BlockMemory) → memories_fit xs ≡ true → memories_fit ys ≡ true → memories_fit (xs ++ ys) ≡ true
memories_both [] ys h k = k
memories_both (x ∷ xs) ys h k = let p = and_parts ((nat_le 1 x.index && nat_le x.index 16) && word_fits x.first) (memories_fit xs) h in and_from _ _ p.0 (memories_both xs ys p.1 k)

words_gathered : {P : Type 0} (g : P → List Word) (ps : List P) → ((p : P) → Among p ps → words_fit (g p) ≡ true) → words_fit (gather g ps) ≡ true
words_gathered g [] h = refl
words_gathered g (p ∷ ps) h = words_both (g p) (gather g ps) (h p (inl refl)) (words_gathered g ps (λ q a. h q (inr a)))

memories_gathered : {P : Type 0} (g : P → List BlockMemory) (ps : List P) → ((p : P) → Among p ps → memories_fit (g p) ≡ true) → memories_fit (gather g ps) ≡ true
memories_gathered g [] h = refl
memories_gathered g (p ∷ ps) h = memories_both (g p) (gather g ps) (h p (inl refl)) (memories_gathered g ps (λ q a. h q (inr a)))

pub all_declared_typed : {P : Type 0} (d : Whole P) → ((p : P) → Among p d.parts → words_fit (d.block p).registers ≡ true) → ((p : P) → Among p d.parts → memories_fit (d.block p).memories ≡ true)
    → declared_typed (all_declared (all_registers d d.parts) (all_memories d d.parts)) ≡ true
all_declared_typed d h k =
    words_declared (all_registers d d.parts) (map declare_memory (all_memories d d.parts)) (words_gathered (λ p. (d.block p).registers) d.parts h)
    (memories_declared (all_memories d d.parts) (memories_gathered (λ p. (d.block p).memories) d.parts k))
