-- Statements by which registers take operands: what they read and set, and what they leave.
use Rattle.std.specs.Prelude.{slice_set}
use Rattle.std.proofs.Common.{◌≡◌, ℕ, suc, ◌+◌, ◌<◌, ◌≤◌, Bool, true, All, List, [], ◌∷◌, ◌++◌, length, take, get_or, refl, sym, ◌∙◌, ap, subst, arith, append_assoc, map as map_list}
use Rattle.std.proofs.lemmas.Bool.{le-leb}
use Rattle.std.proofs.lemmas.List.{take_all, take_more_set, length-set, append-nil}
use Rattle.std.proofs.lemmas.List.Elements.{All-head, All-tail}
use Rattle.net_core.specs.declared.tree.Word.{Word}
use Rattle.net_core.specs.Nets.{StatementTree, SEnd}
use Rattle.net_core.specs.Chains.{statements_before, all_of}
use Rattle.net_core.specs.Value.{Env, value}
use Rattle.net_core.specs.Clock.{Stored, done, all_done}
use Rattle.net_core.specs.Width.{Scope, width_of, same, statements_typed}
use Rattle.block_core.specs.design_rules.FormedSyntax.{depth, tree_spelled, statement_spelled, statements_depth, all_placed, all_trees_pass}
use Rattle.net_core.specs.ProductRules.Products.{statements_flat}
use Rattle.block_core.proofs.ProductBlocks.FreeLaws.{flat_without}
use Rattle.block_core.specs.Parts.{AllWithin}
use Rattle.block_core.specs.Formed.{StatementsRead}
use Rattle.block_core.proofs.list_laws_laws.BoolLaws.{and_is}
use Rattle.cell_nets.specs.declared.operand.Operand.{Operand}
use Rattle.cell_nets.specs.Operands.{IsWide, AreFit, AreDeclared, IsAvailable, IsNetOf}
use Rattle.cell_nets.proofs.WireLemmas.{reads_as}
use Rattle.frame_net.proofs.FormLaws.{same_is}
use Rattle.cell_nets.specs.declared.operand_blocks.registers.Taken.{Taken}
use Rattle.cell_nets.specs.OperandBlocks.Registers.{operand_in, width_in, taken_word}
use Rattle.cell_nets.specs.OperandBlocks.Sets.{IsSet, AreSets}

-- ---- one more
pub sets_more : {N : Type 0} (at n : ℕ) (ts : List (Taken N)) (ss : List (StatementTree N)) (t : Taken N) (s : StatementTree N) → n ≡ at + length ts → IsSet n t s → AreSets at ts ss → AreSets at (ts ++ t ∷ []) (ss ++ s ∷ [])
sets_more at n [] [] t s e h r = let f : n ≡ at = omega arith in (subst (λ k. IsSet k t s) f h, tt)
sets_more at n [] (y ∷ ss) t s e h r = absurd r
sets_more at n (x ∷ ts) [] t s e h r = absurd r
sets_more at n (x ∷ ts) (y ∷ ss) t s e h r = (r.0, sets_more (suc at) n ts ss t s (omega arith) h r.1)

-- ---- what of each holds
-- the operands are there
abbrev pub AreThere : {N : Type 0} → List (Operand N) → List (Taken N) → Type 0
AreThere ins [] = Unit {0}
AreThere ins (t ∷ ts) = IsAvailable ins t.operand × AreThere ins ts

pub are_there : {N : Type 0} (ins : List (Operand N)) (ts : List (Taken N)) → All (IsAvailable ins) (map_list operand_in ts) → AreThere ins ts
are_there ins [] h = tt
are_there ins (t ∷ ts) h = (All-head (IsAvailable ins) t.operand (map_list operand_in ts) h, are_there ins ts (All-tail (IsAvailable ins) t.operand (map_list operand_in ts) h))

-- and the widths some
abbrev pub AreSome : {N : Type 0} → List (Taken N) → Type 0
AreSome [] = Unit {0}
AreSome (t ∷ ts) = (0 < t.width) × AreSome ts

pub are_some : {N : Type 0} (ts : List (Taken N)) → All (λ t. IsWide (width_in t)) ts → AreSome ts
are_some [] h = tt
are_some (t ∷ ts) h = ((All-head (λ t. IsWide (width_in t)) t ts h).some, are_some ts (All-tail (λ t. IsWide (width_in t)) t ts h))

module _ {N : Type 0} where
  -- well typed
  pub sets_typed :
      (s : Scope N) (ins : List (Operand N)) → AreDeclared s ins → (rs : List ℕ) (ms : List (ℕ × ℕ)) (ts : List (Taken N)) (ss : List (StatementTree N)) (at : ℕ) → ((k : ℕ) → k < length ts → get_or rs (at + k) 0 ≡ get_or (map_list width_in ts) k 0)
      → AreThere ins ts → AreSome ts → AreSets at ts ss → statements_typed s rs ms (statements_before ss SEnd) ≡ true
  sets_typed s ins d rs ms [] [] at found there some h = refl
  sets_typed s ins d rs ms [] (y ∷ ss) at found there some h = absurd h
  sets_typed s ins d rs ms (t ∷ ts) [] at found there some h = absurd h
  sets_typed s ins d rs ms (t ∷ ts) (y ∷ ss) at found there some h =
      let z : at ≡ at + 0 = omega arith in
      let here : get_or rs at 0 ≡ t.width = ap (λ k. get_or rs k 0) z ∙ found 0 (omega arith) in
      let one : same (get_or rs at 0) (width_of s h.0.tree) ≡ true = ap (λ n. same n (width_of s h.0.tree)) here ∙ same_is t.width (width_of s h.0.tree) some.0 ((h.0.part ins there.0).part.typed s d) in
      rw h.0.is (and_is _ _ one (sets_typed s ins d rs ms ts ss (suc at) (λ k l. let e : suc at + k ≡ at + suc k = omega arith in ap (λ i. get_or rs i 0) e ∙ found (suc k) (omega arith)) there.1 some.1 h.1))

  -- what they read and set
  pub sets_read : (ins : List (Operand N)) (q : N → Type 0) → ((n : N) → IsNetOf ins n → q n) → (ts : List (Taken N)) (ss : List (StatementTree N)) (at : ℕ) → AreThere ins ts → AreSets at ts ss → StatementsRead q (statements_before ss SEnd)
  sets_read ins q sub [] [] at there h = tt
  sets_read ins q sub [] (y ∷ ss) at there h = absurd h
  sets_read ins q sub (t ∷ ts) [] at there h = absurd h
  sets_read ins q sub (t ∷ ts) (y ∷ ss) at there h = rw h.0.is (reads_as (IsNetOf ins) q sub h.0.tree (h.0.part ins there.0).part.reads, sets_read ins q sub ts ss (suc at) there.1 h.1)

  pub sets_within : (r m : ℕ) (ts : List (Taken N)) (ss : List (StatementTree N)) (at : ℕ) → at + length ts ≤ r → AreSets at ts ss → AllWithin r m (statements_before ss SEnd)
  sets_within r m [] [] at l h = tt
  sets_within r m [] (y ∷ ss) at l h = absurd h
  sets_within r m (t ∷ ts) [] at l h = absurd h
  sets_within r m (t ∷ ts) (y ∷ ss) at l h = rw h.0.is (omega arith, sets_within r m ts ss (suc at) (omega arith) h.1)

  -- spelled
  abbrev all_spelled : List (StatementTree N) → Type 0
  all_spelled ss = (statements_depth (statements_before ss SEnd) ≤ 1) × (all_placed (statements_before ss SEnd) ≡ true) × (all_trees_pass tree_spelled (statements_before ss SEnd) ≡ true)

  spelled_all : (ins : List (Operand N)) (ts : List (Taken N)) (ss : List (StatementTree N)) (at : ℕ) → AreThere ins ts → AreSets at ts ss → all_spelled ss
  spelled_all ins [] [] at there h = (omega arith, refl, refl)
  spelled_all ins [] (y ∷ ss) at there h = absurd h
  spelled_all ins (t ∷ ts) [] at there h = absurd h
  spelled_all ins (t ∷ ts) (y ∷ ss) at there h =
      let k = spelled_all ins ts ss (suc at) there.1 h.1 in
      let p = (h.0.part ins there.0).part in
      let shallow : depth h.0.tree ≤ 64 = omega (arith, p.depth) in
      let deep = k.0 in
      subst (λ y. all_spelled (y ∷ ss)) (sym h.0.is) (omega arith, k.1, and_is (tree_spelled h.0.tree) _ (and_is _ _ (le-leb (depth h.0.tree) 64 shallow) p.apart) k.2)

  pub sets_spelled : (ins : List (Operand N)) (ts : List (Taken N)) (ss : List (StatementTree N)) → AreThere ins ts → AreSets 0 ts ss → statement_spelled (all_of ss) ≡ true
  sets_spelled ins ts ss there h =
      let k = spelled_all ins ts ss 0 there h in
      let deep = k.0 in
      let whole : suc (statements_depth (statements_before ss SEnd)) ≤ 64 = omega arith in
      and_is _ _ (le-leb _ 64 whole) (and_is _ _ k.1 k.2)

  -- without products
  pub sets_flat : (made : N → Bool) (ins : List (Operand N)) (ts : List (Taken N)) (ss : List (StatementTree N)) (at : ℕ) → AreThere ins ts → AreSets at ts ss → statements_flat made (statements_before ss SEnd) ≡ true
  sets_flat made ins [] [] at there h = refl
  sets_flat made ins [] (y ∷ ss) at there h = absurd h
  sets_flat made ins (t ∷ ts) [] at there h = absurd h
  sets_flat made ins (t ∷ ts) (y ∷ ss) at there h = rw h.0.is (and_is _ _ (flat_without made h.0.tree (h.0.part ins there.0).part.no_product) (sets_flat made ins ts ss (suc at) there.1 h.1))

  -- ---- what they leave
  registers_from :
      (v : Env N) (ins : List (Operand N)) → AreFit v ins → (ts : List (Taken N)) (ss : List (StatementTree N)) (at : ℕ) (s : Stored) → AreThere ins ts → AreSets at ts ss → length s.registers ≡ at + length ts
      → (all_done v (statements_before ss SEnd) s).registers ≡ take at s.registers ++ map_list (taken_word v) ts
  registers_from v ins f [] [] at s there h e = sym (append-nil (take at s.registers) ∙ take_all at s.registers (omega (arith, e)))
  registers_from v ins f [] (y ∷ ss) at s there h e = absurd h
  registers_from v ins f (t ∷ ts) [] at s there h e = absurd h
  registers_from v ins f (t ∷ ts) (y ∷ ss) at s there h e =
      let w : Word = taken_word v t in
      let is : value v h.0.tree ≡ w = (h.0.part ins there.0).part.value v f in
      let n : suc at ≡ at + 1 = omega arith in
      ap (λ y. (all_done v (statements_before ss SEnd) (done v y s)).registers) h.0.is
      ∙ ap (λ y. (all_done v (statements_before ss SEnd) (record s { registers = slice_set s.registers at y })).registers) is
      ∙ registers_from v ins f ts ss (suc at) (record s { registers = slice_set s.registers at w }) there.1 h.1 (length-set s.registers at w ∙ omega (arith, e))
      ∙ ap (λ k. take k (slice_set s.registers at w) ++ map_list (taken_word v) ts) n
      ∙ ap (λ l. l ++ map_list (taken_word v) ts) (take_more_set s.registers at w (omega (arith, e)))
      ∙ append_assoc (take at s.registers) (w ∷ []) (map_list (taken_word v) ts)

  memories_from : (v : Env N) (ts : List (Taken N)) (ss : List (StatementTree N)) (at : ℕ) (s : Stored) → AreSets at ts ss → (all_done v (statements_before ss SEnd) s).memories ≡ s.memories
  memories_from v [] [] at s h = refl
  memories_from v [] (y ∷ ss) at s h = absurd h
  memories_from v (t ∷ ts) [] at s h = absurd h
  memories_from v (t ∷ ts) (y ∷ ss) at s h = ap (λ y. (all_done v (statements_before ss SEnd) (done v y s)).memories) h.0.is ∙ memories_from v ts ss (suc at) (record s { registers = slice_set s.registers at (value v h.0.tree) }) h.1

  pub sets_leave :
      (v : Env N) (ins : List (Operand N)) → AreFit v ins → (ts : List (Taken N)) (ss : List (StatementTree N)) (s : Stored) → AreThere ins ts → AreSets 0 ts ss → length s.registers ≡ length ts
      → ((done v (all_of ss) s).registers ≡ map_list (taken_word v) ts) × ((done v (all_of ss) s).memories ≡ s.memories)
  sets_leave v ins f ts ss s there h e = let z : length s.registers ≡ 0 + length ts = omega (arith, e) in (registers_from v ins f ts ss 0 s there h z, memories_from v ts ss 0 s h)
