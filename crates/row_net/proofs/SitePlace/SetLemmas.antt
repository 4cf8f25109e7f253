-- Statements that set registers where a net is 1.
use Rattle.std.specs.Prelude.{◌≡◌, ℕ, suc, ◌+◌, ◌<◌, ◌≤◌, Bool, true, List, [], ◌∷◌, ◌++◌, length, map as map_list, take, slice_set}
use Rattle.std.specs.List.{AllByRecursion, AllZip, list_all}
use Rattle.std.proofs.Common.{get_or, refl, sym, ap, ◌∙◌, arith, append_assoc}
use Rattle.std.proofs.lemmas.Bool.{and_parts, le-leb}
use Rattle.std.proofs.lemmas.List.{take_all, take_more_set, length-set, append-nil}
use Rattle.net_core.specs.declared.tree.Word.{Word}
use Rattle.net_core.specs.Nets.{Tree, SEnd}
use Rattle.net_core.specs.Chains.{statements_before}
use Rattle.net_core.specs.Value.{Env, value}
use Rattle.net_core.specs.Clock.{Stored, done, all_done}
use Rattle.net_core.specs.Width.{Scope, width_of, same, statements_typed}
use Rattle.block_core.specs.design_rules.FormedSyntax.{tree_spelled, statement_spelled, statements_depth, all_placed, all_trees_pass}
use Rattle.net_core.specs.ProductRules.Products.{is_flat, statements_flat}
use Rattle.block_core.specs.Parts.{AllWithin}
use Rattle.block_core.specs.Order.{Reads}
use Rattle.block_core.specs.Formed.{StatementsRead}
use Rattle.block_core.proofs.list_laws_laws.BoolLaws.{and_is}
use Rattle.frame_net.proofs.FormLaws.{same_is}
use Rattle.row_net.specs.PlaceNet.PlaceNets.{sets_from, set_statement}
use Rattle.row_net.specs.SitePlace.Inputs.{held_statement}

-- ---- well typed
abbrev pub OfWidth : {N : Type 0} → Scope N → ℕ → Tree N → Type 0
OfWidth s w t = (0 < w) × (width_of s t ≡ w)

pub sets_typed : {N : Type 0} (s : Scope N) (rs : List ℕ) (ms : List (ℕ × ℕ)) (ws : List ℕ) (ts : List (Tree N)) (at : ℕ) → ((k : ℕ) → k < length ts → get_or rs (at + k) 0 ≡ get_or ws k 0) → AllZip (OfWidth s) ws ts
    → statements_typed s rs ms (statements_before (sets_from at ts) SEnd) ≡ true
sets_typed s rs ms [] [] at found h = refl
sets_typed s rs ms [] (t ∷ ts) at found h = absurd h
sets_typed s rs ms (w ∷ ws) [] at found h = refl
sets_typed s rs ms (w ∷ ws) (t ∷ ts) at found h =
    let z : at ≡ at + 0 = omega arith in
    let here : get_or rs at 0 ≡ w = ap (λ k. get_or rs k 0) z ∙ found 0 (omega arith) in
    and_is _ _ (ap (λ n. same n (width_of s t)) here ∙ same_is w (width_of s t) h.0.0 h.0.1)
    (sets_typed s rs ms ws ts (suc at) (λ k l. let e : suc at + k ≡ at + suc k = omega arith in ap (λ i. get_or rs i 0) e ∙ found (suc k) (omega arith)) h.1)

-- ---- what they read and set
pub sets_read : {N : Type 0} (q : N → Type 0) (ts : List (Tree N)) (at : ℕ) → AllByRecursion (Reads q) ts → StatementsRead q (statements_before (sets_from at ts) SEnd)
sets_read q [] at h = tt
sets_read q (t ∷ ts) at h = (h.0, sets_read q ts (suc at) h.1)

pub sets_within : {N : Type 0} (r m : ℕ) (ts : List (Tree N)) (at : ℕ) → at + length ts ≤ r → AllWithin r m (statements_before (sets_from at ts) SEnd)
sets_within r m [] at h = tt
sets_within r m (t ∷ ts) at h = (omega arith, sets_within r m ts (suc at) (omega arith))

-- ---- spelled
sets_deep : {N : Type 0} (ts : List (Tree N)) (at : ℕ) → statements_depth (statements_before (sets_from at ts) SEnd) ≤ 1
sets_deep [] at = omega arith
sets_deep (t ∷ ts) at = let h = sets_deep ts (suc at) in omega arith

sets_placed : {N : Type 0} (ts : List (Tree N)) (at : ℕ) → all_placed (statements_before (sets_from at ts) SEnd) ≡ true
sets_placed [] at = refl
sets_placed (t ∷ ts) at = sets_placed ts (suc at)

abbrev pub IsSpelled : {N : Type 0} → Tree N → Type 0
IsSpelled t = tree_spelled t ≡ true

sets_pass : {N : Type 0} (ts : List (Tree N)) (at : ℕ) → AllByRecursion IsSpelled ts → all_trees_pass tree_spelled (statements_before (sets_from at ts) SEnd) ≡ true
sets_pass [] at h = refl
sets_pass (t ∷ ts) at h = and_is _ _ h.0 (sets_pass ts (suc at) h.1)

pub held_spelled : {N : Type 0} (advance : N) (ts : List (Tree N)) → AllByRecursion IsSpelled ts → statement_spelled (held_statement advance ts) ≡ true
held_spelled advance ts h =
    let deep : statements_depth (statements_before (sets_from 0 ts) SEnd) ≤ 1 = sets_deep ts 0 in
    let whole : suc (suc (statements_depth (statements_before (sets_from 0 ts) SEnd))) ≤ 64 = omega arith in
    and_is _ _ (le-leb _ 64 whole) (and_is _ _ (sets_placed ts 0) (sets_pass ts 0 h))

-- ---- no product
pub sets_flat : {N : Type 0} (made : N → Bool) (ts : List (Tree N)) (at : ℕ) → list_all (is_flat made) ts ≡ true → statements_flat made (statements_before (sets_from at ts) SEnd) ≡ true
sets_flat made [] at h = refl
sets_flat made (t ∷ ts) at h = let p = and_parts (is_flat made t) (list_all (is_flat made) ts) h in and_is _ _ p.0 (sets_flat made ts (suc at) p.1)

-- ---- what they leave
module _ {N : Type 0} (v : Env N) where
  registers_from : (ts : List (Tree N)) (at : ℕ) (s : Stored) → length s.registers ≡ at + length ts → (all_done v (statements_before (sets_from at ts) SEnd) s).registers ≡ take at s.registers ++ map_list (value v) ts
  registers_from [] at s h = let z : at ≡ length s.registers = omega (arith, h) in sym (append-nil (take at s.registers) ∙ take_all at s.registers (omega (arith, h)))
  registers_from (t ∷ ts) at s h =
      let x : Word = value v t in
      let n : suc at ≡ at + 1 = omega arith in
      registers_from ts (suc at) (record s { registers = slice_set s.registers at x }) (length-set s.registers at x ∙ omega (arith, h))
      ∙ ap (λ k. take k (slice_set s.registers at x) ++ map_list (value v) ts) n
      ∙ ap (λ l. l ++ map_list (value v) ts) (take_more_set s.registers at x (omega (arith, h)))
      ∙ append_assoc (take at s.registers) (x ∷ []) (map_list (value v) ts)

  memories_from : (ts : List (Tree N)) (at : ℕ) (s : Stored) → (all_done v (statements_before (sets_from at ts) SEnd) s).memories ≡ s.memories
  memories_from [] at s = refl
  memories_from (t ∷ ts) at s = memories_from ts (suc at) (record s { registers = slice_set s.registers at (value v t) })

  pub registers_are : (ts : List (Tree N)) (s : Stored) → length s.registers ≡ length ts → (done v (set_statement ts) s).registers ≡ map_list (value v) ts
  registers_are ts s h = let z : length s.registers ≡ 0 + length ts = omega (arith, h) in registers_from ts 0 s z ∙ refl

  pub memories_stay : (ts : List (Tree N)) (s : Stored) → (done v (set_statement ts) s).memories ≡ s.memories
  memories_stay ts s = memories_from ts 0 s
