-- Statements that store: what they leave in the memories, that they are well typed and spelled, and what they read.
use Rattle.std.specs.Prelude.{◌≡◌, ◌≢◌, ℕ, zero, suc, ◌+◌, ◌<◌, ◌≤◌, ◌==◌, if◌then◌else◌, Bool, true, false, List, [], ◌∷◌, length, map, slice_set}
use Rattle.std.specs.List.{AllByRecursion}
use Rattle.std.proofs.Common.{get_or, refl, sym, ap, ◌∙◌, subst, arith}
use Rattle.std.proofs.lemmas.List.{length-set, get_or-set_same, get_or-set_other}
use Rattle.std.proofs.Math.Seq.{map-set_same}
use Rattle.net_core.specs.declared.tree.Word.{Word}
use Rattle.net_core.specs.Nets.{StatementTree, SEnd}
use Rattle.net_core.specs.Chains.{statements_before}
use Rattle.net_core.specs.Value.{word, bit, Env, value}
use Rattle.net_core.specs.Clock.{Stored, done, all_done, edge}
use Rattle.net_core.specs.Width.{Scope, width_of, same, statements_typed}
use Rattle.block_core.specs.design_rules.FormedSyntax.{tree_spelled, statements_depth, all_placed, all_trees_pass}
use Rattle.block_core.specs.Parts.{AllWithin}
use Rattle.block_core.specs.Order.{Reads}
use Rattle.block_core.specs.Formed.{block_memory_width, StatementsRead}
use Rattle.block_core.proofs.list_laws_laws.BoolLaws.{and_is}
use Rattle.frame_net.specs.Stores.{Store, widths_memory, store_statement, store_statements}
use Rattle.frame_net.proofs.FormLaws.{one_is, same_is}

-- statements in a block, one after another
pub in_turn : {N : Type 0} (v : Env N) (list : List (StatementTree N)) (s : Stored) → all_done v (statements_before list SEnd) s ≡ edge v list s
in_turn v [] s = refl
in_turn v (a ∷ list) s = in_turn v list (done v a s)

-- a memory takes a word at an index, or stays
abbrev pub put : Bool → List Word → ℕ → Word → List Word
put t m i w = if t then slice_set m i w else m

-- ---- one store
abbrev stored_if : Bool → Stored → ℕ → ℕ → Word → Stored
stored_if t s at i w = if t then s else record s { memories = slice_set s.memories at (slice_set (get_or s.memories at []) i w) }

registers_if : (t : Bool) (s : Stored) (at i : ℕ) (w : Word) → (stored_if t s at i w).registers ≡ s.registers
registers_if true s at i w = refl
registers_if false s at i w = refl

other_if : (t : Bool) (s : Stored) (at i j : ℕ) (w : Word) → j ≢ at → get_or (stored_if t s at i w).memories j [] ≡ get_or s.memories j []
other_if true s at i j w h = refl
other_if false s at i j w h = get_or-set_other s.memories at j (slice_set (get_or s.memories at []) i w) [] h

here_if : (t : Bool) (s : Stored) (at i : ℕ) (w : Word) → at < length s.memories → get_or (stored_if t s at i w).memories at [] ≡ (if t then get_or s.memories at [] else slice_set (get_or s.memories at []) i w)
here_if true s at i w h = refl
here_if false s at i w h = get_or-set_same s.memories at (slice_set (get_or s.memories at []) i w) [] h

lengths_if : (t : Bool) (s : Stored) (at i : ℕ) (w : Word) → map length (stored_if t s at i w).memories ≡ map length s.memories
lengths_if true s at i w = refl
lengths_if false s at i w = map-set_same length s.memories at (slice_set (get_or s.memories at []) i w) [] (length-set (get_or s.memories at []) i w)

count_if : (t : Bool) (s : Stored) (at i : ℕ) (w : Word) → length (stored_if t s at i w).memories ≡ length s.memories
count_if true s at i w = refl
count_if false s at i w = length-set s.memories at (slice_set (get_or s.memories at []) i w)

-- ---- one after another
module _ {N : Type 0} (v : Env N) where
  abbrev off : Store N → Bool
  off r = (value v r.condition).value == 0

  abbrev after_one : ℕ → Store N → Stored → Stored
  after_one at r s = done v (store_statement at r) s

  pub registers_stay : (rs : List (Store N)) (at : ℕ) (s : Stored) → (edge v (store_statements at rs) s).registers ≡ s.registers
  registers_stay [] at s = refl
  registers_stay (r ∷ rs) at s = registers_stay rs (suc at) (after_one at r s) ∙ registers_if (off r) s at (value v r.at).value (value v r.value)

  pub lengths_stay : (rs : List (Store N)) (at : ℕ) (s : Stored) → map length (edge v (store_statements at rs) s).memories ≡ map length s.memories
  lengths_stay [] at s = refl
  lengths_stay (r ∷ rs) at s = lengths_stay rs (suc at) (after_one at r s) ∙ lengths_if (off r) s at (value v r.at).value (value v r.value)

  pub earlier_stay : (rs : List (Store N)) (at j : ℕ) (s : Stored) → j < at → get_or (edge v (store_statements at rs) s).memories j [] ≡ get_or s.memories j []
  earlier_stay [] at j s h = refl
  earlier_stay (r ∷ rs) at j s h =
      let other : j ≢ at = omega arith in
      earlier_stay rs (suc at) j (after_one at r s) (omega arith) ∙ other_if (off r) s at (value v r.at).value j (value v r.value) other

  -- what the memory of a store has after it
  abbrev pub taken : Store N → List Word → List Word
  taken r m = if (value v r.condition).value == 0 then m else slice_set m (value v r.at).value (value v r.value)

  pub store_at : (rs : List (Store N)) (at k : ℕ) (r : Store N) (s : Stored) → k < length rs → r ≡ get_or rs k r → at + k < length s.memories
      → get_or (edge v (store_statements at rs) s).memories (at + k) [] ≡ taken r (get_or s.memories (at + k) [])
  store_at [] at k r s l e h = absurd (omega arith)
  store_at (q ∷ rs) at zero r s l e h =
      let z : at + 0 ≡ at = omega arith in
      let h' : at < length s.memories = omega arith in
      rw z (subst (λ x. get_or (edge v (store_statements at (q ∷ rs)) s).memories at [] ≡ taken x (get_or s.memories at [])) (sym e)
      (earlier_stay rs (suc at) at (after_one at q s) (omega arith) ∙ here_if (off q) s at (value v q.at).value (value v q.value) h'))
  store_at (q ∷ rs) at (suc k) r s l e h =
      let z : at + suc k ≡ suc at + k = omega arith in
      let t = after_one at q s in
      let n : length t.memories ≡ length s.memories = count_if (off q) s at (value v q.at).value (value v q.value) in
      let other : suc at + k ≢ at = omega arith in
      rw z (store_at rs (suc at) k r t (omega arith) e (omega (arith, n)) ∙ ap (taken r) (other_if (off q) s at (value v q.at).value (suc at + k) (value v q.value) other))

  -- where no condition holds nothing is stored
  abbrev pub IsOff : Store N → Type 0
  IsOff r = (value v r.condition).value ≡ 0

  pub none_stored : (rs : List (Store N)) (at : ℕ) (s : Stored) → AllByRecursion IsOff rs → edge v (store_statements at rs) s ≡ s
  none_stored [] at s h = refl
  none_stored (r ∷ rs) at s h =
      ap (λ t. edge v (store_statements (suc at) rs) (stored_if (t == 0) s at (value v r.at).value (value v r.value))) h.0 ∙ none_stored rs (suc at) s h.1

  -- a store by the values of its condition, its index and its word
  pub taken_is : (r : Store N) (m : List Word) (t : Bool) (w i : ℕ) (x : Word) → value v r.condition ≡ bit t → value v r.at ≡ word w i → value v r.value ≡ x → taken r m ≡ put t m i x
  taken_is r m t w i x c a e =
      ap (λ (y : Word). if y.value == 0 then m else slice_set m (value v r.at).value (value v r.value)) c ∙ by_test t
    where
      by_test : (t : Bool) → (if (bit t).value == 0 then m else slice_set m (value v r.at).value (value v r.value)) ≡ put t m i x
      by_test true = rw (a, e) refl
      by_test false = refl

-- ---- well typed
pub record IsStoreTyped {N : Type 0} (s : Scope N) (index width : ℕ) (r : Store N) : Type 0 where
  pub condition : width_of s r.condition ≡ 1
  pub at : width_of s r.at ≡ index
  pub value : width_of s r.value ≡ width
  pub some_index : 0 < index
  pub some_width : 0 < width

abbrev pub AreStoresTyped : {N : Type 0} → Scope N → List (ℕ × ℕ) → List (Store N) → Type 0
AreStoresTyped s [] rs = Unit {0}
AreStoresTyped s (w ∷ ws) [] = Unit {0}
AreStoresTyped s (w ∷ ws) (r ∷ rs) = IsStoreTyped s w.0 w.1 r × AreStoresTyped s ws rs

pub stores_typed : {N : Type 0} (s : Scope N) (rs : List ℕ) (ms ws : List (ℕ × ℕ)) (stores : List (Store N)) (at : ℕ) → ((k : ℕ) → k < length stores → get_or ms (at + k) (0, 0) ≡ get_or ws k (0, 0)) → length stores ≡ length ws
    → AreStoresTyped s ws stores → statements_typed s rs ms (statements_before (store_statements at stores) SEnd) ≡ true
stores_typed s rs ms ws [] at found n h = refl
stores_typed s rs ms [] (r ∷ stores) at found n h = absurd (omega arith)
stores_typed s rs ms (w ∷ ws) (r ∷ stores) at found n h =
    let z : at + 0 ≡ at = omega arith in
    let here : get_or ms at (0, 0) ≡ w = ap (λ k. get_or ms k (0, 0)) (sym z) ∙ found 0 (omega arith) in
    let t = h.0 in
    and_is _ _
    (and_is _ _ (one_is _ t.condition)
    (and_is _ _ (ap (λ p. same p.0 (width_of s r.at)) here ∙ same_is _ _ t.some_index t.at) (ap (λ p. same p.1 (width_of s r.value)) here ∙ same_is _ _ t.some_width t.value)))
    (stores_typed s rs ms ws stores (suc at) (λ k l. let e : suc at + k ≡ at + suc k = omega arith in ap (λ i. get_or ms i (0, 0)) e ∙ found (suc k) (omega arith)) (omega arith) h.1)

pub widths_are : (ws : List (ℕ × ℕ)) → map block_memory_width (map widths_memory ws) ≡ ws
widths_are [] = refl
widths_are (w ∷ ws) = ap (λ l. w ∷ l) (widths_are ws)

-- ---- what they read and set
abbrev pub AllReads : {N : Type 0} → (N → Type 0) → List (Store N) → Type 0
AllReads q [] = Unit {0}
AllReads q (r ∷ rs) = (Reads q r.condition × (Reads q r.at × Reads q r.value)) × AllReads q rs

pub stores_read : {N : Type 0} (q : N → Type 0) (rs : List (Store N)) (at : ℕ) → AllReads q rs → StatementsRead q (statements_before (store_statements at rs) SEnd)
stores_read q [] at h = tt
stores_read q (r ∷ rs) at h = ((h.0.0, (h.0.1.0, h.0.1.1)), stores_read q rs (suc at) h.1)

pub stores_within : {N : Type 0} (r m : ℕ) (rs : List (Store N)) (at : ℕ) → at + length rs ≤ m → AllWithin r m (statements_before (store_statements at rs) SEnd)
stores_within r m [] at h = tt
stores_within r m (x ∷ rs) at h = (omega arith, stores_within r m rs (suc at) (omega arith))

-- ---- spelled
abbrev pub AllSpelled : {N : Type 0} → List (Store N) → Type 0
AllSpelled [] = Unit {0}
AllSpelled (r ∷ rs) = ((tree_spelled r.condition ≡ true) × ((tree_spelled r.at ≡ true) × (tree_spelled r.value ≡ true))) × AllSpelled rs

pub stores_deep : {N : Type 0} (rs : List (Store N)) (at : ℕ) → statements_depth (statements_before (store_statements at rs) SEnd) ≤ 2
stores_deep [] at = omega arith
stores_deep (r ∷ rs) at = let h = stores_deep rs (suc at) in omega arith

pub stores_placed : {N : Type 0} (rs : List (Store N)) (at : ℕ) → all_placed (statements_before (store_statements at rs) SEnd) ≡ true
stores_placed [] at = refl
stores_placed (r ∷ rs) at = stores_placed rs (suc at)

pub stores_pass : {N : Type 0} (rs : List (Store N)) (at : ℕ) → AllSpelled rs → all_trees_pass tree_spelled (statements_before (store_statements at rs) SEnd) ≡ true
stores_pass [] at h = refl
stores_pass (r ∷ rs) at h = and_is _ _ (and_is _ _ h.0.0 (and_is _ _ h.0.1.0 h.0.1.1)) (stores_pass rs (suc at) h.1)
