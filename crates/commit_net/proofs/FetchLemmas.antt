-- The block that reads words of a slot is what it is to be.
use Rattle.std.specs.Prelude.{nat_le, ◌&&◌, map as map_list, replicate}
use Rattle.std.specs.List.{list_all, range_with_len}
use Rattle.std.proofs.Common.{◌≡◌, ◌⊎◌, inl, inr, ℕ, zero, suc, ◌+◌, ◌<◌, ◌≤◌, Bool, true, List, [], ◌∷◌, get_or, refl, ◌∙◌, ap, arith}
use Rattle.std.proofs.lemmas.Bool.{le-leb, cases_lt}
use Rattle.net_core.specs.Nets.{Tree, TRead}
use Rattle.net_core.specs.Ports.{port_list}
use Rattle.net_core.specs.Value.{Env, right_value}
use Rattle.net_core.specs.Width.{Scope, right_width, same}
use Rattle.block_core.specs.design_rules.FormedSyntax.{right_spelled, depth}
use Rattle.block_core.specs.ProductBlocks.Alone.{wire_flat}
use Rattle.block_core.specs.declared.name.Name.{Name}
use Rattle.block_core.specs.declared.name.Name.TheVariants as name
use Rattle.block_core.specs.Blocks.{BlockWireTree, Whole}
use Rattle.block_core.specs.Parts.{Solve, Goes}
use Rattle.block_core.specs.Order.{RightReads, IsBefore, InOrder}
use Rattle.block_core.specs.Formed.{names_scope, name_width, block_memories, block_wire_width, block_wires_typed}
use Rattle.block_core.proofs.list_laws_laws.BoolLaws.{and_is}
use Rattle.block_core.proofs.OrderLaws.{still_before}
use Rattle.overlay_net.specs.hazard_core.Commits.{word_count}
use Rattle.frame_net.specs.SourcesNets.{held}
use Rattle.frame_net.proofs.FormLaws.{wire_is}
use Rattle.hash_net.specs.array_net.Words.{word_width}
use Rattle.hash_net.specs.array_net.WordTrees.{word_shown}
use Rattle.hash_net.proofs.array_net_laws.WordLaws.{width_some, width_most}
use Rattle.hash_net.proofs.array_net_laws.WordReadLaws.{filled_reads, filled_depth, filled_apart, filled_flat, shown_width, shown_value}
use Rattle.commit_net.specs.Fetching.{fetched_wire, fetch_block, IsFetch}

-- ---- wires by their numbers
module _ {N : Type 0} (f : ℕ → BlockWireTree N) where
  widths_of : (a n : ℕ) → ((i : ℕ) → (f i).width ≡ 64) → map_list block_wire_width (map_list f (range_with_len a n)) ≡ replicate n 64
  widths_of a zero h = refl
  widths_of a (suc n) h = λ i. h a i ∷ widths_of (a + 1) n h i

  all_pass : (p : BlockWireTree N → Bool) (a n : ℕ) → ((i : ℕ) → a ≤ i → i < a + n → p (f i) ≡ true) → list_all p (map_list f (range_with_len a n)) ≡ true
  all_pass p a zero h = refl
  all_pass p a (suc n) h = and_is _ _ (h a (omega arith) (omega arith)) (all_pass p (a + 1) n (λ i l m. h i (omega (arith, l)) (omega (arith, m))))

  all_typed : (s : Scope N) (a n : ℕ) → ((i : ℕ) → a ≤ i → i < a + n → (same (f i).width (right_width s (f i).right) && nat_le (f i).width 64) ≡ true) → block_wires_typed s (map_list f (range_with_len a n)) ≡ true
  all_typed s a zero h = refl
  all_typed s a (suc n) h = and_is _ _ (h a (omega arith) (omega arith)) (all_typed s (a + 1) n (λ i l m. h i (omega (arith, l)) (omega (arith, m))))

module _ {P : Type 0} (f : ℕ → BlockWireTree (Name P)) (part : P) where
  solved_at : (v : Env (Name P)) (at a n i : ℕ) → at ≡ a → Solve v part at (map_list f (range_with_len a n)) → a ≤ i → i < a + n → v.net (name.Wire part i) ≡ right_value v (f i).right
  solved_at v at a zero i e h l m = absurd (omega arith)
  solved_at v at a (suc n) i e h l m = by_order (λ less. solved_at v (suc at) (a + 1) n i (omega arith) h.1 (omega arith) (omega arith)) (cases_lt a i)
    where
      by_order : (a < i → v.net (name.Wire part i) ≡ right_value v (f i).right) → (a < i) ⊎ (i ≤ a) → v.net (name.Wire part i) ≡ right_value v (f i).right
      by_order later (inl less) = later less
      by_order later (inr over) =
          let s : i ≡ at = omega arith in
          let z : a ≡ i = omega arith in
          ap (λ k. v.net (name.Wire part k)) s ∙ h.0 ∙ ap (λ k. right_value v (f k).right) z

  all_in_order : (d : Whole P) (before : List P) (at a n : ℕ) → ((i k : ℕ) → a ≤ i → i < a + n → RightReads (IsBefore d before part k) (f i).right) → InOrder d before part at (map_list f (range_with_len a n))
  all_in_order d before at a zero h = tt
  all_in_order d before at a (suc n) h = (h a at (omega arith) (omega arith), all_in_order d before (suc at) (a + 1) n (λ i k l m. h i k (omega (arith, l)) (omega (arith, m))))

  all_go : (v : Env (Name P)) (a n : ℕ) → ((i : ℕ) → Goes v (f i ∷ [])) → Goes v (map_list f (range_with_len a n))
  all_go v a zero h = tt
  all_go v a (suc n) h = ((h a).0, all_go v (a + 1) n h)

module _ {P : Type 0} (part of : P) (bits first bytes from count : ℕ) (slot : Name P) (some : 1 ≤ bits) (most : bits ≤ 16) (inside : from + count ≤ word_count bytes) where
  abbrev f : ℕ → BlockWireTree (Name P)
  f i = fetched_wire of first bytes slot (from + i)

  there : (i : ℕ) → i < 0 + count → from + i < word_count bytes
  there i l = omega arith

  wide : (i : ℕ) → i < 0 + count → 0 < word_width bytes (from + i)
  wide i l = let h = width_some bytes (from + i) (there i l) in omega (arith, h)

  abbrev t : ℕ → Tree (Name P)
  t i = held of (first + (from + i)) (TRead slot)

  one_typed : (w : Whole P) → ((j : ℕ) → j < word_count bytes → get_or (block_memories (w.block of)) (first + j) (0, 0) ≡ (bits, word_width bytes j)) → name_width w port_list slot ≡ bits → (i : ℕ) → i < 0 + count
      → (same (f i).width (right_width (names_scope w port_list) (f i).right) && nat_le (f i).width 64) ≡ true
  one_typed w has e i l =
      let j = from + i in
      let m = has j (there i l) in
      wire_is 64 _ (omega arith) (omega arith) (shown_width of bits first bytes some most (names_scope w port_list) j (TRead slot) (there i l) (ap (λ (x : ℕ × ℕ). x.0) m) (ap (λ (x : ℕ × ℕ). x.1) m) e)

  one_spelled : (i : ℕ) → i < 0 + count → right_spelled (f i).right ≡ true
  one_spelled i l =
      let j = from + i in
      let low = filled_depth (word_width bytes j) (wide i l) (width_most bytes j) (t i) (omega arith) in
      and_is _ _ (le-leb (depth (word_shown of first bytes j (TRead slot))) 64 (omega (arith, low))) (filled_apart (word_width bytes j) (wide i l) (width_most bytes j) (t i) refl)

  pub is_fetch : IsFetch part of bits first bytes from count slot (fetch_block of first bytes from count slot)
  is_fetch = record {
    registers = refl;
    memories = refl;
    wires = widths_of f 0 count (λ i. refl);
    typed = λ w has e. record { registers = refl; memories = refl; wires = all_typed f (names_scope w port_list) 0 count (λ i l m. one_typed w has e i m); statement = refl };
    ordered = λ w before g h. all_in_order f part w before 0 0 count (λ i k l m. filled_reads (word_width bytes (from + i)) (wide i m) (width_most bytes (from + i)) (t i) (IsBefore w before part k) (g, still_before w before part k slot h));
    reads = λ w. tt;
    within = tt;
    wires_spelled = all_pass f (λ w. right_spelled w.right) 0 count (λ i l m. one_spelled i m);
    spelled = refl;
    free = record { wires = λ made. all_pass f (wire_flat made) 0 count (λ i l m. filled_flat (word_width bytes (from + i)) (wide i m) (width_most bytes (from + i)) (t i) made refl); statement = λ made. refl };
    goes = λ v. all_go f part v 0 count (λ i. (refl, tt));
    stays = λ v s. refl;
    shows = λ v s cap strings n i solved sees holds room e lt l.
        solved_at f part v 0 0 count i refl solved (omega arith) (omega (arith, l)) ∙ shown_value of bits first bytes some most v s cap strings (from + i) n (TRead slot) sees holds room (there i (omega (arith, l))) lt e;
  }
