-- The part that shows words of a slot is what it is to be.
use Rattle.std.specs.Prelude.{Contains, nat_le}
use Rattle.std.specs.List.{list_all, range_with_len}
use Rattle.std.proofs.Common.{◌≡◌, inl, inr, ◌∙◌, ℕ, zero, suc, ◌+◌, ◌<◌, ◌≤◌, ◌&&◌, Bool, true, All, List, [], ◌∷◌, ◌++◌, length, map as map_list, get_or, append_assoc, refl, sym, ap, subst, arith}
use Rattle.std.proofs.lemmas.Bool.{le-leb, and_parts}
use Rattle.std.proofs.lemmas.List.{get_or-map, length-map}
use Rattle.std.proofs.lemmas.List.Elements.{All-contains, Contains-append_left, Contains-append_right}
use Rattle.std.proofs.lemmas.List.FromFn.{get_or-map-range_with_len, length-map-range_with_len}
use Rattle.net_core.specs.Nets.{Tree, TRead}
use Rattle.net_core.specs.Ports.{port_list}
use Rattle.net_core.specs.Value.{word, Env, right_value}
use Rattle.net_core.specs.Width.{Scope, right_width, same}
use Rattle.block_core.specs.design_rules.FormedSyntax.{right_spelled, depth}
use Rattle.block_core.specs.ProductBlocks.Alone.{wire_flat}
use Rattle.block_core.specs.declared.name.Name.{Name}
use Rattle.block_core.specs.declared.name.Name.TheVariants as name
use Rattle.block_core.specs.Blocks.{BlockWireTree, Whole}
use Rattle.block_core.specs.Parts.{Solve, Goes}
use Rattle.block_core.specs.Order.{RightReads, IsBefore, InOrder}
use Rattle.block_core.specs.Formed.{names_scope, name_width, block_memories, block_wires_typed, IsThere}
use Rattle.block_core.proofs.list_laws_laws.BoolLaws.{and_is}
use Rattle.overlay_net.specs.cell_core.Cells.{bits_from}
use Rattle.overlay_net.specs.hazard_core.Commits.{word_count}
use Rattle.frame_net.specs.SourcesNets.{held}
use Rattle.frame_net.proofs.FormLaws.{wire_is}
use Rattle.hash_net.specs.array_net.Words.{word_width}
use Rattle.hash_net.specs.array_net.WordTrees.{word_shown}
use Rattle.hash_net.proofs.array_net_laws.WordLaws.{width_some, width_most}
use Rattle.hash_net.proofs.array_net_laws.WordReadLaws.{filled_reads, filled_depth, filled_apart, filled_flat, shown_width, shown_value}
use Rattle.overlay_net.specs.cell_nets.declared.operand.Operand.{Operand}
use Rattle.overlay_net.specs.cell_nets.declared.operand.Operand.TheVariants.{Net, Part}
use Rattle.overlay_net.specs.cell_nets.Operands.{number_in, HasWidth, IsOperand, AreFit, AreDeclared, IsNetOf}
use Rattle.overlay_net.specs.cell_nets.Wires.{own, behind}
use Rattle.commit_net.specs.Fetching.{fetched_wire}
use Rattle.overlay_net.specs.cell_nets.OperandBlocks.Wiring.{wires_block}
use Rattle.overlay_net.proofs.cell_nets_laws.OperandBlocks.WiringLaws.{behind_declared, behind_nets}
use Rattle.commit_net.specs.ChangeNet.Pointed.{wires_from, pointed_operands, IsOver, IsPointedWords}
use Rattle.commit_net.proofs.ChangeNet.PointedLaws.{all_both}

-- ---- wires after others
typed_both : {N : Type 0} (s : Scope N) (xs ys : List (BlockWireTree N)) → block_wires_typed s xs ≡ true → block_wires_typed s ys ≡ true → block_wires_typed s (xs ++ ys) ≡ true
typed_both s [] ys e g = g
typed_both s (x ∷ xs) ys e g = let q = and_parts (same x.width (right_width s x.right) && nat_le x.width 64) (block_wires_typed s xs) e in and_is _ _ q.0 (typed_both s xs ys q.1 g)

goes_both : {N : Type 0} (v : Env N) (xs ys : List (BlockWireTree N)) → Goes v xs → Goes v ys → Goes v (xs ++ ys)
goes_both v [] ys h g = g
goes_both v (x ∷ xs) ys h g = (h.0, goes_both v xs ys h.1 g)

module _ {P : Type 0} (p : P) where
  own_both : (at : ℕ) (xs ys : List (BlockWireTree (Name P))) (n : ℕ) → n ≡ at + length xs → own p at (xs ++ ys) ≡ own p at xs ++ own p n ys
  own_both at [] ys n e = let z : at ≡ n = omega (arith, e) in ap (λ k. own p k ys) z
  own_both at (x ∷ xs) ys n e = ap (λ l. Net (name.Wire p at) x.width ∷ l) (own_both (suc at) xs ys n (omega (arith, e)))

  pub solve_both : (v : Env (Name P)) (at : ℕ) (xs ys : List (BlockWireTree (Name P))) (n : ℕ) → n ≡ at + length xs → Solve v p at (xs ++ ys) → Solve v p at xs × Solve v p n ys
  solve_both v at [] ys n e h = let z : at ≡ n = omega (arith, e) in (tt, subst (λ k. Solve v p k ys) z h)
  solve_both v at (x ∷ xs) ys n e h = let r = solve_both v (suc at) xs ys n (omega (arith, e)) h.1 in ((h.0, r.0), r.1)

  order_both : (d : Whole P) (before : List P) (at : ℕ) (xs ys : List (BlockWireTree (Name P))) (n : ℕ) → n ≡ at + length xs → InOrder d before p at xs → InOrder d before p n ys → InOrder d before p at (xs ++ ys)
  order_both d before at [] ys n e h g = let z : n ≡ at = omega (arith, e) in subst (λ k. InOrder d before p k ys) z g
  order_both d before at (x ∷ xs) ys n e h g = (h.0, order_both d before (suc at) xs ys n (omega (arith, e)) h.1 g)

  -- what stands before the first wire of a part stands before any
  later : (d : Whole P) (before : List P) (k : ℕ) (n : Name P) → IsBefore d before p 0 n → IsBefore d before p k n
  later d before k (name.Port i) h = h
  later d before k (name.Register q i) h = h
  later d before k (name.Memory q i) h = h
  later d before k (name.Wire q i) (inl h) = absurd (omega (arith, h.1))
  later d before k (name.Wire q i) (inr h) = inr h

-- ---- wires of words
module _ {P : Type 0} (p of : P) (first bytes from : ℕ) (slot : Name P) where
  abbrev pub word_at_wire : ℕ → BlockWireTree (Name P)
  word_at_wire i = fetched_wire of first bytes slot (from + i)

  abbrev pub word_wires : ℕ → ℕ → List (BlockWireTree (Name P))
  word_wires a n = map_list word_at_wire (range_with_len a n)

  own_word : (at a n k : ℕ) → k < n → Contains (own p at (word_wires a n)) (Net (name.Wire p (at + k)) 64)
  own_word at a zero k l = absurd (omega arith)
  own_word at a (suc n) zero l = let z : at ≡ at + 0 = omega arith in subst (λ m. Contains (own p at (word_wires a (suc n))) (Net (name.Wire p m) 64)) z (0, omega arith, refl)
  own_word at a (suc n) (suc k) l =
      let r = own_word (suc at) (a + 1) n k (omega arith) in
      let z : suc at + k ≡ at + suc k = omega arith in
      let less = r.1 in
      subst (λ m. Contains (own p at (word_wires a (suc n))) (Net (name.Wire p m) 64)) z (suc r.0, omega (arith, less), r.2)

  solved_word : (v : Env (Name P)) (at a n k : ℕ) → Solve v p at (word_wires a n) → k < n → v.net (name.Wire p (at + k)) ≡ right_value v (word_at_wire (a + k)).right
  solved_word v at a zero k h l = absurd (omega arith)
  solved_word v at a (suc n) zero h l =
      let z : at + 0 ≡ at = omega arith in
      let y : a ≡ a + 0 = omega arith in
      ap (λ m. v.net (name.Wire p m)) z ∙ h.0 ∙ ap (λ m. right_value v (word_at_wire m).right) y
  solved_word v at a (suc n) (suc k) h l =
      let z : at + suc k ≡ suc at + k = omega arith in
      let y : a + 1 + k ≡ a + suc k = omega arith in
      ap (λ m. v.net (name.Wire p m)) z ∙ solved_word v (suc at) (a + 1) n k h.1 (omega arith) ∙ ap (λ m. right_value v (word_at_wire m).right) y

  words_go : (v : Env (Name P)) (a n : ℕ) → Goes v (word_wires a n)
  words_go v a zero = tt
  words_go v a (suc n) = (refl, words_go v (a + 1) n)

  words_pass : (f : BlockWireTree (Name P) → Bool) (a n : ℕ) → ((i : ℕ) → i < a + n → f (word_at_wire i) ≡ true) → list_all f (word_wires a n) ≡ true
  words_pass f a zero h = refl
  words_pass f a (suc n) h = and_is _ _ (h a (omega arith)) (words_pass f (a + 1) n (λ i l. h i (omega (arith, l))))

  words_typed : (s : Scope (Name P)) (a n : ℕ) → ((i : ℕ) → i < a + n → (same 64 (right_width s (word_at_wire i).right) && nat_le 64 64) ≡ true) → block_wires_typed s (word_wires a n) ≡ true
  words_typed s a zero h = refl
  words_typed s a (suc n) h = and_is _ _ (h a (omega arith)) (words_typed s (a + 1) n (λ i l. h i (omega (arith, l))))

  words_ordered : (d : Whole P) (before : List P) (at a n : ℕ) → ((i k : ℕ) → i < a + n → at ≤ k → RightReads (IsBefore d before p k) (word_at_wire i).right) → InOrder d before p at (word_wires a n)
  words_ordered d before at a zero h = tt
  words_ordered d before at a (suc n) h = (h a at (omega arith) (omega arith), words_ordered d before (suc at) (a + 1) n (λ i k l m. h i k (omega (arith, l)) (omega (arith, m))))

-- ---- the part
module _ {P : Type 0} (part of : P) (outside : List (Operand (Name P))) (old ws : List (BlockWireTree (Name P))) (a : Operand (Name P)) (shift bits first bytes from count : ℕ) (slot : Name P) (some : 1 ≤ bits) (most : bits ≤ 16) (inside : from + count ≤ word_count bytes) where
  abbrev fs : List (BlockWireTree (Name P))
  fs = word_wires part of first bytes from slot 0 count

  abbrev all : List (BlockWireTree (Name P))
  all = ws ++ fs

  abbrev words : List (Name P)
  words = wires_from part (length ws) count

  abbrev outs : List (Operand (Name P))
  outs = pointed_operands bits slot words

  at_wire : length ws ≡ 0 + length ws
  at_wire = omega arith

  there : (i : ℕ) → i < 0 + count → from + i < word_count bytes
  there i l = omega arith

  wide : (i : ℕ) → i < 0 + count → 0 < word_width bytes (from + i)
  wide i l = let h = width_some bytes (from + i) (there i l) in omega (arith, h)

  abbrev t : ℕ → Tree (Name P)
  t i = held of (first + (from + i)) (TRead slot)

  word_is : (i : ℕ) (d : Name P) → i < count → get_or words i d ≡ name.Wire part (length ws + i)
  word_is i d l = get_or-map-range_with_len (λ k. name.Wire part (length ws + k)) 0 count i i d l (omega arith)

  one_typed : (w : Whole P) → ((i : ℕ) → i < count → get_or (block_memories (w.block of)) (first + (from + i)) (0, 0) ≡ (bits, word_width bytes (from + i))) → name_width w port_list slot ≡ bits → (i : ℕ) → i < 0 + count
      → (same 64 (right_width (names_scope w port_list) (word_at_wire part of first bytes from slot i).right) && nat_le 64 64) ≡ true
  one_typed w has e i l =
      let m = has i (omega arith) in
      wire_is 64 _ (omega arith) (omega arith) (shown_width of bits first bytes some most (names_scope w port_list) (from + i) (TRead slot) (there i l) (ap (λ (x : ℕ × ℕ). x.0) m) (ap (λ (x : ℕ × ℕ). x.1) m) e)

  one_spelled : (i : ℕ) → i < 0 + count → right_spelled (word_at_wire part of first bytes from slot i).right ≡ true
  one_spelled i l =
      let j = from + i in
      let low = filled_depth (word_width bytes j) (wide i l) (width_most bytes j) (t i) (omega arith) in
      and_is _ _ (le-leb (depth (word_shown of first bytes j (TRead slot))) 64 (omega (arith, low))) (filled_apart (word_width bytes j) (wide i l) (width_most bytes j) (t i) refl)

  in_all : (o : Operand (Name P)) → Contains (behind part outside ws) o → Contains (behind part outside all) o
  in_all o c =
      subst (λ l. Contains l o) (append_assoc outside (own part 0 ws) (own part (length ws) fs) ∙ ap (λ l. outside ++ l) (sym (own_both part 0 ws fs (length ws) at_wire))) (Contains-append_left (behind part outside ws) (own part (length ws) fs) o c)

  word_in : (k : ℕ) → k < count → Contains (behind part outside all) (Net (name.Wire part (length ws + k)) 64)
  word_in k l =
      let o = Net (name.Wire part (length ws + k)) 64 in
      Contains-append_right outside (own part 0 all) o (subst (λ l. Contains l o) (sym (own_both part 0 ws fs (length ws) at_wire)) (Contains-append_right (own part 0 ws) (own part (length ws) fs) o (own_word part of first bytes from slot (length ws) 0 count k l)))

  module _ (x : IsOver part outside ws (Net slot bits)) (over : (v : Env (Name P)) → Solve v part 0 ws → Solve v part 0 old) (value : (v : Env (Name P)) → AreFit v outside → Solve v part 0 ws → (v.net slot).value ≡ bits_from (number_in v a) shift bits) where
    outs_in : All (Contains (behind part outside all)) outs
    outs_in zero d lt = in_all (Net slot bits) x.there
    outs_in (suc k) d lt =
        let at : k < length words = omega (arith, lt, length-map words (λ n. Net n 64)) in
        let l : k < count = omega (arith, at, length-map-range_with_len (λ i. name.Wire part (length ws + i)) 0 count) in
        subst (Contains (behind part outside all)) (sym (get_or-map (λ n. Net n 64) words k slot d at ∙ ap (λ n. Net n 64) (word_is k slot l))) (word_in k l)

    in_outs : (o : Operand (Name P)) → Contains outs o → Contains (behind part outside all) o
    in_outs o c = All-contains (Contains (behind part outside all)) outs o outs_in c

    out_net : (q : Name P → Type 0) → ((n : Name P) → IsNetOf outside n → q n) → ((i : ℕ) → i < length all → q (name.Wire part (0 + i))) → (n : Name P) → IsNetOf outs n → q n
    out_net q given mine n (u, inl c) = behind_nets part outside all q given mine n (u, inl (in_outs (Net n u) c))
    out_net q given mine n (u, inr (at, w, c)) = behind_nets part outside all q given mine n (u, inr (at, w, in_outs (Part n u at w) c))

    slot_before : (w : Whole P) (before : List P) → ((n : Name P) → IsNetOf outside n → IsBefore w before part 0 n) → (k : ℕ) → length ws ≤ k → IsBefore w before part k slot
    slot_before w before given k l = behind_nets part outside ws (IsBefore w before part k) (λ n h. later part w before k n (given n h)) (λ i m. inl (refl, omega (arith, l, m))) slot (bits, inl x.there)

    all_declared : (w : Whole P) → w.block part ≡ wires_block all → AreDeclared (names_scope w port_list) outside → AreDeclared (names_scope w port_list) (behind part outside all)
    all_declared w here declared = behind_declared part w (wires_block all) outside here declared

    apart : (v : Env (Name P)) → Solve v part 0 all → Solve v part 0 ws × Solve v part (length ws) fs
    apart v s = solve_both part v 0 ws fs (length ws) at_wire s

    fits : (v : Env (Name P)) → AreFit v outside → Solve v part 0 all → HasWidth v slot bits
    fits v f s = x.wires.fits v f (apart v s).0 (Net slot bits) x.there

    operands_are : All IsOperand outs
    operands_are zero d lt = x.operand
    operands_are (suc k) d lt =
        let at : k < length words = omega (arith, lt, length-map words (λ n. Net n 64)) in
        subst IsOperand (sym (get_or-map (λ n. Net n 64) words k slot d at)) (record { some = omega arith; most = omega arith })

    pub pointed : IsPointedWords part of outside old a shift bits first bytes from count slot words (wires_block all)
    pointed = record {
      registers = refl;
      memories = refl;
      count_of_words = length-map-range_with_len (λ i. name.Wire part (length ws + i)) 0 count;
      typed = λ w here has declared.
          let s = names_scope w port_list in
          let every = all_declared w here declared in
          record {
            registers = refl;
            memories = refl;
            wires = typed_both s ws fs (x.wires.typed s (λ o c. every o (in_all o c))) (words_typed part of first bytes from slot s 0 count (one_typed w has (every (Net slot bits) (in_all (Net slot bits) x.there))));
            statement = refl;
          };
      ordered = λ w before g given.
          order_both part w before 0 ws fs (length ws) at_wire (x.wires.ordered w before given)
          (words_ordered part of first bytes from slot w before (length ws) 0 count (λ i k l m. filled_reads (word_width bytes (from + i)) (wide i l) (width_most bytes (from + i)) (t i) (IsBefore w before part k) (g, slot_before w before given k m)));
      reads = λ w. tt;
      within = tt;
      wires_spelled = all_both (λ w. right_spelled w.right) ws fs x.wires.spelled (words_pass part of first bytes from slot (λ w. right_spelled w.right) 0 count one_spelled);
      spelled = refl;
      free = record {
        wires = λ made. all_both (wire_flat made) ws fs (x.free made) (words_pass part of first bytes from slot (wire_flat made) 0 count (λ i l. filled_flat (word_width bytes (from + i)) (wide i l) (width_most bytes (from + i)) (t i) made refl));
        statement = λ made. refl;
      };
      goes = λ v f s. goes_both v ws fs (x.wires.goes v f (apart v s).0) (words_go part of first bytes from slot v 0 count);
      stays = λ v s. refl;
      operands = operands_are;
      declared = λ w here declared o c. all_declared w here declared o (in_outs o c);
      before = λ w earlier later here among given. out_net (IsBefore w earlier later 0) given (λ i l. inr (among, subst (λ b. 0 + i < length b.wires) (sym here) (omega (arith, l))));
      there = λ w among given. out_net (IsThere w) given (λ i l. among);
      over = λ v s. over v (apart v s).0;
      number = λ v f s. ap (λ k. word k (v.net slot).value) (fits v f s).width ∙ ap (word bits) (value v f (apart v s).0);
      fit = fits;
      shows = λ v s cap strings n i d solved sees holds room e lt l.
          let z : 0 + i ≡ i = omega arith in
          ap v.net (word_is i d l)
          ∙ solved_word part of first bytes from slot v (length ws) 0 count i (apart v solved).1 l
          ∙ ap (λ k. right_value v (word_at_wire part of first bytes from slot k).right) z
          ∙ shown_value of bits first bytes some most v s cap strings (from + i) n (TRead slot) sees holds room (there i (omega (arith, l))) lt e;
    }
