-- Registers that are set at the same places to the same values stay the same.
use Rattle.std.specs.Prelude.{◌≡◌, ◌==◌, ℕ, suc, ◌<◌, ◌≤◌, Bool, true, false, cond, if◌then◌else◌, List, [], ◌∷◌, ◌++◌, length, slice_set}
use Rattle.std.proofs.Common.{get_or, refl, sym, ap, ◌∙◌, subst, arith, inl, inr, append_assoc, append-nil}
use Rattle.std.proofs.lemmas.Bool.{cases_eq, eq-eqb, ne_eqb}
use Rattle.std.proofs.lemmas.List.{length-set, get_or-set_same, get_or-set_other}
use Rattle.std.proofs.lemmas.List.Elements.{filter-append}
use Rattle.net_core.specs.declared.tree.Word.{Word}
use Rattle.net_core.specs.declared.tree.Net.{Net}
use Rattle.net_core.specs.Nets.{Tree, StatementTree, SBlock, SIf, SIfElse, SSet, SStore, StatementTrees, SEnd, SThen}
use Rattle.net_core.specs.Value.{nothing, Env, value}
use Rattle.net_core.specs.Clock.{Stored, done, all_done, edge}
use Rattle.register_rules.specs.NarrowRegisters.Narrow.{Each}
use Rattle.register_rules.specs.EqualRegisters.Alike.{AreAlike, Repeats}
use Rattle.register_rules.specs.EqualRegisters.Settings.{HoldTheSame, SettingTree, behind, all_behind, settings, all_settings, block_settings, of_register, IsSetAlike}

-- ---- places
abbrev EachPlace : (ℕ → Type 0) → List SettingTree → Type 0
EachPlace P [] = Unit {0}
EachPlace P (x ∷ xs) = P x.place × EachPlace P xs

each_append : (P : ℕ → Type 0) (xs ys : List SettingTree) → EachPlace P xs → EachPlace P ys → EachPlace P (xs ++ ys)
each_append P [] ys a b = b
each_append P (x ∷ xs) ys a b = (a.0, each_append P xs ys a.1 b)

each_weaker : (P Q : ℕ → Type 0) → ((n : ℕ) → P n → Q n) → (xs : List SettingTree) → EachPlace P xs → EachPlace Q xs
each_weaker P Q f [] a = tt
each_weaker P Q f (x ∷ xs) a = (f x.place a.0, each_weaker P Q f xs a.1)

each_of : (P : ℕ → Type 0) (k : ℕ) (xs : List SettingTree) → EachPlace P xs → EachPlace P (of_register k xs)
each_of P k [] a = tt
each_of P k (x ∷ xs) a =
    let rest = each_of P k xs a.1 in
    elim (x.register == k) as (λ t. EachPlace P (cond t (x ∷ of_register k xs) (of_register k xs))) [ true ↦ (a.0, rest) | false ↦ rest ]

abbrev Between : ℕ → ℕ → ℕ → Type 0
Between low high n = (low ≤ n) × (n < high)

wider : (a b c d : ℕ) (xs : List SettingTree) → c ≤ a → b ≤ d → EachPlace (Between a b) xs → EachPlace (Between c d) xs
wider a b c d xs l m h = each_weaker (Between a b) (Between c d) (λ n is. (omega (arith, is.0), omega (arith, is.1))) xs h

mutual
  grows : (p : ℕ) (a : StatementTree Net) → p ≤ behind p a
  grows p (SBlock more) = omega (arith, all_grows (suc p) more)
  grows p (SIf c a) = omega (arith, grows (suc p) a)
  grows p (SIfElse c a b) = omega (arith, grows (suc p) a, grows (suc (behind (suc p) a)) b)
  grows p (SSet r e) = omega arith
  grows p (SStore m i e) = omega arith

  all_grows : (p : ℕ) (more : StatementTrees Net) → p ≤ all_behind p more
  all_grows p SEnd = omega arith
  all_grows p (SThen a more) = omega (arith, grows p a, all_grows (behind p a) more)

both_range : (p m q : ℕ) (xs ys : List SettingTree) → suc p ≤ m → m ≤ q → EachPlace (Between (suc p) m) xs → EachPlace (Between m q) ys → EachPlace (Between (suc p) q) (xs ++ ys)
both_range p m q xs ys l h a b = each_append (Between (suc p) q) xs ys (wider (suc p) m (suc p) q xs (omega arith) h a) (wider m q (suc p) q ys l (omega arith) b)

mutual
  range : (p : ℕ) (a : StatementTree Net) → EachPlace (Between p (suc (behind p a))) (settings p a)
  range p (SBlock more) = wider (suc p) (suc (all_behind (suc p) more)) p (suc (suc (all_behind (suc p) more))) (all_settings (suc p) more) (omega arith) (omega arith) (all_range (suc p) more)
  range p (SIf c a) = wider (suc p) (suc (behind (suc p) a)) p (suc (suc (behind (suc p) a))) (settings (suc p) a) (omega arith) (omega arith) (range (suc p) a)
  range p (SIfElse c a b) =
      let m = suc (behind (suc p) a) in
      wider (suc p) (suc (behind m b)) p (suc (suc (behind m b))) (settings (suc p) a ++ settings m b) (omega arith) (omega arith)
      (both_range p m (suc (behind m b)) (settings (suc p) a) (settings m b) (omega (arith, grows (suc p) a)) (omega (arith, grows m b)) (range (suc p) a) (range m b))
  range p (SSet r e) = ((omega arith, omega arith), tt)
  range p (SStore m i e) = tt

  all_range : (p : ℕ) (more : StatementTrees Net) → EachPlace (Between p (suc (all_behind p more))) (all_settings p more)
  all_range p SEnd = tt
  all_range p (SThen a more) =
      let q = behind p a in
      let high = suc (all_behind q more) in
      each_append (Between p high) (settings p a) (all_settings q more)
      (wider p (suc q) p high (settings p a) (omega arith) (omega (arith, all_grows q more)) (range p a))
      (wider q high p high (all_settings q more) (grows p a) (omega arith) (all_range q more))

block_range : (p : ℕ) (rest : List (StatementTree Net)) → EachPlace (λ n. p ≤ n) (block_settings p rest)
block_range p [] = tt
block_range p (a ∷ rest) =
    let q = suc (behind p a) in
    each_append (λ n. p ≤ n) (settings p a) (block_settings q rest) (each_weaker (Between p q) (λ n. p ≤ n) (λ n is. is.0) (settings p a) (range p a))
    (each_weaker (λ n. q ≤ n) (λ n. p ≤ n) (λ n is. omega (arith, is, grows p a)) (block_settings q rest) (block_range q rest))

-- ---- lists of one register
regrouped : (k : ℕ) (xs ys zs : List SettingTree) → xs ++ of_register k (ys ++ zs) ≡ (xs ++ of_register k ys) ++ of_register k zs
regrouped k xs ys zs = ap (λ l. xs ++ l) (filter-append (λ (x : SettingTree). x.register == k) ys zs) ∙ sym (append_assoc xs (of_register k ys) (of_register k zs))

module _ (v : Env Net) where
  each_by : (a b c d : List SettingTree) → a ≡ b → c ≡ d → Each (IsSetAlike v) a c → Each (IsSetAlike v) b d
  each_by a b c d e f h = subst (λ l. Each (IsSetAlike v) l d) e (subst (λ l. Each (IsSetAlike v) a l) f h)

  -- what stands before a place is alike, and so is what stands behind it
  split : (m : ℕ) (xs ys us vs : List SettingTree) → EachPlace (λ n. n < m) xs → EachPlace (λ n. n < m) us → EachPlace (λ n. m ≤ n) ys → EachPlace (λ n. m ≤ n) vs
      → Each (IsSetAlike v) (xs ++ ys) (us ++ vs) → Each (IsSetAlike v) xs us × Each (IsSetAlike v) ys vs
  split m [] ys [] vs a b c d h = (tt, h)
  split m [] [] (u ∷ us) vs a b c d h = absurd h
  split m [] (y ∷ ys) (u ∷ us) vs a b c d h = absurd (omega (arith, h.0.0, c.0, b.0))
  split m (x ∷ xs) ys [] [] a b c d h = absurd h
  split m (x ∷ xs) ys [] (w ∷ vs) a b c d h = absurd (omega (arith, h.0.0, a.0, d.0))
  split m (x ∷ xs) ys (u ∷ us) vs a b c d h = let r = split m xs ys us vs a.1 b.1 c d h.1 in ((h.0, r.0), r.1)

  split_of : (j k m : ℕ) (xs ys : List SettingTree) → EachPlace (λ n. n < m) xs → EachPlace (λ n. m ≤ n) ys → Each (IsSetAlike v) (of_register j (xs ++ ys)) (of_register k (xs ++ ys))
      → Each (IsSetAlike v) (of_register j xs) (of_register k xs) × Each (IsSetAlike v) (of_register j ys) (of_register k ys)
  split_of j k m xs ys a b h =
      split m (of_register j xs) (of_register j ys) (of_register k xs) (of_register k ys) (each_of (λ n. n < m) j xs a) (each_of (λ n. n < m) k xs a) (each_of (λ n. m ≤ n) j ys b) (each_of (λ n. m ≤ n) k ys b)
      (each_by _ _ _ _ (regrouped j [] xs ys) (regrouped k [] xs ys) h)

  -- ---- the word that a register has then
  abbrev last : Word → List SettingTree → Word
  last w [] = w
  last w (x ∷ xs) = last (value v x.value) xs

  last_append : (w : Word) (xs ys : List SettingTree) → last w (xs ++ ys) ≡ last (last w xs) ys
  last_append w [] ys = refl
  last_append w (x ∷ xs) ys = last_append (value v x.value) xs ys

  same_last : (w : Word) (xs ys : List SettingTree) → Each (IsSetAlike v) xs ys → last w xs ≡ last w ys
  same_last w [] [] h = refl
  same_last w [] (y ∷ ys) h = absurd h
  same_last w (x ∷ xs) [] h = absurd h
  same_last w (x ∷ xs) (y ∷ ys) h = same_last (value v x.value) xs ys h.1 ∙ ap (λ u. last u ys) h.0.1

  set_effect : (q p r : ℕ) (e : Tree Net) (s : Stored) → q < length s.registers
      → get_or (done v (SSet r e) s).registers q nothing ≡ last (get_or s.registers q nothing) (of_register q (settings p (SSet r e)))
  set_effect q p r e s l =
      let x : SettingTree = record { register = r; place = p; value = e } in
      let w = value v e in
      let chosen = λ (t : Bool). last (get_or s.registers q nothing) (cond t (x ∷ []) []) in
      elim (cases_eq r q) [
        | inl here ↦ subst (λ n. get_or (slice_set s.registers n w) q nothing ≡ w) (sym here) (get_or-set_same s.registers q w nothing l) ∙ sym (ap chosen (eq-eqb r q here))
        | inr other ↦ get_or-set_other s.registers r q w nothing (λ z. other (sym z)) ∙ sym (ap chosen (ne_eqb r q other))
      ]

  module _ (j k : ℕ) where
    held_by : (s : Stored) (w : Word) (xs ys : List SettingTree) → Each (IsSetAlike v) xs ys → j < length s.registers → k < length s.registers
        → get_or s.registers j nothing ≡ last w xs → get_or s.registers k nothing ≡ last w ys → HoldTheSame j k s
    held_by s w xs ys h first second f g = record { first = first; second = second; same = f ∙ same_last w xs ys h ∙ sym g }

    -- Two registers of which these have been set at a place, since when they held one word, and are set to the rest from there on.
    record Open (p : ℕ) (left right : List SettingTree) (s : Stored) : Type 0 where
      word : Word
      xs : List SettingTree
      ys : List SettingTree
      xs_there : EachPlace (λ n. n < suc p) xs
      ys_there : EachPlace (λ n. n < suc p) ys
      alike : Each (IsSetAlike v) (xs ++ left) (ys ++ right)
      first : j < length s.registers
      second : k < length s.registers
      first_is : get_or s.registers j nothing ≡ last word xs
      second_is : get_or s.registers k nothing ≡ last word ys

    opened : (p : ℕ) (left right : List SettingTree) (s : Stored) → Each (IsSetAlike v) left right → HoldTheSame j k s → Open p left right s
    opened p left right s h held = record {
      word = get_or s.registers j nothing;
      xs = [];
      ys = [];
      xs_there = tt;
      ys_there = tt;
      alike = h;
      first = held.first;
      second = held.second;
      first_is = refl;
      second_is = sym held.same;
    }

    abbrev Keeps : StatementTree Net → Type 0
    Keeps a = (p : ℕ) (s : Stored) → Each (IsSetAlike v) (of_register j (settings p a)) (of_register k (settings p a)) → HoldTheSame j k s → HoldTheSame j k (done v a s)

    abbrev KeepAll : StatementTrees Net → Type 0
    KeepAll more = (p : ℕ) (s : Stored) → Open p (of_register j (all_settings p more)) (of_register k (all_settings p more)) s → HoldTheSame j k (all_done v more s)

    either_same : (t : Bool) (s u : Stored) → HoldTheSame j k s → HoldTheSame j k u → HoldTheSame j k (if t then s else u)
    either_same true s u a b = a
    either_same false s u a b = b

    set_more : (r : ℕ) (e : Tree Net) (more : StatementTrees Net) → KeepAll more → KeepAll (SThen (SSet r e) more)
    set_more r e more keep p s o =
        let x : SettingTree = record { register = r; place = p; value = e } in
        let one = x ∷ [] in
        let rest = all_settings p more in
        let count = length-set s.registers r (value v e) in
        keep p (done v (SSet r e) s) (record {
          word = o.word;
          xs = o.xs ++ of_register j one;
          ys = o.ys ++ of_register k one;
          xs_there = each_append (λ n. n < suc p) o.xs (of_register j one) o.xs_there (each_of (λ n. n < suc p) j one (omega arith, tt));
          ys_there = each_append (λ n. n < suc p) o.ys (of_register k one) o.ys_there (each_of (λ n. n < suc p) k one (omega arith, tt));
          alike = each_by _ _ _ _ (regrouped j o.xs one rest) (regrouped k o.ys one rest) o.alike;
          first = omega (arith, count, o.first);
          second = omega (arith, count, o.second);
          first_is = set_effect j p r e s o.first ∙ ap (λ u. last u (of_register j one)) o.first_is ∙ sym (last_append o.word o.xs (of_register j one));
          second_is = set_effect k p r e s o.second ∙ ap (λ u. last u (of_register k one)) o.second_is ∙ sym (last_append o.word o.ys (of_register k one));
        })

    -- a statement whose places are its own
    apart : (a : StatementTree Net) (more : StatementTrees Net) → ((p : ℕ) → suc p ≤ behind p a) → ((p : ℕ) → EachPlace (Between (suc p) (behind p a)) (settings p a)) → Keeps a → KeepAll more → KeepAll (SThen a more)
    apart a more passes within keep keep_all p s o =
        let q = behind p a in
        let mine = settings p a in
        let rest = all_settings q more in
        let later = each_weaker (Between q (suc (all_behind q more))) (λ n. q ≤ n) (λ n is. is.0) rest (all_range q more) in
        let from : EachPlace (λ n. suc p ≤ n) (mine ++ rest) = each_append (λ n. suc p ≤ n) mine rest (each_weaker (Between (suc p) q) (λ n. suc p ≤ n) (λ n is. is.0) mine (within p))
        (each_weaker (λ n. q ≤ n) (λ n. suc p ≤ n) (λ n is. omega (arith, is, passes p)) rest later) in
        let one = split (suc p) o.xs (of_register j (mine ++ rest)) o.ys (of_register k (mine ++ rest)) o.xs_there o.ys_there (each_of (λ n. suc p ≤ n) j (mine ++ rest) from) (each_of (λ n. suc p ≤ n) k (mine ++ rest) from) o.alike in
        let two = split_of j k q mine rest (each_weaker (Between (suc p) q) (λ n. n < q) (λ n is. is.1) mine (within p)) later one.1 in
        let held = keep p s two.0 (held_by s o.word o.xs o.ys one.0 o.first o.second o.first_is o.second_is) in
        keep_all q (done v a s) (opened q (of_register j rest) (of_register k rest) (done v a s) two.1 held)

    step : (a : StatementTree Net) (more : StatementTrees Net) → Keeps a → KeepAll more → KeepAll (SThen a more)
    step (SBlock inner) more keep keep_all = apart (SBlock inner) more (λ p. omega (arith, all_grows (suc p) inner)) (λ p. all_range (suc p) inner) keep keep_all
    step (SIf c a) more keep keep_all = apart (SIf c a) more (λ p. omega (arith, grows (suc p) a)) (λ p. range (suc p) a) keep keep_all
    step (SIfElse c a b) more keep keep_all =
        apart (SIfElse c a b) more (λ p. omega (arith, grows (suc p) a, grows (suc (behind (suc p) a)) b))
        (λ p. both_range p (suc (behind (suc p) a)) (suc (behind (suc (behind (suc p) a)) b)) (settings (suc p) a) (settings (suc (behind (suc p) a)) b) (omega (arith, grows (suc p) a)) (omega (arith, grows (suc (behind (suc p) a)) b)) (range (suc p) a) (range (suc (behind (suc p) a)) b))
        keep keep_all
    step (SSet r e) more keep keep_all = set_more r e more keep_all
    step (SStore m i e) more keep keep_all = λ p s o. keep_all p (done v (SStore m i e) s) (record {
      word = o.word;
      xs = o.xs;
      ys = o.ys;
      xs_there = o.xs_there;
      ys_there = o.ys_there;
      alike = o.alike;
      first = o.first;
      second = o.second;
      first_is = o.first_is;
      second_is = o.second_is;
    })

    mutual
      same : (a : StatementTree Net) → Keeps a
      same (SBlock more) p s h held = all_same more (suc p) s (opened (suc p) (of_register j (all_settings (suc p) more)) (of_register k (all_settings (suc p) more)) s h held)
      same (SIf c a) p s h held = either_same ((value v c).value == 0) s (done v a s) held (same a (suc p) s h held)
      same (SIfElse c a b) p s h held =
          let m = suc (behind (suc p) a) in
          let two = split_of j k m (settings (suc p) a) (settings m b) (each_weaker (Between (suc p) m) (λ n. n < m) (λ n is. is.1) (settings (suc p) a) (range (suc p) a))
          (each_weaker (Between m (suc (behind m b))) (λ n. m ≤ n) (λ n is. is.0) (settings m b) (range m b)) h in
          either_same ((value v c).value == 0) (done v b s) (done v a s) (same b m s two.1 held) (same a (suc p) s two.0 held)
      same (SSet r e) p s h held =
          let count = length-set s.registers r (value v e) in
          held_by (done v (SSet r e) s) (get_or s.registers j nothing) (of_register j (settings p (SSet r e))) (of_register k (settings p (SSet r e))) h (omega (arith, count, held.first)) (omega (arith, count, held.second))
          (set_effect j p r e s held.first) (set_effect k p r e s held.second ∙ ap (λ u. last u (of_register k (settings p (SSet r e)))) (sym held.same))
      same (SStore m i e) p s h held = record { first = held.first; second = held.second; same = held.same }

      all_same : (more : StatementTrees Net) → KeepAll more
      all_same SEnd p s o = held_by s o.word o.xs o.ys (each_by _ _ _ _ (append-nil o.xs) (append-nil o.ys) o.alike) o.first o.second o.first_is o.second_is
      all_same (SThen a more) p s o = step a more (same a) (all_same more) p s o

    edge_same : (rest : List (StatementTree Net)) (p : ℕ) (s : Stored) → Each (IsSetAlike v) (of_register j (block_settings p rest)) (of_register k (block_settings p rest)) → HoldTheSame j k s → HoldTheSame j k (edge v rest s)
    edge_same [] p s h held = held
    edge_same (a ∷ rest) p s h held =
        let q = suc (behind p a) in
        let two = split_of j k q (settings p a) (block_settings q rest) (each_weaker (Between p q) (λ n. n < q) (λ n is. is.1) (settings p a) (range p a)) (block_range q rest) h in
        edge_same rest q (done v a s) two.1 (same a p s two.0 held)

-- a register that is set alike repeats the one that is listed for it
pub set_repeats : (words : List Word) (registers wires : List ℕ) (always : List (StatementTree Net)) (k j : ℕ) → j ≡ get_or registers k k → k < length words → j < length words → get_or words k nothing ≡ get_or words j nothing
    → ((v : Env Net) → AreAlike registers wires wires v v → Each (IsSetAlike v) (of_register k (block_settings 0 always)) (of_register j (block_settings 0 always))) → Repeats words registers wires always k
set_repeats words registers wires always k j is l m e alike = record {
  begins = e ∙ ap (λ n. get_or words n nothing) is;
  stays = λ v s nets held count.
      let now : HoldTheSame k j s = record { first = omega (arith, l, count); second = omega (arith, m, count); same = held k ∙ sym (ap (λ n. get_or s.registers n nothing) is) } in
      (edge_same v k j always 0 s (alike v nets) now).same ∙ ap (λ n. get_or (edge v always s).registers n nothing) is;
}

-- and so does one that is listed for itself
pub own_repeats : (words : List Word) (registers wires : List ℕ) (always : List (StatementTree Net)) (k : ℕ) → get_or registers k k ≡ k → Repeats words registers wires always k
own_repeats words registers wires always k is = record {
  begins = sym (ap (λ n. get_or words n nothing) is);
  stays = λ v s nets held count. sym (ap (λ n. get_or (edge v always s).registers n nothing) is);
}
