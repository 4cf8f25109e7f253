-- Statements that store words: they are well typed, read what is there and are spelled, and what they leave in the memories.
use Rattle.std.specs.Prelude.{◌≡◌, ◌≢◌, ℕ, zero, suc, ◌+◌, ◌-◌, ◌*◌, ◌/◌, ◌%◌, ◌^◌, ◌<◌, ◌≤◌, ◌==◌, Bool, true, false, ◌&&◌, ◌||◌, bit_and, List, [], ◌∷◌, length}
use Rattle.std.specs.List.{AllByRecursion}
use Rattle.std.proofs.Common.{get_or, refl, sym, ap, ◌∙◌, subst, arith, div-one}
use Rattle.std.proofs.lemmas.Bool.{lt-ltb, le-leb}
use Rattle.std.proofs.lemmas.Bool.Decides.{nat_tests}
use Rattle.std.proofs.lemmas.Grind.{common_steps}
use Rattle.std.proofs.lemmas.List.{get_or-set_same, get_or-set_other, get_or_default}
use Rattle.net_core.specs.declared.ports.TheConstants.{HOST_WORD, HOST_DATA}
use Rattle.net_core.specs.declared.tree.Op.TheVariants.{And, Or, Equal}
use Rattle.net_core.specs.declared.tree.Word.{Word}
use Rattle.net_core.specs.Nets.{TRead, TBinary, SEnd}
use Rattle.net_core.specs.Chains.{statements_before}
use Rattle.net_core.specs.Value.{word, bit, nothing, part_select, Env, value, apply, conditional}
use Rattle.net_core.specs.Clock.{Stored, edge}
use Rattle.net_core.specs.Width.{Scope, conditional_width, part_select_width}
use Rattle.net_core.specs.ProductRules.Products.{is_flat, statements_flat}
use Rattle.net_core.proofs.BitLaws.{and_bits, or_bits}
use Rattle.block_core.specs.declared.name.Name.{Name}
use Rattle.block_core.specs.declared.name.Name.TheVariants as name
use Rattle.block_core.proofs.list_laws_laws.BoolLaws.{and_is}
use Rattle.hazard_core.specs.Commits.{word_count, word_at as byte_word, with_word}
use Rattle.frame_net.specs.Frames.{word_at}
use Rattle.frame_net.specs.Stores.{Store, store_statements}
use Rattle.frame_net.proofs.StoreLaws.{put, taken, taken_is, store_at, IsOff, AreStoresTyped, AllReads, AllSpelled}
use Rattle.array_net.specs.declared.words.WordNets.{WordNets}
use Rattle.array_net.specs.Words.{word_width, HoldsWords, AsksWord, AsksWords, HaveWidths, AreThere}
use Rattle.array_net.specs.WordTrees.{is_word, host_data, memories_from, word_store, word_stores}
use Rattle.array_net.proofs.WordLaws.{width_some, width_most, word_there, word_written, word_kept}

-- ---- widths
pub select_is : (of w : ℕ) → 2 ≤ of → 1 ≤ w → w ≤ of → part_select_width of (w - 1) 0 ≡ w
select_is of w some one most =
    let y : 0 ≤ w - 1 = omega arith in
    let z : w - 1 < of = omega arith in
    let n : w - 1 + 1 - 0 ≡ w = omega arith in
    rw (le-leb 2 of some, le-leb 0 (w - 1) y, lt-ltb (w - 1) of z) n

pub choice_is : (c a b w : ℕ) → c ≡ 1 → a ≡ w → b ≡ w → 0 < w → conditional_width c a b ≡ w
choice_is c a b w one left right some =
    let e : (w == w) ≡ true = grind (arith, nat_tests) in
    rw (one, left, right, e) refl

-- ---- the low bits of a number
pub low_part : (of w n : ℕ) → 1 ≤ w → part_select (word of n) (w - 1) 0 ≡ word w (n % 2 ^ w)
low_part of w n some =
    let e : w - 1 + 1 - 0 ≡ w = omega arith in
    ap (λ k. word k (n / 2 ^ 0 % 2 ^ k)) e ∙ ap (λ m. word w (m % 2 ^ w)) (div-one n)

-- ---- bits
-- what a bit of 0 lets through
pub shut : (x : Word) → apply And (bit false) x ≡ bit false
shut x = let e : bit_and 0 x.value ≡ 0 = grind (arith, common_steps) in ap (word 1) e

-- ---- a memory at an index
pub put_at : (t : Bool) (m : List Word) (i n : ℕ) (x old new : Word) → i < length m → word_at m n ≡ old → (n ≢ i → new ≡ old) → (n ≡ i → t ≡ true → x ≡ new) → (n ≡ i → t ≡ false → new ≡ old) → word_at (put t m i x) n ≡ new
put_at t m i n x old new l here others takes keeps = by_test (n == i) refl t refl
  where
    by_test : (same : Bool) → (n == i) ≡ same → (u : Bool) → t ≡ u → word_at (put t m i x) n ≡ new
    by_test true e true f =
        let is : n ≡ i = grind (arith, nat_tests) in
        ap (λ b. word_at (put b m i x) n) f ∙ ap (λ k. get_or (put true m i x) k nothing) is ∙ get_or-set_same m i x nothing l ∙ takes is f
    by_test true e false f = let is : n ≡ i = grind (arith, nat_tests) in ap (λ b. word_at (put b m i x) n) f ∙ here ∙ sym (keeps is f)
    by_test false e true f = let other : n ≢ i = grind (arith, nat_tests) in ap (λ b. word_at (put b m i x) n) f ∙ get_or-set_other m i n x nothing other ∙ here ∙ sym (others other)
    by_test false e false f = let other : n ≢ i = grind (arith, nat_tests) in ap (λ b. word_at (put b m i x) n) f ∙ here ∙ sym (others other)

-- ---- stores that are free of products
abbrev pub AllFlat : {N : Type 0} → (N → Bool) → List (Store N) → Type 0
AllFlat made [] = Unit {0}
AllFlat made (r ∷ rs) = ((is_flat made r.condition ≡ true) × ((is_flat made r.at ≡ true) × (is_flat made r.value ≡ true))) × AllFlat made rs

pub stores_flat : {N : Type 0} (made : N → Bool) (rs : List (Store N)) (at : ℕ) → AllFlat made rs → statements_flat made (statements_before (store_statements at rs) SEnd) ≡ true
stores_flat made [] at h = refl
stores_flat made (r ∷ rs) at h = and_is _ _ (and_is _ _ h.0.0 (and_is _ _ h.0.1.0 h.0.1.1)) (stores_flat made rs (suc at) h.1)

module _ {P : Type 0} (commits gate index : Name P) (first bytes : ℕ) where
  abbrev stores : ℕ → List (WordNets (Name P)) → List (Store (Name P))
  stores j nets = word_stores commits gate index first bytes j nets

  pub count_stores : (j : ℕ) (nets : List (WordNets (Name P))) → length (stores j nets) ≡ length nets
  count_stores j [] = refl
  count_stores j (n ∷ nets) = ap suc (count_stores (suc j) nets)

  pub store_of : (j k : ℕ) (nets : List (WordNets (Name P))) (n : WordNets (Name P)) (r : Store (Name P)) → k < length nets → n ≡ get_or nets k n → get_or (stores j nets) k r ≡ word_store commits gate index first bytes (j + k) n
  store_of j k [] n r l e = absurd (omega arith)
  store_of j zero (m ∷ nets) n r l e = let z : j ≡ j + 0 = omega arith in λ i. word_store commits gate index first bytes (z i) (sym e i)
  store_of j (suc k) (m ∷ nets) n r l e = let z : suc j + k ≡ j + suc k = omega arith in store_of (suc j) k nets n r (omega arith) e ∙ ap (λ i. word_store commits gate index first bytes i n) z

  -- ---- well typed, in place and spelled
  pub words_typed :
      (s : Scope (Name P)) (bits j : ℕ) (nets : List (WordNets (Name P))) → s.net commits ≡ 1 → s.net gate ≡ 1 → s.net index ≡ bits → s.net (name.Port HOST_WORD) ≡ 4 → s.net (name.Port HOST_DATA) ≡ 64 → 1 ≤ bits
      → first + word_count bytes ≤ 16 → j + length nets ≤ word_count bytes → HaveWidths s bytes j nets → AreStoresTyped s (memories_from bits bytes j (length nets)) (stores j nets)
  words_typed s bits j [] c g x w p some few count h = tt
  words_typed s bits j (n ∷ nets) c g x w p some few count h =
      let there : j < word_count bytes = omega arith in
      let low = width_some bytes j there in
      let wide : 0 < word_width bytes j = omega arith in
      let number : first + j < 2 ^ 4 = omega arith in
      let select : part_select_width (s.net (name.Port HOST_DATA)) (word_width bytes j - 1) 0 ≡ word_width bytes j = ap (λ o. part_select_width o (word_width bytes j - 1) 0) p ∙ select_is 64 (word_width bytes j) (omega arith) (omega arith) (width_most bytes j) in (
        record {
          condition = rw (c, h.0.0, g, w, lt-ltb (first + j) (2 ^ 4) number) refl;
          at = x;
          value = choice_is (s.net commits) (s.net n.word) (part_select_width (s.net (name.Port HOST_DATA)) (word_width bytes j - 1) 0) (word_width bytes j) c h.0.1 select wide;
          some_index = some;
          some_width = wide;
        },
        words_typed s bits (suc j) nets c g x w p some few (omega arith) h.1,
      )

  pub words_there : (q : Name P → Type 0) (j : ℕ) (nets : List (WordNets (Name P))) → q commits → q gate → q index → q (name.Port HOST_WORD) → q (name.Port HOST_DATA) → AreThere q nets → AllReads q (stores j nets)
  words_there q j [] c g x w p h = tt
  words_there q j (n ∷ nets) c g x w p h = ((((c, h.0.0), (g, (w, tt))), (x, (c, h.0.1, p))), words_there q (suc j) nets c g x w p h.1)

  pub words_spelled : (j : ℕ) (nets : List (WordNets (Name P))) → AllSpelled (stores j nets)
  words_spelled j [] = tt
  words_spelled j (n ∷ nets) = ((refl, (refl, refl)), words_spelled (suc j) nets)

  pub words_flat : (made : Name P → Bool) (j : ℕ) (nets : List (WordNets (Name P))) → AllFlat made (stores j nets)
  words_flat made j [] = tt
  words_flat made j (n ∷ nets) = ((refl, (refl, refl)), words_flat made (suc j) nets)

  -- ---- a clock
  module _ (v : Env (Name P)) where
    abbrev condition : ℕ → WordNets (Name P) → Word
    condition j n = value v (TBinary Or (TBinary And (TRead commits) (TRead n.sets)) (TBinary And (TRead gate) (is_word (first + j))))

    -- nothing is asked
    pub words_off : (j : ℕ) (nets : List (WordNets (Name P))) → v.net commits ≡ bit false → v.net gate ≡ bit false → AllByRecursion (IsOff v) (stores j nets)
    words_off j [] c g = tt
    words_off j (n ∷ nets) c g =
        let asked : apply And (v.net commits) (v.net n.sets) ≡ bit false = ap (λ x. apply And x (v.net n.sets)) c ∙ shut (v.net n.sets) in
        let named : apply And (v.net gate) (value v (is_word (first + j))) ≡ bit false = ap (λ x. apply And x (value v (is_word (first + j)))) g ∙ shut (value v (is_word (first + j))) in
        (ap (λ (x : Word). x.value) (λ i. apply Or (asked i) (named i)), words_off (suc j) nets c g)

    -- no operation commits, and the host names another word
    other_holds : (w : ℕ) (gated : Bool) (j : ℕ) (n : WordNets (Name P)) → v.net commits ≡ bit false → v.net gate ≡ bit gated → v.net (name.Port HOST_WORD) ≡ word 4 w → w ≢ first + j → condition j n ≡ bit false
    other_holds w gated j n c g h other =
        let no : (w == first + j) ≡ false = grind (arith, nat_tests) in
        let asked : apply And (v.net commits) (v.net n.sets) ≡ bit false = ap (λ x. apply And x (v.net n.sets)) c ∙ shut (v.net n.sets) in
        let named : apply And (v.net gate) (value v (is_word (first + j))) ≡ bit (gated && false) = (λ i. apply And (g i) (apply Equal (h i) (word 4 (first + j)))) ∙ ap (λ b. apply And (bit gated) (bit b)) no ∙ and_bits gated false in
        (λ i. apply Or (asked i) (named i)) ∙ closed gated
      where
        closed : (b : Bool) → apply Or (bit false) (bit (b && false)) ≡ bit false
        closed true = refl
        closed false = refl

    pub words_unnamed : (w : ℕ) (gated : Bool) (j : ℕ) (nets : List (WordNets (Name P))) → v.net commits ≡ bit false → v.net gate ≡ bit gated → v.net (name.Port HOST_WORD) ≡ word 4 w → ((k : ℕ) → k < length nets → w ≢ first + (j + k)) → AllByRecursion (IsOff v) (stores j nets)
    words_unnamed w gated j [] c g h other = tt
    words_unnamed w gated j (n ∷ nets) c g h other =
        let z : first + (j + 0) ≡ first + j = omega arith in (
          ap (λ (x : Word). x.value) (other_holds w gated j n c g h (subst (λ k. w ≢ k) z (other 0 (omega arith)))),
          words_unnamed w gated (suc j) nets c g h (λ k l. let e : first + (j + suc k) ≡ first + (suc j + k) = omega arith in subst (λ i. w ≢ i) e (other (suc k) (omega arith))),
        )

    -- what a memory takes at a slot: another word, or none
    pub record IsTaken (j : ℕ) (n : WordNets (Name P)) (old new : ℕ) : Type 0 where
      pub takes : Bool
      pub holds : value v (word_store commits gate index first bytes j n).condition ≡ bit takes
      pub becomes : takes ≡ true → value v (word_store commits gate index first bytes j n).value ≡ word (word_width bytes j) new
      pub stays : takes ≡ false → new ≡ old

    -- of an operation
    pub operation_takes : (j : ℕ) (n : WordNets (Name P)) (old new : ℕ) → v.net commits ≡ bit true → v.net gate ≡ bit false → AsksWord v (word_width bytes j) n old new → IsTaken j n old new
    operation_takes j n old new c g a =
        let asked : apply And (v.net commits) (v.net n.sets) ≡ bit a.sets = (λ i. apply And (c i) (a.is_set i)) ∙ and_bits true a.sets in
        let named : apply And (v.net gate) (value v (is_word (first + j))) ≡ bit false = ap (λ x. apply And x (value v (is_word (first + j)))) g ∙ shut (value v (is_word (first + j))) in
        record {
          takes = a.sets || false;
          holds = (λ i. apply Or (asked i) (named i)) ∙ or_bits a.sets false;
          becomes = λ e. ap (λ x. conditional x (v.net n.word) (value v (host_data (word_width bytes j)))) c ∙ a.becomes (plain a.sets ∙ e);
          stays = λ e. a.stays (plain a.sets ∙ e);
        }
      where
        plain : (b : Bool) → b ≡ (b || false)
        plain true = refl
        plain false = refl

    -- of the host
    pub host_takes :
        (j : ℕ) (n : WordNets (Name P)) (at number : ℕ) (old : List ℕ) → v.net commits ≡ bit false → v.net gate ≡ bit true → v.net (name.Port HOST_WORD) ≡ word 4 (first + at) → v.net (name.Port HOST_DATA) ≡ word 64 number
        → j < word_count bytes → at < word_count bytes → length old ≡ bytes → IsTaken j n (byte_word old j) (byte_word (with_word old at number) j)
    host_takes j n at number old c g w p here there l =
        let asked : apply And (v.net commits) (v.net n.sets) ≡ bit false = ap (λ x. apply And x (v.net n.sets)) c ∙ shut (v.net n.sets) in
        let named : apply And (v.net gate) (value v (is_word (first + j))) ≡ bit (first + at == first + j) = (λ i. apply And (g i) (apply Equal (w i) (word 4 (first + j)))) ∙ and_bits true (first + at == first + j) in
        let low = width_some bytes j here in
        let inside : 8 * at < length old = omega (arith, l, word_there bytes at there) in
        record {
          takes = first + at == first + j;
          holds = (λ i. apply Or (asked i) (named i)) ∙ or_bits false (first + at == first + j);
          becomes = λ e.
              let same : j ≡ at = grind (arith, nat_tests) in
              ap (λ x. conditional x (v.net n.word) (value v (host_data (word_width bytes j)))) c ∙ ap (λ x. part_select x (word_width bytes j - 1) 0) p ∙ low_part 64 (word_width bytes j) number (omega arith)
              ∙ ap (word (word_width bytes j)) (subst (λ k. number % 2 ^ word_width bytes k ≡ byte_word (with_word old at number) k) (sym same) (ap (λ k. number % 2 ^ word_width k at) (sym l) ∙ sym (word_written old at number inside)));
          stays = λ e. let other : j ≢ at = grind (arith, nat_tests) in word_kept old at number inside j other;
        }

    pub other_takes : (w : ℕ) (gated : Bool) (j : ℕ) (n : WordNets (Name P)) (old : ℕ) → v.net commits ≡ bit false → v.net gate ≡ bit gated → v.net (name.Port HOST_WORD) ≡ word 4 w → w ≢ first + j → IsTaken j n old old
    other_takes w gated j n old c g h other = record { takes = false; holds = other_holds w gated j n c g h other; becomes = λ e. absurd (cc); stays = λ e. refl }

    -- ---- the words of byte strings by slot, after all of them
    pub words_after :
        (cap bits slot : ℕ) (nets : List (WordNets (Name P))) (all : List (Store (Name P))) (s : Stored) (olds news : ℕ → List ℕ) → length nets ≡ word_count bytes
        → ((j : ℕ) (n : WordNets (Name P)) → j < length nets → n ≡ get_or nets j n → word_store commits gate index first bytes j n ≡ get_or all (first + j) (word_store commits gate index first bytes j n))
        → first + length nets ≤ length all → length all ≤ length s.memories → ((j : ℕ) → j < word_count bytes → length (get_or s.memories (first + j) []) ≡ 2 ^ bits) → slot < cap → cap ≤ 2 ^ bits → v.net index ≡ word bits slot
        → ((j : ℕ) (n : WordNets (Name P)) → j < length nets → n ≡ get_or nets j n → IsTaken j n (byte_word (olds slot) j) (byte_word (news slot) j)) → ((n : ℕ) → n ≢ slot → news n ≡ olds n)
        → HoldsWords cap bytes s.memories first olds → HoldsWords cap bytes (edge v (store_statements 0 all) s).memories first news
    words_after cap bits slot nets all s olds news count sits few enough sizes within room at takes others holds j k there inside =
        let d : WordNets (Name P) = record { sets = commits; word = commits } in
        let n : WordNets (Name P) = get_or nets j d in
        let l : j < length nets = omega (arith, count) in
        let e : n ≡ get_or nets j n = get_or_default nets j d n l in
        let r : Store (Name P) = word_store commits gate index first bytes j n in
        let t = takes j n l e in
        let z : 0 + (first + j) ≡ first + j = omega arith in
        let in_all : first + j < length all = omega arith in
        let in_memories : 0 + (first + j) < length s.memories = omega arith in
        let old : List Word = get_or s.memories (first + j) [] in
        let small : slot < length old = omega (arith, sizes j there) in
        let x : Word = value v r.value in
        let new : get_or (edge v (store_statements 0 all) s).memories (first + j) [] ≡ put t.takes old slot x =
        ap (λ i. get_or (edge v (store_statements 0 all) s).memories i []) (sym z) ∙ store_at v all 0 (first + j) r s in_all (sits j n l e) in_memories ∙ ap (λ i. taken v r (get_or s.memories i [])) z ∙ taken_is v r old t.takes bits slot x t.holds at refl in
        let w : ℕ = word_width bytes j in
        ap (λ m. word_at m k) new
        ∙ put_at t.takes old slot k x (word w (byte_word (olds k) j)) (word w (byte_word (news k) j)) small (holds j k there inside) (λ o. ap (λ b. word w (byte_word b j)) (others k o))
        (λ is f. t.becomes f ∙ ap (λ i. word w (byte_word (news i) j)) (sym is))
        (λ is f. ap (λ i. word w (byte_word (news i) j)) is ∙ ap (word w) (t.stays f) ∙ ap (λ i. word w (byte_word (olds i) j)) (sym is))

-- what is asked of the word of a number
pub asked_at :
    {P : Type 0} (v : Env (Name P)) (bytes j k : ℕ) (nets : List (WordNets (Name P))) (n : WordNets (Name P)) (old new : List ℕ) → k < length nets → n ≡ get_or nets k n → AsksWords v bytes j nets old new
    → AsksWord v (word_width bytes (j + k)) n (byte_word old (j + k)) (byte_word new (j + k))
asked_at v bytes j k [] n old new l e a = absurd (omega arith)
asked_at v bytes j zero (m ∷ nets) n old new l e a =
    let z : j ≡ j + 0 = omega arith in
    subst (λ i. AsksWord v (word_width bytes i) n (byte_word old i) (byte_word new i)) z (subst (λ i. AsksWord v (word_width bytes j) i (byte_word old j) (byte_word new j)) (sym e) a.0)
asked_at v bytes j (suc k) (m ∷ nets) n old new l e a =
    let z : suc j + k ≡ j + suc k = omega arith in
    subst (λ i. AsksWord v (word_width bytes i) n (byte_word old i) (byte_word new i)) z (asked_at v bytes (suc j) k nets n old new (omega arith) e a.1)
