-- The block that keeps answers: it is well typed and spelled, and what a clock leaves in its memories.
use Rattle.std.specs.Prelude.{◌≡◌, ◌≢◌, ℕ, zero, suc, ◌+◌, ◌*◌, ◌^◌, ◌<◌, ◌≤◌, Bool, true, false, All, Contains, List, [], ◌∷◌, ◌++◌, length, take, map as map_list, replicate}
use Rattle.std.specs.List.{AllByRecursion, AllZip, list_all}
use Rattle.std.proofs.Common.{get_or, refl, sym, ap, ◌∙◌, subst, arith, inl, inr}
use Rattle.std.proofs.lemmas.Bool.{le-leb}
use Rattle.std.proofs.lemmas.List.{length-replicate, length-map, get_or-map, get_or_default, get_or-replicate, get_or-set_same, get_or-set_other, map_more, map-append}
use Rattle.std.proofs.lemmas.List.Elements.{Contains-get_or}
use Rattle.beat_core.specs.declared.answer.Answer.{Answer}
use Rattle.net_core.specs.declared.tree.Word.{Word}
use Rattle.net_core.specs.declared.tree.Expr.{Expr}
use Rattle.net_core.specs.View.{tree_of}
use Rattle.net_core.specs.Nets.{Tree, TConst, TConcatenation, SEnd}
use Rattle.net_core.specs.Chains.{statements_before}
use Rattle.net_core.specs.Ports.{port_list}
use Rattle.net_core.specs.Value.{word, bit, nothing, Env, value}
use Rattle.net_core.specs.Clock.{Stored, done, edge}
use Rattle.net_core.specs.Width.{Scope, width_of, statement_typed}
use Rattle.block_core.specs.design_rules.FormedSyntax.{depth, prefixes_apart, tree_spelled, statement_spelled, statements_depth}
use Rattle.net_core.specs.ProductRules.Products.{has_product, statement_flat}
use Rattle.block_core.proofs.ProductBlocks.FreeLaws.{flat_without}
use Rattle.block_core.specs.declared.name.Name.{Name}
use Rattle.block_core.specs.declared.block.BlockMemory.{BlockMemory}
use Rattle.block_core.specs.Blocks.{BlockTree, Whole, first_memory}
use Rattle.block_core.specs.Parts.{Within}
use Rattle.block_core.specs.Order.{Reads}
use Rattle.block_core.specs.Formed.{names_scope, name_width, memories_fit, IsTypedBlock, IsThere}
use Rattle.block_core.proofs.list_laws_laws.BoolLaws.{and_is}
use Rattle.overlay_net.specs.cell_core.Cells.{bits_from}
use Rattle.cell_nets.specs.declared.operand.Operand.{Operand}
use Rattle.cell_nets.specs.declared.operand.Operand.TheVariants.{Known}
use Rattle.cell_nets.specs.Operands.{number_in, AreDeclared, IsAvailable, IsNetOf}
use Rattle.cell_nets.specs.Parts.{IsPart}
use Rattle.frame_net.specs.Frames.{word_at}
use Rattle.frame_net.specs.Answers.{byte_of, word_widths, answer_widths, HoldsAnswer}
use Rattle.frame_net.specs.Stores.{Store, widths_memory, store_statements}
use Rattle.frame_net.proofs.FreeLaws.{store_flat, stores_flat}
use Rattle.frame_net.proofs.StoreLaws.{in_turn, put, taken, taken_is, store_at, registers_stay, lengths_stay, none_stored, IsOff, widths_are, AreStoresTyped, stores_typed, AllReads, stores_read, stores_within, AllSpelled, stores_deep, stores_placed, stores_pass}
use Rattle.frame_net.proofs.AnswerLaws.{count_answers}
use Rattle.cell_nets.proofs.AvailableLaws.{available}
use Rattle.row_net.specs.declared.place_net.outputs.AnswerByte.{AnswerByte}
use Rattle.row_net.specs.declared.place_net.outputs.Outputs.{Outputs}
use Rattle.row_net.specs.PlaceNet.Exit.{byte_number, byte_operand, output_operands, byte_numbers, IsAnswer, KeepsAnswers, SeesExit, HasLeft, IsExit}
use Rattle.row_net.specs.PlaceNet.ExitNets.{IsFound, IsFrameWord, AreValues, exit_store, exit_stores, exit_statement}
use Rattle.row_net.proofs.PlaceNet.ListLemmas.{zip_get}
use Rattle.row_net.proofs.PlaceNet.TreeLemmas.{reads_as}

-- ---- what is said of each value, of 32 bits or of 64
pub record IsValue {N : Type 0} (ins : List (Operand N)) (width : ℕ) (t : Tree N) : Type 0 where
  pub typed : (s : Scope N) → AreDeclared s ins → width_of s t ≡ width
  pub reads : Reads (IsNetOf ins) t
  pub spelled : tree_spelled t ≡ true
  pub no_product : has_product (λ n. false) t ≡ false

abbrev pub AreOfWidths : {N : Type 0} → List (Operand N) → List (ℕ × ℕ) → List (Tree N) → Type 0
AreOfWidths ins [] [] = Unit {0}
AreOfWidths ins [] (t ∷ ts) = ⊥
AreOfWidths ins (w ∷ ws) [] = ⊥
AreOfWidths ins (w ∷ ws) (t ∷ ts) = ((0 < w.0) × ((0 < w.1) × IsValue ins w.1 t)) × AreOfWidths ins ws ts

spelled_is : {N : Type 0} (t : Tree N) (d : ℕ) → depth t ≤ d → d ≤ 64 → prefixes_apart t ≡ true → tree_spelled t ≡ true
spelled_is t d h most a = let le : depth t ≤ 64 = omega arith in and_is _ _ (le-leb (depth t) 64 le) a

part_value : {N : Type 0} (ins : List (Operand N)) (width : ℕ) (f : Env N → ℕ) (t : Tree N) → IsPart ins 2 width f t → IsValue ins width t
part_value ins width f t p = record { typed = p.typed; reads = p.reads; spelled = spelled_is t 2 p.depth (omega arith) p.apart; no_product = p.no_product }

word_value : {N : Type 0} (ins : List (Operand N)) (bytes : List (AnswerByte N)) (number : ℕ) (t : Tree N) → IsFrameWord ins bytes number t → IsValue ins 64 t
word_value ins bytes number t w =
    subst (IsValue ins 64) (sym w.is)
    (record { typed = w.pieces.typed; reads = w.pieces.reads; spelled = let d = w.pieces.depth in spelled_is (TConcatenation w.parts) 3 (omega arith) (omega arith) w.pieces.apart; no_product = w.pieces.no_product })

words_values : {N : Type 0} (ins : List (Operand N)) (bytes : List (AnswerByte N)) (bits : ℕ) (words : List ℕ) (ts : List (Tree N)) → 1 ≤ bits → AllZip (IsFrameWord ins bytes) words ts → AreOfWidths ins (map_list (word_widths bits) words) ts
words_values ins bytes bits [] [] some h = tt
words_values ins bytes bits [] (t ∷ ts) some h = h
words_values ins bytes bits (n ∷ words) [] some h = h
words_values ins bytes bits (n ∷ words) (t ∷ ts) some h = ((some, (omega arith, word_value ins bytes n t h.0)), words_values ins bytes bits words ts some h.1)

pub values_are : {N : Type 0} (o : Outputs N) (bits : ℕ) (words : List ℕ) (values : List (Tree N)) → 1 ≤ bits → AreValues o words values → AreOfWidths (output_operands o) (answer_widths bits words) values
values_are o bits words [] some h = absurd h
values_are o bits words (t ∷ []) some h = absurd h
values_are o bits words (t ∷ u ∷ ts) some h =
    ((some, (omega arith, part_value (output_operands o) 32 _ t h.0)), ((some, (omega arith, part_value (output_operands o) 32 _ u h.1)), words_values (output_operands o) o.bytes.items bits words ts some h.2))

count_values : {N : Type 0} (ins : List (Operand N)) (ws : List (ℕ × ℕ)) (ts : List (Tree N)) → AreOfWidths ins ws ts → length ts ≡ length ws
count_values ins [] [] h = refl
count_values ins [] (t ∷ ts) h = absurd h
count_values ins (w ∷ ws) [] h = absurd h
count_values ins (w ∷ ws) (t ∷ ts) h = ap suc (count_values ins ws ts h.1)

-- ---- the stores of the values
module _ {P : Type 0} (ins : List (Operand (Name P))) (exits slot : Name P) where
  typed_stores : (s : Scope (Name P)) (bits : ℕ) (ws : List (ℕ × ℕ)) (ts : List (Tree (Name P))) → s.net exits ≡ 1 → s.net slot ≡ bits → AreDeclared s ins → All (λ w. w.0 ≡ bits) ws → AreOfWidths ins ws ts → AreStoresTyped s ws (exit_stores exits slot ts)
  typed_stores s bits [] ts wide numbered d same h = tt
  typed_stores s bits (w ∷ ws) [] wide numbered d same h = tt
  typed_stores s bits (w ∷ ws) (t ∷ ts) wide numbered d same h =
      let here : w.0 ≡ bits = same 0 w (omega arith) in (
        record { condition = wide; at = numbered ∙ sym here; value = h.0.1.1.typed s d; some_index = h.0.0; some_width = h.0.1.0 },
        typed_stores s bits ws ts wide numbered d (λ k e l. same (suc k) e (omega arith)) h.1,
      )

  reading_stores : (q : Name P → Type 0) (ws : List (ℕ × ℕ)) (ts : List (Tree (Name P))) → q exits → q slot → ((n : Name P) → IsNetOf ins n → q n) → AreOfWidths ins ws ts → AllReads q (exit_stores exits slot ts)
  reading_stores q ws [] e s sub h = tt
  reading_stores q [] (t ∷ ts) e s sub h = absurd h
  reading_stores q (w ∷ ws) (t ∷ ts) e s sub h = ((e, (s, reads_as (IsNetOf ins) q sub t h.0.1.1.reads)), reading_stores q ws ts e s sub h.1)

  spelled_stores : (ws : List (ℕ × ℕ)) (ts : List (Tree (Name P))) → AreOfWidths ins ws ts → AllSpelled (exit_stores exits slot ts)
  spelled_stores ws [] h = tt
  spelled_stores [] (t ∷ ts) h = absurd h
  spelled_stores (w ∷ ws) (t ∷ ts) h = ((refl, (refl, h.0.1.1.spelled)), spelled_stores ws ts h.1)

  flat_stores : (made : Name P → Bool) (ws : List (ℕ × ℕ)) (ts : List (Tree (Name P))) → AreOfWidths ins ws ts → list_all (store_flat made) (exit_stores exits slot ts) ≡ true
  flat_stores made ws [] h = refl
  flat_stores made [] (t ∷ ts) h = absurd h
  flat_stores made (w ∷ ws) (t ∷ ts) h = and_is _ _ (flat_without made t h.0.1.1.no_product) (flat_stores made ws ts h.1)

  pub is_free : (made : Name P → Bool) (ws : List (ℕ × ℕ)) (ts : List (Tree (Name P))) → AreOfWidths ins ws ts → statement_flat made (exit_statement exits slot ts) ≡ true
  is_free made ws ts h = stores_flat made (exit_stores exits slot ts) 0 (flat_stores made ws ts h)

  off_stores : (v : Env (Name P)) (ts : List (Tree (Name P))) → v.net exits ≡ bit false → AllByRecursion (IsOff v) (exit_stores exits slot ts)
  off_stores v [] e = tt
  off_stores v (t ∷ ts) e = (ap (λ (w : Word). w.value) e, off_stores v ts e)

  pub is_spelled : (ws : List (ℕ × ℕ)) (ts : List (Tree (Name P))) → AreOfWidths ins ws ts → statement_spelled (exit_statement exits slot ts) ≡ true
  is_spelled ws ts h =
      let stores : List (Store (Name P)) = exit_stores exits slot ts in
      let deep : statements_depth (statements_before (store_statements 0 stores) SEnd) ≤ 2 = stores_deep stores 0 in
      let whole : suc (statements_depth (statements_before (store_statements 0 stores) SEnd)) ≤ 64 = omega arith in
      and_is _ _ (le-leb _ 64 whole) (and_is _ _ (stores_placed stores 0) (stores_pass stores 0 (spelled_stores ws ts h)))

  pub stays : (v : Env (Name P)) (ts : List (Tree (Name P))) (s : Stored) → v.net exits ≡ bit false → done v (exit_statement exits slot ts) s ≡ s
  stays v ts s e = in_turn v (store_statements 0 (exit_stores exits slot ts)) s ∙ none_stored v (exit_stores exits slot ts) 0 s (off_stores v ts e)

-- ---- memories
words_fit : (bits : ℕ) (words : List ℕ) → 1 ≤ bits → bits ≤ 16 → memories_fit (map_list widths_memory (map_list (word_widths bits) words)) ≡ true
words_fit bits [] some most = refl
words_fit bits (n ∷ words) some most = rw (le-leb 1 bits some, le-leb bits 16 most) (words_fit bits words some most)

pub memories_are_fit : (bits : ℕ) (words : List ℕ) → 1 ≤ bits → bits ≤ 16 → memories_fit (map_list widths_memory (answer_widths bits words)) ≡ true
memories_are_fit bits words some most = rw (le-leb 1 bits some, le-leb bits 16 most) (words_fit bits words some most)

first_words : (bits : ℕ) (words : List ℕ) → map_list length (map_list first_memory (map_list widths_memory (map_list (word_widths bits) words))) ≡ replicate (length words) (2 ^ bits)
first_words bits [] = refl
first_words bits (n ∷ words) = λ i. length-replicate (2 ^ bits) (word 64 0) i ∷ first_words bits words i

two : (n : ℕ) → suc (suc n) ≡ 2 + n
two n = omega arith

pub first_is : (bits : ℕ) (words : List ℕ) → map_list length (map_list first_memory (map_list widths_memory (answer_widths bits words))) ≡ replicate (2 + length words) (2 ^ bits)
first_is bits words = (λ i. length-replicate (2 ^ bits) (word 32 0) i ∷ length-replicate (2 ^ bits) (word 32 0) i ∷ first_words bits words i) ∙ ap (λ n. replicate n (2 ^ bits)) (two (length words))

same_index : (bits : ℕ) (words : List ℕ) → All (λ w. w.0 ≡ bits) (map_list (word_widths bits) words)
same_index bits [] k e l = absurd (omega arith)
same_index bits (n ∷ words) zero e l = refl
same_index bits (n ∷ words) (suc k) e l = same_index bits words k e (omega arith)

pub all_same_index : (bits : ℕ) (words : List ℕ) → All (λ w. w.0 ≡ bits) (answer_widths bits words)
all_same_index bits words zero e l = refl
all_same_index bits words (suc zero) e l = refl
all_same_index bits words (suc (suc k)) e l = same_index bits words k e (omega arith)

-- ---- single values
pub verdict_value : {N : Type 0} (o : Outputs N) (words : List ℕ) (values : List (Tree N)) → AreValues o words values → IsPart (output_operands o) 2 32 (λ v. bits_from (number_in v o.verdict) 0 32) (get_or values 0 (TConst nothing))
verdict_value o words [] h = absurd h
verdict_value o words (t ∷ []) h = absurd h
verdict_value o words (t ∷ u ∷ ts) h = h.0

pub target_value : {N : Type 0} (o : Outputs N) (words : List ℕ) (values : List (Tree N)) → AreValues o words values → IsPart (output_operands o) 2 32 (λ v. bits_from (number_in v o.target) 0 32) (get_or values 1 (TConst nothing))
target_value o words [] h = absurd h
target_value o words (t ∷ []) h = absurd h
target_value o words (t ∷ u ∷ ts) h = h.1

pub frame_value : {N : Type 0} (o : Outputs N) (words : List ℕ) (values : List (Tree N)) → AreValues o words values → (i : ℕ) → i < length words → IsFrameWord (output_operands o) o.bytes.items (get_or words i 0) (get_or values (2 + i) (TConst nothing))
frame_value o words [] h i l = absurd h
frame_value o words (t ∷ []) h i l = absurd h
frame_value o words (t ∷ u ∷ ts) h i l =
    subst (λ k. IsFrameWord (output_operands o) o.bytes.items (get_or words i 0) (get_or (t ∷ u ∷ ts) k (TConst nothing))) (two i) (zip_get (IsFrameWord (output_operands o) o.bytes.items) words ts i 0 (TConst nothing) h.2 l)

-- ---- a packet leaves
module _ {P : Type 0} (bits : ℕ) (words : List ℕ) (exits slot : Name P) (o : Outputs (Name P)) (values : List (Tree (Name P))) (some : 1 ≤ bits) (h : AreValues o words values)
    (v : Env (Name P)) (s : Stored) (at : ℕ) (sees : SeesExit bits exits slot o v at) (keeps : KeepsAnswers bits words s) where
  abbrev stores : List (Store (Name P))
  stores = exit_stores exits slot values

  abbrev after : Stored
  after = edge v (store_statements 0 stores) s

  after_is : done v (exit_statement exits slot values) s ≡ after
  after_is = in_turn v (store_statements 0 stores) s

  abbrev old : ℕ → List Word
  old k = get_or s.memories k []

  abbrev new : ℕ → List Word
  new k = get_or after.memories k []

  count : length s.memories ≡ 2 + length words
  count = sym (length-map s.memories length) ∙ ap length keeps.memories ∙ length-replicate (2 + length words) (2 ^ bits)

  count_stores : length stores ≡ 2 + length words
  count_stores = length-map values (exit_store exits slot) ∙ count_values (output_operands o) (answer_widths bits words) values (values_are o bits words values some h) ∙ count_answers bits words

  size : (k : ℕ) → k < 2 + length words → length (old k) ≡ 2 ^ bits
  size k l = sym (get_or-map length s.memories k [] 0 (omega (arith, count))) ∙ ap (λ m. get_or m k 0) keeps.memories ∙ get_or-replicate (2 + length words) k (2 ^ bits) 0 l

  -- each memory takes its value
  takes : (k : ℕ) (t : Tree (Name P)) → k < 2 + length words → t ≡ get_or values k t → new k ≡ put true (old k) at (value v t)
  takes k t l e =
      let z : 0 + k ≡ k = omega arith in
      let there : k < length stores = omega (arith, count_stores) in
      let within : 0 + k < length s.memories = omega (arith, count) in
      let r : Store (Name P) = exit_store exits slot t in
      let is : r ≡ get_or stores k r = ap (exit_store exits slot) e ∙ sym (get_or-map (exit_store exits slot) values k t r (omega (arith, there, length-map values (exit_store exits slot)))) in
      ap (λ j. get_or after.memories j []) (sym z) ∙ store_at v stores 0 k r s there is within ∙ ap (λ j. taken v r (get_or s.memories j [])) z ∙ taken_is v r (old k) true bits at (value v t) sees.leaves sees.in_slot refl

  here : (k : ℕ) (t : Tree (Name P)) → k < 2 + length words → t ≡ get_or values k t → word_at (new k) at ≡ value v t
  here k t l e = ap (λ m. get_or m at nothing) (takes k t l e) ∙ get_or-set_same (old k) at (value v t) nothing (subst (λ n. at < n) (sym (size k l)) sees.within)

  others : (k other : ℕ) → k < 2 + length words → other ≢ at → word_at (new k) other ≡ word_at (old k) other
  others k other l apart =
      let t : Tree (Name P) = get_or values k (TConst nothing) in
      let there : k < length values = omega (arith, count_stores, length-map values (exit_store exits slot)) in
      ap (λ m. get_or m other nothing) (takes k t l (get_or_default values k (TConst nothing) t there)) ∙ get_or-set_other (old k) at other (value v t) nothing apart

  kept_after : KeepsAnswers bits words after
  kept_after = record { registers = registers_stay v stores 0 s ∙ keeps.registers; memories = lengths_stay v stores 0 s ∙ keeps.memories }

  value_at : (k : ℕ) → k < 2 + length words → word_at (new k) at ≡ value v (get_or values k (TConst nothing))
  value_at k l =
      let there : k < length values = omega (arith, count_stores, length-map values (exit_store exits slot)) in
      here k (get_or values k (TConst nothing)) l (get_or_default values k (TConst nothing) (get_or values k (TConst nothing)) there)

  -- a byte that may change
  module _ (r : Answer) (a : IsAnswer v o r) where
    found_byte : (n : ℕ) (x : Operand (Name P)) → IsFound o.bytes.items n x → Contains (byte_numbers o) n → n < length r.frame → bits_from (number_in v x) 0 8 ≡ get_or r.frame n 0
    found_byte n x (inl s) listed below =
        let below' : s.byte.at < length r.frame = subst (λ k. k < length r.frame) (sym s.here) below in
        ap (λ y. bits_from (number_in v y) 0 8) (sym s.is) ∙ sym (a.bytes s.byte s.listed below') ∙ ap (λ k. get_or r.frame k 0) s.here
    found_byte n x (inr none) listed below =
        let d : AnswerByte (Name P) = record { at = 0; operand = Known 0 } in
        let l : listed.0 < length o.bytes.items = subst (λ k. listed.0 < k) (length-map o.bytes.items byte_number) listed.1 in
        absurd (none.0 (get_or o.bytes.items listed.0 d) (Contains-get_or o.bytes.items listed.0 d l) (sym (get_or-map byte_number o.bytes.items listed.0 d n l) ∙ listed.2))

    changed : (i k : ℕ) → i < length words → k < 8 → Contains (byte_numbers o) (8 * get_or words i 0 + k) → 8 * get_or words i 0 + k < length r.frame
        → byte_of (word_at (new (2 + i)) at).value k ≡ get_or r.frame (8 * get_or words i 0 + k) 0
    changed i k l few listed below =
        let t : Tree (Name P) = get_or values (2 + i) (TConst nothing) in
        let w = frame_value o words values h i l in
        let b = w.pieces.each k few in
        ap (λ (x : Word). byte_of x.value k) (value_at (2 + i) (omega arith) ∙ ap (value v) w.is) ∙ b.2 v sees.fit ∙ found_byte (8 * get_or words i 0 + k) b.0 b.1 listed below

    answer : HoldsAnswer (byte_numbers o) words after.memories at r
    answer = record {
      verdict = value_at 0 (omega arith) ∙ (verdict_value o words values h).value v sees.fit ∙ ap (word 32) (sym a.verdict);
      target = value_at 1 (omega arith) ∙ (target_value o words values h).value v sees.fit ∙ ap (word 32) (sym a.target);
      changed = changed;
    }

  pub has_left : HasLeft bits words o v at s (done v (exit_statement exits slot values) s)
  has_left =
      subst (HasLeft bits words o v at s) (sym after_is)
      (record {
        keeps = kept_after;
        answer = answer;
        others = λ other r apart held. record {
          verdict = others 0 other (omega arith) apart ∙ held.verdict;
          target = others 1 other (omega arith) apart ∙ held.target;
          changed = λ i k l few listed below. ap (λ (x : Word). byte_of x.value k) (others (2 + i) other (omega arith) apart) ∙ held.changed i k l few listed below;
        };
      })

-- ---- what is made of operands
pub bytes_all : {N : Type 0} (Q : Operand N → Type 0) (o : Outputs N) → All Q (output_operands o) → All (λ x. Q (byte_operand x)) o.bytes.items
bytes_all Q o h k d l =
    subst Q (get_or-map byte_operand o.bytes.items k d (byte_operand d) l) (h (suc (suc k)) (byte_operand d) (omega (arith, length-map o.bytes.items byte_operand)))

pub all_available : {N : Type 0} (ins : List (Operand N)) → All (IsAvailable ins) ins
all_available ins k d l = available ins (get_or ins k d) (Contains-get_or ins k d l)

pub values_made :
    {N : Type 0} (o : Outputs N) (words : List ℕ) (verdict target : Expr N) (more all : List (Expr N)) → all ≡ verdict ∷ target ∷ more → IsPart (output_operands o) 2 32 (λ v. bits_from (number_in v o.verdict) 0 32) (tree_of verdict)
    → IsPart (output_operands o) 2 32 (λ v. bits_from (number_in v o.target) 0 32) (tree_of target) → AllZip (IsFrameWord (output_operands o) o.bytes.items) words (map_list tree_of more) → AreValues o words (map_list tree_of all)
values_made o words verdict target more all e v t m = subst (λ l. AreValues o words (map_list tree_of l)) (sym e) (v, t, m)

pub values_count : {N : Type 0} (o : Outputs N) (words : List ℕ) (values : List (Tree N)) → AreValues o words values → length values ≡ 2 + length words
values_count o words values h = count_values (output_operands o) (answer_widths 1 words) values (values_are o 1 words values (omega arith) h) ∙ count_answers 1 words

pub memories_more :
    (bits : ℕ) (words : List ℕ) (i : ℕ) (all new : List BlockMemory) (y : BlockMemory) → new ≡ all ++ y ∷ [] → i < length words → y ≡ widths_memory (bits, 64) → all ≡ map_list widths_memory (answer_widths bits (take i words))
    → new ≡ map_list widths_memory (answer_widths bits (take (i + 1) words))
memories_more bits words i all new y e l r h =
    let m : BlockMemory = widths_memory (bits, 32) in
    e ∙ ap (λ zs. zs ++ y ∷ []) h ∙ ap (λ z. m ∷ m ∷ (map_list widths_memory (map_list (word_widths bits) (take i words)) ++ z ∷ [])) r
    ∙ ap (λ zs. m ∷ m ∷ zs) (sym (ap (map_list widths_memory) (map_more (word_widths bits) words i 0 l) ∙ map-append widths_memory (map_list (word_widths bits) (take i words)) (word_widths bits (get_or words i 0) ∷ [])))

-- ---- the block
module _ {P : Type 0} (bits : ℕ) (words : List ℕ) (exits slot : Name P) (o : Outputs (Name P)) (values : List (Tree (Name P))) (some : 1 ≤ bits) (most : bits ≤ 16) (h : AreValues o words values) where
  abbrev block : BlockTree (Name P)
  block = record { registers = []; memories = map_list widths_memory (answer_widths bits words); wires = []; statement = exit_statement exits slot values }

  of_widths : AreOfWidths (output_operands o) (answer_widths bits words) values
  of_widths = values_are o bits words values some h

  count_all : length (exit_stores exits slot values) ≡ length (answer_widths bits words)
  count_all = length-map values (exit_store exits slot) ∙ count_values (output_operands o) (answer_widths bits words) values of_widths

  is_typed : (d : Whole P) → name_width d port_list exits ≡ 1 → name_width d port_list slot ≡ bits → AreDeclared (names_scope d port_list) (output_operands o) → IsTypedBlock d port_list block
  is_typed d wide numbered declared =
      let s : Scope (Name P) = names_scope d port_list in
      record {
        registers = refl;
        memories = memories_are_fit bits words some most;
        wires = refl;
        statement =
            subst (λ ms. statement_typed s [] ms (exit_statement exits slot values) ≡ true) (sym (widths_are (answer_widths bits words)))
            (stores_typed s [] (answer_widths bits words) (answer_widths bits words) (exit_stores exits slot values) 0 (λ k l. let z : 0 + k ≡ k = omega arith in ap (λ i. get_or (answer_widths bits words) i (0, 0)) z) count_all
            (typed_stores (output_operands o) exits slot s bits (answer_widths bits words) values wide numbered declared (all_same_index bits words) of_widths));
      }

  is_within : Within 0 (length (map_list widths_memory (answer_widths bits words))) (exit_statement exits slot values)
  is_within =
      stores_within 0 (length (map_list widths_memory (answer_widths bits words))) (exit_stores exits slot values) 0 (omega (arith, count_all, length-map (answer_widths bits words) widths_memory))

  exits_by : IsExit bits words exits slot o block
  exits_by = record {
    registers = refl;
    memories = widths_are (answer_widths bits words);
    wires = refl;
    typed = is_typed;
    reads = λ d e s sub. stores_read (IsThere d) (exit_stores exits slot values) 0 (reading_stores (output_operands o) exits slot (IsThere d) (answer_widths bits words) values e s sub of_widths);
    within = is_within;
    spelled = is_spelled (output_operands o) exits slot (answer_widths bits words) values of_widths;
    first = record { registers = refl; memories = first_is bits words };
    stays = λ v s e. stays (output_operands o) exits slot v values s e;
    takes = λ v s at sees keeps. has_left bits words exits slot o values some h v s at sees keeps;
    free = record { wires = λ made. refl; statement = λ made. is_free (output_operands o) exits slot made (answer_widths bits words) values of_widths };
  }

pub is_exit : {P : Type 0} (bits : ℕ) (words : List ℕ) (exits slot : Name P) (o : Outputs (Name P)) (values : List (Tree (Name P))) (b : BlockTree (Name P)) → 1 ≤ bits → bits ≤ 16 → AreValues o words values
    → b ≡ record { registers = []; memories = map_list widths_memory (answer_widths bits words); wires = []; statement = exit_statement exits slot values } → IsExit bits words exits slot o b
is_exit bits words exits slot o values b some most h e = subst (IsExit bits words exits slot o) (sym e) (exits_by bits words exits slot o values some most h)
