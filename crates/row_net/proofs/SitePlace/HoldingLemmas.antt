-- A block whose registers take operands where a net is 1.
use Rattle.std.specs.Prelude.{◌≡◌, ℕ, zero, suc, ◌+◌, ◌-◌, ◌^◌, ◌<◌, ◌≤◌, ◌==◌, Bool, true, false, if◌then◌else◌, Option, Some, None, All, Contains, List, [], ◌∷◌, length, map as map_list, nat_le}
use Rattle.std.specs.List.{AllByRecursion, AllZip, list_all}
use Rattle.std.proofs.Common.{get_or, refl, sym, ap, ◌∙◌, subst, arith, inl, inr}
use Rattle.std.proofs.lemmas.Bool.{le-leb, lt-ltb}
use Rattle.std.proofs.lemmas.Nat.{pow_pos}
use Rattle.std.proofs.lemmas.List.{length-map}
use Rattle.std.proofs.lemmas.List.Elements.{All-head, All-tail, Contains-append_cases}
use Rattle.net_core.specs.declared.tree.Word.{Word}
use Rattle.net_core.specs.Nets.{Tree, TRead, TBit, TPartSelect}
use Rattle.net_core.specs.Ports.{port_list}
use Rattle.net_core.specs.Value.{word, bit, nothing, Env, value}
use Rattle.net_core.specs.Clock.{Stored, done}
use Rattle.net_core.specs.Width.{Scope, width_of, statement_typed}
use Rattle.block_core.specs.design_rules.FormedSyntax.{depth, prefixes_apart, statement_spelled}
use Rattle.net_core.specs.ProductRules.Products.{is_flat, statement_flat}
use Rattle.block_core.specs.declared.name.Name.{Name}
use Rattle.block_core.specs.declared.name.Name.TheVariants as name
use Rattle.block_core.specs.Blocks.{BlockTree, BlockWireTree, Whole, Among}
use Rattle.block_core.specs.Parts.{Solve, Within}
use Rattle.block_core.specs.Order.{Reads}
use Rattle.block_core.specs.Formed.{names_scope, word_width, words_fit, IsTypedBlock, StatementReads, IsThere}
use Rattle.block_core.proofs.list_laws_laws.BoolLaws.{and_is}
use Rattle.overlay_net.specs.cell_core.Cells.{bits_from}
use Rattle.cell_nets.specs.declared.operand.Operand.{Operand}
use Rattle.cell_nets.specs.declared.operand.Operand.TheVariants.{Known, Net, Part}
use Rattle.cell_nets.specs.Operands.{IsOperand, HasWidth, AreFit, AreDeclared, HasNet, IsAvailable, IsNetOf}
use Rattle.cell_nets.specs.Parts.{part_tree}
use Rattle.cell_nets.specs.Wires.{own, behind, HasBits, AreWires}
use Rattle.cell_nets.proofs.PartLaws.{part_slice, part_small}
use Rattle.cell_nets.proofs.OperandBlocks.WiringLaws.{behind_declared, own_all}
use Rattle.frame_net.proofs.FormLaws.{one_is}
use Rattle.row_net.specs.PlaceNet.Place.{HasSize}
use Rattle.row_net.specs.PlaceNet.PlaceNets.{tree_for, set_statement}
use Rattle.row_net.specs.SitePlace.Inputs.{Input, IsInput, number_from, width_of_input, input_word, first_word, input_tree, held_statement, HasWidths}
use Rattle.row_net.proofs.SitePlace.SetLemmas.{OfWidth, sets_typed, sets_read, sets_within, IsSpelled, held_spelled, sets_flat, registers_are, memories_stay}

-- ---- nets of the block
abbrev NetIsThere : {P : Type 0} → Whole P → Operand (Name P) → Type 0
NetIsThere d (Known n) = Unit {0}
NetIsThere d (Net n w) = IsThere d n
NetIsThere d (Part n of from w) = IsThere d n

behind_there : {P : Type 0} (p : P) (d : Whole P) (ws : List (BlockWireTree (Name P))) (outside : List (Operand (Name P))) → Among p d.parts → ((n : Name P) → IsNetOf outside n → IsThere d n) → (n : Name P) → IsNetOf (behind p outside ws) n → IsThere d n
behind_there {P = P} p d ws outside among there n (w, c) = by_kind c
  where
    by_case : (a : Operand (Name P)) → (Contains outside a → IsThere d n) → (NetIsThere d a → IsThere d n) → Contains (behind p outside ws) a → IsThere d n
    by_case a from_outside same c = elim (Contains-append_cases outside (own p 0 ws) a c) [
      | inl x ↦ from_outside x
      | inr x ↦ same (own_all p (NetIsThere d) ws 0 (λ i l. among) a x)
    ]

    by_kind : HasNet (behind p outside ws) n w → IsThere d n
    by_kind (inl x) = by_case (Net n w) (λ y. there n (w, inl y)) (λ h. h) x
    by_kind (inr (from, u, x)) = by_case (Part n w from u) (λ y. there n (w, inr (from, u, y))) (λ h. h) x

-- ---- an operand as an expression
part_flat : {N : Type 0} (made : N → Bool) (n : N) (of from w : ℕ) → is_flat made (part_tree n of from w) ≡ true
part_flat made n of from w = by_tests (w == of) (w == 1)
  where
    by_tests : (s t : Bool) → is_flat made (if s then TRead n else if t then TBit n from else TPartSelect n (from + w - 1) from) ≡ true
    by_tests true t = refl
    by_tests false true = refl
    by_tests false false = refl

record IsRead {N : Type 0} (ins : List (Operand N)) (o : Option (Operand N)) (w : ℕ) : Type 0 where
  pub typed : (s : Scope N) → AreDeclared s ins → width_of s (tree_for o w) ≡ w
  pub spelled : IsSpelled (tree_for o w)
  pub flat : (made : N → Bool) → is_flat made (tree_for o w) ≡ true
  pub small : (v : Env N) → AreFit v ins → number_from v o < 2 ^ w
  pub value : (v : Env N) → AreFit v ins → value v (tree_for o w) ≡ word w (number_from v o)

part_reads : {N : Type 0} (q : N → Type 0) (n : N) (of from w : ℕ) → q n → Reads q (part_tree n of from w)
part_reads q n of from w h = by_tests (w == of) (w == 1)
  where
    by_tests : (s t : Bool) → Reads q (if s then TRead n else if t then TBit n from else TPartSelect n (from + w - 1) from)
    by_tests true t = h
    by_tests false true = h
    by_tests false false = h

reads_of : {N : Type 0} (ins : List (Operand N)) (q : N → Type 0) → ((n : N) → IsNetOf ins n → q n) → (w : ℕ) (a : Operand N) → IsAvailable ins a → Reads q (tree_for (Some a) w)
reads_of ins q sub w (Known n) there = tt
reads_of ins q sub w (Net n u) there = sub n (u, inl there)
reads_of ins q sub w (Part n of from u) there = part_reads q n of from u (sub n (of, there))

read_of : {N : Type 0} (ins : List (Operand N)) (w : ℕ) (a : Operand N) → w ≤ 64 → IsOperand a → HasBits w a → IsAvailable ins a → IsRead ins (Some a) w
read_of ins w (Known n) most is small there = record {
  typed = λ s d. rw (le-leb w 64 most, lt-ltb n (2 ^ w) small) refl;
  spelled = refl;
  flat = λ made. refl;
  small = λ v f. small;
  value = λ v f. refl;
}
read_of ins w (Net n u) most wide e there = record {
  typed = λ s d. d (Net n u) there ∙ e;
  spelled = refl;
  flat = λ made. refl;
  small = λ v f. let x : HasWidth v n u = f (Net n u) there in subst (λ j. (v.net n).value < 2 ^ j) e x.small;
  value = λ v f. let x : HasWidth v n u = f (Net n u) there in ap (λ j. word j (v.net n).value) (x.width ∙ e);
}
read_of ins w (Part n of from u) most within e there =
    let t : Tree _ = part_tree n of from u in
    let p = part_slice n of from u within ins there in
    record {
      typed = λ s d. p.part.typed s d ∙ e;
      spelled = let d = p.part.depth in and_is (nat_le (depth t) 64) (prefixes_apart t) (le-leb (depth t) 64 (omega arith)) p.part.apart;
      flat = λ made. part_flat made n of from u;
      small = λ v f. subst (λ j. bits_from (v.net n).value from u < 2 ^ j) e (part_small (v.net n).value from u);
      value = λ v f. p.part.value v f ∙ ap (λ j. word j (bits_from (v.net n).value from u)) e;
    }

pub input_flat : {N : Type 0} (made : N → Bool) (o : Option (Operand N)) (w : ℕ) → is_flat made (tree_for o w) ≡ true
input_flat made None w = refl
input_flat made (Some (Known n)) w = refl
input_flat made (Some (Net n u)) w = refl
input_flat made (Some (Part n of from u)) w = part_flat made n of from u

-- ---- all inputs
module _ {N : Type 0} (ins : List (Operand N)) where
  abbrev IsReadInput : Input N → Type 0
  IsReadInput i = IsRead ins i.operand i.width × (0 < i.width) × (i.width ≤ 64)

  read_input : (i : Input N) → IsInput ins i → IsReadInput i
  read_input i h = (subst (λ o. IsRead ins o i.width) (sym h.is) (read_of ins i.width h.from h.most h.held.operand h.held.wide h.there), h.some, h.most)

  all_read : (is : List (Input N)) → All (IsInput ins) is → AllByRecursion IsReadInput is
  all_read [] h = tt
  all_read (i ∷ is) h = (read_input i (All-head (IsInput ins) i is h), all_read is (All-tail (IsInput ins) i is h))

  typed_all : (s : Scope N) → AreDeclared s ins → (is : List (Input N)) → AllByRecursion IsReadInput is → AllZip (OfWidth s) (map_list width_of_input is) (map_list input_tree is)
  typed_all s d [] h = tt
  typed_all s d (i ∷ is) h = ((h.0.1, h.0.0.typed s d), typed_all s d is h.1)

  reads_all : (q : N → Type 0) → ((n : N) → IsNetOf ins n → q n) → (is : List (Input N)) → All (IsInput ins) is → AllByRecursion (Reads q) (map_list input_tree is)
  reads_all q sub [] h = tt
  reads_all q sub (i ∷ is) h =
      let x = All-head (IsInput ins) i is h in
      (subst (λ o. Reads q (tree_for o i.width)) (sym x.is) (reads_of ins q sub i.width x.from x.there), reads_all q sub is (All-tail (IsInput ins) i is h))

  spelled_all : (is : List (Input N)) → AllByRecursion IsReadInput is → AllByRecursion IsSpelled (map_list input_tree is)
  spelled_all [] h = tt
  spelled_all (i ∷ is) h = (h.0.0.spelled, spelled_all is h.1)

  values_all : (v : Env N) → AreFit v ins → (is : List (Input N)) → AllByRecursion IsReadInput is → map_list (value v) (map_list input_tree is) ≡ map_list (input_word v) is
  values_all v f [] h = refl
  values_all v f (i ∷ is) h = λ k. h.0.0.value v f k ∷ values_all v f is h.1 k

  sizes_all : (v : Env N) → AreFit v ins → (is : List (Input N)) → AllByRecursion IsReadInput is → (k : ℕ) → k < length is → HasSize (get_or (map_list width_of_input is) k 0) (get_or (map_list (input_word v) is) k nothing)
  sizes_all v f [] h k l = absurd (omega arith)
  sizes_all v f (i ∷ is) h zero l = record { width = refl; small = h.0.0.small v f }
  sizes_all v f (i ∷ is) h (suc k) l = sizes_all v f is h.1 k (omega arith)

  first_fit : (is : List (Input N)) → AllByRecursion IsReadInput is → words_fit (map_list first_word is) ≡ true
  first_fit [] h = refl
  first_fit (i ∷ is) h = rw (lt-ltb 0 i.width h.0.1, le-leb i.width 64 h.0.2, lt-ltb 0 (2 ^ i.width) (pow_pos i.width)) (first_fit is h.1)

first_widths : {N : Type 0} (is : List (Input N)) → map_list word_width (map_list first_word is) ≡ map_list width_of_input is
first_widths [] = refl
first_widths (i ∷ is) = ap (λ l. i.width ∷ l) (first_widths is)

first_sizes : {N : Type 0} (is : List (Input N)) (k : ℕ) → k < length is → HasSize (get_or (map_list width_of_input is) k 0) (get_or (map_list first_word is) k nothing)
first_sizes [] k l = absurd (omega arith)
first_sizes (i ∷ is) zero l = record { width = refl; small = pow_pos i.width }
first_sizes (i ∷ is) (suc k) l = first_sizes is k (omega arith)

flat_all : {N : Type 0} (made : N → Bool) (is : List (Input N)) → list_all (is_flat made) (map_list input_tree is) ≡ true
flat_all made [] = refl
flat_all made (i ∷ is) = and_is _ _ (input_flat made i.operand i.width) (flat_all made is)

pub held_flat : {N : Type 0} (made : N → Bool) (advance : N) (is : List (Input N)) → statement_flat made (held_statement advance (map_list input_tree is)) ≡ true
held_flat made advance is = sets_flat made (map_list input_tree is) 0 (flat_all made is)

-- ---- the net that says so
pub stays_where : {N : Type 0} (v : Env N) (advance : N) (ts : List (Tree N)) (s : Stored) → v.net advance ≡ bit false → done v (held_statement advance ts) s ≡ s
stays_where v advance ts s e = ap (λ (x : Word). if x.value == 0 then s else done v (set_statement ts) s) e

-- ---- the block
module _ {P : Type 0} (p : P) (outside : List (Operand (Name P))) (ws : List (BlockWireTree (Name P))) (advance : Name P) (inputs : List (Input (Name P))) (wires : AreWires p outside ws) (shown : Contains outside (Net advance 1))
    (are : All (IsInput (behind p outside ws)) inputs) where
  abbrev ins : List (Operand (Name P))
  ins = behind p outside ws

  abbrev values : List (Tree (Name P))
  values = map_list input_tree inputs

  abbrev widths : List ℕ
  widths = map_list width_of_input inputs

  abbrev pub held_block : BlockTree (Name P)
  held_block = record { registers = map_list first_word inputs; memories = []; wires = ws; statement = held_statement advance values }

  reads : AllByRecursion (IsReadInput ins) inputs
  reads = all_read ins inputs are

  count : length values ≡ length inputs
  count = length-map inputs input_tree

  long : length widths ≡ length inputs
  long = length-map inputs width_of_input

  pub held_registers : map_list word_width (map_list first_word inputs) ≡ widths
  held_registers = first_widths inputs

  pub held_typed : (d : Whole P) → d.block p ≡ held_block → AreDeclared (names_scope d port_list) outside → IsTypedBlock d port_list held_block
  held_typed d here declared =
      let s : Scope (Name P) = names_scope d port_list in
      let all : AreDeclared s ins = behind_declared p d held_block outside here declared in
      record {
        registers = first_fit ins inputs reads;
        memories = refl;
        wires = wires.typed s all;
        statement =
            subst (λ rs. statement_typed s rs [] (held_statement advance values) ≡ true) (sym (first_widths inputs))
            (and_is _ _ (one_is (s.net advance) (declared (Net advance 1) shown)) (sets_typed s widths [] widths values 0 (λ k l. let z : 0 + k ≡ k = omega arith in ap (λ i. get_or widths i 0) z) (typed_all ins s all inputs reads)));
      }

  pub held_reads : (d : Whole P) → Among p d.parts → ((n : Name P) → IsNetOf outside n → IsThere d n) → StatementReads (IsThere d) (held_statement advance values)
  held_reads d among h = (h advance (1, inl shown), sets_read (IsThere d) values 0 (reads_all ins (IsThere d) (behind_there p d ws outside among h) inputs are))

  pub held_within : Within (length (map_list first_word inputs)) 0 (held_statement advance values)
  held_within = sets_within (length (map_list first_word inputs)) 0 values 0 (omega (arith, count, length-map inputs first_word))

  pub held_is_spelled : statement_spelled (held_statement advance values) ≡ true
  held_is_spelled = held_spelled advance values (spelled_all ins inputs reads)

  pub held_first : HasWidths widths (record { registers = map_list first_word inputs; memories = [] })
  held_first = record { count = length-map inputs first_word ∙ sym long; each = λ i l. first_sizes inputs i (omega (arith, l, long)); memories = refl }

  module _ (v : Env (Name P)) (s : Stored) (has : HasWidths widths s) (fit : AreFit v outside) (solved : Solve v p 0 ws) where
    set_registers : (done v (set_statement values) s).registers ≡ map_list (input_word v) inputs
    set_registers = registers_are v values s (has.count ∙ long ∙ sym count) ∙ values_all ins v (wires.fits v fit solved) inputs reads

    pub held_next : v.net advance ≡ bit true → (done v (held_statement advance values) s).registers ≡ map_list (input_word v) inputs
    held_next e = ap (λ (x : Word). (if x.value == 0 then s else done v (set_statement values) s).registers) e ∙ set_registers

    set_fits : HasWidths widths (done v (set_statement values) s)
    set_fits = record {
      count = ap length set_registers ∙ length-map inputs (input_word v) ∙ sym long;
      each = λ i l. subst (λ rs. HasSize (get_or widths i 0) (get_or rs i nothing)) (sym set_registers) (sizes_all ins v (wires.fits v fit solved) inputs reads i (omega (arith, l, long)));
      memories = memories_stay v values s ∙ has.memories;
    }

    pub held_fits : HasWidths widths (done v (held_statement advance values) s)
    held_fits = by_test ((v.net advance).value == 0)
      where
        by_test : (c : Bool) → HasWidths widths (if c then s else done v (set_statement values) s)
        by_test true = has
        by_test false = set_fits
