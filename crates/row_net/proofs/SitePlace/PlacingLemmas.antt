-- The block of a place is what it is to be.
use Rattle.std.specs.Prelude.{◌≡◌, ℕ, ◌+◌, ◌<◌, ◌≤◌, Option, Some, None, All, Contains, List, [], ◌∷◌, ◌++◌, length, map as map_list, take}
use Rattle.std.proofs.Common.{get_or, refl, sym, ap, ap₂, ◌∙◌, subst, arith, inl, inr, ◌⊎◌}
use Rattle.std.proofs.lemmas.Bool.{cases_lt}
use Rattle.std.proofs.lemmas.List.{length-map, map-append, get_or-map, get_or_default, get_or_past, take_more}
use Rattle.std.proofs.lemmas.List.Elements.{All-head, All-tail, All-append, All-map, All-contains}
use Rattle.net_core.specs.Value.{word, Env}
use Rattle.net_core.specs.Clock.{done}
use Rattle.block_core.specs.declared.name.Name.{Name}
use Rattle.block_core.specs.Blocks.{BlockTree, BlockWireTree}
use Rattle.overlay_net.specs.cell_core.declared.cell.Cell.{Cell}
use Rattle.overlay_net.specs.cell_core.View.{cell_of}
use Rattle.overlay_net.specs.cell_core.Cells.{CellView, no_cell}
use Rattle.overlay_net.specs.cell_core.Formed.{AreFormed}
use Rattle.overlay_net.specs.hazard_core.declared.pointer.Pointer.{Pointer}
use Rattle.cell_nets.specs.declared.operand.Operand.{Operand}
use Rattle.cell_nets.specs.declared.operand.Operand.TheVariants.{Net}
use Rattle.cell_nets.specs.Operands.{IsOperand, IsWide}
use Rattle.cell_nets.specs.Wires.{behind, AreWires}
use Rattle.row_net.specs.Table.{IsIn, IsTable, AreThere, Holds}
use Rattle.row_net.specs.Made.{IsRow}
use Rattle.row_net.specs.PlaceNet.Place.{width_at, widths_of, words_of}
use Rattle.row_net.specs.SitePlace.Pointing.{IsPointers, HoldsPointers}
use Rattle.row_net.specs.SitePlace.PointerNets.{BothThere, IsPointerRow}
use Rattle.row_net.specs.SitePlace.Inputs.{Input, IsInput, number_from, width_of_input, input_word, first_word, input_tree, held_statement, cell_input, pointer_input, HasWidths}
use Rattle.row_net.specs.SitePlace.SitePlace.{site_widths, pointer_word, site_words, IsSitePlace}
use Rattle.row_net.proofs.SitePlace.HoldingLemmas.{held_registers, held_typed, held_reads, held_within, held_is_spelled, held_first, held_next, held_fits, stays_where}

-- ---- what is in a table
in_within : {N : Type 0} (table : List (Option (Operand N))) (k : ℕ) → IsIn table k → k < length table
in_within {N = N} table k (a, e) = by_case (cases_lt k (length table))
  where
    by_case : (k < length table) ⊎ (length table ≤ k) → k < length table
    by_case (inl l) = l
    by_case (inr l) = let past : get_or table k None ≡ None = get_or_past table k None l in cc

-- what was there or is made
pub held_all : {N : Type 0} (before after : List (Option (Operand N))) (made carried : List ℕ) → ((k : ℕ) → IsIn before k → IsIn after k) → All (IsIn after) made → All (λ k. IsIn before k ⊎ Contains made k) carried → All (IsIn after) carried
held_all {N = N} before after made carried grows made_in h k d l = by_case (h k d l)
  where
    by_case : IsIn before (get_or carried k d) ⊎ Contains made (get_or carried k d) → IsIn after (get_or carried k d)
    by_case (inl x) = grows (get_or carried k d) x
    by_case (inr x) = All-contains (IsIn after) made (get_or carried k d) made_in x

pub in_all : {N : Type 0} (table : List (Option (Operand N))) (n : ℕ) (ks : List ℕ) → length table ≡ n → All (IsIn table) ks → All (λ k. k < n) ks
in_all table n ks count h i d l = let w = in_within table (get_or ks i d) (h i d l) in omega (arith, w, count)

-- ---- inputs of registers
module _ {N : Type 0} (cells : List CellView) (ins : List (Operand N)) (formed : AreFormed cells) where
  module _ (table : List (Option (Operand N))) (is : IsTable cells table) (there : AreThere ins table) where
    cell_one : (k : ℕ) → IsIn table k → 0 < width_at cells k → IsInput ins (cell_input cells table k)
    cell_one k (a, e) some =
        let l : k < length cells = omega (arith, in_within table k (a, e), is.count) in
        record { some = some; most = (formed.each k l).width; from = a; is = e; held = record { operand = is.operand k a e; wide = is.bits k a e }; there = there k a e }

    cell_all : (ks : List ℕ) → All (IsIn table) ks → All (λ k. 0 < width_at cells k) ks → All (IsInput ins) (map_list (cell_input cells table) ks)
    cell_all ks h some = All-map (IsInput ins) (cell_input cells table) ks (λ i d l. cell_one (get_or ks i d) (h i d l) (some i d l))

  module _ (bits : ℕ) (wide : IsWide bits) (those : List (Option (Operand N))) (is : IsPointers cells bits those) (there : AreThere ins those) where
    pointer_one : (k : ℕ) → IsIn those k → IsInput ins (pointer_input bits those k)
    pointer_one k (a, e) = record { some = wide.some; most = wide.most; from = a; is = e; held = record { operand = is.operand k a e; wide = is.wide k a e }; there = there k a e }

    pointer_all : (ks : List ℕ) → All (IsIn those) ks → All (IsInput ins) (map_list (pointer_input bits those) ks)
    pointer_all ks h =
        All-map (IsInput ins) (pointer_input bits those) ks
        (λ i d l. pointer_one (get_or ks i d) (h i d l))

-- the operands of inputs from tables
abbrev pub FromOperand : {N : Type 0} → Input N → Type 0
FromOperand i = (a : Operand _) → i.operand ≡ Some a → IsOperand a

pub operands_all :
    {N : Type 0} (cells : List CellView) (bits : ℕ) (table those : List (Option (Operand N))) (ks js : List ℕ) → IsTable cells table → IsPointers cells bits those
    → All FromOperand (map_list (cell_input cells table) ks ++ map_list (pointer_input bits those) js)
operands_all cells bits table those ks js is are =
    All-append FromOperand (map_list (cell_input cells table) ks) (map_list (pointer_input bits those) js) (All-map FromOperand (cell_input cells table) ks (λ i d l a e. is.operand (get_or ks i d) a e))
    (All-map FromOperand (pointer_input bits those) js (λ i d l a e. are.operand (get_or js i d) a e))

-- ---- widths and words
cell_widths : {N : Type 0} (cells : List CellView) (table : List (Option (Operand N))) (ks : List ℕ) → map_list width_of_input (map_list (cell_input cells table) ks) ≡ widths_of cells ks
cell_widths cells table [] = refl
cell_widths cells table (k ∷ ks) = ap (λ l. width_at cells k ∷ l) (cell_widths cells table ks)

pointer_widths : {N : Type 0} (bits : ℕ) (those : List (Option (Operand N))) (ks : List ℕ) → map_list width_of_input (map_list (pointer_input bits those) ks) ≡ map_list (λ k. bits) ks
pointer_widths bits those [] = refl
pointer_widths bits those (k ∷ ks) = ap (λ l. bits ∷ l) (pointer_widths bits those ks)

module _ {N : Type 0} (v : Env N) where
  cell_words : (cells : List CellView) (table : List (Option (Operand N))) (val : ℕ → ℕ) → Holds v table val → (ks : List ℕ) → All (IsIn table) ks → map_list (input_word v) (map_list (cell_input cells table) ks) ≡ words_of cells val ks
  cell_words cells table val h [] i = refl
  cell_words cells table val h (k ∷ ks) i =
      let x = All-head (IsIn table) k ks i in
      ap₂ (λ n l. word (width_at cells k) n ∷ l) (ap (number_from v) x.1 ∙ h k x.0 x.1) (cell_words cells table val h ks (All-tail (IsIn table) k ks i))

  pointer_words : (bits : ℕ) (those : List (Option (Operand N))) (at : ℕ → Pointer) → HoldsPointers v those at → (ks : List ℕ) → All (IsIn those) ks → map_list (input_word v) (map_list (pointer_input bits those) ks) ≡ map_list (pointer_word bits at) ks
  pointer_words bits those at h [] i = refl
  pointer_words bits those at h (k ∷ ks) i =
      let x = All-head (IsIn those) k ks i in
      ap₂ (λ n l. word bits n ∷ l) (ap (number_from v) x.1 ∙ h k x.0 x.1) (pointer_words bits those at h ks (All-tail (IsIn those) k ks i))

-- ---- the block
module _ {P : Type 0} (p : P) (cells : List CellView) (made carried made_pointers carried_pointers : List ℕ) (bits : ℕ) (outside : List (Operand (Name P))) (advance : Name P) (old mid ws : List (BlockWireTree (Name P))) (before after pointers those : List (Option (Operand (Name P)))) (formed : AreFormed cells)
    (wide : IsWide bits) (row : IsRow p cells made old mid before after) (pointed : IsPointerRow p cells bits made_pointers after mid ws pointers those) (shown : Contains outside (Net advance 1)) (old_wires : AreWires p outside old) (old_there : AreThere (behind p outside old) before)
    (old_pointers : AreThere (behind p outside old) pointers) (held : All (IsIn after) carried) (some : All (λ k. 0 < width_at cells k) carried) (held_pointers : All (IsIn those) carried_pointers) where
  abbrev cell_list : List (Input (Name P))
  cell_list = map_list (cell_input cells after) carried

  abbrev pointer_list : List (Input (Name P))
  pointer_list = map_list (pointer_input bits those) carried_pointers

  abbrev inputs : List (Input (Name P))
  inputs = cell_list ++ pointer_list

  abbrev block : BlockTree (Name P)
  block = record { registers = map_list first_word inputs; memories = []; wires = ws; statement = held_statement advance (map_list input_tree inputs) }

  middle : BothThere p outside mid after pointers
  middle = record { wires = row.wires outside old_wires old_there; cells = row.there outside old_wires old_there; pointers = λ k a s. row.stays outside a (old_pointers k a s) }

  both : BothThere p outside ws after those
  both = pointed.there outside middle

  are : All (IsInput (behind p outside ws)) inputs
  are =
      All-append (IsInput (behind p outside ws)) cell_list pointer_list (cell_all cells (behind p outside ws) formed after row.table both.cells carried held some)
      (pointer_all cells (behind p outside ws) formed bits wide those pointed.pointers both.pointers carried_pointers held_pointers)

  widths_are : map_list width_of_input inputs ≡ site_widths cells bits carried carried_pointers
  widths_are = map-append width_of_input cell_list pointer_list ∙ ap₂ (λ l r. l ++ r) (cell_widths cells after carried) (pointer_widths bits those carried_pointers)

  words_are : (v : Env (Name P)) (val : ℕ → ℕ) (at : ℕ → Pointer) → Holds v after val → HoldsPointers v those at → map_list (input_word v) inputs ≡ site_words cells bits val at carried carried_pointers
  words_are v val at h q = map-append (input_word v) cell_list pointer_list ∙ ap₂ (λ l r. l ++ r) (cell_words v cells after val h carried held) (pointer_words v bits those at q carried_pointers held_pointers)

  places : IsSitePlace p cells made carried made_pointers carried_pointers bits outside before pointers advance block
  places = record {
    registers = held_registers p outside ws advance inputs both.wires shown are ∙ widths_are;
    memories = refl;
    typed = λ d here declared. held_typed p outside ws advance inputs both.wires shown are d here declared;
    ordered = λ d earlier h. both.wires.ordered d earlier h;
    reads = λ d among h. held_reads p outside ws advance inputs both.wires shown are d among h;
    within = held_within p outside ws advance inputs both.wires shown are;
    wires_spelled = both.wires.spelled;
    spelled = held_is_spelled p outside ws advance inputs both.wires shown are;
    goes = λ v f solved. both.wires.goes v f solved;
    first = subst (λ w. HasWidths w (record { registers = map_list first_word inputs; memories = [] })) widths_are (held_first p outside ws advance inputs both.wires shown are);
    fits = λ v s h f solved.
        subst (λ w. HasWidths w (done v block.statement s)) widths_are (held_fits p outside ws advance inputs both.wires shown are v s (subst (λ w. HasWidths w s) (sym widths_are) h) f solved);
    next = λ v s packet val at e h f solved values those_are holds holds_pointers.
        let row_solved = pointed.adds.before v solved in
        let cells_hold = row.value outside v packet val old_wires old_there f row_solved values holds in
        held_next p outside ws advance inputs both.wires shown are v s (subst (λ w. HasWidths w s) (sym widths_are) h) f solved e
        ∙ words_are v val at cells_hold (pointed.value outside v val at middle f solved those_are cells_hold holds_pointers);
    stays = λ v s e. stays_where v advance (map_list input_tree inputs) s e;
  }

  pub is_site_place : (b : BlockTree (Name P)) → b ≡ block → IsSitePlace p cells made carried made_pointers carried_pointers bits outside before pointers advance b
  is_site_place b e = subst (IsSitePlace p cells made carried made_pointers carried_pointers bits outside before pointers advance) (sym e) places

-- ---- cells in memory
pub width_same : (cells : List Cell) (k : ℕ) (d : Cell) → k < length cells → (get_or cells k d).width ≡ width_at (map_list cell_of cells) k
width_same cells k d l = sym (ap (λ (x : CellView). x.width) (get_or-map cell_of cells k d no_cell l))

pub width_small : (cells : List Cell) (k : ℕ) (d : Cell) → AreFormed (map_list cell_of cells) → k < length cells → (get_or cells k d).width ≤ 64
width_small cells k d formed l =
    let l' : k < length (map_list cell_of cells) = omega (arith, l, length-map cells cell_of) in
    subst (λ (x : CellView). x.width ≤ 64) (get_or-map cell_of cells k d no_cell l) (formed.each k l').width

pub input_is : {N : Type 0} (cells : List CellView) (table : List (Option (Operand N))) (k w : ℕ) (o : Option (Operand N)) → k < length table → o ≡ get_or table k o → w ≡ width_at cells k → record { operand = o; width = w } ≡ cell_input cells table k
input_is cells table k w o l e f = let same : o ≡ get_or table k None = e ∙ sym (get_or_default table k None o l) in λ i. record { operand = same i; width = f i }

pub inputs_more : {B : Type 0} (f : ℕ → B) (ks : List ℕ) (i : ℕ) (all new : List B) (y : B) → new ≡ all ++ y ∷ [] → i < length ks → all ≡ map_list f (take i ks) → y ≡ f (get_or ks i 0) → new ≡ map_list f (take (i + 1) ks)
inputs_more f ks i all new y e l h is = e ∙ ap₂ (λ xs z. xs ++ z ∷ []) h is ∙ sym (map-append f (take i ks) (get_or ks i 0 ∷ [])) ∙ ap (map_list f) (sym (take_more ks i 0 l))

pub carried_within :
    {N : Type 0} (cells : List Cell) (before after : List (Option (Operand N))) (made carried : List ℕ) → IsTable (map_list cell_of cells) after → ((k : ℕ) → IsIn before k → IsIn after k) → All (IsIn after) made → All (λ k. IsIn before k ⊎ Contains made k) carried → All (λ k. k < length cells) carried
carried_within cells before after made carried is grows made_in h = in_all after (length cells) carried (is.count ∙ length-map cells cell_of) (held_all before after made carried grows made_in h)
