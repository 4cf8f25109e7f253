-- The block is what it is to be.
use Rattle.std.specs.Prelude.{Contains, slice_index}
use Rattle.std.specs.List.{list_all}
use Rattle.std.proofs.Common.{◌≡◌, ℕ, zero, suc, ◌+◌, ◌^◌, ◌<◌, Bool, true, false, ◌&&◌, ◌||◌, not, Option, is_some, All, List, [], ◌∷◌, ◌++◌, length, get_or, refl, sym, ◌∙◌, ap, subst, arith, map as map_list}
use Rattle.std.proofs.lemmas.Nat.{pow_pos}
use Rattle.std.proofs.lemmas.Bool.{and_parts}
use Rattle.std.proofs.lemmas.List.{length-map, get_or-map}
use Rattle.std.proofs.lemmas.List.Elements.{All-map, All-cons, All-weaker, All-filter}
use Rattle.net_core.specs.declared.tree.Word.{Word}
use Rattle.net_core.specs.Ports.{port_list}
use Rattle.net_core.specs.Value.{word, nothing, bit as bit_word, number_of, Env}
use Rattle.net_core.specs.Clock.{Stored, done as stored_after}
use Rattle.block_core.specs.ProductBlocks.Alone.{wire_flat}
use Rattle.block_core.specs.declared.name.Name.{Name}
use Rattle.block_core.specs.declared.name.Name.TheVariants as name
use Rattle.block_core.specs.Blocks.{BlockTree, BlockWireTree, first_of, Whole}
use Rattle.block_core.specs.Parts.{Solve}
use Rattle.block_core.specs.Order.{IsBefore}
use Rattle.block_core.specs.Formed.{names_scope, block_registers, IsThere}
use Rattle.hazard_core.specs.xdp_maps.declared.decl.MapDecl.{MapDecl}
use Rattle.hazard_core.specs.cell_core.Cells.{bit, on}
use Rattle.hazard_core.specs.cell_core.Sites.{ProgramView, site_at}
use Rattle.hazard_core.specs.Tables.{TableState}
use Rattle.hazard_core.specs.StageValues.{StageValues, writes}
use Rattle.hazard_core.proofs.cell_core_laws.BitLaws.{small_bits}
use Rattle.cell_nets.specs.declared.operand.Operand.{Operand}
use Rattle.cell_nets.specs.declared.operand.Operand.TheVariants.{Net}
use Rattle.cell_nets.specs.Operands.{number_in, IsOperand, IsWide, HasWidth, IsFit, AreFit, IsDeclared, AreDeclared, IsAvailable, IsNetOf}
use Rattle.cell_nets.specs.Wires.{behind, AreWires}
use Rattle.cell_nets.proofs.ChoiceLaws.{fit_of}
use Rattle.cell_nets.proofs.StepNets.StepLaws.{narrow_small, narrow_bits}
use Rattle.cell_nets.specs.declared.operand_blocks.registers.Taken.{Taken}
use Rattle.cell_nets.specs.OperandBlocks.Registers.{operand_in, width_in, taken_word, IsRegistered}
use Rattle.cell_nets.proofs.OperandBlocks.WiringLaws.{no_wires, all_outside, behind_nets}
use Rattle.turn_net.specs.declared.nets.RecordNets.{RecordNets}
use Rattle.turn_net.specs.declared.nets.ActionNets.{ActionNets}
use Rattle.turn_net.specs.declared.nets.ActionShape.{ActionShape}
use Rattle.turn_net.specs.Actions.{Signals, first_open, may_commit, committing, done_after, taken_by}
use Rattle.turn_net.specs.Nets.{sites_of, kept, keeps, all_read, signals, outside, signals_in, slot_operands, own_operands, AreRecords, ShowsRecords}
use Rattle.turn_net.specs.Steps.{ShowsChosen, slots_after, IsDecided, HasDecided, Decides, slot_value, taken_values}
use Rattle.turn_net.specs.Action.{slot_word, IsSmall, StoresAction, SeesAction, site_in, ShowsAction, ShowsTarget, IsAction}
use Rattle.turn_net.proofs.StandLemmas.{left_of, right_of}
use Rattle.turn_net.proofs.NetLemmas.{slots_all, beside_all, NetIs, nets_of, net_is}
use Rattle.turn_net.proofs.ClockLemmas.{kept_keep, all_slots, slot_words, words_of_slots, slots_fit, first_words}

-- ---- what the registers take
slots_taken : {N : Type 0} (bits : ℕ) (slots : List (Operand N)) → map_list operand_in (map_list (slot_value bits) slots) ≡ slots
slots_taken bits [] = refl
slots_taken bits (a ∷ slots) = ap (λ l. a ∷ l) (slots_taken bits slots)

register_widths : {N X : Type 0} (bits : ℕ) (slots : List (Operand N)) (xs : List X) → length slots ≡ length xs → map_list width_in (map_list (slot_value bits) slots) ≡ map_list (λ x. bits) xs
register_widths bits [] [] e = refl
register_widths bits [] (x ∷ xs) e = absurd (omega arith)
register_widths bits (a ∷ slots) [] e = absurd (omega arith)
register_widths bits (a ∷ slots) (x ∷ xs) e = ap (λ l. bits ∷ l) (register_widths bits slots xs (omega arith))

pub count_taken : {N : Type 0} (shape : ActionShape) (last : Operand N) (slots : List (Operand N)) → length (taken_values shape last slots) ≡ suc (length slots)
count_taken shape last slots = ap suc (length-map slots (slot_value shape.slot_bits))

pub are_operands : {N : Type 0} (shape : ActionShape) (last : Operand N) (slots : List (Operand N)) → IsOperand last → All IsOperand slots → All (λ t. IsOperand (operand_in t)) (taken_values shape last slots)
are_operands shape last slots h k =
    All-cons (λ t. IsOperand (operand_in t)) (slot_value shape.bits last) (map_list (slot_value shape.slot_bits) slots) h (All-map (λ t. IsOperand (operand_in t)) (slot_value shape.slot_bits) slots k)

pub are_wide : {N : Type 0} (shape : ActionShape) (last : Operand N) (slots : List (Operand N)) → IsWide shape.bits → IsWide shape.slot_bits → All (λ t. IsWide (width_in t)) (taken_values shape last slots)
are_wide shape last slots h k = All-cons (λ t. IsWide (width_in t)) (slot_value shape.bits last) (map_list (slot_value shape.slot_bits) slots) h (All-map (λ t. IsWide (width_in t)) (slot_value shape.slot_bits) slots (λ i d l. k))

bit_net : (w : Word) (b : Bool) → w.width ≡ 1 → w.value ≡ bit b → w ≡ bit_word b
bit_net w true e f = λ i. word (e i) (f i)
bit_net w false e f = λ i. word (e i) (f i)

on_number : (b : Bool) → on (number_of b) ≡ b
on_number true = refl
on_number false = refl

bit_fits : {N : Type 0} (v : Env N) (n : N) (b : Bool) → v.net n ≡ bit_word b → HasWidth v n 1
bit_fits v n true e = record { width = ap (λ (w : Word). w.width) e; small = let f = ap (λ (w : Word). w.value) e in omega (arith, f) }
bit_fits v n false e = record { width = ap (λ (w : Word). w.width) e; small = let f = ap (λ (w : Word). w.value) e in omega (arith, f) }

word_fits_net : {N : Type 0} (v : Env N) (n : N) (bits x : ℕ) → v.net n ≡ word bits x → x < 2 ^ bits → HasWidth v n bits
word_fits_net v n bits x e l = record { width = ap (λ (w : Word). w.width) e; small = let f = ap (λ (w : Word). w.value) e in omega (arith, f, l) }

-- ---- the block
-- it has these wires, and registers that take these, wherever the operands are there
abbrev pub IsMade : {P : Type 0} → List (Taken (Name P)) → List (BlockWireTree (Name P)) → BlockTree (Name P) → Type 0
IsMade {P} all ws b = (part : P) (outside : List (Operand (Name P))) → AreWires part outside ws → All (IsAvailable (behind part outside ws)) (map_list operand_in all) → IsRegistered part outside all ws b

module _
    {P : Type 0} (p : ProgramView) (decls : List MapDecl) (part : P) (shape : ActionShape) (nets : ActionNets P) (rs : List (RecordNets (Name P))) (ws : List (BlockWireTree (Name P))) (chosen : List (Operand (Name P))) (commits stays : Name P) (last : Operand (Name P)) (slots : List (Operand (Name P)))
    (b : BlockTree (Name P)) (are : AreRecords p decls rs) (d : HasDecided shape rs chosen last slots) (leads : Decides p decls part shape nets rs [] ws chosen commits stays last slots)
    (made : IsMade (taken_values shape last slots) ws b) where
  abbrev owns : List (Operand (Name P))
  owns = own_operands part shape rs

  abbrev inputs : List (Operand (Name P))
  inputs = owns ++ outside nets rs

  abbrev ins : List (Operand (Name P))
  ins = behind part inputs ws

  abbrev outs : List (Operand (Name P))
  outs = Net commits 1 ∷ Net stays 1 ∷ chosen

  there : All (IsAvailable ins) (outs ++ last ∷ slots)
  there = leads.there inputs (no_wires part inputs) (all_outside part inputs)

  wires : AreWires part inputs ws
  wires = leads.wires inputs (no_wires part inputs) (all_outside part inputs)

  registered : IsRegistered part inputs (taken_values shape last slots) ws b
  registered = made part inputs wires (subst (λ l. All (IsAvailable ins) (last ∷ l)) (sym (slots_taken shape.slot_bits slots)) (right_of (IsAvailable ins) outs (last ∷ slots) there))

  widths : block_registers b ≡ shape.bits ∷ map_list (λ r. shape.slot_bits) (kept rs)
  widths = registered.registers ∙ ap (λ l. shape.bits ∷ l) (register_widths shape.slot_bits slots (kept rs) d.slots_count)

  -- ---- where it stands
  own_registers : (Q : Operand (Name P) → Type 0) → Q (Net (name.Register part 0) shape.bits) → ((i : ℕ) → i < length (kept rs) → Q (Net (name.Register part (1 + i)) shape.slot_bits)) → All Q owns
  own_registers Q h k = All-cons Q (Net (name.Register part 0) shape.bits) (slot_operands part shape.slot_bits 1 (length (kept rs))) h (slots_all part shape.slot_bits Q 1 (length (kept rs)) k)

  declared_inputs : (w : Whole P) → w.block part ≡ b → AreDeclared (names_scope w port_list) (outside nets rs) → AreDeclared (names_scope w port_list) inputs
  declared_inputs w here given =
      beside_all (IsDeclared (names_scope w port_list)) owns (outside nets rs)
      (own_registers (IsDeclared (names_scope w port_list)) (ap (λ (c : BlockTree (Name P)). get_or (block_registers c) 0 0) here ∙ ap (λ ns. get_or ns 0 0) widths)
      (λ i l. let z : 1 + i ≡ suc i = omega arith in ap (λ j. get_or (block_registers (w.block part)) j 0) z ∙ ap (λ (c : BlockTree (Name P)). get_or (block_registers c) (suc i) 0) here ∙ ap (λ ns. get_or ns (suc i) 0) widths ∙ constant (kept rs) i l))
      given
    where
      constant : (xs : List (RecordNets (Name P))) (i : ℕ) → i < length xs → get_or (map_list (λ r. shape.slot_bits) xs) i 0 ≡ shape.slot_bits
      constant [] i l = absurd (omega arith)
      constant (x ∷ xs) zero l = refl
      constant (x ∷ xs) (suc i) l = constant xs i (omega arith)

  input_nets : (q : Name P → Type 0) → ((i : ℕ) → q (name.Register part i)) → ((m : Name P) → IsNetOf (outside nets rs) m → q m) → (a : Operand (Name P)) → Contains inputs a → NetIs q a
  input_nets q mine h = beside_all (NetIs q) owns (outside nets rs) (own_registers (NetIs q) (mine 0) (λ i l. mine (1 + i))) (net_is q (outside nets rs) h)

  flat : (made : Name P → Bool) → list_all (wire_flat made) ws ≡ true
  flat made = subst (λ l. list_all (wire_flat made) l ≡ true) (sym leads.apart.added) (leads.apart.free refl made)

  starts : (taken : List ℕ) → All (λ r. slice_index taken r.number ≡ 0) (kept rs) → StoresAction shape rs 0 taken (first_of b)
  starts taken none = record {
    registers = ap (λ (s : Stored). s.registers) registered.first ∙ ap (λ l. word shape.bits 0 ∷ l) (first_words shape.slot_bits taken slots (kept rs) d.slots_count none);
    memories = ap (λ (s : Stored). s.memories) registered.first;
    done_small = pow_pos shape.bits;
    slots_small = All-weaker (λ r. slice_index taken r.number ≡ 0) (IsSmall shape.slot_bits taken) (λ r e. let l = pow_pos shape.slot_bits in omega (arith, e, l)) (kept rs) none;
  }

  -- ---- a clock
  module _ (i : Signals) (now : ℕ) (taken : List ℕ) (s : Stored) (v : Env (Name P)) (stored : StoresAction shape rs now taken s) (sees : SeesAction part nets rs b i s v) where
    long : length s.registers ≡ 1 + length (kept rs)
    long = omega (arith, ap (λ (l : List Word). length l) stored.registers, length-map (kept rs) (slot_word shape.slot_bits taken))

    register_0 : v.net (name.Register part 0) ≡ word shape.bits now
    register_0 = sees.registers 0 (omega (arith, long)) ∙ ap (λ (l : List Word). get_or l 0 nothing) stored.registers

    register_at : (k : ℕ) (r : RecordNets (Name P)) → k < length (kept rs) → v.net (name.Register part (1 + k)) ≡ word shape.slot_bits (slice_index taken (get_or (kept rs) k r).number)
    register_at k r l = let z : 1 + k ≡ suc k = omega arith in sees.registers (1 + k) (omega (arith, long)) ∙ ap (λ j. get_or s.registers j nothing) z ∙ ap (λ (l : List Word). get_or l (suc k) nothing) stored.registers ∙ get_or-map (slot_word shape.slot_bits taken) (kept rs) k r nothing l

    small_at : (k : ℕ) → k < length (kept rs) → HasWidth v (name.Register part (1 + k)) shape.slot_bits
    small_at k l = by (kept rs) refl
      where
        by : (xs : List (RecordNets (Name P))) → kept rs ≡ xs → HasWidth v (name.Register part (1 + k)) shape.slot_bits
        by [] e = let none = ap (λ (l : List (RecordNets (Name P))). length l) e in absurd (omega arith)
        by (x ∷ xs) e = word_fits_net v (name.Register part (1 + k)) shape.slot_bits _ (register_at k x l) (stored.slots_small k x l)

    seen : (a : Operand (Name P)) → Contains (outside nets rs) a → IsFit v a
    seen = beside_all (IsFit v) (signals nets) (all_read rs) signs sees.fit
      where
        signs : All (IsFit v) (signals nets)
        signs zero e l = bit_fits v nets.present i.present sees.present
        signs (suc zero) e l = bit_fits v nets.back i.back sees.back
        signs (suc (suc zero)) e l = bit_fits v nets.host i.host sees.host
        signs (suc (suc (suc k))) e l = absurd (omega arith)

    fits : AreFit v inputs
    fits = beside_all (IsFit v) owns (outside nets rs) (own_registers (IsFit v) (word_fits_net v (name.Register part 0) shape.bits now register_0 stored.done_small) small_at) seen

    solved : Solve v part 0 ws
    solved = subst (Solve v part 0) registered.wires sees.wires

    all_fit : AreFit v ins
    all_fit = wires.fits v fits solved

    out_fit : All (IsFit v) (outs ++ last ∷ slots)
    out_fit k e l = fit_of ins v _ (there k e l) all_fit

    decided : IsDecided p decls part nets rs chosen commits stays last slots v
    decided = leads.known inputs v (no_wires part inputs) (all_outside part inputs) fits solved tt

    signs : signals_in nets v ≡ i
    signs =
        let a = ap (λ (w : Word). on w.value) sees.present ∙ on_number i.present in
        let b = ap (λ (w : Word). on w.value) sees.back ∙ on_number i.back in
        let c = ap (λ (w : Word). on w.value) sees.host ∙ on_number i.host in
        λ k. record { present = a k; back = b k; host = c k }

    number_0 : (v.net (name.Register part 0)).value ≡ now
    number_0 = ap (λ (w : Word). w.value) register_0

    module _ (h : StageValues) (shows : i.present ≡ true → ShowsRecords v p h rs) where
      is_there : may_commit i ≡ true → i.present ≡ true
      is_there e = (and_parts i.present (not i.back) (and_parts (i.present && not i.back) (not i.host) e).0).0

      site : decided.site ≡ site_in p decls i now h rs
      site =
          decided.shown h (λ e. shows (is_there (ap may_commit (sym signs) ∙ e)))
          ∙ (λ k. committing (signs k) (first_open (number_0 k) (writes p decls h) (sites_of rs)))

      shown : ShowsAction i (site_in p decls i now h rs) rs chosen commits stays v
      shown = record {
        each = subst (λ x. ShowsChosen v x rs chosen) site decided.each;
        commits = let f : HasWidth v commits 1 = out_fit 0 (Net commits 1) (omega arith) in bit_net (v.net commits) (is_some (site_in p decls i now h rs)) f.width (decided.commits ∙ ap (λ x. bit (is_some x)) site);
        stays = let f : HasWidth v stays 1 = out_fit 1 (Net stays 1) (omega arith) in
            bit_net (v.net stays) (is_some (site_in p decls i now h rs) || i.host) f.width (decided.stays ∙ (λ k. bit (is_some (site k) || (signs k).host)));
      }

      module _ (t : TableState) (declared : t.decls ≡ decls) (inside : All (λ r. r.number < length taken) rs) (targets : All (ShowsTarget v p t taken h (site_in p decls i now h rs)) (kept rs)) where
        abbrev at : Option ℕ
        at = site_in p decls i now h rs

        end_fit : All (IsFit v) (last ∷ slots)
        end_fit = right_of (IsFit v) outs (last ∷ slots) out_fit

        done_is : number_in v last ≡ done_after i now at
        done_is = decided.done ∙ (λ k. done_after (signs k) (number_0 k) (site k))

        done_small : number_in v last < 2 ^ shape.bits
        done_small = narrow_small v shape.bits last (narrow_bits shape.bits last d.done_bits) (end_fit 0 last (omega arith))

        slots_small : All (λ a. number_in v a < 2 ^ shape.slot_bits) slots
        slots_small k e l = narrow_small v shape.slot_bits (get_or slots k e) (narrow_bits shape.slot_bits (get_or slots k e) (d.slot_bits k e l)) (end_fit (suc k) e (omega arith))

        acts : All (λ r. (site_at p.sites r.number).act ≡ r.act) (kept rs)
        acts = All-filter keeps (λ r. (site_at p.sites r.number).act ≡ r.act) rs (λ k e l. (are.each k e l).act)

        slots_are : map_list (number_in v) slots ≡ map_list (λ r. slice_index (taken_by p t taken h at) r.number) (kept rs)
        slots_are =
            decided.slots ∙ ap (λ x. slots_after v part x 1 (kept rs)) site
            ∙ all_slots v p t taken h part at 1 (kept rs) (kept_keep rs) acts (All-filter keeps (λ r. r.number < length taken) rs inside) targets (λ k r l. ap (λ (w : Word). w.value) (register_at k r l))

        left : stored_after v b.statement s ≡ record { registers = map_list (taken_word v) (taken_values shape last slots); memories = [] }
        left = registered.takes v s fits sees.wires (omega (arith, long, length-map slots (slot_value shape.slot_bits), d.slots_count)) stored.memories

        stores : StoresAction shape rs (done_after i now at) (taken_by p t taken h at) (stored_after v b.statement s)
        stores = record {
          registers =
              ap (λ (s : Stored). s.registers) left
              ∙ (λ k. word shape.bits ((small_bits (number_in v last) shape.bits done_small ∙ done_is) k)
              ∷ (slot_words v shape.slot_bits slots slots_small ∙ ap (map_list (word shape.slot_bits)) slots_are ∙ words_of_slots shape.slot_bits (taken_by p t taken h at) (kept rs)) k);
          memories = ap (λ (s : Stored). s.memories) left;
          done_small = subst (λ x. x < 2 ^ shape.bits) done_is done_small;
          slots_small = slots_fit v shape.slot_bits (taken_by p t taken h at) slots (kept rs) slots_small slots_are;
        }

  pub is_action : IsAction p decls part shape nets rs b chosen commits stays
  is_action = record {
    registers = widths;
    memories = registered.memories;
    count = d.chosen.count;
    operands = d.chosen.operands;
    bits = d.chosen.bits;
    there = subst (λ l. All (IsAvailable (behind part inputs l)) outs) (sym registered.wires) (left_of (IsAvailable ins) outs (last ∷ slots) there);
    typed = λ w here given. registered.typed w here (declared_inputs w here given);
    ordered = λ w before among h. registered.ordered w before (nets_of (IsBefore w before part 0) inputs (input_nets (IsBefore w before part 0) (λ i. among) h));
    reads = λ w among h. registered.reads w (behind_nets part inputs ws (IsThere w) (nets_of (IsThere w) inputs (input_nets (IsThere w) (λ i. among) h)) (λ i l. among));
    within = registered.within;
    wires_spelled = registered.wires_spelled;
    spelled = registered.spelled;
    free = record { wires = λ made. subst (λ l. list_all (wire_flat made) l ≡ true) (sym registered.wires) (flat made); statement = registered.flat };
    first = starts;
    goes = λ i now taken s v stored sees. registered.goes v (fits i now taken s v stored sees) sees.wires;
    shows = λ i now taken h s v stored sees shows. shown i now taken s v stored sees h shows;
    clock = λ t i now taken h s v stored sees shows declared inside targets. stores i now taken s v stored sees h shows t declared inside targets;
  }
