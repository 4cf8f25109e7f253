-- The block of marks is what it is to be.
use Rattle.std.specs.Prelude.{Option, Contains}
use Rattle.std.specs.List.{list_all}
use Rattle.std.proofs.Common.{◌≡◌, ◌⊎◌, inl, inr, ◌∙◌, ℕ, ◌+◌, ◌<◌, Bool, true, false, ◌||◌, All, List, [], ◌∷◌, length, refl, sym, ap, subst, arith, map as map_list}
use Rattle.std.proofs.lemmas.List.Elements.{All-head, All-tail, Contains-append_cases}
use Rattle.block_core.specs.net_core.declared.tree.Word.{Word}
use Rattle.block_core.specs.net_core.Value.{word, bit as bit_word, Env}
use Rattle.block_core.specs.ProductBlocks.Alone.{wire_flat}
use Rattle.block_core.specs.declared.name.Name.{Name}
use Rattle.block_core.specs.declared.name.Name.TheVariants as name
use Rattle.block_core.specs.Blocks.{BlockTree, BlockWireTree}
use Rattle.block_core.specs.Parts.{Solve}
use Rattle.block_core.specs.Formed.{IsThere}
use Rattle.overlay_net.specs.xdp_maps.declared.decl.MapDecl.{MapDecl}
use Rattle.overlay_net.specs.cell_core.Cells.{bit, on, bits_from}
use Rattle.overlay_net.specs.cell_core.Sites.{ProgramView}
use Rattle.overlay_net.specs.hazard_core.StageValues.{StageValues}
use Rattle.overlay_net.specs.hazard_core.declared.change.Change.{Change}
use Rattle.overlay_net.specs.cell_nets.declared.operand.Operand.{Operand}
use Rattle.overlay_net.specs.cell_nets.declared.operand.Operand.TheVariants.{Known, Net, Part}
use Rattle.overlay_net.specs.cell_nets.Operands.{number_in, IsOperand, IsWide, AreFit, IsAvailable, IsNetOf}
use Rattle.overlay_net.specs.cell_nets.Wires.{own, behind, always, AreWires}
use Rattle.overlay_net.specs.cell_nets.StepNets.Standing.{Stands}
use Rattle.overlay_net.specs.cell_nets.declared.operand_blocks.registers.Taken.{Taken}
use Rattle.overlay_net.specs.cell_nets.OperandBlocks.Registers.{operand_in, width_in, taken_word, zero_word, IsRegistered}
use Rattle.overlay_net.proofs.cell_nets_laws.OperandBlocks.WiringLaws.{own_all, all_wires, all_there, all_known, wires_flat}
use Rattle.overlay_net.proofs.cell_core_laws.BitLaws.{bit_bits}
use Rattle.read_net.specs.declared.mark_net.nets.MarkSite.{MarkSite}
use Rattle.read_net.specs.MarkNet.Sites.{outside, is_touched, ShowsMarkSite, ShowMarkSites}
use Rattle.read_net.specs.MarkNet.Marks.{IsBit, TakeMarks, unmarked, mark_before, mark_behind, with_words, IsMarks}

-- ---- registers of one bit
word_of : (c : Bool) → word 1 (bit c) ≡ bit_word c
word_of true = refl
word_of false = refl

pub bits_operands : {N : Type 0} (ts : List (Taken N)) → All IsBit ts → All (λ t. IsOperand (operand_in t)) ts
bits_operands ts h k d l = (h k d l).operand

pub bits_wide : {N : Type 0} (ts : List (Taken N)) → All IsBit ts → All (λ t. IsWide (width_in t)) ts
bits_wide ts h k d l = subst IsWide (sym (h k d l).width) (record { some = omega arith; most = omega arith })

module _ {N : Type 0} where
  widths : (ms : List (MarkSite N)) (ts : List (Taken N)) → length ts ≡ length ms → All IsBit ts → map_list width_in ts ≡ map_list (λ (m : MarkSite N). 1) ms
  widths [] [] e h = refl
  widths [] (t ∷ ts) e h = absurd (omega (arith, e))
  widths (m ∷ ms) [] e h = absurd (omega (arith, e))
  widths (m ∷ ms) (t ∷ ts) e h =
      let first = (All-head IsBit t ts h).width in
      let rest = widths ms ts (omega (arith, e)) (All-tail IsBit t ts h) in
      λ i. first i ∷ rest i

  zeros : (ms : List (MarkSite N)) (ts : List (Taken N)) → length ts ≡ length ms → All IsBit ts → map_list zero_word ts ≡ map_list unmarked ms
  zeros [] [] e h = refl
  zeros [] (t ∷ ts) e h = absurd (omega (arith, e))
  zeros (m ∷ ms) [] e h = absurd (omega (arith, e))
  zeros (m ∷ ms) (t ∷ ts) e h =
      let first = (All-head IsBit t ts h).width in
      let rest = zeros ms ts (omega (arith, e)) (All-tail IsBit t ts h) in
      λ i. word (first i) 0 ∷ rest i

  taken_bit : (v : Env N) (t : Taken N) (c : Bool) → t.width ≡ 1 → number_in v t.operand ≡ bit c → taken_word v t ≡ bit_word c
  taken_bit v t c w e = ap (λ k. word k (bits_from (number_in v t.operand) 0 k)) w ∙ ap (λ n. word 1 (bits_from n 0 1)) e ∙ ap (word 1) (bit_bits c) ∙ word_of c

  module _ (v : Env N) (p : ProgramView) (decls : List MapDecl) (advance : N) where
    befores : (v.net advance).value ≡ 1 → (ms : List (MarkSite N)) (ts : List (Taken N)) → TakeMarks v p decls advance ms ts → All IsBit ts → map_list (taken_word v) ts ≡ map_list (mark_before v) ms
    befores e [] [] k h = refl
    befores e [] (t ∷ ts) k h = absurd k
    befores e (m ∷ ms) [] k h = absurd k
    befores e (m ∷ ms) (t ∷ ts) k h =
        let first = taken_bit v t (on (number_in v m.before)) (All-head IsBit t ts h).width (k.0.moves e) in
        let rest = befores e ms ts k.1 (All-tail IsBit t ts h) in
        λ i. first i ∷ rest i

    behinds :
        (held : StageValues) (e : Option Change) → (v.net advance).value ≡ 0 → (ms : List (MarkSite N)) (ts : List (Taken N)) → ShowMarkSites v p decls held e ms → TakeMarks v p decls advance ms ts → All IsBit ts
        → map_list (taken_word v) ts ≡ map_list (mark_behind v p decls held e) ms
    behinds held e off [] [] shows k h = refl
    behinds held e off [] (t ∷ ts) shows k h = absurd k
    behinds held e off (m ∷ ms) [] shows k h = absurd k
    behinds held e off (m ∷ ms) (t ∷ ts) shows k h =
        let here = All-head (ShowsMarkSite v p decls held e) m ms shows in
        let first = taken_bit v t (on (number_in v m.was) || is_touched p decls held m.site e) (All-head IsBit t ts h).width (k.0.stays held e off here) in
        let rest = behinds held e off ms ts (All-tail (ShowsMarkSite v p decls held e) m ms shows) k.1 (All-tail IsBit t ts h) in
        λ i. first i ∷ rest i

-- ---- nets after wires
abbrev OfNet : {P : Type 0} → (Name P → Type 0) → Operand (Name P) → Type 0
OfNet q (Known n) = Unit {0}
OfNet q (Net n w) = q n
OfNet q (Part n of from w) = q n

module _ {P : Type 0} (part : P) (ws : List (BlockWireTree (Name P))) (ins : List (Operand (Name P))) (q : Name P → Type 0) (given : (n : Name P) → IsNetOf ins n → q n) (mine : (i : ℕ) → i < length ws → q (name.Wire part (0 + i))) where
  outside_net : (a : Operand (Name P)) → Contains ins a → OfNet q a
  outside_net (Known n) c = tt
  outside_net (Net n w) c = given n (w, inl c)
  outside_net (Part n of from w) c = given n (of, inr (from, w, c))

  each_net : (a : Operand (Name P)) → Contains (behind part ins ws) a → OfNet q a
  each_net a c = by (Contains-append_cases ins (own part 0 ws) a c)
    where
      by : Contains ins a ⊎ Contains (own part 0 ws) a → OfNet q a
      by (inl y) = outside_net a y
      by (inr y) = own_all part (OfNet q) ws 0 mine a y

  nets_behind : (n : Name P) → IsNetOf (behind part ins ws) n → q n
  nets_behind n (w, inl c) = each_net (Net n w) c
  nets_behind n (w, inr (from, u, c)) = each_net (Part n w from u) c

-- ---- the block
module _
    {P : Type 0} (part : P) (p : ProgramView) (decls : List MapDecl) (advance : Name P) (ms : List (MarkSite (Name P))) (ts : List (Taken (Name P))) (ws : List (BlockWireTree (Name P))) (b : BlockTree (Name P)) (count : length ts ≡ length ms) (bits : All IsBit ts)
    (x : Stands part [] ws (outside advance ms) always (map_list operand_in ts) (λ v. TakeMarks v p decls advance ms ts)) (r : IsRegistered part (outside advance ms) ts ws b) where
  taken : (v : Env (Name P)) → AreFit v (outside advance ms) → Solve v part 0 b.wires → TakeMarks v p decls advance ms ts
  taken v fit solved = all_known part ws (outside advance ms) (map_list operand_in ts) always (λ v. TakeMarks v p decls advance ms ts) x v fit (subst (λ l. Solve v part 0 l) r.wires solved) tt

  pub is_marks : IsMarks p decls part advance ms b
  is_marks = record {
    registers = r.registers ∙ widths ms ts count bits;
    memories = r.memories;
    typed = r.typed;
    ordered = r.ordered;
    reads = λ d among given. r.reads d (nets_behind part ws (outside advance ms) (IsThere d) given (λ i l. among));
    within = r.within;
    wires_spelled = r.wires_spelled;
    spelled = r.spelled;
    free = record {
      wires = λ made. subst (λ l. list_all (wire_flat made) l ≡ true) (sym r.wires) (wires_flat part ws (outside advance ms) (map_list operand_in ts) always (λ v. TakeMarks v p decls advance ms ts) x made);
      statement = r.flat;
    };
    goes = r.goes;
    first = r.first ∙ ap with_words (zeros ms ts count bits);
    moves = λ v s fit solved long none e.
        r.takes v s fit solved (long ∙ sym count) none ∙ ap with_words (befores v p decls advance (ap (λ (w : Word). w.value) e) ms ts (taken v fit solved) bits);
    stays = λ v s held e fit solved long none off shows.
        r.takes v s fit solved (long ∙ sym count) none ∙ ap with_words (behinds v p decls advance held e (ap (λ (w : Word). w.value) off) ms ts shows (taken v fit solved) bits);
  }

-- as it is made, of what the registers take in memory
pub marks_block :
    {P : Type 0} (part : P) (p : ProgramView) (decls : List MapDecl) (advance : Name P) (ms : List (MarkSite (Name P))) (ts all : List (Taken (Name P))) (ws : List (BlockWireTree (Name P))) (b : BlockTree (Name P)) → all ≡ ts → length ts ≡ length ms → All IsBit ts
    → Stands part [] ws (outside advance ms) always (map_list operand_in ts) (λ v. TakeMarks v p decls advance ms ts)
    → ((q : P) (ins : List (Operand (Name P))) → AreWires q ins ws → All (IsAvailable (behind q ins ws)) (map_list operand_in all) → IsRegistered q ins all ws b) → IsMarks p decls part advance ms b
marks_block part p decls advance ms ts all ws b same count bits x made =
    let ins = outside advance ms in
    let outs = map_list operand_in ts in
    let knows : Env (Name _) → Type 0 = λ v. TakeMarks v p decls advance ms ts in
    is_marks part p decls advance ms ts ws b count bits x
    (subst (λ l. IsRegistered part ins l ws b) same
    (made part ins (all_wires part ws ins outs always knows x) (subst (λ l. All (IsAvailable (behind part ins ws)) (map_list operand_in l)) (sym same) (all_there part ws ins outs always knows x))))
