-- What a design is compiled into.
use Rattle.std.specs.Prelude.{replicate, IsTrue}
use Rattle.std.proofs.Common.{◌≡◌, ℕ, zero, suc, ◌+◌, ◌^◌, ◌<◌, ◌≤◌, true, false, Option, Some, None, List, [], ◌∷◌, ◌++◌, length, get_or, map, refl, sym, ap, ◌∙◌, subst, arith, ⊎_elim}
use Rattle.std.proofs.lemmas.Bool.{and_parts, cases_lt}
use Rattle.std.proofs.lemmas.List.{length-map, length-replicate, get_or-replicate, get_or_append_left, get_or_past}
use Rattle.net_core.specs.declared.ports.TheConstants.{PORT_COUNT}
use Rattle.net_core.specs.declared.tree.Word.{Word}
use Rattle.net_core.specs.declared.tree.Net.{Net}
use Rattle.net_core.specs.declared.tree.Net.TheVariants as net
use Rattle.net_core.specs.declared.design.Declared.{Declared}
use Rattle.net_core.specs.declared.design.Port.{Port}
use Rattle.net_core.specs.Nets.{Netlist, WireTree, AssignTree, StatementTree}
use Rattle.net_core.specs.Value.{nothing}
use Rattle.net_core.specs.Width.{input_width, port_width, register_widths, memory_widths, full_scope, wire_widths, wires_typed, same, width_of, assigns_typed, output_width, statement_typed, statements_all_typed, declared_typed, IsTyped}
use Rattle.net_core.specs.Clock.{Stored, first_words, first_memories, first_stored, with_wires, env_of, stopping, assigned, after, memory_word_value}
use Rattle.net_core.specs.Ports.{port_list}
use Rattle.net_core.specs.View.{netlist_of}
use Rattle.net_core.specs.Suits.{IsOfWidth}
use Rattle.list_laws.proofs.PlaceLaws.{some_below}
use Rattle.clock_sim.specs.declared.step.Step.{Step}
use Rattle.clock_sim.specs.declared.builder.Operand.{Operand}
use Rattle.clock_sim.specs.declared.operands.Operands.{Operands}
use Rattle.clock_sim.specs.declared.edge.Store.{Store}
use Rattle.clock_sim.specs.declared.edge.Edge.{Edge}
use Rattle.clock_sim.specs.declared.wires.Divisor.{Divisor}
use Rattle.clock_sim.specs.declared.compile.Parts.{Parts}
use Rattle.clock_sim.specs.declared.clock.CompiledDesign.{CompiledDesign}
use Rattle.clock_sim.specs.Ready.{IsStored}
use Rattle.clock_sim.specs.Steps.{run}
use Rattle.clock_sim.specs.Flat.{Flat, Situation, IsFine, numbers, contents_of, Starts, Numbers, Gives, IsConsistent, Extends, AreOperands, no_operand, operand_in, widths_in, scope_of, env_at, Knows, WriteFrom}
use Rattle.clock_sim.specs.Edges.{widths_at, sizes_of, Matches, AreTyped, AddsWires, AreKnown, AreDivided, divisors_from, first_zero, AreDivisors, Stops, AreShown, ShowsAll, AreSlots, AreStores, IsEdge, Leads, applied, AreStatements, ExecutesAll, IsShown}
use Rattle.clock_sim.specs.Orders.{AreGroups, Reordered}
use Rattle.clock_sim.specs.Layouts.{port_operands, operands_from, slots_in, constants_in, with_words, stored_of, ShowsPorts, Begins, Compiles, IsCompiled, IsReady}
use Rattle.clock_sim.proofs.BuilderLemmas.{extends_more, numbers_later, knows_later, operands_later}
use Rattle.clock_sim.proofs.WireLemmas.{width_get, word_get, index_get, scope_same, divisors_there, stops_all}
use Rattle.clock_sim.proofs.StatementLemmas.{slots_more, leads_later}
use Rattle.clock_sim.proofs.StepLemmas.{number_at}
use Rattle.clock_sim.proofs.StoredLaws.{same_sides, first_is_stored}
use Rattle.clock_sim.proofs.RunLemmas.{with_words_length, with_words_above, with_words_at, stored_is}

-- ---- what is typed can be compiled
pub wires_are_typed : (d : Netlist) (n : Operands) → IsTyped d → Matches d n → n.wires.items ≡ [] → AreTyped n d.wires
wires_are_typed d n t m none = record { netlist = d; matches = m; typed = subst (λ ps. wires_typed d (widths_at ps) d.wires ≡ true) (sym none) t.wires }

pub matches_later : (d : Netlist) (n n' : Operands) (ws : List WireTree) → AddsWires n n' ws → Matches d n → Matches d n'
matches_later d n n' ws adds m = record {
  ports = λ k. ap (λ v. (get_or v.items k no_operand).width) adds.ports ∙ m.ports k;
  registers = ap (λ v. widths_at v.items) adds.registers ∙ m.registers;
  memories = ap (λ v. sizes_of v.items) adds.memories ∙ m.memories;
}

pub full_same : (d : Netlist) (n : Operands) → Matches d n → widths_at n.wires.items ≡ wire_widths d.wires → scope_of n ≡ full_scope d
full_same d n m wires = scope_same d n (wire_widths d.wires) m wires

shown_from : (d : Netlist) (n : Operands) → scope_of n ≡ full_scope d → (all : List AssignTree) → assigns_typed d all ≡ true → AreShown n all
shown_from d n e [] h = tt
shown_from d n e (a ∷ rest) h =
    let w = output_width (get_or d.ports a.port (record { output = false; width = 0 })) in
    let p = and_parts (same w (width_of (full_scope d) a.value)) (assigns_typed d rest) h in
    (subst (λ s. 0 < width_of s a.value) (sym e) (let q = same_sides w (width_of (full_scope d) a.value) p.0 in subst (λ k. 0 < k) q.is q.some), shown_from d n e rest p.1)

executes_from : (d : Netlist) (n : Operands) → Matches d n → scope_of n ≡ full_scope d → (all : List (StatementTree Net)) → statements_all_typed d all ≡ true → AreStatements n all
executes_from d n m e [] h = tt
executes_from d n m e (a ∷ rest) h =
    let p = and_parts (statement_typed (full_scope d) (register_widths d.declared) (memory_widths d.declared) a) (statements_all_typed d rest) h in
    let q = subst (λ s. statement_typed s (register_widths d.declared) (memory_widths d.declared) a ≡ true) (sym e) p.0 in
    let r = subst (λ l. statement_typed (scope_of n) l (memory_widths d.declared) a ≡ true) (sym m.registers) q in
    (subst (λ l. statement_typed (scope_of n) (widths_at n.registers.items) l a ≡ true) (sym m.memories) r, executes_from d n m e rest p.1)

module _ (d : Netlist) (n n' : Operands) (t : IsTyped d) (m : Matches d n) (adds : AddsWires n n' d.wires) where
  pub are_shown : AreShown n' d.assigns
  are_shown = shown_from d n' (full_same d n' (matches_later d n n' d.wires adds m) adds.wires) d.assigns t.assigns

  pub are_statements : AreStatements n' d.always
  are_statements = let k = matches_later d n n' d.wires adds m in executes_from d n' k (full_same d n' k adds.wires) d.always t.always

-- ---- more slots
shown_more : (n m : ℕ) → n ≤ m → (s : List ℕ) → IsShown s n → IsShown s m
shown_more n m le s h = record { ports = h.ports; slots = slots_more n m le s h.slots }

-- ---- what stands where at first
abbrev numbers_up : ℕ → List ℕ → List ℕ
numbers_up at [] = []
numbers_up at (k ∷ ks) = at ∷ numbers_up (suc at) ks

numbers_up_at : (ks : List ℕ) (at k d : ℕ) → k < length ks → get_or (numbers_up at ks) k d ≡ at + k
numbers_up_at [] at k d lt = absurd (omega arith)
numbers_up_at (j ∷ ks) at zero d lt = omega arith
numbers_up_at (j ∷ ks) at (suc k) d lt = let e = numbers_up_at ks (suc at) k d (omega arith) in omega arith

slot_get : (ps : List Operand) (k : ℕ) → (get_or ps k no_operand).slot ≡ get_or (slots_in ps) k 0
slot_get [] k = refl
slot_get (p ∷ ps) zero = refl
slot_get (p ∷ ps) (suc k) = slot_get ps k

from_slots : (ws : List ℕ) (at : ℕ) → slots_in (operands_from at ws) ≡ numbers_up at ws
from_slots [] at = refl
from_slots (w ∷ ws) at = ap (λ l. at ∷ l) (from_slots ws (suc at))

from_widths : (ws : List ℕ) (at : ℕ) → widths_at (operands_from at ws) ≡ ws
from_widths [] at = refl
from_widths (w ∷ ws) at = ap (λ l. w ∷ l) (from_widths ws (suc at))

from_length : (ws : List ℕ) (at : ℕ) → length (operands_from at ws) ≡ length ws
from_length [] at = refl
from_length (w ∷ ws) at = ap suc (from_length ws (suc at))

port_slot : (k : ℕ) → k < PORT_COUNT → (get_or port_operands k no_operand).slot ≡ k
port_slot k lt =
    let e : slots_in port_operands ≡ numbers_up 0 (widths_at port_operands) = refl in
    let c : length (widths_at port_operands) ≡ PORT_COUNT = refl in
    let n = numbers_up_at (widths_at port_operands) 0 k 0 (omega arith) in
    slot_get port_operands k ∙ ap (λ l. get_or l k 0) e ∙ n ∙ (let z : 0 + k ≡ k = omega arith in z)

input_get : (ps : List Port) (k : ℕ) → input_width (get_or ps k (record { output = true; width = 0 })) ≡ get_or (map input_width ps) k 0
input_get [] k = refl
input_get (p ∷ ps) zero = refl
input_get (p ∷ ps) (suc k) = input_get ps k

port_same : (k : ℕ) → (get_or port_operands k no_operand).width ≡ port_width port_list k
port_same zero = refl
port_same (suc k) =
    let back = elim port_operands as (λ _. List Operand) [ [] ↦ [] | p ∷ ps ↦ ps ] in
    let ports = elim port_list as (λ _. List Port) [ [] ↦ [] | p ∷ ps ↦ ps ] in
    let e : widths_at back ≡ map input_width ports = refl in
    width_get back k ∙ ap (λ l. get_or l k 0) e ∙ sym (input_get ports k)

module _ (d : Netlist) (t : IsTyped d) (n : Operands) (c : Flat) (e : Edge) (begins : Begins d.declared n c e) where
  pub matches_first : Matches d n
  matches_first = record {
    ports = λ k. ap (λ l. (get_or l k no_operand).width) begins.ports ∙ port_same k ∙ ap (λ ps. port_width ps k) (sym t.ports);
    registers = ap widths_at begins.registers ∙ from_widths (register_widths d.declared) PORT_COUNT;
    memories = begins.memories;
  }

  pub slots_count : length c.slots ≡ PORT_COUNT + length (register_widths d.declared)
  slots_count = ap length begins.slots ∙ length-replicate (PORT_COUNT + length (register_widths d.declared)) None

  port_in : (k : ℕ) → 0 < (get_or n.ports.items k no_operand).width → k < PORT_COUNT
  port_in k some =
      let h = subst (λ l. 0 < (get_or l k no_operand).width) begins.ports some in
      let lt = some_below (λ p. p.width) no_operand port_operands k refl h in
      let all : length port_operands ≡ PORT_COUNT = refl in
      omega arith

  port_slot_in : (k : ℕ) → 0 < (get_or n.ports.items k no_operand).width → (get_or n.ports.items k no_operand).slot ≡ k
  port_slot_in k some = ap (λ l. (get_or l k no_operand).slot) begins.ports ∙ port_slot k (port_in k some)

  pub registers_count : length n.registers.items ≡ length (register_widths d.declared)
  registers_count = ap length begins.registers ∙ from_length (register_widths d.declared) PORT_COUNT

  register_in : (r : ℕ) → 0 < (get_or n.registers.items r no_operand).width → r < length (register_widths d.declared)
  register_in r some = let lt = some_below (λ p. p.width) no_operand n.registers.items r refl some in let e = registers_count in omega arith

  register_slot : (r : ℕ) → r < length (register_widths d.declared) → get_or (slots_in n.registers.items) r 0 ≡ PORT_COUNT + r
  register_slot r lt = ap (λ l. get_or (slots_in l) r 0) begins.registers ∙ ap (λ l. get_or l r 0) (from_slots (register_widths d.declared) PORT_COUNT) ∙ numbers_up_at (register_widths d.declared) PORT_COUNT r 0 lt

  register_width : (r : ℕ) → (get_or n.registers.items r no_operand).width ≡ get_or (register_widths d.declared) r 0
  register_width r = width_get n.registers.items r ∙ ap (λ l. get_or l r 0) (ap widths_at begins.registers ∙ from_widths (register_widths d.declared) PORT_COUNT)

  slot_small : (k : Net) → 0 < (operand_in n k).width → (operand_in n k).slot < length c.slots
  slot_small (net.Port k) some = let lt = port_in k some in let e = port_slot_in k some in let s = slots_count in omega arith
  slot_small (net.Register k) some = let lt = register_in k some in let e = slot_get n.registers.items k ∙ register_slot k lt in let s = slots_count in omega arith
  slot_small (net.Memory k) some = absurd (omega (arith, some))
  slot_small (net.Wire k) some = let h = subst (λ l. 0 < (get_or l k no_operand).width) begins.wires some in absurd (omega (arith, h))

  pub operands_first : AreOperands n (length c.slots)
  operands_first = record { there = slot_small }

  same_slots : (x : Situation) (all : List ℕ) (k : ℕ) → get_or (run (contents_of x.stored) c.steps all) k 0 ≡ get_or all k 0
  same_slots x all k = ap (λ l. get_or (run (contents_of x.stored) l all) k 0) begins.steps

  net_first : (k : Net) → 0 < (operand_in n k).width → Gives d.declared c (operand_in n k) (λ x. (env_at (λ y. []) x).net k)
  net_first (net.Port k) some = record {
    number = record {
      there = slot_small (net.Port k) some;
      at = λ x all fine starts. same_slots x all (operand_in n (net.Port k)).slot ∙ ap (λ j. get_or all j 0) (port_slot_in k some) ∙ starts.ports k (port_in k some);
    };
    fits = λ x fine.
        let e = ap (λ l. (get_or l k no_operand).width) begins.ports ∙ port_same k in
        subst (λ w. IsOfWidth w (get_or x.ins k nothing)) (sym e) (fine.ports.fit k (subst (λ w. 0 < w) e some));
  }
  net_first (net.Register k) some = record {
    number = record {
      there = slot_small (net.Register k) some;
      at = λ x all fine starts.
          let lt = register_in k some in
          let e = fine.stored.registers in
          same_slots x all (operand_in n (net.Register k)).slot ∙ ap (λ j. get_or all j 0) (slot_get n.registers.items k ∙ register_slot k lt) ∙ starts.registers k (omega arith);
    };
    fits = λ x fine. subst (λ w. IsOfWidth w (get_or x.stored.registers k nothing)) (sym (register_width k)) (fine.stored.register k (register_in k some));
  }
  net_first (net.Memory k) some = absurd (omega (arith, some))
  net_first (net.Wire k) some = let h = subst (λ l. 0 < (get_or l k no_operand).width) begins.wires some in absurd (omega (arith, h))

  pair_there : (ns : List (ℕ × ℕ)) (i : ℕ) → 0 < (get_or ns i (0, 0)).1 → i < length ns
  pair_there ns i h = ⊎_elim (λ lt. lt) (λ le. let e = ap (λ (p : ℕ × ℕ). p.1) (get_or_past ns i (0, 0) le) in absurd (omega (arith, e, h))) (cases_lt i (length ns))

  memory_word_first : (m : Net) (a : ℕ) (x : Situation) → IsFine d.declared x → 0 < (widths_in n m).word → a < 2 ^ (widths_in n m).index → IsOfWidth (widths_in n m).word (memory_word_value x.stored m a)
  memory_word_first (net.Port k) a x fine some lt = absurd (omega (arith, some))
  memory_word_first (net.Register k) a x fine some lt = absurd (omega (arith, some))
  memory_word_first (net.Wire k) a x fine some lt = absurd (omega (arith, some))
  memory_word_first (net.Memory k) a x fine some lt =
      let w = word_get n.memories.items k ∙ ap (λ (l : List (ℕ × ℕ)). let q : ℕ × ℕ = get_or l k (0, 0) in q.1) begins.memories in
      let i = index_get n.memories.items k ∙ ap (λ (l : List (ℕ × ℕ)). let q : ℕ × ℕ = get_or l k (0, 0) in q.0) begins.memories in
      let inside = pair_there (memory_widths d.declared) k (subst (λ j. 0 < j) w some) in
      subst (λ j. IsOfWidth j (memory_word_value x.stored (net.Memory k) a)) (sym w) ((fine.stored.memory k inside).fit a (subst (λ j. a < 2 ^ j) i lt))

  pub knows_first : Knows d.declared c n (λ x. [])
  knows_first = record { net = net_first; cells = record { fit = memory_word_first } }

  next_first : AreSlots (slots_in n.registers.items) (length c.slots)
  next_first = subst (λ l. AreSlots l (length c.slots)) (sym (ap slots_in begins.registers ∙ from_slots (register_widths d.declared) PORT_COUNT)) (below (register_widths d.declared) PORT_COUNT (let e = slots_count in omega arith))
    where
      below : (ws : List ℕ) (at : ℕ) → at + length ws ≤ length c.slots → AreSlots (numbers_up at ws) (length c.slots)
      below [] at le = tt
      below (w ∷ ws) at le = (omega arith, below ws (suc at) (omega arith))

  pub edge_first : IsEdge e n c
  edge_first = record {
    count = ap length begins.next ∙ length-map n.registers.items (λ (p : Operand). p.slot);
    next = subst (λ l. AreSlots l (length c.slots)) (sym begins.next) next_first;
    stores = subst (λ l. AreStores l (length c.slots)) (sym begins.stores) tt;
  }

  leads_slots : Leads d.declared c (slots_in n.registers.items) [] (λ x. x.stored)
  leads_slots = record {
    count = λ x fine. fine.stored.registers ∙ sym (length-map n.registers.items (λ (p : Operand). p.slot) ∙ registers_count);
    registers = λ r lt.
        let l = length-map n.registers.items (λ (p : Operand). p.slot) in let e = registers_count in
        let inside : r < length (register_widths d.declared) = omega arith in
        let is = register_slot r inside in let s = slots_count in
        record {
          there = omega arith;
          at = λ x all fine starts. let f = fine.stored.registers in same_slots x all (get_or (slots_in n.registers.items) r 0) ∙ ap (λ j. get_or all j 0) is ∙ starts.registers r (omega arith);
        };
    memories = λ x all fine starts. refl;
  }

  pub leads_first : Leads d.declared c e.next.items e.stores.items (λ x. x.stored)
  leads_first = subst (λ l. Leads d.declared c l e.stores.items (λ x. x.stored)) (sym begins.next) (subst (λ l. Leads d.declared c (slots_in n.registers.items) l (λ x. x.stored)) (sym begins.stores) leads_slots)

-- ---- the first slots
pub constants_length : (all : List (Option ℕ)) → length (constants_in all) ≡ length all
constants_length [] = refl
constants_length (None ∷ rest) = ap suc (constants_length rest)
constants_length (Some n ∷ rest) = ap suc (constants_length rest)

absent : (n : ℕ) → None ≡ Some n → ⊥
absent n e = cc

same_some : (m n : ℕ) → Some m ≡ Some n → m ≡ n
same_some m n e = cc

pub constants_get : (all : List (Option ℕ)) (k n : ℕ) → get_or all k None ≡ Some n → get_or (constants_in all) k 0 ≡ n
constants_get [] k n e = absurd (absent n e)
constants_get (None ∷ rest) zero n e = absurd (absent n e)
constants_get (None ∷ rest) (suc k) n e = constants_get rest k n e
constants_get (Some m ∷ rest) zero n e = same_some m n e
constants_get (Some m ∷ rest) (suc k) n e = constants_get rest k n e

module _ (c new : Flat) (size : ℕ) (steps : c.steps ≡ []) (slots : c.slots ≡ replicate size None) (e : Extends c new) where
  pub own_steps : WriteFrom size new.steps
  own_steps =
      let l = ap length slots ∙ length-replicate size None in
      let is : new.steps ≡ e.more = e.steps ∙ ap (λ s. s ++ e.more) steps in
      subst (λ s. WriteFrom size s) (sym is) (subst (λ k. WriteFrom k e.more) l e.own)

  pub constants_after : (k n : ℕ) → get_or new.slots k None ≡ Some n → size ≤ k
  constants_after k n h =
      ⊎_elim
      (λ lt.
      let l = ap length slots ∙ length-replicate size None in
      let inside : k < length c.slots = omega arith in
      let none = ap (λ s. get_or s k None) e.slots ∙ get_or_append_left c.slots e.fresh None k inside ∙ ap (λ s. get_or s k None) slots ∙ get_or-replicate size k None None lt in
      absurd (absent n (sym none ∙ h)))
      (λ le. le)
      (cases_lt k size)

  pub room_after : size ≤ length new.slots
  room_after = let l = ap length slots ∙ length-replicate size None in let le = e.grows in omega arith

-- the registers are those before the wires
pub edge_wired : (n n' : Operands) (ws : List WireTree) (c : Flat) (e : Edge) → AddsWires n n' ws → IsEdge e n c → IsEdge e n' c
edge_wired n n' ws c e adds h = record { count = h.count ∙ sym (ap (λ v. length v.items) adds.registers); next = h.next; stores = h.stores }

-- ---- all parts
pub compiles :
    (d : Netlist) (t : IsTyped d) (old wired shown new : Flat) (n n' : Operands) (begun ended : Edge) (parts : Parts)
    → Begins d.declared n old begun
    → Extends old wired → AreKnown old wired n n' d.wires → AreDivided n' d.wires → AreOperands n' (length wired.slots) → AddsWires n n' d.wires
    → parts.divisors.items ≡ divisors_from n' 0 d.wires
    → Extends wired shown → IsShown parts.shown.items (length shown.slots) → ShowsAll wired shown n' d.assigns parts.shown.items
    → Extends shown new → IsEdge ended n' new → ExecutesAll shown new n' d.always begun ended
    → Compiles d new ended parts
compiles d t old wired shown new n n' begun ended parts begins e known divided there adds divisors f is_shown shows g edge executes =
    let last = extends_more wired shown new f g in
    let whole = extends_more old wired new e last in
    let size = PORT_COUNT + length (register_widths d.declared) in
    let wires = λ (x : Situation). with_wires x.ins x.stored [] d.wires in
    let k = known.knows d.declared (knows_first d t n old begun begins) in
    record {
      own = own_steps old new size begins.steps begins.slots whole;
      first = constants_after old new size begins.steps begins.slots whole;
      room = room_after old new size begins.steps begins.slots whole;
      divisors = subst (λ l. AreDivisors l (length new.slots)) (sym divisors) (divisors_there n' (length new.slots) (operands_later n' wired new last there) 0 d.wires divided);
      shown = shown_more (length shown.slots) (length new.slots) g.grows parts.shown.items is_shown;
      next = edge.next;
      count = edge.count ∙ ap (λ v. length v.items) adds.registers ∙ registers_count d t n old begun begins;
      stores = edge.stores;
      stops = subst (λ l. Stops d.declared new l (λ x. stopping d x.ins x.stored)) (sym divisors) (stops_all d.declared new n' wires d.wires (knows_later d.declared wired new n' wires last k) divided);
      shows = λ port lt. numbers_later d.declared shown new (get_or parts.shown.items port 0) (λ x. (assigned (env_of d x.ins x.stored) d.assigns port).value) g ((shows port lt).shows d.declared wires k);
      leads = executes.leads d.declared wires (λ x. x.stored) (knows_later d.declared wired shown n' wires f k)
          (leads_later d.declared old shown begun.next.items begun.stores.items (λ x. x.stored) (extends_more old wired shown e f) (edge_first d t n old begun begins).stores (leads_first d t n old begun begins));
    }

-- ---- what steps give in another order
module _ (ds : List Declared) (constants : List (Option ℕ)) (old new : List Step) (order : Reordered (length constants) old new) where
  abbrev before : Flat
  before = record { steps = old; slots = constants }

  abbrev moved : Flat
  moved = record { steps = new; slots = constants }

  starts_moved : (x : Situation) (slots : List ℕ) → Starts moved x slots → Starts before x slots
  starts_moved x slots s = record { ports = s.ports; registers = s.registers; kept = s.kept; room = s.room }

  numbers_moved : (slot : ℕ) (f : Situation → ℕ) → Numbers ds before slot f → Numbers ds moved slot f
  numbers_moved slot f n = record {
    there = n.there;
    at = λ x slots fine s. ap (λ l. get_or l slot 0) (order.same (contents_of x.stored) slots s.room) ∙ n.at x slots fine (starts_moved x slots s);
  }

  pub stops_moved : (divisors : List Divisor) (f : Situation → Option ℕ) → Stops ds before divisors f → Stops ds moved divisors f
  stops_moved divisors f h = record { at = λ x slots fine s. ap (first_zero divisors) (order.same (contents_of x.stored) slots s.room) ∙ h.at x slots fine (starts_moved x slots s) }

  pub shows_moved : (shown : List ℕ) (at : ℕ → Situation → Word) → ShowsPorts ds before shown at → ShowsPorts ds moved shown at
  shows_moved shown at h port lt = numbers_moved (get_or shown port 0) (λ x. (at port x).value) (h port lt)

  pub leads_moved : (next : List ℕ) (stores : List Store) (f : Situation → Stored) → Leads ds before next stores f → Leads ds moved next stores f
  leads_moved next stores f h = record {
    count = h.count;
    registers = λ r lt. numbers_moved (get_or next r 0) (λ x. (get_or (f x).registers r nothing).value) (h.registers r lt);
    memories = λ x slots fine s. ap (λ l. applied l stores (contents_of x.stored)) (order.same (contents_of x.stored) slots s.room) ∙ h.memories x slots fine (starts_moved x slots s);
  }

module _ (p : CompiledDesign) (flat : List Step) (constants : List (Option ℕ)) (t : IsTyped (netlist_of p.design)) (consistent : IsConsistent (record { steps = flat; slots = constants }))
    (made : Compiles (netlist_of p.design) (record { steps = flat; slots = constants }) (record { next = p.next; stores = p.stores }) (record { divisors = p.divisors; shown = p.shown }))
    (order : Reordered (length constants) flat p.steps.items) (groups : AreGroups p.groups.items p.steps.items) where
  pub compiled_is : IsCompiled p constants
  compiled_is = record {
    typed = t;
    reading = order.reading;
    free = order.free constants consistent.free;
    groups = groups;
    own = order.own (PORT_COUNT + length (register_widths p.design.declared.items)) made.own;
    first = made.first;
    room = made.room;
    divisors = made.divisors;
    shown = made.shown;
    next = made.next;
    count = made.count;
    stores = made.stores;
    stops = stops_moved p.design.declared.items constants flat p.steps.items order p.divisors.items (λ x. stopping (netlist_of p.design) x.ins x.stored) made.stops;
    shows = shows_moved p.design.declared.items constants flat p.steps.items order p.shown.items (λ port x. assigned (env_of (netlist_of p.design) x.ins x.stored) (netlist_of p.design).assigns port) made.shows;
    leads = leads_moved p.design.declared.items constants flat p.steps.items order p.next.items p.stores.items (λ x. after (netlist_of p.design) x.ins x.stored) made.leads;
  }

  abbrev ds : List Declared
  ds = p.design.declared.items

  abbrev begun : Stored
  begun = first_stored (netlist_of p.design)

  pub stored_first : (all : List ℕ) (contents : List (List ℕ)) → all ≡ with_words PORT_COUNT (numbers (first_words ds)) (constants_in constants) → contents ≡ map numbers (first_memories ds) → stored_of p all contents ≡ first_stored (netlist_of p.design)
  stored_first all contents e b =
      let f = first_is_stored ds t.declared in
      let l = length-map (first_words ds) (λ (w : Word). w.value) in
      let g = f.registers in let r = compiled_is.room in let q = constants_length constants in
      stored_is ds all contents begun f
      (λ k lt. ap (λ s. get_or s (PORT_COUNT + k) 0) e ∙ with_words_at (numbers (first_words ds)) PORT_COUNT (constants_in constants) k (omega arith) (omega arith) ∙ number_at (first_words ds) k)
      b

  pub ready_first : (all : List ℕ) (contents : List (List ℕ)) (size : ℕ) → all ≡ with_words PORT_COUNT (numbers (first_words ds)) (constants_in constants) → contents ≡ map numbers (first_memories ds) → size ≡ length p.next.items → IsReady p all contents size
  ready_first all contents size e b s =
      let f = first_is_stored ds t.declared in
      let l = length-map (first_words ds) (λ (w : Word). w.value) in
      let g = f.registers in
      record {
        constants = constants;
        compiled = compiled_is;
        count = ap length e ∙ with_words_length (numbers (first_words ds)) PORT_COUNT (constants_in constants) ∙ constants_length constants;
        kept = λ k n h. let le = compiled_is.first k n h in ap (λ w. get_or w k 0) e ∙ with_words_above (numbers (first_words ds)) PORT_COUNT (constants_in constants) k (omega arith) ∙ constants_get constants k n h;
        stored = subst (λ w. IsStored ds w) (sym (stored_first all contents e b)) f;
        contents_count = ap length b ∙ length-map (first_memories ds) numbers ∙ f.memories;
        next_count = s;
      }

pub count_is : (ps : List Operand) (k : ℕ) (ws : List ℕ) → k ≡ length ps → ps ≡ operands_from PORT_COUNT ws → k ≡ length ws
count_is ps k ws e is = e ∙ ap length is ∙ from_length ws PORT_COUNT

pub write_at_room : (ds : List Declared) (slots : List (Option ℕ)) → PORT_COUNT + length (register_widths ds) ≤ length slots → IsTrue (declared_typed ds) → PORT_COUNT + length (numbers (first_words ds)) ≤ length (constants_in slots)
write_at_room ds slots room t =
    let f = (first_is_stored ds t).registers in
    let l = length-map (first_words ds) (λ (w : Word). w.value) in
    let q = constants_length slots in
    omega arith
