-- One clock of a ready simulator.
use Rattle.std.specs.Prelude.{option_map, slice_set}
use Rattle.std.proofs.Common.{◌≡◌, ℕ, false, zero, suc, ◌+◌, ◌^◌, ◌<◌, ◌≤◌, refl, List, [], ◌∷◌, Some, None, length, get_or, map, sym, ap, ◌∙◌, subst, arith, ⊎_elim}
use Rattle.std.proofs.lemmas.Bool.{cases_lt}
use Rattle.std.proofs.lemmas.Nat.{pow_pos}
use Rattle.std.proofs.lemmas.List.{length-set, length-map, get_or-set_same, get_or-set_other, get_or-map, get_or_past}
use Rattle.net_core.specs.declared.ports.TheConstants.{PORT_COUNT}
use Rattle.net_core.specs.declared.tree.Word.{Word}
use Rattle.net_core.specs.declared.tree.Net.TheVariants.{Wire}
use Rattle.net_core.specs.declared.design.Declared.{Declared}
use Rattle.net_core.specs.declared.ports.Inputs.{Inputs}
use Rattle.net_core.specs.Nets.{Netlist}
use Rattle.net_core.specs.Value.{nothing, word}
use Rattle.net_core.specs.Width.{register_widths, memory_widths}
use Rattle.net_core.specs.Clock.{Stored, stopping, after, shown}
use Rattle.net_core.specs.Ports.{AreInputs, FitInputs, FitOutputs, words_of, port_list, output_width, outputs_at, outputs_of}
use Rattle.net_core.specs.Suits.{IsOfWidth}
use Rattle.net_core.specs.View.{netlist_of}
use Rattle.clock_sim.specs.declared.step.Step.{Step}
use Rattle.clock_sim.specs.declared.edge.Store.{Store}
use Rattle.clock_sim.specs.declared.clock.CompiledDesign.{CompiledDesign}
use Rattle.clock_sim.specs.Ready.{IsMemory, IsStored}
use Rattle.clock_sim.specs.Running.{stopped_net}
use Rattle.clock_sim.specs.Steps.{run}
use Rattle.clock_sim.specs.Flat.{Situation, IsFine, numbers, contents_of, Starts, AreReading}
use Rattle.clock_sim.specs.Edges.{first_zero, AreDivisors, AreSlots, AreStores, applied, taken, IsShown, shown_in}
use Rattle.clock_sim.specs.Layouts.{with_words, words_from, cells_from, stored_in, stored_of, flat_with, IsReady}
use Rattle.net_core.proofs.PortLaws.{outputs_same}
use Rattle.clock_sim.proofs.FitLaws.{ports_fit}
use Rattle.clock_sim.proofs.ReadableLaws.{after_stored, outputs_fit}
use Rattle.clock_sim.proofs.BuilderLemmas.{run_length, run_below, run_kept}
use Rattle.clock_sim.proofs.StepLemmas.{number_at}
use Rattle.clock_sim.proofs.StatementLemmas.{applied_length}

-- ---- for callers of the simulator
pub net_stops : (d : Netlist) (ins : List Word) (s : Stored) (w : ℕ) → Some w ≡ stopping d ins s → stopped_net d ins s ≡ Some (Wire w)
net_stops d ins s w is = ap (option_map Wire) (sym is)

-- ---- slots that are written
pub with_words_length : (ns : List ℕ) (at : ℕ) (slots : List ℕ) → length (with_words at ns slots) ≡ length slots
with_words_length [] at slots = refl
with_words_length (n ∷ ns) at slots = with_words_length ns (suc at) (slice_set slots at n) ∙ length-set slots at n

pub with_words_below : (ns : List ℕ) (at : ℕ) (slots : List ℕ) (k : ℕ) → k < at → get_or (with_words at ns slots) k 0 ≡ get_or slots k 0
with_words_below [] at slots k lt = refl
with_words_below (n ∷ ns) at slots k lt = with_words_below ns (suc at) (slice_set slots at n) k (omega arith) ∙ get_or-set_other slots at k n 0 (λ e. absurd (omega arith))

pub with_words_above : (ns : List ℕ) (at : ℕ) (slots : List ℕ) (k : ℕ) → at + length ns ≤ k → get_or (with_words at ns slots) k 0 ≡ get_or slots k 0
with_words_above [] at slots k le = refl
with_words_above (n ∷ ns) at slots k le = with_words_above ns (suc at) (slice_set slots at n) k (omega arith) ∙ get_or-set_other slots at k n 0 (λ e. absurd (omega arith))

pub with_words_at : (ns : List ℕ) (at : ℕ) (slots : List ℕ) (j : ℕ) → at + length ns ≤ length slots → j < length ns → get_or (with_words at ns slots) (at + j) 0 ≡ get_or ns j 0
with_words_at [] at slots j le lt = absurd (omega arith)
with_words_at (n ∷ ns) at slots zero le lt =
    let e : at + 0 ≡ at = omega arith in
    ap (λ k. get_or (with_words (suc at) ns (slice_set slots at n)) k 0) e
    ∙ with_words_below ns (suc at) (slice_set slots at n) at (omega arith)
    ∙ get_or-set_same slots at n 0 (omega arith)
with_words_at (n ∷ ns) at slots (suc j) le lt =
    let e : at + suc j ≡ suc at + j = omega arith in
    let l = length-set slots at n in
    ap (λ k. get_or (with_words (suc at) ns (slice_set slots at n)) k 0) e
    ∙ with_words_at ns (suc at) (slice_set slots at n) j (omega arith) (omega arith)

-- ---- what is stored
pub words_length : (ws : List ℕ) (at : ℕ) (slots : List ℕ) → length (words_from ws at slots) ≡ length ws
words_length [] at slots = refl
words_length (w ∷ ws) at slots = ap suc (words_length ws (suc at) slots)

pub words_at : (ws : List ℕ) (at : ℕ) (slots : List ℕ) (r : ℕ) → r < length ws → get_or slots (at + r) 0 ≡ (get_or (words_from ws at slots) r nothing).value
words_at [] at slots r lt = absurd (omega arith)
words_at (w ∷ ws) at slots zero lt = let e : at + 0 ≡ at = omega arith in ap (λ k. get_or slots k 0) e
words_at (w ∷ ws) at slots (suc r) lt = let e : at + suc r ≡ suc at + r = omega arith in ap (λ k. get_or slots k 0) e ∙ words_at ws (suc at) slots r (omega arith)

pub words_same : (ws : List ℕ) (at : ℕ) (slots slots' : List ℕ) → ((r : ℕ) → r < length ws → get_or slots' (at + r) 0 ≡ get_or slots (at + r) 0) → words_from ws at slots' ≡ words_from ws at slots
words_same [] at slots slots' h = refl
words_same (w ∷ ws) at slots slots' h =
    let e : at + 0 ≡ at = omega arith in
    let first : get_or slots' at 0 ≡ get_or slots at 0 = subst (λ k. get_or slots' k 0 ≡ get_or slots k 0) e (h 0 (omega arith)) in
    ap (λ n. word w n ∷ words_from ws (suc at) slots') first
    ∙ ap (λ l. word w (get_or slots at 0) ∷ l) (words_same ws (suc at) slots slots' (λ r lt. let f : at + suc r ≡ suc at + r = omega arith in subst (λ k. get_or slots' k 0 ≡ get_or slots k 0) f (h (suc r) (omega arith))))

same_word : (w n : ℕ) (u : Word) → IsOfWidth w u → n ≡ u.value → word w n ≡ u
same_word w n u f e = ap (λ k. word k n) (sym f.width) ∙ ap (λ k. word u.width k) e

pub words_are : (ws : List ℕ) (at : ℕ) (slots : List ℕ) (us : List Word) → length us ≡ length ws → ((r : ℕ) → r < length ws → IsOfWidth (get_or ws r 0) (get_or us r nothing)) → ((r : ℕ) → r < length ws → get_or slots (at + r) 0 ≡ (get_or us r nothing).value) → words_from ws at slots ≡ us
words_are [] at slots [] l f h = refl
words_are [] at slots (u ∷ us) l f h = absurd (omega arith)
words_are (w ∷ ws) at slots [] l f h = absurd (omega arith)
words_are (w ∷ ws) at slots (u ∷ us) l f h =
    let e : at + 0 ≡ at = omega arith in
    let first : get_or slots at 0 ≡ u.value = subst (λ k. get_or slots k 0 ≡ u.value) e (h 0 (omega arith)) in
    let count : length us ≡ length ws = omega arith in
    let rest = words_are ws (suc at) slots us count (λ r lt. f (suc r) (omega arith)) (λ r lt. let g : at + suc r ≡ suc at + r = omega arith in subst (λ k. get_or slots k 0 ≡ (get_or us r nothing).value) g (h (suc r) (omega arith))) in
    ap (λ v. v ∷ words_from ws (suc at) slots) (same_word w (get_or slots at 0) u (f 0 (omega arith)) first)
    ∙ ap (λ l. u ∷ l) rest

numbers_back : (w : ℕ) (b : List ℕ) → numbers (map (λ n. word w n) b) ≡ b
numbers_back w [] = refl
numbers_back w (n ∷ b) = ap (λ l. n ∷ l) (numbers_back w b)

pub cells_back : (ws : List (ℕ × ℕ)) (contents : List (List ℕ)) → length contents ≡ length ws → map numbers (cells_from ws contents) ≡ contents
cells_back [] [] l = refl
cells_back [] (b ∷ contents) l = absurd (omega arith)
cells_back (w ∷ ws) [] l = absurd (omega arith)
cells_back (w ∷ ws) (b ∷ contents) l = ap (λ k. k ∷ map numbers (cells_from ws contents)) (numbers_back w.1 b) ∙ ap (λ k. b ∷ k) (cells_back ws contents (omega arith))

memory_is : (w : ℕ) (us : List Word) → ((a : ℕ) → a < length us → IsOfWidth w (get_or us a nothing)) → map (λ n. word w n) (numbers us) ≡ us
memory_is w [] f = refl
memory_is w (u ∷ us) f = ap (λ v. v ∷ map (λ n. word w n) (numbers us)) (same_word w u.value u (f 0 (omega arith)) refl) ∙ ap (λ l. u ∷ l) (memory_is w us (λ a lt. f (suc a) (omega arith)))

pub cells_are : (ws : List (ℕ × ℕ)) (all : List (List Word)) → length all ≡ length ws → ((m : ℕ) → m < length ws → IsMemory (get_or ws m (0, 0)) (get_or all m [])) → cells_from ws (map numbers all) ≡ all
cells_are [] [] l h = refl
cells_are [] (us ∷ all) l h = absurd (omega arith)
cells_are (w ∷ ws) [] l h = absurd (omega arith)
cells_are (w ∷ ws) (us ∷ all) l h =
    let m = h 0 (omega arith) in
    let first = memory_is w.1 us (λ a lt. m.fit a (let c = m.count in omega arith)) in
    ap (λ k. k ∷ cells_from ws (map numbers all)) first
    ∙ ap (λ k. us ∷ k) (cells_are ws all (omega arith) (λ i lt. h (suc i) (omega arith)))

-- numbers of what is stored give it back
pub stored_is : (ds : List Declared) (slots : List ℕ) (contents : List (List ℕ)) (t : Stored) → IsStored ds t → ((r : ℕ) → r < length (register_widths ds) → get_or slots (PORT_COUNT + r) 0 ≡ (get_or t.registers r nothing).value) → contents ≡ contents_of t → stored_in ds slots contents ≡ t
stored_is ds slots contents t s h e =
    let made : List Word → List (List Word) → Stored = λ rs ms. record { registers = rs; memories = ms } in
    ap (λ rs. made rs (cells_from (memory_widths ds) contents)) (words_are (register_widths ds) PORT_COUNT slots t.registers s.registers s.register h)
    ∙ ap (λ bs. made t.registers (cells_from (memory_widths ds) bs)) e
    ∙ ap (λ ms. made t.registers ms) (cells_are (memory_widths ds) t.memories s.memories s.memory)

-- ---- a clock
module _ (p : CompiledDesign) (i : Inputs) (slots : List ℕ) (contents : List (List ℕ)) (next : ℕ) (ready : IsReady p slots contents next) (inputs : AreInputs i) (fit : FitInputs i) where
  abbrev ds : List Declared
  ds = p.design.declared.items

  abbrev before : Situation
  before = record { ins = words_of i; stored = stored_of p slots contents }

  abbrev begun : List ℕ
  begun = with_words 0 (numbers (words_of i)) slots

  abbrev done : List ℕ
  done = run contents p.steps.items begun

  first_room : PORT_COUNT + length (register_widths ds) ≤ length slots
  first_room = let r = ready.compiled.room in let c = ready.count in omega arith

  pub ports_room : 0 + length (numbers (words_of i)) ≤ length slots
  ports_room = let r = first_room in omega arith

  fine : IsFine ds before
  fine = record { ports = ports_fit i inputs fit; stored = ready.stored }

  begun_count : length begun ≡ length ready.constants
  begun_count = with_words_length (numbers (words_of i)) 0 slots ∙ ready.count

  starts : Starts (flat_with p ready.constants) before begun
  starts = record {
    ports = λ k lt. let e : 0 + k ≡ k = omega arith in subst (λ j. get_or begun j 0 ≡ (get_or (words_of i) k nothing).value) e (with_words_at (numbers (words_of i)) 0 slots k ports_room lt ∙ number_at (words_of i) k);
    registers = λ r lt.
        let l = words_length (register_widths ds) PORT_COUNT slots in
        with_words_above (numbers (words_of i)) 0 slots (PORT_COUNT + r) (omega arith) ∙ words_at (register_widths ds) PORT_COUNT slots r (omega arith);
    kept = λ k n e. let f = ready.compiled.first k n e in with_words_above (numbers (words_of i)) 0 slots k (omega arith) ∙ ready.kept k n e;
    room = let c = begun_count in omega arith;
  }

  contents_same : contents_of before.stored ≡ contents
  contents_same = cells_back (memory_widths ds) contents ready.contents_count

  number_done : (slot n : ℕ) → get_or (run (contents_of before.stored) p.steps.items begun) slot 0 ≡ n → get_or done slot 0 ≡ n
  number_done slot n h = subst (λ b. get_or (run b p.steps.items begun) slot 0 ≡ n) contents_same h

  done_count : length done ≡ length ready.constants
  done_count = run_length contents p.steps.items begun ∙ begun_count

  done_kept : (k n : ℕ) → get_or ready.constants k None ≡ Some n → get_or done k 0 ≡ n
  done_kept k n e = run_kept contents ready.constants p.steps.items ready.compiled.free begun starts.kept k n e

  done_first : (k : ℕ) → PORT_COUNT ≤ k → k < PORT_COUNT + length (register_widths ds) → get_or done k 0 ≡ get_or slots k 0
  done_first k le lt = run_below contents (PORT_COUNT + length (register_widths ds)) p.steps.items ready.compiled.own begun k lt ∙ with_words_above (numbers (words_of i)) 0 slots k (omega arith)

  pub reads : AreReading (length begun) p.steps.items
  reads = subst (λ n. AreReading n p.steps.items) (sym begun_count) ready.compiled.reading

  pub divisors_in : AreDivisors p.divisors.items (length done)
  divisors_in = subst (λ n. AreDivisors p.divisors.items n) (sym done_count) ready.compiled.divisors

  pub shown_there : IsShown p.shown.items (length done)
  shown_there = subst (λ n. IsShown p.shown.items n) (sym done_count) ready.compiled.shown

  pub next_in : AreSlots p.next.items (length done)
  next_in = subst (λ n. AreSlots p.next.items n) (sym done_count) ready.compiled.next

  pub stores_in : AreStores p.stores.items (length done)
  stores_in = subst (λ n. AreStores p.stores.items n) (sym done_count) ready.compiled.stores

  pub stop_is : first_zero p.divisors.items done ≡ stopping (netlist_of p.design) (words_of i) (stored_of p slots contents)
  stop_is = subst (λ b. first_zero p.divisors.items (run b p.steps.items begun) ≡ stopping (netlist_of p.design) (words_of i) (stored_of p slots contents)) contents_same (ready.compiled.stops.at before begun fine starts)

  -- what the outputs show
  abbrev at : ℕ → ℕ
  at port = (shown (netlist_of p.design) (words_of i) (stored_of p slots contents) port).value

  outputs_small : FitOutputs at
  outputs_small =
      let t = ready.compiled.typed in
      outputs_fit (netlist_of p.design) t.ports (words_of i) (ports_fit i inputs fit) (stored_of p slots contents) ready.stored t.wires (netlist_of p.design).assigns t.assigns

  shown_at : (port : ℕ) → port < PORT_COUNT → shown_in p.shown.items done port ≡ at port
  shown_at port lt =
      let c = ready.compiled.shown.ports in
      let inside : port < length p.shown.items = omega (arith, c, lt) in
      get_or-map (λ k. get_or done k 0) p.shown.items port 0 0 inside ∙ number_done (get_or p.shown.items port 0) (at port) ((ready.compiled.shows port inside).at before begun fine starts)

  pub shown_fit : FitOutputs (shown_in p.shown.items done)
  shown_fit port =
      let w = output_width (get_or port_list port (record { output = false; width = 0 })) in
      ⊎_elim (λ lt. subst (λ n. n < 2 ^ w) (sym (shown_at port lt)) (outputs_small port))
      (λ le.
      let past : length (taken p.shown.items done) ≤ port = omega (arith, le, ready.compiled.shown.ports, length-map p.shown.items (λ k. get_or done k 0)) in
      subst (λ n. n < 2 ^ w) (sym (get_or_past (taken p.shown.items done) port 0 past)) (pow_pos w))
      (cases_lt port PORT_COUNT)

  pub shows_is : outputs_at (shown_in p.shown.items done) ≡ outputs_of (netlist_of p.design) i (stored_of p slots contents)
  shows_is = outputs_same (shown_in p.shown.items done) at shown_at

  -- a clock that stops
  pub stopped_stored : stored_of p done contents ≡ stored_of p slots contents
  stopped_stored =
      let made : List Word → Stored = λ rs. record { registers = rs; memories = cells_from (memory_widths ds) contents } in
      ap made (words_same (register_widths ds) PORT_COUNT slots done (λ r lt. done_first (PORT_COUNT + r) (omega arith) (omega arith)))

  pub stopped_ready : IsReady p done contents next
  stopped_ready = record {
    constants = ready.constants;
    compiled = ready.compiled;
    count = done_count;
    kept = done_kept;
    stored = subst (λ s. IsStored ds s) (sym stopped_stored) ready.stored;
    contents_count = ready.contents_count;
    next_count = ready.next_count;
  }

  -- a clock that goes
  abbrev words : List ℕ
  words = taken p.next.items done

  words_count : length words ≡ length (register_widths ds)
  words_count = length-map p.next.items (λ k. get_or done k 0) ∙ ready.compiled.count

  pub words_room : PORT_COUNT + length words ≤ length done
  words_room = let w = words_count in let d = done_count in let r = ready.compiled.room in omega arith

  abbrev ended : List ℕ
  ended = with_words PORT_COUNT words done

  abbrev stores_done : List (List ℕ)
  stores_done = applied done p.stores.items contents

  pub after_is : stored_of p ended stores_done ≡ after (netlist_of p.design) (words_of i) (stored_of p slots contents)
  after_is =
      let t = ready.compiled.typed in
      stored_is ds ended stores_done (after (netlist_of p.design) (words_of i) (stored_of p slots contents))
      (after_stored (netlist_of p.design) t.ports (words_of i) (ports_fit i inputs fit) (stored_of p slots contents) ready.stored t.wires t.always)
      (λ r lt.
      let c = ready.compiled.count in let w = words_count in
      let inside : r < length p.next.items = omega arith in
      with_words_at words PORT_COUNT done r words_room (omega arith)
      ∙ get_or-map (λ k. get_or done k 0) p.next.items r 0 0 inside
      ∙ number_done (get_or p.next.items r 0) _ ((ready.compiled.leads.registers r inside).at before begun fine starts))
      (subst (λ b. applied (run b p.steps.items begun) p.stores.items b ≡ contents_of (after (netlist_of p.design) (words_of i) (stored_of p slots contents))) contents_same (ready.compiled.leads.memories before begun fine starts))

  pub ready_after : IsReady p ended stores_done next
  ready_after =
      let t = ready.compiled.typed in
      record {
        constants = ready.constants;
        compiled = ready.compiled;
        count = with_words_length words PORT_COUNT done ∙ done_count;
        kept = λ k n e. let f = ready.compiled.first k n e in let w = words_count in with_words_above words PORT_COUNT done k (omega arith) ∙ done_kept k n e;
        stored = subst (λ s. IsStored ds s) (sym after_is) (after_stored (netlist_of p.design) t.ports (words_of i) (ports_fit i inputs fit) (stored_of p slots contents) ready.stored t.wires t.always);
        contents_count = applied_length done p.stores.items contents ∙ ready.contents_count;
        next_count = ready.next_count;
      }

  -- the slots as the steps have them
  pub begun_is : (ports all : List ℕ) → ports ≡ numbers (words_of i) → all ≡ with_words 0 ports slots → all ≡ with_words 0 (numbers (words_of i)) slots
  begun_is ports all e f = f ∙ ap (λ l. with_words 0 l slots) e

  pub done_is : (steps : List Step) (first all : List ℕ) → steps ≡ p.steps.items → first ≡ with_words 0 (numbers (words_of i)) slots → all ≡ run contents steps first → all ≡ run contents p.steps.items (with_words 0 (numbers (words_of i)) slots)
  done_is steps first all e f g = g ∙ ap (λ s. run contents s first) e ∙ ap (λ l. run contents p.steps.items l) f

  pub words_are_taken : (slots' kept all : List ℕ) → kept ≡ p.next.items → slots' ≡ run contents p.steps.items (with_words 0 (numbers (words_of i)) slots) → all ≡ taken kept slots' → all ≡ taken p.next.items (run contents p.steps.items (with_words 0 (numbers (words_of i)) slots))
  words_are_taken slots' kept all e f g = g ∙ ap (λ k. taken k slots') e ∙ ap (λ l. taken p.next.items l) f

  pub contents_are : (slots' : List ℕ) (ss : List Store) (all : List (List ℕ)) → ss ≡ p.stores.items → slots' ≡ run contents p.steps.items (with_words 0 (numbers (words_of i)) slots) → all ≡ applied slots' ss contents → all ≡ applied (run contents p.steps.items (with_words 0 (numbers (words_of i)) slots)) p.stores.items contents
  contents_are slots' ss all e f g = g ∙ ap (λ k. applied slots' k contents) e ∙ ap (λ l. applied l p.stores.items contents) f

  pub ended_is : (slots' new all : List ℕ) → slots' ≡ run contents p.steps.items (with_words 0 (numbers (words_of i)) slots) → new ≡ taken p.next.items (run contents p.steps.items (with_words 0 (numbers (words_of i)) slots)) → all ≡ with_words PORT_COUNT new slots' → all ≡ with_words PORT_COUNT (taken p.next.items (run contents p.steps.items (with_words 0 (numbers (words_of i)) slots))) (run contents p.steps.items (with_words 0 (numbers (words_of i)) slots))
  ended_is slots' new all e f g = g ∙ ap (λ l. with_words PORT_COUNT l slots') f ∙ ap (λ l. with_words PORT_COUNT (taken p.next.items (run contents p.steps.items (with_words 0 (numbers (words_of i)) slots))) l) e
