-- Guards, and what assignments lead to.
use Rattle.std.specs.Prelude.{slice_set, if◌then◌else◌, ◌==◌, nat_lt}
use Rattle.std.proofs.Common.{◌≡◌, ℕ, zero, suc, ◌+◌, ◌-◌, ◌<◌, ◌≤◌, Bool, true, false, ◌&&◌, not, Option, Some, None, List, [], ◌∷◌, ◌++◌, length, get_or, take, map, refl, sym, ap, ◌∙◌, subst, arith, ⊎_elim}
use Rattle.std.proofs.Math.Path.{fun_ext}
use Rattle.std.proofs.lemmas.Bool.{and_parts, ltb-true, ne_eqb, cases_eq, cond-true, cond-false}
use Rattle.std.proofs.lemmas.List.{length-set, length-map, map-set, get_or-set_same, get_or-set_other, get_or-map, take_more, take_more_set}
use Rattle.net_core.specs.declared.tree.Word.{Word}
use Rattle.net_core.specs.declared.tree.Net.{Net}
use Rattle.net_core.specs.declared.design.Declared.{Declared}
use Rattle.net_core.specs.Nets.{Tree, StatementTree, SBlock, SIf, SIfElse, SSet, SStore, StatementTrees, SEnd, SThen}
use Rattle.net_core.specs.Value.{nothing, value}
use Rattle.net_core.specs.Width.{same, statement_typed, statements_typed}
use Rattle.net_core.specs.Clock.{Stored, done, all_done, edge}
use Rattle.list_laws.proofs.PlaceLaws.{some_below}
use Rattle.clock_sim.specs.declared.step.Opcode.TheVariants.{Conditional, Complement}
use Rattle.clock_sim.specs.declared.builder.Operand.{Operand}
use Rattle.clock_sim.specs.declared.operands.Operands.{Operands}
use Rattle.clock_sim.specs.declared.edge.Store.{Store}
use Rattle.clock_sim.specs.declared.edge.Edge.{Edge}
use Rattle.clock_sim.specs.Steps.{worked, run}
use Rattle.clock_sim.specs.Flat.{Flat, Situation, IsFine, numbers, contents_of, Numbers, Works, Holds, Extends, Values, AreOperands, scope_of, env_at, Knows}
use Rattle.clock_sim.specs.Edges.{applied, AreSlots, IsStore, AreStores, IsEdge, IsGuard, Leads, GuardsBy, Guards, Picks, GuardsBoth, Opposes, GuardsAs, ExecutesOne, ExecutesMore, ExecutesAll, AreStatements, widths_at, sizes_of, taken}
use Rattle.clock_sim.proofs.BuilderLemmas.{run_append, run_below, extends_none, extends_more, starts_before, numbers_later, knows_later, operands_later}
use Rattle.clock_sim.proofs.StepLemmas.{memory_at}

pub numbers_fine : (ds : List Declared) (c : Flat) (slot : ℕ) (f g : Situation → ℕ) → ((x : Situation) → IsFine ds x → f x ≡ g x) → Numbers ds c slot f → Numbers ds c slot g
numbers_fine ds c slot f g e n = record { there = n.there; at = λ x slots fine starts. n.at x slots fine starts ∙ e x fine }

-- ---- guards
pub guards_later : (ds : List Declared) (old new : Flat) (guard : Option ℕ) (holds : Situation → Bool) → Extends old new → Guards ds old guard holds → Guards ds new guard holds
guards_later ds old new None holds e g = g
guards_later ds old new (Some slot) holds e g = record { number = g.number; stands = numbers_later ds old new slot g.number e g.stands; tells = g.tells }

pub pick_none : (old : Flat) (first second : ℕ) → Picks old old None first second first
pick_none old first second = record { gives = λ ds holds f g h n m. numbers_fine ds old first f (λ x. if holds x then f x else g x) (λ x fine. sym (cond-true (holds x) (f x) (g x) (h x fine))) n }

picks_by : (z t : Bool) (a b : ℕ) → z ≡ not t → (if z then b else a) ≡ (if t then a else b)
picks_by z true a b e = cond-false z b a e
picks_by z false a b e = cond-true z b a e

pub pick_some : (old new : Flat) (test first second slot n : ℕ) → n ≡ second → Works Conditional test first 0 n old new slot → Picks old new (Some test) first second slot
pick_some old new test first second slot n is made = record {
  gives = λ ds holds f g h k m. made.gives ds (λ x. if holds x then f x else g x) (λ x slots fine starts.
      let after = run (contents_of x.stored) old.steps slots in
      ap (λ j. worked Conditional (contents_of x.stored) after j 0 (get_or after test 0) (get_or after first 0)) is
      ∙ ap (λ j. worked Conditional (contents_of x.stored) after second 0 j (get_or after first 0)) (h.stands.at x slots fine starts)
      ∙ ap (λ j. worked Conditional (contents_of x.stored) after second 0 (h.number x) j) (k.at x slots fine starts)
      ∙ ap (λ k. if h.number x == 0 then k else f x) (m.at x slots fine starts)
      ∙ picks_by (h.number x == 0) (holds x) (f x) (g x) (h.tells x fine));
}

alone : (h b : Bool) → h ≡ true → b ≡ not (h && not b)
alone true true e = refl
alone true false e = refl
alone false b e = cc

pub both_none : (old : Flat) (test : ℕ) → GuardsBoth old old None test test
both_none old test = record { gives = λ ds holds f h n. record { number = f; stands = n; tells = λ x fine. alone (holds x) (f x == 0) (h x fine) } }

both_test : (m n : ℕ) (z h : Bool) → (m == 0) ≡ z → z ≡ not h → ((if z then m else n) == 0) ≡ not (h && not (n == 0))
both_test m n true true e f = cc
both_test m n true false e f = e
both_test m n false true e f = by_test (n == 0)
  where
    by_test : (b : Bool) → b ≡ not (not b)
    by_test true = refl
    by_test false = refl
both_test m n false false e f = cc

pub both_some : (old new : Flat) (outer test slot m : ℕ) → m ≡ outer → Works Conditional outer test 0 m old new slot → GuardsBoth old new (Some outer) test slot
both_some old new outer test slot m is made = record {
  gives = λ ds holds f h n. record {
    number = λ x. if h.number x == 0 then h.number x else f x;
    stands = made.gives ds (λ x. if h.number x == 0 then h.number x else f x) (λ x slots fine starts.
        let after = run (contents_of x.stored) old.steps slots in
        ap (λ j. if get_or after outer 0 == 0 then get_or after j 0 else get_or after test 0) is
        ∙ ap (λ k. if k == 0 then k else get_or after test 0) (h.stands.at x slots fine starts)
        ∙ ap (λ k. if h.number x == 0 then h.number x else k) (n.at x slots fine starts));
    tells = λ x fine. both_test (h.number x) (f x) (h.number x == 0) (holds x) refl (h.tells x fine);
  };
}

pub opposes : (old new : Flat) (test y slot : ℕ) → Works Complement test y 0 1 old new slot → Opposes old new test slot
opposes old new test y slot made = record { gives = λ ds f n. made.gives ds (λ x. 1 - f x) (λ x slots fine starts. ap (λ k. 1 - k) (n.at x slots fine starts)) }

pub guard_none : (old new : Flat) (slot : ℕ) → Holds new slot 1 → GuardsAs old new None slot
guard_none old new slot h = record { gives = λ ds holds g. record { number = λ x. 1; stands = h.gives ds; tells = λ x fine. sym (ap (λ b. not b) (g x fine)) } }

pub guard_some : (old : Flat) (slot : ℕ) → GuardsAs old old (Some slot) slot
guard_some old slot = record { gives = λ ds holds g. g }

-- ---- what assignments lead to
pub leads_same : (ds : List Declared) (c : Flat) (next : List ℕ) (stores : List Store) (f g : Situation → Stored) → ((x : Situation) → f x ≡ g x) → Leads ds c next stores f → Leads ds c next stores g
leads_same ds c next stores f g e h = subst (λ k. Leads ds c next stores k) (fun_ext e) h

applied_same : (n : ℕ) (slots slots' : List ℕ) → ((k : ℕ) → k < n → get_or slots' k 0 ≡ get_or slots k 0) → (stores : List Store) → AreStores stores n → (contents : List (List ℕ)) → applied slots' stores contents ≡ applied slots stores contents
applied_same n slots slots' same [] h contents = refl
applied_same n slots slots' same (s ∷ rest) h contents =
    let one : ℕ → ℕ → ℕ → List (List ℕ) = λ g a w. if g == 0 then contents else slice_set contents s.memory (slice_set (get_or contents s.memory []) a w) in
    ap (λ k. applied slots' rest (one k (get_or slots' s.at 0) (get_or slots' s.word 0))) (same s.guard h.0.guard)
    ∙ ap (λ k. applied slots' rest (one (get_or slots s.guard 0) k (get_or slots' s.word 0))) (same s.at h.0.at)
    ∙ ap (λ k. applied slots' rest (one (get_or slots s.guard 0) (get_or slots s.at 0) k)) (same s.word h.0.word)
    ∙ applied_same n slots slots' same rest h.1 (one (get_or slots s.guard 0) (get_or slots s.at 0) (get_or slots s.word 0))

one_length : (z : Bool) (contents : List (List ℕ)) (m : ℕ) (b : List ℕ) → length (if z then contents else slice_set contents m b) ≡ length contents
one_length true contents m b = refl
one_length false contents m b = length-set contents m b

pub applied_length : (slots : List ℕ) (stores : List Store) (contents : List (List ℕ)) → length (applied slots stores contents) ≡ length contents
applied_length slots [] contents = refl
applied_length slots (s ∷ rest) contents =
    let b = slice_set (get_or contents s.memory []) (get_or slots s.at 0) (get_or slots s.word 0) in
    applied_length slots rest (if get_or slots s.guard 0 == 0 then contents else slice_set contents s.memory b) ∙ one_length (get_or slots s.guard 0 == 0) contents s.memory b

pub leads_later : (ds : List Declared) (old new : Flat) (next : List ℕ) (stores : List Store) (f : Situation → Stored) → Extends old new → AreStores stores (length old.slots) → Leads ds old next stores f → Leads ds new next stores f
leads_later ds old new next stores f e within h = record {
  count = h.count;
  registers = λ r lt. numbers_later ds old new (get_or next r 0) (λ x. (get_or (f x).registers r nothing).value) e (h.registers r lt);
  memories = λ x slots fine starts.
      let contents = contents_of x.stored in
      applied_same (length old.slots) (run contents old.steps slots) (run contents new.steps slots)
      (λ k lt. ap (λ l. get_or (run contents l slots) k 0) e.steps ∙ ap (λ l. get_or l k 0) (run_append contents old.steps e.more slots) ∙ run_below contents (length old.slots) e.more e.own (run contents old.steps slots) k lt)
      stores within contents
      ∙ h.memories x slots fine (starts_before old new x slots e starts);
}

pub slots_more : (n m : ℕ) → n ≤ m → (ks : List ℕ) → AreSlots ks n → AreSlots ks m
slots_more n m le [] h = tt
slots_more n m le (k ∷ ks) h = let lt : k < n = h.0 in (omega arith, slots_more n m le ks h.1)

pub slots_set : (n : ℕ) (ks : List ℕ) (r k : ℕ) → k < n → AreSlots ks n → AreSlots (slice_set ks r k) n
slots_set n [] r k lt h = tt
slots_set n (j ∷ ks) zero k lt h = (lt, h.1)
slots_set n (j ∷ ks) (suc r) k lt h = (h.0, slots_set n ks r k lt h.1)

pub slot_at : (n : ℕ) (ks : List ℕ) → AreSlots ks n → (r : ℕ) (d : ℕ) → r < length ks → get_or ks r d < n
slot_at n [] h r d lt = absurd (omega arith)
slot_at n (k ∷ ks) h zero d lt = h.0
slot_at n (k ∷ ks) h (suc r) d lt = slot_at n ks h.1 r d (omega arith)

stores_more : (n m : ℕ) → n ≤ m → (ss : List Store) → AreStores ss n → AreStores ss m
stores_more n m le [] h = tt
stores_more n m le (s ∷ ss) h =
    let a = h.0.guard in let b = h.0.at in let c = h.0.word in
    (record { guard = omega arith; at = omega arith; word = omega arith }, stores_more n m le ss h.1)

pub edge_later : (old new : Flat) (n : Operands) (edge : Edge) → Extends old new → IsEdge edge n old → IsEdge edge n new
edge_later old new n edge e h = record {
  count = h.count;
  next = slots_more (length old.slots) (length new.slots) e.grows edge.next.items h.next;
  stores = stores_more (length old.slots) (length new.slots) e.grows edge.stores.items h.stores;
}

pub stores_push : (n : ℕ) (ss : List Store) (s : Store) → AreStores ss n → IsStore s n → AreStores (ss ++ s ∷ []) n
stores_push n [] s h i = (i, tt)
stores_push n (t ∷ ss) s h i = (h.0, stores_push n ss s h.1 i)

set_count : (t : Bool) (s : Stored) (r : ℕ) (w : Word) → length (if t then record s { registers = slice_set s.registers r w } else s).registers ≡ length s.registers
set_count true s r w = length-set s.registers r w
set_count false s r w = refl

set_memories : (t : Bool) (s : Stored) (r : ℕ) (w : Word) → s.memories ≡ (if t then record s { registers = slice_set s.registers r w } else s).memories
set_memories true s r w = refl
set_memories false s r w = refl

set_here : (t : Bool) (s : Stored) (r : ℕ) (w : Word) → r < length s.registers → (if t then w.value else (get_or s.registers r nothing).value) ≡ (get_or (if t then record s { registers = slice_set s.registers r w } else s).registers r nothing).value
set_here true s r w lt = ap (λ (u : Word). u.value) (sym (get_or-set_same s.registers r w nothing lt))
set_here false s r w lt = refl

set_other : (t : Bool) (s : Stored) (r k : ℕ) (w : Word) → (k ≡ r → ⊥) → (get_or s.registers k nothing).value ≡ (get_or (if t then record s { registers = slice_set s.registers r w } else s).registers k nothing).value
set_other true s r k w ne = ap (λ (u : Word). u.value) (sym (get_or-set_other s.registers r k w nothing ne))
set_other false s r k w ne = refl

pub leads_set :
    (ds : List Declared) (c : Flat) (next : List ℕ) (stores : List Store) (f : Situation → Stored) (r slot : ℕ) (holds : Situation → Bool) (u : Situation → Word)
    → Leads ds c next stores f → r < length next → Numbers ds c slot (λ x. if holds x then (u x).value else (get_or (f x).registers r nothing).value)
    → Leads ds c (slice_set next r slot) stores (λ x. if holds x then record (f x) { registers = slice_set (f x).registers r (u x) } else f x)
leads_set ds c next stores f r slot holds u h lt n = record {
  count = λ x fine. set_count (holds x) (f x) r (u x) ∙ h.count x fine ∙ sym (length-set next r slot);
  registers = λ k inside. ⊎_elim (λ same. here k inside same) (λ other. there k inside other) (cases_eq k r);
  memories = λ x slots fine starts. h.memories x slots fine starts ∙ ap (λ ms. map numbers ms) (set_memories (holds x) (f x) r (u x));
}
  where
    here : (k : ℕ) → k < length (slice_set next r slot) → k ≡ r → Numbers ds c (get_or (slice_set next r slot) k 0) (λ x. (get_or (if holds x then record (f x) { registers = slice_set (f x).registers r (u x) } else f x).registers k nothing).value)
    here k inside same =
        subst (λ j. Numbers ds c (get_or (slice_set next r slot) j 0) (λ x. (get_or (if holds x then record (f x) { registers = slice_set (f x).registers r (u x) } else f x).registers j nothing).value)) (sym same)
        (subst (λ j. Numbers ds c j (λ x. (get_or (if holds x then record (f x) { registers = slice_set (f x).registers r (u x) } else f x).registers r nothing).value)) (sym (get_or-set_same next r slot 0 lt))
        (numbers_fine ds c slot _ _ (λ x fine. set_here (holds x) (f x) r (u x) (let e = h.count x fine in omega arith)) n))

    there : (k : ℕ) → k < length (slice_set next r slot) → (k ≡ r → ⊥) → Numbers ds c (get_or (slice_set next r slot) k 0) (λ x. (get_or (if holds x then record (f x) { registers = slice_set (f x).registers r (u x) } else f x).registers k nothing).value)
    there k inside ne =
        let l = length-set next r slot in
        subst (λ j. Numbers ds c j (λ x. (get_or (if holds x then record (f x) { registers = slice_set (f x).registers r (u x) } else f x).registers k nothing).value)) (sym (get_or-set_other next r k slot 0 ne))
        (numbers_fine ds c (get_or next k 0) _ _ (λ x fine. set_other (holds x) (f x) r k (u x) ne) (h.registers k (omega arith)))

applied_push : (slots : List ℕ) (stores : List Store) (s : Store) (contents : List (List ℕ)) → applied slots (stores ++ s ∷ []) contents ≡ applied slots (s ∷ []) (applied slots stores contents)
applied_push slots [] s contents = refl
applied_push slots (t ∷ rest) s contents = applied_push slots rest s (if get_or slots t.guard 0 == 0 then contents else slice_set contents t.memory (slice_set (get_or contents t.memory []) (get_or slots t.at 0) (get_or slots t.word 0)))

contents_set : (all : List (List Word)) (m a : ℕ) (w : Word) → slice_set (map numbers all) m (slice_set (get_or (map numbers all) m []) a w.value) ≡ map numbers (slice_set all m (slice_set (get_or all m []) a w))
contents_set all m a w =
    ap (λ b. slice_set (map numbers all) m (slice_set b a w.value)) (memory_at all m)
    ∙ ap (λ b. slice_set (map numbers all) m b) (sym (map-set (λ (v : Word). v.value) (get_or all m []) a w))
    ∙ sym (map-set numbers all m (slice_set (get_or all m []) a w))

store_if : (z t : Bool) (s : Stored) (m a : ℕ) (w : Word) → z ≡ not t
    → (if z then map numbers s.memories else slice_set (map numbers s.memories) m (slice_set (get_or (map numbers s.memories) m []) a w.value)) ≡ map numbers (if t then record s { memories = slice_set s.memories m (slice_set (get_or s.memories m []) a w) } else s).memories
store_if z true s m a w e = cond-false z (map numbers s.memories) (slice_set (map numbers s.memories) m (slice_set (get_or (map numbers s.memories) m []) a w.value)) e ∙ contents_set s.memories m a w
store_if z false s m a w e = cond-true z (map numbers s.memories) (slice_set (map numbers s.memories) m (slice_set (get_or (map numbers s.memories) m []) a w.value)) e

store_registers : (t : Bool) (s : Stored) (ms : List (List Word)) → s.registers ≡ (if t then record s { memories = ms } else s).registers
store_registers true s ms = refl
store_registers false s ms = refl

pub leads_store :
    (ds : List Declared) (c : Flat) (next : List ℕ) (stores : List Store) (f : Situation → Stored) (s : Store) (holds : Situation → Bool) (i u : Situation → Word)
    → Leads ds c next stores f → GuardsBy ds c s.guard holds → Numbers ds c s.at (λ x. (i x).value) → Numbers ds c s.word (λ x. (u x).value)
    → Leads ds c next (stores ++ s ∷ []) (λ x. if holds x then record (f x) { memories = slice_set (f x).memories s.memory (slice_set (get_or (f x).memories s.memory []) (i x).value (u x)) } else f x)
leads_store ds c next stores f s holds i u h g a w = record {
  count = λ x fine. ap length (sym (store_registers (holds x) (f x) _)) ∙ h.count x fine;
  registers = λ r lt. numbers_fine ds c (get_or next r 0) _ _ (λ x fine. ap (λ rs. (get_or rs r nothing).value) (store_registers (holds x) (f x) (slice_set (f x).memories s.memory (slice_set (get_or (f x).memories s.memory []) (i x).value (u x))))) (h.registers r lt);
  memories = λ x slots fine starts.
      let after = run (contents_of x.stored) c.steps slots in
      let one : ℕ → ℕ → ℕ → List (List ℕ) = λ k j v. if k == 0 then contents_of (f x) else slice_set (contents_of (f x)) s.memory (slice_set (get_or (contents_of (f x)) s.memory []) j v) in
      applied_push after stores s (contents_of x.stored)
      ∙ ap (λ b. applied after (s ∷ []) b) (h.memories x slots fine starts)
      ∙ ap (λ k. one k (get_or after s.at 0) (get_or after s.word 0)) (g.stands.at x slots fine starts)
      ∙ ap (λ k. one (g.number x) k (get_or after s.word 0)) (a.at x slots fine starts)
      ∙ ap (λ k. one (g.number x) (i x).value k) (w.at x slots fine starts)
      ∙ store_if (g.number x == 0) (holds x) (f x) s.memory (i x).value (u x) (g.tells x fine);
}

-- ---- statements
if_cases : (h z : Bool) (s t : Stored) → (if h && not z then t else s) ≡ (if h then (if z then s else t) else s)
if_cases true true s t = refl
if_cases true false s t = refl
if_cases false z s t = refl

pub if_executes :
    (old one two new : Flat) (n : Operands) (guard : Option ℕ) (c : Tree Net) (q : Operand) (inner : ℕ) (a : StatementTree Net) (begun ended : Edge)
    → Extends old one → Extends one two → IsEdge begun n old → Values old one n c q → GuardsBoth one two guard q.slot inner → ExecutesOne two new n (Some inner) a begun ended → ExecutesOne old new n guard (SIf c a) begun ended
if_executes old one two new n guard c q inner a begun ended e f within v g executes = record {
  leads = λ ds wires holds s knows guards h.
      let both = extends_more old one two e f in
      leads_same ds new ended.next.items ended.stores.items _ _ (λ x. if_cases (holds x) ((value (env_at wires x) c).value == 0) (s x) (done (env_at wires x) a (s x)))
      (executes.leads ds wires (λ x. holds x && not ((value (env_at wires x) c).value == 0)) s (knows_later ds old two n wires both knows)
      (g.gives ds holds (λ x. (value (env_at wires x) c).value) (guards_later ds old one guard holds e guards) (v.gives ds wires knows).number)
      (leads_later ds old two begun.next.items begun.stores.items s both within.stores h));
}

minus_zero : (k : ℕ) → (1 - k == 0) ≡ not (k == 0)
minus_zero zero = refl
minus_zero (suc k) = let e : 1 - suc k ≡ 0 = omega arith in ap (λ n. n == 0) e ∙ sym (ap (λ b. not b) (ne_eqb (suc k) 0 (λ z. absurd (omega arith))))

else_cases : (h z y : Bool) (s t : Stored) (b : Stored → Stored) → y ≡ not z → (if h && not y then b (if h && not z then t else s) else (if h && not z then t else s)) ≡ (if h then (if z then b s else t) else s)
else_cases true true true s t b e = cc
else_cases true true false s t b e = refl
else_cases true false true s t b e = refl
else_cases true false false s t b e = cc
else_cases false z y s t b e = refl

pub else_executes :
    (old one two three four five new : Flat) (n : Operands) (guard : Option ℕ) (c : Tree Net) (q : Operand) (inner turned other : ℕ) (a b : StatementTree Net) (begun midway ended : Edge)
    → Extends old one → Extends one two → Extends two three → Extends three four → Extends four five → IsEdge begun n old
    → Values old one n c q → GuardsBoth one two guard q.slot inner → Opposes two three q.slot turned → GuardsBoth three four guard turned other
    → ExecutesOne four five n (Some inner) a begun midway → ExecutesOne five new n (Some other) b midway ended → ExecutesOne old new n guard (SIfElse c a b) begun ended
else_executes old one two three four five new n guard c q inner turned other a b begun midway ended e f g h i within v first turns second executes executes' = record {
  leads = λ ds wires holds s knows guards l.
      let to_two = extends_more old one two e f in
      let to_three = extends_more old two three to_two g in
      let to_four = extends_more old three four to_three h in
      let to_five = extends_more old four five to_four i in
      let test = (v.gives ds wires knows).number in
      let in_two = numbers_later ds one two q.slot (λ x. (value (env_at wires x) c).value) f test in
      let then_guard = first.gives ds holds (λ x. (value (env_at wires x) c).value) (guards_later ds old one guard holds e guards) test in
      let else_guard = second.gives ds holds (λ x. 1 - (value (env_at wires x) c).value) (guards_later ds old three guard holds to_three guards) (turns.gives ds (λ x. (value (env_at wires x) c).value) in_two) in
      let made = executes.leads ds wires (λ x. holds x && not ((value (env_at wires x) c).value == 0)) s (knows_later ds old four n wires to_four knows)
      (guards_later ds two four (Some inner) (λ x. holds x && not ((value (env_at wires x) c).value == 0)) (extends_more two three four g h) then_guard) (leads_later ds old four begun.next.items begun.stores.items s to_four within.stores l) in
      leads_same ds new ended.next.items ended.stores.items _ _ (λ x. else_cases (holds x) ((value (env_at wires x) c).value == 0) (1 - (value (env_at wires x) c).value == 0) (s x) (done (env_at wires x) a (s x)) (λ t. done (env_at wires x) b t) (minus_zero (value (env_at wires x) c).value))
      (executes'.leads ds wires (λ x. holds x && not (1 - (value (env_at wires x) c).value == 0)) _ (knows_later ds old five n wires to_five knows)
      (guards_later ds four five (Some other) (λ x. holds x && not (1 - (value (env_at wires x) c).value == 0)) i else_guard) made);
}

pub set_executes :
    (old one new : Flat) (n : Operands) (guard : Option ℕ) (r : ℕ) (t : Tree Net) (q : Operand) (slot : ℕ) (begun ended : Edge)
    → Extends old one → Extends one new → IsEdge begun n old → Values old one n t q → Picks one new guard q.slot (get_or begun.next.items r 0) slot → r < length begun.next.items
    → ended.next.items ≡ slice_set begun.next.items r slot → ended.stores.items ≡ begun.stores.items → ExecutesOne old new n guard (SSet r t) begun ended
set_executes old one new n guard r t q slot begun ended e f within v p lt is same = record {
  leads = λ ds wires holds s knows guards l.
      let next = begun.next.items in let stores = begun.stores.items in
      let here = leads_later ds old one next stores s e within.stores l in
      subst (λ k. Leads ds new k ended.stores.items (λ x. if holds x then done (env_at wires x) (SSet r t) (s x) else s x)) (sym is)
      (subst (λ k. Leads ds new (slice_set next r slot) k (λ x. if holds x then done (env_at wires x) (SSet r t) (s x) else s x)) (sym same)
      (leads_set ds new next stores s r slot holds (λ x. value (env_at wires x) t) (leads_later ds old new next stores s (extends_more old one new e f) within.stores l) lt
      (p.gives ds holds (λ x. (value (env_at wires x) t).value) (λ x. (get_or (s x).registers r nothing).value) (guards_later ds old one guard holds e guards) (v.gives ds wires knows).number (here.registers r lt))));
}

pub store_executes :
    (old one two new : Flat) (n : Operands) (guard : Option ℕ) (i t : Tree Net) (q r : Operand) (s : Store) (begun ended : Edge)
    → Extends old one → Extends one two → Extends two new → IsEdge begun n old → Values old one n i q → Values one two n t r → GuardsAs two new guard s.guard
    → s.at ≡ q.slot → s.word ≡ r.slot → ended.next.items ≡ begun.next.items → ended.stores.items ≡ begun.stores.items ++ s ∷ [] → ExecutesOne old new n guard (SStore s.memory i t) begun ended
store_executes old one two new n guard i t q r s begun ended e f g within v w gu at word same is = record {
  leads = λ ds wires holds k knows guards l.
      let next = begun.next.items in let stores = begun.stores.items in
      let to_two = extends_more old one two e f in
      let index = numbers_later ds one new q.slot (λ x. (value (env_at wires x) i).value) (extends_more one two new f g) (v.gives ds wires knows).number in
      let stored = numbers_later ds two new r.slot (λ x. (value (env_at wires x) t).value) g (w.gives ds wires (knows_later ds old one n wires e knows)).number in
      subst (λ ks. Leads ds new ks ended.stores.items (λ x. if holds x then done (env_at wires x) (SStore s.memory i t) (k x) else k x)) (sym same)
      (subst (λ ss. Leads ds new next ss (λ x. if holds x then done (env_at wires x) (SStore s.memory i t) (k x) else k x)) (sym is)
      (leads_store ds new next stores k s holds (λ x. value (env_at wires x) i) (λ x. value (env_at wires x) t) (leads_later ds old new next stores k (extends_more old two new to_two g) within.stores l)
      (gu.gives ds holds (guards_later ds old two guard holds to_two guards))
      (subst (λ j. Numbers ds new j (λ x. (value (env_at wires x) i).value)) (sym at) index)
      (subst (λ j. Numbers ds new j (λ x. (value (env_at wires x) t).value)) (sym word) stored)));
}

pub block_executes : (old new : Flat) (n : Operands) (guard : Option ℕ) (more : StatementTrees Net) (begun ended : Edge) → ExecutesMore old new n guard more begun ended → ExecutesOne old new n guard (SBlock more) begun ended
block_executes old new n guard more begun ended h = record { leads = h.leads }

same_if : (h : Bool) (s : Stored) → s ≡ (if h then s else s)
same_if true s = refl
same_if false s = refl

pub end_executes : (old : Flat) (n : Operands) (guard : Option ℕ) (edge : Edge) → ExecutesMore old old n guard SEnd edge edge
end_executes old n guard edge = record { leads = λ ds wires holds s knows guards h. leads_same ds old edge.next.items edge.stores.items s _ (λ x. same_if (holds x) (s x)) h }

then_cases : (h : Bool) (s : Stored) (f g : Stored → Stored) → (if h then g (if h then f s else s) else (if h then f s else s)) ≡ (if h then g (f s) else s)
then_cases true s f g = refl
then_cases false s f g = refl

pub then_executes :
    (old one new : Flat) (n : Operands) (guard : Option ℕ) (a : StatementTree Net) (more : StatementTrees Net) (begun midway ended : Edge)
    → Extends old one → ExecutesOne old one n guard a begun midway → ExecutesMore one new n guard more midway ended → ExecutesMore old new n guard (SThen a more) begun ended
then_executes old one new n guard a more begun midway ended e executes executes' = record {
  leads = λ ds wires holds s knows guards h.
      leads_same ds new ended.next.items ended.stores.items _ _ (λ x. then_cases (holds x) (s x) (λ t. done (env_at wires x) a t) (λ t. all_done (env_at wires x) more t))
      (executes'.leads ds wires holds _ (knows_later ds old one n wires e knows) (guards_later ds old one guard holds e guards) (executes.leads ds wires holds s knows guards h));
}

-- ---- one statement after another
pub record Led (ds : List Declared) (c : Flat) (next : List ℕ) (stores : List Store) (wires : Situation → List Word) (all left : List (StatementTree Net)) (f : Situation → Stored) : Type 0 where
  pub state : Situation → Stored
  pub leads : Leads ds c next stores state
  pub same : (x : Situation) → edge (env_at wires x) left (state x) ≡ edge (env_at wires x) all (f x)

pub record Acting (old now : Flat) (n : Operands) (all left : List (StatementTree Net)) (begun ended : Edge) : Type 0 where
  pub extends : Extends old now
  pub there : AreOperands n (length now.slots)
  pub within : IsEdge ended n now
  pub typed : AreStatements n left
  pub leads : (ds : List Declared) (wires : Situation → List Word) (f : Situation → Stored) → Knows ds old n wires → Leads ds old begun.next.items begun.stores.items f → Led ds now ended.next.items ended.stores.items wires all left f

pub acting_none : (old : Flat) (n : Operands) (all : List (StatementTree Net)) (edge : Edge) → AreOperands n (length old.slots) → IsEdge edge n old → AreStatements n all → Acting old old n all all edge edge
acting_none old n all edge there within typed = record {
  extends = extends_none old;
  there = there;
  within = within;
  typed = typed;
  leads = λ ds wires f knows h. record { state = f; leads = h; same = λ x. refl };
}

pub acting_more :
    (old now new : Flat) (n : Operands) (all left rest : List (StatementTree Net)) (a : StatementTree Net) (begun midway ended : Edge)
    → left ≡ a ∷ rest → Extends now new → IsEdge ended n new → ExecutesOne now new n None a midway ended → Acting old now n all left begun midway → Acting old new n all rest begun ended
acting_more old now new n all left rest a begun midway ended e ext within executes h0 =
    let h = subst (λ l. Acting old now n all l begun midway) e h0 in
    record {
      extends = extends_more old now new h.extends ext;
      there = operands_later n now new ext h.there;
      within = within;
      typed = h.typed.1;
      leads = λ ds wires f knows l.
          let k = h.leads ds wires f knows l in
          record {
            state = λ x. done (env_at wires x) a (k.state x);
            leads = executes.leads ds wires (λ x. true) k.state (knows_later ds old now n wires h.extends knows) (λ x fine. refl) k.leads;
            same = k.same;
          };
    }

pub acting_first : (old now : Flat) (n : Operands) (all left rest : List (StatementTree Net)) (a : StatementTree Net) (begun ended : Edge) → left ≡ a ∷ rest → Acting old now n all left begun ended → statement_typed (scope_of n) (widths_at n.registers.items) (sizes_of n.memories.items) a ≡ true
acting_first old now n all left rest a begun ended e h = (subst (λ l. AreStatements n l) e h.typed).0

pub acting_all : (old now : Flat) (n : Operands) (all left : List (StatementTree Net)) (begun ended : Edge) → left ≡ [] → Acting old now n all left begun ended → ExecutesAll old now n all begun ended
acting_all old now n all left begun ended e h0 =
    let h = subst (λ l. Acting old now n all l begun ended) e h0 in
    record { leads = λ ds wires f knows l. let k = h.leads ds wires f knows l in leads_same ds now ended.next.items ended.stores.items k.state (λ x. edge (env_at wires x) all (f x)) k.same k.leads }

-- ---- the statements of a block, one after another
guard_later : (n m : ℕ) → n ≤ m → (guard : Option ℕ) → IsGuard guard n → IsGuard guard m
guard_later n m le None h = h
guard_later n m le (Some slot) h = omega (arith, le, h)

-- what executes the statements that are left executes all of them
pub record Executing (n : Operands) (guard : Option ℕ) (all left : StatementTrees Net) (old now : Flat) (begun midway : Edge) : Type 0 where
  pub typed : statements_typed (scope_of n) (widths_at n.registers.items) (sizes_of n.memories.items) left ≡ true
  pub extends : Extends old now
  pub there : AreOperands n (length now.slots)
  pub guarded : IsGuard guard (length now.slots)
  pub within : IsEdge midway n now
  pub executes : (last : Flat) (ended : Edge) → ExecutesMore now last n guard left midway ended → ExecutesMore old last n guard all begun ended

pub executing_more :
    (n : Operands) (guard : Option ℕ) (all left rest : StatementTrees Net) (a : StatementTree Net) (old now new : Flat) (begun midway next : Edge)
    → left ≡ SThen a rest → Extends now new → IsEdge next n new → ExecutesOne now new n guard a midway next → Executing n guard all left old now begun midway → Executing n guard all rest old new begun next
executing_more n guard all left rest a old now new begun midway next e ext within one h0 =
    let h = subst (λ l. Executing n guard all l old now begun midway) e h0 in
    let typed = and_parts (statement_typed (scope_of n) (widths_at n.registers.items) (sizes_of n.memories.items) a) (statements_typed (scope_of n) (widths_at n.registers.items) (sizes_of n.memories.items) rest) h.typed in
    record {
      typed = typed.1;
      extends = extends_more old now new h.extends ext;
      there = operands_later n now new ext h.there;
      guarded = guard_later (length now.slots) (length new.slots) ext.grows guard h.guarded;
      within = within;
      executes = λ last ended more. h.executes last ended (then_executes now new last n guard a rest midway next ended ext one more);
    }

-- ---- what a statement needs
pub set_there : (ps : List Operand) (r w : ℕ) → same (get_or (widths_at ps) r 0) w ≡ true → r < length ps
set_there ps r w h =
    let p = and_parts (nat_lt 0 (get_or (widths_at ps) r 0)) (get_or (widths_at ps) r 0 == w) h in
    let lt = some_below (λ n. n) 0 (widths_at ps) r refl (ltb-true 0 (get_or (widths_at ps) r 0) p.0) in
    let l = length-map ps (λ (p : Operand). p.width) in
    omega arith

-- ---- the next words, one after another
pub gather_more : (next slots words : List ℕ) (i : ℕ) → i < length next → length words ≡ length next → take i words ≡ take i (taken next slots) → take (i + 1) (slice_set words i (get_or slots (get_or next i 0) 0)) ≡ take (i + 1) (taken next slots)
gather_more next slots words i lt count h =
    let v = get_or slots (get_or next i 0) 0 in
    let inside : i < length words = omega arith in
    let l = length-map next (λ k. get_or slots k 0) in
    let inside' : i < length (taken next slots) = omega arith in
    take_more_set words i v inside
    ∙ ap (λ l. l ++ v ∷ []) h
    ∙ sym (take_more (taken next slots) i 0 inside' ∙ ap (λ u. take i (taken next slots) ++ u ∷ []) (get_or-map (λ k. get_or slots k 0) next i 0 0 lt))
