-- What a clock stores.
use Rattle.std.specs.Prelude.{◌≡◌, ℕ, zero, suc, ◌+◌, ◌%◌, ◌^◌, ◌<◌, ◌≤◌, ◌==◌, Bool, true, false, ◌||◌, cond, List, [], ◌∷◌, ◌++◌, length, map, drop, slice_set}
use Rattle.std.proofs.Common.{get_or, not, refl, sym, ap, subst, ◌∙◌, arith, append_assoc, length-append}
use Rattle.std.proofs.lemmas.List.{append-nil, length-map, get_or-map}
use Rattle.std.proofs.Math.Nat.{mod-eq_of_lt}
use Rattle.net_core.specs.declared.tree.Word.{Word}
use Rattle.net_core.specs.declared.tree.Op.TheVariants.{Add}
use Rattle.net_core.specs.Nets.{Tree, TRead, TConditional, SIf, SSet, SEnd, SThen}
use Rattle.net_core.specs.Chains.{statements_before}
use Rattle.net_core.specs.Value.{word, bit, number_of, nothing, apply, conditional, Env, value}
use Rattle.net_core.specs.Clock.{Stored, done, all_done}
use Rattle.block_core.specs.declared.name.Name.{Name}
use Rattle.control_net.specs.declared.ring_net.shape.ControlShape.{ControlShape}
use Rattle.control_net.specs.declared.ring_net.names.Counter.{Counter}
use Rattle.control_net.specs.declared.ring_net.names.Counter.TheVariants.{Given, Answered, Injected, Gathered}
use Rattle.control_net.specs.declared.ring_net.names.Register.TheVariants.{Lap, Slot, Passed}
use Rattle.control_net.specs.RingNet.Names.{register_number, register_name}
use Rattle.control_net.specs.RingNet.Control.{counted}
use Rattle.control_net.specs.RingNet.Trees.{register, counting}
use Rattle.control_net.proofs.RingNet.Values.{chosen}
use Rattle.control_net.proofs.RingNet.Clocked.{lap_value, slot_value}
use Rattle.control_net.specs.declared.names.Wire.{Wire}
use Rattle.control_net.specs.declared.names.Wire.TheVariants.{Ends, Advances, Injects, Exits, Passes, Gone}
use Rattle.control_net.specs.declared.names.ControlNets.{ControlNets}
use Rattle.control_net.specs.Names.{lap_name, slot_name, wire_name, back_name}
use Rattle.control_net.specs.Control.{State, Signals, returns, some_returns, oldest, back, rest, ends, advances, injects, exits, passes, gone, shifted, injected_after, step, IsSound}
use Rattle.control_net.specs.Block.{lap_word, slot_word, code, Sees}
use Rattle.control_net.specs.Trees.{before, wire, kept, by_place, advance, pass, resume, move, move_lap, move_slot, control_tree}
use Rattle.control_net.proofs.Lists.{before_next, first_and_rest, listed, words, all_set}
use Rattle.control_net.proofs.Flushing.{past, flushed_length}
use Rattle.control_net.proofs.Sound.{shifted_length, shifted_first, shifted_at}
use Rattle.control_net.proofs.Shown.{counters, bit_at, slot_shown, lap_shown, passed_shown, number_lap_shown, number_slot_shown, kept_shown, wire_shown}

-- a counter's registers, where it is counted on
abbrev counted_registers : ControlShape → Counter → Bool → ℕ → Stored → Stored
counted_registers c k t a s = cond t (record { registers = slice_set (slice_set s.registers (register_number (Lap k)) (lap_word c (suc a))) (register_number (Slot k)) (slot_word c (suc a)); memories = s.memories }) s

-- a later choice wins
later_wins : {X : Type 0} (r t : Bool) (o n x : X) → cond t o (cond (r || t) n x) ≡ cond (r || t) (cond t o n) x
later_wins true true o n x = refl
later_wins false true o n x = refl
later_wins true false o n x = refl
later_wins false false o n x = refl

map_shifted : {X Y : Type 0} (g : X → Y) (x : X) (xs : List X) → shifted (g x) (map g xs) ≡ map g (shifted x xs)
map_shifted g x [] = refl
map_shifted g x (y ∷ ys) = ap (λ zs. g x ∷ zs) (map_shifted g y ys)

map_cond : {X Y : Type 0} (g : X → Y) (t : Bool) (x : X) (xs : List X) → cond t (map g xs) (shifted (g x) (map g xs)) ≡ map g (cond t xs (shifted x xs))
map_cond g true x xs = refl
map_cond g false x xs = map_shifted g x xs

module _ {P : Type 0} (c : ControlShape) (part of : P) (v : Env (Name P)) where
  -- ---- counters
  counts : (k : Counter) (a : ℕ) (w : Wire) (t : Bool) (r : Stored) → v.net (register_name part (Lap k)) ≡ lap_word c a → v.net (register_name part (Slot k)) ≡ slot_word c a → v.net (wire_name part w) ≡ bit t
      → done v (advance c part w k) r ≡ counted_registers c k t a r
  counts k a w true r l s e =
      ap (λ (x : Word). cond (x.value == 0) r (done v (counting c part k) r)) e
      ∙ (λ j. record { registers = slice_set (slice_set r.registers (register_number (Lap k)) (lap_value c part v k a l s j)) (register_number (Slot k)) (slot_value c part v k a l s j); memories = r.memories })
  counts k a w false r l s e = ap (λ (x : Word). cond (x.value == 0) r (done v (counting c part k) r)) e

  given_done : (t : Bool) (s : State) → counted_registers c Given t s.given (code c s) ≡ code c (record s { given = counted t s.given })
  given_done true s = refl
  given_done false s = refl

  answered_done : (t : Bool) (s : State) → counted_registers c Answered t s.answered (code c s) ≡ code c (record s { answered = counted t s.answered })
  answered_done true s = refl
  answered_done false s = refl

  injected_done : (t : Bool) (s : State) → counted_registers c Injected t s.injected (code c s) ≡ code c (record s { injected = counted t s.injected })
  injected_done true s = refl
  injected_done false s = refl

  gathered_done : (t : Bool) (s : State) → counted_registers c Gathered t s.gathered (code c s) ≡ code c (record s { gathered = counted t s.gathered })
  gathered_done true s = refl
  gathered_done false s = refl

  pass_done : (t : Bool) (s : State) → v.net (wire_name part Passes) ≡ bit t → v.net (register_name part Passed) ≡ word 32 s.passed → s.passed < 2 ^ 32 → done v (pass part) (code c s) ≡ code c (record s { passed = (s.passed + number_of t) % 2 ^ 32 })
  pass_done true s e p l = λ j. cond ((e j).value == 0) (code c s) (record { registers = slice_set (code c s).registers 8 (apply Add (p j) (word 32 1)); memories = [] })
  pass_done false s e p l =
      let z : (s.passed + 0) % 2 ^ 32 ≡ s.passed = ap (λ n. n % 2 ^ 32) (omega arith) ∙ mod-eq_of_lt l in
      ap (λ (x : Word). cond (x.value == 0) (code c s) (record { registers = slice_set (code c s).registers 8 (apply Add (v.net (register_name part Passed)) (word 32 1)); memories = [] })) e
      ∙ ap (λ n. code c (record s { passed = n })) (sym z)

  -- ---- the next frame, where packets are sent back
  resume_done : (k n : ℕ) (t : Bool) (s : State) → v.net (back_name c of k) ≡ bit t → v.net (lap_name c part k) ≡ lap_word c n → v.net (slot_name c part k) ≡ slot_word c n
      → done v (resume c part of k) (code c s) ≡ code c (record s { injected = cond t n s.injected })
  resume_done k n true s e l q =
      λ j. cond ((e j).value == 0) (code c s) (record { registers = slice_set (slice_set (code c s).registers 4 (l j)) 5 (q j); memories = [] })
  resume_done k n false s e l q =
      ap (λ (x : Word). cond (x.value == 0) (code c s) (record { registers = slice_set (slice_set (code c s).registers 4 (v.net (lap_name c part k))) 5 (v.net (slot_name c part k)); memories = [] })) e

  module _ (reload : ℕ → Bool) where
    resumes_done : (hs : List Bool) (ns : List ℕ) (a : ℕ) (s : State) → a + length ns ≡ suc c.commit → length ns ≤ length hs
        → ((j : ℕ) → j < length ns → v.net (back_name c of (a + j)) ≡ bit (some_returns c reload (a + j) (drop j hs)))
        → ((j : ℕ) → j < length ns → (v.net (lap_name c part (a + j)) ≡ lap_word c (get_or ns j 0)) × (v.net (slot_name c part (a + j)) ≡ slot_word c (get_or ns j 0)))
        → all_done v (listed (resume c part of) a (length ns)) (code c s) ≡ code c (record s { injected = cond (some_returns c reload a hs) (oldest c reload a hs ns) s.injected })
    resumes_done hs [] a s l m b n =
        let none = past c reload hs a (omega (arith, l)) in
        ap (λ t. code c (record s { injected = cond t (oldest c reload a hs []) s.injected })) (sym none)
    resumes_done [] (x ∷ ns) a s l m b n = absurd (omega (arith, m))
    resumes_done (h ∷ hs) (x ∷ ns) a s l m b n =
        let z : a + 0 ≡ a = omega arith in
        let here = some_returns c reload a (h ∷ hs) in
        let further = some_returns c reload (suc a) hs in
        let sends : v.net (back_name c of a) ≡ bit here = subst (λ k. v.net (back_name c of k) ≡ bit (some_returns c reload k (h ∷ hs))) z (b 0 (omega arith)) in
        let own : (v.net (lap_name c part a) ≡ lap_word c x) × (v.net (slot_name c part a) ≡ slot_word c x) = subst (λ k. (v.net (lap_name c part k) ≡ lap_word c x) × (v.net (slot_name c part k) ≡ slot_word c x)) z (n 0 (omega arith)) in
        let s1 : State = record s { injected = cond here x s.injected } in
        let b' : (j : ℕ) → j < length ns → v.net (back_name c of (suc a + j)) ≡ bit (some_returns c reload (suc a + j) (drop j hs)) =
        λ j q. let k : a + suc j ≡ suc a + j = omega arith in subst (λ k. v.net (back_name c of k) ≡ bit (some_returns c reload k (drop j hs))) k (b (suc j) (omega (arith, q))) in
        let n' : (j : ℕ) → j < length ns → (v.net (lap_name c part (suc a + j)) ≡ lap_word c (get_or ns j 0)) × (v.net (slot_name c part (suc a + j)) ≡ slot_word c (get_or ns j 0)) =
        λ j q. let k : a + suc j ≡ suc a + j = omega arith in subst (λ k. (v.net (lap_name c part k) ≡ lap_word c (get_or ns j 0)) × (v.net (slot_name c part k) ≡ slot_word c (get_or ns j 0))) k (n (suc j) (omega (arith, q))) in
        ap (λ xs. all_done v (statements_before xs SEnd) (code c s)) (first_and_rest (resume c part of) a (length ns))
        ∙ ap (all_done v (listed (resume c part of) (suc a) (length ns))) (resume_done a x here s sends own.0 own.1)
        ∙ resumes_done hs ns (suc a) s1 (omega (arith, l)) (omega (arith, m)) b' n'
        ∙ ap (λ m. code c (record s { injected = m })) (later_wins (returns c reload a h) further (oldest c reload (suc a) hs ns) x s.injected)

  -- ---- what moves on, or stays
  before_value : (e : Tree (Name P)) (g : ℕ → Tree (Name P)) (x : Word) (ws : List Word) (k : ℕ) → k < length ws → value v e ≡ x → ((j : ℕ) → j < length ws → value v (g j) ≡ get_or ws j nothing) → value v (before e g k) ≡ get_or (shifted x ws) k nothing
  before_value e g x ws zero l f h = f ∙ sym (shifted_first x nothing ws l)
  before_value e g x ws (suc k) l f h = ap (value v) (before_next e g k) ∙ h k (omega (arith, l)) ∙ sym (shifted_at x nothing ws k l)

  numbers_done : (st : Bool) (base : ℕ) (e : Tree (Name P)) (g : ℕ → Tree (Name P)) (x : Word) (ws front back : List Word) → v.net (wire_name part Advances) ≡ bit (not st) → length front ≡ base → value v e ≡ x → ((j : ℕ) → j < length ws → value v (g j) ≡ get_or ws j nothing)
      → done v (SIf (wire part Advances) (by_place (λ k. SSet (base + k) (before e g k)) (length ws))) (words (front ++ (ws ++ back))) ≡ words (front ++ (cond st ws (shifted x ws) ++ back))
  numbers_done true base e g x ws front back t l f h =
      ap (λ (y : Word). cond (y.value == 0) (words (front ++ (ws ++ back))) (all_done v (listed (λ k. SSet (base + k) (before e g k)) 0 (length ws)) (words (front ++ (ws ++ back))))) t
  numbers_done false base e g x ws front back t l f h =
      let n = shifted_length x ws in
      ap (λ (y : Word). cond (y.value == 0) (words (front ++ (ws ++ back))) (all_done v (listed (λ k. SSet (base + k) (before e g k)) 0 (length ws)) (words (front ++ (ws ++ back))))) t
      ∙ ap (λ m. all_done v (listed (λ k. SSet (base + k) (before e g k)) 0 m) (words (front ++ (ws ++ back)))) (sym n)
      ∙ all_set v base (before e g) ws (shifted x ws) front back 0 (omega (arith, l)) (sym n)
      (λ j q. let z : 0 + j ≡ j = omega arith in ap (λ k. value v (before e g k)) z ∙ before_value e g x ws j (omega (arith, q, n)) f h)

module _ {P : Type 0} (c : ControlShape) (part of : P) (nets : ControlNets P) (i : Signals) (s : State) (v : Env (Name P)) (h : IsSound c i.partial s) (e : Sees c part of nets (control_tree c part of nets) i s v) where
  -- ---- places
  abbrev rs : List Bool
  rs = rest c i s

  rs_length : length rs ≡ suc c.stages
  rs_length = flushed_length c i.reload s.holds 0 ∙ h.places

  abbrev held : Bool → List Bool
  held st = cond st rs (shifted (injects c i s) rs)

  held_length : (st : Bool) → length (held st) ≡ suc c.stages
  held_length true = rs_length
  held_length false = shifted_length (injects c i s) rs ∙ rs_length

  comes : (k : ℕ) → k ≤ c.stages → value v (before (wire part Injects) (kept c part of) k) ≡ bit (get_or (shifted (injects c i s) rs) k false)
  comes zero l = wire_shown c part of nets i s v h e Injects ∙ ap bit (sym (shifted_first (injects c i s) false rs (omega (arith, rs_length))))
  comes (suc k) l =
      ap (value v) (before_next (wire part Injects) (kept c part of) k) ∙ kept_shown c part of nets i s v h e k (omega (arith, l)) ∙ ap bit (sym (shifted_at (injects c i s) false rs k (omega (arith, l, rs_length))))

  abbrev place_tree : ℕ → Tree (Name P)
  place_tree k = TConditional (wire part Advances) (before (wire part Injects) (kept c part of) k) (kept c part of k)

  chooses : (st : Bool) (k : ℕ) → cond (not st) (bit (get_or (shifted (injects c i s) rs) k false)) (bit (get_or rs k false)) ≡ bit (get_or (held st) k false)
  chooses true k = refl
  chooses false k = refl

  place_value : (k : ℕ) → k ≤ c.stages → value v (place_tree k) ≡ get_or (map bit (held i.stalls)) k nothing
  place_value k l =
      (λ j. conditional (wire_shown c part of nets i s v h e Advances j) (comes k l j) (kept_shown c part of nets i s v h e k l j))
      ∙ chosen (advances i) (bit (get_or (shifted (injects c i s) rs) k false)) (bit (get_or rs k false))
      ∙ chooses i.stalls k
      ∙ sym (bit_at (held i.stalls) k (omega (arith, l, held_length i.stalls)))

  places_done : (front back : List Word) → length front ≡ 9 → done v (by_place (move c part of) (suc c.stages)) (words (front ++ (map bit s.holds ++ back))) ≡ words (front ++ (map bit (held i.stalls) ++ back))
  places_done front back l =
      let m = length-map (held i.stalls) bit ∙ held_length i.stalls in
      ap (λ n. all_done v (listed (move c part of) 0 n) (words (front ++ (map bit s.holds ++ back)))) (sym m)
      ∙ all_set v 9 place_tree (map bit s.holds) (map bit (held i.stalls)) front back 0 (omega (arith, l)) (length-map s.holds bit ∙ h.places ∙ sym m)
      (λ j q. let z : 0 + j ≡ j = omega arith in subst (λ k. value v (place_tree k) ≡ get_or (map bit (held i.stalls)) j nothing) (sym z) (place_value j (omega (arith, q, m))))

  -- ---- numbers
  laps_done : (front back : List Word) → length front ≡ 10 + c.stages
      → done v (SIf (wire part Advances) (by_place (move_lap c part) (suc c.commit))) (words (front ++ (map (lap_word c) s.numbers ++ back))) ≡ words (front ++ (map (lap_word c) (cond i.stalls s.numbers (shifted s.injected s.numbers)) ++ back))
  laps_done front back l =
      let ws = map (lap_word c) s.numbers in
      let m = length-map s.numbers (lap_word c) ∙ h.numbered in
      ap (λ n. done v (SIf (wire part Advances) (by_place (move_lap c part) n)) (words (front ++ (ws ++ back)))) (sym m)
      ∙ numbers_done c part of v i.stalls (10 + c.stages) (register part (Lap Injected)) (λ j. TRead (lap_name c part j)) (lap_word c s.injected) ws front back (wire_shown c part of nets i s v h e Advances) l (lap_shown c part of nets i s v h e Injected)
      (λ j q. number_lap_shown c part of nets i s v h e j (omega (arith, q, m)) ∙ sym (get_or-map (lap_word c) s.numbers j 0 nothing (omega (arith, q, m, h.numbered))))
      ∙ ap (λ xs. words (front ++ (xs ++ back))) (map_cond (lap_word c) i.stalls s.injected s.numbers)

  slots_done : (front back : List Word) → length front ≡ 11 + c.stages + c.commit
      → done v (SIf (wire part Advances) (by_place (move_slot c part) (suc c.commit))) (words (front ++ (map (slot_word c) s.numbers ++ back))) ≡ words (front ++ (map (slot_word c) (cond i.stalls s.numbers (shifted s.injected s.numbers)) ++ back))
  slots_done front back l =
      let ws = map (slot_word c) s.numbers in
      let m = length-map s.numbers (slot_word c) ∙ h.numbered in
      ap (λ n. done v (SIf (wire part Advances) (by_place (move_slot c part) n)) (words (front ++ (ws ++ back)))) (sym m)
      ∙ numbers_done c part of v i.stalls (11 + c.stages + c.commit) (register part (Slot Injected)) (λ j. TRead (slot_name c part j)) (slot_word c s.injected) ws front back (wire_shown c part of nets i s v h e Advances) l (slot_shown c part of nets i s v h e Injected)
      (λ j q. number_slot_shown c part of nets i s v h e j (omega (arith, q, m)) ∙ sym (get_or-map (slot_word c) s.numbers j 0 nothing (omega (arith, q, m, h.numbered))))
      ∙ ap (λ xs. words (front ++ (xs ++ back))) (map_cond (slot_word c) i.stalls s.injected s.numbers)

  -- all registers after the counters, one list after another
  stored_done : (t : State) → t.holds ≡ s.holds → t.numbers ≡ s.numbers
      → all_done v (statements_before (by_place (move c part of) (suc c.stages) ∷ SIf (wire part Advances) (by_place (move_lap c part) (suc c.commit)) ∷ SIf (wire part Advances) (by_place (move_slot c part) (suc c.commit)) ∷ []) SEnd) (code c t)
      ≡ code c (record t { holds = held i.stalls; numbers = cond i.stalls s.numbers (shifted s.injected s.numbers) })
  stored_done t p q =
      let ns = cond i.stalls s.numbers (shifted s.injected s.numbers) in
      let front = counters c t in
      let places = map bit (held i.stalls) in
      let laps = map (lap_word c) s.numbers in
      let laps' = map (lap_word c) ns in
      let slots = map (slot_word c) s.numbers in
      let slots' = map (slot_word c) ns in
      let a3 = SIf (wire part Advances) (by_place (move_slot c part) (suc c.commit)) in
      let a2 = SIf (wire part Advances) (by_place (move_lap c part) (suc c.commit)) in
      let a1 = by_place (move c part of) (suc c.stages) in
      let m = length-map (held i.stalls) bit ∙ held_length i.stalls in
      let n = length-map ns (lap_word c) in
      let few : length front ≡ 9 = refl in
      let f : length (front ++ places) ≡ 10 + c.stages = omega (arith, length-append front places, m) in
      let g : length ((front ++ places) ++ laps') ≡ 11 + c.stages + c.commit = omega (arith, length-append (front ++ places) laps', f, n, numbers_length i.stalls) in
      ap (λ (x : (List Bool) × (List ℕ)). all_done v (statements_before (a1 ∷ a2 ∷ a3 ∷ []) SEnd) (words (front ++ (map bit x.0 ++ (map (lap_word c) x.1 ++ map (slot_word c) x.1))))) (λ j. (p j, q j))
      ∙ ap (λ r. done v a3 (done v a2 r)) (places_done front (laps ++ slots) few)
      ∙ ap (λ r. done v a3 (done v a2 (words r))) (sym (append_assoc front places (laps ++ slots)))
      ∙ ap (done v a3) (laps_done (front ++ places) slots f)
      ∙ ap (λ r. done v a3 (words r)) (sym (append_assoc (front ++ places) laps' slots))
      ∙ ap (λ r. done v a3 (words (((front ++ places) ++ laps') ++ r))) (sym (append-nil slots))
      ∙ slots_done ((front ++ places) ++ laps') [] g
      ∙ ap (λ r. words (((front ++ places) ++ laps') ++ r)) (append-nil slots')
      ∙ ap words (append_assoc (front ++ places) laps' slots' ∙ append_assoc front places (laps' ++ slots'))
    where
      numbers_length : (st : Bool) → length (cond st s.numbers (shifted s.injected s.numbers)) ≡ suc c.commit
      numbers_length true = h.numbered
      numbers_length false = shifted_length s.injected s.numbers ∙ h.numbered

  pub clocked : done v (control_tree c part of nets).statement (code c s) ≡ code c (step c i s)
  clocked =
      let laps = lap_shown c part of nets i s v h e in
      let slots = slot_shown c part of nets i s v h e in
      let tells = wire_shown c part of nets i s v h e in
      let s1 : State = record s { given = counted (gone i s) s.given } in
      let s2 : State = record s1 { answered = counted (exits c i s) s.answered } in
      let s3 : State = record s2 { injected = counted (injects c i s) s.injected } in
      let s4 : State = record s3 { gathered = counted (ends c i s) s.gathered } in
      let s5 : State = record s4 { passed = (s.passed + number_of (passes c i s)) % 2 ^ 32 } in
      let s6 : State = record s5 { injected = injected_after c i s } in
      let m6 = statements_before (by_place (move c part of) (suc c.stages) ∷ SIf (wire part Advances) (by_place (move_lap c part) (suc c.commit)) ∷ SIf (wire part Advances) (by_place (move_slot c part) (suc c.commit)) ∷ []) SEnd in
      let m5 = SThen (by_place (resume c part of) (suc c.commit)) m6 in
      let m4 = SThen (pass part) m5 in
      let m3 = SThen (advance c part Ends Gathered) m4 in
      let m2 = SThen (advance c part Injects Injected) m3 in
      let m1 = SThen (advance c part Exits Answered) m2 in
      ap (all_done v m1) (counts c part of v Given s.given Gone (gone i s) (code c s) (laps Given) (slots Given) (tells Gone) ∙ given_done c part of v (gone i s) s)
      ∙ ap (all_done v m2) (counts c part of v Answered s.answered Exits (exits c i s) (code c s1) (laps Answered) (slots Answered) (tells Exits) ∙ answered_done c part of v (exits c i s) s1)
      ∙ ap (all_done v m3) (counts c part of v Injected s.injected Injects (injects c i s) (code c s2) (laps Injected) (slots Injected) (tells Injects) ∙ injected_done c part of v (injects c i s) s2)
      ∙ ap (all_done v m4) (counts c part of v Gathered s.gathered Ends (ends c i s) (code c s3) (laps Gathered) (slots Gathered) (tells Ends) ∙ gathered_done c part of v (ends c i s) s3)
      ∙ ap (all_done v m5) (pass_done c part of v (passes c i s) s4 (tells Passes) (passed_shown c part of nets i s v h e) h.passed)
      ∙ ap (all_done v m6) (ap (λ n. all_done v (listed (resume c part of) 0 n) (code c s5)) (sym h.numbered) ∙ resumes_done c part of v i.reload s.holds s.numbers 0 s5 (omega (arith, h.numbered)) (omega (arith, h.numbered, h.places, c.within)) sends numbered)
      ∙ stored_done s6 refl refl
    where
      sends : (j : ℕ) → j < length s.numbers → v.net (back_name c of (0 + j)) ≡ bit (some_returns c i.reload (0 + j) (drop j s.holds))
      sends j q = let z : 0 + j ≡ j = omega arith in subst (λ k. v.net (back_name c of k) ≡ bit (some_returns c i.reload k (drop j s.holds))) (sym z) (e.back j (omega (arith, q, h.numbered)))

      numbered : (j : ℕ) → j < length s.numbers → (v.net (lap_name c part (0 + j)) ≡ lap_word c (get_or s.numbers j 0)) × (v.net (slot_name c part (0 + j)) ≡ slot_word c (get_or s.numbers j 0))
      numbered j q =
          let z : 0 + j ≡ j = omega arith in
          let low : j ≤ c.commit = omega (arith, q, h.numbered) in
          subst (λ k. (v.net (lap_name c part k) ≡ lap_word c (get_or s.numbers j 0)) × (v.net (slot_name c part k) ≡ slot_word c (get_or s.numbers j 0))) (sym z) (number_lap_shown c part of nets i s v h e j low, number_slot_shown c part of nets i s v h e j low)
