-- The values of control's nets in a clock.
use Rattle.std.specs.Prelude.{◌≡◌, ℕ, suc, ◌+◌, ◌<◌, ◌≤◌, nat_lt, nat_le, Bool, false, ◌&&◌, cond, List, [], ◌∷◌, ◌++◌, length, map, replicate, drop}
use Rattle.std.proofs.Common.{get_or, not, sym, ap, ◌∙◌, arith}
use Rattle.std.proofs.lemmas.Bool.{leb-true, leb-false}
use Rattle.std.proofs.lemmas.List.{length-append, length-map, length-replicate, get_or-append-add, get_or_append_left, get_or-map}
use Rattle.net_core.specs.declared.tree.Word.{Word}
use Rattle.net_core.specs.declared.tree.Op.{Op}
use Rattle.net_core.specs.declared.tree.Op.TheVariants.{And, Or, Equal, NotEqual}
use Rattle.net_core.specs.declared.tree.UnaryOp.TheVariants.{Not}
use Rattle.net_core.specs.Nets.{TUnary}
use Rattle.net_core.specs.Value.{word, bit, nothing, apply, apply_unary, Env, value}
use Rattle.net_core.proofs.BitLaws.{and_bits, or_bits, not_bit}
use Rattle.block_core.specs.declared.name.Name.{Name}
use Rattle.block_core.specs.declared.name.Name.TheVariants as name
use Rattle.block_core.specs.Parts.{Solve}
use Rattle.block_core.proofs.list_laws_laws.BoolLaws.{by_test}
use Rattle.control_net.specs.declared.ring_net.shape.ControlShape.{ControlShape}
use Rattle.control_net.specs.declared.ring_net.names.Counter.{Counter}
use Rattle.control_net.specs.declared.ring_net.names.Counter.TheVariants.{Given, Answered, Injected, Gathered}
use Rattle.control_net.specs.declared.ring_net.names.Register.TheVariants.{Lap, Slot, Passed, Holds}
use Rattle.control_net.specs.RingNet.Names.{register_name}
use Rattle.control_net.specs.RingNet.Ring.{slot, lap, IsNear}
use Rattle.control_net.specs.RingNet.Trees.{register, compared, both}
use Rattle.control_net.proofs.RingNet.Values.{differ_value, room_value}
use Rattle.control_net.specs.declared.names.Wire.{Wire}
use Rattle.control_net.specs.declared.names.Wire.TheVariants.{Ready, Over, Ends, Advances, Injects, Exits, Passes, Shown, Taken, Gone}
use Rattle.control_net.specs.declared.names.ControlNets.{ControlNets}
use Rattle.control_net.specs.Names.{lap_number, slot_number, lap_name, slot_name, wire_name}
use Rattle.control_net.specs.Control.{State, Signals, some_returns, count, back, rest, ready, over, ends, advances, injects, exits, passes, shown, taken, gone, told, IsSound}
use Rattle.control_net.specs.Block.{lap_word, slot_word, stored_words, Sees, Shows}
use Rattle.control_net.specs.Trees.{zeros, back_read, kept, enters, control_wires, control_tree}
use Rattle.control_net.proofs.Flushing.{kept_at, kept_past}

pub zeros_length : (c : ControlShape) → length (zeros c) ≡ 12 + c.stages + c.commit + c.commit
zeros_length c =
    let places = replicate (suc c.stages) (word 1 0) in
    let laps = replicate (suc c.commit) (word 1 0) in
    let slots = replicate (suc c.commit) (word c.slot_bits 0) in
    let all : length (places ++ (laps ++ slots)) ≡ length places + length (laps ++ slots) = length-append places (laps ++ slots) in
    let numbers : length (laps ++ slots) ≡ length laps + length slots = length-append laps slots in
    let a : length places ≡ suc c.stages = length-replicate (suc c.stages) (word 1 0) in
    let b : length laps ≡ suc c.commit = length-replicate (suc c.commit) (word 1 0) in
    let d : length slots ≡ suc c.commit = length-replicate (suc c.commit) (word c.slot_bits 0) in
    omega (arith, all, numbers, a, b, d)

-- the registers that are of no place
abbrev pub counters : ControlShape → State → List Word
counters c s =
    lap_word c s.given ∷ slot_word c s.given ∷ lap_word c s.answered ∷ slot_word c s.answered
    ∷ lap_word c s.injected ∷ slot_word c s.injected ∷ lap_word c s.gathered ∷ slot_word c s.gathered
    ∷ word 32 s.passed
    ∷ []

pub bit_at : (hs : List Bool) (k : ℕ) → k < length hs → get_or (map bit hs) k nothing ≡ bit (get_or hs k false)
bit_at hs k l = get_or-map bit hs k false nothing l

module _ {P : Type 0} (c : ControlShape) (part of : P) (nets : ControlNets P) (i : Signals) (s : State) (v : Env (Name P)) (h : IsSound c i.partial s) (e : Sees c part of nets (control_tree c part of nets) i s v) where
  abbrev places : List Word
  places = map bit s.holds

  abbrev laps : List Word
  laps = map (lap_word c) s.numbers

  abbrev slots : List Word
  slots = map (slot_word c) s.numbers

  places_length : length places ≡ suc c.stages
  places_length = length-map s.holds bit ∙ h.places

  laps_length : length laps ≡ suc c.commit
  laps_length = length-map s.numbers (lap_word c) ∙ h.numbered

  at : (k : ℕ) → k < 12 + c.stages + c.commit + c.commit → v.net (name.Register part k) ≡ get_or (stored_words c s) k nothing
  at k l = e.register k (omega (arith, zeros_length c, l))

  pub slot_shown : (k : Counter) → v.net (register_name part (Slot k)) ≡ slot_word c (count k s)
  slot_shown Given = at 1 (omega arith)
  slot_shown Answered = at 3 (omega arith)
  slot_shown Injected = at 5 (omega arith)
  slot_shown Gathered = at 7 (omega arith)

  pub lap_shown : (k : Counter) → v.net (register_name part (Lap k)) ≡ lap_word c (count k s)
  lap_shown Given = at 0 (omega arith)
  lap_shown Answered = at 2 (omega arith)
  lap_shown Injected = at 4 (omega arith)
  lap_shown Gathered = at 6 (omega arith)

  pub passed_shown : v.net (register_name part Passed) ≡ word 32 s.passed
  passed_shown = at 8 (omega arith)

  pub holds_shown : (k : ℕ) → k ≤ c.stages → v.net (register_name part (Holds k)) ≡ bit (get_or s.holds k false)
  holds_shown k l =
      at (9 + k) (omega (arith, l))
      ∙ get_or-append-add (counters c s) (places ++ (laps ++ slots)) k nothing
      ∙ get_or_append_left places (laps ++ slots) nothing k (omega (arith, l, places_length))
      ∙ bit_at s.holds k (omega (arith, l, h.places))

  pub number_lap_shown : (k : ℕ) → k ≤ c.commit → v.net (lap_name c part k) ≡ lap_word c (get_or s.numbers k 0)
  number_lap_shown k l =
      let n : lap_number c k ≡ 9 + (length places + k) = omega (arith, places_length) in
      at (lap_number c k) (omega (arith, l))
      ∙ ap (λ n. get_or (stored_words c s) n nothing) n
      ∙ get_or-append-add (counters c s) (places ++ (laps ++ slots)) (length places + k) nothing
      ∙ get_or-append-add places (laps ++ slots) k nothing
      ∙ get_or_append_left laps slots nothing k (omega (arith, l, laps_length))
      ∙ get_or-map (lap_word c) s.numbers k 0 nothing (omega (arith, l, h.numbered))

  pub number_slot_shown : (k : ℕ) → k ≤ c.commit → v.net (slot_name c part k) ≡ slot_word c (get_or s.numbers k 0)
  number_slot_shown k l =
      let n : slot_number c k ≡ 9 + (length places + (length laps + k)) = omega (arith, places_length, laps_length) in
      at (slot_number c k) (omega (arith, l))
      ∙ ap (λ n. get_or (stored_words c s) n nothing) n
      ∙ get_or-append-add (counters c s) (places ++ (laps ++ slots)) (length places + (length laps + k)) nothing
      ∙ get_or-append-add places (laps ++ slots) (length laps + k) nothing
      ∙ get_or-append-add laps slots k nothing
      ∙ get_or-map (slot_word c) s.numbers k 0 nothing (omega (arith, l, h.numbered))

  compared_value : (op : Op) (a b : Counter) → value v (compared part op a b)
      ≡ apply Or (apply NotEqual (word c.slot_bits (slot c.slots (count a s))) (word c.slot_bits (slot c.slots (count b s)))) (apply op (bit (lap c.slots (count a s))) (bit (lap c.slots (count b s))))
  compared_value op a b = λ j. apply Or (apply NotEqual (slot_shown a j) (slot_shown b j)) (apply op (lap_shown a j) (lap_shown b j))

  not_back : (k : ℕ) → k ≤ c.commit → value v (TUnary Not (back_read c of k)) ≡ bit (not (back c i s k))
  not_back k l = (λ j. apply_unary Not (e.back k l j)) ∙ not_bit (back c i s k)

  pub kept_shown : (k : ℕ) → k ≤ c.stages → value v (kept c part of k) ≡ bit (get_or (rest c i s) k false)
  kept_shown k l = by_test (λ b. value v (cond b (both (register part (Holds k)) (TUnary Not (back_read c of k))) (register part (Holds k))) ≡ bit (get_or (rest c i s) k false)) (nat_le k c.commit)
      (λ t.
      let low = leb-true k c.commit t in
      let z : k ≡ 0 + k = omega arith in
      (λ j. apply And (holds_shown k l j) (not_back k low j))
      ∙ and_bits (get_or s.holds k false) (not (back c i s k))
      ∙ ap bit (ap (λ n. get_or s.holds k false && not (some_returns c i.reload n (drop k s.holds))) z ∙ sym (kept_at c i.reload s.holds k 0)))
      (λ f. holds_shown k l ∙ ap bit (sym (kept_past c i.reload s.holds k (leb-false k c.commit f))))

  solved : Solve v part 0 (control_wires c part of nets)
  solved = e.wires

  ready_shown : v.net (wire_name part Ready) ≡ bit (ready c i s)
  ready_shown =
      let near : IsNear c.slots s.given s.gathered = record { some = c.some; after = omega (arith, h.given, h.answered, h.injected); most = h.gathered } in
      solved.0 ∙ (λ j. apply Or (e.partial j) ((compared_value Equal Gathered Given ∙ room_value c.slots c.slot_bits s.given s.gathered near) j)) ∙ or_bits i.partial (nat_lt s.gathered (s.given + c.slots))

  over_shown : v.net (wire_name part Over) ≡ bit (over c i s)
  over_shown = solved.1.0 ∙ (λ j. apply And (e.in_valid j) (ready_shown j)) ∙ and_bits i.in_valid (ready c i s)

  ends_shown : v.net (wire_name part Ends) ≡ bit (ends c i s)
  ends_shown = solved.1.1.0 ∙ (λ j. apply And (over_shown j) (e.in_last j)) ∙ and_bits (over c i s) i.in_last

  advances_shown : v.net (wire_name part Advances) ≡ bit (advances i)
  advances_shown = solved.1.1.1.0 ∙ (λ j. apply_unary Not (e.stalls j)) ∙ not_bit i.stalls

  enters_shown : value v (enters c part of) ≡ bit (advances i && not (back c i s 0))
  enters_shown = (λ j. apply And (advances_shown j) (not_back 0 (omega arith) j)) ∙ and_bits (advances i) (not (back c i s 0))

  injects_shown : v.net (wire_name part Injects) ≡ bit (injects c i s)
  injects_shown =
      let near : IsNear c.slots s.injected s.gathered = record { some = c.some; after = h.injected; most = omega (arith, h.given, h.answered, h.injected, h.gathered) } in
      solved.1.1.1.1.0 ∙ (λ j. apply And (enters_shown j) ((compared_value NotEqual Gathered Injected ∙ differ_value c.slots c.slot_bits s.injected s.gathered near) j)) ∙ and_bits (advances i && not (back c i s 0)) (nat_lt s.injected s.gathered)

  exits_shown : v.net (wire_name part Exits) ≡ bit (exits c i s)
  exits_shown = solved.1.1.1.1.1.0 ∙ (λ j. apply And (advances_shown j) (kept_shown c.stages (omega arith) j)) ∙ and_bits (advances i) (get_or (rest c i s) c.stages false)

  passes_shown : v.net (wire_name part Passes) ≡ bit (passes c i s)
  passes_shown = solved.1.1.1.1.1.1.0 ∙ (λ j. apply And (advances_shown j) (kept_shown c.commit c.within j)) ∙ and_bits (advances i) (get_or (rest c i s) c.commit false)

  shown_shown : v.net (wire_name part Shown) ≡ bit (shown s)
  shown_shown =
      let near : IsNear c.slots s.given s.answered = record { some = c.some; after = h.given; most = omega (arith, h.given, h.answered, h.injected, h.gathered) } in
      solved.1.1.1.1.1.1.1.0 ∙ compared_value NotEqual Answered Given ∙ differ_value c.slots c.slot_bits s.given s.answered near

  taken_shown : v.net (wire_name part Taken) ≡ bit (taken i s)
  taken_shown = solved.1.1.1.1.1.1.1.1.0 ∙ (λ j. apply And (shown_shown j) (e.out_ready j)) ∙ and_bits (shown s) i.out_ready

  gone_shown : v.net (wire_name part Gone) ≡ bit (gone i s)
  gone_shown = solved.1.1.1.1.1.1.1.1.1.0 ∙ (λ j. apply And (taken_shown j) (e.last j)) ∙ and_bits (taken i s) i.last

  pub wire_shown : (w : Wire) → v.net (wire_name part w) ≡ bit (told c i s w)
  wire_shown Ready = ready_shown
  wire_shown Over = over_shown
  wire_shown Ends = ends_shown
  wire_shown Advances = advances_shown
  wire_shown Injects = injects_shown
  wire_shown Exits = exits_shown
  wire_shown Passes = passes_shown
  wire_shown Shown = shown_shown
  wire_shown Taken = taken_shown
  wire_shown Gone = gone_shown

  pub all_shown : Shows c part i s v
  all_shown = record { slot = slot_shown; number = number_slot_shown; holds = holds_shown; passed = passed_shown; wire = wire_shown }
