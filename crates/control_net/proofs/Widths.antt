-- The widths of control's registers.
use Rattle.std.specs.Prelude.{◌≡◌, ℕ, zero, suc, ◌+◌, ◌≤◌, ◌&&◌, ◌++◌, true, List, [], ◌∷◌, length, map, replicate}
use Rattle.std.proofs.Common.{get_or, refl, ap, ◌∙◌, arith}
use Rattle.std.proofs.lemmas.Bool.{and_from}
use Rattle.std.proofs.lemmas.List.{map-append, length-replicate, get_or-replicate, get_or-append-add, get_or_append_left}
use Rattle.net_core.specs.declared.tree.Word.{Word}
use Rattle.net_core.specs.Value.{word}
use Rattle.net_core.specs.Width.{word_fits}
use Rattle.block_core.specs.Formed.{word_width, words_fit}
use Rattle.control_net.specs.declared.ring_net.shape.ControlShape.{ControlShape}
use Rattle.control_net.specs.declared.ring_net.names.Counter.{Counter}
use Rattle.control_net.specs.declared.ring_net.names.Counter.TheVariants.{Given, Answered, Injected, Gathered}
use Rattle.control_net.specs.declared.ring_net.names.Register.TheVariants.{Lap, Slot, Holds}
use Rattle.control_net.specs.RingNet.Names.{register_number}
use Rattle.control_net.proofs.RingNet.Formed.{width_replicate, zero_fits}
use Rattle.control_net.specs.declared.names.Wire.{Wire}
use Rattle.control_net.specs.declared.names.Wire.TheVariants.{Ready, Over, Ends, Advances, Injects, Exits, Passes, Shown, Taken, Gone}
use Rattle.control_net.specs.Names.{lap_number, slot_number, wire_number}
use Rattle.control_net.specs.Block.{register_widths}
use Rattle.control_net.specs.Trees.{zeros}

module _ (c : ControlShape) where
  pub registers_are : map word_width (zeros c) ≡ register_widths c
  registers_are =
      let places = replicate (suc c.stages) (word 1 0) in
      let laps = replicate (suc c.commit) (word 1 0) in
      let slots = replicate (suc c.commit) (word c.slot_bits 0) in
      ap (λ ws. 1 ∷ c.slot_bits ∷ 1 ∷ c.slot_bits ∷ 1 ∷ c.slot_bits ∷ 1 ∷ c.slot_bits ∷ 32 ∷ ws)
      (map-append word_width places (laps ++ slots) ∙ ap (λ ws. map word_width places ++ ws) (map-append word_width laps slots)
      ∙ (λ j. width_replicate (suc c.stages) (word 1 0) j ++ (width_replicate (suc c.commit) (word 1 0) j ++ width_replicate (suc c.commit) (word c.slot_bits 0) j)))

  pub lap_width : (k : Counter) → get_or (register_widths c) (register_number (Lap k)) 0 ≡ 1
  lap_width Given = refl
  lap_width Answered = refl
  lap_width Injected = refl
  lap_width Gathered = refl

  pub slot_width : (k : Counter) → get_or (register_widths c) (register_number (Slot k)) 0 ≡ c.slot_bits
  slot_width Given = refl
  slot_width Answered = refl
  slot_width Injected = refl
  slot_width Gathered = refl

  abbrev counters : List ℕ
  counters = 1 ∷ c.slot_bits ∷ 1 ∷ c.slot_bits ∷ 1 ∷ c.slot_bits ∷ 1 ∷ c.slot_bits ∷ 32 ∷ []

  abbrev places : List ℕ
  places = replicate (suc c.stages) 1

  abbrev laps : List ℕ
  laps = replicate (suc c.commit) 1

  abbrev slots : List ℕ
  slots = replicate (suc c.commit) c.slot_bits

  pub holds_width : (k : ℕ) → k ≤ c.stages → get_or (register_widths c) (register_number (Holds k)) 0 ≡ 1
  holds_width k l =
      get_or-append-add counters (places ++ (laps ++ slots)) k 0 ∙ get_or_append_left places (laps ++ slots) 0 k (omega (arith, l, length-replicate {A = ℕ} (suc c.stages) 1)) ∙ get_or-replicate (suc c.stages) k 1 0 (omega arith)

  pub number_lap_width : (k : ℕ) → k ≤ c.commit → get_or (register_widths c) (lap_number c k) 0 ≡ 1
  number_lap_width k l =
      let n : lap_number c k ≡ 9 + (length places + k) = omega (arith, length-replicate {A = ℕ} (suc c.stages) 1) in
      ap (λ n. get_or (register_widths c) n 0) n
      ∙ get_or-append-add counters (places ++ (laps ++ slots)) (length places + k) 0
      ∙ get_or-append-add places (laps ++ slots) k 0
      ∙ get_or_append_left laps slots 0 k (omega (arith, l, length-replicate {A = ℕ} (suc c.commit) 1))
      ∙ get_or-replicate (suc c.commit) k 1 0 (omega arith)

  pub number_slot_width : (k : ℕ) → k ≤ c.commit → get_or (register_widths c) (slot_number c k) 0 ≡ c.slot_bits
  number_slot_width k l =
      let n : slot_number c k ≡ 9 + (length places + (length laps + k)) = omega (arith, length-replicate {A = ℕ} (suc c.stages) 1, length-replicate {A = ℕ} (suc c.commit) 1) in
      ap (λ n. get_or (register_widths c) n 0) n
      ∙ get_or-append-add counters (places ++ (laps ++ slots)) (length places + (length laps + k)) 0
      ∙ get_or-append-add places (laps ++ slots) (length laps + k) 0
      ∙ get_or-append-add laps slots k 0
      ∙ get_or-replicate (suc c.commit) k c.slot_bits 0 (omega arith)

-- ---- first values fit
fit_before : (n : ℕ) (w : Word) (ws : List Word) → word_fits w ≡ true → words_fit ws ≡ true → words_fit (replicate n w ++ ws) ≡ true
fit_before zero w ws h k = k
fit_before (suc n) w ws h k = and_from (word_fits w) (words_fit (replicate n w ++ ws)) h (fit_before n w ws h k)

all_fit : (n : ℕ) (w : Word) → word_fits w ≡ true → words_fit (replicate n w) ≡ true
all_fit zero w h = refl
all_fit (suc n) w h = and_from (word_fits w) (words_fit (replicate n w)) h (all_fit n w h)

pub zeros_fit : (c : ControlShape) → words_fit (zeros c) ≡ true
zeros_fit c =
    let slot = zero_fits c.slot_bits c.wide (omega (arith, c.narrow)) in
    let slots = all_fit (suc c.commit) (word c.slot_bits 0) slot in
    let laps = fit_before (suc c.commit) (word 1 0) (replicate (suc c.commit) (word c.slot_bits 0)) refl slots in
    let places = fit_before (suc c.stages) (word 1 0) (replicate (suc c.commit) (word 1 0) ++ replicate (suc c.commit) (word c.slot_bits 0)) refl laps in
    λ j. slot j && (slot j && (slot j && (slot j && places j)))

-- ---- the wires have one bit each
abbrev pub bits : List ℕ
bits = replicate 10 1

pub wire_width : (w : Wire) → get_or bits (wire_number w) 0 ≡ 1
wire_width Ready = refl
wire_width Over = refl
wire_width Ends = refl
wire_width Advances = refl
wire_width Injects = refl
wire_width Exits = refl
wire_width Passes = refl
wire_width Shown = refl
wire_width Taken = refl
wire_width Gone = refl
