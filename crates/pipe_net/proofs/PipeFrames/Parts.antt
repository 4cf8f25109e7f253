-- The parts of frames are among the parts of the pipeline, and what is seen of their registers.
use Rattle.std.specs.Prelude.{◌≡◌, ℕ, zero, suc, ◌+◌, ◌<◌, ◌≤◌, false, List, ◌∷◌, [], ◌++◌, length, map}
use Rattle.std.proofs.Common.{get_or, sym, ap, ◌∙◌, subst, arith, inl, inr}
use Rattle.std.proofs.lemmas.Bool.{cases_eq}
use Rattle.std.proofs.lemmas.List.{length-append, length-map, get_or-append-add, get_or_append_left, get_or-map}
use Rattle.block_core.specs.net_core.declared.tree.Word.{Word}
use Rattle.block_core.specs.net_core.Value.{word, bit, nothing}
use Rattle.block_core.specs.Blocks.{Whole, Among}
use Rattle.hazard_core.specs.cell_core.Rows.{numbers}
use Rattle.control_net.specs.declared.ring_net.shape.ControlShape.{ControlShape}
use Rattle.control_net.specs.Control.{State}
use Rattle.control_net.specs.Block.{lap_word, slot_word, stored_words}
use Rattle.pipe_net.specs.declared.parts.Part.{Part}
use Rattle.pipe_net.specs.declared.parts.Sizes.{Sizes}
use Rattle.pipe_net.specs.Parts as part
use Rattle.pipe_net.specs.Parts.{parts_of, part_count}

-- ---- the parts are there
among : (from n k : ℕ) → from ≤ k → k < from + n → Among (part.part k) (map part.part (numbers from n))
among from zero k h lt = absurd (omega arith)
among from (suc n) k h lt = elim (cases_eq k from) [
  | inl e ↦ inl (ap part.part e)
  | inr o ↦ inr (among (suc from) n k (omega arith) (omega arith))
]

module _ (z : Sizes) (d : Whole Part) (parts : d.parts ≡ parts_of z) where
  has : (k : ℕ) → k < part_count z → Among (part.part k) d.parts
  has k lt = subst (Among (part.part k)) (sym parts) (among 0 (part_count z) k (omega arith) (omega (arith, lt)))

  pub has_scatter : Among part.scatter d.parts
  has_scatter = has 0 (omega arith)

  pub has_returns : Among (part.returns z) d.parts
  has_returns = has _ (omega arith)

  pub has_sources : Among (part.sources z) d.parts
  has_sources = has _ (omega arith)

  pub has_control : Among (part.control z) d.parts
  has_control = has _ (omega arith)

  pub has_gather : Among (part.gather z) d.parts
  has_gather = has _ (omega arith)

  pub has_exit : Among (part.exit z) d.parts
  has_exit = has _ (omega arith)

-- ---- of the registers of control those that say which places hold packets
module _ (c : ControlShape) (s : State) (places : length s.holds ≡ suc c.stages) (k : ℕ) (within : k ≤ c.stages) where
  abbrev counters : List Word
  counters =
      lap_word c s.given ∷ slot_word c s.given ∷ lap_word c s.answered ∷ slot_word c s.answered
      ∷ lap_word c s.injected ∷ slot_word c s.injected ∷ lap_word c s.gathered ∷ slot_word c s.gathered
      ∷ word 32 s.passed
      ∷ []

  abbrev behind : List Word
  behind = map (lap_word c) s.numbers ++ map (slot_word c) s.numbers

  pub holds_stored : 9 + k < length (stored_words c s)
  holds_stored = let all = length-append (map bit s.holds) behind in let held = length-map s.holds bit in omega (arith, all, held, places, within)

  pub holds_at : get_or (stored_words c s) (9 + k) nothing ≡ bit (get_or s.holds k false)
  holds_at =
      let held = length-map s.holds bit in
      get_or-append-add counters (map bit s.holds ++ behind) k nothing
      ∙ get_or_append_left (map bit s.holds) behind nothing k (omega (arith, held, places, within))
      ∙ get_or-map bit s.holds k false nothing (omega (arith, places, within))
