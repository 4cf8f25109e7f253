-- Ports and what is stored that fit.
use Rattle.std.specs.Prelude.{◌≡◌, ℕ, ◌^◌, ◌<◌, List, [], length}
use Rattle.std.proofs.Common.{get_or}
use Rattle.net_core.specs.declared.tree.Word.{Word}
use Rattle.net_core.specs.declared.design.Declared.{Declared}
use Rattle.net_core.specs.Value.{nothing}
use Rattle.net_core.specs.Width.{register_widths, memory_widths, port_width}
use Rattle.net_core.specs.Clock.{Stored}
use Rattle.net_core.specs.Ports.{port_list}
use Rattle.net_core.specs.Suits.{IsOfWidth}

-- the words at the ports
pub record ArePorts (words : List Word) : Type 0 where
  pub fit : (k : ℕ) → 0 < port_width port_list k → IsOfWidth (port_width port_list k) (get_or words k nothing)

-- the words of a memory whose index and words have these widths
pub record IsMemory (widths : ℕ × ℕ) (words : List Word) : Type 0 where
  pub count : length words ≡ 2 ^ widths.0
  pub fit : (a : ℕ) → a < 2 ^ widths.0 → IsOfWidth widths.1 (get_or words a nothing)

-- what is stored has the declared shape
pub record IsStored (ds : List Declared) (s : Stored) : Type 0 where
  pub registers : length s.registers ≡ length (register_widths ds)
  pub register : (r : ℕ) → r < length (register_widths ds) → IsOfWidth (get_or (register_widths ds) r 0) (get_or s.registers r nothing)
  pub memories : length s.memories ≡ length (memory_widths ds)
  pub memory : (m : ℕ) → m < length (memory_widths ds) → IsMemory (get_or (memory_widths ds) m (0, 0)) (get_or s.memories m [])
