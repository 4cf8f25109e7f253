-- Words that fit a known number of bits.
use Rattle.std.specs.Prelude.{◌≡◌, ◌==◌, ℕ, ◌<◌, ◌^◌, if◌then◌else◌, ◌||◌, List}
use Rattle.std.proofs.Common.{get_or}
use Rattle.net_core.specs.declared.tree.Word.{Word}
use Rattle.net_core.specs.declared.tree.Net.{Net}
use Rattle.net_core.specs.declared.tree.Net.TheVariants.{Port, Register, Memory, Wire}
use Rattle.net_core.specs.declared.ports.TheConstants.{IN_VALID, IN_LAST, OUT_READY, HOST_WRITE}
use Rattle.net_core.specs.Value.{Env}
use Rattle.net_rules.specs.declared.net_sizes.sizes.Sizes.{Sizes}

-- a word of so many bits whose number fits them; of 0 bits nothing is said
abbrev pub Fits : ℕ → Word → Type 0
Fits bits w = 0 < bits → (w.width ≡ bits) × (w.value < 2 ^ bits)

-- how many bits registers and wires have, by their numbers: 0 where it is not known
pub record NetSizes : Type 0 where
  pub registers : List ℕ
  pub wires : List ℕ

abbrev pub sizes_of : Sizes → NetSizes
sizes_of s = record { registers = s.registers.items; wires = s.wires.items }

-- the ports that are single bits; any number may stand at another one
abbrev pub port_size : ℕ → ℕ
port_size i = if i == IN_VALID || i == IN_LAST || i == OUT_READY || i == HOST_WRITE then 1 else 0

abbrev pub size : NetSizes → Net → ℕ
size s (Port i) = port_size i
size s (Register i) = get_or s.registers i 0
size s (Memory i) = 0
size s (Wire i) = get_or s.wires i 0

-- each net holds a word of its size
abbrev pub AreFitting : NetSizes → Env Net → Type 0
AreFitting s v = (n : Net) → Fits (size s n) (v.net n)
