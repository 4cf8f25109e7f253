-- The name of each net of a design.
use Rattle.std.specs.Prelude.{ℕ, zero, suc, ◌+◌, Bool, true, false, if◌then◌else◌, List, [], ◌∷◌, length}
use Rattle.std.proofs.Common.{get_or}
use Rattle.net_core.specs.declared.tree.Net.{Net}
use Rattle.net_core.specs.declared.tree.Net.TheVariants.{Port, Register, Memory, Wire}
use Rattle.net_core.specs.declared.design.Declared.{Declared}
use Rattle.net_core.specs.declared.design.Declared.TheVariants as declared
use Rattle.net_core.specs.Nets.{Netlist}

abbrev pub is_integer : Declared → Bool
is_integer declared.Integer = true
is_integer (declared.Register w) = false
is_integer (declared.Memory i w n) = false

abbrev pub is_register : Declared → Bool
is_register declared.Integer = false
is_register (declared.Register w) = true
is_register (declared.Memory i w n) = false

abbrev pub is_memory : Declared → Bool
is_memory declared.Integer = false
is_memory (declared.Register w) = false
is_memory (declared.Memory i w n) = true

-- the place of number k among those that pass
abbrev pub place_of : (Declared → Bool) → List Declared → ℕ → ℕ
place_of p [] k = k
place_of p (x ∷ xs) zero = if p x then 0 else suc (place_of p xs zero)
place_of p (x ∷ xs) (suc k) = suc (place_of p xs (if p x then k else suc k))

-- the place of a net's name: ports, then what is declared, then wires
abbrev pub name_place : Netlist → Net → ℕ
name_place d (Port k) = k
name_place d (Register k) = length d.ports + place_of is_register d.declared k
name_place d (Memory k) = length d.ports + place_of is_memory d.declared k
name_place d (Wire k) = length d.ports + length d.declared + k

abbrev pub name_of : Netlist → Net → List ℕ
name_of d n = get_or d.names (name_place d n) []
