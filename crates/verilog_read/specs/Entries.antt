-- What a name stands for after what a design has so far: its ports, what is declared, its wires.
use Rattle.std.specs.Prelude.{ℕ, zero, suc, ◌-◌, nat_lt, true, false, if◌then◌else◌, Option, Some, List, [], ◌∷◌, length, codes, option_map, position}
use Rattle.std.specs.Str.{bytes_eq}
use Rattle.std.specs.List.{list_all}
use Rattle.std.proofs.Common.{get_or}
use Rattle.net_core.specs.declared.tree.Net.TheVariants as net
use Rattle.net_core.specs.declared.design.Port.{Port}
use Rattle.net_core.specs.declared.design.Declared.{Declared}
use Rattle.net_core.specs.declared.design.Declared.TheVariants as declared
use Rattle.net_core.specs.Nets.{Netlist}
use Rattle.net_core.specs.Width.{wire_widths}
use Rattle.design_rules.specs.FormedScope.{leaves_register, leaves_memory}
use Rattle.verilog_expression.specs.declared.entry.Entry.{Entry}
use Rattle.verilog_expression.specs.declared.entry.Entry.TheVariants as entry
use Rattle.verilog_expression.specs.Expressions.{Resolve}
use Rattle.verilog_expression.specs.Statements.{Free}

abbrev pub port_entry : ℕ → Port → Entry
port_entry k p = if p.output then entry.Output k p.width else entry.Value (net.Port k) p.width

-- What stands at a place after the ports: integers, registers and memories by their number among their like, of which so many
-- stand before, and wires, which have these widths, after all that is declared.
abbrev pub behind_ports : List ℕ → List Declared → ℕ → ℕ → ℕ → ℕ → Entry
behind_ports widths [] place integers registers memories = entry.Value (net.Wire place) (get_or widths place 0)
behind_ports widths (declared.Integer ∷ xs) zero integers registers memories = entry.Integer integers
behind_ports widths (declared.Register w ∷ xs) zero integers registers memories = entry.Value (net.Register registers) w.width
behind_ports widths (declared.Memory i w n ∷ xs) zero integers registers memories = entry.Words memories i w.width
behind_ports widths (declared.Integer ∷ xs) (suc place) integers registers memories = behind_ports widths xs place (suc integers) registers memories
behind_ports widths (declared.Register w ∷ xs) (suc place) integers registers memories = behind_ports widths xs place integers (suc registers) memories
behind_ports widths (declared.Memory i w n ∷ xs) (suc place) integers registers memories = behind_ports widths xs place integers registers (suc memories)

-- what the name at a place stands for
abbrev pub entry_of : Netlist → ℕ → Entry
entry_of d place =
    if nat_lt place (length d.ports) then port_entry place (get_or d.ports place (record { output = false; width = 0 }))
    else behind_ports (wire_widths d.wires) d.declared (place - length d.ports) 0 0 0

-- the first place of a name
abbrev pub place_in : List (List ℕ) → List ℕ → Option ℕ
place_in names name = position (bytes_eq name) names

-- `clk` is the clock, whatever is declared
unfoldable pub entry_in : Netlist → Resolve
entry_in d name = if bytes_eq name (codes "clk") then Some entry.Clock else option_map (entry_of d) (place_in d.names name)

-- a register or a memory that no always block sets so far
unfoldable pub free_in : Netlist → Free
free_in d (net.Port k) = true
free_in d (net.Register k) = list_all (leaves_register k) d.always
free_in d (net.Memory k) = list_all (leaves_memory k) d.always
free_in d (net.Wire k) = true
