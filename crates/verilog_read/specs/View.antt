-- How a reader keeps what a design has so far.
use Rattle.std.specs.Prelude.{◌≡◌, ℕ, suc, ◌+◌, ◌==◌, nat_lt, Bool, true, false, ◌||◌, ◌&&◌, Option, Some, None, List, [], ◌∷◌, ◌++◌, length, option_map}
use Rattle.std.specs.Borrow.{Bor}
use Rattle.std.specs.List.{list_all, list_any}
use Rattle.std.specs.Map.{lookup}
use Rattle.std.specs.Str.{bytes_eq}
use Rattle.std.proofs.Common.{get_or, not}
use Rattle.net_core.specs.declared.tree.Net.{Net}
use Rattle.net_core.specs.declared.tree.Net.TheVariants as net
use Rattle.net_core.specs.declared.design.Port.{Port}
use Rattle.net_core.specs.declared.design.Declared.{Declared}
use Rattle.net_core.specs.declared.design.Declared.TheVariants as declared
use Rattle.net_core.specs.Nets.{StatementTree, StatementTrees, Netlist}
use Rattle.net_core.specs.Ports.{input, port_list, port_names}
use Rattle.net_core.specs.Width.{is_assigned}
use Rattle.design_rules.specs.Formed.{same_port}
use Rattle.design_rules.specs.FormedScope.{leaves_register, leaves_memory, all_targets_pass}
use Rattle.verilog_lex.specs.Lexeme.{Lexeme, LKeyword}
use Rattle.verilog_lex.specs.declared.token.Keyword.TheVariants as keyword
use Rattle.verilog_expression.specs.declared.entry.Entry.{Entry}
use Rattle.verilog_expression.specs.declared.entry.Entry.TheVariants as entry
use Rattle.verilog_read.specs.declared.partial.Counts.{Counts}
use Rattle.verilog_read.specs.declared.targets.Targets.{Targets}
use Rattle.verilog_read.specs.declared.section.Section.{Section}
use Rattle.verilog_read.specs.declared.section.Section.TheVariants as section
use Rattle.verilog_read.specs.Entries.{entry_of, place_in}

-- ---- sections that come in order: names are numbered by how many stand before them
abbrev pub NoWires : Netlist → Type 0
NoWires d = d.wires ≡ []

pub record OnlyPorts (d : Netlist) : Type 0 where
  pub declared : d.declared ≡ []
  pub wires : d.wires ≡ []

-- no wire stands before what is declared
abbrev pub KeepsOrder : Section → Netlist → Type 0
KeepsOrder section.Declared d = NoWires d
KeepsOrder s d = Unit {0}

-- nothing of the design has the name
abbrev pub IsNew : Netlist → List ℕ → Type 0
IsNew d name = list_any (bytes_eq name) d.names ≡ false

-- ---- flags by number: none is up beyond the last
abbrev pub is_up : List Bool → ℕ → Bool
is_up flags k = get_or flags k false

-- what is up, and the flags of a test with it
abbrev pub Raises : List Bool → List Bool → (ℕ → Bool) → Type 0
Raises before after test = (k : ℕ) → is_up after k ≡ (is_up before k || test k)

-- what a statement sets is noted
pub record AddsTargets (before after : Targets) (a : StatementTree Net) : Type 0 where
  pub registers : Raises before.registers.items after.registers.items (λ k. not (leaves_register k a))
  pub memories : Raises before.memories.items after.memories.items (λ k. not (leaves_memory k a))

pub record AddsAllTargets (before after : Targets) (more : StatementTrees Net) : Type 0 where
  pub registers : Raises before.registers.items after.registers.items (λ r. not (all_targets_pass (λ k. not (k == r)) (λ k. true) more))
  pub memories : Raises before.memories.items after.memories.items (λ m. not (all_targets_pass (λ k. true) (λ k. not (k == m)) more))

-- ---- what is declared, after so many of each
abbrev pub declared_entry : Counts → Declared → Entry
declared_entry c declared.Integer = entry.Integer c.integers
declared_entry c (declared.Register w) = entry.Value (net.Register c.registers) w.width
declared_entry c (declared.Memory i w n) = entry.Words c.memories i w.width

abbrev pub with_one : Declared → Counts → Counts
with_one declared.Integer c = record c { integers = suc c.integers }
with_one (declared.Register w) c = record c { registers = suc c.registers }
with_one (declared.Memory i w n) c = record c { memories = suc c.memories }

-- how many of each, and so many before
abbrev pub counted : List Declared → Counts → Counts
counted [] c = c
counted (x ∷ xs) c = counted xs (with_one x c)

abbrev pub no_counts : Counts
no_counts = record { integers = 0; registers = 0; memories = 0 }

-- ---- what is known of a design
-- what a name of the table stands for
abbrev pub found_in : List (Bor (List ℕ) × Entry) → List ℕ → Option Entry
found_in entries name = lookup (λ key. bytes_eq name key.now) entries

-- a name and what it stands for, after others
pub record AddsEntry (before after : List (Bor (List ℕ) × Entry)) (name : List ℕ) (e : Entry) : Type 0 where
  pub key : Bor (List ℕ)
  pub spelled : key.now ≡ name
  pub behind : after ≡ before ++ (key, e) ∷ []

pub record IsKnown (d : Netlist) (table : List (Bor (List ℕ) × Entry)) (c : Counts) (t : Targets) (flags : List Bool) : Type 0 where
  -- each name is that of a port, of a declaration or of a wire
  pub names : length d.names ≡ length d.ports + length d.declared + length d.wires
  pub entries : (name : List ℕ) → found_in table name ≡ option_map (entry_of d) (place_in d.names name)
  pub counts : c ≡ counted d.declared no_counts
  pub registers : (k : ℕ) → is_up t.registers.items k ≡ not (list_all (leaves_register k) d.always)
  pub memories : (k : ℕ) → is_up t.memories.items k ≡ not (list_all (leaves_memory k) d.always)
  pub assigned : (k : ℕ) → is_up flags k ≡ is_assigned d.assigns k

-- ---- lexemes after a keyword
abbrev pub endmodule_at : List Lexeme → Option (List Lexeme)
endmodule_at (LKeyword keyword.Endmodule ∷ ts) = Some ts
endmodule_at ts = None

-- ---- ports
-- the port of a number is there, and as every design has it
abbrev pub is_listed : List (List ℕ) → List Port → ℕ → Bool
is_listed names ports k =
    nat_lt k (length ports)
    && (nat_lt k (length names)
    && (bytes_eq (get_or names k []) (get_or port_names k []) && same_port (get_or ports k (input 0)) (get_or port_list k (input 0))))
