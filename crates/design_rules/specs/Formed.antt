-- Which designs a text of the subset can spell, and the first fault of the others.
--
-- The items of a design are counted through its sections, as a text has them: what is declared, wires, assigns, always
-- blocks. So no item can stand after one of a later section, and that rule has no test here.
use Rattle.std.specs.Prelude.{◌≡◌, ℕ, suc, ◌+◌, ◌<◌, ◌==◌, nat_lt, nat_le, Bool, true, false, ◌&&◌, if◌then◌else◌, Option, Some, None, Result, Ok, Err, List, [], ◌∷◌, length, take}
use Rattle.std.specs.Str.{bytes_eq}
use Rattle.std.specs.List.{list_any, list_all}
use Rattle.std.specs.Cmp.Lexicographic.{pointwise}
use Rattle.std.proofs.Common.{get_or, not}
use Rattle.net_core.specs.declared.tree.Net.{Net}
use Rattle.net_core.specs.declared.design.Port as port
use Rattle.net_core.specs.declared.design.Declared.{Declared}
use Rattle.net_core.specs.declared.design.Declared.TheVariants as declared
use Rattle.design_rules.specs.declared.formed.NetError.{NetError}
use Rattle.design_rules.specs.declared.formed.Why.{Why}
use Rattle.design_rules.specs.declared.formed.Why.TheVariants.{Syntax, Unknown, Twice, Width, Ports}
use Rattle.net_core.specs.Nets.{StatementTree, WireTree, AssignTree, Netlist}
use Rattle.net_core.specs.Ports.{port_list, port_names}
use Rattle.net_core.specs.Width.{width_of, right_width, statement_typed, same, full_scope, word_fits, register_widths, memory_widths, output_width, is_assigned, all_assigned, scope_before}
use Rattle.design_rules.specs.FormedSyntax.{is_name, tree_spelled, right_spelled, statement_spelled, trees_pass}
use Rattle.design_rules.specs.FormedScope.{sorts, reads_known, right_known, targets_pass, leaves_register, leaves_memory, is_output, registers_of, memories_of, integer_known}

-- a rule: whether it is kept, and what is reported where it is not
abbrev pub Rule : Type 0
Rule = Bool × Why

-- the first rule that is not kept
abbrev pub first_broken : List Rule → Option Why
first_broken [] = None
first_broken (r ∷ rest) = if r.0 then first_broken rest else Some r.1

-- the name at a place stands at no place before
abbrev pub is_new_in : List (List ℕ) → ℕ → Bool
is_new_in names place = not (list_any (bytes_eq (get_or names place [])) (take place names))

-- the name at a place is a new one
abbrev pub is_new : Netlist → ℕ → Bool
is_new d place = is_new_in d.names place

-- flags that tell of each name whether it is a new one
pub record TellNew (names : List (List ℕ)) (flags : List Bool) : Type 0 where
  pub count : length flags ≡ length names
  pub each : (place : ℕ) → place < length names → get_or flags place false ≡ is_new_in names place

abbrev pub has_name : Netlist → ℕ → Bool
has_name d place = is_name (get_or d.names place [])

abbrev pub declared_fits : Declared → Bool
declared_fits declared.Integer = true
declared_fits (declared.Register w) = word_fits w
declared_fits (declared.Memory i w n) = (nat_le 1 i && nat_le i 16) && word_fits w

abbrev pub declared_place : Netlist → ℕ → ℕ
declared_place d k = length d.ports + k

abbrev pub wire_place : Netlist → ℕ → ℕ
wire_place d k = length d.ports + length d.declared + k

-- Each item by its number in its section. Its rules stand in the order of their codes.
abbrev pub declared_rules : Netlist → ℕ → Declared → List Rule
declared_rules d k x =
    (has_name d (declared_place d k), Syntax)
    ∷ (integer_known (take k d.declared) x, Unknown)
    ∷ (is_new d (declared_place d k), Twice)
    ∷ (declared_fits x, Width)
    ∷ []

-- both sides of a wire have one width
abbrev pub wire_fits : Netlist → ℕ → WireTree → Bool
wire_fits d k w = same w.width (right_width (scope_before d k) w.right) && nat_le w.width 64

-- A wire may read the wires before it.
abbrev pub wire_rules : Netlist → ℕ → WireTree → List Rule
wire_rules d k w =
    (has_name d (wire_place d k) && right_spelled w.right, Syntax)
    ∷ (right_known (sorts d k) w.right, Unknown)
    ∷ (is_new d (wire_place d k), Twice)
    ∷ (wire_fits d k w, Width)
    ∷ []

abbrev pub assign_fits : Netlist → AssignTree → Bool
assign_fits d a = same (output_width (get_or d.ports a.port (record { output = false; width = 0 }))) (width_of (full_scope d) a.value)

-- An output is assigned once.
abbrev pub assign_rules : Netlist → ℕ → AssignTree → List Rule
assign_rules d k a =
    (tree_spelled a.value, Syntax)
    ∷ (is_output d.ports a.port && reads_known (sorts d (length d.wires)) a.value, Unknown)
    ∷ (not (is_assigned (take k d.assigns) a.port), Twice)
    ∷ (assign_fits d a, Width)
    ∷ []

-- what a block sets is set in no block before it
abbrev pub targets_free : List (StatementTree Net) → StatementTree Net → Bool
targets_free before a = targets_pass (λ r. list_all (leaves_register r) before) (λ m. list_all (leaves_memory m) before) a

-- what a block sets is there
abbrev pub targets_known : Netlist → StatementTree Net → Bool
targets_known d a = targets_pass (λ r. nat_lt r (registers_of d)) (λ m. nat_lt m (memories_of d)) a

-- what a block reads and sets is there
abbrev pub block_known : Netlist → StatementTree Net → Bool
block_known d a = targets_known d a && trees_pass (reads_known (sorts d (length d.wires))) a

-- conditions have width 1, both sides of each assignment one width
abbrev pub block_fits : Netlist → StatementTree Net → Bool
block_fits d a = statement_typed (full_scope d) (register_widths d.declared) (memory_widths d.declared) a

abbrev pub always_rules : Netlist → ℕ → StatementTree Net → List Rule
always_rules d k a =
    (statement_spelled a, Syntax)
    ∷ (block_known d a, Unknown)
    ∷ (targets_free (take k d.always) a, Twice)
    ∷ (block_fits d a, Width)
    ∷ []

abbrev pub same_bool : Bool → Bool → Bool
same_bool a b = if a then b else not b

abbrev pub same_port : port.Port → port.Port → Bool
same_port a b = same_bool a.output b.output && a.width == b.width

abbrev pub ports_match : Netlist → Bool
ports_match d = pointwise same_port d.ports port_list

abbrev pub port_names_match : Netlist → Bool
port_names_match d = pointwise bytes_eq (take (length port_names) d.names) port_names

-- What is asked after the items: each name is that of a port or an item, the ports are those that every design has,
-- and each output is assigned.
abbrev pub last_rules : Netlist → List Rule
last_rules d =
    (length d.names == length d.ports + length d.declared + length d.wires, Syntax)
    ∷ (ports_match d && port_names_match d, Ports)
    ∷ (all_assigned d.assigns 0 d.ports, Ports)
    ∷ []

-- the fault of an item that breaks a rule
abbrev pub fault_at : ℕ → Option Why → Option NetError
fault_at item None = None
fault_at item (Some why) = Some (record { item = item; why = why })

abbrev pub or_else : Option NetError → Option NetError → Option NetError
or_else None later = later
or_else (Some fault) later = Some fault

-- the first fault of a section whose items are counted from a number on
abbrev pub section_fault : {A : Type 0} → (ℕ → A → List Rule) → ℕ → ℕ → List A → Option NetError
section_fault rules start k [] = None
section_fault rules start k (x ∷ xs) = or_else (fault_at (start + k) (first_broken (rules k x))) (section_fault rules start (suc k) xs)

abbrev pub wires_start : Netlist → ℕ
wires_start d = length d.declared

abbrev pub assigns_start : Netlist → ℕ
assigns_start d = wires_start d + length d.wires

abbrev pub always_start : Netlist → ℕ
always_start d = assigns_start d + length d.assigns

abbrev pub items_of : Netlist → ℕ
items_of d = always_start d + length d.always

-- the first item that breaks a rule, and the first rule that it breaks
unfoldable pub first_fault : Netlist → Option NetError
first_fault d =
    or_else (section_fault (declared_rules d) 0 0 d.declared)
    (or_else (section_fault (wire_rules d) (wires_start d) 0 d.wires)
    (or_else (section_fault (assign_rules d) (assigns_start d) 0 d.assigns)
    (or_else (section_fault (always_rules d) (always_start d) 0 d.always)
    (fault_at (items_of d) (first_broken (last_rules d))))))

-- A text of the subset spells the design.
abbrev pub IsWellFormed : Netlist → Type 0
IsWellFormed d = first_fault d ≡ None

-- nothing, or a fault
abbrev pub result_of : Option NetError → Result (Unit {0}) NetError
result_of None = Ok tt
result_of (Some fault) = Err fault
