-- What the names of a design stand for, place by place: ports, what is declared, wires.
use Rattle.std.proofs.Common.{◌≡◌, ℕ, zero, suc, ◌+◌, ◌-◌, ◌<◌, true, false, List, [], ◌∷◌, length, get_or, nat_lt, refl, sym, ap, ◌∙◌, arith}
use Rattle.std.specs.Prelude.{take, count_by}
use Rattle.std.proofs.lemmas.Bool.{cond-true, cond-false, lt-ltb, le-ltb}
use Rattle.std.proofs.lemmas.List.{get_or_default}
use Rattle.net_core.specs.declared.tree.Net.TheVariants as net
use Rattle.net_core.specs.declared.design.Port.{Port}
use Rattle.net_core.specs.declared.design.Declared.{Declared}
use Rattle.net_core.specs.declared.design.Declared.TheVariants as declared
use Rattle.net_core.specs.Nets.{Netlist}
use Rattle.net_core.specs.Names.{is_integer, is_register, is_memory, place_of, name_place}
use Rattle.net_core.specs.Width.{wire_widths, register_widths, memory_widths}
use Rattle.verilog_expression.specs.declared.entry.Entry.{Entry}
use Rattle.verilog_expression.specs.declared.entry.Entry.TheVariants as entry
use Rattle.verilog_read.specs.Entries.{port_entry, behind_ports, entry_of}
use Rattle.verilog_read.proofs.LawPlaces.{count_yes, count_no, place_at, register_bits, memory_bits, bits_of, index_bits}

-- ---- after the ports
-- what is declared stands for its number among its like, after so many of each
abbrev pub entry_for : Declared → ℕ → ℕ → ℕ → Entry
entry_for declared.Integer n r m = entry.Integer n
entry_for (declared.Register w) n r m = entry.Value (net.Register r) w.width
entry_for (declared.Memory i w k) n r m = entry.Words m i w.width

same_entry : (x : Declared) (n r m n' r' m' : ℕ) → n ≡ n' → r ≡ r' → m ≡ m' → entry_for x n r m ≡ entry_for x n' r' m'
same_entry x n r m n' r' m' p q u = ap (λ k. entry_for x k r m) p ∙ ap (λ k. entry_for x n' k m) q ∙ ap (λ k. entry_for x n' r' k) u

-- after others
entry_moved : (x : Declared) (prefix prefix' : List Declared) (n r m n' r' m' : ℕ) → n' + count_by is_integer prefix ≡ n + count_by is_integer prefix' → r' + count_by is_register prefix ≡ r + count_by is_register prefix' → m' + count_by is_memory prefix ≡ m + count_by is_memory prefix'
    → entry_for x (n' + count_by is_integer prefix) (r' + count_by is_register prefix) (m' + count_by is_memory prefix) ≡ entry_for x (n + count_by is_integer prefix') (r + count_by is_register prefix') (m + count_by is_memory prefix')
entry_moved x prefix prefix' n r m n' r' m' p q u = same_entry x (n' + count_by is_integer prefix) (r' + count_by is_register prefix) (m' + count_by is_memory prefix) (n + count_by is_integer prefix') (r + count_by is_register prefix') (m + count_by is_memory prefix') p q u

-- the same at a place, where so many of each stand before all these
abbrev pub entry_among : List Declared → ℕ → ℕ → ℕ → ℕ → Entry
entry_among xs i n r m = entry_for (get_or xs i declared.Integer) (n + count_by is_integer (take i xs)) (r + count_by is_register (take i xs)) (m + count_by is_memory (take i xs))

pub behind_item : (ws : List ℕ) (xs : List Declared) (i n r m : ℕ) → i < length xs → behind_ports ws xs i n r m ≡ entry_among xs i n r m
behind_item ws [] i n r m l = absurd (omega arith)
behind_item ws (declared.Integer ∷ xs) zero n r m l = same_entry declared.Integer n r m (n + 0) (r + 0) (m + 0) (omega arith) (omega arith) (omega arith)
behind_item ws (declared.Register w ∷ xs) zero n r m l = same_entry (declared.Register w) n r m (n + 0) (r + 0) (m + 0) (omega arith) (omega arith) (omega arith)
behind_item ws (declared.Memory j w k ∷ xs) zero n r m l = same_entry (declared.Memory j w k) n r m (n + 0) (r + 0) (m + 0) (omega arith) (omega arith) (omega arith)
behind_item ws (declared.Integer ∷ xs) (suc i) n r m l =
    behind_item ws xs i (suc n) r m (omega arith)
    ∙ entry_moved (get_or xs i declared.Integer) (take i xs) (declared.Integer ∷ take i xs) n r m (suc n) r m (omega (arith, count_yes is_integer declared.Integer (take i xs) refl)) (omega (arith, count_no is_register declared.Integer (take i xs) refl)) (omega (arith, count_no is_memory declared.Integer (take i xs) refl))
behind_item ws (declared.Register w ∷ xs) (suc i) n r m l =
    behind_item ws xs i n (suc r) m (omega arith)
    ∙ entry_moved (get_or xs i declared.Integer) (take i xs) (declared.Register w ∷ take i xs) n r m n (suc r) m (omega (arith, count_no is_integer (declared.Register w) (take i xs) refl)) (omega (arith, count_yes is_register (declared.Register w) (take i xs) refl)) (omega (arith, count_no is_memory (declared.Register w) (take i xs) refl))
behind_item ws (declared.Memory j w k ∷ xs) (suc i) n r m l =
    behind_item ws xs i n r (suc m) (omega arith)
    ∙ entry_moved (get_or xs i declared.Integer) (take i xs) (declared.Memory j w k ∷ take i xs) n r m n r (suc m) (omega (arith, count_no is_integer (declared.Memory j w k) (take i xs) refl)) (omega (arith, count_no is_register (declared.Memory j w k) (take i xs) refl)) (omega (arith, count_yes is_memory (declared.Memory j w k) (take i xs) refl))

pub behind_wire : (ws : List ℕ) (xs : List Declared) (k n r m : ℕ) → behind_ports ws xs (length xs + k) n r m ≡ entry.Value (net.Wire k) (get_or ws k 0)
behind_wire ws [] k n r m = let e : 0 + k ≡ k = omega arith in ap (λ j. entry.Value (net.Wire j) (get_or ws j 0)) e
behind_wire ws (declared.Integer ∷ xs) k n r m = let e : suc (length xs) + k ≡ suc (length xs + k) = omega arith in ap (λ j. behind_ports ws (declared.Integer ∷ xs) j n r m) e ∙ behind_wire ws xs k (suc n) r m
behind_wire ws (declared.Register w ∷ xs) k n r m = let e : suc (length xs) + k ≡ suc (length xs + k) = omega arith in ap (λ j. behind_ports ws (declared.Register w ∷ xs) j n r m) e ∙ behind_wire ws xs k n (suc r) m
behind_wire ws (declared.Memory i w q ∷ xs) k n r m = let e : suc (length xs) + k ≡ suc (length xs + k) = omega arith in ap (λ j. behind_ports ws (declared.Memory i w q ∷ xs) j n r m) e ∙ behind_wire ws xs k n r (suc m)

-- ---- places of a design
entry_zero : (x : Declared) (n r m : ℕ) → entry_for x (0 + n) (0 + r) (0 + m) ≡ entry_for x n r m
entry_zero x n r m = same_entry x (0 + n) (0 + r) (0 + m) n r m (omega arith) (omega arith) (omega arith)

-- what stands at a place that is declared
abbrev pub entry_numbered : List Declared → ℕ → Entry
entry_numbered xs i = entry_for (get_or xs i declared.Integer) (count_by is_integer (take i xs)) (count_by is_register (take i xs)) (count_by is_memory (take i xs))

pub entry_port : (d : Netlist) (k : ℕ) (none : Port) → k < length d.ports → entry_of d k ≡ port_entry k (get_or d.ports k none)
entry_port d k none l =
    cond-true (nat_lt k (length d.ports)) _ _ (lt-ltb k (length d.ports) l)
    ∙ ap (port_entry k) (get_or_default d.ports k (record { output = false; width = 0 }) none l)

past_ports : (d : Netlist) (k : ℕ) → entry_of d (length d.ports + k) ≡ behind_ports (wire_widths d.wires) d.declared k 0 0 0
past_ports d k =
    cond-false (nat_lt (length d.ports + k) (length d.ports)) _ _ (le-ltb (length d.ports + k) (length d.ports) (omega arith))
    ∙ (let e : length d.ports + k - length d.ports ≡ k = omega arith in ap (λ j. behind_ports (wire_widths d.wires) d.declared j 0 0 0) e)

pub entry_declared : (d : Netlist) (i : ℕ) → i < length d.declared → entry_of d (length d.ports + i) ≡ entry_numbered d.declared i
entry_declared d i l = past_ports d i ∙ behind_item (wire_widths d.wires) d.declared i 0 0 0 l ∙ entry_zero (get_or d.declared i declared.Integer) (count_by is_integer (take i d.declared)) (count_by is_register (take i d.declared)) (count_by is_memory (take i d.declared))

pub entry_wire : (d : Netlist) (k : ℕ) → entry_of d (length d.ports + length d.declared + k) ≡ entry.Value (net.Wire k) (get_or (wire_widths d.wires) k 0)
entry_wire d k = let e : length d.ports + length d.declared + k ≡ length d.ports + (length d.declared + k) = omega arith in
    ap (entry_of d) e ∙ past_ports d (length d.declared + k) ∙ behind_wire (wire_widths d.wires) d.declared k 0 0 0

-- ---- nets and integers of a design, by their numbers
for_register : (x : Declared) (n r m : ℕ) → is_register x ≡ true → entry_for x n r m ≡ entry.Value (net.Register r) (bits_of x)
for_register declared.Integer n r m h = absurd cc
for_register (declared.Register w) n r m h = refl
for_register (declared.Memory i w k) n r m h = absurd cc

for_memory : (x : Declared) (n r m : ℕ) → is_memory x ≡ true → entry_for x n r m ≡ entry.Words m (index_bits x) (bits_of x)
for_memory declared.Integer n r m h = absurd cc
for_memory (declared.Register w) n r m h = absurd cc
for_memory (declared.Memory i w k) n r m h = refl

for_integer : (x : Declared) (n r m : ℕ) → is_integer x ≡ true → entry_for x n r m ≡ entry.Integer n
for_integer declared.Integer n r m h = refl
for_integer (declared.Register w) n r m h = absurd cc
for_integer (declared.Memory i w k) n r m h = absurd cc

pub entry_register : (d : Netlist) (k : ℕ) → k < count_by is_register d.declared → entry_of d (name_place d (net.Register k)) ≡ entry.Value (net.Register k) (get_or (register_widths d.declared) k 0)
entry_register d k l =
    let s = place_at is_register d.declared declared.Integer k l in
    let i = place_of is_register d.declared k in
    entry_declared d i s.below
    ∙ for_register (get_or d.declared i declared.Integer) _ _ _ s.passes
    ∙ ap (λ w. entry.Value (net.Register (count_by is_register (take i d.declared))) w) (sym (register_bits d.declared i declared.Integer s.below s.passes))
    ∙ ap (λ j. entry.Value (net.Register j) (get_or (register_widths d.declared) j 0)) s.number

pub entry_memory : (d : Netlist) (k : ℕ) → k < count_by is_memory d.declared → entry_of d (name_place d (net.Memory k)) ≡ entry.Words k (get_or (memory_widths d.declared) k (0, 0)).0 (get_or (memory_widths d.declared) k (0, 0)).1
entry_memory d k l =
    let s = place_at is_memory d.declared declared.Integer k l in
    let i = place_of is_memory d.declared k in
    entry_declared d i s.below
    ∙ for_memory (get_or d.declared i declared.Integer) _ _ _ s.passes
    ∙ ap (λ (w : ℕ × ℕ). entry.Words (count_by is_memory (take i d.declared)) w.0 w.1) (sym (memory_bits d.declared i declared.Integer s.below s.passes))
    ∙ ap (λ j. entry.Words j (get_or (memory_widths d.declared) j (0, 0)).0 (get_or (memory_widths d.declared) j (0, 0)).1) s.number

pub entry_integer : (d : Netlist) (k : ℕ) → k < count_by is_integer d.declared → entry_of d (length d.ports + place_of is_integer d.declared k) ≡ entry.Integer k
entry_integer d k l =
    let s = place_at is_integer d.declared declared.Integer k l in
    let i = place_of is_integer d.declared k in
    entry_declared d i s.below
    ∙ for_integer (get_or d.declared i declared.Integer) _ _ _ s.passes
    ∙ ap entry.Integer s.number
