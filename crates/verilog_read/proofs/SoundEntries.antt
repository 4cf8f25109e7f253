-- What the entry of a name tells of the place of the name.
use Rattle.std.proofs.Common.{◌≡◌, ◌⊎◌, inl, inr, ℕ, ◌+◌, ◌-◌, ◌<◌, ◌≤◌, Bool, true, false, Some, List, [], length, get_or, refl, sym, ap, ◌∙◌, subst, arith}
use Rattle.std.specs.Prelude.{if◌then◌else◌, codes, take, count_by}
use Rattle.std.specs.Str.{bytes_eq}
use Rattle.std.proofs.lemmas.Bool.{cases_lt, both_ways}
use Rattle.net_core.specs.declared.tree.Net.{Net}
use Rattle.net_core.specs.declared.tree.Net.TheVariants as net
use Rattle.net_core.specs.declared.design.Port.{Port}
use Rattle.net_core.specs.declared.design.Declared.{Declared}
use Rattle.net_core.specs.declared.design.Declared.TheVariants as declared
use Rattle.net_core.specs.Nets.{Netlist}
use Rattle.net_core.specs.Names.{is_integer, is_register, is_memory}
use Rattle.net_core.specs.Width.{wire_widths}
use Rattle.verilog_expression.specs.declared.entry.Entry.{Entry}
use Rattle.verilog_expression.specs.declared.entry.Entry.TheVariants as entry
use Rattle.verilog_read.specs.Entries.{port_entry, entry_of, entry_in}
use Rattle.verilog_read.proofs.LawPlaces.{bits_of, index_bits}
use Rattle.verilog_read.proofs.LawEntries.{entry_for, entry_port, entry_declared, entry_wire}
use Rattle.verilog_read.proofs.LawNames.{StandsAt, entry_found}

-- ---- three sections of places
data PlaceIn (d : Netlist) (place : ℕ) : Type 0 where
  AtPort : place < length d.ports → PlaceIn d place
  AtDeclared : (i : ℕ) → i < length d.declared → length d.ports + i ≡ place → PlaceIn d place
  AtWire : (k : ℕ) → length d.ports + length d.declared + k ≡ place → PlaceIn d place

section_of_place : (d : Netlist) (place : ℕ) → PlaceIn d place
section_of_place d place = by_tests (cases_lt place (length d.ports)) (cases_lt place (length d.ports + length d.declared))
  where
    by_tests : (place < length d.ports) ⊎ (length d.ports ≤ place) → (place < length d.ports + length d.declared) ⊎ (length d.ports + length d.declared ≤ place) → PlaceIn d place
    by_tests (inl p) q = AtPort p
    by_tests (inr p) (inl q) = AtDeclared (place - length d.ports) (omega arith) (omega arith)
    by_tests (inr p) (inr q) = AtWire (place - (length d.ports + length d.declared)) (omega arith)

-- ---- what stands at a port
port_value : (k : ℕ) (p : Port) (n : Net) (w : ℕ) → port_entry k p ≡ entry.Value n w → (p.output ≡ false) × (net.Port k ≡ n) × (p.width ≡ w)
port_value k p n w e = by_output p.output refl e
  where
    by_output : (b : Bool) → p.output ≡ b → (if b then entry.Output k p.width else entry.Value (net.Port k) p.width) ≡ entry.Value n w → (p.output ≡ false) × (net.Port k ≡ n) × (p.width ≡ w)
    by_output true o h = absurd cc
    by_output false o h = (o, cc, cc)

port_output : (k : ℕ) (p : Port) (j w : ℕ) → port_entry k p ≡ entry.Output j w → (p.output ≡ true) × (k ≡ j) × (p.width ≡ w)
port_output k p j w e = by_output p.output refl e
  where
    by_output : (b : Bool) → p.output ≡ b → (if b then entry.Output k p.width else entry.Value (net.Port k) p.width) ≡ entry.Output j w → (p.output ≡ true) × (k ≡ j) × (p.width ≡ w)
    by_output true o h = (o, cc, cc)
    by_output false o h = absurd cc

-- neither words nor an integer
abbrev is_vector : Entry → Bool
is_vector entry.Clock = false
is_vector (entry.Value n w) = true
is_vector (entry.Words m i w) = false
is_vector (entry.Output k w) = true
is_vector (entry.Integer k) = false

port_vector : (k : ℕ) (p : Port) → is_vector (port_entry k p) ≡ true
port_vector k p = by_output p.output
  where
    by_output : (b : Bool) → is_vector (if b then entry.Output k p.width else entry.Value (net.Port k) p.width) ≡ true
    by_output true = refl
    by_output false = refl

-- ---- what stands at a place that is declared
for_value : (x : Declared) (i r m : ℕ) (n : Net) (w : ℕ) → entry_for x i r m ≡ entry.Value n w → (is_register x ≡ true) × (net.Register r ≡ n) × (bits_of x ≡ w)
for_value declared.Integer i r m n w e = absurd cc
for_value (declared.Register v) i r m n w e = (refl, cc, cc)
for_value (declared.Memory j v k) i r m n w e = absurd cc

for_words : (x : Declared) (i r m : ℕ) (n j w : ℕ) → entry_for x i r m ≡ entry.Words n j w → (is_memory x ≡ true) × (m ≡ n) × (index_bits x ≡ j) × (bits_of x ≡ w)
for_words declared.Integer i r m n j w e = absurd cc
for_words (declared.Register v) i r m n j w e = absurd cc
for_words (declared.Memory l v k) i r m n j w e = (refl, cc, cc, cc)

for_integer : (x : Declared) (i r m k : ℕ) → entry_for x i r m ≡ entry.Integer k → (is_integer x ≡ true) × (i ≡ k)
for_integer declared.Integer i r m k e = (refl, cc)
for_integer (declared.Register v) i r m k e = absurd cc
for_integer (declared.Memory l v q) i r m k e = absurd cc

never_output : (x : Declared) (i r m j w : ℕ) → entry_for x i r m ≡ entry.Output j w → ⊥
never_output declared.Integer i r m j w e = cc
never_output (declared.Register v) i r m j w e = cc
never_output (declared.Memory l v k) i r m j w e = cc

-- ---- what an entry tells
-- the name stands at a place, and `clk` is another
pub record HasName (d : Netlist) (s : List ℕ) (place : ℕ) : Type 0 where
  pub below : place < length d.names
  pub name : get_or d.names place [] ≡ s
  pub other : bytes_eq s (codes "clk") ≡ false

has_name : (d : Netlist) (s : List ℕ) (e : Entry) (a : StandsAt d s e) (place : ℕ) → place ≡ a.place → HasName d s place
has_name d s e a place p = subst (HasName d s) (sym p) (record { below = a.below; name = a.name; other = a.other })

-- an input, a register or a wire
pub data ValueTold (d : Netlist) (s : List ℕ) (n : Net) (w : ℕ) : Type 0 where
  ToldInput : (k : ℕ) → HasName d s k → k < length d.ports → (get_or d.ports k (record { output = true; width = 0 })).output ≡ false
      → net.Port k ≡ n → (get_or d.ports k (record { output = true; width = 0 })).width ≡ w → ValueTold d s n w
  ToldRegister : (i : ℕ) → HasName d s (length d.ports + i) → i < length d.declared → is_register (get_or d.declared i declared.Integer) ≡ true
      → net.Register (count_by is_register (take i d.declared)) ≡ n → bits_of (get_or d.declared i declared.Integer) ≡ w → ValueTold d s n w
  ToldWire : (k : ℕ) → HasName d s (length d.ports + length d.declared + k) → net.Wire k ≡ n → get_or (wire_widths d.wires) k 0 ≡ w → ValueTold d s n w

same_values : (n n' : Net) (w w' : ℕ) → entry.Value n w ≡ entry.Value n' w' → (n ≡ n') × (w ≡ w')
same_values n n' w w' e = (cc, cc)

value_at_place : (d : Netlist) (s : List ℕ) (n : Net) (w : ℕ) (a : StandsAt d s (entry.Value n w)) → PlaceIn d a.place → ValueTold d s n w
value_at_place d s n w a (AtPort l) =
    let none : Port = record { output = true; width = 0 } in
    let t = port_value a.place (get_or d.ports a.place none) n w (sym (entry_port d a.place none l) ∙ a.entry) in
    ToldInput a.place (has_name d s (entry.Value n w) a a.place refl) l t.0 t.1 t.2
value_at_place d s n w a (AtDeclared i l p) =
    let t = for_value (get_or d.declared i declared.Integer) _ _ _ n w (sym (entry_declared d i l) ∙ ap (entry_of d) p ∙ a.entry) in
    ToldRegister i (has_name d s (entry.Value n w) a _ p) l t.0 t.1 t.2
value_at_place d s n w a (AtWire k p) =
    let t = same_values (net.Wire k) n (get_or (wire_widths d.wires) k 0) w (sym (entry_wire d k) ∙ ap (entry_of d) p ∙ a.entry) in
    ToldWire k (has_name d s (entry.Value n w) a _ p) t.0 t.1

pub value_told : (d : Netlist) (s : List ℕ) (n : Net) (w : ℕ) → entry_in d s ≡ Some (entry.Value n w) → ValueTold d s n w
value_told d s n w h = by_place (entry_found d s (entry.Value n w) h)
  where
    by_place : (entry.Clock ≡ entry.Value n w) ⊎ StandsAt d s (entry.Value n w) → ValueTold d s n w
    by_place (inl c) = absurd cc
    by_place (inr a) = value_at_place d s n w a (section_of_place d a.place)

-- a memory
pub record WordsTold (d : Netlist) (s : List ℕ) (m j w : ℕ) : Type 0 where
  pub at : ℕ
  pub named : HasName d s (length d.ports + at)
  pub below : at < length d.declared
  pub memory : is_memory (get_or d.declared at declared.Integer) ≡ true
  pub number : count_by is_memory (take at d.declared) ≡ m
  pub index : index_bits (get_or d.declared at declared.Integer) ≡ j
  pub bits : bits_of (get_or d.declared at declared.Integer) ≡ w

words_at_place : (d : Netlist) (s : List ℕ) (m j w : ℕ) (a : StandsAt d s (entry.Words m j w)) → PlaceIn d a.place → WordsTold d s m j w
words_at_place d s m j w a (AtPort l) =
    let none : Port = record { output = true; width = 0 } in
    absurd (both_ways _ (ap is_vector (sym (entry_port d a.place none l) ∙ a.entry)) (port_vector a.place (get_or d.ports a.place none)))
words_at_place d s m j w a (AtDeclared i l p) =
    let t = for_words (get_or d.declared i declared.Integer) _ _ _ m j w (sym (entry_declared d i l) ∙ ap (entry_of d) p ∙ a.entry) in
    record { at = i; named = has_name d s (entry.Words m j w) a _ p; below = l; memory = t.0; number = t.1; index = t.2; bits = t.3 }
words_at_place d s m j w a (AtWire k p) =
    let e : entry.Value (net.Wire k) (get_or (wire_widths d.wires) k 0) ≡ entry.Words m j w = sym (entry_wire d k) ∙ ap (entry_of d) p ∙ a.entry in
    absurd cc

pub words_told : (d : Netlist) (s : List ℕ) (m j w : ℕ) → entry_in d s ≡ Some (entry.Words m j w) → WordsTold d s m j w
words_told d s m j w h = by_place (entry_found d s (entry.Words m j w) h)
  where
    by_place : (entry.Clock ≡ entry.Words m j w) ⊎ StandsAt d s (entry.Words m j w) → WordsTold d s m j w
    by_place (inl c) = absurd cc
    by_place (inr a) = words_at_place d s m j w a (section_of_place d a.place)

-- an integer
pub record IntegerTold (d : Netlist) (s : List ℕ) (k : ℕ) : Type 0 where
  pub at : ℕ
  pub named : HasName d s (length d.ports + at)
  pub below : at < length d.declared
  pub integer : is_integer (get_or d.declared at declared.Integer) ≡ true
  pub number : count_by is_integer (take at d.declared) ≡ k

integer_at_place : (d : Netlist) (s : List ℕ) (k : ℕ) (a : StandsAt d s (entry.Integer k)) → PlaceIn d a.place → IntegerTold d s k
integer_at_place d s k a (AtPort l) =
    let none : Port = record { output = true; width = 0 } in
    absurd (both_ways _ (ap is_vector (sym (entry_port d a.place none l) ∙ a.entry)) (port_vector a.place (get_or d.ports a.place none)))
integer_at_place d s k a (AtDeclared i l p) =
    let t = for_integer (get_or d.declared i declared.Integer) _ _ _ k (sym (entry_declared d i l) ∙ ap (entry_of d) p ∙ a.entry) in
    record { at = i; named = has_name d s (entry.Integer k) a _ p; below = l; integer = t.0; number = t.1 }
integer_at_place d s k a (AtWire j p) =
    let e : entry.Value (net.Wire j) (get_or (wire_widths d.wires) j 0) ≡ entry.Integer k = sym (entry_wire d j) ∙ ap (entry_of d) p ∙ a.entry in
    absurd cc

pub integer_told : (d : Netlist) (s : List ℕ) (k : ℕ) → entry_in d s ≡ Some (entry.Integer k) → IntegerTold d s k
integer_told d s k h = by_place (entry_found d s (entry.Integer k) h)
  where
    by_place : (entry.Clock ≡ entry.Integer k) ⊎ StandsAt d s (entry.Integer k) → IntegerTold d s k
    by_place (inl c) = absurd cc
    by_place (inr a) = integer_at_place d s k a (section_of_place d a.place)

-- an output
pub record OutputTold (d : Netlist) (s : List ℕ) (k w : ℕ) : Type 0 where
  pub named : HasName d s k
  pub below : k < length d.ports
  pub output : (get_or d.ports k (record { output = false; width = 0 })).output ≡ true
  pub width : (get_or d.ports k (record { output = false; width = 0 })).width ≡ w

output_at_place : (d : Netlist) (s : List ℕ) (k w : ℕ) (a : StandsAt d s (entry.Output k w)) → PlaceIn d a.place → OutputTold d s k w
output_at_place d s k w a (AtPort l) =
    let none : Port = record { output = false; width = 0 } in
    let t = port_output a.place (get_or d.ports a.place none) k w (sym (entry_port d a.place none l) ∙ a.entry) in
    let h : OutputTold d s a.place w = record { named = has_name d s (entry.Output k w) a a.place refl; below = l; output = t.0; width = t.2 } in
    subst (λ (j : ℕ). OutputTold d s j w) t.1 h
output_at_place d s k w a (AtDeclared i l p) = absurd (never_output (get_or d.declared i declared.Integer) _ _ _ k w (sym (entry_declared d i l) ∙ ap (entry_of d) p ∙ a.entry))
output_at_place d s k w a (AtWire j p) =
    let e : entry.Value (net.Wire j) (get_or (wire_widths d.wires) j 0) ≡ entry.Output k w = sym (entry_wire d j) ∙ ap (entry_of d) p ∙ a.entry in
    absurd cc

pub output_told : (d : Netlist) (s : List ℕ) (k w : ℕ) → entry_in d s ≡ Some (entry.Output k w) → OutputTold d s k w
output_told d s k w h = by_place (entry_found d s (entry.Output k w) h)
  where
    by_place : (entry.Clock ≡ entry.Output k w) ⊎ StandsAt d s (entry.Output k w) → OutputTold d s k w
    by_place (inl c) = absurd cc
    by_place (inr a) = output_at_place d s k w a (section_of_place d a.place)
