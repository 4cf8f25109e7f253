-- What is known of a design stays known where something comes behind.
use Rattle.std.proofs.Common.{◌≡◌, ◌∙◌, sym, ap, refl, subst, arith, ℕ, suc, ◌+◌, ◌-◌, ◌<◌, ◌≤◌, Bool, true, false, cond, not, ◌||◌, ◌&&◌, ◌==◌, Option, Some, None, List, [], ◌∷◌, ◌++◌, length, get_or, length-append}
use Rattle.std.specs.Prelude.{nat_lt, option_map, is_some, map}
use Rattle.std.specs.Borrow.{Bor}
use Rattle.std.specs.List.{list_all, list_any, position_from}
use Rattle.std.specs.Str.{bytes_eq}
use Rattle.std.proofs.lemmas.Bool.{ltb-true, ltb-false, lt-ltb, le-ltb}
use Rattle.std.proofs.lemmas.Iterator.Adapters.{position_from-zero}
use Rattle.std.proofs.lemmas.List.{get_or_append_left, get_or-append-add, length-map}
use Rattle.net_core.specs.declared.design.Port.{Port}
use Rattle.net_core.specs.declared.design.Declared.{Declared}
use Rattle.net_core.specs.declared.design.Wire.{Wire}
use Rattle.net_core.specs.declared.design.Assign.{Assign}
use Rattle.net_core.specs.declared.design.Design.{Design}
use Rattle.net_core.specs.declared.tree.Net.{Net}
use Rattle.net_core.specs.declared.tree.Stmt.{Stmt}
use Rattle.net_core.specs.declared.tree.Net.TheVariants as net
use Rattle.net_core.specs.Nets.{StatementTree, AssignTree, WireTree, Netlist}
use Rattle.net_core.specs.View.{netlist_of, wire_of, assign_of, statement_of}
use Rattle.net_core.specs.Width.{wire_widths, is_assigned}
use Rattle.net_core.proofs.WireLaws.{length_widths}
use Rattle.design_rules.specs.FormedScope.{leaves_register, leaves_memory}
use Rattle.verilog_expression.specs.declared.entry.Entry.{Entry}
use Rattle.verilog_expression.specs.declared.entry.Entry.TheVariants as entry
use Rattle.verilog_read.specs.declared.partial.Counts.{Counts}
use Rattle.verilog_read.specs.declared.targets.Targets.{Targets}
use Rattle.verilog_read.specs.Declarations.{with_declared}
use Rattle.verilog_read.specs.Entries.{behind_ports, entry_of, place_in, port_entry}
use Rattle.verilog_read.specs.Header.{with_port}
use Rattle.verilog_read.specs.Items.{with_wire, with_assign, with_always}
use Rattle.verilog_read.specs.View.{NoWires, OnlyPorts, IsNew, Raises, AddsEntry, AddsTargets, IsKnown, found_in, with_one, no_counts, declared_entry}
use Rattle.verilog_expression.proofs.LoopStepLaws.{map_one_more}
use Rattle.verilog_read.proofs.Places.{declared_stays, declared_last, counted_behind, wire_entry, wires_stay, widths_behind}
use Rattle.verilog_read.proofs.Tables.{or_next, lookup_behind, position_behind}

-- ---- the table with one entry more
pub table_behind : (f g : ℕ → Entry) (table : List (Bor (List ℕ) × Entry)) (names : List (List ℕ)) (key : Bor (List ℕ)) (s : List ℕ) (e : Entry) → key.now ≡ s → ((j : ℕ) → j < length names → g j ≡ f j) → g (length names) ≡ e → ((name : List ℕ) → found_in table name ≡ option_map f (place_in names name)) → (name : List ℕ) → found_in (table ++ (key, e) ∷ []) name ≡ option_map g (place_in (names ++ s ∷ []) name)
table_behind f g table names key s e k stays last known name =
    lookup_behind (λ x. bytes_eq name x.now) table key e
    ∙ ap (λ (o : Option Entry). or_next o (cond (bytes_eq name key.now) (Some e) None)) (known name)
    ∙ ap (λ (n : List ℕ). or_next (option_map f (place_in names name)) (cond (bytes_eq name n) (Some e) None)) k
    ∙ ap (λ (x : Entry). or_next (option_map f (place_in names name)) (cond (bytes_eq name s) (Some x) None)) (sym last)
    ∙ sym (position_behind f g (bytes_eq name) names s stays)

-- ---- what the name at a place stands for
pub in_ports : (d : Netlist) (j : ℕ) → j < length d.ports → entry_of d j ≡ port_entry j (get_or d.ports j (record { output = false; width = 0 }))
in_ports d j h = by_test (nat_lt j (length d.ports)) (lt-ltb j (length d.ports) h)
  where
    by_test : (b : Bool) → b ≡ true → cond b (port_entry j (get_or d.ports j (record { output = false; width = 0 }))) (behind_ports (wire_widths d.wires) d.declared (j - length d.ports) 0 0 0) ≡ port_entry j (get_or d.ports j (record { output = false; width = 0 }))
    by_test true e = refl
    by_test false e = absurd cc

pub past_ports : (d : Netlist) (j k : ℕ) → j ≡ length d.ports + k → entry_of d j ≡ behind_ports (wire_widths d.wires) d.declared k 0 0 0
past_ports d j k h = by_test (nat_lt j (length d.ports)) (le-ltb j (length d.ports) (omega (arith, h)))
  where
    same : j - length d.ports ≡ k
    same = omega (arith, h)

    by_test : (b : Bool) → b ≡ false → cond b (port_entry j (get_or d.ports j (record { output = false; width = 0 }))) (behind_ports (wire_widths d.wires) d.declared (j - length d.ports) 0 0 0) ≡ behind_ports (wire_widths d.wires) d.declared k 0 0 0
    by_test true e = absurd cc
    by_test false e = ap (λ (n : ℕ). behind_ports (wire_widths d.wires) d.declared n 0 0 0) same

length_one : {A : Type 0} (xs : List A) (x : A) → length (xs ++ x ∷ []) ≡ suc (length xs)
length_one xs x = length-append xs (x ∷ []) ∙ omega arith

-- ---- a port
pub port_known : (d : Netlist) (table : List (Bor (List ℕ) × Entry)) (c : Counts) (t : Targets) (flags : List Bool) (key : Bor (List ℕ)) (s : List ℕ) (p : Port) → IsKnown d table c t flags → OnlyPorts d → key.now ≡ s → IsKnown (with_port s p d) (table ++ (key, port_entry (length d.ports) p) ∷ []) c t flags
port_known d table c t flags key s p known only k = record {
  names = length_one d.names s ∙ omega (arith, known.names, length_one d.ports p);
  entries = table_behind (entry_of d) (entry_of (with_port s p d)) table d.names key s (port_entry (length d.ports) p) k stays last known.entries;
  counts = known.counts;
  registers = known.registers;
  memories = known.memories;
  assigned = known.assigned;
}
  where
    count : length d.names ≡ length d.ports
    count = known.names ∙ ap (λ (xs : List Declared). length d.ports + length xs + length d.wires) only.declared ∙ ap (λ (ws : List WireTree). length d.ports + 0 + length ws) only.wires ∙ omega arith

    stays : (j : ℕ) → j < length d.names → entry_of (with_port s p d) j ≡ entry_of d j
    stays j h =
        in_ports (with_port s p d) j (omega (arith, h, count, length_one d.ports p))
        ∙ ap (port_entry j) (get_or_append_left d.ports (p ∷ []) (record { output = false; width = 0 }) j (omega (arith, h, count)))
        ∙ sym (in_ports d j (omega (arith, h, count)))

    here : get_or (d.ports ++ p ∷ []) (length d.names) (record { output = false; width = 0 }) ≡ p
    here = ap (λ (n : ℕ). get_or (d.ports ++ p ∷ []) n (record { output = false; width = 0 })) (let e : length d.names ≡ length d.ports + 0 = omega (arith, count) in e) ∙ get_or-append-add d.ports (p ∷ []) 0 (record { output = false; width = 0 })

    last : entry_of (with_port s p d) (length d.names) ≡ port_entry (length d.ports) p
    last =
        in_ports (with_port s p d) (length d.names) (omega (arith, count, length_one d.ports p))
        ∙ ap (port_entry (length d.names)) here
        ∙ ap (λ (n : ℕ). port_entry n p) count

-- ---- an integer, a register or a memory
pub declared_known : (d : Netlist) (table : List (Bor (List ℕ) × Entry)) (c : Counts) (t : Targets) (flags : List Bool) (key : Bor (List ℕ)) (s : List ℕ) (x : Declared) → IsKnown d table c t flags → NoWires d → key.now ≡ s → IsKnown (with_declared s x d) (table ++ (key, declared_entry c x) ∷ []) (with_one x c) t flags
declared_known d table c t flags key s x known none k = record {
  names = length_one d.names s ∙ omega (arith, known.names, length_one d.declared x);
  entries = table_behind (entry_of d) (entry_of (with_declared s x d)) table d.names key s (declared_entry c x) k stays last known.entries;
  counts = ap (with_one x) known.counts ∙ sym (counted_behind d.declared x no_counts);
  registers = known.registers;
  memories = known.memories;
  assigned = known.assigned;
}
  where
    count : length d.names ≡ length d.ports + length d.declared
    count = known.names ∙ ap (λ (ws : List WireTree). length d.ports + length d.declared + length ws) none ∙ omega arith

    in_declared : (j m : ℕ) → m ≡ length d.ports → j ≡ m + (j - m) → j - m < length d.declared → entry_of (with_declared s x d) j ≡ entry_of d j
    in_declared j m e split h =
        past_ports (with_declared s x d) j (j - m) (omega (arith, e, split))
        ∙ declared_stays (wire_widths d.wires) d.declared x (j - m) 0 0 0 h
        ∙ sym (past_ports d j (j - m) (omega (arith, e, split)))

    by_test : (j : ℕ) → j < length d.names → (b : Bool) → nat_lt j (length d.ports) ≡ b → entry_of (with_declared s x d) j ≡ entry_of d j
    by_test j h true e = in_ports (with_declared s x d) j (ltb-true j (length d.ports) e) ∙ sym (in_ports d j (ltb-true j (length d.ports) e))
    by_test j h false e = let low : length d.ports ≤ j = ltb-false j (length d.ports) e in in_declared j (length d.ports) refl (omega (arith, low)) (omega (arith, low, h, count))

    stays : (j : ℕ) → j < length d.names → entry_of (with_declared s x d) j ≡ entry_of d j
    stays j h = by_test j h (nat_lt j (length d.ports)) refl

    last : entry_of (with_declared s x d) (length d.names) ≡ declared_entry c x
    last =
        past_ports (with_declared s x d) (length d.names) (length d.declared) count
        ∙ declared_last (wire_widths d.wires) d.declared x no_counts
        ∙ ap (λ (n : Counts). declared_entry n x) (sym known.counts)

-- ---- a wire
pub wire_known : (d : Netlist) (table : List (Bor (List ℕ) × Entry)) (c : Counts) (t : Targets) (flags : List Bool) (key : Bor (List ℕ)) (s : List ℕ) (w : WireTree) → IsKnown d table c t flags → key.now ≡ s → IsKnown (with_wire s w d) (table ++ (key, entry.Value (net.Wire (length d.wires)) w.width) ∷ []) c t flags
wire_known d table c t flags key s w known k = record {
  names = length_one d.names s ∙ omega (arith, known.names, length_one d.wires w);
  entries = table_behind (entry_of d) (entry_of (with_wire s w d)) table d.names key s (entry.Value (net.Wire (length d.wires)) w.width) k stays last known.entries;
  counts = known.counts;
  registers = known.registers;
  memories = known.memories;
  assigned = known.assigned;
}
  where
    in_rest : (j m : ℕ) → m ≡ length d.ports → j ≡ m + (j - m) → j - m < length d.declared + length d.wires → entry_of (with_wire s w d) j ≡ entry_of d j
    in_rest j m e split h =
        past_ports (with_wire s w d) j (j - m) (omega (arith, e, split))
        ∙ ap (λ (ws : List ℕ). behind_ports ws d.declared (j - m) 0 0 0) (widths_behind d.wires w)
        ∙ wires_stay (wire_widths d.wires) w.width d.declared (j - m) 0 0 0 (omega (arith, h, length_widths d.wires))
        ∙ sym (past_ports d j (j - m) (omega (arith, e, split)))

    by_test : (j : ℕ) → j < length d.names → (b : Bool) → nat_lt j (length d.ports) ≡ b → entry_of (with_wire s w d) j ≡ entry_of d j
    by_test j h true e = in_ports (with_wire s w d) j (ltb-true j (length d.ports) e) ∙ sym (in_ports d j (ltb-true j (length d.ports) e))
    by_test j h false e = let low : length d.ports ≤ j = ltb-false j (length d.ports) e in in_rest j (length d.ports) refl (omega (arith, low)) (omega (arith, low, h, known.names))

    stays : (j : ℕ) → j < length d.names → entry_of (with_wire s w d) j ≡ entry_of d j
    stays j h = by_test j h (nat_lt j (length d.ports)) refl

    width : get_or (wire_widths d.wires ++ w.width ∷ []) (length d.wires) 0 ≡ w.width
    width = ap (λ (n : ℕ). get_or (wire_widths d.wires ++ w.width ∷ []) n 0) (let e : length d.wires ≡ length (wire_widths d.wires) + 0 = omega (arith, length_widths d.wires) in e) ∙ get_or-append-add (wire_widths d.wires) (w.width ∷ []) 0 0

    last : entry_of (with_wire s w d) (length d.names) ≡ entry.Value (net.Wire (length d.wires)) w.width
    last =
        past_ports (with_wire s w d) (length d.names) (length d.declared + length d.wires) (omega (arith, known.names))
        ∙ ap (λ (ws : List ℕ). behind_ports ws d.declared (length d.declared + length d.wires) 0 0 0) (widths_behind d.wires w)
        ∙ wire_entry (wire_widths d.wires ++ w.width ∷ []) d.declared (length d.declared + length d.wires) (length d.wires) 0 0 0 refl
        ∙ ap (λ (n : ℕ). entry.Value (net.Wire (length d.wires)) n) width

-- ---- an assign
or_nothing : (b : Bool) → (b || false) ≡ (false || b)
or_nothing true = refl
or_nothing false = refl

or_further : (a b c d : Bool) → d ≡ (b || c) → (a || d) ≡ ((a || b) || c)
or_further true b c d e = refl
or_further false b c d e = e

assigned_behind : (made : List AssignTree) (a : AssignTree) (k : ℕ) → is_assigned (made ++ a ∷ []) k ≡ (is_assigned made k || (a.port == k))
assigned_behind [] a k = or_nothing (a.port == k)
assigned_behind (x ∷ made) a k = or_further (x.port == k) (is_assigned made k) (a.port == k) (is_assigned (made ++ a ∷ []) k) (assigned_behind made a k)

pub assign_known : (d : Netlist) (table : List (Bor (List ℕ) × Entry)) (c : Counts) (t : Targets) (before after : List Bool) (a : AssignTree) → IsKnown d table c t before → Raises before after (λ k. a.port == k) → IsKnown (with_assign a d) table c t after
assign_known d table c t before after a known raised = record {
  names = known.names;
  entries = known.entries;
  counts = known.counts;
  registers = known.registers;
  memories = known.memories;
  assigned = λ k. raised k ∙ ap (λ (b : Bool). b || (a.port == k)) (known.assigned k) ∙ sym (assigned_behind d.assigns a k);
}

-- ---- an always block
not_alone : (b : Bool) → not (b && true) ≡ not b
not_alone true = refl
not_alone false = refl

not_further : (a b c d : Bool) → not d ≡ (not b || not c) → not (a && d) ≡ (not (a && b) || not c)
not_further true b c d e = e
not_further false b c d e = refl

all_behind : {A : Type 0} (test : A → Bool) (xs : List A) (x : A) → not (list_all test (xs ++ x ∷ [])) ≡ (not (list_all test xs) || not (test x))
all_behind test [] x = not_alone (test x)
all_behind test (y ∷ xs) x = not_further (test y) (list_all test xs) (test x) (list_all test (xs ++ x ∷ [])) (all_behind test xs x)

pub always_known : (d : Netlist) (table : List (Bor (List ℕ) × Entry)) (c : Counts) (before after : Targets) (flags : List Bool) (a : StatementTree Net) → IsKnown d table c before flags → AddsTargets before after a → IsKnown (with_always a d) table c after flags
always_known d table c before after flags a known noted = record {
  names = known.names;
  entries = known.entries;
  counts = known.counts;
  registers = λ k. noted.registers k ∙ ap (λ (b : Bool). b || not (leaves_register k a)) (known.registers k) ∙ sym (all_behind (leaves_register k) d.always a);
  memories = λ k. noted.memories k ∙ ap (λ (b : Bool). b || not (leaves_memory k a)) (known.memories k) ∙ sym (all_behind (leaves_memory k) d.always a);
  assigned = known.assigned;
}

-- ---- the same of designs in memory
is_some_first : (b : Bool) (i : ℕ) (o : Option ℕ) (c : Bool) → is_some o ≡ c → is_some (cond b (Some i) o) ≡ (b || c)
is_some_first true i o c e = refl
is_some_first false i o c e = e

position_is_some : (test : List ℕ → Bool) (i : ℕ) (ns : List (List ℕ)) → is_some (position_from test i ns) ≡ list_any test ns
position_is_some test i [] = refl
position_is_some test i (n ∷ ns) = is_some_first (test n) i (position_from test (i + 1) ns) (list_any test ns) (position_is_some test (i + 1) ns)

map_is_some : {X Y : Type 0} (f : X → Y) (o : Option X) → is_some (option_map f o) ≡ is_some o
map_is_some f None = refl
map_is_some f (Some x) = refl

none_of : {X : Type 0} (o : Option X) → is_some o ≡ false → o ≡ None
none_of None e = refl
none_of (Some x) e = absurd cc

pub has_known : (d : Netlist) (table : List (Bor (List ℕ) × Entry)) (c : Counts) (t : Targets) (flags : List Bool) (name : List ℕ) → IsKnown d table c t flags → is_some (found_in table name) ≡ list_any (bytes_eq name) d.names
has_known d table c t flags name known =
    ap (λ (o : Option Entry). is_some o) (known.entries name)
    ∙ map_is_some (entry_of d) (place_in d.names name)
    ∙ ap (λ (o : Option ℕ). is_some o) (position_from-zero (bytes_eq name) d.names)
    ∙ position_is_some (bytes_eq name) 0 d.names

pub absent : (a b : Design) (table : List (Bor (List ℕ) × Entry)) (c : Counts) (t : Targets) (flags : List Bool) (name : List ℕ) → a ≡ b → IsKnown (netlist_of a) table c t flags → IsNew (netlist_of b) name → found_in table name ≡ None
absent a b table c t flags name e known new = none_of (found_in table name) (has_known (netlist_of a) table c t flags name known ∙ ap (λ (d : Design). list_any (bytes_eq name) (netlist_of d).names) e ∙ new)

pub port_kept : (a b : Design) (table after : List (Bor (List ℕ) × Entry)) (c : Counts) (t : Targets) (flags : List Bool) (names : List (List ℕ)) (ports : List Port) (s : List ℕ) (p : Port) (e : Entry) (n : ℕ) → a ≡ b → IsKnown (netlist_of a) table c t flags → OnlyPorts (netlist_of b) → AddsEntry table after s e → e ≡ port_entry n p → n ≡ length a.ports.items → names ≡ (netlist_of a).names ++ s ∷ [] → ports ≡ a.ports.items ++ p ∷ [] → IsKnown (record { names = names; ports = ports; declared = (netlist_of a).declared; wires = (netlist_of a).wires; assigns = (netlist_of a).assigns; always = (netlist_of a).always }) after c t flags
port_kept a b table after c t flags names ports s p e n same known only adds is_entry count names_is ports_is =
    subst (λ (ns : List (List ℕ)). IsKnown (record { names = ns; ports = ports; declared = (netlist_of a).declared; wires = (netlist_of a).wires; assigns = (netlist_of a).assigns; always = (netlist_of a).always }) after c t flags) (sym names_is)
    (subst (λ (ps : List Port). IsKnown (record { names = (netlist_of a).names ++ s ∷ []; ports = ps; declared = (netlist_of a).declared; wires = (netlist_of a).wires; assigns = (netlist_of a).assigns; always = (netlist_of a).always }) after c t flags) (sym ports_is)
    (subst (λ (es : List (Bor (List ℕ) × Entry)). IsKnown (with_port s p (netlist_of a)) es c t flags) (sym table_is)
    (port_known (netlist_of a) table c t flags adds.key s p known (subst (λ (d : Design). OnlyPorts (netlist_of d)) (sym same) only) adds.spelled)))
  where
    table_is : after ≡ table ++ (adds.key, port_entry (length a.ports.items) p) ∷ []
    table_is = adds.behind ∙ ap (λ (x : Entry). table ++ (adds.key, x) ∷ []) (is_entry ∙ ap (λ (k : ℕ). port_entry k p) count)

pub declared_kept : (a b : Design) (table after : List (Bor (List ℕ) × Entry)) (c c' : Counts) (t : Targets) (flags : List Bool) (names : List (List ℕ)) (declared : List Declared) (s : List ℕ) (x : Declared) (e : Entry) → a ≡ b → IsKnown (netlist_of a) table c t flags → NoWires (netlist_of b) → AddsEntry table after s e → e ≡ declared_entry c x → c' ≡ with_one x c → names ≡ (netlist_of a).names ++ s ∷ [] → declared ≡ a.declared.items ++ x ∷ [] → IsKnown (record { names = names; ports = (netlist_of a).ports; declared = declared; wires = (netlist_of a).wires; assigns = (netlist_of a).assigns; always = (netlist_of a).always }) after c' t flags
declared_kept a b table after c c' t flags names declared s x e same known none adds is_entry count names_is declared_is =
    subst (λ (ns : List (List ℕ)). IsKnown (record { names = ns; ports = (netlist_of a).ports; declared = declared; wires = (netlist_of a).wires; assigns = (netlist_of a).assigns; always = (netlist_of a).always }) after c' t flags) (sym names_is)
    (subst (λ (xs : List Declared). IsKnown (record { names = (netlist_of a).names ++ s ∷ []; ports = (netlist_of a).ports; declared = xs; wires = (netlist_of a).wires; assigns = (netlist_of a).assigns; always = (netlist_of a).always }) after c' t flags) (sym declared_is)
    (subst (λ (k : Counts). IsKnown (with_declared s x (netlist_of a)) after k t flags) (sym count)
    (subst (λ (es : List (Bor (List ℕ) × Entry)). IsKnown (with_declared s x (netlist_of a)) es (with_one x c) t flags) (sym table_is)
    (declared_known (netlist_of a) table c t flags adds.key s x known (subst (λ (d : Design). NoWires (netlist_of d)) (sym same) none) adds.spelled))))
  where
    table_is : after ≡ table ++ (adds.key, declared_entry c x) ∷ []
    table_is = adds.behind ∙ ap (λ (y : Entry). table ++ (adds.key, y) ∷ []) is_entry

pub wire_kept : (a : Design) (table after : List (Bor (List ℕ) × Entry)) (c : Counts) (t : Targets) (flags : List Bool) (names : List (List ℕ)) (wires : List Wire) (s : List ℕ) (w : Wire) (e : Entry) (n : ℕ) → IsKnown (netlist_of a) table c t flags → AddsEntry table after s e → e ≡ entry.Value (net.Wire n) w.width → n ≡ length a.wires.items → names ≡ (netlist_of a).names ++ s ∷ [] → wires ≡ a.wires.items ++ w ∷ [] → IsKnown (record { names = names; ports = (netlist_of a).ports; declared = (netlist_of a).declared; wires = map wire_of wires; assigns = (netlist_of a).assigns; always = (netlist_of a).always }) after c t flags
wire_kept a table after c t flags names wires s w e n known adds is_entry count names_is wires_is =
    subst (λ (ns : List (List ℕ)). IsKnown (record { names = ns; ports = (netlist_of a).ports; declared = (netlist_of a).declared; wires = map wire_of wires; assigns = (netlist_of a).assigns; always = (netlist_of a).always }) after c t flags) (sym names_is)
    (subst (λ (ws : List WireTree). IsKnown (record { names = (netlist_of a).names ++ s ∷ []; ports = (netlist_of a).ports; declared = (netlist_of a).declared; wires = ws; assigns = (netlist_of a).assigns; always = (netlist_of a).always }) after c t flags) (map_one_more wire_of wires a.wires.items w wires_is)
    (subst (λ (es : List (Bor (List ℕ) × Entry)). IsKnown (with_wire s (wire_of w) (netlist_of a)) es c t flags) (sym table_is)
    (wire_known (netlist_of a) table c t flags adds.key s (wire_of w) known adds.spelled)))
  where
    table_is : after ≡ table ++ (adds.key, entry.Value (net.Wire (length (map wire_of a.wires.items))) w.width) ∷ []
    table_is = adds.behind ∙ ap (λ (x : Entry). table ++ (adds.key, x) ∷ []) (is_entry ∙ ap (λ (k : ℕ). entry.Value (net.Wire k) w.width) (count ∙ sym (length-map a.wires.items wire_of)))

pub assign_kept : (a : Design) (table : List (Bor (List ℕ) × Entry)) (c : Counts) (t : Targets) (before after : List Bool) (assigns : List Assign) (x : Assign) → IsKnown (netlist_of a) table c t before → Raises before after (λ k. x.port == k) → assigns ≡ a.assigns.items ++ x ∷ [] → IsKnown (record { names = (netlist_of a).names; ports = (netlist_of a).ports; declared = (netlist_of a).declared; wires = (netlist_of a).wires; assigns = map assign_of assigns; always = (netlist_of a).always }) table c t after
assign_kept a table c t before after assigns x known raised assigns_is =
    subst (λ (xs : List AssignTree). IsKnown (record { names = (netlist_of a).names; ports = (netlist_of a).ports; declared = (netlist_of a).declared; wires = (netlist_of a).wires; assigns = xs; always = (netlist_of a).always }) table c t after) (map_one_more assign_of assigns a.assigns.items x assigns_is)
    (assign_known (netlist_of a) table c t before after (assign_of x) known raised)

pub always_kept : (a : Design) (table : List (Bor (List ℕ) × Entry)) (c : Counts) (before after : Targets) (flags : List Bool) (always : List (Stmt Net)) (x : Stmt Net) → IsKnown (netlist_of a) table c before flags → AddsTargets before after (statement_of x) → always ≡ a.always.items ++ x ∷ [] → IsKnown (record { names = (netlist_of a).names; ports = (netlist_of a).ports; declared = (netlist_of a).declared; wires = (netlist_of a).wires; assigns = (netlist_of a).assigns; always = map statement_of always }) table c after flags
always_kept a table c before after flags always x known noted always_is =
    subst (λ (xs : List (StatementTree Net)). IsKnown (record { names = (netlist_of a).names; ports = (netlist_of a).ports; declared = (netlist_of a).declared; wires = (netlist_of a).wires; assigns = (netlist_of a).assigns; always = xs }) table c after flags) (map_one_more statement_of always a.always.items x always_is)
    (always_known (netlist_of a) table c before after flags (statement_of x) known noted)

pub absent_as : (table : List (Bor (List ℕ) × Entry)) (a b : List ℕ) → a ≡ b → found_in table b ≡ None → found_in table a ≡ None
absent_as table a b e h = ap (λ (name : List ℕ). found_in table name) e ∙ h
