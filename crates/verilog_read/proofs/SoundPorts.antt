-- What the ports of a design without a fault of the ports are, and that it keeps the rules that are asked after the items.
use Rattle.std.proofs.Common.{◌≡◌, ℕ, suc, ◌+◌, ◌<◌, Bool, true, false, not, ◌&&◌, Option, Some, None, List, [], ◌∷◌, length, get_or, nat_lt, refl, ap, ◌∙◌, arith}
use Rattle.std.specs.Prelude.{◌==◌, if◌then◌else◌, take}
use Rattle.std.specs.Str.{bytes_eq}
use Rattle.std.specs.List.{list_all}
use Rattle.std.specs.Cmp.Lexicographic.{pointwise}
use Rattle.std.proofs.lemmas.Bool.{and_parts, and_from, eqb-true, eq-eqb}
use Rattle.std.proofs.lemmas.Slice.Eq.{bytes_eq-Decides}
use Rattle.net_core.specs.declared.design.Port.{Port}
use Rattle.net_core.specs.Nets.{AssignTree, Netlist}
use Rattle.net_core.specs.Ports.{port_list, port_names}
use Rattle.net_core.specs.Width.{is_assigned, all_assigned}
use Rattle.design_rules.specs.declared.formed.Why.{Why}
use Rattle.design_rules.specs.declared.formed.Why.TheVariants.{Syntax, Ports}
use Rattle.design_rules.specs.Formed.{first_broken, same_bool, same_port, ports_match, port_names_match, last_rules}
use Rattle.verilog_read.specs.Designs.{other_port, unassigned, or_else, port_fault}
use Rattle.verilog_read.proofs.SoundKnows.{HasPortsOfAll}

-- ---- ports and their names
no_number : (b : Bool) (o : Option ℕ) (k : ℕ) → (if b then o else Some k) ≡ None → (b ≡ true) × (o ≡ None)
no_number true o k h = (refl, h)
no_number false o k h = absurd cc

no_number_before : (b : Bool) (o : Option ℕ) (k : ℕ) → (if b then Some k else o) ≡ None → (b ≡ false) × (o ≡ None)
no_number_before true o k h = absurd cc
no_number_before false o k h = (refl, h)

no_port : (a b : Option ℕ) → or_else a b ≡ None → (a ≡ None) × (b ≡ None)
no_port None b h = (refl, h)
no_port (Some k) b h = absurd cc

record ArePorts (names : List (List ℕ)) (ps : List Port) (ns : List (List ℕ)) (qs : List Port) : Type 0 where
  ports : pointwise same_port ps qs ≡ true
  names_match : pointwise bytes_eq (take (length ns) names) ns ≡ true

next_port : (s : List ℕ) (names : List (List ℕ)) (p : Port) (ps : List Port) (n : List ℕ) (ns : List (List ℕ)) (q : Port) (qs : List Port) → (bytes_eq s n && same_port p q) ≡ true → ArePorts names ps ns qs → ArePorts (s ∷ names) (p ∷ ps) (n ∷ ns) (q ∷ qs)
next_port s names p ps n ns q qs h r =
    let t = and_parts (bytes_eq s n) (same_port p q) h in
    record {
      ports = and_from (same_port p q) (pointwise same_port ps qs) t.1 r.ports;
      names_match = and_from (bytes_eq s n) (pointwise bytes_eq (take (length ns) names) ns) t.0 r.names_match;
    }

same_ports : (k : ℕ) (names : List (List ℕ)) (ps : List Port) (ns : List (List ℕ)) (qs : List Port) → other_port k names ps ns qs ≡ None → length ns ≡ length qs → ArePorts names ps ns qs
same_ports k names [] [] [] h l = record { ports = refl; names_match = refl }
same_ports k names [] (n ∷ ns) [] h l = absurd (omega arith)
same_ports k names (p ∷ ps) ns [] h l = absurd cc
same_ports k names [] ns (q ∷ qs) h l = absurd cc
same_ports k [] (p ∷ ps) ns (q ∷ qs) h l = absurd cc
same_ports k (s ∷ names) (p ∷ ps) [] (q ∷ qs) h l = absurd cc
same_ports k (s ∷ names) (p ∷ ps) (n ∷ ns) (q ∷ qs) h l =
    let t = no_number (bytes_eq s n && same_port p q) (other_port (suc k) names ps ns qs) k h in
    next_port s names p ps n ns q qs t.0 (same_ports (suc k) names ps ns qs t.1 (omega arith))

-- the first name
first_name : (names ns : List (List ℕ)) → 0 < length ns → pointwise bytes_eq (take (length ns) names) ns ≡ true → get_or names 0 [] ≡ get_or ns 0 []
first_name names [] l h = absurd (omega arith)
first_name [] (n ∷ ns) l h = absurd cc
first_name (s ∷ names) (n ∷ ns) l h = (bytes_eq-Decides s n).0 (and_parts (bytes_eq s n) (pointwise bytes_eq (take (length ns) names) ns) h).0

-- ---- widths
some_width : (p q : Port) → same_port p q ≡ true → nat_lt 0 q.width ≡ true → nat_lt 0 p.width ≡ true
some_width p q h k = ap (nat_lt 0) (eqb-true p.width q.width (and_parts (same_bool p.output q.output) (p.width == q.width) h).1) ∙ k

some_widths : (ps qs : List Port) → pointwise same_port ps qs ≡ true → list_all (λ (q : Port). nat_lt 0 q.width) qs ≡ true → list_all (λ (p : Port). nat_lt 0 p.width) ps ≡ true
some_widths [] [] h k = refl
some_widths [] (q ∷ qs) h k = absurd cc
some_widths (p ∷ ps) [] h k = absurd cc
some_widths (p ∷ ps) (q ∷ qs) h k =
    let t = and_parts (same_port p q) (pointwise same_port ps qs) h in
    let u = and_parts (nat_lt 0 q.width) (list_all (λ (r : Port). nat_lt 0 r.width) qs) k in
    and_from (nat_lt 0 p.width) (list_all (λ (r : Port). nat_lt 0 r.width) ps) (some_width p q t.0 u.0) (some_widths ps qs t.1 u.1)

-- ---- outputs
output_assigned : (output assigned : Bool) → (output && not assigned) ≡ false → (if output then assigned else true) ≡ true
output_assigned true true h = refl
output_assigned true false h = absurd cc
output_assigned false assigned h = refl

outputs_assigned : (k : ℕ) (assigns : List AssignTree) (ps : List Port) → unassigned k assigns ps ≡ None → all_assigned assigns k ps ≡ true
outputs_assigned k assigns [] h = refl
outputs_assigned k assigns (p ∷ ps) h =
    let t = no_number_before (p.output && not (is_assigned assigns k)) (unassigned (suc k) assigns ps) k h in
    and_from (if p.output then is_assigned assigns k else true) (all_assigned assigns (suc k) ps) (output_assigned p.output (is_assigned assigns k) t.0) (outputs_assigned (suc k) assigns ps t.1)

-- ---- the rules after the items
three_kept : (a b c : Bool) (v w x : Why) → a ≡ true → b ≡ true → c ≡ true → first_broken ((a, v) ∷ (b, w) ∷ (c, x) ∷ []) ≡ None
three_kept a b c v w x p q r = rw (p, q, r) refl

the_ports : (e : Netlist) → port_fault e ≡ None → ArePorts e.names e.ports port_names port_list
unfolding port_fault
the_ports e h = same_ports 0 e.names e.ports port_names port_list (no_port (other_port 0 e.names e.ports port_names port_list) (unassigned 0 e.assigns e.ports) h).0 refl

the_outputs : (e : Netlist) → port_fault e ≡ None → all_assigned e.assigns 0 e.ports ≡ true
unfolding port_fault
the_outputs e h = outputs_assigned 0 e.assigns e.ports (no_port (other_port 0 e.names e.ports port_names port_list) (unassigned 0 e.assigns e.ports) h).1

pub ports_of_all : (e : Netlist) → port_fault e ≡ None → HasPortsOfAll e
ports_of_all e h =
    let t = the_ports e h in
    record { some = some_widths e.ports port_list t.ports refl; clock = first_name e.names port_names (omega arith) t.names_match }

pub last_keeps : (e : Netlist) → port_fault e ≡ None → length e.names ≡ length e.ports + length e.declared + length e.wires → first_broken (last_rules e) ≡ None
last_keeps e h counted =
    let t = the_ports e h in
    three_kept (length e.names == length e.ports + length e.declared + length e.wires) (ports_match e && port_names_match e) (all_assigned e.assigns 0 e.ports) Syntax Ports Ports
    (eq-eqb (length e.names) (length e.ports + length e.declared + length e.wires) counted)
    (and_from (ports_match e) (port_names_match e) t.ports t.names_match)
    (the_outputs e h)
