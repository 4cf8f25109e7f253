-- What a well-formed design keeps, item by item.
use Rattle.std.specs.Prelude.{◌≡◌, ℕ, zero, suc, ◌+◌, ◌<◌, Bool, true, false, ◌&&◌, Option, Some, None, List, [], ◌∷◌, length, take, IsTrue, ◌==◌}
use Rattle.std.proofs.Common.{get_or, not, refl, sym, ap, ◌∙◌, arith}
use Rattle.std.proofs.lemmas.Bool.{and_parts, eqb-true}
use Rattle.net_core.specs.declared.design.Declared.{Declared}
use Rattle.net_core.specs.declared.tree.Net.{Net}
use Rattle.design_rules.specs.declared.formed.NetError.{NetError}
use Rattle.design_rules.specs.declared.formed.Why.{Why}
use Rattle.design_rules.specs.declared.formed.Why.TheVariants.{Syntax, Unknown, Twice, Width, Ports}
use Rattle.net_core.specs.Nets.{StatementTree, WireTree, AssignTree, Netlist}
use Rattle.net_core.specs.Width.{is_assigned, all_assigned}
use Rattle.design_rules.specs.FormedSyntax.{tree_spelled, right_spelled, statement_spelled}
use Rattle.design_rules.specs.FormedScope.{sorts, reads_known, right_known, is_output, integer_known}
use Rattle.design_rules.specs.Formed.{Rule, first_broken, fault_at, or_else, section_fault, first_fault, IsWellFormed, has_name, is_new, declared_place, wire_place, declared_fits, wire_fits, assign_fits, block_known, block_fits, targets_free, ports_match, port_names_match, declared_rules, wire_rules, assign_rules, always_rules, last_rules, wires_start, assigns_start, always_start, items_of}

pub record DeclaredKept (d : Netlist) (k : ℕ) (x : Declared) : Type 0 where
  pub name : IsTrue (has_name d (declared_place d k))
  pub integer : IsTrue (integer_known (take k d.declared) x)
  pub new : IsTrue (is_new d (declared_place d k))
  pub fits : IsTrue (declared_fits x)

pub record WireKept (d : Netlist) (k : ℕ) (w : WireTree) : Type 0 where
  pub name : IsTrue (has_name d (wire_place d k))
  pub spelled : IsTrue (right_spelled w.right)
  pub known : IsTrue (right_known (sorts d k) w.right)
  pub new : IsTrue (is_new d (wire_place d k))
  pub fits : IsTrue (wire_fits d k w)

pub record AssignKept (d : Netlist) (k : ℕ) (a : AssignTree) : Type 0 where
  pub spelled : IsTrue (tree_spelled a.value)
  pub output : IsTrue (is_output d.ports a.port)
  pub known : IsTrue (reads_known (sorts d (length d.wires)) a.value)
  pub once : is_assigned (take k d.assigns) a.port ≡ false
  pub fits : IsTrue (assign_fits d a)

pub record BlockKept (d : Netlist) (k : ℕ) (a : StatementTree Net) : Type 0 where
  pub spelled : IsTrue (statement_spelled a)
  pub known : IsTrue (block_known d a)
  pub free : IsTrue (targets_free (take k d.always) a)
  pub fits : IsTrue (block_fits d a)

pub record LastKept (d : Netlist) : Type 0 where
  pub names : length d.names ≡ length d.ports + length d.declared + length d.wires
  pub ports : IsTrue (ports_match d)
  pub port_names : IsTrue (port_names_match d)
  pub assigned : IsTrue (all_assigned d.assigns 0 d.ports)

-- neither of two faults
no_first : (a b : Option NetError) → or_else a b ≡ None → a ≡ None
no_first None b h = refl
no_first (Some e) b h = cc

no_second : (a b : Option NetError) → or_else a b ≡ None → b ≡ None
no_second None b h = h
no_second (Some e) b h = cc

unbroken : (item : ℕ) (w : Option Why) → fault_at item w ≡ None → w ≡ None
unbroken item None h = refl
unbroken item (Some w) h = cc

record Four (a b c e : Bool) : Type 0 where
  first : a ≡ true
  second : b ≡ true
  third : c ≡ true
  fourth : e ≡ true

four : (a b c e : Bool) (v w x y : Why) → first_broken ((a, v) ∷ (b, w) ∷ (c, x) ∷ (e, y) ∷ []) ≡ None → Four a b c e
four true true true true v w x y h = record { first = refl; second = refl; third = refl; fourth = refl }
four true true true false v w x y h = cc
four true true false e v w x y h = cc
four true false c e v w x y h = cc
four false b c e v w x y h = cc

record Three (a b c : Bool) : Type 0 where
  first : a ≡ true
  second : b ≡ true
  third : c ≡ true

three : (a b c : Bool) (v w x : Why) → first_broken ((a, v) ∷ (b, w) ∷ (c, x) ∷ []) ≡ None → Three a b c
three true true true v w x h = record { first = refl; second = refl; third = refl }
three true true false v w x h = cc
three true false c v w x h = cc
three false b c v w x h = cc

pub negated : (b : Bool) → not b ≡ true → b ≡ false
negated true h = sym h
negated false h = refl

-- an item of a section without fault
pub section_kept : {A : Type 0} (rules : ℕ → A → List Rule) (start k : ℕ) (xs : List A) → section_fault rules start k xs ≡ None
    → (i : ℕ) (x : A) → i < length xs → x ≡ get_or xs i x → first_broken (rules (k + i) x) ≡ None
section_kept rules start k [] h i x l e = absurd (omega arith)
section_kept rules start k (y ∷ ys) h zero x l e =
    ap (λ n. first_broken (rules n x)) (omega arith) ∙ ap (λ z. first_broken (rules k z)) e ∙ unbroken (start + k) _ (no_first _ _ h)
section_kept rules start k (y ∷ ys) h (suc i) x l e =
    ap (λ n. first_broken (rules n x)) (omega arith) ∙ section_kept rules start (suc k) ys (no_second (fault_at (start + k) (first_broken (rules k y))) _ h) i x (omega arith) e

declared_keep : (d : Netlist) (k : ℕ) (x : Declared) → first_broken (declared_rules d k x) ≡ None → DeclaredKept d k x
declared_keep d k x h =
    let f = four (has_name d (declared_place d k)) (integer_known (take k d.declared) x) (is_new d (declared_place d k)) (declared_fits x) Syntax Unknown Twice Width h in
    record { name = f.first; integer = f.second; new = f.third; fits = f.fourth }

wire_keep : (d : Netlist) (k : ℕ) (w : WireTree) → first_broken (wire_rules d k w) ≡ None → WireKept d k w
wire_keep d k w h =
    let f = four (has_name d (wire_place d k) && right_spelled w.right) (right_known (sorts d k) w.right) (is_new d (wire_place d k)) (wire_fits d k w) Syntax Unknown Twice Width h in
    let s = and_parts (has_name d (wire_place d k)) (right_spelled w.right) f.first in
    record { name = s.0; spelled = s.1; known = f.second; new = f.third; fits = f.fourth }

assign_keep : (d : Netlist) (k : ℕ) (a : AssignTree) → first_broken (assign_rules d k a) ≡ None → AssignKept d k a
assign_keep d k a h =
    let f = four (tree_spelled a.value) (is_output d.ports a.port && reads_known (sorts d (length d.wires)) a.value) (not (is_assigned (take k d.assigns) a.port)) (assign_fits d a) Syntax Unknown Twice Width h in
    let s = and_parts (is_output d.ports a.port) (reads_known (sorts d (length d.wires)) a.value) f.second in
    record { spelled = f.first; output = s.0; known = s.1; once = negated (is_assigned (take k d.assigns) a.port) f.third; fits = f.fourth }

block_keep : (d : Netlist) (k : ℕ) (a : StatementTree Net) → first_broken (always_rules d k a) ≡ None → BlockKept d k a
block_keep d k a h =
    let f = four (statement_spelled a) (block_known d a) (targets_free (take k d.always) a) (block_fits d a) Syntax Unknown Twice Width h in
    record { spelled = f.first; known = f.second; free = f.third; fits = f.fourth }

-- the sections of a well-formed design, and what stands after them
record Whole (d : Netlist) : Type 0 where
  declared : section_fault (declared_rules d) 0 0 d.declared ≡ None
  wires : section_fault (wire_rules d) (wires_start d) 0 d.wires ≡ None
  assigns : section_fault (assign_rules d) (assigns_start d) 0 d.assigns ≡ None
  always : section_fault (always_rules d) (always_start d) 0 d.always ≡ None
  last : fault_at (items_of d) (first_broken (last_rules d)) ≡ None

five : (a b c e f : Option NetError) → or_else a (or_else b (or_else c (or_else e f))) ≡ None → (a ≡ None) × (b ≡ None) × (c ≡ None) × (e ≡ None) × (f ≡ None)
five None None None None f h = (refl, refl, refl, refl, h)
five None None None (Some x) f h = cc
five None None (Some x) e f h = cc
five None (Some x) c e f h = cc
five (Some x) b c e f h = cc

whole : (d : Netlist) → IsWellFormed d → Whole d
unfolding first_fault
whole d h =
    let f = five (section_fault (declared_rules d) 0 0 d.declared) (section_fault (wire_rules d) (wires_start d) 0 d.wires) (section_fault (assign_rules d) (assigns_start d) 0 d.assigns)
    (section_fault (always_rules d) (always_start d) 0 d.always) (fault_at (items_of d) (first_broken (last_rules d))) h in
    record { declared = f.0; wires = f.1; assigns = f.2; always = f.3; last = f.4 }

pub declared_kept : (d : Netlist) → IsWellFormed d → (k : ℕ) (x : Declared) → k < length d.declared → x ≡ get_or d.declared k x → DeclaredKept d k x
declared_kept d h k x l e = declared_keep d k x (ap (λ n. first_broken (declared_rules d n x)) (omega arith) ∙ section_kept (declared_rules d) 0 0 d.declared (whole d h).declared k x l e)

pub wire_kept : (d : Netlist) → IsWellFormed d → (k : ℕ) (w : WireTree) → k < length d.wires → w ≡ get_or d.wires k w → WireKept d k w
wire_kept d h k w l e = wire_keep d k w (ap (λ n. first_broken (wire_rules d n w)) (omega arith) ∙ section_kept (wire_rules d) (wires_start d) 0 d.wires (whole d h).wires k w l e)

pub assign_kept : (d : Netlist) → IsWellFormed d → (k : ℕ) (a : AssignTree) → k < length d.assigns → a ≡ get_or d.assigns k a → AssignKept d k a
assign_kept d h k a l e = assign_keep d k a (ap (λ n. first_broken (assign_rules d n a)) (omega arith) ∙ section_kept (assign_rules d) (assigns_start d) 0 d.assigns (whole d h).assigns k a l e)

pub block_kept : (d : Netlist) → IsWellFormed d → (k : ℕ) (a : StatementTree Net) → k < length d.always → a ≡ get_or d.always k a → BlockKept d k a
block_kept d h k a l e = block_keep d k a (ap (λ n. first_broken (always_rules d n a)) (omega arith) ∙ section_kept (always_rules d) (always_start d) 0 d.always (whole d h).always k a l e)

pub last_kept : (d : Netlist) → IsWellFormed d → LastKept d
last_kept d h =
    let f = three (length d.names == length d.ports + length d.declared + length d.wires) (ports_match d && port_names_match d) (all_assigned d.assigns 0 d.ports) Syntax Ports Ports
    (unbroken (items_of d) _ (whole d h).last) in
    let s = and_parts (ports_match d) (port_names_match d) f.second in
    record { names = eqb-true _ _ f.first; ports = s.0; port_names = s.1; assigned = f.third }
