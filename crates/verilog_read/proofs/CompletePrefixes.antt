-- What of a well-formed design stands before each of its ports and items, and that one more makes the next such prefix.
use Rattle.std.proofs.Common.{◌≡◌, ℕ, zero, suc, ◌+◌, ◌<◌, List, [], ◌∷◌, ◌++◌, length, take, drop, get_or, refl, sym, ap, ◌∙◌, arith}
use Rattle.std.proofs.lemmas.List.{take_more, take_all}
use Rattle.net_core.specs.declared.tree.Net.{Net}
use Rattle.net_core.specs.declared.design.Port.{Port}
use Rattle.net_core.specs.declared.design.Declared.{Declared}
use Rattle.net_core.specs.Nets.{StatementTree, WireTree, AssignTree, Netlist}
use Rattle.verilog_expression.specs.verilog_write.VerilogGrammar.Grammar.{text_at}
use Rattle.design_rules.specs.Formed.{IsWellFormed, declared_place, wire_place}
use Rattle.design_rules.proofs.FormedItemLaws.{last_kept}
use Rattle.verilog_read.specs.Header.{with_port, no_design}
use Rattle.verilog_read.specs.Declarations.{with_declared}
use Rattle.verilog_read.specs.Items.{with_wire, with_assign, with_always}

abbrev pub before_port : Netlist → ℕ → Netlist
before_port d k = record no_design { names = take k d.names; ports = take k d.ports }

abbrev pub before_declared : Netlist → ℕ → Netlist
before_declared d k = record no_design { names = take (length d.ports + k) d.names; ports = d.ports; declared = take k d.declared }

-- after all that is declared and so many wires
abbrev pub behind_wires : Netlist → ℕ → List AssignTree → List (StatementTree Net) → Netlist
behind_wires d k assigns always = record { names = take (length d.ports + length d.declared + k) d.names; ports = d.ports; declared = d.declared; wires = take k d.wires; assigns = assigns; always = always }

abbrev pub before_wire : Netlist → ℕ → Netlist
before_wire d k = behind_wires d k [] []

abbrev pub before_assign : Netlist → ℕ → Netlist
before_assign d k = behind_wires d (length d.wires) (take k d.assigns) []

abbrev pub before_always : Netlist → ℕ → Netlist
before_always d k = behind_wires d (length d.wires) (take (length d.assigns) d.assigns) (take k d.always)

-- ---- lists
-- what is left of a list, and what stands in front of the rest
pub left_in : {A : Type 0} (xs : List A) (k : ℕ) (x : A) (rest : List A) → drop k xs ≡ x ∷ rest → (k < length xs) × (x ≡ get_or xs k x) × (drop (suc k) xs ≡ rest)
left_in [] zero x rest h = cc
left_in [] (suc k) x rest h = cc
left_in (y ∷ xs) zero x rest h = (omega arith, cc, cc)
left_in (y ∷ xs) (suc k) x rest h = let f = left_in xs k x rest h in (omega arith, f.1, f.2)

grown : {A : Type 0} (xs : List A) (k j : ℕ) (x e : A) → k < length xs → x ≡ get_or xs k e → j ≡ suc k → take k xs ++ x ∷ [] ≡ take j xs
grown xs k j x e l p q = ap (λ z. take k xs ++ z ∷ []) p ∙ sym (take_more xs k e l) ∙ ap (λ n. take n xs) (omega arith)

-- ---- one more
pub port_next : (d : Netlist) → IsWellFormed d → (k : ℕ) (p : Port) → k < length d.ports → p ≡ get_or d.ports k p → with_port (text_at d k) p (before_port d k) ≡ before_port d (suc k)
port_next d h k p l e = rw (grown d.names k (suc k) (text_at d k) [] (omega (arith, (last_kept d h).names)) refl refl, grown d.ports k (suc k) p p l e refl) refl

pub declared_next : (d : Netlist) → IsWellFormed d → (k : ℕ) (x : Declared) → k < length d.declared → x ≡ get_or d.declared k x → with_declared (text_at d (declared_place d k)) x (before_declared d k) ≡ before_declared d (suc k)
declared_next d h k x l e =
    rw (grown d.names (length d.ports + k) (length d.ports + suc k) (text_at d (length d.ports + k)) [] (omega (arith, (last_kept d h).names)) refl (omega arith), grown d.declared k (suc k) x x l e refl) refl

pub wire_next : (d : Netlist) → IsWellFormed d → (k : ℕ) (w : WireTree) → k < length d.wires → w ≡ get_or d.wires k w → with_wire (text_at d (wire_place d k)) w (before_wire d k) ≡ before_wire d (suc k)
wire_next d h k w l e =
    rw (grown d.names (length d.ports + length d.declared + k) (length d.ports + length d.declared + suc k) (text_at d (wire_place d k)) [] (omega (arith, (last_kept d h).names)) refl (omega arith), grown d.wires k (suc k) w w l e refl) refl

pub assign_next : (d : Netlist) (k : ℕ) (a : AssignTree) → k < length d.assigns → a ≡ get_or d.assigns k a → with_assign a (before_assign d k) ≡ before_assign d (suc k)
assign_next d k a l e = rw (grown d.assigns k (suc k) a a l e refl) refl

pub always_next : (d : Netlist) (k : ℕ) (a : StatementTree Net) → k < length d.always → a ≡ get_or d.always k a → with_always a (before_always d k) ≡ before_always d (suc k)
always_next d k a l e = rw (grown d.always k (suc k) a a l e refl) refl

-- ---- all of a section: the prefix of the next one
pub ports_whole : (d : Netlist) (n : ℕ) → n ≡ length d.ports → before_port d n ≡ before_declared d 0
ports_whole d n e =
    let f : length d.ports + 0 ≡ length d.ports = omega arith in
    rw (e, f, take_all (length d.ports) d.ports (omega arith)) refl

pub declared_whole : (d : Netlist) → before_declared d (length d.declared) ≡ before_wire d 0
declared_whole d =
    let e : length d.ports + length d.declared + 0 ≡ length d.ports + length d.declared = omega arith in
    rw (e, take_all (length d.declared) d.declared (omega arith)) refl

pub always_whole : (d : Netlist) → IsWellFormed d → before_always d (length d.always) ≡ d
always_whole d h =
    rw (take_all (length d.ports + length d.declared + length d.wires) d.names (omega (arith, (last_kept d h).names)), take_all (length d.wires) d.wires (omega arith), take_all (length d.assigns) d.assigns (omega arith), take_all (length d.always) d.always (omega arith)) refl
