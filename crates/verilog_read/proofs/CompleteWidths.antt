-- No input, register, memory or wire of a well-formed design has more than 64 bits.
use Rattle.std.proofs.Common.{◌≡◌, ℕ, zero, suc, ◌<◌, ◌≤◌, Bool, true, ◌&&◌, List, [], ◌∷◌, length, get_or, nat_lt, refl, sym, ap, ◌∙◌, arith}
use Rattle.std.specs.Prelude.{nat_le, take, count_by, ◌==◌}
use Rattle.std.specs.List.{list_all}
use Rattle.std.proofs.lemmas.Bool.{and_parts, leb-true, ltb-true, eqb-true}
use Rattle.std.proofs.lemmas.List.{get_or_default}
use Rattle.net_core.specs.declared.tree.Word.{Word}
use Rattle.net_core.specs.declared.design.Port.{Port}
use Rattle.net_core.specs.declared.design.Declared.{Declared}
use Rattle.net_core.specs.declared.design.Declared.TheVariants as declared
use Rattle.net_core.specs.Nets.{TConst, RPlain, WireTree, Netlist}
use Rattle.net_core.specs.Names.{is_register, is_memory, place_of}
use Rattle.net_core.specs.Width.{same, right_width, register_widths, memory_widths, wire_widths, word_fits, scope_before}
use Rattle.net_core.proofs.WireLaws.{width_at}
use Rattle.design_rules.specs.Formed.{IsWellFormed, declared_fits}
use Rattle.design_rules.proofs.FormedItemLaws.{declared_kept, wire_kept}
use Rattle.design_rules.proofs.FormedWidthLaws.{ports_listed}
use Rattle.verilog_read.proofs.LawPlaces.{place_at, bits_of, register_bits, memory_bits}
use Rattle.verilog_read.proofs.SoundKnows.{all_at}

-- ---- ports
pub port_most : (d : Netlist) → IsWellFormed d → (k : ℕ) (none : Port) → k < length d.ports → (0 < (get_or d.ports k none).width) × ((get_or d.ports k none).width ≤ 64)
port_most d h k none l =
    let test : Port → Bool = λ p. nat_lt 0 p.width && nat_le p.width 64 in
    let t = and_parts (nat_lt 0 (get_or d.ports k none).width) (nat_le (get_or d.ports k none).width 64) (all_at test d.ports k none (ap (list_all test) (ports_listed d h)) l) in
    (ltb-true 0 (get_or d.ports k none).width t.0, leb-true (get_or d.ports k none).width 64 t.1)

-- ---- what is declared
pub word_bits : (w : Word) → word_fits w ≡ true → (0 < w.width) × (w.width ≤ 64)
word_bits w h =
    let t = and_parts (nat_lt 0 w.width) _ h in
    (ltb-true 0 w.width t.0, leb-true w.width 64 (and_parts (nat_le w.width 64) _ t.1).0)

part_select_most : (x : Declared) → declared_fits x ≡ true → bits_of x ≤ 64
part_select_most declared.Integer h = omega arith
part_select_most (declared.Register w) h = (word_bits w h).1
part_select_most (declared.Memory i w n) h = (word_bits w (and_parts (nat_le 1 i && nat_le i 16) (word_fits w) h).1).1

declared_most : (d : Netlist) → IsWellFormed d → (i : ℕ) → i < length d.declared → bits_of (get_or d.declared i declared.Integer) ≤ 64
declared_most d h i l = part_select_most (get_or d.declared i declared.Integer) (declared_kept d h i (get_or d.declared i declared.Integer) l (get_or_default d.declared i declared.Integer _ l)).fits

pub register_most : (d : Netlist) → IsWellFormed d → (k : ℕ) → k < count_by is_register d.declared → get_or (register_widths d.declared) k 0 ≤ 64
register_most d h k l =
    let s = place_at is_register d.declared declared.Integer k l in
    let i = place_of is_register d.declared k in
    let e : get_or (register_widths d.declared) k 0 ≡ bits_of (get_or d.declared i declared.Integer) =
    ap (λ j. get_or (register_widths d.declared) j 0) (sym s.number) ∙ register_bits d.declared i declared.Integer s.below s.passes in
    omega (arith, e, declared_most d h i s.below)

pub memory_most : (d : Netlist) → IsWellFormed d → (k : ℕ) → k < count_by is_memory d.declared → (get_or (memory_widths d.declared) k (0, 0)).1 ≤ 64
memory_most d h k l =
    let s = place_at is_memory d.declared declared.Integer k l in
    let i = place_of is_memory d.declared k in
    let e : (get_or (memory_widths d.declared) k (0, 0)).1 ≡ bits_of (get_or d.declared i declared.Integer) =
    ap (λ j. (get_or (memory_widths d.declared) j (0, 0)).1) (sym s.number) ∙ ap (λ (p : ℕ × ℕ). p.1) (memory_bits d.declared i declared.Integer s.below s.passes) in
    omega (arith, e, declared_most d h i s.below)

-- ---- wires
-- both sides of an assignment
pub sides : (v w : ℕ) → same v w ≡ true → (0 < w) × (w ≡ v)
sides v w h =
    let t = and_parts (nat_lt 0 v) (v == w) h in
    let e : v ≡ w = eqb-true v w t.1 in
    let some : 0 < v = ltb-true 0 v t.0 in
    (omega arith, sym e)

pub wire_most : (d : Netlist) → IsWellFormed d → (k : ℕ) (w : WireTree) → k < length d.wires → w ≡ get_or d.wires k w → w.width ≤ 64
wire_most d h k w l e = leb-true w.width 64 (and_parts (same w.width (right_width (scope_before d k) w.right)) (nat_le w.width 64) (wire_kept d h k w l e).fits).1

no_wire : WireTree
no_wire = record { width = 0; right = RPlain (TConst (record { width = 0; value = 0 })) }

pub wires_most : (d : Netlist) → IsWellFormed d → (k : ℕ) → k < length d.wires → get_or (wire_widths d.wires) k 0 ≤ 64
wires_most d h k l = omega (arith, width_at d.wires k no_wire l, wire_most d h k (get_or d.wires k no_wire) l (get_or_default d.wires k no_wire _ l))

pub widths_taken : (n : ℕ) (ws : List WireTree) → wire_widths (take n ws) ≡ take n (wire_widths ws)
widths_taken zero ws = refl
widths_taken (suc n) [] = refl
widths_taken (suc n) (w ∷ ws) = ap (λ xs. w.width ∷ xs) (widths_taken n ws)
