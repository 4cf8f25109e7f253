-- What a well-formed design gives to each function that writes a part of it.
use Rattle.std.specs.Prelude.{◌≡◌, ℕ, zero, suc, ◌+◌, ◌<◌, ◌≤◌, nat_lt, nat_le, if◌then◌else◌, Bool, true, false, ◌&&◌, ◌⊎◌, List, [], ◌∷◌, count_by, take, length, map}
use Rattle.std.specs.List.{list_all}
use Rattle.std.proofs.Common.{get_or, sym, ap, ◌∙◌, inl, inr, arith}
use Rattle.std.proofs.lemmas.Bool.{and_parts, leb-true, ltb-true, cases_lt}
use Rattle.std.proofs.lemmas.List.{get_or_past, get_or-map, length-map}
use Rattle.std.proofs.lemmas.List.Sums.{sum_by-take-le}
use Rattle.net_core.specs.declared.tree.Net.{Net}
use Rattle.net_core.specs.declared.tree.Net.TheVariants.{Register, Memory}
use Rattle.net_core.specs.declared.design.Port.{Port}
use Rattle.net_core.specs.declared.design.Declared.{Declared}
use Rattle.net_core.specs.declared.design.Declared.TheVariants as declared
use Rattle.net_core.specs.Names.{is_integer, place_of, name_place}
use Rattle.net_core.specs.Nets.{StatementTree, WireTree, AssignTree, Netlist}
use Rattle.net_core.specs.Width.{right_width, width_of, output_width, full_scope, register_widths, memory_widths, same, word_fits, scope_before}
use Rattle.verilog_lex.specs.Spelling.{IsName}
use Rattle.design_rules.specs.FormedSyntax.{trees_pass}
use Rattle.design_rules.specs.FormedScope.{sorts, reads_known, is_output, registers_of, memories_of}
use Rattle.design_rules.specs.Formed.{IsWellFormed, targets_known}
use Rattle.verilog_write.specs.VerilogGrammar.Grammar.{text_at, integer_name}
use Rattle.design_rules.proofs.FormedItemLaws.{declared_kept, wire_kept, assign_kept, block_kept, last_kept}
use Rattle.design_rules.proofs.FormedWidthLaws.{ports_listed, same_some}
use Rattle.design_rules.proofs.FormedLaws.{name_spelled, value_named, words_named, place_of_below}
use Rattle.verilog_write.specs.Writable.{IsWritable, IsRightWritable, IsStatementWritable, IsDeclarationWritable}
use Rattle.verilog_write.proofs.Words.{word_of_name}
use Rattle.verilog_write.proofs.Written.{AreNamed, tree_written, right_written, statement_written, fits_of_word}

pub text_named : (d : Netlist) → IsWellFormed d → (place : ℕ) → place < length d.names → IsName (text_at d place)
text_named d h place l = word_of_name (text_at d place) (name_spelled d h place l)

nets_named : (d : Netlist) → IsWellFormed d → (before : ℕ) → before ≤ length d.wires → AreNamed d (sorts d before) (λ k. nat_lt k (registers_of d)) (λ k. nat_lt k (memories_of d))
nets_named d h before l = record {
  value = λ n v. text_named d h (name_place d n) (value_named d h before n l v);
  memory = λ n v. text_named d h (name_place d n) (words_named d h n v);
  register = λ k v. text_named d h (name_place d (Register k)) (value_named d h before (Register k) l v);
  stored = λ k v. text_named d h (name_place d (Memory k)) (words_named d h (Memory k) v);
}

-- ---- ports
pub port_named : (d : Netlist) → IsWellFormed d → (k : ℕ) → k < length d.ports → IsName (text_at d k)
port_named d h k l = text_named d h k (omega (arith, (last_kept d h).names))

all_at : {A : Type 0} (p : A → Bool) (xs : List A) → list_all p xs ≡ true → (k : ℕ) (x : A) → k < length xs → x ≡ get_or xs k x → p x ≡ true
all_at p [] h k x l e = absurd (omega arith)
all_at p (y ∷ ys) h zero x l e = ap p e ∙ (and_parts (p y) (list_all p ys) h).0
all_at p (y ∷ ys) h (suc k) x l e = all_at p ys (and_parts (p y) (list_all p ys) h).1 k x (omega arith) e

pub port_wide : (d : Netlist) → IsWellFormed d → (k : ℕ) (p : Port) → k < length d.ports → p ≡ get_or d.ports k p → 0 < p.width
port_wide d h k p l e = ltb-true 0 p.width (all_at (λ q. nat_lt 0 q.width) d.ports (ap (list_all (λ q. nat_lt 0 q.width)) (ports_listed d h)) k p l e)

-- ---- what is declared
pub declared_named : (d : Netlist) → IsWellFormed d → (k : ℕ) → k < length d.declared → IsName (text_at d (length d.ports + k))
declared_named d h k l = text_named d h (length d.ports + k) (omega (arith, (last_kept d h).names))

integer_named : (d : Netlist) → IsWellFormed d → (k n : ℕ) → n < count_by is_integer (take k d.declared) → IsName (integer_name d n)
integer_named d h k n l =
    let below : n < count_by is_integer d.declared = omega (arith, l, sum_by-take-le (λ x. if is_integer x then 1 else 0) d.declared k) in
    text_named d h (length d.ports + place_of is_integer d.declared n) (omega (arith, (last_kept d h).names, place_of_below is_integer d.declared n below))

pub declared_writable : (d : Netlist) → IsWellFormed d → (k : ℕ) (x : Declared) → k < length d.declared → x ≡ get_or d.declared k x → IsDeclarationWritable d x
declared_writable d h k declared.Integer l e = tt
declared_writable d h k (declared.Register w) l e = fits_of_word w (declared_kept d h k (declared.Register w) l e).fits
declared_writable d h k (declared.Memory i w n) l e =
    let kept = declared_kept d h k (declared.Memory i w n) l e in
    let s = and_parts (nat_le 1 i && nat_le i 16) (word_fits w) kept.fits in
    (leb-true i 16 (and_parts (nat_le 1 i) (nat_le i 16) s.0).1, fits_of_word w s.1, integer_named d h k n (ltb-true n (count_by is_integer (take k d.declared)) kept.integer))

-- ---- wires
pub wire_named : (d : Netlist) → IsWellFormed d → (k : ℕ) → k < length d.wires → IsName (text_at d (length d.ports + length d.declared + k))
wire_named d h k l = text_named d h (length d.ports + length d.declared + k) (omega (arith, (last_kept d h).names))

wire_sides : (d : Netlist) → IsWellFormed d → (k : ℕ) (w : WireTree) → k < length d.wires → w ≡ get_or d.wires k w → (0 < w.width) × (0 < right_width (scope_before d k) w.right)
wire_sides d h k w l e =
    same_some w.width (right_width (scope_before d k) w.right)
    (and_parts (same w.width (right_width (scope_before d k) w.right)) (nat_le w.width 64) (wire_kept d h k w l e).fits).0

pub wire_wide : (d : Netlist) → IsWellFormed d → (k : ℕ) (w : WireTree) → k < length d.wires → w ≡ get_or d.wires k w → 0 < w.width
wire_wide d h k w l e = (wire_sides d h k w l e).0

pub wire_writable : (d : Netlist) → IsWellFormed d → (k : ℕ) (w : WireTree) → k < length d.wires → w ≡ get_or d.wires k w → IsRightWritable d w.right
wire_writable d h k w l e =
    right_written d (sorts d k) (λ i. nat_lt i (registers_of d)) (λ i. nat_lt i (memories_of d)) (nets_named d h k (omega arith)) (scope_before d k) w.right
    (wire_kept d h k w l e).known (wire_sides d h k w l e).1

-- ---- assigns
output_there : (ports : List Port) (k : ℕ) → is_output ports k ≡ true → k < length ports
output_there ports k h = go (cases_lt k (length ports))
  where
    go : (k < length ports) ⊎ (length ports ≤ k) → k < length ports
    go (inl below) = below
    go (inr past) = let e = ap (λ q. q.output) (get_or_past ports k (record { output = false; width = 0 }) past) in absurd cc

pub assign_named : (d : Netlist) → IsWellFormed d → (k : ℕ) (a : AssignTree) → k < length d.assigns → a ≡ get_or d.assigns k a → IsName (text_at d a.port)
assign_named d h k a l e = port_named d h a.port (output_there d.ports a.port (assign_kept d h k a l e).output)

pub assign_writable : (d : Netlist) → IsWellFormed d → (k : ℕ) (a : AssignTree) → k < length d.assigns → a ≡ get_or d.assigns k a → IsWritable d a.value
assign_writable d h k a l e =
    tree_written d (sorts d (length d.wires)) (λ i. nat_lt i (registers_of d)) (λ i. nat_lt i (memories_of d)) (nets_named d h (length d.wires) (omega arith)) (full_scope d) a.value
    (assign_kept d h k a l e).known
    (same_some (output_width (get_or d.ports a.port (record { output = false; width = 0 }))) (width_of (full_scope d) a.value) (assign_kept d h k a l e).fits).1

-- ---- always blocks
pub block_writable : (d : Netlist) → IsWellFormed d → (k : ℕ) (a : StatementTree Net) → k < length d.always → a ≡ get_or d.always k a → IsStatementWritable d a
block_writable d h k a l e =
    let kept = block_kept d h k a l e in
    let s = and_parts (targets_known d a) (trees_pass (reads_known (sorts d (length d.wires))) a) kept.known in
    statement_written d (sorts d (length d.wires)) (λ i. nat_lt i (registers_of d)) (λ i. nat_lt i (memories_of d)) (nets_named d h (length d.wires) (omega arith))
    (full_scope d) (register_widths d.declared) (memory_widths d.declared) a s.0 s.1 kept.fits

-- ---- what stands at a place of a list, seen by a view
pub at_view : {A B : Type 0} (f : A → B) (xs : List A) (k : ℕ) (x : A) → k < length xs → x ≡ get_or xs k x → f x ≡ get_or (map f xs) k (f x)
at_view f xs k x l e = ap f e ∙ sym (get_or-map f xs k x (f x) l)

pub below_view : {A B : Type 0} (f : A → B) (xs : List A) (k : ℕ) → k < length xs → k < length (map f xs)
below_view f xs k l = omega (arith, l, length-map xs f)
