-- Each item of a well-formed design is read where it is spelled, after what stands before it.
use Rattle.std.proofs.Common.{◌≡◌, ℕ, suc, ◌<◌, false, ◌&&◌, Ok, List, [], ◌++◌, length, take, get_or, refl, ap, ◌∙◌, arith}
use Rattle.std.specs.Prelude.{nat_le, count_by}
use Rattle.std.proofs.lemmas.Bool.{and_parts, leb-true, ltb-true, cond-true}
use Rattle.net_core.specs.declared.tree.Net.{Net}
use Rattle.net_core.specs.declared.design.Port.{Port}
use Rattle.net_core.specs.declared.design.Declared.{Declared}
use Rattle.net_core.specs.declared.design.Declared.TheVariants as declared
use Rattle.net_core.specs.Nets.{StatementTree, WireTree, AssignTree, Netlist}
use Rattle.net_core.specs.Names.{is_integer, name_of}
use Rattle.net_core.specs.Width.{same, width_of, right_width, full_scope, output_width, word_fits, register_widths, memory_widths, scope_before}
use Rattle.verilog_lex.specs.Lexeme.{Lexeme}
use Rattle.verilog_expression.specs.verilog_write.VerilogGrammar.Grammar.{port_lexemes, declared_lexemes, wire_lexemes, assign_lexemes, always_lexemes, text_at, integer_name}
use Rattle.design_rules.specs.FormedSyntax.{trees_pass}
use Rattle.design_rules.specs.FormedScope.{reads_known, sorts}
use Rattle.design_rules.specs.Formed.{IsWellFormed, declared_place, wire_place, targets_known}
use Rattle.design_rules.proofs.FormedItemLaws.{declared_kept, wire_kept, assign_kept, block_kept, last_kept}
use Rattle.design_rules.proofs.FormedLaws.{name_spelled}
use Rattle.verilog_expression.specs.Laws.{IsStatementKept, IsBehindStatement, statement_lexemes}
use Rattle.verilog_read.specs.Entries.{free_in}
use Rattle.verilog_read.specs.Header.{port_at}
use Rattle.verilog_read.specs.Declarations.{with_declared}
use Rattle.verilog_read.specs.Items.{item_at}
use Rattle.verilog_read.proofs.CompleteParts.{port_again, integer_again, register_again, memory_again}
use Rattle.verilog_read.proofs.CompleteSides.{wire_again, assign_again, always_again}
use Rattle.verilog_read.proofs.CompletePrefixes.{before_port, before_declared, before_wire, before_assign, before_always, port_next, declared_next, wire_next, assign_next, always_next}
use Rattle.verilog_read.proofs.CompletePlaces.{new_behind, integer_named}
use Rattle.verilog_read.proofs.CompleteWidths.{port_most, word_bits, sides, wire_most}
use Rattle.verilog_read.proofs.CompleteKnown.{output_there, output_known, names, all_names, target_widths}

-- ---- ports
pub port_read : (d : Netlist) → IsWellFormed d → (k : ℕ) (p : Port) (us : List Lexeme) → k < length d.ports → p ≡ get_or d.ports k p → port_at (before_port d k) (port_lexemes (text_at d k) p ++ us) ≡ Ok (before_port d (suc k), us)
port_read d h k p us l e =
    let w = port_most d h k p l in
    port_again (before_port d k) (text_at d k) p us (new_behind d h (before_port d k) k refl (omega (arith, (last_kept d h).names))) (omega (arith, ap (λ (q : Port). q.width) e, w.0)) (omega (arith, ap (λ (q : Port). q.width) e, w.1))
    ∙ ap (λ a. Ok (a, us)) (port_next d h k p l e)

-- ---- what is declared
declared_again : (d : Netlist) → IsWellFormed d → (k : ℕ) (x : Declared) (us : List Lexeme) → k < length d.declared → x ≡ get_or d.declared k x
    → item_at (before_declared d k) (declared_lexemes (integer_name d) (text_at d (declared_place d k)) x ++ us) ≡ Ok (with_declared (text_at d (declared_place d k)) x (before_declared d k), us)
declared_again d h k declared.Integer us l e = integer_again (before_declared d k) (integer_name d) (text_at d (declared_place d k)) us (new_behind d h (before_declared d k) (declared_place d k) refl (omega (arith, (last_kept d h).names)))
declared_again d h k (declared.Register w) us l e =
    let fits = (declared_kept d h k (declared.Register w) l e).fits in
    let f = word_bits w fits in
    register_again (before_declared d k) (integer_name d) (text_at d (declared_place d k)) w us (new_behind d h (before_declared d k) (declared_place d k) refl (omega (arith, (last_kept d h).names))) f.0 f.1 fits
declared_again d h k (declared.Memory index w i) us l e =
    let kept = declared_kept d h k (declared.Memory index w i) l e in
    let p = and_parts (nat_le 1 index && nat_le index 16) (word_fits w) kept.fits in
    let q = and_parts (nat_le 1 index) (nat_le index 16) p.0 in
    let f = word_bits w p.1 in
    memory_again (before_declared d k) (integer_name d) (text_at d (declared_place d k)) index i w us (new_behind d h (before_declared d k) (declared_place d k) refl (omega (arith, (last_kept d h).names))) f.0 f.1 p.1 (leb-true 1 index q.0) (leb-true index 16 q.1)
    (integer_named d h k i (omega arith) (ltb-true i (count_by is_integer (take k d.declared)) kept.integer))

pub declared_read : (d : Netlist) → IsWellFormed d → (k : ℕ) (x : Declared) (us : List Lexeme) → k < length d.declared → x ≡ get_or d.declared k x → item_at (before_declared d k) (declared_lexemes (integer_name d) (text_at d (declared_place d k)) x ++ us) ≡ Ok (before_declared d (suc k), us)
declared_read d h k x us l e = declared_again d h k x us l e ∙ ap (λ a. Ok (a, us)) (declared_next d h k x l e)

-- ---- wires, which read those before
pub wire_read : (d : Netlist) → IsWellFormed d → (k : ℕ) (w : WireTree) (us : List Lexeme) → k < length d.wires → w ≡ get_or d.wires k w → item_at (before_wire d k) (wire_lexemes (name_of d) (text_at d (wire_place d k)) w.width w.right ++ us) ≡ Ok (before_wire d (suc k), us)
wire_read d h k w us l e =
    let kept = wire_kept d h k w l e in
    let t = sides w.width (right_width (scope_before d k) w.right) (and_parts (same w.width (right_width (scope_before d k) w.right)) (nat_le w.width 64) kept.fits).0 in
    wire_again (before_wire d k) (name_of d) (scope_before d k) (sorts d k) (names d h k (omega arith) [] [])
    (text_at d (wire_place d k)) w us (new_behind d h (before_wire d k) (wire_place d k) refl (omega (arith, (last_kept d h).names))) (omega (arith, t.0, t.1)) (wire_most d h k w l e)
    (record { spelled = kept.spelled; some = t.0; known = kept.known }) t.1
    ∙ ap (λ a. Ok (a, us)) (wire_next d h k w l e)

-- ---- assigns, to outputs
pub assign_read : (d : Netlist) → IsWellFormed d → (k : ℕ) (a : AssignTree) (us : List Lexeme) → k < length d.assigns → a ≡ get_or d.assigns k a → item_at (before_assign d k) (assign_lexemes (name_of d) (text_at d a.port) a.value ++ us) ≡ Ok (before_assign d (suc k), us)
assign_read d h k a us l e =
    let kept = assign_kept d h k a l e in
    let p : Port = get_or d.ports a.port (record { output = false; width = 0 }) in
    let t = sides (output_width p) (width_of (full_scope d) a.value) kept.fits in
    let below = output_there d a.port kept.output in
    assign_again (before_assign d k) (name_of d) (full_scope d) (sorts d (length d.wires)) (all_names d h (take k d.assigns) [])
    (text_at d a.port) a p.width us
    (record { proper = name_spelled d h a.port (omega (arith, (last_kept d h).names)); stands = output_known d h (length d.wires) (omega arith) (take k d.assigns) [] a.port kept.output; free = kept.once })
    (record { spelled = kept.spelled; some = t.0; known = kept.known }) (t.1 ∙ cond-true p.output p.width 0 kept.output)
    ∙ ap (λ x. Ok (x, us)) (assign_next d k a l e)

-- ---- always blocks, which set what no block before sets
block_keeps : (d : Netlist) → IsWellFormed d → (k : ℕ) (a : StatementTree Net) → k < length d.always → a ≡ get_or d.always k a → IsStatementKept (full_scope d) (sorts d (length d.wires)) (free_in (before_always d k)) (register_widths d.declared) (memory_widths d.declared) a
unfolding free_in
block_keeps d h k a l e =
    let kept = block_kept d h k a l e in
    let t = and_parts (targets_known d a) (trees_pass (reads_known (sorts d (length d.wires))) a) kept.known in
    record { spelled = kept.spelled; typed = kept.fits; known = t.1; known_targets = t.0; free_targets = kept.free }

pub always_read : (d : Netlist) → IsWellFormed d → (k : ℕ) (a : StatementTree Net) (us : List Lexeme) → k < length d.always → a ≡ get_or d.always k a → IsBehindStatement a us → item_at (before_always d k) (always_lexemes (statement_lexemes (name_of d) a) ++ us) ≡ Ok (before_always d (suc k), us)
always_read d h k a us l e b =
    always_again (before_always d k) (name_of d) (full_scope d) (sorts d (length d.wires)) (all_names d h (take (length d.assigns) d.assigns) (take k d.always))
    (register_widths d.declared) (memory_widths d.declared) (target_widths d) a us (block_keeps d h k a l e) b
    ∙ ap (λ x. Ok (x, us)) (always_next d k a l e)
