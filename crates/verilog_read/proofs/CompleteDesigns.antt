-- What a well-formed design spells is read as it.
use Rattle.std.proofs.Common.{◌≡◌, ℕ, suc, ◌+◌, ◌<◌, None, Some, Ok, List, [], ◌∷◌, ◌++◌, length, refl, sym, ap, subst, append_assoc, arith}
use Rattle.net_core.specs.declared.tree.Net.{Net}
use Rattle.net_core.specs.declared.design.Declared.{Declared}
use Rattle.net_core.specs.declared.design.Declared.TheVariants as declared
use Rattle.net_core.specs.Nets.{StatementTree, WireTree, AssignTree, Netlist}
use Rattle.net_core.specs.Names.{name_of}
use Rattle.verilog_lex.specs.declared.token.Keyword.TheVariants as keyword
use Rattle.verilog_lex.specs.Lexeme.{Lexeme, LKeyword}
use Rattle.verilog_expression.specs.verilog_write.VerilogGrammar.Grammar.{declared_lexemes, wire_lexemes, assign_lexemes, always_lexemes, text_at, integer_name, all_declared, all_wires, all_assigns, all_always, items_lexemes, design_lexemes}
use Rattle.design_rules.specs.Formed.{IsWellFormed, declared_place, wire_place}
use Rattle.verilog_expression.specs.Laws.{IsNoElse, statement_lexemes}
use Rattle.verilog_read.specs.declared.section.Section.TheVariants as section
use Rattle.verilog_read.specs.Items.{section_of}
use Rattle.verilog_read.specs.Designs.{design_at, port_fault}
use Rattle.verilog_read.proofs.CompletePrefixes.{before_declared, before_wire, before_assign, before_always, declared_whole, always_whole}
use Rattle.verilog_read.proofs.CompleteSections.{Ends, last_again, all_of, section_again, ends_earlier}
use Rattle.verilog_read.proofs.CompleteItems.{declared_read, wire_read, assign_read, always_read}
use Rattle.verilog_read.proofs.CompleteHeader.{header_again, ports_faultless}

-- ---- the lexemes of an item by its number
abbrev one_declared : Netlist → ℕ → Declared → List Lexeme
one_declared d k x = declared_lexemes (integer_name d) (text_at d (declared_place d k)) x

abbrev one_wire : Netlist → ℕ → WireTree → List Lexeme
one_wire d k w = wire_lexemes (name_of d) (text_at d (wire_place d k)) w.width w.right

abbrev one_assign : Netlist → ℕ → AssignTree → List Lexeme
one_assign d k a = assign_lexemes (name_of d) (text_at d a.port) a.value

abbrev one_always : Netlist → ℕ → StatementTree Net → List Lexeme
one_always d k a = always_lexemes (statement_lexemes (name_of d) a)

declared_numbered : (d : Netlist) (at k : ℕ) (xs : List Declared) → at ≡ length d.ports + k → all_declared d at xs ≡ all_of (one_declared d) k xs
declared_numbered d at k [] e = refl
declared_numbered d at k (x ∷ xs) e = rw (e, declared_numbered d (suc (length d.ports + k)) (suc k) xs (omega arith)) refl

wires_numbered : (d : Netlist) (at k : ℕ) (ws : List WireTree) → at ≡ length d.ports + length d.declared + k → all_wires d at ws ≡ all_of (one_wire d) k ws
wires_numbered d at k [] e = refl
wires_numbered d at k (w ∷ ws) e = rw (e, wires_numbered d (suc (length d.ports + length d.declared + k)) (suc k) ws (omega arith)) refl

assigns_numbered : (d : Netlist) (k : ℕ) (xs : List AssignTree) → all_assigns d xs ≡ all_of (one_assign d) k xs
assigns_numbered d k [] = refl
assigns_numbered d k (a ∷ xs) = ap (λ us. one_assign d k a ++ us) (assigns_numbered d (suc k) xs)

always_numbered : (d : Netlist) (k : ℕ) (xs : List (StatementTree Net)) → all_always d xs ≡ all_of (one_always d) k xs
always_numbered d k [] = refl
always_numbered d k (a ∷ xs) = ap (λ us. one_always d k a ++ us) (always_numbered d (suc k) xs)

-- ---- what an item begins with
some_declared : (d : Netlist) (k : ℕ) (x : Declared) → 0 < length (one_declared d k x)
some_declared d k declared.Integer = omega arith
some_declared d k (declared.Register w) = omega arith
some_declared d k (declared.Memory index w i) = omega arith

begins_declared : (d : Netlist) (k : ℕ) (x : Declared) (us : List Lexeme) → section_of (one_declared d k x ++ us) ≡ Some section.Declared
begins_declared d k declared.Integer us = refl
begins_declared d k (declared.Register w) us = refl
begins_declared d k (declared.Memory index w i) us = refl

-- ---- from the last section to the first
abbrev last : List Lexeme
last = LKeyword keyword.Endmodule ∷ []

module _ (d : Netlist) (h : IsWellFormed d) where
  always_ends : Ends 3 (before_always d 0) (all_always d d.always ++ last) d
  always_ends =
      let end : Ends 3 (before_always d (length d.always)) last d = subst (λ a. Ends 3 a last d) (sym (always_whole d h)) (last_again 3 d) in
      subst (λ us. Ends 3 (before_always d 0) (us ++ last) d) (sym (always_numbered d 0 d.always))
      (section_again (StatementTree Net) section.Always (before_always d) (one_always d) d.always IsNoElse d (λ k a. omega arith) (λ k a us. (refl, tt)) (λ k a us l e b. always_read d h k a us l e (λ o. b)) last tt end)

  assigns_end : (ts : List Lexeme) → Ends 3 (before_always d 0) ts d → Ends 2 (before_assign d 0) (all_assigns d d.assigns ++ ts) d
  assigns_end ts end =
      subst (λ us. Ends 2 (before_assign d 0) (us ++ ts) d) (sym (assigns_numbered d 0 d.assigns))
      (section_again AssignTree section.Assigns (before_assign d) (one_assign d) d.assigns (λ us. Unit {0}) d (λ k a. omega arith) (λ k a us. (refl, tt)) (λ k a us l e b. assign_read d h k a us l e) ts tt (ends_earlier 3 2 (before_always d 0) ts d (omega arith) end))

  wires_end : (ts : List Lexeme) → Ends 2 (before_assign d 0) ts d → Ends 1 (before_wire d 0) (all_wires d (length d.ports + length d.declared) d.wires ++ ts) d
  wires_end ts end =
      subst (λ us. Ends 1 (before_wire d 0) (us ++ ts) d) (sym (wires_numbered d (length d.ports + length d.declared) 0 d.wires (omega arith)))
      (section_again WireTree section.Wires (before_wire d) (one_wire d) d.wires (λ us. Unit {0}) d (λ k w. omega arith) (λ k w us. (refl, tt)) (λ k w us l e b. wire_read d h k w us l e) ts tt (ends_earlier 2 1 (before_assign d 0) ts d (omega arith) end))

  declared_end : (ts : List Lexeme) → Ends 1 (before_wire d 0) ts d → Ends 0 (before_declared d 0) (all_declared d (length d.ports) d.declared ++ ts) d
  declared_end ts end =
      let next : Ends 0 (before_declared d (length d.declared)) ts d = subst (λ a. Ends 0 a ts d) (sym (declared_whole d)) (ends_earlier 1 0 (before_wire d 0) ts d (omega arith) end) in
      subst (λ us. Ends 0 (before_declared d 0) (us ++ ts) d) (sym (declared_numbered d (length d.ports) 0 d.declared (omega arith)))
      (section_again Declared section.Declared (before_declared d) (one_declared d) d.declared (λ us. Unit {0}) d (some_declared d) (λ k x us. (begins_declared d k x us, tt)) (λ k x us l e b. declared_read d h k x us l e) ts tt next)

joined : (a b c e z : List Lexeme) → (a ++ (b ++ (c ++ e))) ++ z ≡ a ++ (b ++ (c ++ (e ++ z)))
joined a b c e z = rw (append_assoc a (b ++ (c ++ e)) z, append_assoc b (c ++ e) z, append_assoc c e z) refl

items_end : (d : Netlist) → IsWellFormed d → Ends 0 (before_declared d 0) (items_lexemes d ++ last) d
items_end d h =
    let ws = all_wires d (length d.ports + length d.declared) d.wires in
    let ys = all_assigns d d.assigns in
    let zs = all_always d d.always in
    subst (λ us. Ends 0 (before_declared d 0) us d) (sym (joined (all_declared d (length d.ports) d.declared) ws ys zs last))
    (declared_end d h (ws ++ (ys ++ (zs ++ last))) (wires_end d h (ys ++ (zs ++ last)) (assigns_end d h (zs ++ last) (always_ends d h))))

-- ---- designs
design_read : (d : Netlist) → IsWellFormed d → design_at (design_lexemes d) ≡ Ok d
unfolding design_at
design_read d h =
    let us = items_lexemes d ++ last in
    rw (header_again d h us, items_end d h (length us) section.Declared (omega arith) (omega arith)) refl

-- The lexemes of a well-formed design are read as it, and its ports are as every design has them.
pub design_only : (d : Netlist) → IsWellFormed d → (design_at (design_lexemes d) ≡ Ok d) × (port_fault d ≡ None)
design_only d h = (design_read d h, ports_faultless d h)
