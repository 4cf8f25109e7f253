-- The items of a section, written one after the other.
use Rattle.std.specs.Prelude.{◌≡◌, ℕ, zero, suc, ◌+◌, ◌<◌, ◌≤◌, ◌==◌, if◌then◌else◌, List, [], ◌∷◌, ◌++◌, length, map, take}
use Rattle.std.proofs.Common.{get_or, refl, sym, subst, ap, ◌∙◌, append_assoc, append-nil, add-one, arith}
use Rattle.std.proofs.lemmas.Bool.{eq-eqb, ne_eqb}
use Rattle.std.proofs.lemmas.List.{take_all}
use Rattle.net_core.specs.declared.tree.Net.{Net}
use Rattle.net_core.specs.declared.tree.Stmt.{Stmt}
use Rattle.net_core.specs.declared.design.Port.{Port}
use Rattle.net_core.specs.declared.design.Declared.{Declared}
use Rattle.net_core.specs.declared.design.Wire.{Wire}
use Rattle.net_core.specs.declared.design.Assign.{Assign}
use Rattle.net_core.specs.Names.{name_of}
use Rattle.net_core.specs.Nets.{Netlist}
use Rattle.net_core.specs.View.{tree_of, right_of, statement_of, wire_of, assign_of}
use Rattle.verilog_lex.specs.Lexeme.{Lexeme, LSymbol}
use Rattle.verilog_lex.specs.declared.token.Symbol.TheVariants as symbol
use Rattle.verilog_write.specs.VerilogGrammar.Grammar.{text_at, integer_name, register_name, memory_name, port_lexemes, declared_lexemes, wire_lexemes, assign_lexemes, always_lexemes, statement_tree_lexemes, ports_lexemes, all_declared, all_wires, all_assigns, all_always}
use Rattle.verilog_write.specs.Adds.{AddsLine}
use Rattle.verilog_write.proofs.AddsLemmas.{line_more}

-- what stands for the items of a list, each by its place
abbrev pub section : {A : Type 0} → (ℕ → A → List Lexeme) → ℕ → List A → List Lexeme
section f at [] = []
section f at (x ∷ xs) = f at x ++ section f (suc at) xs

section_suc : {A : Type 0} (f : ℕ → A → List Lexeme) (at : ℕ) (xs : List A) (k : ℕ) (x : A) → k < length xs → x ≡ get_or xs k x
    → section f at (take (suc k) xs) ≡ section f at (take k xs) ++ f (at + k) x
section_suc f at [] k x l e = absurd (omega arith)
section_suc f at (y ∷ ys) zero x l e = append-nil (f at y) ∙ ap (λ n. f n y) (omega arith) ∙ ap (f (at + 0)) (sym e)
section_suc f at (y ∷ ys) (suc k) x l e =
    ap (λ ls. f at y ++ ls) (section_suc f (suc at) ys k x (omega arith) e ∙ ap (λ n. section f (suc at) (take k ys) ++ f n x) (omega arith))
    ∙ sym (append_assoc (f at y) (section f (suc at) (take k ys)) (f (at + suc k) x))

pub section_line : {A : Type 0} (f : ℕ → A → List Lexeme) (at place : ℕ) (xs : List A) (k : ℕ) (x : A) {a b c : List ℕ} → k < length xs → x ≡ get_or xs k x → place ≡ at + k
    → AddsLine a b (section f at (take k xs)) → AddsLine b c (f place x) → AddsLine a c (section f at (take (k + 1) xs))
section_line f at place xs k x {a} {b} {c} l e p h g =
    let P : List Lexeme → Type 0 = λ ls. AddsLine a c ls in
    let same : section f at (take (k + 1) xs) ≡ section f at (take k xs) ++ f place x =
    ap (λ n. section f at (take n xs)) (add-one k) ∙ section_suc f at xs k x l e ∙ ap (λ n. section f at (take k xs) ++ f n x) (sym p) in
    subst P (sym same) (line_more h g)

pub section_done : {A : Type 0} (f : ℕ → A → List Lexeme) (at : ℕ) (xs : List A) (k : ℕ) (ls : List Lexeme) {a b : List ℕ} → length xs ≤ k → section f at xs ≡ ls
    → AddsLine a b (section f at (take k xs)) → AddsLine a b ls
section_done f at xs k ls {a} {b} l e h =
    let P : List Lexeme → Type 0 = λ ms. AddsLine a b ms in
    subst P (ap (section f at) (take_all k xs l) ∙ e) h

-- ---- each section
abbrev pub comma_after : ℕ → ℕ → List Lexeme
comma_after count at = if at + 1 == count then [] else LSymbol symbol.Comma ∷ []

abbrev pub port_at : Netlist → ℕ → ℕ → Port → List Lexeme
port_at d count at p = port_lexemes (text_at d at) p ++ comma_after count at

abbrev pub declared_at : Netlist → ℕ → Declared → List Lexeme
declared_at d at x = declared_lexemes (integer_name d) (text_at d at) x

abbrev pub wire_at : Netlist → ℕ → Wire → List Lexeme
wire_at d at w = wire_lexemes (name_of d) (text_at d at) w.width (right_of w.right)

abbrev pub assign_at : Netlist → ℕ → Assign → List Lexeme
assign_at d at a = assign_lexemes (name_of d) (text_at d a.port) (tree_of a.value)

abbrev pub always_at : Netlist → ℕ → Stmt Net → List Lexeme
always_at d at s = always_lexemes (statement_tree_lexemes (name_of d) (register_name d) (memory_name d) (statement_of s))

last_comma : (count at : ℕ) → at + 1 ≡ count → comma_after count at ≡ []
last_comma count at e = ap (λ b. if b then [] else LSymbol symbol.Comma ∷ []) (eq-eqb (at + 1) count e)

more_comma : (count at : ℕ) → at + 1 < count → comma_after count at ≡ LSymbol symbol.Comma ∷ []
more_comma count at l = ap (λ b. if b then [] else LSymbol symbol.Comma ∷ []) (ne_eqb (at + 1) count (λ e. omega arith))

pub ports_section : (d : Netlist) (count at : ℕ) (ps : List Port) → at + length ps ≡ count → section (port_at d count) at ps ≡ ports_lexemes d at ps
ports_section d count at [] e = refl
ports_section d count at (p ∷ []) e =
    append-nil (port_at d count at p) ∙ ap (λ ls. port_lexemes (text_at d at) p ++ ls) (last_comma count at (omega arith)) ∙ append-nil (port_lexemes (text_at d at) p)
ports_section d count at (p ∷ q ∷ ps) e =
    ap (λ ls. (port_lexemes (text_at d at) p ++ ls) ++ section (port_at d count) (suc at) (q ∷ ps)) (more_comma count at (omega arith))
    ∙ append_assoc (port_lexemes (text_at d at) p) (LSymbol symbol.Comma ∷ []) (section (port_at d count) (suc at) (q ∷ ps))
    ∙ ap (λ ls. port_lexemes (text_at d at) p ++ LSymbol symbol.Comma ∷ ls) (ports_section d count (suc at) (q ∷ ps) (omega arith))

pub declared_section : (d : Netlist) (at : ℕ) (xs : List Declared) → section (declared_at d) at xs ≡ all_declared d at xs
declared_section d at [] = refl
declared_section d at (x ∷ xs) = ap (λ ls. declared_at d at x ++ ls) (declared_section d (suc at) xs)

pub wires_section : (d : Netlist) (at : ℕ) (ws : List Wire) → section (wire_at d) at ws ≡ all_wires d at (map wire_of ws)
wires_section d at [] = refl
wires_section d at (w ∷ ws) = ap (λ ls. wire_at d at w ++ ls) (wires_section d (suc at) ws)

pub assigns_section : (d : Netlist) (at : ℕ) (xs : List Assign) → section (assign_at d) at xs ≡ all_assigns d (map assign_of xs)
assigns_section d at [] = refl
assigns_section d at (a ∷ xs) = ap (λ ls. assign_at d at a ++ ls) (assigns_section d (suc at) xs)

pub always_section : (d : Netlist) (at : ℕ) (xs : List (Stmt Net)) → section (always_at d) at xs ≡ all_always d (map statement_of xs)
always_section d at [] = refl
always_section d at (s ∷ xs) = ap (λ ls. always_at d at s ++ ls) (always_section d (suc at) xs)
