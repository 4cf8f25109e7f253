-- One step through the items of a design: what is counted, how the finished design goes on, the text and the rules.
--
-- The sections have numbers: what is declared 0, wires 1, assigns 2, always blocks 3.
use Rattle.std.proofs.Common.{◌≡◌, ℕ, ◌+◌, ◌≤◌, Bool, true, ◌&&◌, None, List, [], ◌∷◌, ◌++◌, length, refl, sym, ◌∙◌, subst, append_assoc, arith}
use Rattle.std.specs.List.{list_all}
use Rattle.std.proofs.lemmas.Bool.{and_from}
use Rattle.std.proofs.lemmas.List.{append-nil}
use Rattle.std.proofs.lemmas.List.Folds.{list_all-append}
use Rattle.net_core.specs.declared.design.Declared.{Declared}
use Rattle.net_core.specs.declared.tree.Net.{Net}
use Rattle.net_core.specs.Nets.{StatementTree, WireTree, AssignTree, Netlist}
use Rattle.verilog_lex.specs.Lexeme.{Lexeme}
use Rattle.verilog_expression.specs.verilog_write.VerilogGrammar.Grammar.{all_declared, all_wires, all_assigns, all_always}
use Rattle.design_rules.specs.Formed.{declared_rules, wire_rules, assign_rules, always_rules, section_fault, wires_start, assigns_start, always_start}
use Rattle.verilog_read.proofs.SoundKnows.{HasPortsOfAll, HasNames, Begins}

-- a design in a section: later sections have no items yet
pub record Has (r : ℕ) (d : Netlist) : Type 0 where
  pub known : HasNames d
  pub no_wires : r ≤ 0 → d.wires ≡ []
  pub no_assigns : r ≤ 1 → d.assigns ≡ []
  pub no_always : r ≤ 2 → d.always ≡ []

-- the finished design e goes on from d in a section: earlier ones have all their items
pub record Fits (e : Netlist) (r : ℕ) (d : Netlist) : Type 0 where
  pub begins : Begins e d
  pub more_declared : List Declared
  pub declared : e.declared ≡ d.declared ++ more_declared
  pub more_wires : List WireTree
  pub wires : e.wires ≡ d.wires ++ more_wires
  pub more_assigns : List AssignTree
  pub assigns : e.assigns ≡ d.assigns ++ more_assigns
  pub more_always : List (StatementTree Net)
  pub always : e.always ≡ d.always ++ more_always
  pub all_declared : 1 ≤ r → e.declared ≡ d.declared
  pub all_wires : 2 ≤ r → e.wires ≡ d.wires

-- the items so far, as the finished design spells them
abbrev pub text : Netlist → Netlist → List Lexeme
text e d =
    all_declared e (length e.ports) d.declared
    ++ (all_wires e (length e.ports + length e.declared) d.wires
    ++ (all_assigns e d.assigns ++ all_always e d.always))

-- the items so far keep the rules of the finished design
pub record Rules (e d : Netlist) : Type 0 where
  pub declared : section_fault (declared_rules e) 0 0 d.declared ≡ None
  pub wires : section_fault (wire_rules e) (wires_start e) 0 d.wires ≡ None
  pub assigns : section_fault (assign_rules e) (assigns_start e) 0 d.assigns ≡ None
  pub always : section_fault (always_rules e) (always_start e) 0 d.always ≡ None

-- an item of a section that is read
pub record IsStep (r : ℕ) (d : Netlist) (ts : List Lexeme) (x : Netlist × List Lexeme) : Type 0 where
  pub has : Has r d → Has r x.0
  pub fits : (e : Netlist) → Fits e r x.0 → Fits e r d
  pub spelled : (e : Netlist) → HasPortsOfAll e → Has r d → Fits e r x.0 → text e d ++ ts ≡ text e x.0 ++ x.1
  pub kept : (e : Netlist) → HasPortsOfAll e → Has r d → Fits e r x.0 → Rules e d → Rules e x.0

-- of a design that is known otherwise
pub step_so : (r : ℕ) (d d' : Netlist) (ts : List Lexeme) (x : Netlist × List Lexeme) → d' ≡ x.0 → IsStep r d ts (d', x.1) → IsStep r d ts x
step_so r d d' ts x p h = subst (λ (q : Netlist). IsStep r d ts (q, x.1)) p h

-- ---- from one section to a later one
pub later_has : (r s : ℕ) (d : Netlist) → r ≤ s → Has r d → Has s d
later_has r s d l h = record {
  known = h.known;
  no_wires = λ k. h.no_wires (omega arith);
  no_assigns = λ k. h.no_assigns (omega arith);
  no_always = λ k. h.no_always (omega arith);
}

pub earlier_fits : (e : Netlist) (r s : ℕ) (d : Netlist) → r ≤ s → Fits e s d → Fits e r d
earlier_fits e r s d l f = record {
  begins = f.begins;
  more_declared = f.more_declared;
  declared = f.declared;
  more_wires = f.more_wires;
  wires = f.wires;
  more_assigns = f.more_assigns;
  assigns = f.assigns;
  more_always = f.more_always;
  always = f.always;
  all_declared = λ k. f.all_declared (omega arith);
  all_wires = λ k. f.all_wires (omega arith);
}

-- a design fits itself
pub fits_itself : (e : Netlist) (r : ℕ) → Fits e r e
fits_itself e r = record {
  begins = record { more = []; names = sym (append-nil e.names); ports = refl };
  more_declared = [];
  declared = sym (append-nil e.declared);
  more_wires = [];
  wires = sym (append-nil e.wires);
  more_assigns = [];
  assigns = sym (append-nil e.assigns);
  more_always = [];
  always = sym (append-nil e.always);
  all_declared = λ k. refl;
  all_wires = λ k. refl;
}

-- ---- one more item
pub one_less : {A : Type 0} (all xs more : List A) (y : A) → all ≡ (xs ++ y ∷ []) ++ more → all ≡ xs ++ y ∷ more
one_less all xs more y h = h ∙ append_assoc xs (y ∷ []) more

pub all_more : {A : Type 0} (p : A → Bool) (xs : List A) (y : A) → list_all p xs ≡ true → p y ≡ true → list_all p (xs ++ y ∷ []) ≡ true
all_more p xs y h k = list_all-append p xs (y ∷ []) ∙ and_from (list_all p xs) (p y && true) h (and_from (p y) true k refl)

-- The text so far grows at its end, where the sections after have no items.
pub grows_declared : (a a' b c f own : List Lexeme) → b ≡ [] → c ≡ [] → f ≡ [] → a' ≡ a ++ own → a' ++ (b ++ (c ++ f)) ≡ (a ++ (b ++ (c ++ f))) ++ own
grows_declared a a' b c f own p q u v = rw (p, q, u, v) (simp (append_assoc, append-nil))

pub grows_wires : (a b b' c f own : List Lexeme) → c ≡ [] → f ≡ [] → b' ≡ b ++ own → a ++ (b' ++ (c ++ f)) ≡ (a ++ (b ++ (c ++ f))) ++ own
grows_wires a b b' c f own p q u = rw (p, q, u) (simp (append_assoc, append-nil))

pub grows_assigns : (a b c c' f own : List Lexeme) → f ≡ [] → c' ≡ c ++ own → a ++ (b ++ (c' ++ f)) ≡ (a ++ (b ++ (c ++ f))) ++ own
grows_assigns a b c c' f own p q = rw (p, q) (simp (append_assoc, append-nil))

pub grows_always : (a b c f f' own : List Lexeme) → f' ≡ f ++ own → a ++ (b ++ (c ++ f')) ≡ (a ++ (b ++ (c ++ f))) ++ own
grows_always a b c f f' own p = rw p (simp append_assoc)
