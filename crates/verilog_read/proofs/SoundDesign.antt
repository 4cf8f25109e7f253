-- What is read as a design is spelled so, and is well formed.
use Rattle.std.proofs.Common.{◌≡◌, ℕ, zero, suc, ◌≤◌, Option, Some, None, Ok, List, [], ◌∷◌, ◌++◌, length, nat_lt, refl, sym, ap, ◌∙◌, subst, arith}
use Rattle.std.specs.Prelude.{nat_le, codes}
use Rattle.std.specs.List.{list_all}
use Rattle.std.proofs.lemmas.Bool.{leb-true}
use Rattle.net_core.specs.Nets.{Netlist}
use Rattle.net_core.specs.Width.{wire_widths}
use Rattle.verilog_lex.specs.declared.token.Keyword.TheVariants as keyword
use Rattle.verilog_lex.specs.declared.token.Symbol.TheVariants as symbol
use Rattle.verilog_lex.specs.Lexeme.{Lexeme, LName, LKeyword, LSymbol}
use Rattle.design_rules.specs.declared.formed.NetError.{NetError}
use Rattle.verilog_expression.specs.verilog_write.VerilogGrammar.Grammar.{ports_lexemes, items_lexemes, design_lexemes}
use Rattle.design_rules.specs.Formed.{declared_fits, first_broken, last_rules, fault_at, or_else, section_fault, declared_rules, wire_rules, assign_rules, always_rules, wires_start, assigns_start, always_start, items_of, first_fault, IsWellFormed}
use Rattle.verilog_expression.specs.declared.fault.Code.TheVariants as code
use Rattle.verilog_expression.specs.Reads.{found, kept_if}
use Rattle.verilog_expression.proofs.LexemeLaws.{bind_ok, same_ok, ok_so, kept_takes, found_takes}
use Rattle.verilog_read.specs.declared.section.Section.{Section}
use Rattle.verilog_read.specs.declared.section.Section.TheVariants as section
use Rattle.verilog_read.specs.Header.{header_at}
use Rattle.verilog_read.specs.Items.{item_at, rank, section_of, item_in, items_at}
use Rattle.verilog_read.specs.Designs.{whole_at, design_at, port_fault}
use Rattle.verilog_read.proofs.SoundKnows.{HasPortsOfAll}
use Rattle.verilog_read.proofs.SoundHeader.{IsBegun, HasPorts, header_found}
use Rattle.verilog_read.proofs.SoundDeclared.{integer_found, reg_found}
use Rattle.verilog_read.proofs.SoundItems.{wire_found, assign_found, always_found}
use Rattle.verilog_read.proofs.SoundSteps.{Has, Fits, text, Rules, IsStep, later_has, earlier_fits, fits_itself}
use Rattle.verilog_read.proofs.SoundNamed.{declared_step, wire_step}
use Rattle.verilog_read.proofs.SoundUnnamed.{assign_step, always_step}
use Rattle.verilog_read.proofs.SoundPorts.{ports_of_all, last_keeps}

-- ---- one item
of_section : (r : ℕ) (s : Section) (d : Netlist) (ts : List Lexeme) (x : Netlist × List Lexeme) (own : Section) → Some own ≡ Some s → rank own ≡ r → IsStep r d ts x → IsStep (rank s) d ts x
of_section r s d ts x own p q h = let same : own ≡ s = cc in subst (λ (n : ℕ). IsStep n d ts x) (sym q ∙ ap rank same) h

item_step : (d : Netlist) (ts : List Lexeme) (s : Section) (x : Netlist × List Lexeme) → section_of ts ≡ Some s → item_at d ts ≡ Ok x → IsStep (rank s) d ts x
unfolding item_at
item_step d (LKeyword keyword.Integer ∷ ts) s x p h = of_section 0 s d _ x section.Declared p refl (declared_step d _ x (integer_found d ts x h))
item_step d (LKeyword keyword.Reg ∷ ts) s x p h = of_section 0 s d _ x section.Declared p refl (declared_step d _ x (reg_found d ts x h))
item_step d (LKeyword keyword.Wire ∷ ts) s x p h = of_section 1 s d _ x section.Wires p refl (wire_step d _ x (wire_found d ts x h))
item_step d (LKeyword keyword.Assign ∷ ts) s x p h = of_section 2 s d _ x section.Assigns p refl (assign_step d _ x (assign_found d ts x h))
item_step d (LKeyword keyword.Always ∷ ts) s x p h = of_section 3 s d _ x section.Always p refl (always_step d _ x (always_found d ts x h))
item_step d ts s x p h = absurd cc

-- an item after those of earlier sections
record IsItemIn (now : Section) (d : Netlist) (ts : List Lexeme) (x : (Section × Netlist) × List Lexeme) : Type 0 where
  ordered : rank now ≤ rank x.0.0
  step : IsStep (rank x.0.0) d ts (x.0.1, x.1)

item_found : (now : Section) (d : Netlist) (ts : List Lexeme) (x : (Section × Netlist) × List Lexeme) → item_in now d ts ≡ Ok x → IsItemIn now d ts x
unfolding item_in
item_found now d ts x h =
    let s = bind_ok (found (section_of ts) code.Syntax ts) _ x h in
    let o = bind_ok (kept_if (nat_le (rank now) (rank s.0)) ts code.Order ts) _ x s.2 in
    let y = bind_ok (item_at d o.0) _ x o.2 in
    let k = kept_takes (nat_le (rank now) (rank s.0)) ts o.0 code.Order ts o.1 in
    let e : item_at d ts ≡ Ok y.0 = ap (item_at d) k.1 ∙ y.1 in
    ok_so (IsItemIn now d ts) ((s.0, y.0.0), y.0.1) x y.2
    (record { ordered = leb-true (rank now) (rank s.0) k.0; step = item_step d ts s.0 y.0 (found_takes (section_of ts) s.0 code.Syntax ts s.1) e })

-- ---- the items up to `endmodule`
record AreItems (r : ℕ) (d : Netlist) (ts : List Lexeme) (x : Netlist × List Lexeme) : Type 0 where
  last : ℕ
  has : Has r d → Has last x.0
  fits : (e : Netlist) → Fits e last x.0 → Fits e r d
  spelled : (e : Netlist) → HasPortsOfAll e → Has r d → Fits e last x.0 → text e d ++ ts ≡ text e x.0 ++ LKeyword keyword.Endmodule ∷ x.1
  kept : (e : Netlist) → HasPortsOfAll e → Has r d → Fits e last x.0 → Rules e d → Rules e x.0

no_items : (r : ℕ) (d : Netlist) (ts : List Lexeme) → AreItems r d (LKeyword keyword.Endmodule ∷ ts) (d, ts)
no_items r d ts = record { last = r; has = λ h. h; fits = λ e f. f; spelled = λ e all h f. refl; kept = λ e all h f k. k }

more_items : (r s : ℕ) (d d' : Netlist) (ts ts' : List Lexeme) (x : Netlist × List Lexeme) → r ≤ s → IsStep s d ts (d', ts') → AreItems s d' ts' x → AreItems r d ts x
more_items r s d d' ts ts' x l a b = record {
  last = b.last;
  has = λ h. b.has (a.has (later_has r s d l h));
  fits = λ e f. earlier_fits e r s d l (a.fits e (b.fits e f));
  spelled = λ e all h f. let g = later_has r s d l h in a.spelled e all g (b.fits e f) ∙ b.spelled e all (a.has g) f;
  kept = λ e all h f k. let g = later_has r s d l h in b.kept e all (a.has g) f (a.kept e all g (b.fits e f) k);
}

next_items : (n : ℕ) → ((now : Section) (d : Netlist) (ts : List Lexeme) (x : Netlist × List Lexeme) → items_at n now d ts ≡ Ok x → AreItems (rank now) d ts x)
    → (now : Section) (d : Netlist) (ts : List Lexeme) (x : Netlist × List Lexeme) (y : (Section × Netlist) × List Lexeme) → item_in now d ts ≡ Ok y → items_at n y.0.0 y.0.1 y.1 ≡ Ok x → AreItems (rank now) d ts x
next_items n more now d ts x y p h =
    let i = item_found now d ts y p in
    more_items (rank now) (rank y.0.0) d y.0.1 ts y.1 x i.ordered i.step (more y.0.0 y.0.1 y.1 x h)

items_found : (n : ℕ) (now : Section) (d : Netlist) (ts : List Lexeme) (x : Netlist × List Lexeme) → items_at n now d ts ≡ Ok x → AreItems (rank now) d ts x
unfolding items_at
items_found zero now d ts x h = absurd cc
items_found (suc n) now d (LKeyword keyword.Endmodule ∷ ts) x h = ok_so (AreItems (rank now) d (LKeyword keyword.Endmodule ∷ ts)) (d, ts) x h (no_items (rank now) d ts)
items_found (suc n) now d ts x h =
    let y = bind_ok (item_in now d ts) _ x h in
    next_items n (items_found n) now d ts x y.0 y.1 y.2

-- ---- before the first item
module _ (d : Netlist) (has : HasPorts d) where
  has_ports : Has 0 d
  has_ports = record {
    known = record {
      counted = omega (arith, has.names, ap length has.declared, ap length has.wires);
      declared = ap (list_all declared_fits) has.declared;
      wires = ap (λ ws. list_all (nat_lt 0) (wire_widths ws)) has.wires;
    };
    no_wires = λ k. has.wires;
    no_assigns = λ k. has.assigns;
    no_always = λ k. has.always;
  }

  no_text : (e : Netlist) → text e d ≡ []
  no_text e = rw (has.declared, has.wires, has.assigns, has.always) refl

  no_faults : (e : Netlist) → Rules e d
  no_faults e = record {
    declared = ap (section_fault (declared_rules e) 0 0) has.declared;
    wires = ap (section_fault (wire_rules e) (wires_start e) 0) has.wires;
    assigns = ap (section_fault (assign_rules e) (assigns_start e) 0) has.assigns;
    always = ap (section_fault (always_rules e) (always_start e) 0) has.always;
  }

-- ---- the design
five_kept : (a b c e f : Option NetError) → a ≡ None → b ≡ None → c ≡ None → e ≡ None → f ≡ None → or_else a (or_else b (or_else c (or_else e f))) ≡ None
five_kept a b c e f p q r u v = rw (p, q, r, u, v) refl

well_formed : (e : Netlist) → Rules e e → first_broken (last_rules e) ≡ None → IsWellFormed e
unfolding first_fault
well_formed e r l =
    five_kept (section_fault (declared_rules e) 0 0 e.declared) (section_fault (wire_rules e) (wires_start e) 0 e.wires) (section_fault (assign_rules e) (assigns_start e) 0 e.assigns)
    (section_fault (always_rules e) (always_start e) 0 e.always) (fault_at (items_of e) (first_broken (last_rules e)))
    r.declared r.wires r.assigns r.always (ap (fault_at (items_of e)) l)

whole_takes : (x p : Netlist) (r : List Lexeme) → whole_at x r ≡ Ok p → (x ≡ p) × (r ≡ [])
whole_takes x p [] h = (same_ok x p h, refl)
whole_takes x p (t ∷ r) h = absurd cc

-- what is read between the header and the end
record IsRead (ts : List Lexeme) (p : Netlist) : Type 0 where
  header : Netlist × List Lexeme
  items : Netlist × List Lexeme
  begins : header_at ts ≡ Ok header
  goes_on : items_at (length header.1) section.Declared header.0 header.1 ≡ Ok items
  netlist : items.0 ≡ p
  ends : items.1 ≡ []

is_read : (ts : List Lexeme) (p : Netlist) → design_at ts ≡ Ok p → IsRead ts p
unfolding design_at
is_read ts p h =
    let a = bind_ok (header_at ts) _ p h in
    let x = bind_ok (items_at (length a.0.1) section.Declared a.0.0 a.0.1) _ p a.2 in
    let w = whole_takes x.0.0 p x.0.1 x.2 in
    record { header = a.0; items = x.0; begins = a.1; goes_on = x.1; netlist = w.0; ends = w.1 }

design_text : (ports items ts t1 r : List Lexeme)
    → ts ≡ LKeyword keyword.Module ∷ LName (codes "ehdl") ∷ LSymbol symbol.OpenParenthesis ∷ (ports ++ LSymbol symbol.CloseParenthesis ∷ LSymbol symbol.Semicolon ∷ t1)
    → t1 ≡ items ++ LKeyword keyword.Endmodule ∷ r → r ≡ []
    → ts ≡ LKeyword keyword.Module ∷ LName (codes "ehdl") ∷ LSymbol symbol.OpenParenthesis ∷ (ports ++ LSymbol symbol.CloseParenthesis ∷ LSymbol symbol.Semicolon ∷ (items ++ LKeyword keyword.Endmodule ∷ []))
design_text ports items ts t1 r p q u = rw (p, q, u) refl

found_so : (ts : List Lexeme) (x : Netlist × List Lexeme) (header : Netlist × List Lexeme) → header_at ts ≡ Ok header → items_at (length header.1) section.Declared header.0 header.1 ≡ Ok x → x.1 ≡ [] → port_fault x.0 ≡ None
    → (ts ≡ design_lexemes x.0) × IsWellFormed x.0
found_so ts x header a h ends fault =
    let e = x.0 in
    let prefix = header_found ts header a in
    let items = items_found (length header.1) section.Declared header.0 header.1 x h in
    let all = ports_of_all e fault in
    let has = has_ports header.0 prefix.counted in
    let fits = items.fits e (fits_itself e items.last) in
    let begun : IsBegun e header.0 = record { more = fits.begins.more; names = fits.begins.names } in
    let behind : header.1 ≡ text e e ++ LKeyword keyword.Endmodule ∷ x.1 = ap (λ (l : List Lexeme). l ++ header.1) (sym (no_text header.0 prefix.counted e)) ∙ items.spelled e all has (fits_itself e items.last) in (
      design_text (ports_lexemes e 0 e.ports) (items_lexemes e) ts header.1 x.1
          (prefix.text e begun ∙ ap (λ ps. LKeyword keyword.Module ∷ LName (codes "ehdl") ∷ LSymbol symbol.OpenParenthesis ∷ (ports_lexemes e 0 ps ++ LSymbol symbol.CloseParenthesis ∷ LSymbol symbol.Semicolon ∷ header.1)) (sym fits.begins.ports))
          behind ends,
      well_formed e (items.kept e all has (fits_itself e items.last) (no_faults header.0 prefix.counted e)) (last_keeps e fault (items.has has).known.counted),
    )

-- What is read as a design, and has no fault of its ports, is spelled so and is well formed.
pub design_found : (ts : List Lexeme) (p : Netlist) → design_at ts ≡ Ok p → port_fault p ≡ None → (ts ≡ design_lexemes p) × IsWellFormed p
design_found ts p h fault =
    let r = is_read ts p h in
    subst (λ (q : Netlist). port_fault q ≡ None → (ts ≡ design_lexemes q) × IsWellFormed q) r.netlist (found_so ts r.items r.header r.begins r.goes_on r.ends) fault
