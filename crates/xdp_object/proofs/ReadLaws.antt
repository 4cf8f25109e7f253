-- The stages of reading: what is known after each, and the first fault in each.
use Rattle.std.proofs.Common.{◌≡◌, ◌∙◌, ℕ, ◌-◌, ◌*◌, ◌^◌, ◌<◌, ◌≤◌, Bool, true, false, nat_lt, ◌==◌, if◌then◌else◌, length, take, drop, length-take, length-drop, arith, Some, None, Result, Ok, Err, List, [], ◌∷◌, slice_index, map as map_list, refl, sym, ap, subst}
use Rattle.std.proofs.lemmas.Bool.Decides.{nat_tests}
use Rattle.std.specs.Option.{option_or}
use Rattle.bpf_isa.specs.declared.instruction.Insn.{Insn}
use Rattle.bpf_isa.specs.Text.{FirstBad, Spells, unit_count}
use Rattle.bpf_isa.proofs.TextLaws.{length-text_of}
use Rattle.elf_view.specs.declared.parts.Section.{Section}
use Rattle.elf_view.specs.File.{section_at, section_bytes}
use Rattle.elf_view.specs.declared.parts.Symbol.{Symbol}
use Rattle.xdp_object.specs.declared.error.ObjectError.{ObjectError}
use Rattle.xdp_object.specs.declared.error.ObjectError.TheVariants.{Bad, Long}
use Rattle.xdp_object.specs.Choice.{Chosen}
use Rattle.xdp_object.specs.Functions.{function_code, programs, symbol_name, symbol_of}
use Rattle.xdp_object.specs.Object.{FirstFault, HasNoFault, IsObject, fault_before_code, function_of, maps_of, program_symbol, relocation_fault, too_long, wrong_count, wrong_elf, wrong_function}
use Rattle.xdp_object.specs.Object.FirstFault.{BeforeCode, InCode, InMaps, InRelocations}
use Rattle.xdp_object.specs.declared.relocated.Relocated.{Relocated}
use Rattle.xdp_object.specs.Maps.{AreMaps, MapTable, all_in_places, all_referred, no_maps, with_numbers}
use Rattle.xdp_object.specs.Relocations.{Reference, cut_tables, first_unknown, places_of, rela_tables, references, references_from}
use Rattle.xdp_object.proofs.Opened.{no_first, no_rest}
use Rattle.xdp_object.proofs.Places.{length-places_of}
use Rattle.xdp_object.proofs.TableLaws.{program_of}
use Rattle.xdp_maps.specs.declared.decl.MapDecl.{MapDecl}
use Rattle.xdp_machine.specs.Program.{IsProgram, XdpProgram}
use Rattle.xdp_object.proofs.FaultLaws.{both_none, first_there, next_there, opened_first, rest_of}

-- ---- the stages

-- the object was opened, and the function is that of symbol n
pub record Sole (choice : Chosen) (bytes : List ℕ) (n : ℕ) : Type 0 where
  pub opened : option_or (too_long bytes) (wrong_elf bytes) ≡ None
  pub sole : programs choice.program bytes ≡ n ∷ []

-- the function has no fault, and this is its code
pub record HasCode (choice : Chosen) (bytes : List ℕ) (s : Symbol) (code : List ℕ) : Type 0 where
  pub fault : fault_before_code choice bytes ≡ None
  pub symbol : function_of choice bytes ≡ s
  pub code_is : function_code bytes (function_of choice bytes) ≡ code

pub at_count : (choice : Chosen) (bytes : List ℕ) (e : ObjectError) → option_or (too_long bytes) (wrong_elf bytes) ≡ None
    → wrong_count (programs choice.program bytes) ≡ Some e → FirstFault choice bytes e
unfolding rest_of
at_count choice bytes e h k = BeforeCode (opened_first choice bytes ∙ next_there _ _ e h (first_there _ _ e k))

counted : (choice : Chosen) (bytes : List ℕ) (n : ℕ) → Sole choice bytes n
    → fault_before_code choice bytes ≡ option_or (wrong_function bytes n) None
unfolding rest_of
counted choice bytes n h =
    opened_first choice bytes
    ∙ ap (λ o. option_or o (rest_of choice bytes)) h.opened
    ∙ ap (λ ns. option_or (wrong_count ns) (option_or (wrong_function bytes (slice_index ns 0)) None)) h.sole

pub at_function : (choice : Chosen) (bytes : List ℕ) (n : ℕ) (e : ObjectError) → Sole choice bytes n
    → wrong_function bytes n ≡ Some e → FirstFault choice bytes e
at_function choice bytes n e h k = BeforeCode (counted choice bytes n h ∙ first_there _ _ e k)

pub has_code : (choice : Chosen) (bytes : List ℕ) (n : ℕ) (s : Symbol) (code : List ℕ) → Sole choice bytes n
    → wrong_function bytes n ≡ None → s ≡ symbol_of bytes n → code ≡ function_code bytes (symbol_of bytes n) → HasCode choice bytes s code
has_code choice bytes n s code h k e f =
    let number : program_symbol choice bytes ≡ n = ap (λ ns. slice_index ns 0) h.sole in
    record {
      fault = counted choice bytes n h ∙ both_none _ None k refl;
      symbol = ap (symbol_of bytes) number ∙ sym e;
      code_is = ap (λ m. function_code bytes (symbol_of bytes m)) number ∙ sym f;
    }

pub at_code : (choice : Chosen) (bytes : List ℕ) (s : Symbol) (code : List ℕ) (e : ObjectError) → HasCode choice bytes s code
    → (at : ℕ) × (e ≡ Bad at) × FirstBad code at → FirstFault choice bytes e
at_code choice bytes s code e h (at, is, bad) = InCode h.fault at (subst (λ (xs : List ℕ). FirstBad xs at) (sym h.code_is) bad) is

pub at_relocations : (choice : Chosen) (bytes : List ℕ) (s : Symbol) (code : List ℕ) (insns : List Insn) (e : ObjectError)
    → HasCode choice bytes s code → Spells code insns → relocation_fault bytes s insns ≡ Some e → FirstFault choice bytes e
at_relocations choice bytes s code insns e h spells k =
    InRelocations h.fault insns (subst (λ (xs : List ℕ). Spells xs insns) (sym h.code_is) spells) (ap (λ f. relocation_fault bytes f insns) h.symbol ∙ k)

-- the relocations have no fault either
pub no_fault : (choice : Chosen) (bytes : List ℕ) (s : Symbol) (code : List ℕ) (insns : List Insn)
    → HasCode choice bytes s code → Spells code insns → relocation_fault bytes s insns ≡ None → HasNoFault choice bytes insns
no_fault choice bytes s code insns h spells k = record {
  function = h.fault;
  code = subst (λ (xs : List ℕ). Spells xs insns) (sym h.code_is) spells;
  relocations = ap (λ f. relocation_fault bytes f insns) h.symbol ∙ k;
}

-- the maps of the function, by what is said of its places
table_of : (choice : Chosen) (bytes : List ℕ) (s : Symbol) (places : List Relocated) (r : Result MapTable ObjectError)
    → function_of choice bytes ≡ s → places ≡ places_of bytes s → all_in_places choice.hash_cap bytes no_maps places 0 ≡ r
    → maps_of choice.hash_cap bytes (function_of choice bytes) ≡ r
unfolding maps_of
table_of choice bytes s places r symbol said e =
    let all : length places - 0 ≡ length places = omega arith in
    ap (λ f. all_referred choice.hash_cap bytes no_maps (references (places_of bytes f))) symbol
    ∙ ap (λ ps. all_referred choice.hash_cap bytes no_maps (references ps)) (sym said)
    ∙ ap (λ n. all_referred choice.hash_cap bytes no_maps (references_from places 0 n)) (sym all) ∙ e

pub at_maps : (choice : Chosen) (bytes : List ℕ) (s : Symbol) (code : List ℕ) (insns : List Insn) (places : List Relocated) (e : ObjectError)
    → HasCode choice bytes s code → Spells code insns → relocation_fault bytes s insns ≡ None → places ≡ places_of bytes s
    → all_in_places choice.hash_cap bytes no_maps places 0 ≡ Err e → FirstFault choice bytes e
at_maps choice bytes s code insns places e h spells known said fault =
    InMaps insns (no_fault choice bytes s code insns h spells known) (table_of choice bytes s places (Err e) h.symbol said fault)

pub is_object : (choice : Chosen) (bytes : List ℕ) (n : ℕ) (s : Symbol) (code name : List ℕ) (insns : List Insn) (places : List Relocated) (t : MapTable) (p : XdpProgram)
    → Sole choice bytes n → HasCode choice bytes s code → symbol_name bytes n ≡ Some name → Spells code insns → relocation_fault bytes s insns ≡ None
    → places ≡ places_of bytes s → all_in_places choice.hash_cap bytes no_maps places 0 ≡ Ok t
    → p.name ≡ name → p.insns ≡ with_numbers places t.symbols insns → p.decls ≡ t.decls → p.refs ≡ map_list (λ (r : Reference). r.place) (references places)
    → IsObject choice bytes p
is_object choice bytes n s code name insns places t p sole h named spells fine said table en ei ed er =
    let number : program_symbol choice bytes ≡ n = ap (λ ns. slice_index ns 0) sole.sole in
    let same : places ≡ places_of bytes (function_of choice bytes) = said ∙ sym (ap (places_of bytes) h.symbol) in
    record {
      insns = insns;
      no_fault = no_fault choice bytes s code insns h spells fine;
      maps = t;
      has_maps = table_of choice bytes s places (Ok t) h.symbol said table;
      name = ap (symbol_name bytes) number ∙ named ∙ ap Some (sym en);
      insns_are = ei ∙ ap (λ ps. with_numbers ps t.symbols insns) same;
      decls_are = ed;
      refs_are = er ∙ ap (λ ps. map_list (λ (r : Reference). r.place) (references ps)) same;
    }

-- the function has as many bytes as its units
pub whole_units : (code : List ℕ) (insns : List Insn) (size : ℕ) → Spells code insns → size ≡ length code → size ≡ 8 * unit_count insns
whole_units code insns size spells e = e ∙ ap length spells.bytes ∙ length-text_of insns

-- each unit is a place
pub places_units : (bytes : List ℕ) (s : Symbol) (places : List Relocated) (insns : List Insn) → places ≡ places_of bytes s → s.size ≡ 8 * unit_count insns
    → length places ≡ unit_count insns
places_units bytes s places insns said units = omega (arith, ap length said, length-places_of bytes s, units)

pub known_relocations : (bytes : List ℕ) (s : Symbol) (insns : List Insn) → relocation_fault bytes s insns ≡ None → first_unknown (places_of bytes s) insns ≡ None
unfolding relocation_fault
known_relocations bytes s insns e =
    no_first (first_unknown (places_of bytes s) insns) None
    (no_rest (rela_tables bytes s.section) (option_or (first_unknown (places_of bytes s) insns) None)
    (no_rest (cut_tables bytes s.section) (option_or (rela_tables bytes s.section) (option_or (first_unknown (places_of bytes s) insns) None)) e))

-- what was read of an object makes up a program
pub is_program : (hash_cap : ℕ) (bytes : List ℕ) (s : Symbol) (code name : List ℕ) (insns new : List Insn) (places : List Relocated) (t : MapTable) (decls : List MapDecl) (refs : List ℕ)
    → Spells code insns → unit_count insns < 2 ^ 32 → relocation_fault bytes s insns ≡ None → places ≡ places_of bytes s
    → all_in_places hash_cap bytes no_maps places 0 ≡ Ok t → AreMaps t
    → new ≡ with_numbers places t.symbols insns → decls ≡ t.decls → refs ≡ map_list (λ (r : Reference). r.place) (references places)
    → IsProgram (record { name = name; insns = new; decls = decls; refs = refs })
is_program hash_cap bytes s code name insns new places t decls refs spells few fine said table maps ei ed er =
    let all : length places ≡ length places - 0 = omega arith in
    let known : first_unknown places insns ≡ None = ap (λ ps. first_unknown ps insns) said ∙ known_relocations bytes s insns fine in
    let whole = program_of hash_cap bytes name places insns t spells.legal few known
    (ap (λ n. all_referred hash_cap bytes no_maps (references_from places 0 n)) all ∙ table) maps in
    subst (λ (is : List Insn). IsProgram (record { name = name; insns = is; decls = decls; refs = refs })) (sym ei)
    (subst (λ (ds : List MapDecl). IsProgram (record { name = name; insns = with_numbers places t.symbols insns; decls = ds; refs = refs })) (sym ed)
    (subst (λ (rs : List ℕ). IsProgram (record { name = name; insns = with_numbers places t.symbols insns; decls = t.decls; refs = rs })) (sym er) whole))

-- a function of an object has few units
span_short : (bytes : List ℕ) (a b : ℕ) → length (take a (drop b bytes)) ≤ length bytes
span_short bytes a b = omega (arith, length-take a (drop b bytes), length-drop b bytes)

section_short : (bytes : List ℕ) (i : ℕ) → length (section_bytes bytes i) ≤ length bytes
section_short bytes i = by_kind ((section_at bytes i).kind == 8) (section_at bytes i)
  where
    by_kind : (b : Bool) (s : Section) → length (if b then [] else take s.size (drop s.offset bytes)) ≤ length bytes
    by_kind true s = omega arith
    by_kind false s = span_short bytes s.size s.offset

code_short : (bytes : List ℕ) (s : Symbol) → length (function_code bytes s) ≤ length bytes
code_short bytes s = omega (arith, span_short (section_bytes bytes s.section) s.size s.value, section_short bytes s.section)

not_long : (bytes : List ℕ) → option_or (too_long bytes) (wrong_elf bytes) ≡ None → length bytes ≤ 1048576
unfolding too_long
not_long bytes e = by_test (nat_lt 1048576 (length bytes)) refl e
  where
    by_test : (b : Bool) → nat_lt 1048576 (length bytes) ≡ b → option_or (if b then Some Long else None) (wrong_elf bytes) ≡ None → length bytes ≤ 1048576
    by_test true t h = absurd (cc)
    by_test false t h = grind (arith, nat_tests)

pub few_units : (bytes view : List ℕ) (s : Symbol) (code : List ℕ) (insns : List Insn) → view ≡ bytes → option_or (too_long bytes) (wrong_elf bytes) ≡ None
    → code ≡ function_code view s → Spells code insns → unit_count insns < 2 ^ 32
few_units bytes view s code insns same fine is spells =
    let whole : length (function_code view s) ≡ 8 * unit_count insns = ap length (sym is) ∙ ap length spells.bytes ∙ length-text_of insns in
    omega (arith, whole, code_short view s, ap length same, not_long bytes fine)

-- the same of the view, which is the bytes
pub opened_view : (bytes view : List ℕ) → view ≡ bytes → option_or (too_long bytes) (wrong_elf bytes) ≡ None
    → option_or (too_long view) (wrong_elf view) ≡ None
opened_view bytes view e h = subst (λ (b : List ℕ). option_or (too_long b) (wrong_elf b) ≡ None) (sym e) h

pub fault_of_view : (choice : Chosen) (bytes view : List ℕ) (e : ObjectError) → view ≡ bytes → FirstFault choice view e → FirstFault choice bytes e
fault_of_view choice bytes view e same h = subst (λ (b : List ℕ). FirstFault choice b e) same h

pub object_of_view : (choice : Chosen) (bytes view : List ℕ) (p : XdpProgram) → view ≡ bytes → IsObject choice view p → IsObject choice bytes p
object_of_view choice bytes view p same h = subst (λ (b : List ℕ). IsObject choice b p) same h
