-- Bytes have one outcome.
use Rattle.std.proofs.Common.{◌≡◌, ◌∙◌, ℕ, Option, Some, None, List, Result, Ok, Err, sym, ap}
use Rattle.bpf_isa.specs.declared.instruction.Insn.{Insn}
use Rattle.bpf_isa.proofs.TextLaws.{bad_not_spelled, first_bad_one, spells_one}
use Rattle.xdp_maps.specs.declared.decl.MapDecl.{MapDecl}
use Rattle.xdp_object.specs.declared.error.ObjectError.{ObjectError}
use Rattle.xdp_object.specs.declared.error.ObjectError.TheVariants.{Bad}
use Rattle.xdp_object.specs.Choice.{Chosen}
use Rattle.xdp_object.specs.Functions.{function_code, symbol_name}
use Rattle.xdp_object.specs.Laws.{OneOutcome}
use Rattle.xdp_object.specs.Object.{FirstFault, HasNoFault, IsObject, fault_before_code, function_of, maps_of, program_symbol, relocation_fault}
use Rattle.xdp_object.specs.Object.FirstFault.{BeforeCode, InCode, InMaps, InRelocations}
use Rattle.xdp_object.specs.declared.relocated.Relocated.{Relocated}
use Rattle.xdp_object.specs.Maps.{MapTable, with_numbers}
use Rattle.xdp_object.specs.Relocations.{places_of}
use Rattle.xdp_machine.specs.Program.{XdpProgram}

some_one : {X : Type 0} (o : Option X) (x y : X) → o ≡ Some x → o ≡ Some y → x ≡ y
some_one o x y e f = cc

not_both : {X : Type 0} (o : Option X) (x : X) → o ≡ None → o ≡ Some x → ⊥
not_both o x e f = cc

listing : List ℕ → List Insn → List MapDecl → List ℕ → XdpProgram
listing name insns decls refs = record { name = name; insns = insns; decls = decls; refs = refs }

same_listing : (p q : XdpProgram) → p.name ≡ q.name → p.insns ≡ q.insns → p.decls ≡ q.decls → p.refs ≡ q.refs → p ≡ q
unfolding listing
same_listing p q a b c d =
    ap (λ x. listing x p.insns p.decls p.refs) a ∙ ap (λ x. listing q.name x p.decls p.refs) b
    ∙ ap (λ x. listing q.name q.insns x p.refs) c ∙ ap (λ x. listing q.name q.insns q.decls x) d

some_ok : {X E : Type 0} (r : Result X E) (x y : X) → r ≡ Ok x → r ≡ Ok y → x ≡ y
some_ok r x y e f = cc

one_error : {X E : Type 0} (r : Result X E) (x y : E) → r ≡ Err x → r ≡ Err y → x ≡ y
one_error r x y e f = cc

never_ok : {X E : Type 0} (r : Result X E) (x : X) (y : E) → r ≡ Ok x → r ≡ Err y → ⊥
never_ok r x y e f = cc

-- the instructions of a function with no fault
one_code : (choice : Chosen) (bytes : List ℕ) (is js : List Insn) → HasNoFault choice bytes is → HasNoFault choice bytes js → is ≡ js
one_code choice bytes is js h k = spells_one (function_code bytes (function_of choice bytes)) is js h.code k.code

one_program : (choice : Chosen) (bytes : List ℕ) (p q : XdpProgram) → IsObject choice bytes p → IsObject choice bytes q → p ≡ q
one_program choice bytes p q h k =
    let places : List Relocated = places_of bytes (function_of choice bytes) in
    let maps : h.maps ≡ k.maps = some_ok (maps_of choice.hash_cap bytes (function_of choice bytes)) h.maps k.maps h.has_maps k.has_maps in
    same_listing p q (some_one (symbol_name bytes (program_symbol choice bytes)) p.name q.name h.name k.name)
    (h.insns_are ∙ ap (with_numbers places h.maps.symbols) (one_code choice bytes h.insns k.insns h.no_fault k.no_fault)
    ∙ ap (λ (t : MapTable). with_numbers places t.symbols k.insns) maps ∙ sym k.insns_are)
    (h.decls_are ∙ ap (λ (t : MapTable). t.decls) maps ∙ sym k.decls_are) (h.refs_are ∙ sym k.refs_are)

-- where a fault stands, one rule has none
no_maps_yet : (choice : Chosen) (bytes : List ℕ) (e : ObjectError) (insns : List Insn) → HasNoFault choice bytes insns → FirstFault choice bytes e
    → maps_of choice.hash_cap bytes (function_of choice bytes) ≡ Err e
no_maps_yet choice bytes e insns h (BeforeCode k) = absurd (not_both _ e h.function k)
no_maps_yet choice bytes e insns h (InCode k at bad is) = absurd (bad_not_spelled (function_code bytes (function_of choice bytes)) at insns bad h.code)
no_maps_yet choice bytes e insns h (InRelocations k is spells fault) =
    let same : is ≡ insns = spells_one (function_code bytes (function_of choice bytes)) is insns spells h.code in
    absurd (not_both (relocation_fault bytes (function_of choice bytes) insns) e h.relocations (ap (relocation_fault bytes (function_of choice bytes)) (sym same) ∙ fault))
no_maps_yet choice bytes e insns h (InMaps is k fault) = fault

one_fault : (choice : Chosen) (bytes : List ℕ) (e f : ObjectError) → FirstFault choice bytes e → FirstFault choice bytes f → e ≡ f
one_fault choice bytes e f (BeforeCode h) (BeforeCode k) = some_one (fault_before_code choice bytes) e f h k
one_fault choice bytes e f (BeforeCode h) (InCode k at bad is) = absurd (not_both _ e k h)
one_fault choice bytes e f (BeforeCode h) (InRelocations k insns spells fault) = absurd (not_both _ e k h)
one_fault choice bytes e f (BeforeCode h) (InMaps insns k fault) = absurd (not_both _ e k.function h)
one_fault choice bytes e f (InCode h at bad is) (BeforeCode k) = absurd (not_both _ f h k)
one_fault choice bytes e f (InCode h at bad is) (InCode k at' bad' is') =
    is ∙ ap Bad (first_bad_one (function_code bytes (function_of choice bytes)) at at' bad bad') ∙ sym is'
one_fault choice bytes e f (InCode h at bad is) (InRelocations k insns spells fault) =
    absurd (bad_not_spelled (function_code bytes (function_of choice bytes)) at insns bad spells)
one_fault choice bytes e f (InCode h at bad is) (InMaps insns k fault) =
    absurd (bad_not_spelled (function_code bytes (function_of choice bytes)) at insns bad k.code)
one_fault choice bytes e f (InRelocations h insns spells fault) (BeforeCode k) = absurd (not_both _ f h k)
one_fault choice bytes e f (InRelocations h insns spells fault) (InCode k at bad is) =
    absurd (bad_not_spelled (function_code bytes (function_of choice bytes)) at insns bad spells)
one_fault choice bytes e f (InRelocations h insns spells fault) (InRelocations k insns' spells' fault') =
    let same : insns' ≡ insns = spells_one (function_code bytes (function_of choice bytes)) insns' insns spells' spells in
    some_one (relocation_fault bytes (function_of choice bytes) insns) e f fault (ap (relocation_fault bytes (function_of choice bytes)) (sym same) ∙ fault')
one_fault choice bytes e f (InRelocations h insns spells fault) (InMaps insns' k fault') =
    one_error (maps_of choice.hash_cap bytes (function_of choice bytes)) e f (no_maps_yet choice bytes e insns' k (InRelocations h insns spells fault)) fault'
one_fault choice bytes e f (InMaps insns k fault) second =
    one_error (maps_of choice.hash_cap bytes (function_of choice bytes)) e f fault (no_maps_yet choice bytes f insns k second)

pub never_both : (choice : Chosen) (bytes : List ℕ) (p : XdpProgram) (e : ObjectError) → IsObject choice bytes p → ¬ FirstFault choice bytes e
never_both choice bytes p e h fault =
    never_ok (maps_of choice.hash_cap bytes (function_of choice bytes)) h.maps e h.has_maps (no_maps_yet choice bytes e h.insns h.no_fault fault)

pub one_outcome : (choice : Chosen) (bytes : List ℕ) → OneOutcome choice bytes
one_outcome choice bytes = record {
  program = one_program choice bytes;
  fault = one_fault choice bytes;
  apart = never_both choice bytes;
}
