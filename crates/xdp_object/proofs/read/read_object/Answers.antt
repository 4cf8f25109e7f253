use Rattle.std.proofs.Common.{◌≡◌, ◌≢◌, ◌∙◌, ◌^◌, ◌<◌, List, arith, ap, length, map, subst, sym}
use Rattle.bpf_isa.specs.declared.instruction.Insn.{Insn}
use Rattle.bpf_isa.specs.Text.{Spells, unit_count}
use Rattle.elf_view.specs.File.{e_shstrndx}
use Rattle.xdp_machine.specs.Program.{XdpProgram}
use Rattle.xdp_object.specs.Choice.{chosen_of}
use Rattle.xdp_object.specs.declared.error.ObjectError.TheVariants.{NoMemory}
use Rattle.xdp_object.specs.Functions.{symbol_of}
use Rattle.xdp_object.specs.Maps.{with_numbers}
use Rattle.xdp_object.specs.Object.{FirstFault, relocation_fault}
use Rattle.xdp_object.specs.Relocations.{Reference, references}
use Rattle.xdp_object.proofs.FaultLaws.{at_open, passed_on}
use Rattle.xdp_object.proofs.Opened.{names_below}
use Rattle.xdp_object.proofs.Places.{places_of_maps}
use Rattle.xdp_object.proofs.ReadLaws.{Sole, at_code, at_count, at_function, at_maps, at_relocations, fault_of_view, few_units, has_code, is_object, is_program, object_of_view, opened_view, places_units, whole_units}
use Rattle.xdp_object.proofs.read.read_object.Goals as goal

pub returns-in_err-view-clause-fault : goal.returns-in_err-view-clause-fault
returns-in_err-view-clause-fault c =
    let h : FirstFault (chosen_of c.args.choice) c.args.bytes.now c.in_err-view.field-0.0 =
    at_open (chosen_of c.args.choice) c.args.bytes.now c.in_err-view.field-0.0 c.in_err-view.ensures.fault in
    passed_on c.from_residual.result c.in_err-view.field-0.0 (λ e. e ≢ NoMemory → FirstFault (chosen_of c.args.choice) c.args.bytes.now e) c.from_residual.ensures.1 (λ _. h)

pub returns-in_err-number-clause-fault : goal.returns-in_err-number-clause-fault
returns-in_err-number-clause-fault c =
    let choice = chosen_of c.args.choice in
    let view = c.in_ok-view.view in
    let e = c.in_err-number.field-0.0 in
    let opened = opened_view c.args.bytes.now view c.in_ok-view.ensures.whole c.in_ok-view.ensures.fault in
    let h = fault_of_view choice c.args.bytes.now view e c.in_ok-view.ensures.whole
    (at_count choice view e opened c.in_err-number.ensures.fault) in
    passed_on c.from_residual-in_err-number.result e (λ e. e ≢ NoMemory → FirstFault choice c.args.bytes.now e) c.from_residual-in_err-number.ensures.1 (λ _. h)

pub returns-in_err-function-clause-fault : goal.returns-in_err-function-clause-fault
returns-in_err-function-clause-fault c =
    let choice = chosen_of c.args.choice in
    let view = c.in_ok-view.view in
    let e = c.in_err-function.field-0.0 in
    let sole : Sole choice view c.in_ok-number.number = record { opened = opened_view c.args.bytes.now view c.in_ok-view.ensures.whole c.in_ok-view.ensures.fault; sole = c.in_ok-number.ensures.found } in
    let h = fault_of_view choice c.args.bytes.now view e c.in_ok-view.ensures.whole
    (at_function choice view c.in_ok-number.number e sole c.in_err-function.ensures.fault) in
    passed_on c.from_residual-in_err-function.result e (λ e. e ≢ NoMemory → FirstFault choice c.args.bytes.now e) c.from_residual-in_err-function.ensures.1 (λ _. h)

pub returns-in_err-insns-clause-fault : goal.returns-in_err-insns-clause-fault
returns-in_err-insns-clause-fault c =
    let choice = chosen_of c.args.choice in
    let view = c.in_ok-view.view in
    let e = c.in_err-insns.field-0.0 in
    let f = c.in_ok-function.function in
    let sole : Sole choice view c.in_ok-number.number = record { opened = opened_view c.args.bytes.now view c.in_ok-view.ensures.whole c.in_ok-view.ensures.fault; sole = c.in_ok-number.ensures.found } in
    let code = has_code choice view c.in_ok-number.number f.symbol f.code.now sole c.in_ok-function.ensures.fault c.in_ok-function.ensures.symbol c.in_ok-function.ensures.code in
    passed_on c.from_residual-in_err-insns.result e (λ e. e ≢ NoMemory → FirstFault choice c.args.bytes.now e) c.from_residual-in_err-insns.ensures.1
    (λ other. fault_of_view choice c.args.bytes.now view e c.in_ok-view.ensures.whole
    (at_code choice view f.symbol f.code.now e code (c.in_err-insns.ensures.bad other)))

pub bytes_of-strings-requires : goal.bytes_of-strings-requires
bytes_of-strings-requires c =
    omega (arith, c.section_names-names.ensures, ap e_shstrndx c.in_ok-view.ensures.whole, names_below c.in_ok-view.view c.in_ok-view.ensures.opened)

pub known_places-requires-clause-units : goal.known_places-requires-clause-units
known_places-requires-clause-units c =
    whole_units c.in_ok-function.function.code.now c.deref.result.now c.in_ok-function.function.symbol.size
    (subst (λ (is : List Insn). Spells c.in_ok-function.function.code.now is) (sym c.deref.ensures.value) c.in_ok-insns.ensures.ok) c.in_ok-function.ensures.size

pub returns-in_err-places-clause-fault : goal.returns-in_err-places-clause-fault
returns-in_err-places-clause-fault c =
    let choice = chosen_of c.args.choice in
    let view = c.in_ok-view.view in
    let n = c.in_ok-number.number in
    let f = c.in_ok-function.function in
    let sole : Sole choice view n = record { opened = opened_view c.args.bytes.now view c.in_ok-view.ensures.whole c.in_ok-view.ensures.fault; sole = c.in_ok-number.ensures.found } in
    let code = has_code choice view n f.symbol f.code.now sole c.in_ok-function.ensures.fault c.in_ok-function.ensures.symbol c.in_ok-function.ensures.code in
    let e = c.in_err-places.field-0.0 in
    passed_on c.from_residual-in_err-places.result e (λ e. e ≢ NoMemory → FirstFault choice c.args.bytes.now e) c.from_residual-in_err-places.ensures.1
    (λ other. fault_of_view choice c.args.bytes.now view e c.in_ok-view.ensures.whole
    (at_relocations choice view f.symbol f.code.now c.in_ok-insns.insns.items e code c.in_ok-insns.ensures.ok
    (ap (relocation_fault view f.symbol) (sym c.deref.ensures.value) ∙ c.in_err-places.ensures.fault other)))

pub map_table-requires-clause-maps : goal.map_table-requires-clause-maps
map_table-requires-clause-maps c = λ p n below said.
    places_of_maps c.in_ok-view.view c.in_ok-function.function.symbol c.deref-2.result.now p n (c.deref-2.ensures.value ∙ c.in_ok-places.ensures.places) below said

pub returns-in_err-maps-clause-fault : goal.returns-in_err-maps-clause-fault
returns-in_err-maps-clause-fault c =
    let choice = chosen_of c.args.choice in
    let view = c.in_ok-view.view in
    let n = c.in_ok-number.number in
    let f = c.in_ok-function.function in
    let sole : Sole choice view n = record { opened = opened_view c.args.bytes.now view c.in_ok-view.ensures.whole c.in_ok-view.ensures.fault; sole = c.in_ok-number.ensures.found } in
    let code = has_code choice view n f.symbol f.code.now sole c.in_ok-function.ensures.fault c.in_ok-function.ensures.symbol c.in_ok-function.ensures.code in
    let e = c.in_err-maps.field-0.0 in
    passed_on c.from_residual-in_err-maps.result e (λ e. e ≢ NoMemory → FirstFault choice c.args.bytes.now e) c.from_residual-in_err-maps.ensures.1
    (λ other. fault_of_view choice c.args.bytes.now view e c.in_ok-view.ensures.whole
    (at_maps choice view f.symbol f.code.now c.in_ok-insns.insns.items c.deref-2.result.now e code c.in_ok-insns.ensures.ok
    (ap (relocation_fault view f.symbol) (sym c.deref.ensures.value) ∙ c.in_ok-places.ensures.known) (c.deref-2.ensures.value ∙ c.in_ok-places.ensures.places) (c.in_err-maps.ensures.error other)))

pub numbered-requires-clause-units : goal.numbered-requires-clause-units
numbered-requires-clause-units c =
    let f = c.in_ok-function.function in
    places_units c.in_ok-view.view f.symbol c.deref-4.result.now c.deref-3.result.now (c.deref-4.ensures.value ∙ c.in_ok-places.ensures.places)
    (whole_units f.code.now c.deref-3.result.now f.symbol.size
    (subst (λ (is : List Insn). Spells f.code.now is) (sym c.deref-3.ensures.value) c.in_ok-insns.ensures.ok) c.in_ok-function.ensures.size)

pub referring-requires : goal.referring-requires
referring-requires c =
    let f = c.in_ok-function.function in
    let is = c.in_ok-insns.insns.items in
    let units : length c.deref-5.result.now ≡ unit_count is = places_units c.in_ok-view.view f.symbol c.deref-5.result.now is (c.deref-5.ensures.value ∙ c.in_ok-places.ensures.places)
    (whole_units f.code.now is f.symbol.size c.in_ok-insns.ensures.ok c.in_ok-function.ensures.size) in
    let few : unit_count is < 2 ^ 32 = few_units c.args.bytes.now c.in_ok-view.view (symbol_of c.in_ok-view.view c.in_ok-number.number) f.code.now is
    c.in_ok-view.ensures.whole c.in_ok-view.ensures.fault c.in_ok-function.ensures.code c.in_ok-insns.ensures.ok in
    omega (arith, units, few)

pub of-requires : goal.of-requires
of-requires c =
    let choice = chosen_of c.args.choice in
    let view = c.in_ok-view.view in
    let n = c.in_ok-number.number in
    let f = c.in_ok-function.function in
    let sole : Sole choice view n = record { opened = opened_view c.args.bytes.now view c.in_ok-view.ensures.whole c.in_ok-view.ensures.fault; sole = c.in_ok-number.ensures.found } in
    let code = has_code choice view n f.symbol f.code.now sole c.in_ok-function.ensures.fault c.in_ok-function.ensures.symbol c.in_ok-function.ensures.code in
    let is = c.in_ok-insns.insns.items in
    let places = c.deref-2.result.now in
    let t = c.in_ok-maps.maps in
    let same : c.deref-4.result.now ≡ places = c.deref-4.ensures.value ∙ sym c.deref-2.ensures.value in
    is_program choice.hash_cap view f.symbol f.code.now c.in_ok-name.name.items is c.in_ok-insns-2.insns.items places t c.into_decls.result.items c.in_ok-refs.refs.items
    c.in_ok-insns.ensures.ok
    (few_units c.args.bytes.now view (symbol_of view n) f.code.now is c.in_ok-view.ensures.whole c.in_ok-view.ensures.fault c.in_ok-function.ensures.code c.in_ok-insns.ensures.ok)
    (ap (relocation_fault view f.symbol) (sym c.deref.ensures.value) ∙ c.in_ok-places.ensures.known) (c.deref-2.ensures.value ∙ c.in_ok-places.ensures.places) c.in_ok-maps.ensures.ok c.in_ok-maps.ensures.maps
    (c.in_ok-insns-2.ensures ∙ ap (λ ps. with_numbers ps c.symbols.result.now c.deref-3.result.now) same ∙ ap (λ ss. with_numbers places ss c.deref-3.result.now) c.symbols.ensures
    ∙ ap (with_numbers places t.symbols) c.deref-3.ensures.value)
    c.into_decls.ensures
    (c.in_ok-refs.ensures ∙ ap (λ ps. map (λ (r : Reference). r.place) (references ps)) (c.deref-5.ensures.value ∙ sym c.deref-2.ensures.value))

pub returns-clause-program : goal.returns-clause-program
returns-clause-program c =
    let choice = chosen_of c.args.choice in
    let view = c.in_ok-view.view in
    let n = c.in_ok-number.number in
    let f = c.in_ok-function.function in
    let sole : Sole choice view n = record { opened = opened_view c.args.bytes.now view c.in_ok-view.ensures.whole c.in_ok-view.ensures.fault; sole = c.in_ok-number.ensures.found } in
    let code = has_code choice view n f.symbol f.code.now sole c.in_ok-function.ensures.fault c.in_ok-function.ensures.symbol c.in_ok-function.ensures.code in
    let is = c.in_ok-insns.insns.items in
    let places = c.deref-2.result.now in
    let t = c.in_ok-maps.maps in
    let p = c.of.result in
    let of = c.of.ensures in
    let same : c.deref-4.result.now ≡ places = c.deref-4.ensures.value ∙ sym c.deref-2.ensures.value in
    object_of_view choice c.args.bytes.now view p c.in_ok-view.ensures.whole
    (is_object choice view n f.symbol f.code.now f.name.now is places t p sole code c.in_ok-function.ensures.name c.in_ok-insns.ensures.ok
    (ap (relocation_fault view f.symbol) (sym c.deref.ensures.value) ∙ c.in_ok-places.ensures.known) (c.deref-2.ensures.value ∙ c.in_ok-places.ensures.places) c.in_ok-maps.ensures.ok
    (ap (λ (q : XdpProgram). q.name) of ∙ c.in_ok-name.ensures.items)
    (ap (λ (q : XdpProgram). q.insns) of ∙ c.in_ok-insns-2.ensures ∙ ap (λ ps. with_numbers ps c.symbols.result.now c.deref-3.result.now) same
    ∙ ap (λ ss. with_numbers places ss c.deref-3.result.now) c.symbols.ensures ∙ ap (with_numbers places t.symbols) c.deref-3.ensures.value)
    (ap (λ (q : XdpProgram). q.decls) of ∙ c.into_decls.ensures)
    (ap (λ (q : XdpProgram). q.refs) of ∙ c.in_ok-refs.ensures
    ∙ ap (λ ps. map (λ (r : Reference). r.place) (references ps)) (c.deref-5.ensures.value ∙ sym c.deref-2.ensures.value)))
