-- An object of the program `r0 = k`, `exit` has no maps.
use Rattle.std.proofs.Common.{◌≡◌, ◌∙◌, ℕ, ℤ, ◌+◌, ◌-◌, Some, None, Ok, List, [], ◌∷◌, length, map, refl, sym, ap, arith, inl, inr}
use Rattle.std.proofs.lemmas.Bool.{cases_lt}
use Rattle.std.specs.List.{All}
use Rattle.bpf_isa.specs.declared.instruction.Insn.{Insn}
use Rattle.bpf_isa.specs.declared.operation.Op.TheVariants.{LoadImm}
use Rattle.bpf_isa.specs.Text.{insn_at}
use Rattle.xdp_machine.specs.Program.{XdpProgram}
use Rattle.xdp_object.specs.Choice.{Chosen}
use Rattle.xdp_object.specs.Laws.{TwoUnitsLaw}
use Rattle.xdp_object.specs.Maps.{MapTable, all_referred, map_number, no_maps}
use Rattle.xdp_object.specs.Object.{function_of, maps_of}
use Rattle.xdp_object.specs.Relocations.{Reference, places_of, references, said_at}
use Rattle.xdp_object.specs.declared.relocated.Relocated.{Relocated}
use Rattle.xdp_object.specs.TwoUnits.{leave, move_number, two_units}
use Rattle.xdp_object.proofs.NumberLaws.{and_first, numbered_at, op_is_load, refs_all, same_op}
use Rattle.xdp_object.proofs.Places.{insn_at-skip}
use Rattle.xdp_object.proofs.ReadLaws.{known_relocations}
use Rattle.xdp_object.proofs.TableLaws.{load_at}

-- neither of its instructions is a load
no_load : (k : ℤ) (p : ℕ) (i : Insn) → insn_at (two_units k) p ≡ Some i → i.op ≡ LoadImm → ⊥
no_load k p i e load = elim (cases_lt p 1) [
  | inl first ↦
      let here : p ≡ 0 = omega arith in
      let same : Some (move_number k) ≡ Some i = ap (insn_at (two_units k)) (sym here) ∙ e in
      absurd (cc (same, load))
  | inr past ↦
      let behind : insn_at (leave ∷ []) (p - 1) ≡ Some i = sym (insn_at-skip (move_number k) (leave ∷ []) p past) ∙ e in
      elim (cases_lt (p - 1) 1) [
        | inl second ↦
            let here : p - 1 ≡ 0 = omega arith in
            let same : Some leave ≡ Some i = ap (insn_at (leave ∷ [])) (sym here) ∙ behind in
            absurd (cc (same, load))
        | inr beyond ↦
            let none : None ≡ Some i = sym (insn_at-skip leave [] (p - 1) beyond) ∙ behind in
            absurd (cc none)
      ]
]

nothing : (xs : List ℕ) → All (λ x. ⊥) xs → xs ≡ []
nothing [] h = refl
nothing (x ∷ xs) h = absurd (h 0 0 (omega arith))

no_places : (rs : List Reference) → map (λ (r : Reference). r.place) rs ≡ [] → rs ≡ []
no_places [] e = refl
no_places (r ∷ rs) e = absurd (cc)

pub two_units_alone : (choice : Chosen) (bytes : List ℕ) (p : XdpProgram) (k : ℤ) → TwoUnitsLaw choice bytes p k
unfolding maps_of
two_units_alone choice bytes p k h units =
    let places : List Relocated = places_of bytes (function_of choice bytes) in
    let known = known_relocations bytes (function_of choice bytes) h.insns h.no_fault.relocations in
    let number : ℕ → _ = λ q. map_number h.maps.symbols (said_at places q) in
    let refs : map (λ (r : Reference). r.place) (references places) ≡ [] =
    nothing (map (λ (r : Reference). r.place) (references places))
    (refs_all (λ q. ⊥) places 0 (length places) (λ q s low high said.
    let found = load_at places h.insns q s known (omega arith) said in
    let stands = numbered_at number 0 h.insns q found.insn found.begins in
    no_load k q _ (ap (λ is. insn_at is q) (sym units ∙ h.insns_are) ∙ stands)
    (same_op (number (0 + q)) found.insn ∙ op_is_load found.insn.op (and_first _ _ found.load)))) in
    let none : references places ≡ [] = no_places (references places) refs in
    let table : Ok no_maps ≡ Ok h.maps = sym (ap (all_referred choice.hash_cap bytes no_maps) none) ∙ h.has_maps in
    let maps : no_maps ≡ h.maps = cc in
    (h.decls_are ∙ sym (ap (λ (t : MapTable). t.decls) maps), h.refs_are ∙ refs)
