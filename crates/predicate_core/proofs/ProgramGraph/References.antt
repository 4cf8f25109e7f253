-- Which instructions refer to maps.
use Rattle.std.proofs.Common.{◌≡◌, ℕ, ◌==◌, ◌||◌, Bool, true, false, List, [], ◌∷◌, Some, refl, sym, ◌∙◌, ap}
use Rattle.std.specs.Prelude.{All}
use Rattle.std.specs.List.{list_any}
use Rattle.std.proofs.lemmas.Bool.{eqb-true}
use Rattle.std.proofs.lemmas.List.Elements.{All-head, All-tail}
use Rattle.xdp_machine.specs.bpf_isa.declared.operation.Op.TheVariants.{LoadImm}
use Rattle.xdp_machine.specs.bpf_isa.declared.instruction.Insn.{Insn}
use Rattle.xdp_machine.specs.bpf_isa.Text.{insn_at}
use Rattle.xdp_machine.specs.Program.{IsReference}

pub refers_load : (insns : List Insn) (maps : ℕ) (refs : List ℕ) (place : ℕ) (i : Insn) → All (IsReference insns maps) refs → insn_at insns place ≡ Some i → list_any (λ r. r == place) refs ≡ true → i.op ≡ LoadImm
refers_load insns maps [] place i all is h = absurd (cc h)
refers_load insns maps (r ∷ refs) place i all is h = by (r == place) refl h (refers_load insns maps refs place i (All-tail (IsReference insns maps) r refs all) is)
  where
    by : (b : Bool) → (r == place) ≡ b → (b || list_any (λ x. x == place) refs) ≡ true → (list_any (λ x. x == place) refs ≡ true → i.op ≡ LoadImm) → i.op ≡ LoadImm
    by true e g later =
        let own = All-head (IsReference insns maps) r refs all in
        let both : Some own.insn ≡ Some i = sym own.begins ∙ ap (insn_at insns) (eqb-true r place e) ∙ is in
        let one : own.insn ≡ i = cc both in
        ap (λ j. j.op) (sym one) ∙ own.load
    by false e g later = later g
