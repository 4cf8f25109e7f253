-- What `prepare` leaves, the lines that it puts, and why it may be given up though its input is in its form.
use Rattle.std.specs.Prelude.{◌≡◌, ℕ, List, [], ◌∷◌, ◌++◌, Some, codes, decimal}
use Rattle.shelf_core.specs.Shelf.{Holding}
use Rattle.xdp_object.specs.xdp_machine.Program.{XdpProgram}
use Rattle.xdp_object.specs.bpf_isa.Text.{unit_count}
use Rattle.xdp_object.specs.Choice.{Chosen}
use Rattle.xdp_object.specs.Object.{IsObject}
use Rattle.kind_core.specs.declared.kind.Offsets.TheVariants.{Fixed}
use Rattle.row_rules.specs.declared.node_rows.stages.Stages.{Stages}
use Rattle.row_rules.specs.NodeRows.Acceptance.{IsAccepted}
use Rattle.prepare_core.specs.Prepared.{IsPrepared}
use Rattle.capture_run.specs.Writes.{Outputs}
use Rattle.ehdl_top.specs.declared.limits.TheConstants.{OBJECT_LIMIT}
use Rattle.ehdl_top.specs.declared.error.CommandError.{CommandError}
use Rattle.ehdl_top.specs.declared.error.CommandError.TheVariants as error
use Rattle.ehdl_top.specs.Forms.{Holds, IsRefusedBy, built}
use Rattle.ehdl_top.specs.Results.{compile_outputs}
use Rattle.ehdl_top.specs.Report.{counted_line}

-- The file that an object asks for: an object that is prepared from its program, and that object itself where its program is accepted.
pub record IsPreparation (object output : List ℕ) (chosen : Chosen) (held : Holding) (outputs : Outputs) : Type 0 where
  pub program : XdpProgram
  pub held_object : Holds OBJECT_LIMIT (held object) (λ bytes. IsObject chosen bytes program)
  pub prepared : XdpProgram
  pub bytes : List ℕ
  pub is : IsPrepared chosen program prepared bytes
  pub itself : IsAccepted Fixed program → held object ≡ Some bytes
  pub outputs_are : outputs ≡ compile_outputs output bytes

-- the units of the object's program and of the prepared one, the stages of this, and its nodes that may write a map
abbrev pub prepare_lines : ℕ → ℕ → Stages → List (List ℕ)
prepare_lines before slots stages =
    (codes "slots " ++ decimal before ++ codes " " ++ decimal slots ++ codes "\n")
    ∷ counted_line (codes "stages ") stages.rows
    ∷ counted_line (codes "records ") stages.records
    ∷ []

-- The lines are of the object that was held before, and of the one that is held under the output's name after.
pub record ArePrepareLines (object output : List ℕ) (chosen : Chosen) (before after : Holding) (lines : List (List ℕ)) : Type 0 where
  pub program : XdpProgram
  pub held_object : Holds OBJECT_LIMIT (before object) (λ bytes. IsObject chosen bytes program)
  pub prepared : XdpProgram
  pub bytes : List ℕ
  pub is : IsPrepared chosen program prepared bytes
  pub held_output : after output ≡ Some bytes
  pub lines_are : lines ≡ prepare_lines (unit_count program.insns) (unit_count prepared.insns) is.accepted.stages

-- An object is declined for the first refusal of its program, as it is compiled. There may be one that is prepared from it, and is not found.
abbrev pub MayDecline : List ℕ → Chosen → Holding → CommandError → Type 0
MayDecline object chosen held (error.Refused r) = Holds OBJECT_LIMIT (held object) (λ bytes. IsRefusedBy chosen built bytes r)
MayDecline object chosen held e = ⊥
