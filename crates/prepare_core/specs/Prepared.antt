-- Objects that are prepared from a program, and the one that is given for an object.
use Rattle.std.specs.Prelude.{◌≡◌, ℕ, List}
use Rattle.xdp_machine.specs.bpf_isa.Text.{unit_count}
use Rattle.xdp_machine.specs.Program.{XdpProgram, IsProgram}
use Rattle.kind_core.specs.declared.kind.Offsets.TheVariants.{Fixed}
use Rattle.xdp_object.specs.Choice.{Chosen}
use Rattle.xdp_object.specs.Object.{IsObject}
use Rattle.row_rules.specs.declared.node_rows.stages.Stages.{Stages}
use Rattle.row_rules.specs.NodeRows.Acceptance.{IsAccepted}
use Rattle.cover_core.specs.Laws.{HaveSameRuns}
use Rattle.prepare_core.specs.declared.preparing.Counts.{Counts}
use Rattle.prepare_core.specs.declared.preparing.Prepared.{Prepared}

-- Under a choice the bytes are an object of b, which is accepted where offsets are fixed, and has a's maps, in their order, and a's runs.
pub record IsPrepared (choice : Chosen) (a b : XdpProgram) (bytes : List ℕ) : Type 0 where
  pub object : IsObject choice bytes b
  pub is_program : IsProgram b
  pub accepted : IsAccepted Fixed b
  pub decls : b.decls ≡ a.decls
  pub runs : HaveSameRuns a b

-- what is counted of both programs: their units, and the stages of b
abbrev pub counts_of : XdpProgram → XdpProgram → Stages → Counts
counts_of a b s = record { before = unit_count a.insns; slots = unit_count b.insns; stages = s }

-- an object that is prepared from a, with its counts
pub record Prepares (choice : Chosen) (a : XdpProgram) (prepared : Prepared) : Type 0 where
  pub program : XdpProgram
  pub is : IsPrepared choice a program prepared.object.items
  pub counts : prepared.counts ≡ counts_of a program is.accepted.stages

-- What is given for an object of a is prepared from a; where a itself is accepted, it is that object.
pub record IsGivenFor (choice : Chosen) (a : XdpProgram) (object : List ℕ) (prepared : Prepared) : Type 0 where
  pub prepares : Prepares choice a prepared
  pub itself : IsAccepted Fixed a → prepared.object.items ≡ object
