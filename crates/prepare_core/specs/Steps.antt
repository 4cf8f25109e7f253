-- What the steps of preparing give each other.
use Rattle.std.specs.Prelude.{◌≡◌, ℕ, List}
use Rattle.xdp_machine.specs.Program.{XdpProgram}
use Rattle.kind_core.specs.declared.kind.Offsets.TheVariants.{Fixed}
use Rattle.xdp_object.specs.Choice.{Chosen}
use Rattle.row_rules.specs.declared.node_rows.stages.Stages.{Stages}
use Rattle.row_rules.specs.NodeRows.Acceptance.{IsAccepted}
use Rattle.cover_core.specs.Laws.{HaveSameRuns}
use Rattle.prepare_core.specs.declared.preparing.Counts.{Counts}
use Rattle.prepare_core.specs.declared.preparing.Prepared.{Prepared}
use Rattle.prepare_core.specs.Prepared.{IsPrepared, counts_of}

-- b is accepted, in so many stages, and has a's maps and a's runs
pub record IsAcceptedCover (a b : XdpProgram) (stages : Stages) : Type 0 where
  pub accepted : IsAccepted Fixed b
  pub stages_are : stages ≡ accepted.stages
  pub decls : b.decls ≡ a.decls
  pub runs : HaveSameRuns a b

-- the bytes are an object that is prepared from a, with these counts
pub record ArePrepared (choice : Chosen) (a : XdpProgram) (bytes : List ℕ) (counts : Counts) : Type 0 where
  pub program : XdpProgram
  pub is : IsPrepared choice a program bytes
  pub counts_are : counts ≡ counts_of a program is.accepted.stages

-- the object itself, with the counts of its program
pub record IsItself (a : XdpProgram) (object : List ℕ) (stages : Stages) (prepared : Prepared) : Type 0 where
  pub same : prepared.object.items ≡ object
  pub counts : prepared.counts ≡ counts_of a a stages
