-- A pipe can be built of cells that can be built.
use Rattle.std.proofs.Common.{◌<◌, ◌^◌, List, length}
use Rattle.std.proofs.lemmas.List.Elements.{All-contains}
use Rattle.xdp_object.specs.xdp_maps.declared.decl.MapDecl.{MapDecl}
use Rattle.row_rules.specs.cell_core.Sites.{ProgramView}
use Rattle.row_rules.specs.cell_core.Formed.{AreFormed, AreSited}
use Rattle.predicate_core.specs.Buildable.{IsBuildable, HasBits}
use Rattle.pipe_core.specs.Planned.{IsUsable}

pub usable : (p : ProgramView) (decls : List MapDecl) → AreFormed p.cells → AreSited decls p → length p.sites < 2 ^ 32 → IsBuildable p → IsUsable p
usable p decls formed sited few built = record {
  formed = formed;
  known = sited.known;
  few = few;
  verdict = built.verdict.width;
  target = built.target.width;
  bytes = λ x inside. (All-contains (λ b. (b.at < 256) × HasBits p.cells 8 b.cell) p.frame x built.bytes inside).1.width;
}
