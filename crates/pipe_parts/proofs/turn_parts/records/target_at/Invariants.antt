use Rattle.std.proofs.Common.{◌≡◌, ℕ, ◌<◌, get_or}
use Rattle.block_core.specs.declared.name.Name.{Name}
use Rattle.read_net.specs.declared.sites.OwnSite.{OwnSite}
use Rattle.pipe_net.specs.declared.parts.Part.{Part}
use Rattle.pipe_parts.proofs.turn_parts.records.target_at.Given as goal

abbrev pub invariant-loop-i : goal.invariant-loop-i
invariant-loop-i l = (n : ℕ) (o : OwnSite (Name Part)) → n < l.i → ¬ ((get_or l.owns n o).site ≡ l.site)
