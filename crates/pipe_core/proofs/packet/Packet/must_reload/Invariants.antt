use Rattle.std.proofs.Common.{◌≡◌, ℕ, Bool, ◌-◌, ◌&&◌, length}
use Rattle.std.specs.Prelude.{slice_index}
use Rattle.std.specs.List.{list_any}
use Rattle.hazard_core.specs.cell_core.Rows.{numbers}
use Rattle.hazard_core.specs.cell_core.Sites.{site_at}
use Rattle.hazard_core.specs.cell_core.View.{program_of}
use Rattle.hazard_core.specs.Marks.{known_on}
use Rattle.pipe_core.specs.Machine.{marked_at}
use Rattle.pipe_core.proofs.packet.Packet.must_reload.Given as goal

-- what is left says the same as all
abbrev pub invariant-loop-j : goal.invariant-loop-j
invariant-loop-j l =
    let n = length l.planned.program.now.sites.items in
    let reload : ℕ → Bool = λ j. marked_at l.self j && known_on (slice_index l.planned.rows.items) l.k l.self.held (site_at (program_of l.planned.program.now).sites j) in
    list_any reload (numbers l.j (n - l.j)) ≡ list_any reload (numbers 0 n)
