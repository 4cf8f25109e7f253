use Rattle.std.proofs.Common.{◌≡◌, ℕ, Bool, ◌-◌, ◌&&◌, length, find, nat_le}
use Rattle.hazard_core.specs.cell_core.Rows.{numbers}
use Rattle.hazard_core.specs.cell_core.View.{program_of}
use Rattle.hazard_core.specs.StageValues.{writes}
use Rattle.pipe_core.proofs.packet.Packet.chosen.Given as goal

-- what is left says the same as all
abbrev pub invariant-loop-j : goal.invariant-loop-j
invariant-loop-j l =
    let n = length l.planned.program.now.sites.items in
    let passes : ℕ → Bool = λ j. nat_le l.done j && writes (program_of l.planned.program.now) l.tables.decls l.self.held j in
    find passes (numbers l.j (n - l.j)) ≡ find passes (numbers 0 n)
