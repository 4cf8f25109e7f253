-- Of a site one cell at most says whether its key is there, and one at most what it answers.
use Rattle.std.proofs.Common.{◌∙◌, sym, ap}
use Rattle.hazard_core.specs.cell_core.Cells.{site_in}
use Rattle.hazard_core.specs.StageValues.{found_cell, answer_cell}
use Rattle.ehdl_build.specs.ProgramPlan.ReadCells.{ReadCellsAreFirst, AccessesAreAligned}
use Rattle.ehdl_build.proofs.ProgramPlan.Reading.{found_there, answer_there, found_reads, answer_reads}

pub read_cells_first : ReadCellsAreFirst
read_cells_first g p law = record {
  found = λ c j l e.
      let site = law.sited.known c j l (ap site_in e) in
      let s = law.reads.each j site in
      let there = found_there p.cells j c l e in
      let reads = found_reads p.cells j there in
      let bits = s.found_bits c l e in
      record { site = site; cell = s.one (found_cell p.cells j) c there l (ap site_in reads) (e ∙ sym reads); width = bits.0; from = bits.1 };
  answer = λ c j l e.
      let site = law.sited.known c j l (ap site_in e) in
      let s = law.reads.each j site in
      let there = answer_there p.cells j c l e in
      let reads = answer_reads p.cells j there in
      let bits = s.answered_bits c l e in
      record { site = site; cell = s.one (answer_cell p.cells j) c there l (ap site_in reads) (e ∙ sym reads); width = bits.0; from = bits.1 };
}

pub accesses_aligned : AccessesAreAligned
accesses_aligned g p law j l = (law.reads.each j l).aligned
