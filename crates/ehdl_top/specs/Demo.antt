-- The lines of a demo: what is counted of a run.
use Rattle.std.specs.Prelude.{ℕ, List, [], ◌∷◌, codes}
use Rattle.beat_core.specs.declared.answer.Answer.{Answer}
use Rattle.port_drive.specs.AnswerCounts.Counts.{verdict_count, other_count, byte_count}
use Rattle.ehdl_build.specs.Compiled.{PipelineSize}
use Rattle.ehdl_top.specs.Report.{counted_line}

-- How many packets there were, and how many had each verdict; the bytes of the frames that were answered, and the entries of the map
-- after them; the last stage of the pipeline and its record sites; and the clocks that the packets could take.
abbrev pub demo_lines : ℕ → List Answer → ℕ → PipelineSize → ℕ → List (List ℕ)
demo_lines packets answers entries size limit =
    counted_line (codes "packets ") packets
    ∷ counted_line (codes "aborted ") (verdict_count 0 answers)
    ∷ counted_line (codes "drop ") (verdict_count 1 answers)
    ∷ counted_line (codes "pass ") (verdict_count 2 answers)
    ∷ counted_line (codes "tx ") (verdict_count 3 answers)
    ∷ counted_line (codes "redirect ") (verdict_count 4 answers)
    ∷ counted_line (codes "other ") (other_count answers)
    ∷ counted_line (codes "bytes ") (byte_count answers)
    ∷ counted_line (codes "entries ") entries
    ∷ counted_line (codes "stages ") size.stages
    ∷ counted_line (codes "records ") size.records
    ∷ counted_line (codes "limit ") limit
    ∷ []
