-- What is counted of a run.
use Rattle.std.specs.Prelude.{ℕ, ◌==◌, nat_lt, List, length, count_by}
use Rattle.std.specs.List.{sum_by}
use Rattle.std.specs.FinMap.{len}
use Rattle.beat_core.specs.declared.answer.Answer.{Answer}
use Rattle.xdp_maps.specs.State.{MapState, contents_at}

-- the answers with this verdict
abbrev pub verdict_count : ℕ → List Answer → ℕ
verdict_count verdict answers = count_by (λ a. a.verdict == verdict) answers

-- those with none of the verdicts 0 to 4
abbrev pub other_count : List Answer → ℕ
other_count answers = count_by (λ a. nat_lt 4 a.verdict) answers

-- the bytes of all their frames together
abbrev pub byte_count : List Answer → ℕ
byte_count answers = sum_by (λ a. length a.frame) answers

-- the entries of a map
abbrev pub entry_count : MapState → ℕ → ℕ
entry_count maps m = len (contents_at maps m)
