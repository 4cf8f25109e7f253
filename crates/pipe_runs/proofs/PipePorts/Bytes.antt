-- Frames that come, and their answers, have bytes.
use Rattle.std.specs.Prelude.{◌≡◌, ℕ, ◌^◌, ◌<◌, ◌≤◌, if◌then◌else◌, Bool, true, false, Contains, Option, Some, None, List, [], ◌∷◌, length, min}
use Rattle.std.specs.List.{AllByRecursion}
use Rattle.std.proofs.Common.{get_or, refl, arith, length-append}
use Rattle.std.proofs.Math.Nat.{pow-le-pow_right}
use Rattle.std.proofs.lemmas.List.Elements.{Contains-get_or}
use Rattle.cell_core.specs.list_laws.Bytes.{IsBytes}
use Rattle.list_laws.proofs.ByteLaws.{IsBytes-append}
use Rattle.cell_core.specs.beat_core.declared.beat.Beat.{Beat}
use Rattle.cell_core.specs.beat_core.declared.answer.Answer.{Answer}
use Rattle.cell_core.specs.beat_core.Beats.{bytes_of_beat, IsOffer}
use Rattle.cell_core.specs.beat_core.Ports.{Arrival, arrived, Offered, offered}
use Rattle.cell_core.proofs.beat_core_laws.BeatLaws.{IsOffer-count}
use Rattle.cell_core.proofs.beat_core_laws.WordLaws.{length-low_bytes, IsBytes-low_bytes}
use Rattle.cell_core.specs.xdp_maps.State.{MapState}
use Rattle.pipe_core.specs.net_core.declared.ports.Inputs.{Inputs}
use Rattle.cell_core.specs.declared.program.FrameByte.{FrameByte}
use Rattle.cell_core.specs.Cells.{cell_at}
use Rattle.cell_core.specs.CellLaws.{ValuesFit}
use Rattle.cell_core.specs.Sites.{ProgramView, IsCellRun, after}
use Rattle.cell_core.proofs.FrameLaws.{with_bytes_bytes, with_bytes_length}
use Rattle.pipe_core.specs.hazard_core.StageValues.{StageValues, stage_value}
use Rattle.pipe_core.specs.Machine.{State, Build, packet_of}
use Rattle.pipe_core.specs.History.{came_in, answers_of}
use Rattle.pipe_core.specs.Sequential.{AreCellRuns}
use Rattle.pipe_core.specs.HostRuns.Inputs.{input_of}
use Rattle.pipe_net.specs.Layout.{HasAnswer}
use Rattle.pipe_runs.proofs.PipePorts.Ports.{part_by}

-- bytes, at least one
pub record HasBytes (frame : List ℕ) : Type 0 where
  pub bytes : IsBytes frame
  pub some : 1 ≤ length frame

abbrev pub PartHasBytes : Option Arrival → Type 0
PartHasBytes None = Unit {0}
PartHasBytes (Some c) = HasBytes c.frame

-- ---- frames

beat_bytes : (x : Beat) → IsOffer x → HasBytes (bytes_of_beat x)
beat_bytes x offer = record { bytes = IsBytes-low_bytes (min x.bytes 8) x.word; some = let n = length-low_bytes (min x.bytes 8) x.word in let c = IsOffer-count x offer in omega (arith, n, c) }

with_beat : (part : Option Arrival) (o : Offered) → PartHasBytes part → IsOffer o.beat → HasBytes (arrived part o).frame
with_beat None o h offer = beat_bytes o.beat offer
with_beat (Some c) o h offer = record {
  bytes = IsBytes-append c.frame (bytes_of_beat o.beat) h.bytes (beat_bytes o.beat offer).bytes;
  some = omega (arith, h.some, length-append c.frame (bytes_of_beat o.beat));
}

pub part_bytes : (part : Option Arrival) (i : Inputs) (o : Option Beat) → PartHasBytes part → ((x : Beat) → o ≡ Some x → IsOffer x) → PartHasBytes (part_by part i o)
part_bytes part i None h offers = h
part_bytes part i (Some x) h offers = by x.last
  where
    by : (last : Bool) → PartHasBytes (if last then None else Some (arrived part (offered i.in_ifindex i.in_time x)))
    by true = tt
    by false = with_beat part (offered i.in_ifindex i.in_time x) h (offers x refl)

pub came_bytes : (s : State) (i : Inputs) (o : Option Beat) → PartHasBytes s.part → ((x : Beat) → o ≡ Some x → IsOffer x) → AllByRecursion (λ (c : Arrival). HasBytes c.frame) (came_in s (input_of i) o)
came_bytes s i None h offers = tt
came_bytes s i (Some x) h offers = by x.last
  where
    by : (last : Bool) → AllByRecursion (λ (c : Arrival). HasBytes c.frame) (if last then arrived s.part (offered i.in_ifindex i.in_time x) ∷ [] else [])
    by true = (with_beat s.part (offered i.in_ifindex i.in_time x) h (offers x refl), tt)
    by false = tt

-- ---- answers

module _ (fit : ValuesFit) (b : Build) (has : HasAnswer b) where
  abbrev p : ProgramView
  p = b.program

  small : (c : Arrival) (maps : MapState) (v : ℕ → ℕ) → IsCellRun (packet_of c) maps p v → (x : FrameByte) → Contains p.frame x → v x.cell < 256
  small c maps v run x there =
      let lt = fit (packet_of c) p.cells v (record { each = λ k l. (run.each k l).solves }) x.cell (has.byte x there).cell in
      let pow : 2 ^ (cell_at p.cells x.cell).width ≤ 2 ^ 8 = pow-le-pow_right {n = 2} (omega arith) {i = (cell_at p.cells x.cell).width} {j = 8} (has.byte_width x there) in
      omega (arith, lt, pow)

  pub answers_bytes : (maps : MapState) (hs : List StageValues) (cs : List Arrival) (last : MapState) → AreCellRuns p maps hs cs last → AllByRecursion (λ (c : Arrival). HasBytes c.frame) cs
      → AllByRecursion (λ (r : Answer). HasBytes r.frame) (answers_of p hs cs)
  answers_bytes maps [] cs last runs h = tt
  answers_bytes maps (x ∷ xs) [] last runs h = tt
  answers_bytes maps (x ∷ xs) (c ∷ cs) last runs h = (
    record {
      bytes = with_bytes_bytes (stage_value x) c.frame p.frame (λ j d lt. small c maps (stage_value x) runs.0 (get_or p.frame j d) (Contains-get_or p.frame j d lt)) h.0.bytes;
      some = omega (arith, with_bytes_length (stage_value x) c.frame p.frame, h.0.some);
    },
    answers_bytes (after (stage_value x) maps p.sites) xs cs last runs.1 h.1,
  )
