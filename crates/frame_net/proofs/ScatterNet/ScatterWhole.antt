-- The block of answers is what it is to be.
use Rattle.std.specs.Prelude.{ℕ, ◌-◌, ◌/◌, ◌^◌, ◌<◌, ◌≤◌, ◌==◌, List, length, Contains}
use Rattle.std.proofs.Common.{get_or, refl, arith}
use Rattle.block_core.specs.declared.name.Name.{Name}
use Rattle.block_core.specs.declared.name.Name.TheVariants as name
use Rattle.block_core.proofs.list_laws_laws.BoolLaws.{and_is}
use Rattle.frame_net.specs.declared.held.Kept.{Kept}
use Rattle.frame_net.specs.ScatterNet.Scatter.{IsScatter}
use Rattle.frame_net.specs.ScatterNet.ScatterNets.{scatter_block}
use Rattle.frame_net.specs.Frames.{banks}
use Rattle.frame_net.proofs.BankLaws.{few_banks}
use Rattle.frame_net.proofs.ScatterNet.BeatLemmas.{beat_spelled}
use Rattle.frame_net.proofs.ScatterNet.FormLemmas.{widths_are, is_typed, in_order, words_spelled, words_go}
use Rattle.frame_net.proofs.ScatterNet.ShownLemmas.{shows_beat, moves}
use Rattle.frame_net.proofs.ScatterNet.FreeLemmas.{is_free}

pub scatters : {P : Type 0} (p gather exit : P) (bits : ℕ) (kept : List Kept) (words bytes : List ℕ) (taken slot : Name P) → 1 ≤ bits → bits ≤ 9 → ((j : ℕ) → j < length words → get_or words j 0 < 2 ^ 11) → ((b : ℕ) → Contains bytes b → Contains words (b / 8))
    → IsScatter p gather exit bits kept words bytes taken slot (scatter_block p gather exit bits kept words bytes taken slot)
scatters p gather exit bits kept words bytes taken slot some most small covered = record {
  registers = refl;
  memories = refl;
  wires = widths_are p gather exit bits kept words bytes taken slot;
  typed = λ d here one numbered has answers. is_typed p gather exit bits kept words bytes taken slot some most small d here one numbered has answers;
  ordered = λ d before own g x q. in_order p gather exit bits kept words bytes taken slot d before own g x q;
  reads = λ d own t. (t, (own, tt, (own, tt)));
  within = omega arith;
  wires_spelled = and_is _ _ (beat_spelled p gather bits kept 0 (banks bits - 1) (let n = few_banks bits most in omega arith)) (words_spelled p gather exit bits kept words bytes taken slot words 0);
  spelled = refl;
  goes = λ v. (refl, (refl, (refl, (refl, (refl, (refl, (refl, (refl, (refl, (refl, words_go p gather exit bits kept words bytes taken slot v words 0))))))))));
  first = refl;
  has_last = λ v solved. ((v.net (name.Register p 0)).value == (v.net (name.Wire p 1)).value, solved.1.1.1.0);
  shows = λ v ms es pos at a r solved sees holds answer changes few. shows_beat p gather exit bits some kept words bytes slot covered v ms es pos at a r solved sees holds answer changes few;
  clock = λ v pos goes last few position t l. moves p taken v pos goes last few position t l;
  free = is_free p gather exit bits kept words bytes taken slot;
}
