-- The block that gathers frames is what it is to be.
use Rattle.std.specs.Prelude.{◌≡◌, ℕ, ◌≤◌, List}
use Rattle.std.specs.List.{AllByRecursion}
use Rattle.std.proofs.Common.{refl, subst, sym}
use Rattle.block_core.specs.declared.name.Name.{Name}
use Rattle.block_core.specs.Blocks.{BlockTree}
use Rattle.frame_net.specs.declared.held.Kept.{Kept}
use Rattle.frame_net.specs.Frames.{further}
use Rattle.frame_net.specs.Gather.{IsGather, IsKept, held_widths}
use Rattle.frame_net.specs.GatherNets.{gather_block}
use Rattle.frame_net.proofs.StoreLaws.{widths_are}
use Rattle.frame_net.proofs.GatherLemmas.{first_words, is_typed, in_order, statement_reads, is_within, is_spelled}
use Rattle.frame_net.proofs.GatherClock.{stays, has_taken}
use Rattle.frame_net.proofs.FreeLaws.{gather_free}

gathers : {P : Type 0} (p : P) (bits : ℕ) (kept : List Kept) (over slot : Name P) → 1 ≤ bits → bits ≤ 9 → AllByRecursion IsKept kept → IsGather p bits kept over slot (gather_block p bits kept over slot)
gathers p bits kept over slot some most words = record {
  registers = refl;
  memories = widths_are (held_widths bits kept);
  wires = refl;
  typed = λ d here wide numbered. is_typed p bits kept over slot some most words d here wide numbered;
  ordered = λ d before a o q. in_order d before p bits over slot a o q;
  reads = λ d a o q. statement_reads d p bits (further bits kept) over slot a o q;
  within = is_within p bits kept over slot;
  wires_spelled = refl;
  spelled = is_spelled p bits (further bits kept) over slot;
  goes = λ v. (refl, (refl, (refl, (refl, (refl, (refl, (refl, tt)))))));
  first = λ at. record { registers = refl; memories = first_words bits kept; begun = tt };
  stays = λ v s at o solved sees. stays p bits some kept over slot v s at o solved sees;
  takes = λ v s at o part solved sees offer few g. has_taken p bits some kept over slot v s at o part solved sees offer few g;
  free = gather_free p bits kept over slot;
}

pub is_gather : {P : Type 0} (p : P) (bits : ℕ) (kept : List Kept) (over slot : Name P) (b : BlockTree (Name P)) → 1 ≤ bits → bits ≤ 9 → AllByRecursion IsKept kept → b ≡ gather_block p bits kept over slot → IsGather p bits kept over slot b
is_gather p bits kept over slot b some most words e = subst (IsGather p bits kept over slot) (sym e) (gathers p bits kept over slot some most words)
