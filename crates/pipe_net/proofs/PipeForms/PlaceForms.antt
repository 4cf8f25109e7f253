-- The parts of marks, of what the host reads, and of places are in order and well typed.
use Rattle.std.specs.Prelude.{ℕ, ◌+◌, ◌<◌, ◌≤◌, List, length}
use Rattle.std.proofs.Common.{refl, sym, subst, arith}
use Rattle.block_core.proofs.ProductBlocks.AloneLaws.{free_alone}
use Rattle.block_core.specs.declared.name.Name.{Name}
use Rattle.block_core.specs.Blocks.{Whole}
use Rattle.turn_net.specs.cell_nets.declared.operand.Operand.TheVariants.{Net}
use Rattle.turn_net.specs.HostNet.Values.{word_name}
use Rattle.read_net.specs.MarkNet.Sites.{outside}
use Rattle.pipe_net.specs.declared.parts.Part.{Part}
use Rattle.pipe_net.specs.Parts as part
use Rattle.pipe_net.specs.Parts.{part_count, behind_maps}
use Rattle.pipe_net.specs.Layout.{Layout, commit_of, last_of}
use Rattle.pipe_net.specs.PipeMarks.Parts.{advances}
use Rattle.pipe_net.specs.PipeForms.Parts.{AreParts}
use Rattle.pipe_net.proofs.PipeForms.EarlierLemmas.{earlier, IsReady, ready_declared, ready_early, ready_is_there}
use Rattle.pipe_net.proofs.PipeForms.HeldLemmas.{among, place_there}
use Rattle.pipe_net.proofs.PipeForms.MapLemmas.{number_within}
use Rattle.pipe_net.proofs.PipeForms.ActionLemmas.{heard_ready}
use Rattle.pipe_net.proofs.PipeForms.ChangeLemmas.{word_ready}
use Rattle.pipe_net.proofs.PipeForms.MarkLemmas.{marks_ready}
use Rattle.pipe_net.proofs.PipeForms.DeclaredLemmas.{place_read}
use Rattle.pipe_net.proofs.PipeForms.GoodLemmas.{IsGood, within_idle}

module _ (l : Layout) (d : Whole Part) (parts : AreParts l d) where
  -- ---- marks
  module _ (k : ℕ) (q : k ≤ commit_of l) where
    abbrev marks_at : ℕ
    marks_at = behind_maps l.sizes + 1 + k

    marks_within : marks_at < part_count l.sizes
    marks_within = let e = parts.sized.commit in omega (arith, q, e)

    pub marks_good : IsGood d marks_at
    marks_good =
        let is = (parts.marks k q).block in
        let ins = outside (advances l) (parts.marks k q).sites in
        let here = among l d parts marks_at marks_within in
        let w = marks_within in
        let ready = marks_ready l d parts marks_at (omega arith) k q in
        record {
          typed = is.typed d refl (ready_declared d marks_at ins ready);
          ordered = is.ordered d (earlier marks_at) (ready_early d marks_at ins ready);
          reads = is.reads d here (ready_is_there d (part_count l.sizes) (among l d parts) marks_at (omega (arith, w)) ins ready);
          within = is.within;
          wires_spelled = is.wires_spelled;
          spelled = is.spelled;
          alone = free_alone (part.marks l.sizes k) (d.block (part.marks l.sizes k)) is.free;
        }

  -- ---- what the host reads
  abbrev value_at : ℕ
  value_at = behind_maps l.sizes + l.sizes.commit + 2

  pub value_good : IsGood d value_at
  value_good =
      let is = parts.maps.value.block in
      let words = parts.maps.value.words in
      let heard = heard_ready l d parts value_at (omega arith) in
      record {
        typed = is.typed d heard.1 (λ m lt. (named words m lt).1);
        ordered = is.ordered d (earlier value_at) heard.0 (λ m lt. (named words m lt).0);
        reads = is.reads d;
        within = within_idle (d.block (part.value l.sizes)) is.registers is.memories is.within;
        wires_spelled = is.wires_spelled;
        spelled = is.statement_spelled;
        alone = free_alone (part.value l.sizes) (d.block (part.value l.sizes)) is.free;
      }
    where
      named : (words : List (Name Part)) (m : ℕ) → m < length parts.maps.value.words → IsReady d value_at (Net (word_name parts.maps.value.words m) 64)
      named words m lt =
          let count = parts.maps.value.count in
          let there : m < length l.decls = omega (arith, lt, count) in
          let low = number_within l d parts m there in
          subst (λ x. IsReady d value_at (Net x 64)) (sym (parts.maps.value.each m there)) (word_ready l d parts m there value_at (omega (arith, low)))

  -- ---- places
  module _ (k : ℕ) (q : k ≤ last_of l) where
    abbrev place_at : ℕ
    place_at = behind_maps l.sizes + l.sizes.commit + 5 + k

    place_within : place_at < part_count l.sizes
    place_within = let e = parts.sized.last in omega (arith, q, e)

    pub place_good : IsGood d place_at
    place_good =
        let is = (parts.stages.places k q).block in
        let ins = (parts.stages.places k q).outside in
        let here = place_there l d parts k q in
        let w = place_within in
        let ready = place_read l d parts place_at (omega arith) k q in
        record {
          typed = is.typed d refl (ready_declared d place_at ins ready);
          ordered = is.ordered d (earlier place_at) (ready_early d place_at ins ready);
          reads = is.reads d here (ready_is_there d (part_count l.sizes) (among l d parts) place_at (omega (arith, w)) ins ready);
          within = is.within;
          wires_spelled = is.wires_spelled;
          spelled = is.spelled;
          alone = parts.apart k q;
        }
