-- What places read stands before them; and all that parts read is declared.
use Rattle.std.specs.Prelude.{ℕ, ◌+◌, ◌*◌, ◌<◌, ◌≤◌, length, List}
use Rattle.std.proofs.Common.{refl, sym, subst, arith}
use Rattle.block_core.specs.declared.name.Name.{Name}
use Rattle.block_core.specs.Blocks.{Whole}
use Rattle.turn_net.specs.cell_nets.declared.operand.Operand.{Operand}
use Rattle.turn_net.specs.cell_nets.declared.operand.Operand.TheVariants.{Net}
use Rattle.stage_net.specs.row_net.PlaceNet.Sources.{source_operands}
use Rattle.stage_net.specs.row_net.PlaceNet.Exit.{output_operands}
use Rattle.commit_net.specs.Choosing.{all_read}
use Rattle.commit_net.specs.ChangeNet.Written.{written_outside}
use Rattle.commit_net.specs.ChangeNet.Changes.{change_outside}
use Rattle.turn_net.specs.TargetNet.Targets.{outside_of}
use Rattle.read_net.specs.TouchNet.Marking.{mark_operands}
use Rattle.read_net.specs.MarkNet.Sites.{outside as mark_outside}
use Rattle.turn_net.specs.Nets.{outside as action_outside}
use Rattle.pipe_net.specs.declared.parts.Part.{Part}
use Rattle.pipe_net.specs.Parts as part
use Rattle.pipe_net.specs.Parts.{behind_maps, part_count}
use Rattle.pipe_net.specs.Layout.{Layout, program_of, last_of}
use Rattle.pipe_net.specs.Standing.{held_registers}
use Rattle.pipe_net.specs.PipeTurns.Maps.{taken_slots}
use Rattle.pipe_net.specs.PipeTurns.Parts.{action_nets, writes_net}
use Rattle.pipe_net.specs.PipePlaces.Layout.{load_sites}
use Rattle.pipe_net.specs.PipeMaps.Parts.{commits_net}
use Rattle.pipe_net.specs.PipeMarks.Parts.{advances}
use Rattle.pipe_net.specs.PipeForms.Reading.{before_place, map_shown, IsReadAt, Advance, Before, OfMap, OfWord}
use Rattle.pipe_net.specs.PipeForms.Parts.{AreParts}
use Rattle.pipe_net.specs.PipeForms.Declared.{Declares, AreAllDeclared, AllAreDeclared}
use Rattle.pipe_net.proofs.PipeForms.EarlierLemmas.{IsReady, AreReady, ready_declared, ready_is_there, ready_available, ready_there}
use Rattle.pipe_net.proofs.PipeForms.HeldLemmas.{among, before_ready, held_ready, sources_ready, answer_ready}
use Rattle.pipe_net.proofs.PipeForms.MapLemmas.{number_within, map_shown_ready}
use Rattle.pipe_net.proofs.PipeForms.ActionLemmas.{told_ready, targets_read, action_ready, chosen_ready}
use Rattle.pipe_net.proofs.PipeForms.ChangeLemmas.{pointed_ready, operations_ready, written_read, change_read}
use Rattle.pipe_net.proofs.PipeForms.MarkLemmas.{marks_ready, reloads_ready}
use Rattle.std.proofs.lemmas.List.Elements.{All-contains}

module _ (l : Layout) (d : Whole Part) (parts : AreParts l d) where
  -- ---- words under pointers
  module _ (i : ℕ) (there : i < length (load_sites (program_of l))) where
    pub word_read : (n : ℕ) → 4 + l.sizes.commit ≤ n → AreReady d n (parts.stages.words i there).outside
    word_read n late =
        let row = (parts.stages.words i there).row in
        ready_there d n (before_place l row) (parts.stages.words i there).outside (before_ready l d parts n late row (parts.readings.row i there)) (parts.readings.word i there)

    pub word_within : i < l.sizes.loads
    word_within = let e = parts.stages.laid.loads in omega (arith, e, there)

    pub word_given : (n : ℕ) → 4 + l.sizes.commit + l.sizes.maps + l.sizes.loads ≤ n → IsReady d n (Net (parts.stages.words i there).word 64)
    word_given n late =
        let h = word_within in
        pointed_ready d (4 + l.sizes.commit + l.sizes.maps + i) n (omega (arith, h, late)) (parts.stages.words i there).block (word_read (4 + l.sizes.commit + l.sizes.maps + i) (omega arith)) (Net (parts.stages.words i there).word 64) (1, omega arith, refl)

  -- ---- places
  place_reads : (n : ℕ) → behind_maps l.sizes < n → (k : ℕ) → k ≤ last_of l → (a : Operand (Name Part)) → IsReadAt l d parts.stages.words k a → IsReady d n a
  place_reads n late k q a (Advance e) = subst (IsReady d n) (sym e) (told_ready l d parts n late 3 (omega arith))
  place_reads n late k q a (Before h) = ready_available d n (before_place l k) (before_ready l d parts n (omega (arith, late)) k q) a h
  place_reads n late k q a (OfMap m there h) = ready_available d n (map_shown l m) (map_shown_ready l d parts m there n (omega (arith, late))) a h
  place_reads n late k q a (OfWord i there e) = subst (IsReady d n) (sym e) (word_given i there n (omega (arith, late)))

  pub place_read : (n : ℕ) → behind_maps l.sizes < n → (k : ℕ) (q : k ≤ last_of l) → AreReady d n (parts.stages.places k q).outside
  place_read n late k q a c = place_reads n late k q a (All-contains (IsReadAt l d parts.stages.words k) (parts.stages.places k q).outside a (parts.readings.place k q) c)

  -- what is ready is there, with its widths
  declares : (n : ℕ) → n ≤ part_count l.sizes → (ins : List (Operand (Name Part))) → AreReady d n ins → Declares d ins
  declares n le ins h = record { widths = ready_declared d n ins h; there = ready_is_there d (part_count l.sizes) (among l d parts) n le ins h }

  -- ---- all of it, before a part after all
  abbrev end : ℕ
  end = behind_maps l.sizes + 1

  pub all_declared : AreAllDeclared l d parts
  all_declared = record {
    held = record {
      registers = λ k q. declares end (omega arith) (held_registers l k) (held_ready l d parts k q end);
      sources = declares end (omega arith) (source_operands (part.sources l.sizes) l.kept) (sources_ready l d parts end (omega arith));
      answer = declares end (omega arith) (output_operands l.answer) (answer_ready l d parts end);
    };
    words = λ i there. declares end (omega arith) (parts.stages.words i there).outside (word_read i there end (omega arith));
    places = λ k there. declares end (omega arith) (parts.stages.places k there).outside (place_read end (omega arith) k there);
    action = declares end (omega arith) (action_outside (action_nets l) l.records) (action_ready l d parts end (omega arith));
    chosen = declares end (omega arith) parts.actions.chosen (chosen_ready l d parts end (omega arith));
    maps = λ m there. record {
      targets = declares end (omega arith) (outside_of (parts.actions.maps m) (parts.actions.own m) (taken_slots l)) (targets_read l d parts end (omega arith) m there);
      operations = declares end (omega arith) (all_read (parts.maps.maps m there).operations) (operations_ready l d parts m there end (omega arith));
      written = declares (late m) (late_within m there) (written_outside (l.slot_bits m) (commits_net l d parts.actions m) (parts.maps.maps m there).trees.slot) (written_read l d parts m there (late m) (omega arith));
      change = declares (late m) (late_within m there) (change_outside (l.slot_bits m) (commits_net l d parts.actions m) (writes_net l) (parts.maps.maps m there).slot (parts.maps.maps m there).keys (parts.maps.maps m there).operations) (change_read l d parts m there (late m) (omega arith));
    };
    marks = λ k there. record {
      marks = declares end (omega arith) (mark_outside (advances l) (parts.marks k there).sites) (marks_ready l d parts end (omega arith) k there);
      reloads = declares end (omega arith) (mark_operands (parts.marks k there).reloads) (reloads_ready l d parts end k there);
    };
  }
    where
      late : ℕ → ℕ
      late m = part.behind_words l.sizes + l.sizes.maps + 9 + 6 * m

      late_within : (m : ℕ) → m < length l.decls → part.behind_words l.sizes + l.sizes.maps + 9 + 6 * m ≤ part_count l.sizes
      late_within m there = let h = number_within l d parts m there in omega (arith, h)

pub all_are_declared : AllAreDeclared
all_are_declared = all_declared
