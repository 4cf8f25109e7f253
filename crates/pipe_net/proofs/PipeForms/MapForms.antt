-- The parts of maps are in order and well typed.
use Rattle.std.specs.Prelude.{◌≡◌, ℕ, suc, ◌+◌, ◌*◌, ◌/◌, ◌<◌, ◌≤◌, ◌∷◌, length, slice_index, Bool, true, false}
use Rattle.std.proofs.Common.{refl, sym, ap, ◌∙◌, subst, arith}
use Rattle.block_core.specs.net_core.Ports.{port_list}
use Rattle.hazard_core.specs.xdp_maps.declared.decl.MapKind.{MapKind}
use Rattle.hazard_core.specs.xdp_maps.declared.decl.MapKind.TheVariants.{Hash, Array}
use Rattle.block_core.proofs.ProductBlocks.AloneLaws.{free_alone}
use Rattle.block_core.specs.declared.name.Name.{Name}
use Rattle.block_core.specs.Blocks.{BlockTree, Whole}
use Rattle.block_core.specs.Order.{InOrder, AllInOrder}
use Rattle.block_core.specs.Formed.{IsTypedBlock, StatementReads, IsThere}
use Rattle.turn_net.specs.cell_nets.declared.operand.Operand.TheVariants.{Net}
use Rattle.hazard_core.specs.cell_core.declared.site.Act.{Act}
use Rattle.hazard_core.specs.cell_core.declared.site.Act.TheVariants as act
use Rattle.hazard_core.specs.cell_core.Sites.{site_at}
use Rattle.hazard_core.specs.cell_core.Formed.{IsInside}
use Rattle.hazard_core.specs.Commits.{word_count}
use Rattle.read_net.specs.overlay_net.ValueNet.Words.{access_start, answers_number}
use Rattle.hazard_core.specs.xdp_maps.Calls.{change_bytes}
use Rattle.hazard_core.specs.xdp_machine.Memory.{bytes_in}
use Rattle.hazard_core.specs.bpf_isa.declared.operation.Size.{Size}
use Rattle.hazard_core.specs.bpf_isa.declared.operation.Size.TheVariants.{B, H, W, Dw}
use Rattle.hazard_core.specs.cell_core.Rows.{numbers}
use Rattle.std.proofs.lemmas.List.Elements.{filter_passes}
use Rattle.commit_net.specs.Choosing.{all_read}
use Rattle.commit_net.specs.ChangeNet.Written.{written_outside}
use Rattle.commit_net.specs.MapBlock.Parts.{MapTrees, IsText, Each, in_order, AreParts as AreMapParts}
use Rattle.pipe_net.specs.declared.parts.Part.{Part}
use Rattle.pipe_net.specs.Parts as part
use Rattle.pipe_net.specs.Parts.{part_count, behind_words}
use Rattle.pipe_net.specs.Layout.{Layout, program_of}
use Rattle.pipe_net.specs.PipeTurns.Maps.{decl_at}
use Rattle.pipe_net.specs.PipeTurns.Parts.{idle_net, writes_net}
use Rattle.pipe_net.specs.PipePlaces.Layout.{load_sites}
use Rattle.pipe_net.specs.PipeMaps.Parts.{commits_net, parts_at}
use Rattle.pipe_net.specs.PipeForms.Parts.{AreParts}
use Rattle.pipe_net.proofs.PipeForms.EarlierLemmas.{earlier, IsEarly, AreReady, IsReady, early_there, ready_declared, ready_early, ready_is_there}
use Rattle.pipe_net.proofs.PipeForms.HeldLemmas.{among}
use Rattle.pipe_net.proofs.PipeForms.MapLemmas.{number_within, of_map_there, map_parts, own_table, own_values}
use Rattle.pipe_net.proofs.PipeForms.ActionLemmas.{sites_below, map_within, writes_ready, idle_ready, commits_ready}
use Rattle.pipe_net.proofs.PipeForms.ChangeLemmas.{operations_ready, written_read, change_read}
use Rattle.pipe_net.proofs.PipeForms.DeclaredLemmas.{word_read}
use Rattle.pipe_net.proofs.PipeForms.GoodLemmas.{IsGood, within_idle, good_wiring, good_empty}

-- an access that answers begins in a word of the value
some_bytes : (size : Size) → 0 < bytes_in size
some_bytes B = omega arith
some_bytes H = omega arith
some_bytes W = omega arith
some_bytes Dw = omega arith

some_change : (wide : Bool) → 0 < change_bytes wide
some_change true = omega arith
some_change false = omega arith

begins_within : (at many bytes : ℕ) → 0 < many → at + many ≤ bytes → at / 8 < word_count bytes
begins_within at many bytes some inside = omega arith

starts_within : (a : Act) (bytes : ℕ) → answers_number a ≡ true → IsInside bytes a → access_start a / 8 < word_count bytes
starts_within act.Lookup bytes e inside = cc
starts_within act.Update bytes e inside = cc
starts_within act.Delete bytes e inside = cc
starts_within (act.Load at s) bytes e inside = begins_within at (bytes_in s) bytes (some_bytes s) inside
starts_within (act.Store at s) bytes e inside = cc
starts_within (act.Atomic at c) bytes e inside = begins_within at (change_bytes c.wide) bytes (some_change c.wide) inside

module _ (l : Layout) (d : Whole Part) (parts : AreParts l d) where
  -- ---- the slots of a map
  module _ (m : ℕ) (there : m < length l.decls) where
    slots_by : (kind : MapKind) → (decl_at l m).kind ≡ kind → IsGood d (4 + l.sizes.commit + m)
    slots_by Hash e =
        let is = (parts.actions.writes m there).slots.hash e in
        record {
          typed = is.typed d (own_table l d parts m there e);
          ordered = is.ordered d (earlier (4 + l.sizes.commit + m)) (of_map_there l d parts m there 3 (omega arith));
          reads = is.reads d;
          within = within_idle (d.block (part.slots l.sizes m)) is.registers is.memories is.within;
          wires_spelled = is.wires_spelled;
          spelled = is.spelled;
          alone = free_alone (part.slots l.sizes m) (d.block (part.slots l.sizes m)) is.free;
        }
    slots_by Array e = good_empty d (4 + l.sizes.commit + m) ((parts.actions.writes m there).slots.array e)

    pub slots_good : IsGood d (4 + l.sizes.commit + m)
    slots_good = slots_by (decl_at l m).kind refl

  -- ---- words under pointers
  module _ (i : ℕ) (there : i < length (load_sites (program_of l))) where
    abbrev word_at : ℕ
    word_at = 4 + l.sizes.commit + l.sizes.maps + i

    abbrev site : ℕ
    site = slice_index (load_sites (program_of l)) i

    abbrev map : ℕ
    map = (site_at (program_of l).sites site).map

    known : site < length (program_of l).sites
    known = sites_below (λ j. answers_number (site_at (program_of l).sites j).act) (length (program_of l).sites) i 0 there

    answers : answers_number (site_at (program_of l).sites site).act ≡ true
    answers = filter_passes (λ j. answers_number (site_at (program_of l).sites j).act) (numbers 0 (length (program_of l).sites)) i 0 there

    first_word : access_start (site_at (program_of l).sites site).act / 8 < word_count (decl_at l map).value
    first_word = starts_within (site_at (program_of l).sites site).act (decl_at l map).value answers (parts.stages.laid.staged.fits site known).inside

    pub word_good : IsGood d word_at
    word_good =
        let is = (parts.stages.words i there).block in
        let ready = word_read l d parts i there word_at (omega arith) in
        let on = map_within l d parts site known in
        let start = access_start (site_at (program_of l).sites site).act / 8 in
        record {
          typed = is.typed d refl (λ k lt. own_values l d parts map on (start + k) (let z : start + k ≡ start = omega (arith, lt) in subst (λ j. j < word_count (decl_at l map).value) (sym z) first_word)) (ready_declared d word_at (parts.stages.words i there).outside ready);
          ordered = is.ordered d (earlier word_at) (of_map_there l d parts map on 3 (omega arith)) (ready_early d word_at (parts.stages.words i there).outside ready);
          reads = is.reads d;
          within = within_idle (d.block (part.word l.sizes i)) is.registers is.memories is.within;
          wires_spelled = is.wires_spelled;
          spelled = is.spelled;
          alone = free_alone (part.word l.sizes i) (d.block (part.word l.sizes i)) is.free;
        }

  -- ---- the six parts of a map
  module _ (m : ℕ) (there : m < length l.decls) where
    abbrev first : ℕ
    first = behind_words l.sizes + l.sizes.maps + 3 + 6 * m

    abbrev trees : MapTrees (Name Part)
    trees = (parts.maps.maps m there).trees

    of : AreMapParts d (parts_at l m) trees
    of = map_parts l d parts m there

    low : m < l.sizes.maps
    low = number_within l d parts m there

    operations : AreReady d (first + 0) (all_read (parts.maps.maps m there).operations)
    operations = operations_ready l d parts m there (first + 0) (omega arith)

    commits : IsReady d (first + 0) (Net (commits_net l d parts.actions m) 1)
    commits = commits_ready l d parts (first + 0) (omega arith) m there

    writes : IsReady d (first + 0) (Net (writes_net l) 1)
    writes = writes_ready l d parts (first + 0) (omega arith)

    idle : IsReady d (first + 0) (Net (idle_net l) 1)
    idle = idle_ready l d parts (first + 0) (omega arith)

    typed : Each (λ p b. IsTypedBlock d port_list b) (parts_at l m) trees
    typed = (parts.maps.maps m there).map.formed.typed d of (ready_declared d (first + 0) (all_read (parts.maps.maps m there).operations) operations) (commits.1, writes.1, idle.1)

    within_count : first + 0 ≤ part_count l.sizes
    within_count = omega (arith, low)

    here : (x : Name Part) → IsEarly d (first + 0) x → IsThere d x
    here x h = early_there d (part_count l.sizes) (among l d parts) (first + 0) within_count x h

    reads : Each (λ p b. StatementReads (IsThere d) b.statement) (parts_at l m) trees
    reads =
        (parts.maps.maps m there).map.formed.reads d of (ready_is_there d (part_count l.sizes) (among l d parts) (first + 0) within_count (all_read (parts.maps.maps m there).operations) operations)
        (here (commits_net l d parts.actions m) commits.0, here (writes_net l) writes.0, here (idle_net l) idle.0)

    ordered : AllInOrder d (earlier (first + 0)) (in_order (parts_at l m))
    ordered = (parts.maps.maps m there).map.formed.ordered d (earlier (first + 0)) of (ready_early d (first + 0) (all_read (parts.maps.maps m there).operations) operations) (commits.0, writes.0, idle.0)

    texts : Each (λ p b. IsText b) (parts_at l m) trees
    texts = (parts.maps.maps m there).map.formed.texts

    -- a part with one of these blocks
    good_text : (n : ℕ) (b : BlockTree (Name Part)) → d.block (part.part n) ≡ b → IsTypedBlock d port_list b → InOrder d (earlier n) (part.part n) 0 (d.block (part.part n)).wires → StatementReads (IsThere d) b.statement → IsText b → IsGood d n
    good_text n b e t o r x =
        let back = sym e in
        let y = subst IsText back x in
        record {
          typed = subst (IsTypedBlock d port_list) back t;
          ordered = o;
          reads = subst (λ c. StatementReads (IsThere d) c.statement) back r;
          within = y.within;
          wires_spelled = y.wires_spelled;
          spelled = y.spelled;
          alone = free_alone (part.part n) (d.block (part.part n)) y.free;
        }

    -- the parts before each
    one : part.part (first + 0) ∷ earlier (first + 0) ≡ earlier (first + 1)
    one = let e : suc (first + 0) ≡ first + 1 = omega arith in ap earlier e

    two : part.part (first + 1) ∷ part.part (first + 0) ∷ earlier (first + 0) ≡ earlier (first + 2)
    two = let e : suc (first + 1) ≡ first + 2 = omega arith in ap (λ ps. part.part (first + 1) ∷ ps) one ∙ ap earlier e

    three : part.part (first + 2) ∷ part.part (first + 1) ∷ part.part (first + 0) ∷ earlier (first + 0) ≡ earlier (first + 3)
    three = let e : suc (first + 2) ≡ first + 3 = omega arith in ap (λ ps. part.part (first + 2) ∷ ps) two ∙ ap earlier e

    pub finder_good : IsGood d (first + 0)
    finder_good = good_text (first + 0) trees.finds of.blocks.0 typed.0 ordered.0 reads.0 texts.0

    pub fetcher_good : IsGood d (first + 1)
    fetcher_good = good_text (first + 1) trees.fetches of.blocks.1 typed.1 (subst (λ ps. InOrder d ps (part.part (first + 1)) 0 (d.block (part.part (first + 1))).wires) one ordered.1.0) reads.1 texts.1

    pub asker_good : IsGood d (first + 2)
    asker_good = good_text (first + 2) trees.asks of.blocks.2 typed.2 (subst (λ ps. InOrder d ps (part.part (first + 2)) 0 (d.block (part.part (first + 2))).wires) two ordered.1.1.0) reads.2 texts.2

    pub own_good : IsGood d (first + 3)
    own_good = good_text (first + 3) trees.stores of.blocks.3 typed.3 (subst (λ ps. InOrder d ps (part.part (first + 3)) 0 (d.block (part.part (first + 3))).wires) three ordered.1.1.1.0) reads.3 texts.3

    -- the slot that is written, and what that changes
    pub written_good : IsGood d (first + 4)
    written_good =
        let is = (parts.maps.maps m there).written in
        let outside = written_outside (l.slot_bits m) (commits_net l d parts.actions m) trees.slot in
        let ready = written_read l d parts m there (first + 4) (omega arith) in
        record {
          typed = is.typed d refl (own_table l d parts m there) (ready_declared d (first + 4) outside ready);
          ordered = is.words_of.ordered d (earlier (first + 4)) (of_map_there l d parts m there 3 (omega arith)) (ready_early d (first + 4) outside ready);
          reads = is.words_of.reads d;
          within = within_idle (d.block (part.written l.sizes m)) is.words_of.registers is.words_of.memories is.words_of.within;
          wires_spelled = is.words_of.wires_spelled;
          spelled = is.words_of.spelled;
          alone = free_alone (part.written l.sizes m) (d.block (part.written l.sizes m)) is.words_of.free;
        }

    pub change_good : IsGood d (first + 5)
    change_good = good_wiring d (first + 5) _ (parts.maps.maps m there).change.wiring (change_read l d parts m there (first + 5) (omega arith))
