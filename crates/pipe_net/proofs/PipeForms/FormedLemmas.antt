-- The design that is linked of the parts is in order and well typed, and can be written down.
use Rattle.std.specs.Prelude.{◌≡◌, ℕ, zero, suc, ◌+◌, ◌*◌, ◌<◌, ◌≤◌, List, [], length, map, true, IsTrue}
use Rattle.std.proofs.Common.{get_or, refl, sym, ap, ◌∙◌, subst, arith}
use Rattle.std.proofs.lemmas.List.{get_or-replicate}
use Rattle.block_core.specs.net_core.Ports.{port_list}
use Rattle.block_core.specs.net_core.ProductRules.Products.{no_product_chains}
use Rattle.block_core.proofs.ProductBlocks.AloneLaws.{alone_apart}
use Rattle.block_core.proofs.ProductBlocks.ApartLaws.{linked_has_no_product_chains}
use Rattle.block_core.specs.Blocks.{Whole, PlacedFrom, IsPlaced, Among}
use Rattle.block_core.specs.Order.{AllInOrder}
use Rattle.block_core.specs.Formed.{names_scope, name_width, block_registers, block_wires, outputs_typed, IsFormed}
use Rattle.block_core.specs.BlockForms.WellFormed.{IsSpelled}
use Rattle.hazard_core.specs.cell_core.Rows.{numbers}
use Rattle.commit_net.specs.frame_net.ScatterNet.Scatter.{data_name}
use Rattle.control_net.specs.Names.{back_name}
use Rattle.pipe_net.specs.declared.parts.Part.{Part}
use Rattle.pipe_net.specs.Parts as part
use Rattle.pipe_net.specs.Parts.{part_place, parts_of, part_count, behind_words}
use Rattle.pipe_net.specs.Layout.{Layout}
use Rattle.pipe_net.specs.PipeForms.Parts.{outputs_of, design, AreParts}
use Rattle.pipe_net.specs.PipeForms.Forming.{PipelinesAreFormed, HaveNoProductChains}
use Rattle.pipe_net.proofs.PipeForms.SortLaws.{Sort, Scatter, Reload, Returns, Sources, Slots, Word, Targets, Host, Action, Commits, OfMap, Control, Marks, Value, Gather, Exit, Place, PartOfMap, Finder, Fetcher, Asker, Own, Written, Change, sort_of, below}
use Rattle.pipe_net.proofs.PipeForms.EarlierLemmas.{earlier}
use Rattle.pipe_net.proofs.PipeForms.HeldLemmas.{among}
use Rattle.pipe_net.proofs.PipeForms.ActionLemmas.{control_there, told_width, back_width}
use Rattle.pipe_net.proofs.PipeForms.FrameForms.{scatter_there, scatter_good, reload_good, returns_good, sources_good, control_good, gather_good, exit_good}
use Rattle.pipe_net.proofs.PipeForms.MapForms.{slots_good, word_good, finder_good, fetcher_good, asker_good, own_good, written_good, change_good}
use Rattle.pipe_net.proofs.PipeForms.ActionForms.{targets_good, action_good, commits_good, host_good}
use Rattle.pipe_net.proofs.PipeForms.PlaceForms.{marks_good, value_good, place_good}
use Rattle.pipe_net.proofs.PipeForms.GoodLemmas.{IsGood}

-- the parts stand where they say
parts_placed : (from n : ℕ) → PlacedFrom part_place from (map part.part (numbers from n))
parts_placed from zero = tt
parts_placed from (suc n) = (refl, parts_placed (suc from) n)

module _ (l : Layout) (d : Whole Part) (parts : AreParts l d) where
  -- ---- each part is good
  same_good : (n m : ℕ) → part.part n ≡ part.part m → IsGood d m → IsGood d n
  same_good n m e h = let same : m ≡ n = sym (ap (λ (p : Part). p.number) e) in subst (IsGood d) same h

  abbrev first : ℕ → ℕ
  first m = behind_words l.sizes + l.sizes.maps + 3 + 6 * m

  by_map : (m at : ℕ) → m < length l.decls → PartOfMap at → IsGood d (first m + at)
  by_map m at there (Finder e) = subst (λ k. IsGood d (first m + k)) (sym e) (finder_good l d parts m there)
  by_map m at there (Fetcher e) = subst (λ k. IsGood d (first m + k)) (sym e) (fetcher_good l d parts m there)
  by_map m at there (Asker e) = subst (λ k. IsGood d (first m + k)) (sym e) (asker_good l d parts m there)
  by_map m at there (Own e) = subst (λ k. IsGood d (first m + k)) (sym e) (own_good l d parts m there)
  by_map m at there (Written e) = subst (λ k. IsGood d (first m + k)) (sym e) (written_good l d parts m there)
  by_map m at there (Change e) = subst (λ k. IsGood d (first m + k)) (sym e) (change_good l d parts m there)

  by_sort : (n : ℕ) → Sort l.sizes (part.part n) → IsGood d n
  by_sort n (Scatter e) = same_good n _ e (scatter_good l d parts)
  by_sort n (Reload k q e) = let c = parts.sized.commit in same_good n _ e (reload_good l d parts k (omega (arith, q, c)))
  by_sort n (Returns e) = same_good n _ e (returns_good l d parts)
  by_sort n (Sources e) = same_good n _ e (sources_good l d parts)
  by_sort n (Slots m lt e) = let c = parts.sized.maps in same_good n _ e (slots_good l d parts m (omega (arith, lt, c)))
  by_sort n (Word i lt e) = let c = parts.stages.laid.loads in same_good n _ e (word_good l d parts i (omega (arith, lt, c)))
  by_sort n (Targets m lt e) = let c = parts.sized.maps in same_good n _ e (targets_good l d parts m (omega (arith, lt, c)))
  by_sort n (Host e) = same_good n _ e (host_good l d parts)
  by_sort n (Action e) = same_good n _ e (action_good l d parts)
  by_sort n (Commits e) = same_good n _ e (commits_good l d parts)
  by_sort n (OfMap m at lt one e) = let c = parts.sized.maps in same_good n _ e (by_map m at (omega (arith, lt, c)) one)
  by_sort n (Control e) = same_good n _ e (control_good l d parts)
  by_sort n (Marks k q e) = let c = parts.sized.commit in same_good n _ e (marks_good l d parts k (omega (arith, q, c)))
  by_sort n (Value e) = same_good n _ e (value_good l d parts)
  by_sort n (Gather e) = same_good n _ e (gather_good l d parts)
  by_sort n (Exit e) = same_good n _ e (exit_good l d parts)
  by_sort n (Place k q e) = let c = parts.sized.last in same_good n _ e (place_good l d parts k (omega (arith, q, c)))

  good : (n : ℕ) → n < part_count l.sizes → IsGood d n
  good n lt = by_sort n (sort_of l.sizes n lt)

  good_part : (p : Part) → Among p d.parts → IsGood d p.number
  good_part p a = let h = below l.sizes 0 (part_count l.sizes) p (subst (Among p) parts.parts a) in good p.number (omega (arith, h))

  -- ---- the order of all
  ordered_from : (n count : ℕ) → n + count ≤ part_count l.sizes → AllInOrder d (earlier n) (map part.part (numbers n count))
  ordered_from n zero le = tt
  ordered_from n (suc count) le = ((good n (omega (arith, le))).ordered, ordered_from (suc n) count (omega (arith, le)))

  is_placed : IsPlaced d
  is_placed = record { placed = subst (λ (f : Part → ℕ). PlacedFrom f 0 d.parts) (sym parts.place) (subst (PlacedFrom part_place 0) (sym parts.parts) (parts_placed 0 (part_count l.sizes))) }

  ordered : AllInOrder d [] d.parts
  ordered = subst (AllInOrder d []) (sym parts.parts) (ordered_from 0 (part_count l.sizes) (omega arith))

  -- ---- what is shown
  abbrev scatter_width : ℕ → ℕ
  scatter_width k = get_or (block_wires (d.block part.scatter)) k 0

  data_width : name_width d port_list (data_name part.scatter (length l.words)) ≡ 64
  data_width =
      let n = 3 * length l.words in
      let z : 10 + n ≡ suc (suc (suc (suc (suc (suc (suc (suc (suc (suc n))))))))) = omega arith in
      ap scatter_width z ∙ ap (λ ws. get_or ws (suc (suc (suc (suc (suc (suc (suc (suc (suc (suc n)))))))))) 0) parts.frames.scatter.wires ∙ get_or-replicate (2 + n) (suc n) 64 0 (omega arith)

  shown : IsTrue (outputs_typed (names_scope d port_list) port_list (outputs_of l))
  shown =
      let a = told_width l d parts 0 (omega arith) in
      let b = told_width l d parts 7 (omega arith) in
      let c = data_width in
      let e : scatter_width 4 ≡ 4 = ap (λ ws. get_or ws 4 0) parts.frames.scatter.wires in
      let f : scatter_width 3 ≡ 1 = ap (λ ws. get_or ws 3 0) parts.frames.scatter.wires in
      let g : scatter_width 5 ≡ 32 = ap (λ ws. get_or ws 5 0) parts.frames.scatter.wires in
      let h : scatter_width 6 ≡ 32 = ap (λ ws. get_or ws 6 0) parts.frames.scatter.wires in
      let j : name_width d port_list (back_name l.shape (part.returns l.sizes) 0) ≡ 1 = back_width l d parts 0 (omega arith) in
      let m : get_or (block_wires (d.block (part.value l.sizes))) 0 0 ≡ 64 = ap (λ ws. get_or ws 0 0) parts.maps.value.block.wires in
      let n : get_or (block_wires (d.block (part.host l.sizes))) 1 0 ≡ 1 = ap (λ ws. get_or ws 1 0) parts.actions.host.wires in
      let k : get_or (block_registers (d.block (part.control l.sizes))) 8 0 ≡ 32 = ap (λ ws. get_or ws 8 0) parts.frames.control.registers in
      rw (a, b, c, e, f, g, h, j, m, n, k) refl

  pub formed : IsFormed d port_list (outputs_of l)
  formed =
      let control = control_there l d parts in
      let scatter = scatter_there l d parts in
      record {
        has_ports = refl;
        placed = is_placed;
        ordered = ordered;
        blocks = λ p a. (good_part p a).typed;
        statements = λ p a. (good_part p a).reads;
        shows = (control, (control, (scatter, (scatter, (scatter, (scatter, (scatter, (among l d parts _ (omega arith), (among l d parts _ (omega arith), (among l d parts _ (omega arith), (control, tt)))))))))));
        shown = shown;
        assigned = refl;
      }

  -- the grammar can spell each tree
  pub spelled : IsSpelled d (outputs_of l)
  spelled = record { wires = λ p a. (good_part p a).wires_spelled; statements = λ p a. (good_part p a).spelled; shows = refl; once = refl }

  -- products stand apart
  pub apart : (names : List (List ℕ)) → no_product_chains (design l d names) ≡ true
  apart names = linked_has_no_product_chains Part d names port_list (outputs_of l) formed (alone_apart d (outputs_of l) is_placed (λ p a. (good_part p a).alone) (λ made. refl))

pub pipelines_are_formed : PipelinesAreFormed
pipelines_are_formed l d parts = (formed l d parts, spelled l d parts)

pub have_no_product_chains : HaveNoProductChains
have_no_product_chains l d parts names = apart l d parts names
