-- The parts in memory are those of the whole.
use Rattle.std.proofs.Common.{◌≡◌, ◌∙◌, ℕ, suc, ◌+◌, ◌<◌, List, [], ◌∷◌, ◌++◌, length, map as map_list, get_or, refl, sym, ap, arith}
use Rattle.std.proofs.lemmas.List.{map-append, length-map, get_or-map}
use Rattle.block_core.specs.declared.name.Name.{Name}
use Rattle.block_core.specs.declared.block.Block.{Block}
use Rattle.block_core.specs.declared.block.Placed.{Placed}
use Rattle.block_core.specs.Blocks.{BlockTree, Among}
use Rattle.block_core.specs.View.{block_of, Makes}
use Rattle.hazard_core.specs.cell_core.Rows.{numbers}
use Rattle.hazard_core.proofs.cell_core_laws.NumberLaws.{numbers_more, numbers_long}
use Rattle.pipe_net.specs.declared.parts.Part.{Part}
use Rattle.pipe_net.specs.declared.parts.Sizes.{Sizes}
use Rattle.pipe_net.specs.Parts.{part, part_place, part_count}
use Rattle.pipe_design.specs.Order.{Lists, all_of, no_block, whole_of, AreNumbered}
use Rattle.pipe_design.proofs.Joining.{number_at, among_at}

abbrev part_in : Placed Part → Part
part_in m = m.part

abbrev block_in : Placed Part → BlockTree (Name Part)
block_in m = block_of m.block

-- ---- one part more
pub numbered_more : (n : ℕ) (ms : List (Placed Part)) (m : Placed Part) → map_list part_in ms ≡ map_list part (numbers 0 n) → m.part.number ≡ length ms → map_list part_in (ms ++ m ∷ []) ≡ map_list part (numbers 0 (suc n))
numbered_more n ms m e h =
    let long : length ms ≡ n = sym (length-map ms part_in) ∙ ap length e ∙ length-map (numbers 0 n) part ∙ numbers_long 0 n in
    let is : m.part ≡ part (0 + n) = ap part (h ∙ long ∙ omega arith) in
    map-append part_in ms (m ∷ []) ∙ ap (λ l. l ++ m.part ∷ []) e ∙ ap (λ q. map_list part (numbers 0 n) ++ q ∷ []) is ∙ sym (map-append part (numbers 0 n) ((0 + n) ∷ [])) ∙ ap (map_list part) (sym (numbers_more 0 n))

-- ---- all parts
module _ (z : Sizes) (lists : Lists) (ms : List (Placed Part)) (h : AreNumbered (all_of lists) ms) (count : length (all_of lists) ≡ part_count z) where
  long : length ms ≡ length (all_of lists)
  long = sym (length-map ms block_in) ∙ ap length h.are

  part_at : (k : ℕ) (m : Placed Part) → k < length ms → (get_or ms k m).part.number ≡ k
  part_at k m lt =
      let within : k < length (numbers 0 (length (all_of lists))) = omega (arith, numbers_long 0 (length (all_of lists)), long, lt) in
      ap (λ (q : Part). q.number)
      (sym (get_or-map part_in ms k m m.part lt) ∙ ap (λ l. get_or l k m.part) h.parts ∙ get_or-map part (numbers 0 (length (all_of lists))) k 0 m.part within
      ∙ ap part (number_at 0 (length (all_of lists)) k 0 (omega (arith, long, lt)))) ∙ omega arith

  block_at : (m : Placed Part) → Among m ms → block_of m.block ≡ (whole_of z lists).block m.part
  block_at m among =
      let c = among_at ms m among in
      let here : get_or ms c.0 m ≡ m = c.2 m in
      let number : m.part.number ≡ c.0 = ap (λ (x : Placed Part). x.part.number) (sym here) ∙ part_at c.0 m c.1 in
      ap block_in (sym here) ∙ sym (get_or-map block_in ms c.0 m no_block c.1) ∙ ap (λ l. get_or l c.0 no_block) h.are ∙ ap (λ n. get_or (all_of lists) n no_block) (sym number)

  pub makes : Makes part_place ms (whole_of z lists)
  makes = record {
    places = refl;
    parts = ap (λ n. map_list part (numbers 0 n)) (sym count) ∙ sym h.parts;
    blocks = block_at;
  }
