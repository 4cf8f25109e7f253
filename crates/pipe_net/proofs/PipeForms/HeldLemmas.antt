-- The registers of places and what is shown of a frame may be read: they are there, with their widths.
use Rattle.std.specs.Prelude.{◌≡◌, ℕ, zero, suc, ◌+◌, ◌<◌, ◌≤◌, All, List, [], ◌∷◌, ◌++◌, length, map, Contains}
use Rattle.std.proofs.Common.{get_or, refl, sym, ap, ◌∙◌, subst, arith, inr}
use Rattle.std.proofs.lemmas.List.{length-map, get_or-map, get_or_append_left, get_or-append-add}
use Rattle.std.proofs.lemmas.List.Elements.{All-cons, All-map, Contains-get_or, Contains-append_left}
use Rattle.block_core.specs.declared.name.Name.{Name}
use Rattle.block_core.specs.declared.name.Name.TheVariants as name
use Rattle.block_core.specs.Blocks.{Whole, Among, wires_of}
use Rattle.block_core.specs.Formed.{block_registers, block_wires, block_wire_width}
use Rattle.turn_net.specs.cell_nets.declared.operand.Operand.{Operand}
use Rattle.turn_net.specs.cell_nets.declared.operand.Operand.TheVariants.{Net}
use Rattle.turn_net.specs.cell_nets.Operands.{IsAvailable}
use Rattle.read_net.specs.overlay_net.SiteOperands.Sites.{SiteOperands, all_of}
use Rattle.commit_net.specs.frame_net.declared.held.Kept.{Kept}
use Rattle.commit_net.specs.frame_net.Gather.{kept_width}
use Rattle.turn_net.proofs.cell_nets_laws.AvailableLaws.{available}
use Rattle.stage_net.specs.row_net.PlaceNet.Place.{width_at, widths_of, registers_from}
use Rattle.stage_net.specs.row_net.PlaceNet.Sources.{kept_operands, source_operands}
use Rattle.stage_net.specs.row_net.PlaceNet.Exit.{byte_operand, output_operands}
use Rattle.stage_net.specs.row_net.SitePlace.SitePlace.{site_widths, pointer_registers}
use Rattle.stage_net.specs.row_net.Table.{Stands, AreThere}
use Rattle.pipe_net.specs.declared.parts.Part.{Part}
use Rattle.pipe_net.specs.Parts as part
use Rattle.pipe_net.specs.Parts.{part_count}
use Rattle.pipe_net.specs.Layout.{Layout, cells_of, last_of, commit_of}
use Rattle.pipe_net.specs.Standing.{held_registers, IsAtPlace}
use Rattle.pipe_net.specs.PipeForms.Reading.{before_place}
use Rattle.pipe_net.specs.PipeForms.Parts.{AreParts}
use Rattle.pipe_net.proofs.PipeForms.SortLaws.{is_there}
use Rattle.pipe_net.proofs.PipeForms.EarlierLemmas.{IsReady, AreReady, among_earlier, ready_none, ready_cons, ready_append, ready_there, ready_available, ready_all}

-- ---- operands of a list are there

module _ (l : Layout) (d : Whole Part) (parts : AreParts l d) where
  pub among : (k : ℕ) → k < part_count l.sizes → Among (part.part k) d.parts
  among = is_there l.sizes d parts.parts

  pub commit_within : commit_of l ≤ last_of l
  commit_within = let a = parts.sized.small.commit in let b = parts.sized.commit in let c = parts.sized.last in omega (arith, a, b, c)

  -- ---- the registers of a place
  module _ (k : ℕ) (q : k ≤ last_of l) where
    abbrev place : Part
    place = part.place l.sizes k

    abbrev cell_widths : List ℕ
    cell_widths = widths_of (cells_of l) (l.held k)

    abbrev pointer_widths : List ℕ
    pointer_widths = map (λ (c : ℕ). l.bits) (l.held_pointers k)

    pub place_there : Among place d.parts
    place_there = let e = parts.sized.last in among _ (omega (arith, q, e))

    pub place_widths : block_registers (d.block place) ≡ site_widths (cells_of l) l.bits (l.held k) (l.held_pointers k)
    place_widths = let x = parts.stages.places k q in subst (λ b. block_registers (d.block place) ≡ site_widths (cells_of l) b (l.held k) (l.held_pointers k)) x.bits x.block.registers

    cell_count : length cell_widths ≡ length (l.held k)
    cell_count = length-map (l.held k) (width_at (cells_of l))

    cell_width : (i : ℕ) → i < length (l.held k) → get_or (block_registers (d.block place)) i 0 ≡ width_at (cells_of l) (get_or (l.held k) i 0)
    cell_width i lt = ap (λ ws. get_or ws i 0) place_widths ∙ get_or_append_left cell_widths pointer_widths 0 i (omega (arith, lt, cell_count)) ∙ get_or-map (width_at (cells_of l)) (l.held k) i 0 0 lt

    pointer_width : (i : ℕ) → i < length (l.held_pointers k) → get_or (block_registers (d.block place)) (length (l.held k) + i) 0 ≡ l.bits
    pointer_width i lt =
        ap (λ ws. get_or ws (length (l.held k) + i) 0) place_widths
        ∙ ap (λ n. get_or (cell_widths ++ pointer_widths) (n + i) 0) (sym cell_count)
        ∙ get_or-append-add cell_widths pointer_widths i 0
        ∙ get_or-map (λ (c : ℕ). l.bits) (l.held_pointers k) i 0 0 lt

    cells_ready : (n at : ℕ) (ks : List ℕ) → ((i : ℕ) → i < length ks → get_or (block_registers (d.block place)) (at + i) 0 ≡ width_at (cells_of l) (get_or ks i 0)) → AreReady d n (registers_from place (cells_of l) at ks)
    cells_ready n at [] h = ready_none d n
    cells_ready n at (c ∷ ks) h =
        let z : at + 0 ≡ at = omega arith in
        let first : get_or (block_registers (d.block place)) at 0 ≡ width_at (cells_of l) c = subst (λ m. get_or (block_registers (d.block place)) m 0 ≡ width_at (cells_of l) c) z (h 0 (omega arith)) in
        ready_cons d n (Net (name.Register place at) (width_at (cells_of l) c)) (registers_from place (cells_of l) (suc at) ks) (place_there, first)
        (cells_ready n (suc at) ks (λ i lt. let e : at + suc i ≡ suc at + i = omega arith in subst (λ m. get_or (block_registers (d.block place)) m 0 ≡ width_at (cells_of l) (get_or ks i 0)) e (h (suc i) (omega (arith, lt)))))

    pointers_ready : (n at : ℕ) (ks : List ℕ) → ((i : ℕ) → i < length ks → get_or (block_registers (d.block place)) (at + i) 0 ≡ l.bits) → AreReady d n (pointer_registers place l.bits at ks)
    pointers_ready n at [] h = ready_none d n
    pointers_ready n at (c ∷ ks) h =
        let z : at + 0 ≡ at = omega arith in
        let first : get_or (block_registers (d.block place)) at 0 ≡ l.bits = subst (λ m. get_or (block_registers (d.block place)) m 0 ≡ l.bits) z (h 0 (omega arith)) in
        ready_cons d n (Net (name.Register place at) l.bits) (pointer_registers place l.bits (suc at) ks) (place_there, first)
        (pointers_ready n (suc at) ks (λ i lt. let e : at + suc i ≡ suc at + i = omega arith in subst (λ m. get_or (block_registers (d.block place)) m 0 ≡ l.bits) e (h (suc i) (omega (arith, lt)))))

    pub held_ready : (n : ℕ) → AreReady d n (held_registers l k)
    held_ready n =
        ready_append d n (registers_from place (cells_of l) 0 (l.held k)) (pointer_registers place l.bits (length (l.held k)) (l.held_pointers k))
        (cells_ready n 0 (l.held k) (λ i lt. let z : 0 + i ≡ i = omega arith in subst (λ m. get_or (block_registers (d.block place)) m 0 ≡ width_at (cells_of l) (get_or (l.held k) i 0)) (sym z) (cell_width i lt)))
        (pointers_ready n (length (l.held k)) (l.held_pointers k) pointer_width)

    -- so are the operands of a site
    pub site_ready : (n j : ℕ) (s : SiteOperands (Name Part)) → IsAtPlace l k j s → AreReady d n (all_of s)
    site_ready n j s at = ready_there d n (held_registers l k) (all_of s) (held_ready n) at.there

  -- ---- what is shown of a frame
  abbrev sources : Part
  sources = part.sources l.sizes

  sources_count : wires_of (d.block sources) ≡ 3 + length l.kept
  sources_count =
      let e = ap length parts.frames.sources.wires in
      let f = length-map (d.block sources).wires block_wire_width in
      let g = length-map l.kept kept_width in
      omega (arith, e, f, g)

  kept_is : (k : ℕ) → get_or (block_wires (d.block sources)) (3 + k) 0 ≡ get_or (map kept_width l.kept) k 0
  kept_is k =
      let z : 3 + k ≡ suc (suc (suc k)) = omega arith in
      ap (λ m. get_or (block_wires (d.block sources)) m 0) z ∙ ap (λ ws. get_or ws (suc (suc (suc k))) 0) parts.frames.sources.wires

  kept_ready : (n : ℕ) → 4 + l.sizes.commit ≤ n → (at : ℕ) (xs : List Kept) → ((i : ℕ) → i < length xs → (at + i < length l.kept) × (get_or (map kept_width l.kept) (at + i) 0 ≡ get_or (map kept_width xs) i 0)) → AreReady d n (kept_operands sources at xs)
  kept_ready n le at [] h = ready_none d n
  kept_ready n le at (x ∷ xs) h =
      let z : at + 0 ≡ at = omega arith in
      let first = h 0 (omega arith) in
      let lt = first.0 in
      let c = sources_count in
      let wide : get_or (map kept_width l.kept) at 0 ≡ kept_width x = subst (λ m. get_or (map kept_width l.kept) m 0 ≡ kept_width x) z first.1 in
      ready_cons d n _ (kept_operands sources (suc at) xs) (inr (among_earlier n (3 + l.sizes.commit) (omega (arith, le)), omega (arith, lt, c)), kept_is at ∙ wide)
      (kept_ready n le (suc at) xs (λ i lt. let e : at + suc i ≡ suc at + i = omega arith in subst (λ m. (m < length l.kept) × (get_or (map kept_width l.kept) m 0 ≡ get_or (map kept_width xs) i 0)) e (h (suc i) (omega (arith, lt)))))

  pub sources_ready : (n : ℕ) → 4 + l.sizes.commit ≤ n → AreReady d n (source_operands sources l.kept)
  sources_ready n le =
      let c = sources_count in
      let wide : get_or (block_wires (d.block sources)) 2 0 ≡ 14 = ap (λ ws. get_or ws 2 0) parts.frames.sources.wires in
      ready_cons d n _ (kept_operands sources 0 l.kept) (inr (among_earlier n (3 + l.sizes.commit) (omega (arith, le)), omega (arith, c)), wide)
      (kept_ready n le 0 l.kept (λ i lt. let z : 0 + i ≡ i = omega arith in subst (λ m. (m < length l.kept) × (get_or (map kept_width l.kept) m 0 ≡ get_or (map kept_width l.kept) i 0)) (sym z) (lt, refl)))

  -- ---- what stands before a place
  pub before_ready : (n : ℕ) → 4 + l.sizes.commit ≤ n → (k : ℕ) → k ≤ last_of l → AreReady d n (before_place l k)
  before_ready n le zero q = sources_ready n le
  before_ready n le (suc k) q = held_ready k (omega (arith, q)) n

  -- ---- what the exit reads
  abbrev last : ℕ
  last = last_of l

  table_there : AreThere (held_registers l last) (l.table (suc last))
  table_there =
      let b = parts.stages.laid.behind last (omega arith) in
      let a = parts.stages.laid.lists last in
      let place = part.place l.sizes last in
      let cells = registers_from place (cells_of l) 0 (l.held last) in
      let others = pointer_registers place l.bits (length (l.held last)) (l.held_pointers last) in
      subst (AreThere (held_registers l last)) (sym b.table)
      (b.stand.behind.table.there (held_registers l last) (b.stand.are_constants.there (held_registers l last))
      (subst (λ ks. All (IsAvailable (held_registers l last)) (registers_from place (cells_of l) 0 ks)) a.held
      (λ i c lt. available (held_registers l last) (get_or cells i c) (contains_left cells others i c lt))))
    where
      contains_left : (xs ys : List (Operand (Name Part))) (i : ℕ) (c : Operand (Name Part)) → i < length xs → Contains (xs ++ ys) (get_or xs i c)
      contains_left xs ys i c lt = Contains-append_left xs ys (get_or xs i c) (Contains-get_or xs i c lt)

  stands_ready : (n k : ℕ) (a : Operand (Name Part)) → Stands (l.table (suc last)) k a → IsReady d n a
  stands_ready n k a s = ready_available d n (held_registers l last) (held_ready last (omega arith) n) a (table_there k a s)

  pub answer_ready : (n : ℕ) → AreReady d n (output_operands l.answer)
  answer_ready n =
      let laid = parts.stages.laid in
      ready_all d n (output_operands l.answer)
      (All-cons (IsReady d n) l.answer.verdict (l.answer.target ∷ map byte_operand l.answer.bytes.items) (stands_ready n _ l.answer.verdict laid.verdict)
      (All-cons (IsReady d n) l.answer.target (map byte_operand l.answer.bytes.items) (stands_ready n _ l.answer.target laid.target)
      (All-map (IsReady d n) byte_operand l.answer.bytes.items (λ i x lt. stands_ready n _ _ (laid.bytes i x lt).stands))))
