-- The nets that parts read of one another have some bits.
use Rattle.std.specs.Prelude.{◌≡◌, ℕ, zero, suc, ◌+◌, ◌^◌, ◌<◌, ◌≤◌, ◌&&◌, nat_lt, nat_le, Bool, true, Option, Some, None, All, List, [], ◌∷◌, ◌++◌, length, filter, map}
use Rattle.std.proofs.Common.{get_or, refl, sym, subst, arith, inl, inr}
use Rattle.std.proofs.lemmas.Bool.{ltb-true, and_parts}
use Rattle.std.proofs.lemmas.List.Elements.{All-nil, All-cons, All-head, All-tail, All-append, All-weaker, All-contains, All-filter}
use Rattle.hazard_core.specs.xdp_maps.declared.decl.MapKind.{MapKind}
use Rattle.hazard_core.specs.xdp_maps.declared.decl.MapKind.TheVariants.{Hash, Array}
use Rattle.block_core.specs.net_core.declared.tree.Word.{Word}
use Rattle.block_core.specs.net_core.declared.ports.TheConstants.{HOST_INDEX}
use Rattle.block_core.specs.net_core.Ports.{port_list}
use Rattle.block_core.specs.net_core.Width.{word_fits}
use Rattle.block_core.specs.declared.name.Name.{Name}
use Rattle.block_core.specs.declared.name.Name.TheVariants as name
use Rattle.block_core.specs.Blocks.{Whole}
use Rattle.block_core.specs.Formed.{block_registers, word_width, words_fit, IsFormed}
use Rattle.hazard_core.specs.cell_core.Cells.{CellView}
use Rattle.hazard_core.specs.cell_core.Rows.{numbers}
use Rattle.hazard_core.specs.cell_core.Sites.{site_at}
use Rattle.turn_net.specs.cell_nets.declared.operand.Operand.{Operand}
use Rattle.turn_net.specs.cell_nets.declared.operand.Operand.TheVariants.{Known, Net, Part as Bits}
use Rattle.turn_net.specs.cell_nets.Operands.{IsOperand, IsAvailable, HasNet}
use Rattle.hazard_core.specs.Commits.{word_count}
use Rattle.hazard_core.specs.Marks.{has_read}
use Rattle.read_net.specs.overlay_net.SiteOperands.Sites.{SiteOperands, operands_of, all_of}
use Rattle.stage_net.specs.row_net.PlaceNet.Place.{width_at, widths_of, registers_from}
use Rattle.stage_net.specs.row_net.PlaceNet.Sources.{kept_operands, source_operands}
use Rattle.stage_net.specs.row_net.SitePlace.SitePlace.{site_widths, pointer_registers}
use Rattle.commit_net.specs.frame_net.declared.held.Kept.{Kept}
use Rattle.commit_net.specs.frame_net.declared.held.Kept.TheVariants.{Ifindex, Time, Word as FrameWord}
use Rattle.commit_net.specs.frame_net.Gather.{kept_width}
use Rattle.commit_net.specs.frame_net.Sources.{length_name, kept_name}
use Rattle.read_net.specs.hash_net.Hash.{count_name}
use Rattle.read_net.specs.hash_net.SlotNet.Shown.{shown_slots}
use Rattle.read_net.specs.hash_net.SlotNet.Slots.{SlotOperands, IsSlot, slots_of, all_of as slot_cells_of, operands_of as slot_operands}
use Rattle.read_net.specs.declared.sites.OwnSite.{OwnSite}
use Rattle.read_net.specs.Sites.{cells_of, all_cells}
use Rattle.commit_net.specs.declared.choosing.CommitNets.{CommitNets}
use Rattle.commit_net.specs.Choosing.{read_of as operation_read, all_read as operations_read}
use Rattle.commit_net.specs.Fetching.{fetched_words}
use Rattle.commit_net.specs.Wiring.{outside_of as operations_outside}
use Rattle.commit_net.specs.Targets.{slots_of as taken_operands}
use Rattle.commit_net.specs.ChangeNet.Pointed.{word_operands}
use Rattle.commit_net.specs.ChangeNet.Written.{written_outside}
use Rattle.commit_net.specs.ChangeNet.Changes.{host_map, change_outside, change_given}
use Rattle.read_net.specs.declared.touch_net.change.OwnKey.{OwnKey}
use Rattle.read_net.specs.declared.touch_net.marks.MarkNets.{MarkNets}
use Rattle.read_net.specs.TouchNet.Touching.{own_operands}
use Rattle.read_net.specs.TouchNet.Marking.{guard_operands, mark_operands}
use Rattle.read_net.specs.declared.mark_net.nets.MarkSite.{MarkSite}
use Rattle.read_net.specs.MarkNet.Sites.{site_operands, all_operands as mark_site_operands, outside as mark_outside}
use Rattle.turn_net.specs.declared.nets.RecordNets.{RecordNets}
use Rattle.turn_net.specs.Nets.{kept, sites_of, read_of, all_read, outside as action_outside}
use Rattle.turn_net.specs.declared.target_net.targets.Target.{Target}
use Rattle.turn_net.specs.TargetNet.Targets.{all_of as all_targets, outside_of as target_outside}
use Rattle.pipe_net.specs.declared.parts.Part.{Part}
use Rattle.pipe_net.specs.Parts as part
use Rattle.pipe_net.specs.Parts.{part_count}
use Rattle.pipe_net.specs.Layout.{Layout, program_of, cells_of as program_cells, last_of, commit_of}
use Rattle.pipe_net.specs.Relation.{read_sites}
use Rattle.pipe_net.specs.Standing.{held_registers, IsAtPlace}
use Rattle.pipe_net.specs.PipeMarks.Parts.{advances, IsMarkOf, Unread, Read, IsMarkBefore, IsOwnAt, IsMarkAt, IsMarkNets}
use Rattle.pipe_net.specs.PipeTurns.Maps.{decl_at, taken_from, taken_slots}
use Rattle.pipe_net.specs.PipeTurns.Parts.{action_nets, writes_net, IsTargetOf}
use Rattle.pipe_net.specs.PipeMaps.Parts.{commits_net, IsOperation}
use Rattle.pipe_net.specs.PipePlaces.Layout.{load_sites}
use Rattle.pipe_net.specs.PipeForms.Reading.{before_place, map_shown, map_shown_as, IsReadAt, Advance, Before, OfMap, OfWord}
use Rattle.pipe_net.specs.PipeForms.Parts.{outputs_of, AreParts}
use Rattle.pipe_net.proofs.PipeForms.SortLaws.{is_there}

-- ---- an operand of some bits
abbrev pub IsSome : Operand (Name Part) → Type 0
IsSome (Known n) = Unit {0}
IsSome (Net n w) = 0 < w
IsSome (Bits n of from w) = 0 < of

abbrev pub AreSome : List (Operand (Name Part)) → Type 0
AreSome ins = All IsSome ins

pub some_bits : (ins : List (Operand (Name Part))) → AreSome ins → (n : Name Part) (w : ℕ) → HasNet ins n w → 0 < w
some_bits ins h n w (inl c) = All-contains IsSome ins (Net n w) h c
some_bits ins h n w (inr (from, u, c)) = All-contains IsSome ins (Bits n w from u) h c

of_operand : (a : Operand (Name Part)) → IsOperand a → IsSome a
of_operand (Known n) h = tt
of_operand (Net n w) h = h.some
of_operand (Bits n of from w) h = let s = h.some in let i = h.inside in omega (arith, s, i)

of_operands : (ins : List (Operand (Name Part))) → All IsOperand ins → AreSome ins
of_operands ins h = All-weaker IsOperand IsSome of_operand ins h

of_available : (ins : List (Operand (Name Part))) → AreSome ins → (a : Operand (Name Part)) → IsAvailable ins a → IsSome a
of_available ins h (Known n) x = tt
of_available ins h (Net n w) x = All-contains IsSome ins (Net n w) h x
of_available ins h (Bits n of from w) x = some_bits ins h n of x

none : AreSome []
none = All-nil IsSome

cons : (a : Operand (Name Part)) (ins : List (Operand (Name Part))) → IsSome a → AreSome ins → AreSome (a ∷ ins)
cons = All-cons IsSome

both : (xs ys : List (Operand (Name Part))) → AreSome xs → AreSome ys → AreSome (xs ++ ys)
both = All-append IsSome

-- of two lists, one after the other
left_of : (xs ys : List (Operand (Name Part))) → AreSome (xs ++ ys) → AreSome xs
left_of [] ys h = none
left_of (x ∷ xs) ys h = cons x xs (All-head IsSome x (xs ++ ys) h) (left_of xs ys (All-tail IsSome x (xs ++ ys) h))

right_of : (xs ys : List (Operand (Name Part))) → AreSome (xs ++ ys) → AreSome ys
right_of [] ys h = h
right_of (x ∷ xs) ys h = right_of xs ys (All-tail IsSome x (xs ++ ys) h)

at_or : (ins : List (Operand (Name Part))) (i : ℕ) → AreSome ins → IsSome (get_or ins i (Known 0))
at_or [] i h = tt
at_or (x ∷ xs) zero h = All-head IsSome x xs h
at_or (x ∷ xs) (suc i) h = at_or xs i (All-tail IsSome x xs h)

-- ---- registers have some bits
abbrev Wide : ℕ → Type 0
Wide w = 0 < w

fits_wide : (ws : List Word) → words_fit ws ≡ true → All Wide (map word_width ws)
fits_wide [] h = All-nil Wide
fits_wide (w ∷ ws) h =
    let p = and_parts (word_fits w) (words_fit ws) h in
    let q = and_parts (nat_lt 0 w.width) (nat_le w.width 64 && nat_lt w.value (2 ^ w.width)) p.0 in
    All-cons Wide w.width (map word_width ws) (ltb-true 0 w.width q.0) (fits_wide ws p.1)

cut_left : (xs ys : List ℕ) → All Wide (xs ++ ys) → All Wide xs
cut_left [] ys h = All-nil Wide
cut_left (x ∷ xs) ys h = All-cons Wide x xs (All-head Wide x (xs ++ ys) h) (cut_left xs ys (All-tail Wide x (xs ++ ys) h))

cut_right : (xs ys : List ℕ) → All Wide (xs ++ ys) → All Wide ys
cut_right [] ys h = h
cut_right (x ∷ xs) ys h = cut_right xs ys (All-tail Wide x (xs ++ ys) h)

cell_registers : (p : Part) (cells : List CellView) (at : ℕ) (ks : List ℕ) → All Wide (widths_of cells ks) → AreSome (registers_from p cells at ks)
cell_registers p cells at [] h = none
cell_registers p cells at (k ∷ ks) h =
    cons (Net (name.Register p at) (width_at cells k)) (registers_from p cells (suc at) ks) (All-head Wide (width_at cells k) (widths_of cells ks) h)
    (cell_registers p cells (suc at) ks (All-tail Wide (width_at cells k) (widths_of cells ks) h))

of_pointers : (p : Part) (bits at : ℕ) (ks : List ℕ) → All Wide (map (λ (k : ℕ). bits) ks) → AreSome (pointer_registers p bits at ks)
of_pointers p bits at [] h = none
of_pointers p bits at (k ∷ ks) h =
    cons (Net (name.Register p at) bits) (pointer_registers p bits (suc at) ks) (All-head Wide bits (map (λ (k : ℕ). bits) ks) h) (of_pointers p bits (suc at) ks (All-tail Wide bits (map (λ (k : ℕ). bits) ks) h))

taken_registers : (l : Layout) (at : ℕ) (rs : List (RecordNets (Name Part))) → All Wide (map (λ (r : RecordNets (Name Part)). l.action_shape.slot_bits) rs) → AreSome (taken_operands (taken_from l at rs))
taken_registers l at [] h = none
taken_registers l at (r ∷ rs) h =
    let ws = map (λ (r : RecordNets (Name Part)). l.action_shape.slot_bits) rs in
    cons (Net (name.Register (part.action l.sizes) at) l.action_shape.slot_bits) (taken_operands (taken_from l (suc at) rs)) (All-head Wide l.action_shape.slot_bits ws h) (taken_registers l (suc at) rs (All-tail Wide l.action_shape.slot_bits ws h))

-- ---- what is shown of frames
kept_some : (x : Kept) → 0 < kept_width x
kept_some Ifindex = omega arith
kept_some Time = omega arith
kept_some (FrameWord j) = omega arith

kept_nets : (p : Part) (at : ℕ) (xs : List Kept) → AreSome (kept_operands p at xs)
kept_nets p at [] = none
kept_nets p at (x ∷ xs) = cons (Net (kept_name p at) (kept_width x)) (kept_operands p (suc at) xs) (kept_some x) (kept_nets p (suc at) xs)

source_nets : (p : Part) (xs : List Kept) → AreSome (source_operands p xs)
source_nets p xs = cons (Net (length_name p) 14) (kept_operands p 0 xs) (omega arith) (kept_nets p 0 xs)

-- ---- words
words_some : (ns : List (Name Part)) → AreSome (word_operands ns)
words_some [] = none
words_some (n ∷ ns) = cons (Net n 64) (word_operands ns) (omega arith) (words_some ns)

-- ---- slots of a hash
slots_some : (bytes : ℕ) (ss : List (SlotOperands (Name Part))) → All (IsSlot bytes) ss → AreSome (slot_operands ss)
slots_some bytes [] h = none
slots_some bytes (s ∷ ss) h = both (slot_cells_of s) (slot_operands ss) (of_operands (slot_cells_of s) (All-head (IsSlot bytes) s ss h).operands) (slots_some bytes ss (All-tail (IsSlot bytes) s ss h))

-- ---- targets
none_target : Target (Name Part)
none_target = record { slot = Known 0; makes = Known 0 }

record IsSomeTarget (t : Target (Name Part)) : Type 0 where
  slot : IsSome t.slot
  makes : IsSome t.makes

target_at : (ts : List (Target (Name Part))) (n : ℕ) → AreSome (all_targets ts) → IsSomeTarget (get_or ts n none_target)
unfolding none_target
target_at [] n h = record { slot = tt; makes = tt }
target_at (t ∷ ts) zero h = record { slot = All-head IsSome t.slot (t.makes ∷ all_targets ts) h; makes = All-head IsSome t.makes (all_targets ts) (All-tail IsSome t.slot (t.makes ∷ all_targets ts) h) }
target_at (t ∷ ts) (suc n) h = target_at ts n (All-tail IsSome t.makes (all_targets ts) (All-tail IsSome t.slot (t.makes ∷ all_targets ts) h))

-- ---- the sites of a program
numbers_below : (from n bound : ℕ) → from + n ≤ bound → All (λ j. j < bound) (numbers from n)
numbers_below from zero bound le = All-nil (λ j. j < bound)
numbers_below from (suc n) bound le = All-cons (λ j. j < bound) from (numbers (suc from) n) (omega (arith, le)) (numbers_below (suc from) n bound (omega (arith, le)))

sites_below : (test : ℕ → Bool) (n : ℕ) → All (λ j. j < n) (filter test (numbers 0 n))
sites_below test n = All-filter test (λ j. j < n) (numbers 0 n) (numbers_below 0 n n (omega arith))

module _ (l : Layout) (d : Whole Part) (parts : AreParts l d) (formed : IsFormed d port_list (outputs_of l)) where
  wide_registers : (k : ℕ) → k < part_count l.sizes → All Wide (block_registers (d.block (part.part k)))
  wide_registers k lt = fits_wide (d.block (part.part k)).registers (formed.blocks (part.part k) (is_there l.sizes d parts.parts k lt)).registers

  -- ---- registers of places
  pub held_some : (k : ℕ) → k ≤ last_of l → AreSome (held_registers l k)
  held_some k le =
      let e = parts.sized.last in
      let of = parts.stages.places k le in
      let all : All Wide (site_widths (program_cells l) l.bits (l.held k) (l.held_pointers k)) =
      subst (All Wide) (subst (λ b. block_registers (d.block (part.place l.sizes k)) ≡ site_widths (program_cells l) b (l.held k) (l.held_pointers k)) of.bits of.block.registers) (wide_registers _ (omega (arith, e, le))) in
      both (registers_from (part.place l.sizes k) (program_cells l) 0 (l.held k)) (pointer_registers (part.place l.sizes k) l.bits (length (l.held k)) (l.held_pointers k))
      (cell_registers (part.place l.sizes k) (program_cells l) 0 (l.held k) (cut_left (widths_of (program_cells l) (l.held k)) (map (λ (c : ℕ). l.bits) (l.held_pointers k)) all))
      (of_pointers (part.place l.sizes k) l.bits (length (l.held k)) (l.held_pointers k) (cut_right (widths_of (program_cells l) (l.held k)) (map (λ (c : ℕ). l.bits) (l.held_pointers k)) all))

  pub sources_some : AreSome (source_operands (part.sources l.sizes) l.kept)
  sources_some = source_nets (part.sources l.sizes) l.kept

  before_some : (k : ℕ) → k ≤ last_of l → AreSome (before_place l k)
  before_some zero le = sources_some
  before_some (suc k) le = held_some k (omega (arith, le))

  -- ---- maps
  map_within : (j : ℕ) → j < length (program_of l).sites → (site_at (program_of l).sites j).map < length l.decls
  map_within j lt = (parts.stages.laid.staged.fits j lt).map

  bits_some : (m : ℕ) → m < length l.decls → 0 < l.slot_bits m
  bits_some m w = let s = (parts.maps.maps m w).form_fits.some in omega (arith, s)

  shown_some : (m : ℕ) → m < length l.decls → AreSome (map_shown l m)
  shown_some m w = by (decl_at l m).kind refl
    where
      by : (k : MapKind) → (decl_at l m).kind ≡ k → AreSome (map_shown_as k l m)
      by Hash e =
          let of = (parts.actions.writes m w).map in
          let count : Operand (Name Part) = Net (count_name (part.own l.sizes m)) (l.slot_bits m + 1) in
          cons count (slot_operands (shown_slots (part.slots l.sizes m) (decl_at l m))) (omega arith) (subst (λ ss. AreSome (slot_operands ss)) (of.slots e) (slots_some (parts.actions.maps m).decl.now.key (slots_of (parts.actions.maps m).slots.now) of.is.slots))
      by Array e = none

  -- ---- words and places
  pub word_some : (i : ℕ) (w : i < length (load_sites (program_of l))) → AreSome (parts.stages.words i w).outside
  word_some i w =
      let row = (parts.stages.words i w).row in
      All-weaker (IsAvailable (before_place l row)) IsSome (of_available (before_place l row) (before_some row (parts.readings.row i w))) (parts.stages.words i w).outside (parts.readings.word i w)

  read_some : (k : ℕ) → k ≤ last_of l → (a : Operand (Name Part)) → IsReadAt l d parts.stages.words k a → IsSome a
  read_some k le a (Advance e) = subst IsSome (sym e) (omega arith)
  read_some k le a (Before h) = of_available (before_place l k) (before_some k le) a h
  read_some k le a (OfMap m w h) = of_available (map_shown l m) (shown_some m w) a h
  read_some k le a (OfWord i w e) = subst IsSome (sym e) (omega arith)

  pub place_some : (k : ℕ) (w : k ≤ last_of l) → AreSome (parts.stages.places k w).outside
  place_some k w = All-weaker (IsReadAt l d parts.stages.words k) IsSome (read_some k w) (parts.stages.places k w).outside (parts.readings.place k w)

  -- ---- targets
  sites_some : (ss : List (OwnSite (Name Part))) → All (λ s. IsAtPlace l (commit_of l) s.site (operands_of s.nets.now)) ss → AreSome (all_cells ss)
  sites_some [] h = none
  sites_some (s ∷ ss) h =
      both (cells_of s) (all_cells ss) (of_operands (cells_of s) (All-head (λ (s : OwnSite (Name Part)). IsAtPlace l (commit_of l) s.site (operands_of s.nets.now)) s ss h).operands)
      (sites_some ss (All-tail (λ (s : OwnSite (Name Part)). IsAtPlace l (commit_of l) s.site (operands_of s.nets.now)) s ss h))

  taken_some : AreSome (taken_operands (taken_slots l))
  taken_some =
      let all : All Wide (l.action_shape.bits ∷ map (λ (r : RecordNets (Name Part)). l.action_shape.slot_bits) (kept l.records)) = subst (All Wide) parts.actions.action.registers (wide_registers _ (omega arith)) in
      taken_registers l 1 (kept l.records) (All-tail Wide l.action_shape.bits (map (λ (r : RecordNets (Name Part)). l.action_shape.slot_bits) (kept l.records)) all)

  pub targets_some : (m : ℕ) → m < length l.decls → AreSome (target_outside (parts.actions.maps m) (parts.actions.own m) (taken_slots l))
  targets_some m w =
      let of = parts.actions.writes m w in
      let nets = parts.actions.maps m in
      let slots = slot_operands (slots_of nets.slots.now) in
      let taken = taken_operands (taken_slots l) in
      both (all_cells (parts.actions.own m)) (nets.used ∷ slots ++ taken) (sites_some (parts.actions.own m) of.cells)
      (cons nets.used (slots ++ taken) (of_operand nets.used of.map.is.used) (both slots taken (slots_some nets.decl.now.key (slots_of nets.slots.now) of.map.is.slots) taken_some))

  target_some : (m : ℕ) → m < length l.decls → (n : ℕ) → IsSomeTarget (get_or (parts.actions.targets m) n none_target)
  target_some m w n = target_at (parts.actions.targets m) n (of_operands (all_targets (parts.actions.targets m)) (parts.actions.writes m w).block.has.operands)

  -- ---- records
  records_from : (rs : List (RecordNets (Name Part))) → All (λ j. j < length (program_of l).sites) (sites_of rs) → All (λ r. IsAtPlace l (commit_of l) r.number (operands_of r.nets.now)) rs → All (IsTargetOf l parts.actions.own parts.actions.targets) rs → AreSome (all_read rs)
  records_from [] low cells written = none
  records_from (r ∷ rs) low cells written =
      let j = All-head (λ j. j < length (program_of l).sites) r.number (sites_of rs) low in
      let t = All-head (IsTargetOf l parts.actions.own parts.actions.targets) r rs written in
      both (read_of r) (all_read rs)
      (cons r.target (all_of (operands_of r.nets.now)) (subst IsSome (t.target none_target) (target_some (site_at (program_of l).sites r.number).map (map_within r.number j) t.at).slot) (of_operands (all_of (operands_of r.nets.now)) (All-head (λ (r : RecordNets (Name Part)). IsAtPlace l (commit_of l) r.number (operands_of r.nets.now)) r rs cells).operands))
      (records_from rs (All-tail (λ j. j < length (program_of l).sites) r.number (sites_of rs) low) (All-tail (λ (r : RecordNets (Name Part)). IsAtPlace l (commit_of l) r.number (operands_of r.nets.now)) r rs cells)
      (All-tail (IsTargetOf l parts.actions.own parts.actions.targets) r rs written))

  records_some : AreSome (all_read l.records)
  records_some = records_from l.records (subst (All (λ j. j < length (program_of l).sites)) (sym parts.actions.sites) (sites_below _ (length (program_of l).sites))) parts.actions.cells parts.actions.written

  pub action_some : AreSome (action_outside (action_nets l) l.records)
  action_some =
      let n = action_nets l in
      cons (Net n.present 1) (Net n.back 1 ∷ Net n.host 1 ∷ all_read l.records) (omega arith) (cons (Net n.back 1) (Net n.host 1 ∷ all_read l.records) (omega arith) (cons (Net n.host 1) (all_read l.records) (omega arith) records_some))

  pub chosen_some : AreSome parts.actions.chosen
  chosen_some = of_operands parts.actions.chosen parts.actions.action.operands

  -- ---- operations on a map, and what a clock changes in it
  module _ (m : ℕ) (w : m < length l.decls) where
    asked_some : (s : SiteOperands (Name Part)) → AreSome (all_of s) → AreSome (s.key ++ s.operands)
    asked_some s h = right_of (s.guard ∷ s.found ∷ s.answer ∷ s.pointer ∷ []) (s.key ++ s.operands) h

    operation_some : (n : ℕ) (c : CommitNets (Name Part)) → IsOperation l d parts.actions m n c → AreSome (operation_read c)
    operation_some n c is =
        let t = target_some m w n in
        let asked = c.nets.now.key.items ++ c.nets.now.operands.items in
        cons c.chosen (c.target ∷ c.makes ∷ asked) (subst IsSome (sym (is.chosen (Known 0))) (at_or parts.actions.chosen is.place chosen_some))
        (cons c.target (c.makes ∷ asked) (subst IsSome (sym (is.target none_target)) t.slot) (cons c.makes asked (subst IsSome (sym (is.makes none_target)) t.makes) (asked_some (operands_of c.nets.now) (of_operands (all_of (operands_of c.nets.now)) is.nets.operands))))

    operations_from : (at : ℕ → ℕ) (ns : List (CommitNets (Name Part))) → ((i : ℕ) (c : CommitNets (Name Part)) → i < length ns → IsOperation l d parts.actions m (at i) (get_or ns i c)) → AreSome (operations_read ns)
    operations_from at [] h = none
    operations_from at (c ∷ ns) h = both (operation_read c) (operations_read ns) (operation_some (at 0) c (h 0 c (omega arith))) (operations_from (λ i. at (suc i)) ns (λ i e lt. h (suc i) e (omega (arith, lt))))

    pub operations_some : AreSome (operations_read (parts.maps.maps m w).operations)
    operations_some = operations_from (λ i. i) (parts.maps.maps m w).operations (parts.maps.maps m w).each

    pub fetched_some : AreSome (operations_outside (parts.maps.maps m w).operations (fetched_words (part.fetcher l.sizes m) (word_count (decl_at l m).value)))
    fetched_some =
        let words = fetched_words (part.fetcher l.sizes m) (word_count (decl_at l m).value) in
        both (word_operands words) (operations_read (parts.maps.maps m w).operations) (words_some words) operations_some

    pub written_some : AreSome (written_outside (l.slot_bits m) (commits_net l d parts.actions m) (parts.maps.maps m w).trees.slot)
    written_some =
        let index : Operand (Name Part) = Net (name.Port HOST_INDEX) 16 in
        let slot : Operand (Name Part) = Net (parts.maps.maps m w).trees.slot (l.slot_bits m) in
        cons (Net (commits_net l d parts.actions m) 1) (slot ∷ index ∷ []) (omega arith) (cons slot (index ∷ []) (bits_some m w) (cons index [] (omega arith) none))

    pub change_some : AreSome (change_outside (l.slot_bits m) (commits_net l d parts.actions m) (writes_net l) (parts.maps.maps m w).slot (parts.maps.maps m w).keys (parts.maps.maps m w).operations)
    change_some =
        let of = parts.maps.maps m w in
        let more = word_operands of.keys ++ operations_read of.operations in
        let slot : Operand (Name Part) = Net of.slot (l.slot_bits m) in
        let host : Operand (Name Part) = Net (writes_net l) 1 in
        cons (Net (commits_net l d parts.actions m) 1) (host ∷ slot ∷ host_map ∷ more) (omega arith)
        (cons host (slot ∷ host_map ∷ more) (omega arith)
        (cons slot (host_map ∷ more) (bits_some m w) (cons host_map more (omega arith) (both (word_operands of.keys) (operations_read of.operations) (words_some of.keys) operations_some))))

    -- slot, presence, and after two nets the key
    given_some : AreSome (change_given (l.changes m).slot (l.changes m).key (l.changes m).presence (l.changes m).any (l.changes m).by_host)
    given_some = let c = l.changes m in of_operands (change_given c.slot c.key c.presence c.any c.by_host) (parts.maps.maps m w).change.offers.operands

    given_slot : IsSome (l.changes m).slot
    given_slot = let c = l.changes m in All-head IsSome c.slot (c.presence ∷ Net c.any 1 ∷ Net c.by_host 1 ∷ c.key) given_some

    given_presence : IsSome (l.changes m).presence
    given_presence =
        let c = l.changes m in
        All-head IsSome c.presence (Net c.any 1 ∷ Net c.by_host 1 ∷ c.key) (All-tail IsSome c.slot (c.presence ∷ Net c.any 1 ∷ Net c.by_host 1 ∷ c.key) given_some)

    given_key : AreSome (l.changes m).key
    given_key = let c = l.changes m in right_of (c.slot ∷ c.presence ∷ Net c.any 1 ∷ Net c.by_host 1 ∷ []) c.key given_some

  -- ---- marks
  mark_some : (j k : ℕ) (a : Operand (Name Part)) → IsMarkOf l k j a → IsSome a
  mark_some j k a (Unread x e) = subst IsSome (sym e) tt
  mark_some j k a (Read i lt is e) = subst IsSome (sym e) (omega arith)

  before_mark : (j k : ℕ) (a : Operand (Name Part)) → IsMarkBefore l j k a → IsSome a
  before_mark j zero a e = subst IsSome (sym e) tt
  before_mark j (suc k) a h = mark_some j k a h

  key_some : (s : SiteOperands (Name Part)) → AreSome (all_of s) → AreSome s.key
  key_some s h = left_of s.key s.operands (right_of (s.guard ∷ s.found ∷ s.answer ∷ s.pointer ∷ []) (s.key ++ s.operands) h)

  owns_some : (k : ℕ) (os : List (OwnKey (Name Part))) → All (IsOwnAt l k) os → AreSome (own_operands os)
  owns_some k [] h = none
  owns_some k (o ∷ os) h =
      let x = All-head (IsOwnAt l k) o os h in
      both o.key.now (own_operands os) (subst AreSome (sym x.key) (key_some x.nets (of_operands (all_of x.nets) x.at.operands))) (owns_some k os (All-tail (IsOwnAt l k) o os h))

  site_some : (k i : ℕ) (m : MarkSite (Name Part)) → i < length (read_sites l k) → IsMarkAt l k i m → AreSome (site_operands m)
  site_some k i m lt is =
      let known : m.site < length (program_of l).sites = subst (λ j. j < length (program_of l).sites) (sym is.site) (sites_below (has_read (program_of l) l.build.plan.row k) (length (program_of l).sites) i 0 lt) in
      let w = map_within m.site known in
      let of = (site_at (program_of l).sites m.site).map in
      let cells = all_of (operands_of m.nets.now) in
      let keys = m.change.key.now ++ own_operands m.owns.now in
      let more = cells ++ (m.change.slot ∷ m.change.presence ∷ keys) in
      cons m.was (m.before ∷ m.comes ∷ more) (subst IsSome (sym is.was) (omega arith))
      (cons m.before (m.comes ∷ more) (before_mark m.site k m.before is.before)
      (cons m.comes more (subst IsSome (sym is.comes) (omega arith))
      (both cells (m.change.slot ∷ m.change.presence ∷ keys) (of_operands cells is.nets.operands)
      (cons m.change.slot (m.change.presence ∷ keys) (subst IsSome (sym is.slot) (given_slot of w))
      (cons m.change.presence keys (subst IsSome (sym is.presence) (given_presence of w))
      (both m.change.key.now (own_operands m.owns.now) (subst AreSome (sym is.key) (given_key of w)) (owns_some k m.owns.now is.owns)))))))

  marks_from : (k : ℕ) (at : ℕ → ℕ) (ms : List (MarkSite (Name Part))) → ((i : ℕ) → i < length ms → at i < length (read_sites l k)) → ((i : ℕ) (m : MarkSite (Name Part)) → i < length ms → IsMarkAt l k (at i) (get_or ms i m)) → AreSome (mark_site_operands ms)
  marks_from k at [] low h = none
  marks_from k at (m ∷ ms) low h =
      both (site_operands m) (mark_site_operands ms) (site_some k (at 0) m (low 0 (omega arith)) (h 0 m (omega arith)))
      (marks_from k (λ i. at (suc i)) ms (λ i lt. low (suc i) (omega (arith, lt))) (λ i e lt. h (suc i) e (omega (arith, lt))))

  pub marks_some : (k : ℕ) (w : k ≤ commit_of l) → AreSome (mark_outside (advances l) (parts.marks k w).sites)
  marks_some k w =
      let m = parts.marks k w in
      let count = m.count in
      cons (Net (advances l) 1) (mark_site_operands m.sites) (omega arith) (marks_from k (λ i. i) m.sites (λ i lt. omega (arith, lt, count)) m.each)

  guard_some : (g : Option (Operand (Name Part))) → ((a : Operand (Name Part)) → g ≡ Some a → IsSome a) → AreSome (guard_operands g)
  guard_some None h = none
  guard_some (Some a) h = cons a [] (h a refl) none

  reloads_from : (k : ℕ) (at : ℕ → ℕ) (ms : List (MarkNets (Name Part))) → ((i : ℕ) (m : MarkNets (Name Part)) → i < length ms → IsMarkNets l k (at i) (get_or ms i m)) → AreSome (mark_operands ms)
  reloads_from k at [] h = none
  reloads_from k at (m ∷ ms) h =
      let is = h 0 m (omega arith) in
      cons m.marked (guard_operands m.guard ++ mark_operands ms) (subst IsSome (sym is.marked) (omega arith))
      (both (guard_operands m.guard) (mark_operands ms)
      (guard_some m.guard (λ a e. let x = is.guard a e in subst IsSome (sym x.2) (All-head IsSome x.0.guard (x.0.found ∷ x.0.answer ∷ x.0.pointer ∷ x.0.key ++ x.0.operands) (of_operands (all_of x.0) x.1.operands))))
      (reloads_from k (λ i. at (suc i)) ms (λ i e lt. h (suc i) e (omega (arith, lt)))))

  pub reloads_some : (k : ℕ) (w : k ≤ commit_of l) → AreSome (mark_operands (parts.marks k w).reloads)
  reloads_some k w = reloads_from k (λ i. i) (parts.marks k w).reloads (parts.marks k w).nets
