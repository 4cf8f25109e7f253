-- What says which operation commits reads what stands before it, and so do those that read it.
use Rattle.std.specs.Prelude.{◌≡◌, ℕ, zero, suc, ◌+◌, ◌-◌, ◌<◌, ◌≤◌, All, List, [], ◌∷◌, ◌++◌, Bool, length, filter, replicate, map as map_list, Contains}
use Rattle.std.proofs.Common.{get_or, refl, sym, ap, ◌∙◌, subst, arith, inr}
use Rattle.std.proofs.lemmas.List.{length-map, length-replicate, get_or-replicate, get_or_append_left}
use Rattle.std.proofs.lemmas.List.Elements.{All-nil, All-cons, All-head, All-tail, All-filter}
use Rattle.block_core.specs.net_core.Ports.{port_list}
use Rattle.block_core.specs.declared.name.Name.{Name}
use Rattle.block_core.specs.declared.name.Name.TheVariants as name
use Rattle.block_core.specs.Blocks.{Whole, Among, wires_of}
use Rattle.block_core.specs.Formed.{block_registers, block_wires, block_wire_width, name_width}
use Rattle.hazard_core.specs.cell_core.Rows.{numbers}
use Rattle.hazard_core.specs.cell_core.Sites.{site_at, records}
use Rattle.turn_net.specs.cell_nets.declared.operand.Operand.{Operand}
use Rattle.turn_net.specs.cell_nets.declared.operand.Operand.TheVariants.{Known, Net}
use Rattle.turn_net.specs.cell_nets.Wires.{own, behind}
use Rattle.turn_net.proofs.cell_nets_laws.OperandBlocks.WiringLaws.{own_all}
use Rattle.read_net.specs.overlay_net.SiteOperands.Sites.{operands_of}
use Rattle.read_net.specs.declared.sites.OwnSite.{OwnSite}
use Rattle.read_net.specs.Sites.{cells_of, all_cells, slot_cells}
use Rattle.commit_net.specs.Targets.{slots_of}
use Rattle.turn_net.specs.declared.nets.RecordNets.{RecordNets}
use Rattle.turn_net.specs.Nets.{kept, sites_of, site_read, read_of, all_read, signals, outside, done_operand, slot_operands, own_operands}
use Rattle.turn_net.specs.declared.target_net.targets.Target.{Target}
use Rattle.turn_net.specs.TargetNet.Targets.{all_of as all_targets, outside_of}
use Rattle.turn_net.specs.TargetNet.Commits.{bits_of}
use Rattle.control_net.specs.declared.ring_net.names.Register.TheVariants.{Holds}
use Rattle.control_net.specs.RingNet.Names.{register_name}
use Rattle.control_net.specs.Names.{back_name}
use Rattle.pipe_net.specs.declared.parts.Part.{Part}
use Rattle.pipe_net.specs.Parts as part
use Rattle.pipe_net.specs.Parts.{behind_words, behind_maps}
use Rattle.pipe_net.specs.Layout.{Layout, program_of, last_of, commit_of}
use Rattle.pipe_net.specs.Standing.{IsAtPlace}
use Rattle.pipe_net.specs.PipeTurns.Maps.{taken_from, taken_slots}
use Rattle.pipe_net.specs.PipeTurns.Parts.{IsTargetOf, present_net, idle_net, ready_net, writes_net, action_nets}
use Rattle.pipe_net.specs.PipeMaps.Parts.{commits_net}
use Rattle.pipe_net.specs.PipeForms.Parts.{AreParts}
use Rattle.pipe_net.proofs.PipeForms.EarlierLemmas.{IsReady, AreReady, among_earlier, ready_none, ready_cons, ready_list, ready_append, ready_there, ready_later, ready_offers}
use Rattle.pipe_net.proofs.PipeForms.HeldLemmas.{among, commit_within, site_ready}
use Rattle.pipe_net.proofs.PipeForms.MapLemmas.{number_within, slot_cells_ready}

-- the wires of an earlier part
pub own_ready : (d : Whole Part) (k n : ℕ) → k < n → AreReady d n (own (part.part k) 0 (d.block (part.part k)).wires)
own_ready d k n lt = own_all (part.part k) (IsReady d n) (d.block (part.part k)).wires 0 (λ i less. let z : 0 + i ≡ i = omega arith in (inr (among_earlier n k lt, omega (arith, less)), ap (λ m. get_or (block_wires (d.block (part.part k))) m 0) z))

-- after them what that part reads
pub behind_ready : (d : Whole Part) (k n : ℕ) → k < n → (outside : List (Operand (Name Part))) → AreReady d k outside → AreReady d n (behind (part.part k) outside (d.block (part.part k)).wires)
behind_ready d k n lt outside h = ready_append d n outside (own (part.part k) 0 (d.block (part.part k)).wires) (ready_later d k n (omega (arith, lt)) outside h) (own_ready d k n lt)

-- a list of one number for each of these
pub each_same : {X : Type 0} (n : ℕ) (xs : List X) (i : ℕ) → i < length xs → get_or (map_list (λ (x : X). n) xs) i 0 ≡ n
each_same n [] i lt = absurd (omega (arith, lt))
each_same n (x ∷ xs) zero lt = refl
each_same n (x ∷ xs) (suc i) lt = each_same n xs i (omega (arith, lt))

-- ---- the sites of a program
numbers_below : (from n bound : ℕ) → from + n ≤ bound → All (λ j. j < bound) (numbers from n)
numbers_below from zero bound le = All-nil (λ j. j < bound)
numbers_below from (suc n) bound le = All-cons (λ j. j < bound) from (numbers (suc from) n) (omega (arith, le)) (numbers_below (suc from) n bound (omega (arith, le)))

pub sites_below : (test : ℕ → Bool) (n : ℕ) → All (λ j. j < n) (filter test (numbers 0 n))
sites_below test n = All-filter test (λ j. j < n) (numbers 0 n) (numbers_below 0 n n (omega arith))

module _ (l : Layout) (d : Whole Part) (parts : AreParts l d) where
  abbrev action_number : ℕ
  action_number = behind_words l.sizes + l.sizes.maps + 1

  pub commit_shape : l.shape.commit ≡ commit_of l
  commit_shape = parts.sized.commits

  -- ---- nets of control, of who is sent back, and of the host
  pub control_there : Among (part.control l.sizes) d.parts
  control_there = among l d parts _ (omega arith)

  told_count : wires_of (d.block (part.control l.sizes)) ≡ 10
  told_count = let e = ap length parts.frames.control.wires in let f = length-map (d.block (part.control l.sizes)).wires block_wire_width in omega (arith, e, f)

  pub told_width : (i : ℕ) → i < 10 → name_width d port_list (name.Wire (part.control l.sizes) i) ≡ 1
  told_width i lt = ap (λ ws. get_or ws i 0) parts.frames.control.wires ∙ get_or-replicate 10 i 1 0 lt

  pub told_ready : (n : ℕ) → behind_maps l.sizes < n → (i : ℕ) → i < 10 → IsReady d n (Net (name.Wire (part.control l.sizes) i) 1)
  told_ready n late i lt = let c = told_count in (inr (among_earlier n (behind_maps l.sizes) late, omega (arith, c, lt)), told_width i lt)

  pub holds_width : (k : ℕ) → k ≤ last_of l → name_width d port_list (register_name (part.control l.sizes) (Holds k)) ≡ 1
  holds_width k q =
      let s = parts.sized.stages in
      let z : 9 + k ≡ suc (suc (suc (suc (suc (suc (suc (suc (suc k)))))))) = omega arith in
      let less : k < suc l.shape.stages = omega (arith, q, s) in
      ap (λ m. get_or (block_registers (d.block (part.control l.sizes))) m 0) z
      ∙ ap (λ ws. get_or ws (suc (suc (suc (suc (suc (suc (suc (suc (suc k))))))))) 0) parts.frames.control.registers
      ∙ get_or_append_left (replicate (suc l.shape.stages) 1) (replicate (suc l.shape.commit) 1 ++ replicate (suc l.shape.commit) l.shape.slot_bits) 0 k (omega (arith, less, length-replicate {A = ℕ} (suc l.shape.stages) 1))
      ∙ get_or-replicate (suc l.shape.stages) k 1 0 less

  pub back_width : (k : ℕ) → k ≤ commit_of l → name_width d port_list (back_name l.shape (part.returns l.sizes) k) ≡ 1
  back_width k q =
      let s = commit_shape in
      ap (λ ws. get_or ws (l.shape.commit - k) 0) parts.frames.returns.wires ∙ get_or-replicate (suc l.shape.commit) (l.shape.commit - k) 1 0 (omega (arith, q, s))

  back_within : (k : ℕ) → l.shape.commit - k < wires_of (d.block (part.returns l.sizes))
  back_within k =
      let e = ap length parts.frames.returns.wires in
      let f = length-map (d.block (part.returns l.sizes)).wires block_wire_width in
      let g = length-replicate {A = ℕ} (suc l.shape.commit) 1 in
      omega (arith, e, f, g)

  pub back_ready : (n : ℕ) → 3 + l.sizes.commit ≤ n → (k : ℕ) → k ≤ commit_of l → IsReady d n (Net (back_name l.shape (part.returns l.sizes) k) 1)
  back_ready n late k q = (inr (among_earlier n (2 + l.sizes.commit) (omega (arith, late)), back_within k), back_width k q)

  host_count : wires_of (d.block (part.host l.sizes)) ≡ 3
  host_count = let e = ap length parts.actions.host.wires in let f = length-map (d.block (part.host l.sizes)).wires block_wire_width in omega (arith, e, f)

  pub writes_ready : (n : ℕ) → behind_words l.sizes + l.sizes.maps < n → IsReady d n (Net (writes_net l) 1)
  writes_ready n late = let c = host_count in (inr (among_earlier n (behind_words l.sizes + l.sizes.maps) late, omega (arith, c)), ap (λ ws. get_or ws 2 0) parts.actions.host.wires)

  pub idle_ready : (n : ℕ) → behind_words l.sizes + l.sizes.maps < n → IsReady d n (Net (idle_net l) 1)
  idle_ready n late = let c = host_count in (inr (among_earlier n (behind_words l.sizes + l.sizes.maps) late, omega (arith, c)), ap (λ ws. get_or ws 0 0) parts.actions.host.wires)

  pub heard_ready : (n : ℕ) → behind_words l.sizes + l.sizes.maps < n → IsReady d n (Net (ready_net l) 1)
  heard_ready n late = let c = host_count in (inr (among_earlier n (behind_words l.sizes + l.sizes.maps) late, omega (arith, c)), ap (λ ws. get_or ws 1 0) parts.actions.host.wires)

  -- ---- what stands for the slots that updates took
  pub action_there : Among (part.action l.sizes) d.parts
  action_there = among l d parts _ (omega arith)

  taken_width : (i : ℕ) → i < length (kept l.records) → get_or (block_registers (d.block (part.action l.sizes))) (1 + i) 0 ≡ l.action_shape.slot_bits
  taken_width i lt =
      let z : 1 + i ≡ suc i = omega arith in
      ap (λ m. get_or (block_registers (d.block (part.action l.sizes))) m 0) z ∙ ap (λ ws. get_or ws (suc i) 0) parts.actions.action.registers ∙ each_same l.action_shape.slot_bits (kept l.records) i lt

  taken_ready : (n at : ℕ) (rs : List (RecordNets (Name Part))) → ((i : ℕ) → i < length rs → get_or (block_registers (d.block (part.action l.sizes))) (at + i) 0 ≡ l.action_shape.slot_bits) → AreReady d n (slots_of (taken_from l at rs))
  taken_ready n at [] h = ready_none d n
  taken_ready n at (r ∷ rs) h =
      let z : at + 0 ≡ at = omega arith in
      ready_cons d n (Net (name.Register (part.action l.sizes) at) l.action_shape.slot_bits) (slots_of (taken_from l (suc at) rs))
      (action_there, subst (λ m. get_or (block_registers (d.block (part.action l.sizes))) m 0 ≡ l.action_shape.slot_bits) z (h 0 (omega arith)))
      (taken_ready n (suc at) rs (λ i lt. let e : at + suc i ≡ suc at + i = omega arith in subst (λ m. get_or (block_registers (d.block (part.action l.sizes))) m 0 ≡ l.action_shape.slot_bits) e (h (suc i) (omega (arith, lt)))))

  pub all_taken_ready : (n : ℕ) → AreReady d n (slots_of (taken_slots l))
  all_taken_ready n = taken_ready n 1 (kept l.records) taken_width

  -- ---- what targets read, and what they say
  own_sites_ready : (n : ℕ) (ss : List (OwnSite (Name Part))) → All (λ s. IsAtPlace l (commit_of l) s.site (operands_of s.nets.now)) ss → AreReady d n (all_cells ss)
  own_sites_ready n [] h = ready_none d n
  own_sites_ready n (s ∷ ss) h =
      ready_append d n (cells_of s) (all_cells ss) (site_ready l d parts (commit_of l) (commit_within l d parts) n s.site (operands_of s.nets.now) (All-head (λ (s : OwnSite (Name Part)). IsAtPlace l (commit_of l) s.site (operands_of s.nets.now)) s ss h)) (own_sites_ready n ss (All-tail (λ (s : OwnSite (Name Part)). IsAtPlace l (commit_of l) s.site (operands_of s.nets.now)) s ss h))

  pub targets_read : (n : ℕ) → 4 + l.sizes.commit + l.sizes.maps ≤ n → (m : ℕ) → m < length l.decls → AreReady d n (outside_of (parts.actions.maps m) (parts.actions.own m) (taken_slots l))
  targets_read n late m there =
      ready_append d n (all_cells (parts.actions.own m)) (slot_cells (parts.actions.maps m) ++ slots_of (taken_slots l)) (own_sites_ready n (parts.actions.own m) (parts.actions.writes m there).cells)
      (ready_append d n (slot_cells (parts.actions.maps m)) (slots_of (taken_slots l)) (slot_cells_ready l d parts m there n late) (all_taken_ready n))

  pub targets_ready : (n : ℕ) → behind_words l.sizes + l.sizes.maps ≤ n → (m : ℕ) → m < length l.decls → AreReady d n (all_targets (parts.actions.targets m))
  targets_ready n late m there =
      let h = number_within l d parts m there in
      ready_offers d (behind_words l.sizes + m) n (omega (arith, h, late)) (outside_of (parts.actions.maps m) (parts.actions.own m) (taken_slots l)) (all_targets (parts.actions.targets m)) (parts.actions.writes m there).block.offers
      (targets_read (behind_words l.sizes + m) (omega arith) m there)

  -- of each target both are
  both_there : (ts : List (Target (Name Part))) (i : ℕ) (t : Target (Name Part)) → i < length ts → Contains (all_targets ts) (get_or ts i t).slot × Contains (all_targets ts) (get_or ts i t).makes
  both_there [] i t lt = absurd (omega (arith, lt))
  both_there (x ∷ ts) zero t lt = ((0, omega arith, refl), (1, omega arith, refl))
  both_there (x ∷ ts) (suc i) t lt =
      let h = both_there ts i t (omega (arith, lt)) in
      let first = h.0 in
      let second = h.1 in
      let a = first.1 in
      let b = second.1 in
      ((suc (suc first.0), omega (arith, a), first.2), (suc (suc second.0), omega (arith, b), second.2))

  pub target_ready : (n : ℕ) → behind_words l.sizes + l.sizes.maps ≤ n → (m : ℕ) → m < length l.decls → (i : ℕ) (t : Target (Name Part)) → i < length (parts.actions.own m) → IsReady d n (get_or (parts.actions.targets m) i t).slot × IsReady d n (get_or (parts.actions.targets m) i t).makes
  target_ready n late m there i t lt =
      let count = (parts.actions.writes m there).block.has.count in
      let both = both_there (parts.actions.targets m) i t (omega (arith, lt, count)) in
      let ready = targets_ready n late m there in
      (ready (get_or (parts.actions.targets m) i t).slot both.0, ready (get_or (parts.actions.targets m) i t).makes both.1)

  -- a site is on one of the maps
  pub map_within : (j : ℕ) → j < length (program_of l).sites → (site_at (program_of l).sites j).map < length l.decls
  map_within j lt = (parts.stages.laid.staged.fits j lt).map

  -- ---- what says which operation commits reads
  targets_of : (n : ℕ) → behind_words l.sizes + l.sizes.maps ≤ n → (r : RecordNets (Name Part)) → r.number < length (program_of l).sites → IsTargetOf l parts.actions.own parts.actions.targets r → IsReady d n r.target
  targets_of n late r lt is =
      let none : Target (Name Part) = record { slot = Known 0; makes = Known 0 } in
      subst (IsReady d n) (is.target none) (target_ready n late (site_at (program_of l).sites r.number).map (map_within r.number lt) is.at none is.there).0

  records_from : (n : ℕ) → behind_words l.sizes + l.sizes.maps ≤ n → (rs : List (RecordNets (Name Part))) → All (λ j. j < length (program_of l).sites) (sites_of rs) → All (λ r. IsAtPlace l (commit_of l) r.number (operands_of r.nets.now)) rs
      → All (IsTargetOf l parts.actions.own parts.actions.targets) rs → AreReady d n (all_read rs)
  records_from n late [] low cells written = ready_none d n
  records_from n late (r ∷ rs) low cells written =
      ready_append d n (read_of r) (all_read rs)
      (ready_cons d n r.target (site_read r) (targets_of n late r (All-head (λ j. j < length (program_of l).sites) r.number (sites_of rs) low) (All-head (IsTargetOf l parts.actions.own parts.actions.targets) r rs written)) (site_ready l d parts (commit_of l) (commit_within l d parts) n r.number (operands_of r.nets.now) (All-head (λ (r : RecordNets (Name Part)). IsAtPlace l (commit_of l) r.number (operands_of r.nets.now)) r rs cells)))
      (records_from n late rs (All-tail (λ j. j < length (program_of l).sites) r.number (sites_of rs) low) (All-tail (λ (r : RecordNets (Name Part)). IsAtPlace l (commit_of l) r.number (operands_of r.nets.now)) r rs cells) (All-tail (IsTargetOf l parts.actions.own parts.actions.targets) r rs written))

  pub records_ready : (n : ℕ) → behind_words l.sizes + l.sizes.maps ≤ n → AreReady d n (all_read l.records)
  records_ready n late =
      records_from n late l.records (subst (All (λ j. j < length (program_of l).sites)) (sym parts.actions.sites) (sites_below (λ j. records (site_at (program_of l).sites j).act) (length (program_of l).sites))) parts.actions.cells parts.actions.written

  pub present_ready : (n : ℕ) → IsReady d n (Net (present_net l) 1)
  present_ready n = (control_there, holds_width (commit_of l) (commit_within l d parts))

  pub action_ready : (n : ℕ) → behind_words l.sizes + l.sizes.maps < n → AreReady d n (outside (action_nets l) l.records)
  action_ready n late =
      ready_append d n (signals (action_nets l)) (all_read l.records)
      (ready_list d n (signals (action_nets l)) (present_ready n, (back_ready n (omega (arith, late)) (commit_of l) (omega arith), (writes_ready n late, tt))))
      (records_ready n (omega (arith, late)))

  -- ---- and what it says
  slots_taken : (n at count : ℕ) → ((i : ℕ) → i < count → get_or (block_registers (d.block (part.action l.sizes))) (at + i) 0 ≡ l.action_shape.slot_bits) → AreReady d n (slot_operands (part.action l.sizes) l.action_shape.slot_bits at count)
  slots_taken n at zero h = ready_none d n
  slots_taken n at (suc count) h =
      let z : at + 0 ≡ at = omega arith in
      ready_cons d n (Net (name.Register (part.action l.sizes) at) l.action_shape.slot_bits) (slot_operands (part.action l.sizes) l.action_shape.slot_bits (suc at) count)
      (action_there, subst (λ m. get_or (block_registers (d.block (part.action l.sizes))) m 0 ≡ l.action_shape.slot_bits) z (h 0 (omega arith)))
      (slots_taken n (suc at) count (λ i lt. let e : at + suc i ≡ suc at + i = omega arith in subst (λ m. get_or (block_registers (d.block (part.action l.sizes))) m 0 ≡ l.action_shape.slot_bits) e (h (suc i) (omega (arith, lt)))))

  said_ready : (n : ℕ) → action_number < n → AreReady d n (Net parts.actions.one 1 ∷ Net l.stays 1 ∷ parts.actions.chosen)
  said_ready n late =
      let mine = own_operands (part.action l.sizes) l.action_shape l.records in
      let ins = mine ++ outside (action_nets l) l.records in
      ready_there d n (behind (part.action l.sizes) ins (d.block (part.action l.sizes)).wires) (Net parts.actions.one 1 ∷ Net l.stays 1 ∷ parts.actions.chosen)
      (behind_ready d action_number n late ins
      (ready_append d action_number mine (outside (action_nets l) l.records)
      (ready_cons d action_number (done_operand (part.action l.sizes) l.action_shape.bits) (slot_operands (part.action l.sizes) l.action_shape.slot_bits 1 (length (kept l.records))) (action_there, ap (λ ws. get_or ws 0 0) parts.actions.action.registers) (slots_taken action_number 1 (length (kept l.records)) taken_width)) (action_ready action_number (omega arith))))
      parts.actions.action.there

  pub stays_ready : (n : ℕ) → action_number < n → IsReady d n (Net l.stays 1)
  stays_ready n late = said_ready n late (Net l.stays 1) (1, omega arith, refl)

  pub chosen_ready : (n : ℕ) → action_number < n → AreReady d n parts.actions.chosen
  chosen_ready n late a (k, lt, e) = said_ready n late a (suc (suc k), omega (arith, lt), e)

  -- ---- of each map whether the operation is on it
  nets_in : (ns : List (Name Part)) (i : ℕ) (c : Name Part) → i < length ns → Contains (bits_of ns) (Net (get_or ns i c) 1)
  nets_in [] i c lt = absurd (omega (arith, lt))
  nets_in (x ∷ ns) zero c lt = (0, omega arith, refl)
  nets_in (x ∷ ns) (suc i) c lt = let h = nets_in ns i c (omega (arith, lt)) in let a = h.1 in (suc h.0, omega (arith, a), h.2)

  pub commits_ready : (n : ℕ) → behind_words l.sizes + l.sizes.maps + 2 < n → (m : ℕ) → m < length l.decls → IsReady d n (Net (commits_net l d parts.actions m) 1)
  commits_ready n late m there =
      let many = parts.actions.says.many in
      ready_offers d (behind_words l.sizes + l.sizes.maps + 2) n late parts.actions.chosen (bits_of parts.actions.commits) parts.actions.says.offers
      (chosen_ready (behind_words l.sizes + l.sizes.maps + 2) (omega arith))
      (Net (commits_net l d parts.actions m) 1) (nets_in parts.actions.commits m (name.Port 0) (omega (arith, there, many)))
