-- The parts of targets say what the operation that commits writes.
use Rattle.std.specs.Prelude.{◌≡◌, ℕ, suc, ◌+◌, ◌<◌, Some, List, [], ◌∷◌, length, slice_index}
use Rattle.std.proofs.Common.{get_or, sym, ap, ◌∙◌, subst, arith}
use Rattle.std.proofs.lemmas.List.{length-map, get_or-map}
use Rattle.std.proofs.lemmas.List.Elements.{All-nil, All-cons, All-weaker}
use Rattle.block_core.specs.net_core.declared.ports.Inputs.{Inputs}
use Rattle.block_core.specs.net_core.declared.tree.Word.{Word}
use Rattle.block_core.specs.net_core.Ports.{words_of}
use Rattle.block_core.specs.net_core.Value.{word, nothing, Env}
use Rattle.block_core.specs.net_core.Clock.{Stored}
use Rattle.block_core.specs.declared.name.Name.{Name}
use Rattle.block_core.specs.declared.name.Name.TheVariants as name
use Rattle.block_core.specs.Blocks.{Whole}
use Rattle.block_core.specs.Parts.{Sees}
use Rattle.hazard_core.specs.xdp_maps.declared.decl.MapDecl.{MapDecl}
use Rattle.hazard_core.specs.xdp_maps.declared.decl.MapKind.TheVariants.{Hash}
use Rattle.hazard_core.specs.Tables.{decl_of, table_at, used_count}
use Rattle.hazard_core.specs.Tabled.{IsTable}
use Rattle.hazard_core.specs.declared.slot.Slot.{Slot}
use Rattle.hazard_core.specs.Commits.{written_slot, makes_entry}
use Rattle.hazard_core.specs.cell_core.Cells.{bit}
use Rattle.turn_net.specs.cell_nets.Operands.{number_in}
use Rattle.read_net.specs.overlay_net.SiteOperands.Sites.{operands_of, ShowsSite}
use Rattle.read_net.specs.hash_net.Hash.{count_name, StoresHash, SeesOwn}
use Rattle.commit_net.specs.MapBlock.Stored.{StoresAs}
use Rattle.read_net.specs.hash_net.SlotNet.Slots.{slots_of, ShowSlots}
use Rattle.commit_net.specs.declared.target.TakenSlot.{TakenSlot}
use Rattle.read_net.specs.declared.sites.OwnSite.{OwnSite}
use Rattle.read_net.specs.Sites.{IsMapOf, ShowsTable}
use Rattle.turn_net.specs.declared.nets.RecordNets.{RecordNets}
use Rattle.turn_net.specs.Nets.{kept}
use Rattle.turn_net.specs.Action.{slot_word}
use Rattle.turn_net.specs.declared.target_net.targets.Target.{Target}
use Rattle.turn_net.specs.TargetNet.Targets.{FindsSlot, ShowTaken, Shows}
use Rattle.pipe_core.specs.Machine.{Packet, State, Commits, place_at, flushed, is_idle, host_ready, host_writes}
use Rattle.pipe_net.specs.declared.parts.Part.{Part}
use Rattle.pipe_net.specs.Parts as part
use Rattle.pipe_net.specs.Parts.{parts_of}
use Rattle.pipe_net.specs.Machine.{access_in, input_of}
use Rattle.pipe_net.specs.Layout.{Layout, IsSized, program_of, commit_of}
use Rattle.pipe_net.specs.Relation.{most_slots, HoldMaps}
use Rattle.pipe_net.specs.Saying.{action_in}
use Rattle.pipe_net.specs.Standing.{IsAtPlace, ShowsHeld, ShowPackets}
use Rattle.pipe_net.specs.PipeTurns.Maps.{decl_at, taken_from, taken_slots}
use Rattle.pipe_net.specs.PipeTurns.Parts.{AreActionParts}
use Rattle.pipe_net.specs.PipeTurns.Acting.{ActionsAreFit, IsRightAction, ShowsWritten, TargetsAreShown}
use Rattle.pipe_net.proofs.PipeTurns.Places.{commits_within, has_slots, has_targets, has_own, has_action}
use Rattle.pipe_net.proofs.PipeTurns.Machine.{kept_was, commits_is}
use Rattle.pipe_net.proofs.PipeTurns.TargetLemmas.{made_among, other_made}

module _ (l : Layout) (d : Whole Part) (sized : IsSized l) (parts : AreActionParts l d) (listed : d.parts ≡ parts_of l.sizes)
    (i : Inputs) (s : State) (ss : Part → Stored) (v : Env (Name Part)) (maps : HoldMaps l s ss) (sees : Sees d (words_of i) ss v) (fit : ActionsAreFit l d parts v) (packets : ShowPackets l s v) (right : IsRightAction l i s) where
  -- ---- the slots that updates took
  abbrev action_stored : Stored
  action_stored = ss (part.action l.sizes)

  kept_register : (k : ℕ) (r : RecordNets (Name Part)) → k < length (kept l.records) → v.net (name.Register (part.action l.sizes) (1 + k)) ≡ slot_word l.action_shape.slot_bits s.taken (get_or (kept l.records) k r)
  kept_register k r lt =
      let size = maps.action.registers in
      let many = length-map (kept l.records) (slot_word l.action_shape.slot_bits s.taken) in
      let z : 1 + k ≡ suc k = omega arith in
      let inside : suc k < length action_stored.registers = omega (arith, ap (λ (rs : List Word). length rs) size, many, lt) in
      ap (λ n. v.net (name.Register (part.action l.sizes) n)) z ∙ sees.register (part.action l.sizes) (suc k) (has_action l d sized listed) inside ∙ ap (λ (rs : List Word). get_or rs (suc k) nothing) size
      ∙ get_or-map (slot_word l.action_shape.slot_bits s.taken) (kept l.records) k r nothing lt

  shows_from : (rs : List (RecordNets (Name Part))) (at : ℕ) → ((k : ℕ) (r : RecordNets (Name Part)) → k < length rs → v.net (name.Register (part.action l.sizes) (at + k)) ≡ slot_word l.action_shape.slot_bits s.taken (get_or rs k r))
      → ShowTaken v s.taken (taken_from l at rs)
  shows_from [] at h = All-nil (λ (t : TakenSlot (Name Part)). number_in v t.slot ≡ slice_index s.taken t.site)
  shows_from (r ∷ rs) at h =
      let z : at ≡ at + 0 = omega arith in
      All-cons (λ (t : TakenSlot (Name Part)). number_in v t.slot ≡ slice_index s.taken t.site) _ (taken_from l (suc at) rs)
      (ap (λ n. (v.net (name.Register (part.action l.sizes) n)).value) z ∙ ap (λ (w : Word). w.value) (h 0 r (omega arith)))
      (shows_from rs (suc at) (λ k e lt. let y : suc at + k ≡ at + suc k = omega arith in ap (λ n. v.net (name.Register (part.action l.sizes) n)) y ∙ h (suc k) e (omega (arith, lt))))

  taken_shown : ShowTaken v s.taken (taken_slots l)
  taken_shown = shows_from (kept l.records) 1 kept_register

  -- ---- the operation that commits
  module _ (j : ℕ) (x : Packet) (commits : action_in l.build (input_of i) s ≡ Commits j x) where
    pub packet_there : place_at s.places (commit_of l) ≡ Some x
    packet_there =
        let w = host_writes (host_ready l.build s) (is_idle s) s.tables (Some (access_in i)) in
        kept_was l.build (commit_of l) s.places x (commits_is l.build s (flushed l.build 0 s.places) w j x commits).packet

    holds : ShowsHeld l v (commit_of l) x.held
    holds = packets (commit_of l) x (commits_within l sized) packet_there

    finds : FindsSlot (program_of l) s.tables s.taken x.held (taken_slots l) j
    finds = record {
      within = (right.commits j x commits).slot;
      made = λ k e o.
          made_among l (program_of l) l.decls l.build.plan.row (suc (commit_of l)) k 1 l.records parts.records.each parts.sites
          (other_made (program_of l) l.decls l.build.plan.row l.flags most_slots (suc (commit_of l)) s.tables x.held holds.fits k j e o);
    }

    module _ (m : ℕ) (lt : m < length l.decls) where
      abbrev slots : List Slot
      slots = table_at s.tables m

      is_map : IsMapOf s.tables m (parts.maps m).decl.now
      is_map =
          let same : decl_of s.tables.decls m ≡ (parts.maps m).decl.now = ap (λ ds. decl_of ds m) maps.decls ∙ sym (parts.writes m lt).map.decl in
          record { decl = same; table = subst (λ e. IsTable e slots) same ((right.tables j x commits).each m (subst (λ ds. m < length ds) (sym maps.decls) lt)) }

      -- of a hash
      stores : (decl_at l m).kind ≡ Hash → StoresHash (decl_at l m) (l.slot_bits m) slots (ss (part.own l.sizes m))
      stores hash = subst (λ k. StoresAs k (decl_at l m) (l.slot_bits m) slots (ss (part.own l.sizes m))) hash (maps.tables m lt)

      count_is : (decl_at l m).kind ≡ Hash → v.net (count_name (part.own l.sizes m)) ≡ word (l.slot_bits m + 1) (used_count slots)
      count_is hash =
          let size = (stores hash).registers in
          sees.register (part.own l.sizes m) 0 (has_own l d sized listed m lt) (subst (λ rs. 0 < length rs) (sym size) (omega arith)) ∙ ap (λ (rs : List Word). get_or rs 0 nothing) size

      sees_own : (decl_at l m).kind ≡ Hash → SeesOwn (part.own l.sizes m) v (ss (part.own l.sizes m))
      sees_own hash =
          let size = (stores hash).registers in
          record {
            register = count_is hash ∙ sym (ap (λ (rs : List Word). get_or rs 0 (word 0 0)) size);
            memories = λ k n less. sees.memory_word (part.own l.sizes m) k n (has_own l d sized listed m lt) less;
          }

      table_shown : ShowsTable v s.tables m (parts.maps m)
      table_shown kind =
          let is = (parts.writes m lt).map in
          let hash : (decl_at l m).kind ≡ Hash = ap (λ (e : MapDecl). e.kind) (sym is.decl) ∙ kind in
          let shown = ((parts.writes m lt).slots.hash hash).shows v (ss (part.own l.sizes m)) slots (sees.wires (part.slots l.sizes m) (has_slots l d sized listed m lt)) (sees_own hash) (stores hash) in (
            subst (λ e. ShowSlots v e slots (slots_of (parts.maps m).slots.now)) (sym is.decl) (subst (ShowSlots v (decl_at l m) slots) (sym (is.slots hash)) shown),
            ap (number_in v) (is.used hash) ∙ ap (λ (w : Word). w.value) (count_is hash),
          )

      shows : Shows v (program_of l) s.tables s.taken x.held m (parts.maps m) (parts.own m) (taken_slots l)
      shows = record {
        records = All-weaker (λ (o : OwnSite (Name Part)). IsAtPlace l (commit_of l) o.site (operands_of o.nets.now)) (λ o. ShowsSite v (program_of l) x.held o.site (operands_of o.nets.now)) (λ o at. at.shown v x.held holds) (parts.own m) (parts.writes m lt).cells;
        table = table_shown;
        taken = taken_shown;
      }

      pub written_shown : (n : ℕ) (o : OwnSite (Name Part)) (t : Target (Name Part)) → n < length (parts.own m) → (get_or (parts.own m) n o).site ≡ j → ShowsWritten l s v j x (get_or (parts.targets m) n t)
      written_shown n o t less same =
          let shown = (parts.writes m lt).block.shows v s.tables s.taken x.held is_map (fit.targets m lt) (sees.wires (part.targets l.sizes m) (has_targets l d sized listed m lt)) shows n o t less in
          record {
            slot = shown.slot (subst (FindsSlot (program_of l) s.tables s.taken x.held (taken_slots l)) (sym same) finds) ∙ ap (λ a. written_slot (program_of l) s.tables s.taken x.held a) same;
            makes = shown.makes ∙ ap (λ a. bit (makes_entry (program_of l) s.tables x.held a)) same;
          }

pub targets_are_shown : TargetsAreShown
targets_are_shown = λ l d sized parts listed i s ss v maps sees fit packets right j x m n o t commits lt less same. written_shown l d sized parts listed i s ss v maps sees fit packets right j x commits m lt n o t less same
