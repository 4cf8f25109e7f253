-- Accesses of packets go through pointers to slots of their maps.
use Rattle.std.specs.Prelude.{◌≡◌, ℕ, zero, suc, ◌+◌, ◌<◌, ◌≤◌, nat_lt, not, ◌&&◌, Bool, true, Option, Some, None, List, ◌∷◌, length, drop, slice_index, map as map_list}
use Rattle.std.proofs.Common.{get_or, inl, inr, refl, sym, ap, ◌∙◌, subst, arith}
use Rattle.std.proofs.lemmas.List.{get_or-map, get_or_past, length-map}
use Rattle.std.proofs.lemmas.Bool.{cases_lt}
use Rattle.beat_core.specs.Ports.{Arrival}
use Rattle.hazard_core.specs.xdp_maps.State.{MapState}
use Rattle.hazard_core.specs.xdp_machine.State.{PacketIn}
use Rattle.block_core.specs.net_core.declared.ports.Inputs.{Inputs}
use Rattle.block_core.specs.net_core.Clock.{Stored}
use Rattle.hazard_core.specs.cell_core.declared.site.Act.{Act}
use Rattle.hazard_core.specs.cell_core.declared.site.Act.TheVariants as act
use Rattle.hazard_core.specs.cell_core.Acts.{is_access, pointer_operand}
use Rattle.hazard_core.specs.cell_core.Cells.{cell_at, site_in, bits_from}
use Rattle.hazard_core.specs.cell_core.Sites.{SiteView, site_at}
use Rattle.pipe_core.proofs.cell_core_laws.OperatorLaws.{plain_when}
use Rattle.hazard_core.specs.declared.change.Change.{Change}
use Rattle.hazard_core.specs.declared.pointer.Pointer.{Pointer}
use Rattle.hazard_core.specs.declared.pointer.Pointer.TheVariants.{Null, InSlot}
use Rattle.hazard_core.specs.Tables.{TableState}
use Rattle.hazard_core.specs.StageValues.{StageValues, pointer_in, access_pointer}
use Rattle.hazard_core.specs.Commits.{change_by, host_change}
use Rattle.hazard_core.specs.Rows.{nothing_held}
use Rattle.hazard_core.specs.HeldRows.Fits.{FitsRows, BeginsFit}
use Rattle.hazard_core.specs.HeldRows.Made.{AreLaid}
use Rattle.hazard_core.specs.TableLaws.Counts.{HaveSameSlots, CommitKeepsSlots, HostKeepsSlots}
use Rattle.hazard_core.specs.TableLaws.Leading.{BeginsLead, ChangesLead}
use Rattle.hazard_core.proofs.HeldLaws.{plain_number}
use Rattle.read_net.specs.overlay_net.ValueNet.Words.{answers_number}
use Rattle.pipe_core.specs.Machine.{Packet, State, Build, Action, Commits, Writes, Moves, place_at, inside, no_frame, packet_of, some_send, flushed, marked_below, newcomer, entered, moved, worked, new_state, clock}
use Rattle.pipe_core.specs.History.{Trace, IsInOrder}
use Rattle.pipe_core.specs.Computed.{Computes, IsComputed}
use Rattle.pipe_core.specs.Agreement.{IsMade}
use Rattle.pipe_core.proofs.FlushLaws.{flushed_length, flushed_at}
use Rattle.pipe_net.specs.declared.parts.Part.{Part}
use Rattle.pipe_net.specs.Machine.{input_of}
use Rattle.pipe_net.specs.Layout.{Layout, program_of, last_of}
use Rattle.pipe_net.specs.Relation.{most_slots, HoldPackets}
use Rattle.pipe_net.specs.Saying.{action_in}
use Rattle.pipe_net.specs.PipePlaces.Layout.{IsLaidOut}
use Rattle.pipe_net.specs.PipePlaces.Following.{HasEntries}
use Rattle.pipe_net.specs.PipePlaces.Entries.{pointer_cell, AccessesLead, HasPointers, HavePointers}
use Rattle.pipe_net.proofs.PipePlaces.Places.{none_some, none_at, marked_by_was, HasEntered, entered_at, computes_at, clocked_places, clocked_tables}
use Rattle.pipe_net.proofs.PipePlaces.Entering.{injected_is, entered_held}
use Rattle.pipe_net.proofs.PipePlaces.Pointers.{RowPointers, pointers_stay, row_pointers}

-- ---- through the pointers that accesses have
reads_access : (a : Act) → answers_number a ≡ true → is_access a ≡ true
reads_access (act.Load at size) e = refl
reads_access (act.Atomic at a) e = refl
reads_access a e = cc

none_slot : {X : Type 0} (n : ℕ) → Null ≡ InSlot n → X
none_slot n e = cc

-- the pointer of an access is that of its cell, or there is none
cell_of_access : (h : StageValues) (s : SiteView) (n : ℕ) → access_pointer h s ≡ InSlot n → pointer_in h (pointer_cell s) ≡ InSlot n
cell_of_access h s n e =
    let long = length-map s.operands (pointer_in h) in
    elim (cases_lt (pointer_operand s.act) (length s.operands)) [
      | inl lt ↦ sym (get_or-map (pointer_in h) s.operands (pointer_operand s.act) 0 Null lt) ∙ e
      | inr past ↦ none_slot n (sym (get_or_past (map_list (pointer_in h) s.operands) (pointer_operand s.act) Null (omega (arith, past, long))) ∙ e)
    ]

pub entries_serve : (l : Layout) → AccessesLead l.build → (t : Trace) (ss : Part → Stored) → IsComputed l.build t → HoldPackets l t.state ss → HavePointers l t.state → (k : ℕ) (x : Packet) → k ≤ last_of l → place_at t.state.places k ≡ Some x
    → HasEntries (program_of l) t.state.tables x.held
entries_serve l leads t ss computed holds have k x q at j n known answers e =
    let site = site_at (program_of l).sites j in
    let c = pointer_cell site in
    elim (cases_lt (b.plan.row c) (suc k)) [
      | inl there ↦ (leads s.tables own (suc k) x.held made (λ d lt low read. fits.widths d) pointers.founds j known (reads_access site.act answers) there).slot n e
      | inr late ↦ none_slot n (sym (fits.later c late).1 ∙ cell_of_access x.held site n e)
    ]
  where
    b : Build
    b = l.build

    s : State
    s = t.state

    own : PacketIn
    own = packet_of (get_or s.frames (inside (drop (suc k) s.places)) no_frame)

    fits : FitsRows (program_of l) l.decls b.plan.row l.flags most_slots (suc k) x.held
    fits = holds.fits k x q at

    pointers : HasPointers b s.tables (suc k) x.held
    pointers = have k x q at

    computes : Computes b own (suc k) x.held
    computes = let z : 0 + k ≡ k = omega arith in subst (λ m. Computes b own (suc m) x.held) z (computes_at b s.frames 0 s.places computed.places k x at)

    made : (d : ℕ) → d < length b.program.cells → b.plan.row d < suc k → site_in (cell_at b.program.cells d).op ≡ None → IsMade b s.tables own x.held d
    made d lt low none =
        let cell = cell_at b.program.cells d in
        let plain = plain_when cell.op none in
        record {
          value = computes.each d lt low plain ∙ ap (λ m. bits_from m cell.from cell.width) (sym (plain_number b.program b.plan.row (b.plan.row d) s.tables own x.held cell cell.op plain));
          pointer = pointers.others d lt low none;
        }

-- ---- a clock
pub record PointerLaws : Type 0 where
  pub rows : RowPointers
  pub begins : BeginsFit
  pub first : BeginsLead
  pub changes : ChangesLead
  pub commit : CommitKeepsSlots
  pub host : HostKeepsSlots

module _ (laws : PointerLaws) (l : Layout) (laid : IsLaidOut l) (i : Inputs) (t : Trace) (ss : Part → Stored) (order : IsInOrder l.build t) (holds : HoldPackets l t.state ss) (have : HavePointers l t.state) where
  abbrev s : State
  s = t.state

  abbrev b : Build
  b = l.build

  abbrev rest : List (Option Packet)
  rest = flushed b 0 s.places

  abbrev after : State
  after = clock b (input_of i) s

  are_laid : AreLaid b.program b.plan.row
  are_laid = record { formed = laid.planned.formed; below = λ c j lt e. (laid.staged.reads c j lt e).below }

  -- packets stay, where tables keep their slots
  pointers_kept : (to : ℕ) (e : Change) (u : TableState) → HaveSameSlots s.tables u → after.tables ≡ u → after.places ≡ marked_below to b s.tables e 0 rest → HavePointers l after
  pointers_kept to e u slots tables same k y q at =
      let w = marked_by_was to b s.tables e 0 rest k y (ap (λ ps. place_at ps k) (sym same) ∙ at) in
      subst (λ (z : TableState). HasPointers b z (suc k) y.held) (sym tables)
      (subst (HasPointers b u (suc k)) (sym w.held) (pointers_stay laws.changes b (suc k) s.tables u w.packet.held slots (have k w.packet q (flushed_at b 0 s.places k w.packet w.was))))

  -- packets move on
  abbrev new : Option Packet
  new = newcomer b (some_send b 0 s.places) s.frames rest

  pointers_enter : (k : ℕ) (a : Arrival) (x y : Packet) → y ≡ entered b s.tables k a x → length x.held.values ≡ length b.program.cells → HasPointers b s.tables k x.held → HasPointers b s.tables (suc k) y.held
  pointers_enter k a x y is values had =
      subst (HasPointers b s.tables (suc k)) (sym (ap (λ (z : Packet). z.held) is ∙ entered_held b s.tables k a x)) (row_pointers laws.rows b laid.planned are_laid k s.tables (packet_of a) x.held values had)

  pointers_entered : (k : ℕ) (a : Arrival) (y : Packet) → k ≤ last_of l → HasEntered b s.tables k a (place_at (new ∷ rest) k) y → HasPointers b s.tables (suc k) y.held
  pointers_entered zero a y q en =
      let nothing_yet = injected_is b (not (some_send b 0 s.places) && nat_lt (inside rest) (length s.frames)) en.packet en.was in
      pointers_enter 0 a en.packet y en.is (ap (λ (h : StageValues). length h.values) nothing_yet ∙ (laws.begins b.program l.decls b.plan.row l.flags 0).values)
      (subst (HasPointers b s.tables 0) (sym nothing_yet) (record { founds = laws.first b.program s.tables; others = λ c lt low none. absurd (omega (arith, low)) }))
  pointers_entered (suc k) a y q en =
      let here : k ≤ last_of l = omega (arith, q) in
      let stood = flushed_at b 0 s.places k en.packet en.was in
      pointers_enter (suc k) a en.packet y en.is (holds.fits k en.packet here stood).values (have k en.packet here stood)

  pointers_moved : after.tables ≡ s.tables → after.places ≡ moved b s.tables s.frames 0 new rest → HavePointers l after
  pointers_moved tables same k y q at =
      let long = order.places in
      let kept = flushed_length b 0 s.places in
      subst (λ (z : TableState). HasPointers b z (suc k) y.held) (sym tables)
      (pointers_entered k (get_or s.frames (inside (drop k rest)) no_frame) y q (entered_at b s.tables s.frames new rest k y (omega (arith, long, kept, q)) (ap (λ ps. place_at ps k) (sym same) ∙ at)))

  abbrev worked_by : Action → State
  worked_by action = worked b s (some_send b 0 s.places) rest action

  by_action : (action : Action) → after.tables ≡ (worked_by action).tables → after.places ≡ (worked_by action).places → HavePointers l after
  by_action (Commits j x) tables same = pointers_kept b.plan.commit (change_by b.program s.tables s.taken x.held j) (worked_by (Commits j x)).tables (laws.commit b.program s.tables s.taken x.held j) tables same
  by_action (Writes a n) tables same = pointers_kept (suc b.plan.commit) (host_change s.tables a) (worked_by (Writes a n)).tables (laws.host s.tables a n) tables same
  by_action Moves tables same = pointers_moved tables same

  pub entries_follow : HavePointers l after
  entries_follow = by_action (action_in b (input_of i) s) (clocked_tables b (input_of i) s) (clocked_places b (input_of i) s)

pub entries_begin : (l : Layout) (maps : MapState) → HavePointers l (new_state l.build maps)
entries_begin l maps = λ k y q at. none_some y (sym (none_at (suc (last_of l)) k) ∙ at)
