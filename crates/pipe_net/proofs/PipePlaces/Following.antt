-- A clock of the places.
use Rattle.std.specs.Prelude.{◌≡◌, ℕ, zero, suc, ◌+◌, ◌^◌, ◌<◌, ◌≤◌, nat_lt, not, ◌&&◌, true, false, Option, Some, All, List, ◌∷◌, length, drop}
use Rattle.std.proofs.Common.{get_or, refl, sym, ap, ◌∙◌, subst, arith}
use Rattle.std.proofs.lemmas.List.{nil_from_length}
use Rattle.beat_core.specs.Ports.{Arrival}
use Rattle.hazard_core.specs.xdp_maps.State.{MapState}
use Rattle.block_core.specs.net_core.declared.ports.Inputs.{Inputs}
use Rattle.block_core.specs.net_core.Ports.{words_of}
use Rattle.block_core.specs.net_core.Value.{nothing, bit, Env}
use Rattle.block_core.specs.net_core.Clock.{Stored, done}
use Rattle.block_core.specs.declared.name.Name.{Name}
use Rattle.block_core.specs.Blocks.{Whole, Among, first_of}
use Rattle.block_core.specs.Parts.{Sees}
use Rattle.hazard_core.specs.StageValues.{stage_value, pointer_in}
use Rattle.hazard_core.specs.declared.change.Change.{Change}
use Rattle.hazard_core.specs.Commits.{change_by, host_change}
use Rattle.hazard_core.specs.HeldRows.Fits.{FitsRows, BeginsFit, RowsFit}
use Rattle.hazard_core.specs.HeldRows.Made.{RowIsMade, RowKeeps}
use Rattle.stage_net.specs.row_net.Table.{Holds}
use Rattle.stage_net.specs.row_net.SitePlace.Inputs.{HasWidths}
use Rattle.stage_net.specs.row_net.SitePlace.Pointing.{HoldsPointers}
use Rattle.stage_net.specs.row_net.SitePlace.SitePlace.{site_widths, site_words}
use Rattle.stage_net.specs.SiteTable.Constants.{HoldsConstants}
use Rattle.stage_net.specs.SiteTable.Staged.{StagesArePlaced, ListsAreFormed, AreLists, IsMadeAt}
use Rattle.stage_net.specs.Rows.{ShowsRow}
use Rattle.pipe_core.specs.Machine.{Packet, State, Input, Build, Action, Commits, Writes, Moves, place_at, inside, no_frame, packet_of, some_send, flushed, marked_below, newcomer, entered, moved, worked, new_state, clock}
use Rattle.pipe_core.specs.History.{Trace, next, IsInOrder}
use Rattle.pipe_core.specs.Computed.{Computes, PlacesCompute, IsComputed, KeepsComputed}
use Rattle.pipe_core.proofs.FlushLaws.{flushed_length, flushed_at}
use Rattle.pipe_net.specs.declared.parts.Part.{Part}
use Rattle.pipe_net.specs.Parts as part
use Rattle.pipe_net.specs.Parts.{parts_of}
use Rattle.pipe_net.specs.Machine.{input_of}
use Rattle.pipe_net.specs.Layout.{Layout, IsSized, program_of, cells_of, last_of}
use Rattle.pipe_net.specs.Relation.{IsStored, most_slots, HoldPackets, HoldMaps}
use Rattle.pipe_net.specs.Saying.{moves, action_in, moves_in}
use Rattle.pipe_net.specs.PipePlaces.Parts.{advances, IsPlaceOf, AreStageParts, PlacesAreFit}
use Rattle.pipe_net.specs.PipePlaces.Following.{AreServed, ShowsNewcomer}
use Rattle.pipe_net.proofs.PipePlaces.Places.{none_some, none_at, computes_at, WasHeld, marked_by_was, HasEntered, entered_at, clocked_places}
use Rattle.pipe_net.proofs.PipePlaces.Showing.{computed_constants, place_among, packets_shown, register_count, register_fits}
use Rattle.pipe_net.proofs.PipePlaces.Values.{CellLaws, made_values}
use Rattle.pipe_net.proofs.PipePlaces.Reading.{past_first, by_commit, shows_reads}
use Rattle.pipe_net.proofs.PipePlaces.Entering.{injected_is, entered_held, TakesRow, takes_row, sources_made, constants_held, plain_held, later_holds, later_pointers}

-- the laws of the crates below
pub record RowLaws : Type 0 where
  pub cells : CellLaws
  pub begins : BeginsFit
  pub rows : RowsFit
  pub made : RowIsMade
  pub keeps : RowKeeps
  pub placed : StagesArePlaced
  pub lists : ListsAreFormed
  pub computed : KeepsComputed

next_places : (b : Build) (i : Input) (t : Trace) → IsComputed b (next b i t) → PlacesCompute b (clock b i t.state).frames 0 (clock b i t.state).places
unfolding next
next_places b i t c = c.places

module _ (laws : RowLaws) (l : Layout) (d : Whole Part) (sized : IsSized l) (whole : AreStageParts l d) (parts : d.parts ≡ parts_of l.sizes) (i : Inputs) (t : Trace) (ss : Part → Stored) (v : Env (Name Part)) (order : IsInOrder l.build t) (computed : IsComputed l.build t)
    (holds : HoldPackets l t.state ss) (maps : HoldMaps l t.state ss) (sees : Sees d (words_of i) ss v) (stored : (p : Part) → Among p d.parts → IsStored (d.block p) (ss p)) where
  abbrev s : State
  s = t.state

  abbrev b : Build
  b = l.build

  abbrev rest : List (Option Packet)
  rest = flushed b 0 s.places

  abbrev after : State
  after = clock b (input_of i) s

  abbrev new_stored : Part → Stored
  new_stored p = done v (d.block p).statement (ss p)

  abbrev HoldNext : Type 0
  HoldNext = HoldPackets l after new_stored

  -- ---- packets stay
  module _ (still : v.net (advances l) ≡ bit false) (to : ℕ) (e : Change) (same : after.places ≡ marked_below to b s.tables e 0 rest) where
    was_held : (k : ℕ) (y : Packet) → place_at after.places k ≡ Some y → WasHeld s.places k y
    was_held k y at =
        let w = marked_by_was to b s.tables e 0 rest k y (ap (λ ps. place_at ps k) (sym same) ∙ at) in
        record { packet = w.packet; was = flushed_at b 0 s.places k w.packet w.was; held = w.held }

    pub packets_stay : HoldNext
    packets_stay = record {
      each = λ k q y at.
          let w = was_held k y at in
          ap (λ (x : Stored). x.registers) ((whole.places k q).block.stays v (ss (part.place l.sizes k)) still) ∙ holds.each k q w.packet w.was
          ∙ ap (λ h. site_words (cells_of l) l.bits (stage_value h) (pointer_in h) (l.held k) (l.held_pointers k)) (sym w.held);
      fits = λ k y q at. let w = was_held k y at in subst (FitsRows (program_of l) l.decls b.plan.row l.flags most_slots (suc k)) (sym w.held) (holds.fits k w.packet q w.was);
    }

  -- ---- packets move on
  module _ (fit : PlacesAreFit l d whole v) (served : AreServed l s) (goes : v.net (advances l) ≡ bit true) (shown : ShowsNewcomer l s v) where
    abbrev new : Option Packet
    new = newcomer b (some_send b 0 s.places) s.frames rest

    lists : AreLists (program_of l) whole.laid.plan whole.laid.needed whole.laid.parts l.flags
    lists = laws.lists (program_of l) whole.laid.plan whole.laid.needed whole.laid.parts l.flags

    computes_then : (k : ℕ) (y : Packet) → place_at after.places k ≡ Some y → Computes b (packet_of (get_or after.frames (inside (drop (suc k) after.places)) no_frame)) (suc k) y.held
    computes_then k y at =
        let z : 0 + k ≡ k = omega arith in
        let own = packet_of (get_or after.frames (inside (drop (suc k) after.places)) no_frame) in
        subst (λ n. Computes b own (suc n) y.held) z (computes_at b after.frames 0 after.places (next_places b (input_of i) t (laws.computed b whole.laid.planned (input_of i) t order computed)) k y at)

    module _ (k : ℕ) (q : k ≤ last_of l) (y : Packet) (at : place_at after.places k ≡ Some y) (a : Arrival) (x : Packet) (is : y ≡ entered b s.tables k a x) (before : FitsRows (program_of l) l.decls b.plan.row l.flags most_slots k x.held) where
      pub takes : TakesRow l k s.tables (packet_of a) x.held y.held
      takes =
          takes_row l whole.laid laws.rows laws.made laws.keeps k s.tables (packet_of a) x.held y.held maps.decls served.short before (ap (λ (z : Packet). z.held) is ∙ entered_held b s.tables k a x)

      pub constants : HoldsConstants (program_of l) b.plan.row (suc k) y.held
      constants = computed_constants b (packet_of (get_or after.frames (inside (drop (suc k) after.places)) no_frame)) (suc k) y.held (computes_then k y at)

      abbrev place : Part
      place = part.place l.sizes k

      abbrev block : IsPlaceOf l d whole.words k
      block = whole.places k q

      has_widths : HasWidths (site_widths (cells_of l) block.nets.bits (l.held k) (l.held_pointers k)) (ss place)
      has_widths =
          let st = stored place (place_among l d sized parts i ss v sees k q) in
          subst (λ n. HasWidths (site_widths (cells_of l) n (l.held k) (l.held_pointers k)) (ss place)) (sym block.bits)
          (record {
            count = register_count l d sized parts i ss v sees whole stored k q;
            each = λ n lt.
                let f = register_fits l d sized parts i ss v sees whole stored k q n lt in
                record { width = f.width; small = subst (λ w. (get_or (ss place).registers n nothing).value < 2 ^ w) f.width f.fits.small };
            memories = nil_from_length (ss place).memories (st.memories ∙ ap length block.block.memories);
          })

      -- the registers take what the packet holds, where what stands before the place does
      pub registers_take : ShowsRow v (program_of l) b.plan.row k block.nets s.tables x.held y.held → Holds v (l.table k) (stage_value y.held) → HoldsPointers v (l.pointers k) (pointer_in y.held)
          → (new_stored place).registers ≡ site_words (cells_of l) l.bits (stage_value y.held) (pointer_in y.held) (l.held k) (l.held_pointers k)
      registers_take row cells pointers =
          let own = packet_of (get_or after.frames (inside (drop (suc k) after.places)) no_frame) in
          let made = subst (λ ks. All (IsMadeAt (program_of l) whole.laid.plan k) ks) (sym (whole.laid.lists k).made) (lists.made k) in
          block.block.next v (ss place) s.tables (packet_of a) x.held y.held goes has_widths (fit.places k q) (sees.wires place (place_among l d sized parts i ss v sees k q)) row takes.made
          (made_values laws.cells b whole.laid.planned k s.tables (packet_of a) own y.held takes.made (computes_then k y at) takes.fits.widths whole.laid.plan (l.made k) whole.laid.row made) cells pointers
          ∙ ap (λ n. site_words (cells_of l) n (stage_value y.held) (pointer_in y.held) (l.held k) (l.held_pointers k)) block.bits

    -- what place k holds then
    record HoldsNext (k : ℕ) (y : Packet) : Type 0 where
      registers : (new_stored (part.place l.sizes k)).registers ≡ site_words (cells_of l) l.bits (stage_value y.held) (pointer_in y.held) (l.held k) (l.held_pointers k)
      fits : FitsRows (program_of l) l.decls b.plan.row l.flags most_slots (suc k) y.held

    -- the first place takes a newcomer
    first_holds : (q : 0 ≤ last_of l) (y : Packet) → place_at after.places 0 ≡ Some y → HasEntered b s.tables 0 (get_or s.frames (inside rest) no_frame) new y → HoldsNext 0 y
    first_holds q y at en =
        let a = get_or s.frames (inside rest) no_frame in
        let x = en.packet in
        let nothing_yet = injected_is b (not (some_send b 0 s.places) && nat_lt (inside rest) (length s.frames)) x en.was in
        let before = subst (FitsRows (program_of l) l.decls b.plan.row l.flags most_slots 0) (sym nothing_yet) (laws.begins (program_of l) l.decls b.plan.row l.flags most_slots) in
        let taken = takes 0 q y at a x en.is before in
        let place = part.place l.sizes 0 in
        record {
          registers =
              registers_take 0 q y at a x en.is before
              (record { alike = taken.alike; reads = λ c j lt here e. let late = past_first l whole.laid c j lt e in absurd (omega (arith, late, here)) })
              (whole.enters v a (stage_value y.held) fit.sources (sees.wires place (place_among l d sized parts i ss v sees 0 q)) (shown x en.was) (sources_made l whole.laid v s.tables a x.held y.held taken)
              (constants_held l whole.laid v 0 y.held taken.fits (constants 0 q y at a x en.is before)))
              (plain_held l whole.laid v 0 y.held taken.fits);
          fits = taken.fits;
        }

    -- each later one what stood in the place before
    later_place_holds : (k : ℕ) (q : suc k ≤ last_of l) (y : Packet) → place_at after.places (suc k) ≡ Some y → HasEntered b s.tables (suc k) (get_or s.frames (inside (drop (suc k) rest)) no_frame) (place_at rest k) y → HoldsNext (suc k) y
    later_place_holds k q y at en =
        let a = get_or s.frames (inside (drop (suc k) rest)) no_frame in
        let x = en.packet in
        let here : k ≤ last_of l = omega (arith, q) in
        let stood = flushed_at b 0 s.places k x en.was in
        let shows = packets_shown l d sized parts i ss v sees t computed holds k x here stood in
        let taken = takes (suc k) q y at a x en.is shows.fits in
        record {
          registers =
              registers_take (suc k) q y at a x en.is shows.fits
              (record {
                alike = taken.alike;
                reads = λ c j lt row e.
                    let low = by_commit l whole.laid c j lt e in
                    shows_reads l d sized parts i ss v sees whole.laid s.tables maps.decls maps.tables whole fit laws.placed k q (omega (arith, low, row)) x.held shows (served.each k x here stood) c j lt row e;
              })
              (later_holds l whole.laid v k here x.held y.held shows lists taken.alike taken.fits (constants (suc k) q y at a x en.is shows.fits))
              (later_pointers l whole.laid v k here x.held y.held shows lists taken.alike taken.fits);
          fits = taken.fits;
        }

    module _ (same : after.places ≡ moved b s.tables s.frames 0 new rest) where
      entering : (k : ℕ) → k ≤ last_of l → (y : Packet) → place_at after.places k ≡ Some y → HasEntered b s.tables k (get_or s.frames (inside (drop k rest)) no_frame) (place_at (new ∷ rest) k) y
      entering k q y at =
          let long = order.places in
          let kept = flushed_length b 0 s.places in
          entered_at b s.tables s.frames new rest k y (omega (arith, long, kept, q)) (ap (λ ps. place_at ps k) (sym same) ∙ at)

      holds_next : (k : ℕ) → k ≤ last_of l → (y : Packet) → place_at after.places k ≡ Some y → HoldsNext k y
      holds_next zero q y at = first_holds q y at (entering 0 q y at)
      holds_next (suc k) q y at = later_place_holds k q y at (entering (suc k) q y at)

      pub packets_move : HoldNext
      packets_move = record { each = λ k q y at. (holds_next k q y at).registers; fits = λ k y q at. (holds_next k q y at).fits }

  -- ---- the whole clock
  module _ (fit : PlacesAreFit l d whole v) (served : AreServed l s) (says : v.net (advances l) ≡ bit (moves_in b (input_of i) s)) (shown : ShowsNewcomer l s v) where
    by_action : (action : Action) → action_in b (input_of i) s ≡ action → HoldNext
    by_action (Commits j x) e =
        packets_stay (says ∙ ap (λ u. bit (moves u)) e) b.plan.commit (change_by b.program s.tables s.taken x.held j) (clocked_places b (input_of i) s ∙ ap (λ u. (worked b s (some_send b 0 s.places) rest u).places) e)
    by_action (Writes a n) e =
        packets_stay (says ∙ ap (λ u. bit (moves u)) e) (suc b.plan.commit) (host_change s.tables a) (clocked_places b (input_of i) s ∙ ap (λ u. (worked b s (some_send b 0 s.places) rest u).places) e)
    by_action Moves e = packets_move fit served (says ∙ ap (λ u. bit (moves u)) e) shown (clocked_places b (input_of i) s ∙ ap (λ u. (worked b s (some_send b 0 s.places) rest u).places) e)

    pub packets_follow : HoldNext
    packets_follow = by_action (action_in b (input_of i) s) refl

-- before the first clock no place holds a packet
pub packets_begin : (l : Layout) (d : Whole Part) (maps : MapState) → HoldPackets l (new_state l.build maps) (λ p. first_of (d.block p))
packets_begin l d maps = record {
  each = λ k q y at. none_some y (sym (none_at (suc (last_of l)) k) ∙ at);
  fits = λ k y q at. none_some y (sym (none_at (suc (last_of l)) k) ∙ at);
}
