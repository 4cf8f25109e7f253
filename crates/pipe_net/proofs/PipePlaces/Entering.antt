-- What a packet holds that has entered a place, from what it held before.
use Rattle.std.specs.Prelude.{◌≡◌, ◌≢◌, ℕ, suc, ◌+◌, ◌<◌, ◌≤◌, if◌then◌else◌, Bool, true, false, Some, None, All, List, [], length, slice_index}
use Rattle.std.proofs.Common.{get_or, ◌⊎◌, inl, inr, refl, sym, ap, ◌∙◌, subst, arith}
use Rattle.beat_core.specs.Ports.{Arrival}
use Rattle.hazard_core.specs.xdp_machine.State.{PacketIn}
use Rattle.block_core.specs.net_core.Value.{Env}
use Rattle.block_core.specs.declared.name.Name.{Name}
use Rattle.hazard_core.specs.cell_core.declared.operator.Operator.{Operator}
use Rattle.hazard_core.specs.cell_core.declared.operator.Operator.TheVariants.{Byte, Length, Ifindex, Time}
use Rattle.hazard_core.specs.cell_core.Cells.{cell_at, is_read, is_heavy, bit, value}
use Rattle.hazard_core.specs.cell_core.Formed.{AreInputs}
use Rattle.hazard_core.specs.cell_core.Rows.{greatest}
use Rattle.hazard_core.specs.Tables.{TableState, table_at}
use Rattle.hazard_core.specs.StageValues.{StageValues, stage_value, pointer_in}
use Rattle.hazard_core.specs.Keeping.{AreAlike}
use Rattle.hazard_core.specs.Rows.{with_row, nothing_held}
use Rattle.hazard_core.specs.HeldRows.Fits.{FitsRows, RowsFit}
use Rattle.hazard_core.specs.HeldRows.Made.{AreLaid, IsRowMade, RowIsMade, RowKeeps}
use Rattle.commit_net.specs.frame_net.declared.held.Kept.{Kept}
use Rattle.stage_net.specs.row_net.Table.{Holds}
use Rattle.stage_net.specs.row_net.PlaceNet.Sources.{IsShown, packet_in}
use Rattle.stage_net.specs.row_net.SitePlace.Pointing.{HoldsPointers}
use Rattle.stage_net.specs.SiteTable.Constants.{HoldsConstants}
use Rattle.stage_net.specs.SiteTable.Staged.{AreLists}
use Rattle.stage_net.proofs.SiteTable.TableLaws.{plain_holds, constants_hold, next_table_holds, next_pointers_show}
use Rattle.pipe_core.specs.Machine.{Packet, Build, packet_of, injected, entered}
use Rattle.pipe_net.specs.declared.parts.Part.{Part}
use Rattle.pipe_net.specs.Parts as part
use Rattle.pipe_net.specs.Layout.{Layout, program_of, cells_of, last_of}
use Rattle.pipe_net.specs.Relation.{most_slots}
use Rattle.pipe_net.specs.Standing.{ShowsHeld}
use Rattle.pipe_net.specs.PipePlaces.Layout.{IsLaidOut}
use Rattle.pipe_net.proofs.PipePlaces.Values.{made_value}
use Rattle.pipe_net.proofs.PipePlaces.Places.{same_some, none_some}
use Rattle.pipe_net.proofs.PipePlaces.Standing.{shows_packet, early_rows}

-- ---- a packet that is injected holds nothing
pub injected_is : (b : Build) (c : Bool) (x : Packet) → (if c then Some (injected b.program) else None) ≡ Some x → x.held ≡ nothing_held b.program
injected_is b true x e = sym (ap (λ (z : Packet). z.held) (same_some (injected b.program) x e))
injected_is b false x e = none_some x e

pub entered_held : (b : Build) (t : TableState) (k : ℕ) (a : Arrival) (x : Packet) → (entered b t k a x).held ≡ with_row b.program b.plan.row k t (packet_of a) x.held
unfolding entered
entered_held b t k a x = refl

-- ---- a row is taken in
pub record TakesRow (l : Layout) (k : ℕ) (t : TableState) (packet : PacketIn) (before h : StageValues) : Type 0 where
  pub alike : AreAlike (program_of l) l.build.plan.row k before h
  pub fits : FitsRows (program_of l) l.decls l.build.plan.row l.flags most_slots (suc k) h
  pub made : IsRowMade (program_of l) l.build.plan.row k t packet h

module _ (l : Layout) (laid : IsLaidOut l) (rows : RowsFit) (is_made : RowIsMade) (keeps : RowKeeps) where
  pub are_laid : AreLaid (program_of l) l.build.plan.row
  are_laid = record { formed = laid.planned.formed; below = λ c j lt e. (laid.staged.reads c j lt e).below }

  pub takes_row : (k : ℕ) (t : TableState) (packet : PacketIn) (before h : StageValues) → t.decls ≡ l.decls → ((m : ℕ) → length (table_at t m) ≤ most_slots) → FitsRows (program_of l) l.decls l.build.plan.row l.flags most_slots k before
      → h ≡ with_row (program_of l) l.build.plan.row k t packet before → TakesRow l k t packet before h
  takes_row k t packet before h decls short fits e =
      let p = program_of l in
      let row = l.build.plan.row in
      subst (TakesRow l k t packet before) (sym e)
      (record {
        alike = λ c past. keeps p row k t packet before c (other c past);
        fits = rows p l.decls row l.flags most_slots k t packet before laid.flagged.pointing decls short fits;
        made = is_made p row k t packet before are_laid fits.values fits.pointers;
      })
    where
      other : (c : ℕ) → (l.build.plan.row c < k) ⊎ (length (cells_of l) ≤ c) → (l.build.plan.row c ≢ k) ⊎ (length (cells_of l) ≤ c)
      other c (inl lt) = inl (λ same. omega (arith, lt, same))
      other c (inr past) = inr past

-- ---- what stands before the first place
record IsSourceRow (op : Operator) (ins : List ℕ) : Type 0 where
  none : ins ≡ []
  light : is_heavy op ≡ false
  plain : is_read op ≡ false

source_row : (kept : List Kept) (op : Operator) (ins : List ℕ) → IsShown kept op → AreInputs op ins → IsSourceRow op ins
source_row kept (Byte i) ins s e = record { none = e; light = refl; plain = refl }
source_row kept Length ins s e = record { none = e; light = refl; plain = refl }
source_row kept Ifindex ins s e = record { none = e; light = refl; plain = refl }
source_row kept Time ins s e = record { none = e; light = refl; plain = refl }
source_row kept op ins s e = absurd s

module _ (l : Layout) (laid : IsLaidOut l) (v : Env (Name Part)) where
  pub sources_made : (t : TableState) (a : Arrival) (before h : StageValues) → TakesRow l 0 t (packet_of a) before h → All (λ k. stage_value h k ≡ value (packet_in a) (stage_value h) (cell_at (cells_of l) k)) l.sources
  sources_made t a before h takes n dflt lt =
      let c = get_or l.sources n dflt in
      let s = laid.sources n dflt lt in
      let is = source_row l.kept (cell_at (cells_of l) c).op (cell_at (cells_of l) c).ins s.shown (laid.planned.formed.each c s.within).inputs in
      let first : l.build.plan.row c ≡ 0 = laid.planned.rows.each c s.within ∙ (λ i. greatest l.build.plan.row (is.none i) + bit (is.light i)) in
      made_value (program_of l) l.build.plan.row 0 t (packet_of a) h takes.made c s.within first is.plain

  pub constants_held : (k : ℕ) (h : StageValues) → FitsRows (program_of l) l.decls l.build.plan.row l.flags most_slots (suc k) h → HoldsConstants (program_of l) l.build.plan.row (suc k) h → Holds v l.constants (stage_value h)
  constants_held k h fits constants =
      constants_hold (program_of l) l.decls l.build.plan.row l.flags most_slots (suc k) h laid.early fits (omega arith) constants v l.constants laid.constants

  pub plain_held : (k : ℕ) (h : StageValues) → FitsRows (program_of l) l.decls l.build.plan.row l.flags most_slots (suc k) h → HoldsPointers v (l.pointers 0) (pointer_in h)
  plain_held k h fits = subst (λ t. HoldsPointers v t (pointer_in h)) (sym laid.plain) (plain_holds v l.flags (pointer_in h) fits.plain)

  -- ---- and before each later one
  module _ (k : ℕ) (q : k ≤ last_of l) (before h : StageValues) (shows : ShowsHeld l v k before) (lists : AreLists (program_of l) laid.plan laid.needed laid.parts l.flags) (alike : AreAlike (program_of l) l.build.plan.row (suc k) before h)
      (fits : FitsRows (program_of l) l.decls l.build.plan.row l.flags most_slots (suc (suc k)) h) where
    planned_alike : AreAlike (program_of l) (slice_index laid.plan.rows) (suc k) before h
    planned_alike = subst (λ r. AreAlike (program_of l) r (suc k) before h) laid.row alike

    planned_fits : FitsRows (program_of l) l.decls (slice_index laid.plan.rows) l.flags most_slots (suc (suc k)) h
    planned_fits = subst (λ r. FitsRows (program_of l) l.decls r l.flags most_slots (suc (suc k)) h) laid.row fits

    pub later_holds : HoldsConstants (program_of l) l.build.plan.row (suc (suc k)) h → Holds v (l.table (suc k)) (stage_value h)
    later_holds constants =
        let b = laid.behind k q in
        subst (λ t. Holds v t (stage_value h)) (sym b.table)
        (next_table_holds (part.place l.sizes k) (program_of l) l.decls laid.plan laid.needed laid.parts l.flags l.bits most_slots k b.tables v before b.stand (shows_packet l laid k q v before shows) lists h planned_alike (suc (suc k)) planned_fits
        (early_rows l laid k q v before shows) (omega arith) (subst (λ r. HoldsConstants (program_of l) r (suc (suc k)) h) laid.row constants))

    pub later_pointers : HoldsPointers v (l.pointers (suc k)) (pointer_in h)
    later_pointers =
        let b = laid.behind k q in
        subst (λ t. HoldsPointers v t (pointer_in h)) (sym b.pointers)
        (next_pointers_show (part.place l.sizes k) (program_of l) l.decls laid.plan laid.needed laid.parts l.flags l.bits most_slots k b.tables v before b.stand (shows_packet l laid k q v before shows) lists h planned_alike (suc (suc k)) planned_fits)
