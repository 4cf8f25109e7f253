-- What stands after a place for cells and for their pointers, and for sites.
use Rattle.std.specs.Prelude.{ℕ, suc, ◌<◌, ◌≤◌, ◌++◌, All, List, length, slice_index}
use Rattle.std.proofs.Common.{get_or, sym, subst}
use Rattle.std.proofs.lemmas.List.Elements.{Contains-get_or, Contains-append_left, Contains-append_right}
use Rattle.block_core.specs.net_core.Value.{Env}
use Rattle.block_core.specs.declared.name.Name.{Name}
use Rattle.turn_net.specs.cell_nets.declared.operand.Operand.{Operand}
use Rattle.turn_net.specs.cell_nets.Operands.{IsAvailable}
use Rattle.hazard_core.specs.StageValues.{StageValues, stage_value, pointer_in}
use Rattle.read_net.specs.overlay_net.SiteOperands.Sites.{SiteOperands, ShowsSite}
use Rattle.stage_net.specs.row_net.Table.{AreThere, Holds}
use Rattle.stage_net.specs.row_net.PlaceNet.Place.{registers_from}
use Rattle.stage_net.specs.row_net.SitePlace.SitePlace.{site_words, pointer_registers}
use Rattle.hazard_core.specs.HeldRows.Fits.{FitsRows}
use Rattle.turn_net.proofs.cell_nets_laws.AvailableLaws.{available}
use Rattle.stage_net.specs.SiteTable.Constants.{AreEarly, HoldsConstants}
use Rattle.stage_net.specs.SiteTable.Lists.{held_pointers}
use Rattle.stage_net.specs.SiteTable.Sites.{IsSiteOf}
use Rattle.stage_net.specs.SiteTable.Staged.{AreStaged, StagesArePlaced}
use Rattle.stage_net.specs.SiteTable.Tables.{ShowsWords, ShowsPacket}
use Rattle.stage_net.proofs.SiteTable.TableLaws.{plain_there, table_holds, site_shown}
use Rattle.pipe_net.specs.declared.parts.Part.{Part}
use Rattle.pipe_net.specs.Parts as part
use Rattle.pipe_net.specs.Layout.{Layout, program_of, cells_of, last_of, commit_of}
use Rattle.pipe_net.specs.Relation.{most_slots}
use Rattle.pipe_net.specs.Standing.{held_registers, ShowsHeld, IsAtPlace}
use Rattle.pipe_net.specs.PipePlaces.Layout.{IsLaidOut}

-- ---- operands of a list are there

left_there : {N : Type 0} (xs ys : List (Operand N)) → All (IsAvailable (xs ++ ys)) xs
left_there xs ys = λ i d lt. available (xs ++ ys) (get_or xs i d) (Contains-append_left xs ys (get_or xs i d) (Contains-get_or xs i d lt))

right_there : {N : Type 0} (xs ys : List (Operand N)) → All (IsAvailable (xs ++ ys)) ys
right_there xs ys = λ i d lt. available (xs ++ ys) (get_or ys i d) (Contains-append_right xs ys (get_or ys i d) (Contains-get_or ys i d lt))

module _ (l : Layout) (laid : IsLaidOut l) (k : ℕ) (q : k ≤ last_of l) where
  abbrev place : Part
  place = part.place l.sizes k

  -- ---- the tables after the place are there with its registers
  cells_there : All (IsAvailable (held_registers l k)) (registers_from place (cells_of l) 0 (l.held k))
  cells_there = left_there (registers_from place (cells_of l) 0 (l.held k)) (pointer_registers place l.bits (length (l.held k)) (l.held_pointers k))

  pointers_there : All (IsAvailable (held_registers l k)) (pointer_registers place l.bits (length (l.held k)) (l.held_pointers k))
  pointers_there = right_there (registers_from place (cells_of l) 0 (l.held k)) (pointer_registers place l.bits (length (l.held k)) (l.held_pointers k))

  pub table_there : AreThere (held_registers l k) (l.table (suc k))
  table_there =
      let b = laid.behind k q in
      let a = laid.lists k in
      subst (AreThere (held_registers l k)) (sym b.table)
      (b.stand.behind.table.there (held_registers l k) (b.stand.are_constants.there (held_registers l k))
      (subst (λ ks. All (IsAvailable (held_registers l k)) (registers_from place (cells_of l) 0 ks)) a.held cells_there))

  pub pointer_table_there : AreThere (held_registers l k) (l.pointers (suc k))
  pointer_table_there =
      let b = laid.behind k q in
      let a = laid.lists k in
      let those = held_pointers (program_of l) laid.plan laid.needed laid.parts l.flags k in
      subst (AreThere (held_registers l k)) (sym b.pointers)
      (b.stand.behind.pointers.there (held_registers l k) (plain_there (held_registers l k) l.flags)
      (subst (λ ks. All (IsAvailable (held_registers l k)) (pointer_registers place l.bits (length ks) those)) a.held
      (subst (λ ks. All (IsAvailable (held_registers l k)) (pointer_registers place l.bits (length (l.held k)) ks)) a.held_pointers pointers_there)))

  -- ---- they show a packet
  module _ (v : Env (Name Part)) (h : StageValues) (shows : ShowsHeld l v k h) where
    pub shows_packet : ShowsPacket v place (program_of l) l.decls laid.plan laid.needed laid.parts l.flags l.bits most_slots k h
    shows_packet =
        let a = laid.lists k in
        let those = held_pointers (program_of l) laid.plan laid.needed laid.parts l.flags k in
        record {
          registers =
              subst (λ ks. ShowsWords v place (site_words (cells_of l) l.bits (stage_value h) (pointer_in h) ks those)) a.held
              (subst (λ ks. ShowsWords v place (site_words (cells_of l) l.bits (stage_value h) (pointer_in h) (l.held k) ks)) a.held_pointers shows.registers);
          fits = subst (λ r. FitsRows (program_of l) l.decls r l.flags most_slots (suc k) h) laid.row shows.fits;
          constants = subst (λ r. HoldsConstants (program_of l) r (suc k) h) laid.row shows.constants;
        }

    pub early_rows : AreEarly (program_of l) (slice_index laid.plan.rows)
    early_rows = subst (AreEarly (program_of l)) laid.row laid.early

    pub held_behind : Holds v (l.table (suc k)) (stage_value h)
    held_behind =
        let b = laid.behind k q in
        subst (λ t. Holds v t (stage_value h)) (sym b.table)
        (table_holds place (program_of l) l.decls laid.plan laid.needed laid.parts l.flags l.bits most_slots k b.tables v h b.stand shows_packet early_rows)

    -- and its sites, up to the commit place
    module _ (placed : StagesArePlaced) (early : k ≤ commit_of l) (j : ℕ) (known : j < length (program_of l).sites) (s : SiteOperands (Name Part)) where
      stages : AreStaged (program_of l) laid.plan laid.needed laid.parts l.flags
      stages = placed (program_of l) laid.plan laid.needed laid.parts l.flags laid.planned.formed laid.is_plan laid.are_needed laid.are_parts laid.flagged

      pub site_at_place : IsSiteOf (program_of l) (l.table (suc k)) (l.pointers (suc k)) j s → ShowsSite v (program_of l) h j s
      site_at_place is =
          let b = laid.behind k q in
          site_shown place (program_of l) l.decls laid.plan laid.needed laid.parts l.flags l.bits most_slots k b.tables v h b.stand shows_packet stages laid.are_parts laid.flagged.pointing.count
          (subst (λ c. k ≤ c) laid.commit early) j known early_rows s
          (subst (λ t. IsSiteOf (program_of l) b.tables.table.items t j s) b.pointers (subst (λ t. IsSiteOf (program_of l) t (l.pointers (suc k)) j s) b.table is))

-- ---- the operands of a site at a place
pub at_places : StagesArePlaced → (l : Layout) → IsLaidOut l → (k j : ℕ) (s : SiteOperands (Name Part)) → k ≤ commit_of l → k ≤ last_of l → j < length (program_of l).sites → IsSiteOf (program_of l) (l.table (suc k)) (l.pointers (suc k)) j s
    → IsAtPlace l k j s
at_places placed l laid k j s early q known is =
    let b = laid.behind k q in
    let those = subst (λ t. IsSiteOf (program_of l) b.tables.table.items t j s) b.pointers (subst (λ t. IsSiteOf (program_of l) t (l.pointers (suc k)) j s) b.table is) in
    record {
      operands = those.operands l.bits b.stand.behind.table.table b.stand.behind.pointers.pointers;
      there = is.there (held_registers l k) (table_there l laid k q) (pointer_table_there l laid k q);
      shown = λ v h shows. site_at_place l laid k q v h shows placed early j known s is;
    }
