-- Parts of one sort, one after the other.
use Rattle.std.proofs.Common.{◌≡◌, ℕ, ◌+◌, ◌<◌, ◌≤◌, ◌⊎◌, ◌≢◌, inl, inr, List, length, sym, subst, arith, get_or-set_other, get_or-set_same}
use Rattle.std.specs.Prelude.{slice_index}
use Rattle.std.proofs.Math.ListN.{set}
use Rattle.std.proofs.lemmas.Bool.{cases_lt}
use Rattle.xdp_machine.specs.xdp_maps.declared.decl.MapDecl.{MapDecl}
use Rattle.kind_core.specs.declared.kind.Kinds.{Kinds}
use Rattle.cell_core.specs.Cells.{CellView}
use Rattle.operator_cells.specs.declared.held_cells.machine_cells.RegisterCells.{RegisterCells}
use Rattle.operator_cells.specs.declared.held_cells.way.Way.{Way}
use Rattle.operator_cells.specs.HeldCells.RegisterCells.{PointerView}
use Rattle.edge_cells.specs.declared.part.Part.{Part}
use Rattle.edge_cells.specs.declared.part.Part.TheVariants.{Register, Slot, Byte, Target}
use Rattle.edge_cells.specs.Meeting.{kind_at, Meets, MeetsMore, MeetRow}
use Rattle.operator_cells.proofs.MakingLaws.{grown}
use Rattle.edge_cells.proofs.ExtendingLaws.{extended, meets_later}
use Rattle.edge_cells.proofs.Assembled.{AreMet}

pub row_more : (decls : List MapDecl) (old mid new : List CellView) (ps qs rs : List PointerView) (here : List Way) (k : Kinds) (part : ℕ → Part) (n c : ℕ) (held : List ℕ) → n < length held
    → MeetRow decls old mid ps qs here k part n held → MeetsMore decls mid new qs rs here (part n) (kind_at (part n) k) c → MeetRow decls old new ps rs here k part (n + 1) (set held n c)
row_more decls old mid new ps qs rs here k part n c held range row one = record {
  grows = grown row.grows one.grows;
  extends = extended row.extends one.extends;
  each = λ i l. by i (cases_lt i n) l;
}
  where
    by : (i : ℕ) → (i < n) ⊎ (n ≤ i) → i < n + 1 → Meets decls new rs here (part i) (kind_at (part i) k) (slice_index (set held n c) i)
    by i (inl l) h = let ne : i ≢ n = omega arith in
        subst (λ (x : ℕ). Meets decls new rs here (part i) (kind_at (part i) k) x) (sym (get_or-set_other held n i c 0 ne)) (meets_later one.grows one.extends (row.each i l))
    by i (inr l) h = let same : n ≡ i = omega (arith, l, h) in
        subst (λ (j : ℕ). Meets decls new rs here (part j) (kind_at (part j) k) (slice_index (set held n c) j)) same
        (subst (λ (x : ℕ). Meets decls new rs here (part n) (kind_at (part n) k) x) (sym (get_or-set_same held n c 0 range)) one.meets)

-- all parts
pub rows_met : (decls : List MapDecl) (a b c d e : List CellView) (p q r s t : List PointerView) (here : List Way) (k : Kinds) (h : RegisterCells) → MeetRow decls a b p q here k Register 11 h.registers
    → MeetRow decls b c q r here k Slot 64 h.slots → MeetRow decls c d r s here k Byte 256 h.window → MeetsMore decls d e s t here Target (kind_at Target k) h.target
    → AreMet decls e t here k h
rows_met decls a b c d e p q r s t here k h registers slots window target (Register i) l =
    meets_later (grown slots.grows (grown window.grows target.grows)) (extended slots.extends (extended window.extends target.extends)) (registers.each i (omega (arith, l)))
rows_met decls a b c d e p q r s t here k h registers slots window target (Slot i) l = meets_later (grown window.grows target.grows) (extended window.extends target.extends) (slots.each i l)
rows_met decls a b c d e p q r s t here k h registers slots window target (Byte i) l = meets_later target.grows target.extends (window.each i l)
rows_met decls a b c d e p q r s t here k h registers slots window target Target l = target.meets
