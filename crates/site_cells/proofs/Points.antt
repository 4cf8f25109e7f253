-- Which pointers are held after an operation on a map.
use Rattle.std.proofs.Common.{◌≡◌, ◌≢◌, ◌∙◌, ℕ, ◌-◌, ◌<◌, ◌≤◌, ◌⊎◌, inl, inr, ◌==◌, if◌then◌else◌, Bool, true, false, Some, None, List, [], ◌∷◌, ◌++◌, length, take, drop, slice_index, refl, sym, ap, subst, arith}
use Rattle.std.proofs.lemmas.Bool.{cases_lt, cases_eq, eqb-false}
use Rattle.cell_core.specs.bpf_isa.declared.operation.Op.{Op}
use Rattle.cell_core.specs.bpf_isa.declared.operation.Op.TheVariants.{Call}
use Rattle.cell_core.specs.bpf_isa.declared.instruction.Insn.{Insn}
use Rattle.cell_core.specs.xdp_maps.declared.decl.MapDecl.{MapDecl}
use Rattle.kind_core.proofs.xdp_machine_laws.ChangeLaws.{some_inj}
use Rattle.kind_core.specs.declared.number.Number.TheVariants.{Between}
use Rattle.kind_core.specs.NumberBounds.{any_number}
use Rattle.kind_core.specs.declared.kind.Kind.{Kind}
use Rattle.kind_core.specs.declared.kind.Kind.TheVariants.{Unset, Num, MapRef, Maybe, Entry, Stale}
use Rattle.kind_core.specs.declared.kind.Kinds.{Kinds}
use Rattle.kind_core.specs.Kinds.{register, with_register, answering}
use Rattle.kind_core.specs.Calls as calls
use Rattle.kind_core.specs.Edges.{changed}
use Rattle.cell_core.specs.declared.site.Act.{Act}
use Rattle.cell_core.specs.declared.site.Act.TheVariants as act
use Rattle.cell_core.specs.declared.operator.Operator.TheVariants.{Found}
use Rattle.cell_core.specs.Acts.{pointer_operand}
use Rattle.cell_core.specs.Cells.{CellView, cell_at, site_in}
use Rattle.cell_core.specs.Sites.{SiteView}
use Rattle.operator_cells.specs.Making.{Grows}
use Rattle.operator_cells.specs.declared.held_cells.machine_cells.RegisterCells.{RegisterCells}
use Rattle.operator_cells.specs.HeldCells.RegisterCells.{PointerView, pointer_at}
use Rattle.operator_cells.specs.HeldCells.Rows.{kind_at, number_at, map_used, kind_by}
use Rattle.operator_cells.specs.HeldCells.Pointing.{Pointing, pointing_as, HoldsPointer, KeepPointers, changes_keys, IsThrough, ChangePoints, AccessPoints, PointsAs, OperationPoints, pointing_by}
use Rattle.operator_cells.specs.HeldCells.Reading.{OperationReads}
use Rattle.operator_cells.proofs.HeldCells.RowLaws.{put_register, number_kept}
use Rattle.operator_cells.specs.row_rules.PlaceRows.Spans.{map_of}
use Rattle.operator_cells.specs.row_rules.declared.place_rows.location.Location.{Location}
use Rattle.operator_cells.specs.row_rules.declared.place_rows.location.Location.TheVariants as location
use Rattle.operator_cells.specs.row_rules.PlaceRows.Locations.{location_at}
use Rattle.operator_cells.proofs.row_rules_laws.PlaceRows.LocationLaws.{at_number}
use Rattle.site_cells.specs.declared.here.Here.{Here}
use Rattle.site_cells.specs.Siting.{LooksUp, Changes, lookup_site, access_site, change_site}
use Rattle.site_cells.proofs.SiteReads.{change_reads, lookup_reads}
use Rattle.site_cells.proofs.Stale.{stale, stale_all, stale_at, hash_becomes}
use Rattle.site_cells.proofs.Shedding.{IsBare, IsLess, Sheds, answer_kind, shed_kind, number_put, written_sheds, answering_sheds, changed_sheds}

-- ---- one register gets a value
less_points : (a b : Kind) (c : ℕ) (y : Pointing) → IsLess a b → pointing_as b c ≡ Some y → pointing_as a c ≡ Some y
less_points a b c y (inl e) at = ap (λ (x : Kind). pointing_as x c) (sym e) ∙ at
less_points a b c y (inr bare) at = absurd (by b bare at)
  where
    by : (x : Kind) → IsBare x → pointing_as x c ≡ Some y → ⊥
    by Unset t e = absurd (cc)
    by Stale t e = absurd (cc)
    by x t e = absurd t

-- a pointer that is held after it is that of the value, or was held before
shed_points : (k after : Kinds) (h : RegisterCells) (r c : ℕ) (x : Kind) (y : Pointing) → Sheds k after r x → r ≤ 10 → length h.registers ≡ 11 → HoldsPointer after (put_register h r c) y → (pointing_as x c ≡ Some y) ⊎ HoldsPointer k h y
shed_points k after h r c x y sheds small whole held = by (cases_eq held.0 r)
  where
    by : (held.0 ≡ r) ⊎ (held.0 ≢ r) → (pointing_as x c ≡ Some y) ⊎ HoldsPointer k h y
    by (inl is) = inl
        (ap (pointing_as x) (sym (number_put h r c small whole))
        ∙ ap (λ (a : Kind). pointing_as a (number_at (put_register h r c) r)) (sym (answer_kind k after r x sheds small))
        ∙ ap (λ (p : ℕ). pointing_as (kind_at after p) (number_at (put_register h r c) p)) (sym is)
        ∙ held.1)
    by (inr other) = inr (
      held.0,
      less_points (kind_at k held.0) (kind_at after held.0) (number_at h held.0) y (shed_kind k after r x sheds held.0 other)
          (ap (pointing_as (kind_at after held.0)) (sym (number_kept h r c held.0 other)) ∙ held.1),
    )

-- a number is no pointer
keep_points : {lo hi : ℕ} (k after : Kinds) (h : RegisterCells) (r c : ℕ) → Sheds k after r (Num (Between lo hi)) → r ≤ 10 → length h.registers ≡ 11 → KeepPointers k h after (put_register h r c)
keep_points {lo} {hi} k after h r c sheds small whole y held = by (shed_points k after h r c (Num (Between lo hi)) y sheds small whole held)
  where
    by : (None ≡ Some y) ⊎ HoldsPointer k h y → HoldsPointer k h y
    by (inl e) = absurd (cc)
    by (inr before) = before

-- the map of a call is that of R1
pub call_used : (k : Kinds) (i : Insn) (q : ℕ) → i.op ≡ Call → register k 1 ≡ MapRef q → map_used k i i.op ≡ Some q
call_used k i q op base = ap (λ (o : Op). map_used k i o) op ∙ ap map_of base

-- and of an access that of a register
pub entry_used : (k : Kinds) (i : Insn) (o : Op) (r q n : ℕ) → i.op ≡ o → map_used k i o ≡ map_of (register k r) → register k r ≡ Entry q n → map_used k i i.op ≡ Some q
entry_used k i o r q n op at base = ap (λ (x : Op). map_used k i x) op ∙ at ∙ ap map_of base

-- ---- accesses
pub read_keeps : (lo hi : ℕ) (k after : Kinds) (h : RegisterCells) (r c : ℕ) → after ≡ with_register k r (Num (Between lo hi)) → r ≤ 10 → length k.registers ≡ 11 → length h.registers ≡ 11 → KeepPointers k h after (put_register h r c)
read_keeps lo hi k after h r c becomes small ks hs = subst (λ (x : Kinds). KeepPointers k h x (put_register h r c)) (sym becomes) (keep_points k (with_register k r (Num (Between lo hi))) h r c (written_sheds k r (Num (Between lo hi)) small ks) small hs)

pub nothing_keeps : (k after : Kinds) (h : RegisterCells) → after ≡ k → KeepPointers k h after h
nothing_keeps k after h becomes = subst (λ (x : Kinds). KeepPointers k h x h) (sym becomes) (λ y held. held)

-- one through the pointer to an entry in a register
pub access_points : (decls : List MapDecl) (i : Insn) (here : Here) (k after : Kinds) (h next : RegisterCells) (old new : List CellView) (ps : List PointerView) (sites sites2 : List SiteView) (q o r : ℕ) (a : Act) (p : PointerView) (operands : List ℕ)
    → r ≤ 10 → register k r ≡ Entry q o → p ≡ pointer_at ps (slice_index h.registers r) → IsThrough a (operands ++ p.found ∷ []) p.found → KeepPointers k h after next → sites2 ≡ sites ++ access_site here q a p operands ∷ []
    → OperationReads decls (map_used k i i.op) here.pending old new (length sites) (access_site here q a p operands) → OperationPoints decls i here.pending k h after next old new ps ps sites sites2
access_points decls i here k after h next old new ps sites sites2 q o r a p operands small base p_is through kept sites_are reads = record {
  site = access_site here q a p operands;
  sites_are = sites_are;
  reads = reads;
  points = by a through (record {
    pointers_are = refl;
    kept = kept;
    through = record {
      pointer = slice_index h.registers r;
      holds = (r, ap (pointing_by k h) (at_number (location.Register r) low) ∙ ap (λ (x : Kind). pointing_as x (slice_index h.registers r)) base);
      key = ap (λ (x : PointerView). x.key) p_is;
      through = subst (λ (c : ℕ). IsThrough a (operands ++ p.found ∷ []) c) (ap (λ (x : PointerView). x.found) p_is) through;
    };
  });
}
  where
    low : r < 11
    low = omega (arith, small)

    by : (b : Act) → IsThrough b (operands ++ p.found ∷ []) p.found → AccessPoints k h after next ps ps (access_site here q a p operands) → PointsAs b decls k h after next old new ps ps (length sites) (access_site here q a p operands)
    by (act.Load at size) t points = points
    by (act.Store at size) t points = points
    by (act.Atomic at x) t points = points
    by b t points = absurd t

-- ---- changes
stale_kind : (q : ℕ) (k : Kinds) (place : ℕ) → kind_at (stale_all q k) place ≡ stale q (kind_at k place)
stale_kind q k place = by (location_at place)
  where
    by : (l : Location) → kind_by (stale_all q k) l ≡ stale q (kind_by k l)
    by (location.Register r) = stale_at q k.registers r
    by (location.StackSlot s) = stale_at q k.slots s
    by (location.PacketByte i) = refl
    by location.Target = refl
    by (location.PendingWrites p) = refl

other_map : (q : ℕ) (a : Kind) (c : ℕ) (y : Pointing) → pointing_as (stale q a) c ≡ Some y → y.map ≢ q
other_map q (Maybe p n) c y = by (p == q) refl
  where
    by : (t : Bool) → (p == q) ≡ t → pointing_as (if t then Stale else Maybe p n) c ≡ Some y → y.map ≢ q
    by true e at = absurd (cc)
    by false e at = λ is. eqb-false p q e (ap (λ (z : Pointing). z.map) (some_inj _ y at) ∙ is)
other_map q (Entry p o) c y = by (p == q) refl
  where
    by : (t : Bool) → (p == q) ≡ t → pointing_as (if t then Stale else Entry p o) c ≡ Some y → y.map ≢ q
    by true e at = absurd (cc)
    by false e at = λ is. eqb-false p q e (ap (λ (z : Pointing). z.map) (some_inj _ y at) ∙ is)
other_map q a c y = λ at. absurd (cc)

pub change_points : (decls : List MapDecl) (i : Insn) (here : Here) (is_ref : Bool) (k after : Kinds) (h : RegisterCells) (old mid new : List CellView) (ps : List PointerView) (sites sites2 : List SiteView) (q map c : ℕ) (a : Act) (key looked operands : List ℕ)
    → changes_keys a ≡ true → after ≡ changed here.node is_ref false k (calls.change_of decls q) → map ≡ q → length h.registers ≡ 11 → map_used k i i.op ≡ Some q → Grows old mid → Changes mid new sites sites2 here map a key looked operands c
    → looked ≡ take 1 (drop (pointer_operand a) operands) → OperationPoints decls i here.pending k h after (put_register h 0 c) old new ps ps sites sites2
change_points decls i here is_ref k after h old mid new ps sites sites2 q map c a key looked operands changes becomes map_is whole used grows change looked_is = record {
  site = change_site here q a key operands;
  sites_are = change.sites_are ∙ ap (λ (n : ℕ). sites ++ change_site here n a key operands ∷ []) map_is;
  reads = change_reads decls (map_used k i i.op) here old mid new sites sites2 q a key looked operands c grows (subst (λ (n : ℕ). Changes mid new sites sites2 here n a key looked operands c) map_is change) used changes looked_is;
  points = by a changes (record {
    pointers_are = refl;
    kept = keep_points k after h 0 c (subst (λ (x : Kinds). Sheds k x 0 (Num (any_number 64))) (sym becomes) (changed_sheds decls q here.node is_ref false k)) (omega arith) whole;
    none = λ hash y held. other_map q (kind_at (answering (Num (any_number 64)) k) held.0) (number_at (put_register h 0 c) held.0) y
        (ap (λ (x : Kind). pointing_as x (number_at (put_register h 0 c) held.0))
        (sym (ap (λ (x : Kinds). kind_at x held.0) (becomes ∙ hash_becomes decls q here.node is_ref false k hash) ∙ stale_kind q (answering (Num (any_number 64)) k) held.0)) ∙ held.1);
  });
}
  where
    by : (b : Act) → changes_keys b ≡ true → ChangePoints decls k h after (put_register h 0 c) ps ps (change_site here q a key operands)
        → PointsAs b decls k h after (put_register h 0 c) old new ps ps (length sites) (change_site here q a key operands)
    by act.Update e points = points
    by act.Delete e points = points
    by b e points = absurd (cc)

-- ---- lookups
pub lookup_points : (decls : List MapDecl) (i : Insn) (here : Here) (k after : Kinds) (h : RegisterCells) (old mid new : List CellView) (ps qs : List PointerView) (sites sites2 : List SiteView) (q map c : ℕ) (key : List ℕ)
    → after ≡ answering (Maybe q here.node) k → map ≡ q → length h.registers ≡ 11 → map_used k i i.op ≡ Some q → Grows old mid → LooksUp mid new ps qs sites sites2 here map key c
    → OperationPoints decls i here.pending k h after (put_register h 0 c) old new ps qs sites sites2
lookup_points decls i here k after h old mid new ps qs sites sites2 q map c key becomes map_is whole used grows looks = record {
  site = lookup_site here map key;
  sites_are = looks.sites_are;
  reads = lookup_reads decls (map_used k i i.op) here old mid new ps qs sites sites2 map key c grows looks (used ∙ ap Some (sym map_is));
  points = record {
    found = looks.found;
    is_found = λ none. record {
      there = looks.reads.there;
      is = ap (λ (x : CellView). x.op) looks.reads.is;
      only = λ d l is. only none d l is (cases_lt d (length mid));
    };
    pointers_are = looks.pointers_are;
    held = λ y held. by y (shed_points k after h 0 c (Maybe q here.node) y (subst (λ (x : Kinds). Sheds k x 0 (Maybe q here.node)) (sym becomes) (answering_sheds k (Maybe q here.node))) (omega arith) whole held);
  };
}
  where
    by : (y : Pointing) → (Some (record { map = q; node = Some here.node; pointer = c }) ≡ Some y) ⊎ HoldsPointer k h y → (y ≡ record { map = map; node = Some here.node; pointer = length ps }) ⊎ HoldsPointer k h y
    by y (inl e) = inl (sym (some_inj _ y e) ∙ ap (λ (n : ℕ). record { map = n; node = Some here.node; pointer = c }) (sym map_is) ∙ ap (λ (n : ℕ). record { map = map; node = Some here.node; pointer = n }) looks.number_is)
    by y (inr before) = inr before

    older : (d : ℕ) → d < length mid → (cell_at new d).op ≡ Found (length sites) → (cell_at mid d).op ≡ Found (length sites)
    older d l is = ap (λ (x : CellView). x.op) (sym (looks.grows.kept d l)) ∙ is

    only : ((d : ℕ) → d < length old → (cell_at old d).op ≢ Found (length sites)) → (d : ℕ) → d < length new → (cell_at new d).op ≡ Found (length sites) → (d < length mid) ⊎ (length mid ≤ d) → d ≡ looks.found
    only none d l is (inr new_one) = looks.only d new_one l
    only none d l is (inl before) = absurd (first (cases_lt d (length old)))
      where
        first : (d < length old) ⊎ (length old ≤ d) → ⊥
        first (inl early) = none d early (ap (λ (x : CellView). x.op) (sym (grows.kept d early)) ∙ older d before is)
        first (inr later) = grows.reads d (length sites) later before (ap site_in (older d before is))
