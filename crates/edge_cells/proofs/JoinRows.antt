-- The rows of what is held where edges meet, from its parts.
use Rattle.std.proofs.Common.{◌≡◌, ℕ, suc, ◌+◌, ◌-◌, ◌<◌, ◌≤◌, ◌⊎◌, ◌≢◌, inl, inr, true, not, ◌&&◌, if◌then◌else◌, List, [], ◌∷◌, length, get_or, All, max, refl, sym, ◌∙◌, ap, subst, arith, get_or-set_other, get_or-set_same}
use Rattle.std.specs.Prelude.{slice_index}
use Rattle.std.proofs.Math.ListN.{set}
use Rattle.std.proofs.lemmas.Bool.{cases_lt}
use Rattle.xdp_machine.specs.xdp_maps.declared.decl.MapDecl.{MapDecl}
use Rattle.kind_core.specs.declared.number.Number.TheVariants.{Between}
use Rattle.kind_core.specs.declared.kind.Kind.{Kind}
use Rattle.kind_core.specs.declared.kind.Kind.TheVariants.{Num, Maybe, Entry}
use Rattle.kind_core.specs.declared.kind.Kinds.{Kinds}
use Rattle.cell_core.specs.Cells.{CellView}
use Rattle.cell_core.specs.Rows.{AreRows, greatest}
use Rattle.operator_cells.specs.Rising.{GrowsTo, Rises}
use Rattle.operator_cells.proofs.RisingLaws.{stand_none, stand_more, grown_to}
use Rattle.operator_cells.specs.row_rules.PlaceRows.Origins.{is_open}
use Rattle.operator_cells.specs.row_rules.declared.place_rows.location.Location.{Location}
use Rattle.operator_cells.specs.row_rules.declared.place_rows.location.Location.TheVariants as location
use Rattle.operator_cells.specs.row_rules.PlaceRows.Locations.{target_number, first_pending, location_number, location_at, IsHeld}
use Rattle.operator_cells.proofs.row_rules_laws.PlaceRows.LocationLaws.{numbered_as, held_there}
use Rattle.operator_cells.proofs.row_rules_laws.PlaceRows.PlaceLaws.{greatest_above, greatest_within}
use Rattle.operator_cells.specs.declared.held_cells.machine_cells.RegisterCells.{RegisterCells}
use Rattle.operator_cells.specs.declared.held_cells.way.Way.{Way}
use Rattle.operator_cells.specs.HeldCells.RegisterCells.{PointerView, Counts}
use Rattle.operator_cells.specs.HeldCells.Rows as places
use Rattle.operator_cells.specs.HeldCells.Rows.{cells_of_pointer, value_row, number_at, held_row, bits_row, brought_row, hold_one, met_row, choosing_row, JoinsTo}
use Rattle.operator_cells.proofs.HeldCells.RowLaws.{grows_by}
use Rattle.edge_cells.specs.declared.part.Part.{Part}
use Rattle.edge_cells.specs.declared.part.Part.TheVariants.{Register, Slot, Byte, Target}
use Rattle.edge_cells.specs.Meeting.{IsPart, held_at, kind_at, Extends, AreWays, MeetsMore, MeetRow}
use Rattle.edge_cells.specs.Rows.{data_place, choosing_rows, MetTo, MeetsTo, MeetRowTo}
use Rattle.edge_cells.proofs.ExtendingLaws.{extended, same_pointer, part_counts}
use Rattle.edge_cells.proofs.ChoiceRows.{so_far}
use Rattle.edge_cells.proofs.PartRows.{number_there, row_there}

-- ---- places

place_inside : (part : Part) → IsPart part → data_place part < first_pending
place_inside (Register r) l = omega (arith, l)
place_inside (Slot s) l = omega (arith, l)
place_inside (Byte i) l = omega (arith, l)
place_inside Target l = omega arith

-- every place is that of a part
pub part_at : (place : ℕ) → place < first_pending → (part : Part) × IsPart part × (data_place part ≡ place)
part_at place l = by (location_at place) (held_there place l) (numbered_as place (location_at place) refl)
  where
    by : (x : Location) → IsHeld x → place ≡ location_number x → (part : Part) × IsPart part × (data_place part ≡ place)
    by (location.Register r) there e = (Register r, (let small : r < 11 = there in omega (arith, small)), sym e)
    by (location.StackSlot s) there e = (Slot s, there, sym e)
    by (location.PacketByte i) there e = (Byte i, there, sym e)
    by location.Target there e = (Target, tt, sym e)
    by (location.PendingWrites q) there e = absurd there

-- ---- more pointers

value_later : (decls : List MapDecl) (n : ℕ) (row : ℕ → ℕ) (ps qs : List PointerView) (x : Kind) (c : ℕ) → Extends ps qs → Counts decls n ps x c → value_row row qs x c ≡ value_row row ps x c
value_later decls n row ps qs (Num (Between lo hi)) c e k = refl
value_later decls n row ps qs (Maybe q j) c e k = ap (λ (p : PointerView). greatest row (cells_of_pointer p)) (same_pointer ps qs c e k.0)
value_later decls n row ps qs (Entry q o) c e k = ap (λ (p : PointerView). greatest row (cells_of_pointer p)) (same_pointer ps qs c e k.0)
value_later decls n row ps qs x c e k = refl

-- the edges hold what they held
brought_later : (decls : List MapDecl) (cells : List CellView) (row : ℕ → ℕ) (ps qs : List PointerView) (part : Part) (here : List Way) → IsPart part → Extends ps qs → AreWays decls cells ps here
    → brought_row row qs here (data_place part) ≡ brought_row row ps here (data_place part)
brought_later decls cells row ps qs part [] p e ways = refl
brought_later decls cells row ps qs part (f ∷ here) p e ways = both _ _ _ _
    (row_there row qs f.held f.kinds part p
    ∙ value_later decls (length cells) row ps qs (kind_at part f.kinds) (held_at part f.held) e (part_counts decls (length cells) ps f.held f.kinds part p (ways 0 f (omega arith)).1)
    ∙ sym (row_there row ps f.held f.kinds part p))
    (brought_later decls cells row ps qs part here p e (λ i d l. ways (suc i) d (omega (arith, l))))
  where
    both : (a b x y : ℕ) → a ≡ b → x ≡ y → max a x ≡ max b y
    both a b x y g h = omega (arith, g, h)

met_later : (decls : List MapDecl) (cells : List CellView) (row : ℕ → ℕ) (ps qs : List PointerView) (part : Part) (here : List Way) → IsPart part → Extends ps qs → AreWays decls cells ps here
    → met_row row qs here (data_place part) ≡ met_row row ps here (data_place part)
met_later decls cells row ps qs part here p e ways =
    ap (λ (n : ℕ). if hold_one here (data_place part) then n else max (bits_row row here) n) (brought_later decls cells row ps qs part here p e ways)

choosing_later : (decls : List MapDecl) (cells : List CellView) (row : ℕ → ℕ) (ps qs : List PointerView) (k : Kinds) (part : Part) (here : List Way) → IsPart part → Extends ps qs → AreWays decls cells ps here
    → choosing_row row qs here k (data_place part) ≡ choosing_row row ps here k (data_place part)
choosing_later decls cells row ps qs k part here p e ways =
    ap (λ (n : ℕ). if is_open (places.kind_at k (data_place part)) && not (hold_one here (data_place part)) then max (bits_row row here) n else 0) (brought_later decls cells row ps qs part here p e ways)

-- ---- all places

choosing_within : (row : ℕ → ℕ) (ps : List PointerView) (here : List Way) (k : Kinds) (place : ℕ) → place < first_pending → choosing_row row ps here k place ≤ choosing_rows row ps here k
unfolding choosing_rows
choosing_within row ps here k place l = greatest_above (choosing_row row ps here k) 0 first_pending place zero_first l
  where
    zero_first : 0 ≤ place
    zero_first = omega arith

trans_le : {a b c : ℕ} → a ≤ b → b ≤ c → a ≤ c
trans_le p q = omega (arith, p, q)

same_le : {a b : ℕ} → a ≡ b → a ≤ b
same_le e = omega (arith, e)

choosing_again : (decls : List MapDecl) (cells : List CellView) (row : ℕ → ℕ) (ps qs : List PointerView) (here : List Way) (k : Kinds) → Extends ps qs → AreWays decls cells ps here → (place : ℕ) → place < first_pending
    → choosing_row row qs here k place ≤ choosing_rows row ps here k
choosing_again decls cells row ps qs here k e ways place l =
    let at = part_at place l in
    subst (λ (n : ℕ). choosing_row row qs here k n ≤ choosing_rows row ps here k) at.2
    (trans_le (same_le (choosing_later decls cells row ps qs k at.0 here at.1 e ways)) (choosing_within row ps here k (data_place at.0) (place_inside at.0 at.1)))

choosing_all : (row : ℕ → ℕ) (qs : List PointerView) (here : List Way) (k : Kinds) (most : ℕ) → ((place : ℕ) → place < first_pending → choosing_row row qs here k place ≤ most) → choosing_rows row qs here k ≤ most
unfolding choosing_rows
choosing_all row qs here k most h = greatest_within (choosing_row row qs here k) most 0 first_pending (λ i low high. h i high)

-- ---- what is met stays, and is met by the pointers that the edges had

met_stays : {old new : List CellView} {ps qs rs : List PointerView} {here : List Way} {k : Kinds} {part : Part} {c : ℕ} {f : (ℕ → ℕ) → ℕ} (decls : List MapDecl) (n : ℕ) → GrowsTo old new f → Extends qs rs
    → Counts decls n qs (kind_at part k) c → MetTo old ps qs here k part c → MetTo new ps rs here k part c
met_stays {qs = qs} {rs = rs} {k = k} {part = part} {c = c} decls n g e counts m = record {
  value = λ row rows. trans_le (same_le (value_later decls n row qs rs (kind_at part k) c e counts)) (m.value row (g.rows row rows));
  same = m.same;
}

met_from : {cells : List CellView} {ps qs rs : List PointerView} {here : List Way} {k : Kinds} {part : Part} {c : ℕ} (decls : List MapDecl) (old : List CellView) → IsPart part → Extends ps qs → AreWays decls old ps here
    → MetTo cells qs rs here k part c → MetTo cells ps rs here k part c
met_from {ps = ps} {qs = qs} {here = here} {part = part} decls old p e ways m = record {
  value = λ row rows. trans_le (m.value row rows) (same_le (met_later decls old row ps qs part here p e ways));
  same = m.same;
}

-- ---- parts of one sort

pub row_more_to : (decls : List MapDecl) (old mid new : List CellView) (ps qs rs : List PointerView) (here : List Way) (k : Kinds) (part : ℕ → Part) (n c : ℕ) (held : List ℕ) → n < length held → IsPart (part n)
    → AreWays decls old ps here → MeetRow decls old mid ps qs here k part n held → MeetsMore decls mid new qs rs here (part n) (kind_at (part n) k) c
    → MeetRowTo old mid ps qs here k part n held → MeetsTo mid new qs rs here k (part n) c → MeetRowTo old new ps rs here k part (n + 1) (set held n c)
row_more_to decls old mid new ps qs rs here k part n c held range is_part ways met_row_is one_is row one = record {
  grows = grown_to (so_far row.grows) one.grows (λ r p. choosing_again decls old r ps qs here k met_row_is.extends ways (data_place (part n)) (place_inside (part n) is_part));
  each = λ i l. by i (cases_lt i n) l;
}
  where
    by : (i : ℕ) → (i < n) ⊎ (n ≤ i) → i < n + 1 → MetTo new ps rs here k (part i) (slice_index (set held n c) i)
    by i (inl l) h = let ne : i ≢ n = omega arith in
        subst (λ (x : ℕ). MetTo new ps rs here k (part i) x) (sym (get_or-set_other held n i c 0 ne))
        (met_stays decls (length mid) one.grows one_is.extends (met_row_is.each i l).counts (row.each i l))
    by i (inr l) h = let same : n ≡ i = omega (arith, l, h) in
        subst (λ (j : ℕ). MetTo new ps rs here k (part j) (slice_index (set held n c) j)) same
        (subst (λ (x : ℕ). MetTo new ps rs here k (part n) x) (sym (get_or-set_same held n c 0 range)) (met_from decls old is_part met_row_is.extends ways one.met))

-- the same by the pointers that the edges had
row_from : (decls : List MapDecl) (old a b : List CellView) (ps qs rs : List PointerView) (here : List Way) (k : Kinds) (part : ℕ → Part) (n : ℕ) (held : List ℕ) → Extends ps qs → AreWays decls old ps here
    → ((i : ℕ) → i < n → IsPart (part i)) → MeetRowTo a b qs rs here k part n held → MeetRowTo a b ps rs here k part n held
row_from decls old a b ps qs rs here k part n held e ways parts row = record {
  grows = grows_by row.grows (λ r. choosing_all r qs here k (choosing_rows r ps here k) (choosing_again decls old r ps qs here k e ways));
  each = λ i l. met_from decls old (parts i l) e ways (row.each i l);
}

-- ---- all of it

-- what is held at a node, part by part
abbrev AreMetTo : List CellView → List PointerView → List PointerView → List Way → Kinds → RegisterCells → Type 0
AreMetTo cells ps qs here k h = (part : Part) → IsPart part → MetTo cells ps qs here k part (held_at part h)

joined_to : (old mid new : List CellView) (ps qs : List PointerView) (here : List Way) (k : Kinds) (guard : ℕ) (h : RegisterCells) → Rises old mid guard (λ row. bits_row row here)
    → GrowsTo old new (λ row. max (bits_row row here) (choosing_rows row ps here k)) → ((row : ℕ → ℕ) → AreRows new row → AreRows mid row) → AreMetTo new ps qs here k h → JoinsTo old new ps qs here k guard h
unfolding choosing_rows
joined_to old mid new ps qs here k guard h guarded grows before met = record {
  grows = grows;
  guard_row = λ row rows. guarded.result row (before row rows);
  held = λ row rows. held_places row rows;
  same = same_places;
}
  where
    held_places : (row : ℕ → ℕ) → AreRows new row → (place : ℕ) → place < first_pending → held_row row qs h k place ≤ met_row row ps here place
    held_places row rows place l = let at = part_at place l in
        subst (λ (n : ℕ). held_row row qs h k n ≤ met_row row ps here n) at.2 (trans_le (same_le (row_there row qs h k at.0 at.1)) ((met at.0 at.1).value row rows))

    same_places : (place : ℕ) → place < first_pending → hold_one here place ≡ true → All (λ e. number_at h place ≡ number_at e.held place) here
    same_places place l one i d m = let at = part_at place l in
        ap (number_at h) (sym at.2) ∙ number_there h at.0 at.1
        ∙ (met at.0 at.1).same (ap (hold_one here) at.2 ∙ one) i d m ∙ ap (number_at (get_or here i d).held) at.2

pub joins_to : (decls : List MapDecl) (a b c d e f : List CellView) (p q r s t : List PointerView) (here : List Way) (k : Kinds) (guard : ℕ) (h : RegisterCells) → AreWays decls a p here
    → Rises a b guard (λ row. bits_row row here)
    → MeetRow decls b c p q here k Register 11 h.registers → MeetRowTo b c p q here k Register 11 h.registers
    → MeetRow decls c d q r here k Slot 64 h.slots → MeetRowTo c d q r here k Slot 64 h.slots
    → MeetRow decls d e r s here k Byte 256 h.window → MeetRowTo d e r s here k Byte 256 h.window
    → MeetsMore decls e f s t here Target (kind_at Target k) h.target → MeetsTo e f s t here k Target h.target → JoinsTo a f p t here k guard h
joins_to decls a b c d e f p q r s t here k guard h ways guarded registers registers_to slots slots_to window window_to target target_to =
    joined_to a b f p t here k guard h guarded grown_all before met
  where
    to_slots : Extends p r
    to_slots = extended registers.extends slots.extends

    to_window : Extends p s
    to_window = extended to_slots window.extends

    after_slots : Extends r t
    after_slots = extended window.extends target.extends

    after_registers : Extends q t
    after_registers = extended slots.extends after_slots

    own_slots : MeetRowTo c d p r here k Slot 64 h.slots
    own_slots = row_from decls a c d p q r here k Slot 64 h.slots registers.extends ways (λ i l. l) slots_to

    own_window : MeetRowTo d e p s here k Byte 256 h.window
    own_window = row_from decls a d e p r s here k Byte 256 h.window to_slots ways (λ i l. l) window_to

    last : GrowsTo e f (λ row. choosing_rows row p here k)
    last = grows_by target_to.grows (λ row. choosing_again decls a row p s here k to_window ways target_number (omega arith))

    behind_slots : GrowsTo d f (λ row. choosing_rows row p here k)
    behind_slots = grown_to (so_far own_window.grows) last (λ row u. same_le refl)

    behind_registers : GrowsTo c f (λ row. choosing_rows row p here k)
    behind_registers = grown_to (so_far own_slots.grows) behind_slots (λ row u. same_le refl)

    behind_guard : GrowsTo b f (λ row. choosing_rows row p here k)
    behind_guard = grown_to (so_far registers_to.grows) behind_registers (λ row u. same_le refl)

    grown_all : GrowsTo a f (λ row. max (bits_row row here) (choosing_rows row p here k))
    grown_all = grown_to (stand_more {last = λ row. max (bits_row row here) (choosing_rows row p here k)} stand_none guarded (λ row u. left _ _)) behind_guard (λ row u. right _ _)
      where
        left : (x y : ℕ) → x ≤ max x y
        left x y = omega arith

        right : (x y : ℕ) → y ≤ max x y
        right x y = omega arith

    before : (row : ℕ → ℕ) → AreRows f row → AreRows b row
    before = behind_guard.rows

    met : AreMetTo f p t here k h
    met (Register i) l = met_stays decls (length c) behind_registers after_registers (registers.each i (omega (arith, l))).counts (registers_to.each i (omega (arith, l)))
    met (Slot i) l = met_stays decls (length d) behind_slots after_slots (slots.each i l).counts (own_slots.each i l)
    met (Byte i) l = met_stays decls (length e) last target.extends (window.each i l).counts (own_window.each i l)
    met Target l = met_from decls a tt to_window ways target_to.met
