-- The rows of nodes, by the sort of the instruction.
use Rattle.std.proofs.Common.{◌≡◌, ◌∙◌, ℕ, ◌<◌, ◌≤◌, Bool, true, false, Option, Some, None, Result, Ok, Err, IfOk, List, [], ◌∷◌, ◌++◌, length, get_or, refl, sym, ap, subst, arith}
use Rattle.std.specs.Prelude.{All, map as map_list}
use Rattle.std.specs.List.{list_any}
use Rattle.std.proofs.lemmas.List.{append-nil, append_cancel_left, map-append}
use Rattle.std.proofs.lemmas.List.Elements.{All-nil, All-cons, All-head, All-tail, All-append}
use Rattle.std.proofs.lemmas.List.Folds.{list_any_none}
use Rattle.xdp_machine.specs.bpf_isa.declared.operation.Width.{Width}
use Rattle.xdp_machine.specs.bpf_isa.declared.operation.JumpCode.{JumpCode}
use Rattle.xdp_machine.specs.bpf_isa.declared.operation.Src.{Src}
use Rattle.xdp_machine.specs.bpf_isa.declared.operation.Op.{Op}
use Rattle.xdp_machine.specs.bpf_isa.declared.operation.Op.TheVariants.{Ja, Jump, Exit}
use Rattle.xdp_machine.specs.bpf_isa.declared.instruction.Insn.{Insn}
use Rattle.xdp_machine.specs.xdp_maps.declared.decl.MapDecl.{MapDecl}
use Rattle.kind_core.specs.declared.kind.Kinds.{Kinds}
use Rattle.kind_core.specs.Edges.{transferred}
use Rattle.cell_core.specs.Cells.{CellView}
use Rattle.cell_core.specs.Sites.{SiteView}
use Rattle.operator_cells.specs.Making.{Grows}
use Rattle.operator_cells.proofs.MakingLaws.{grown_none}
use Rattle.operator_cells.proofs.RisingLaws.{stand_none}
use Rattle.operator_cells.specs.row_rules.declared.place_rows.span.Span.{Span}
use Rattle.operator_cells.specs.row_rules.PlaceRows.Spans.{no_place, is_in}
use Rattle.operator_cells.specs.row_rules.PlaceRows.Writing.{writes_as}
use Rattle.operator_cells.specs.declared.held_cells.machine_cells.RegisterCells.{RegisterCells}
use Rattle.operator_cells.specs.declared.held_cells.way.Way.{Way}
use Rattle.operator_cells.specs.declared.held_cells.way.Exit.{Exit as End}
use Rattle.operator_cells.specs.HeldCells.RegisterCells.{PointerView}
use Rattle.operator_cells.specs.HeldCells.Rows.{held_row, leaving_row, LeaveTo}
use Rattle.operator_cells.proofs.HeldCells.RowLaws.{grows_by}
use Rattle.operator_cells.proofs.HeldCells.MonotoneLaws.{guard_below, leaving_below}
use Rattle.operator_cells.proofs.row_rules_laws.PlaceRows.SpanLaws.{in_none}
use Rattle.edge_cells.specs.declared.joining.Here.{Here}
use Rattle.edge_cells.proofs.EdgeRowLaws.{jump_held_row, single_held_row}
use Rattle.edge_cells.specs.NodeCells.Ends.{leads_on, brought, brought_along, all_brought}
use Rattle.predicate_core.specs.StepCells.Rows.{InstructionRows, NodeRows}
use Rattle.predicate_core.proofs.StepCells.Behind.{none_writes, held_within}

-- ---- what edges bring

kinds_brought : (P : Kinds → Type 0) (more : List Way) (bs : List (ℕ × Kinds)) → map_list brought more ≡ bs → All (λ (b : ℕ × Kinds). P b.1) bs → All (λ (e : Way). P e.kinds) more
kinds_brought P [] bs is all = All-nil (λ (e : Way). P e.kinds)
kinds_brought P (e ∷ more) [] is all = absurd (cc is)
kinds_brought P (e ∷ more) (b ∷ bs) is all =
    let first : brought e ≡ b = cc is in
    let rest : map_list brought more ≡ bs = cc is in
    All-cons (λ (x : Way). P x.kinds) e more (subst P (sym (ap (λ (x : ℕ × Kinds). x.1) first)) (All-head (λ (x : ℕ × Kinds). P x.1) b bs all))
    (kinds_brought P more bs rest (All-tail (λ (x : ℕ × Kinds). P x.1) b bs all))

brought_more : (ways ways2 more : List Way) (bs : List (ℕ × Kinds)) → ways2 ≡ ways ++ more → map_list brought ways2 ≡ map_list brought ways ++ bs → map_list brought more ≡ bs
brought_more ways ways2 more bs is h = append_cancel_left (map_list brought ways) (map_list brought more) bs (sym (ap (map_list brought) is ∙ map-append brought ways more) ∙ h)

all_along : (P : Kinds → Type 0) (decls : List MapDecl) (node : ℕ) (k : Kinds) (i : Insn) (is_ref : Bool) (next jump : Option ℕ) → ((taken : Bool) → P (transferred decls k i node is_ref taken))
    → All (λ (b : ℕ × Kinds). P b.1) (all_brought decls node k i is_ref next jump)
all_along P decls node k i is_ref next jump each = All-append (λ (b : ℕ × Kinds). P b.1) (brought_along decls node k i is_ref false next) (brought_along decls node k i is_ref true jump) (along false next) (along true jump)
  where
    along : (taken : Bool) (o : Option ℕ) → All (λ (b : ℕ × Kinds). P b.1) (brought_along decls node k i is_ref taken o)
    along taken None = All-nil (λ (b : ℕ × Kinds). P b.1)
    along taken (Some to) = All-cons (λ (b : ℕ × Kinds). P b.1) (to, transferred decls k i node is_ref taken) [] (each taken) (All-nil (λ (b : ℕ × Kinds). P b.1))

-- ---- jumps and ends

-- they write no place
nowhere : (place : ℕ) → list_any (is_in place) (no_place ∷ no_place ∷ []) ≡ true → ⊥
nowhere place is =
    let none = list_any_none (is_in place) (no_place ∷ no_place ∷ []) (All-cons (λ (s : Span). is_in place s ≡ false) no_place (no_place ∷ []) (in_none place)
    (All-cons (λ (s : Span). is_in place s ≡ false) no_place [] (in_none place) (All-nil (λ (s : Span). is_in place s ≡ false)))) in
    let bad : true ≡ false = sym is ∙ none in
    absurd (cc bad)

none_written : (k : Kinds) (i : Insn) (op : Op) → leads_on op ≡ false → (place : ℕ) → list_any (is_in place) (writes_as k i op) ≡ true → ⊥
none_written k i (Ja w) e place is = nowhere place is
none_written k i (Jump w c s) e place is = nowhere place is
none_written k i Exit e place is = nowhere place is
none_written k i op e place is = absurd (cc e)

abbrev StandsAs : List PointerView → RegisterCells → Kinds → Kinds → Type 0
StandsAs ps h k j = (row : ℕ → ℕ) (place : ℕ) → held_row row ps h j place ≤ held_row row ps h k place

ends_stand : (decls : List MapDecl) (node : ℕ) (k : Kinds) (here : Here) (i : Insn) (is_ref : Bool) (pending : List ℕ) (bs : List (ℕ × Kinds)) (cells cells2 : List CellView) (ps : List PointerView) (sites : List SiteView) (ways ways2 : List Way) (exits exits2 : List End)
    → leads_on i.op ≡ false → Grows cells cells2 → LeaveTo cells cells2 ways ways2 here.held (λ row. leaving_row (held_row row ps here.held k) k i (row here.guard))
    → map_list brought ways2 ≡ map_list brought ways ++ bs → All (λ (b : ℕ × Kinds). StandsAs ps here.held k b.1) bs
    → NodeRows decls node k here i is_ref pending (record { cells = cells; pointers = ps; sites = sites; ways = ways; exits = exits }) (record { cells = cells2; pointers = ps; sites = sites; ways = ways2; exits = exits2 })
ends_stand decls node k here i is_ref pending bs cells cells2 ps sites ways ways2 exits exits2 leads grows l brings all = record {
  rows = l.grows.rows;
  more = l.more;
  ways_are = l.ways_are;
  next = here.held;
  held = l.held;
  same = λ place low is. refl;
  stand = λ row before rows within. let under = held_within decls row ps here.held k pending before within in record {
    cells = λ c low high. omega (arith, l.grows.each row rows c low high, leaving_below (held_row row ps here.held k) before under k i (row here.guard));
    bits = λ j d there. omega (arith, l.bits row rows j d there, leaving_below (held_row row ps here.held k) before under k i (row here.guard));
    written = λ place low is. absurd (none_written k i i.op leads place is);
    kept = λ place low is j d there. subst (λ (x : RegisterCells). held_row row ps x (get_or l.more j d).kinds place ≤ before place) (sym (l.held j d there)) (omega (arith, kinds j d there row place, under place));
    writes = none_writes _ cells cells2 sites row _ grows;
  };
}
  where
    kinds : All (λ (e : Way). StandsAs ps here.held k e.kinds) l.more
    kinds = kinds_brought (StandsAs ps here.held k) l.more bs (brought_more ways ways2 l.more bs l.ways_are brings) all

leave_by : {old new : List CellView} {ways ways2 : List Way} {h : RegisterCells} {f g : (ℕ → ℕ) → ℕ} → LeaveTo old new ways ways2 h f → ((row : ℕ → ℕ) → f row ≤ g row) → LeaveTo old new ways ways2 h g
leave_by l below = record {
  grows = grows_by l.grows below;
  more = l.more;
  ways_are = l.ways_are;
  held = l.held;
  bits = λ row rows j d there. omega (arith, l.bits row rows j d there, below row);
}

jump_stands : (decls : List MapDecl) (node : ℕ) (k : Kinds) (here : Here) (i : Insn) (is_ref : Bool) (pending : List ℕ) (next jump : Option ℕ) (cells cells2 : List CellView) (ps qs : List PointerView) (sites : List SiteView) (ways ways2 : List Way) (exits : List End)
    → qs ≡ ps → leads_on i.op ≡ false → ((taken : Bool) → StandsAs ps here.held k (transferred decls k i node false taken)) → Grows cells cells2
    → LeaveTo cells cells2 ways ways2 here.held (λ row. leaving_row (held_row row qs here.held k) k i (row here.guard)) → map_list brought ways2 ≡ map_list brought ways ++ all_brought decls node k i false next jump
    → NodeRows decls node k here i is_ref pending (record { cells = cells; pointers = ps; sites = sites; ways = ways; exits = exits }) (record { cells = cells2; pointers = ps; sites = sites; ways = ways2; exits = exits })
jump_stands decls node k here i is_ref pending next jump cells cells2 ps qs sites ways ways2 exits same leads stand grows l brings =
    ends_stand decls node k here i is_ref pending (all_brought decls node k i false next jump) cells cells2 ps sites ways ways2 exits exits leads grows
    (subst (λ (xs : List PointerView). LeaveTo cells cells2 ways ways2 here.held (λ row. leaving_row (held_row row xs here.held k) k i (row here.guard))) same l) brings
    (all_along (StandsAs ps here.held k) decls node k i false next jump stand)

pub jump_rows : {A B : Type 0} (r : Result A B) (decls : List MapDecl) (node : ℕ) (k : Kinds) (here : Here) (i : Insn) (is_ref : Bool) (pending : List ℕ) (w : Width) (code : JumpCode) (s : Src) (next jump : Option ℕ) (cells cells2 : List CellView)
    (ps qs : List PointerView) (sites : List SiteView) (ways ways2 : List Way) (exits : List End)
    → qs ≡ ps → i.op ≡ Jump w code s → IfOk r (λ done. Grows cells cells2) → IfOk r (λ done. LeaveTo cells cells2 ways ways2 here.held (λ row. leaving_row (held_row row qs here.held k) k i (row here.guard)))
    → IfOk r (λ done. map_list brought ways2 ≡ map_list brought ways ++ all_brought decls node k i false next jump)
    → IfOk r (λ done. NodeRows decls node k here i is_ref pending (record { cells = cells; pointers = ps; sites = sites; ways = ways; exits = exits }) (record { cells = cells2; pointers = ps; sites = sites; ways = ways2; exits = exits }))
jump_rows (Err b) decls node k here i is_ref pending w code s next jump cells cells2 ps qs sites ways ways2 exits same op grows l brings = tt
jump_rows (Ok a) decls node k here i is_ref pending w code s next jump cells cells2 ps qs sites ways ways2 exits same op grows l brings =
    jump_stands decls node k here i is_ref pending next jump cells cells2 ps qs sites ways ways2 exits same (ap leads_on op) (λ taken row place. jump_held_row decls row ps here.held k i node w code s taken place op) grows l brings

pub away_rows : {A B : Type 0} (r : Result A B) (decls : List MapDecl) (node : ℕ) (k : Kinds) (here : Here) (i : Insn) (is_ref : Bool) (pending : List ℕ) (w : Width) (to : ℕ) (cells cells2 : List CellView) (ps qs : List PointerView) (sites : List SiteView)
    (ways ways2 : List Way) (exits : List End)
    → qs ≡ ps → i.op ≡ Ja w → IfOk r (λ done. Grows cells cells2) → IfOk r (λ done. LeaveTo cells cells2 ways ways2 here.held (λ row. row here.guard))
    → IfOk r (λ done. map_list brought ways2 ≡ map_list brought ways ++ brought_along decls node k i false true (Some to))
    → IfOk r (λ done. NodeRows decls node k here i is_ref pending (record { cells = cells; pointers = ps; sites = sites; ways = ways; exits = exits }) (record { cells = cells2; pointers = ps; sites = sites; ways = ways2; exits = exits }))
away_rows (Err b) decls node k here i is_ref pending w to cells cells2 ps qs sites ways ways2 exits same op grows l brings = tt
away_rows (Ok a) decls node k here i is_ref pending w to cells cells2 ps qs sites ways ways2 exits same op grows l brings =
    jump_stands decls node k here i is_ref pending None (Some to) cells cells2 ps qs sites ways ways2 exits same (ap leads_on op)
    (λ taken row place. omega (arith, single_held_row decls row ps here.held k i node w taken place op)) grows
    (leave_by l (λ row. guard_below (held_row row qs here.held k) k i (row here.guard))) brings

pub exit_rows : {A B : Type 0} (r : Result A B) (decls : List MapDecl) (node : ℕ) (k : Kinds) (here : Here) (i : Insn) (is_ref : Bool) (pending : List ℕ) (cells : List CellView) (ps : List PointerView) (sites : List SiteView) (ways : List Way) (exits exits2 : List End)
    → i.op ≡ Exit
    → IfOk r (λ done. NodeRows decls node k here i is_ref pending (record { cells = cells; pointers = ps; sites = sites; ways = ways; exits = exits }) (record { cells = cells; pointers = ps; sites = sites; ways = ways; exits = exits2 }))
exit_rows (Err b) decls node k here i is_ref pending cells ps sites ways exits exits2 op = tt
exit_rows (Ok a) decls node k here i is_ref pending cells ps sites ways exits exits2 op =
    ends_stand decls node k here i is_ref pending [] cells cells ps sites ways ways exits exits2 (ap leads_on op) grown_none
    (record { grows = stand_none.grows; more = []; ways_are = sym (append-nil ways); held = All-nil _; bits = λ row rows. All-nil _ }) (sym (append-nil (map_list brought ways))) (All-nil _)

-- ---- instructions that lead on
along_stands : (decls : List MapDecl) (node : ℕ) (k : Kinds) (here : Here) (i : Insn) (is_ref : Bool) (pending : List ℕ) (to : ℕ) (next : RegisterCells) (cells cells2 : List CellView) (ps qs : List PointerView) (sites sites2 : List SiteView) (ways mid ways2 : List Way) (exits exits2 : List End)
    → mid ≡ ways → InstructionRows decls k here.held i (transferred decls k i node is_ref false) next pending cells cells2 ps qs sites sites2
    → LeaveTo cells2 cells2 mid ways2 next (λ row. row here.guard) → map_list brought ways2 ≡ map_list brought mid ++ brought_along decls node k i is_ref false (Some to)
    → NodeRows decls node k here i is_ref pending (record { cells = cells; pointers = ps; sites = sites; ways = ways; exits = exits }) (record { cells = cells2; pointers = qs; sites = sites2; ways = ways2; exits = exits2 })
along_stands decls node k here i is_ref pending to next cells cells2 ps qs sites sites2 ways mid ways2 exits exits2 same o l brings = record {
  rows = o.rows;
  more = l.more;
  ways_are = l.ways_are ∙ ap (λ (xs : List Way). xs ++ l.more) same;
  next = next;
  held = l.held;
  same = o.same;
  stand = λ row before rows within. let s = o.stand row before rows within in record {
    cells = λ c low high. omega (arith, s.cells c low high);
    bits = λ j d there. omega (arith, l.bits row rows j d there, guard_below before k i (row here.guard));
    written = λ place low is j d there. on row place j d there (s.written place is);
    kept = λ place low is j d there. on row place j d there (s.kept place is);
    writes = s.writes;
  };
}
  where
    kinds : All (λ (e : Way). e.kinds ≡ transferred decls k i node is_ref false) l.more
    kinds = kinds_brought (λ (x : Kinds). x ≡ transferred decls k i node is_ref false) l.more (brought_along decls node k i is_ref false (Some to))
        (brought_more mid ways2 l.more (brought_along decls node k i is_ref false (Some to)) l.ways_are brings)
        (All-cons (λ (b : ℕ × Kinds). b.1 ≡ transferred decls k i node is_ref false) (to, transferred decls k i node is_ref false) [] refl (All-nil (λ (b : ℕ × Kinds). b.1 ≡ transferred decls k i node is_ref false)))

    on : (row : ℕ → ℕ) (place j : ℕ) (d : Way) → j < length l.more → {n : ℕ} → held_row row qs next (transferred decls k i node is_ref false) place ≤ n → held_row row qs (get_or l.more j d).held (get_or l.more j d).kinds place ≤ n
    on row place j d there {n} below =
        subst (λ (x : RegisterCells). held_row row qs x (get_or l.more j d).kinds place ≤ n) (sym (l.held j d there))
        (subst (λ (x : Kinds). held_row row qs next x place ≤ n) (sym (kinds j d there)) below)

pub along_rows : {A B : Type 0} (r : Result A B) (decls : List MapDecl) (node : ℕ) (k : Kinds) (here : Here) (i : Insn) (is_ref : Bool) (pending : List ℕ) (to : ℕ) (next : RegisterCells) (cells cells2 : List CellView) (ps qs : List PointerView) (sites sites2 : List SiteView)
    (ways mid ways2 : List Way) (exits exits2 : List End)
    → mid ≡ ways → InstructionRows decls k here.held i (transferred decls k i node is_ref false) next pending cells cells2 ps qs sites sites2
    → IfOk r (λ done. LeaveTo cells2 cells2 mid ways2 next (λ row. row here.guard)) → IfOk r (λ done. map_list brought ways2 ≡ map_list brought mid ++ brought_along decls node k i is_ref false (Some to))
    → IfOk r (λ done. NodeRows decls node k here i is_ref pending (record { cells = cells; pointers = ps; sites = sites; ways = ways; exits = exits }) (record { cells = cells2; pointers = qs; sites = sites2; ways = ways2; exits = exits2 }))
along_rows (Err b) decls node k here i is_ref pending to next cells cells2 ps qs sites sites2 ways mid ways2 exits exits2 same o l brings = tt
along_rows (Ok a) decls node k here i is_ref pending to next cells cells2 ps qs sites sites2 ways mid ways2 exits exits2 same o l brings =
    along_stands decls node k here i is_ref pending to next cells cells2 ps qs sites sites2 ways mid ways2 exits exits2 same o l brings
