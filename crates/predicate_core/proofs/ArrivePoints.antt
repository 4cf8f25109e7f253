-- Where edges lead to a node that is on the path, one that is on holds what is held there.
use Rattle.std.proofs.Common.{◌≡◌, ℕ, suc, ◌<◌, ◌≤◌, Bool, true, false, if◌then◌else◌, ◌||◌, List, [], ◌∷◌, length, get_or, refl, sym, ◌∙◌, ap, arith}
use Rattle.std.proofs.lemmas.List.Elements.{Contains-get_or}
use Rattle.xdp_machine.specs.xdp_maps.declared.decl.MapDecl.{MapDecl}
use Rattle.kind_core.specs.declared.kind.Kinds.{Kinds}
use Rattle.cell_core.specs.Cells.{CellView, IsRun, bit, on}
use Rattle.operator_cells.specs.Making.{Grows}
use Rattle.operator_cells.specs.declared.held_cells.machine_cells.RegisterCells.{RegisterCells}
use Rattle.operator_cells.specs.declared.held_cells.way.Way.{Way}
use Rattle.operator_cells.specs.HeldCells.RegisterCells.{PointerView}
use Rattle.operator_cells.specs.HeldCells.Pointing.{Pointing, HoldsPointer}
use Rattle.edge_cells.specs.Meeting.{first_on}
use Rattle.edge_cells.specs.Joining.{any_on, Guards, LeadTo}
use Rattle.edge_cells.specs.Pointing.{JoinPoints}
use Rattle.edge_cells.proofs.GrowthLaws.{followed_before}
use Rattle.edge_cells.proofs.WayLaws.{first_below}
use Rattle.predicate_core.specs.Arriving.{IsOwn}
use Rattle.predicate_core.specs.Pointing.{ComesAlong, WasBrought, ArrivePoints}
use Rattle.predicate_core.proofs.Arrived.{lead_each, bit_small}

abbrev IsOn : (ℕ → ℕ) → List Way → Way → ℕ → Type 0
IsOn v here d i = (i < length here) × (on (v (get_or here i d).bit) ≡ true)

-- where an edge is on so is the first one that is on
first_is_on : (v : ℕ → ℕ) (here : List Way) (d : Way) → any_on v here ≡ true → IsOn v here d (first_on v here)
first_is_on v [] d h = absurd (cc)
first_is_on v (a ∷ []) d h = (omega arith, by (on (v a.bit)) h)
  where
    by : (t : Bool) → (t || false) ≡ true → t ≡ true
    by true e = refl
    by false e = e
first_is_on v (a ∷ b ∷ more) d h = by (on (v a.bit)) refl h (first_is_on v (b ∷ more) d)
  where
    by : (t : Bool) → on (v a.bit) ≡ t → (t || any_on v (b ∷ more)) ≡ true → (any_on v (b ∷ more) ≡ true → IsOn v (b ∷ more) d (first_on v (b ∷ more))) → IsOn v (a ∷ b ∷ more) d (if t then 0 else suc (first_on v (b ∷ more)))
    by true e all rest = (omega arith, e)
    by false e all rest = let r = rest all in (omega (arith, r.0), r.1)

bit_on : (b : Bool) → on (bit b) ≡ true → b ≡ true
bit_on true e = refl
bit_on false e = e

pub arrive_points : (decls : List MapDecl) (k : ℕ) (kinds : Kinds) (a b c : List CellView) (ps qs : List PointerView) (ways here : List Way) (guard own : ℕ) (h : RegisterCells) (first : ℕ)
    → 1 ≤ length here → LeadTo k ways here → Guards a b here guard → IsOwn b c first guard own → JoinPoints decls b ps qs here kinds h → ArrivePoints decls k kinds c ps qs ways own h
arrive_points decls k kinds a b c ps qs ways here guard own h first some lead guards is joins packet v u run follows bits = (omega (arith, own_is, bit_small (any_on v here)), along, brought)
  where
    run_here : IsRun packet b v
    run_here = is.grows.run packet v run

    own_is : v own ≡ bit (any_on v here)
    own_is =
        let guard_is = guards.value packet v run_here (lead_each (λ e. v e.bit < 2) k ways here lead bits) in
        is.value packet v run (omega (arith, guard_is, bit_small (any_on v here))) ∙ guard_is

    d : Way
    d = record { to = k; bit = own; kinds = kinds; held = h }

    along : on (v own) ≡ true → ComesAlong decls k kinds h ps qs ways v u
    along o =
        let i = first_on v here in
        let first_on_is = first_is_on v here d (bit_on (any_on v here) (ap (λ (n : ℕ). on n) (sym own_is) ∙ o)) in
        record {
          edge = get_or here i d;
          among = lead.among (get_or here i d) (Contains-get_or here i d first_on_is.0);
          to = lead.to i d first_on_is.0;
          is_on = first_on_is.1;
          holds = joins packet v u d run_here (followed_before is.grows follows);
        }

    brought : (y : Pointing) → HoldsPointer kinds h y → WasBrought ps qs ways u y
    brought y held =
        let i = first_on v here in
        let x = joins packet v u d run_here (followed_before is.grows follows) y held in
        record {
          edge = get_or here i d;
          among = lead.among (get_or here i d) (Contains-get_or here i d (first_below v here some));
          was = x.0;
          holds = x.1;
          map = x.2.map;
          goes = x.2.goes;
        }

-- more cells, which read no site
pub arrive_later : (decls : List MapDecl) (k : ℕ) (kinds : Kinds) (cells cells2 : List CellView) (ps qs : List PointerView) (ways : List Way) (guard : ℕ) (h : RegisterCells)
    → Grows cells cells2 → ArrivePoints decls k kinds cells ps qs ways guard h → ArrivePoints decls k kinds cells2 ps qs ways guard h
arrive_later decls k kinds cells cells2 ps qs ways guard h grows p packet v u run follows = p packet v u (grows.run packet v run) (followed_before grows follows)
