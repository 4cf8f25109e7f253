-- Accesses go through pointers into their own maps: whether a pointer leads there is a number that goes with cells.
use Rattle.std.proofs.Common.{◌≡◌, ◌∙◌, ℕ, suc, ◌<◌, ◌≤◌, inl, inr, Bool, true, false, List, length, take, drop, refl, sym, ap, subst, arith}
use Rattle.std.specs.Prelude.{Contains, slice_index, nat_lt, ◌==◌, ◌||◌, if◌then◌else◌}
use Rattle.std.proofs.lemmas.Bool.{cases_lt, eqb-true, lt-ltb, ltb-true}
use Rattle.std.proofs.lemmas.Bool.Decides.{Decides-eqb}
use Rattle.std.proofs.lemmas.List.Elements.{All-contains, Contains-append_right}
use Rattle.xdp_object.specs.xdp_machine.State.{PacketIn}
use Rattle.hazard_core.specs.cell_core.declared.operator.Operator.TheVariants.{Answer}
use Rattle.hazard_core.specs.cell_core.declared.site.Act.{Act}
use Rattle.hazard_core.specs.cell_core.declared.site.Act.TheVariants as act
use Rattle.hazard_core.specs.cell_core.Acts.{is_access, pointer_operand}
use Rattle.hazard_core.specs.cell_core.Cells.{cell_at, site_in, is_read, bit}
use Rattle.hazard_core.specs.cell_core.CellLaws.{HaveValues}
use Rattle.hazard_core.specs.cell_core.Sites.{ProgramView, site_at, records}
use Rattle.hazard_core.specs.cell_core.Rows.{RowsRise, greatest}
use Rattle.operator_cells.specs.HeldCells.Paths.{GraphView}
use Rattle.operator_cells.specs.HeldCells.Law.{IsLaw}
use Rattle.operator_cells.specs.HeldCells.Pointing.{IsThrough, FoundsAre}
use Rattle.hazard_core.specs.declared.pointer.Pointer.{Pointer}
use Rattle.hazard_core.specs.declared.pointer.Pointer.TheVariants.{Null, InSlot, Pending}
use Rattle.xdp_object.specs.xdp_maps.declared.decl.MapKind.{MapKind}
use Rattle.hazard_core.specs.Tables.{TableState, decl_of, table_at}
use Rattle.hazard_core.specs.StageValues.{StageValues, pointer_in, access_pointer, is_update, is_delete, written_as}
use Rattle.hazard_core.specs.TableLaws.Leading.{LeadsInto, WritesLead}
use Rattle.hazard_core.proofs.cell_core_laws.RowLaws.{greatest_above}
use Rattle.row_plan.specs.Plan.{Plan, IsPlan}
use Rattle.ehdl_build.specs.ProgramPlan.Pipelinable.{build_of}
use Rattle.ehdl_build.specs.ProgramPlan.Leading.{HoldsOwn, PointersLead, ReadsLead, SitesLead, RecordsLead}
use Rattle.ehdl_build.proofs.ProgramPlan.Operators.{heavy_of_site, goes_by}
use Rattle.ehdl_build.proofs.ProgramPlan.Planning.{site_early}
use Rattle.ehdl_build.proofs.ProgramPlan.Pathing.{below_there}
use Rattle.ehdl_build.proofs.ProgramPlan.Completing.{IsCompleted, completed}

-- 0 of a pointer that leads into a map
abbrev strays : ProgramView → TableState → ℕ → Pointer → ℕ
strays p t m Null = 0
strays p t m (InSlot n) = if nat_lt n (length (table_at t m)) then 0 else 1
strays p t m (Pending i) = if (site_at p.sites i).map == m then 0 else 1

stays_in : (p : ProgramView) (t : TableState) (m : ℕ) (x : Pointer) → LeadsInto p t m x → strays p t m x ≡ 0
stays_in p t m Null l = refl
stays_in p t m (InSlot n) l = ap {B = ℕ} (λ (b : Bool). if b then 0 else 1) (lt-ltb n (length (table_at t m)) (l.slot n refl))
stays_in p t m (Pending i) l = ap {B = ℕ} (λ (b : Bool). if b then 0 else 1) ((Decides-eqb (site_at p.sites i).map m).1 (l.made i refl))

passes : (b : Bool) → ◌≡◌ {A = ℕ} (if b then 0 else 1) 0 → b ≡ true
passes true e = refl
passes false e = absurd (omega (arith, e))

leads_in : (p : ProgramView) (t : TableState) (m : ℕ) (x : Pointer) → strays p t m x ≡ 0 → LeadsInto p t m x
leads_in p t m Null e = record { slot = λ n is. absurd (cc); made = λ i is. absurd (cc) }
leads_in p t m (InSlot n) e = record {
  slot = λ k is. let same : n ≡ k = cc in subst (λ i. i < length (table_at t m)) same (ltb-true n (length (table_at t m)) (passes (nat_lt n (length (table_at t m))) e));
  made = λ i is. absurd (cc);
}
leads_in p t m (Pending i) e = record {
  slot = λ n is. absurd (cc);
  made = λ k is. let same : i ≡ k = cc in subst (λ n. (site_at p.sites n).map ≡ m) same (eqb-true (site_at p.sites i).map m (passes ((site_at p.sites i).map == m) e));
}

-- what an access goes through is what its reads look at
looks_through : (a : Act) (xs : List ℕ) (c : ℕ) → IsThrough a xs c → Contains (take 1 (drop (pointer_operand a) xs)) c
looks_through (act.Load at size) xs c is = subst (λ (ys : List ℕ). Contains (take 1 ys) c) (sym is) (0, omega arith, refl)
looks_through (act.Store at size) xs c (x, is) = subst (λ (ys : List ℕ). Contains (take 1 (drop 1 ys)) c) (sym is) (0, omega arith, refl)
looks_through (act.Atomic at a) xs c (x, y, is) = subst (λ (ys : List ℕ). Contains (take 1 (drop 2 ys)) c) (sym is) (0, omega arith, refl)
looks_through a xs c is = absurd is

-- that is its operand for the pointer
operand_is : (a : Act) (xs : List ℕ) (c : ℕ) → IsThrough a xs c → slice_index xs (pointer_operand a) ≡ c
operand_is (act.Load at size) xs c is = ap (λ ys. slice_index ys 0) is
operand_is (act.Store at size) xs c (x, is) = ap (λ ys. slice_index ys 1) is
operand_is (act.Atomic at a) xs c (x, y, is) = ap (λ ys. slice_index ys 2) is
operand_is a xs c is = absurd is

module _ (have : HaveValues) (rise : RowsRise) (g : GraphView) (p : ProgramView) (plan : Plan) (slots : ℕ) (law : IsLaw g p) (is : IsPlan p plan) (t : TableState) (packet : PacketIn) (h : StageValues) where
  abbrev row : ℕ → ℕ
  row = slice_index plan.rows

  leads : (r j : ℕ) → HoldsOwn (build_of p plan slots) t packet r h → j < length p.sites → is_access (site_at p.sites j).act ≡ true
      → ((c : ℕ) → IsThrough (site_at p.sites j).act (site_at p.sites j).operands c → row c < r) → LeadsInto p t (site_at p.sites j).map (access_pointer h (site_at p.sites j))
  leads r j holds l access low =
      let s = site_at p.sites j in
      let x = law.stays packet made.v made.u made.run made.followed s.map 0 founds j l access refl in
      let go = goes_by h s.act s.operands x.0 x.1 in
      let q = below_there g p law.computes.laid j l in
      let few = q.1 in
      let below = All-contains (λ i. i < q.0) s.operands x.0 q.2.operands go.there in
      subst (LeadsInto p t s.map) (sym go.pointer) (leads_in p t s.map (pointer_in h x.0) (sym (made.goes x.0 (omega (arith, below, few)) (low x.0 x.1)) ∙ x.2))
    where
      made : IsCompleted (strays p t (site_at p.sites j).map) (build_of p plan slots) packet h r
      made = completed have rise (strays p t (site_at p.sites j).map) (record { none = refl }) (build_of p plan slots) r law.computes.formed is.rows t packet h holds.own holds.fit

      founds : FoundsAre p.cells p.sites made.u (site_at p.sites j).map 0
      founds c i lc o into = elim (cases_lt (row c) r) [
        | inl b ↦
            made.goes c lc b
            ∙ stays_in p t (site_at p.sites j).map (pointer_in h c) (subst (λ m. LeadsInto p t m (pointer_in h c)) into (holds.founds.each c i lc o))
        | inr b ↦ made.later c lc (ap is_read o) b
      ]

  -- a read stands after the pointer that it looks at
  read_behind : (c j x : ℕ) → c < length p.cells → (cell_at p.cells c).op ≡ Answer j → IsThrough (site_at p.sites j).act (site_at p.sites j).operands x → row x < row c
  read_behind c j x l o through =
      let s = site_at p.sites j in
      let e = ap site_in o in
      let looked = (law.reads.each j (law.sited.known c j l e)).takes c x l e (Contains-append_right s.key (take 1 (drop (pointer_operand s.act) s.operands)) x (looks_through s.act s.operands x through)) in
      let ins : List ℕ = (cell_at p.cells c).ins in
      let up = All-contains (λ i. row i ≤ greatest row ins) ins x (greatest_above row ins) looked in
      omega (arith, up, is.rows.each c l, ap bit (heavy_of_site (cell_at p.cells c).op j e))

  pub read_leads : (c j : ℕ) → c < length p.cells → (cell_at p.cells c).op ≡ Answer j → is_access (site_at p.sites j).act ≡ true → HoldsOwn (build_of p plan slots) t packet (row c) h
      → LeadsInto p t (site_at p.sites j).map (access_pointer h (site_at p.sites j))
  read_leads c j l o access holds = leads (row c) j holds (law.sited.known c j l (ap site_in o)) access (λ x through. read_behind c j x l o through)

  pub site_leads : (j : ℕ) → j < length p.sites → is_access (site_at p.sites j).act ≡ true → HoldsOwn (build_of p plan slots) t packet (suc plan.commit) h
      → LeadsInto p t (site_at p.sites j).map (access_pointer h (site_at p.sites j))
  site_leads j l access holds = leads (suc plan.commit) j holds l access (λ x through.
      let s = site_at p.sites j in
      let high = (site_early p plan is j l).operands in
      let up = All-contains (λ i. row i ≤ greatest row s.operands) s.operands x (greatest_above row s.operands) (goes_by h s.act s.operands x through).there in
      omega (arith, up, high))

pub pointers_lead : HaveValues → RowsRise → PointersLead
pointers_lead have rise g p plan slots law is t packet r h j l access low holds =
    let s = site_at p.sites j in
    leads have rise g p plan slots law is t packet h r j holds l access (λ c through. subst (λ x. slice_index plan.rows x < r) (operand_is s.act s.operands c through) low)

pub reads_lead : HaveValues → RowsRise → ReadsLead
reads_lead have rise g p plan slots law is t packet h c j = read_leads have rise g p plan slots law is t packet h c j

pub sites_lead : HaveValues → RowsRise → SitesLead
sites_lead have rise g p plan slots law is t packet h j = site_leads have rise g p plan slots law is t packet h j

pub records_lead : HaveValues → RowsRise → WritesLead → RecordsLead
records_lead have rise writes g p plan slots law is t packet h j l record_is holds = by (site_at p.sites j).act refl record_is
  where
    k : MapKind
    k = (decl_of t.decls (site_at p.sites j).map).kind

    Leads : Act → Type 0
    Leads a = LeadsInto p t (site_at p.sites j).map (written_as a k p t h j)

    change : (a : Act) → (site_at p.sites j).act ≡ a → (is_update a || is_delete a) ≡ true → Leads a
    change a e changes = subst Leads e (writes p t h j holds.founds (ap (λ (b : Act). is_update b || is_delete b) e ∙ changes))

    access : is_access (site_at p.sites j).act ≡ true → LeadsInto p t (site_at p.sites j).map (access_pointer h (site_at p.sites j))
    access e = site_leads have rise g p plan slots law is t packet h j l e holds

    by : (a : Act) → (site_at p.sites j).act ≡ a → records a ≡ true → Leads a
    by act.Update e r = change act.Update e refl
    by act.Delete e r = change act.Delete e refl
    by (act.Store at size) e r = access (ap is_access e)
    by (act.Atomic at a) e r = access (ap is_access e)
    by act.Lookup e r = absurd (cc)
    by (act.Load at size) e r = absurd (cc)
