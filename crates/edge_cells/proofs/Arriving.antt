-- The first edge that is on, and the node that it leads to.
use Rattle.std.proofs.Common.{◌≡◌, ℕ, zero, suc, ◌<◌, ◌≤◌, ◌==◌, ◌||◌, Bool, true, false, if◌then◌else◌, List, [], ◌∷◌, length, get_or, map as map_list, refl, sym, ◌∙◌, ap, subst, arith}
use Rattle.std.specs.Prelude.{All, Contains}
use Rattle.std.specs.List.{list_any}
use Rattle.std.proofs.lemmas.Bool.Decides.{nat_tests}
use Rattle.std.proofs.lemmas.List.Elements.{All-contains, Contains-get_or}
use Rattle.xdp_machine.specs.State.{PacketIn, Machine}
use Rattle.cell_core.specs.Cells.{CellView, on, bit}
use Rattle.operator_cells.specs.Making.{Makes}
use Rattle.operator_cells.specs.declared.held_cells.way.Way.{Way}
use Rattle.operator_cells.specs.declared.held_cells.way.Exit.{Exit}
use Rattle.operator_cells.specs.HeldCells.Paths.{GraphView, Stage, At, Over, Nowhere, stands_at}
use Rattle.operator_cells.specs.HeldCells.RegisterCells.{PointerView}
use Rattle.operator_cells.specs.HeldCells.Carrying.{IsKnown}
use Rattle.operator_cells.specs.HeldCells.Steps.{Leads, IsGood}
use Rattle.edge_cells.specs.Meeting.{first_on}
use Rattle.operator_cells.proofs.MakingLaws.{grown_none}
use Rattle.edge_cells.specs.Joining.{any_on, Guards, LeadTo, HereIsRight}

-- where an edge is on so is the first one that is on
abbrev IsOn : (ℕ → ℕ) → List Way → Way → ℕ → Type 0
IsOn v here d i = (i < length here) × (on (v (get_or here i d).bit) ≡ true)

on_first : (v : ℕ → ℕ) (here : List Way) (i : ℕ) (d : Way) → i < length here → on (v (get_or here i d).bit) ≡ true → IsOn v here d (first_on v here)
on_first v [] i d l h = absurd (omega arith)
on_first v (a ∷ []) zero d l h = (omega arith, h)
on_first v (a ∷ []) (suc i) d l h = absurd (omega arith)
on_first v (a ∷ b ∷ more) zero d l h = subst (λ (t : Bool). IsOn v (a ∷ b ∷ more) d (if t then 0 else suc (first_on v (b ∷ more)))) (sym h) (omega arith, h)
on_first v (a ∷ b ∷ more) (suc i) d l h = by (on (v a.bit)) refl (on_first v (b ∷ more) i d (omega arith) h)
  where
    by : (t : Bool) → on (v a.bit) ≡ t → IsOn v (b ∷ more) d (first_on v (b ∷ more)) → IsOn v (a ∷ b ∷ more) d (if t then 0 else suc (first_on v (b ∷ more)))
    by true e rest = (omega arith, e)
    by false e rest = (omega (arith, rest.0), rest.1)

-- some edge is on
any_some : (v : ℕ → ℕ) (here : List Way) → any_on v here ≡ true → (e : Way) × Contains here e × (on (v e.bit) ≡ true)
any_some v [] h = absurd (cc)
any_some v (a ∷ more) h = by (on (v a.bit)) refl h (any_some v more)
  where
    by : (t : Bool) → on (v a.bit) ≡ t → (t || any_on v more) ≡ true → (any_on v more ≡ true → (e : Way) × Contains more e × (on (v e.bit) ≡ true)) → (e : Way) × Contains (a ∷ more) e × (on (v e.bit) ≡ true)
    by true e all rest = (a, (0, omega arith, refl), e)
    by false e all rest = let r = rest all in (r.0, (suc r.1.0, omega (arith, r.1.1), r.1.2), r.2)

some_any : (v : ℕ → ℕ) (here : List Way) (i : ℕ) (d : Way) → i < length here → on (v (get_or here i d).bit) ≡ true → any_on v here ≡ true
some_any v [] i d l h = absurd (omega arith)
some_any v (a ∷ more) zero d l h = ap (λ (t : Bool). t || any_on v more) h
some_any v (a ∷ more) (suc i) d l h = by (on (v a.bit)) (some_any v more i d (omega arith) h)
  where
    by : (t : Bool) → any_on v more ≡ true → (t || any_on v more) ≡ true
    by true e = refl
    by false e = e

same_truth : (a b : Bool) → (a ≡ true → b ≡ true) → (b ≡ true → a ≡ true) → a ≡ b
same_truth true b f g = sym (f refl)
same_truth false true f g = g refl
same_truth false false f g = refl

stands : (k : ℕ) (s : Stage) → stands_at k s ≡ true → (m : Machine) × (s ≡ At k m)
stands k (At n m) h = (m, let e : n ≡ k = grind (arith, nat_tests) in ap (λ (j : ℕ). At j m) e)
stands k (Over e) h = absurd (cc)
stands k Nowhere h = absurd (cc)

at_own : (k : ℕ) → (k == k) ≡ true
at_own k = grind (arith, nat_tests)

-- of the edges that lead to a node one is on exactly where the run stands there
guard_stands : (g : GraphView) (packet : PacketIn) (v : ℕ → ℕ) (ps : List PointerView) (k : ℕ) (ways here : List Way) (exits : List Exit) (s : Stage)
    → LeadTo k ways here → IsGood g packet v ps k ways exits s → any_on v here ≡ stands_at k s
guard_stands g packet v ps k ways here exits s lead good = same_truth (any_on v here) (stands_at k s) there back
  where
    led : (e : Way) → Contains here e → e.to ≡ k
    led e c = All-contains (λ w. w.to ≡ k) here e lead.to c

    there : any_on v here ≡ true → stands_at k s ≡ true
    there h = let e = any_some v here h in
        let to : e.0.to ≡ k = led e.0 e.1 in
        let leads : k ≤ e.0.to → Leads g packet v ps s e.0 = All-contains (λ w. k ≤ w.to → Leads g packet v ps s w) ways e.0 good.each (lead.among e.0 e.1) in
        let at = leads (omega (arith, to)) e.2 in
        ap (stands_at k) at.1 ∙ ap (λ (j : ℕ). j == k) to ∙ at_own k

    back : stands_at k s ≡ true → any_on v here ≡ true
    back h = let at = stands k s h in
        let e = good.some k at.0 at.1 in
        let c = lead.all e.0 e.1 e.2 in
        some_any v here c.0 e.0 c.1 (ap (λ (w : Way). on (v w.bit)) c.2 ∙ e.3)

pub here_is_right : HereIsRight
here_is_right g packet v ps qs k old new ways here exits guard h s joins lead run good = record {
  guard_is = joins.guards.value packet v run (λ i d l. All-contains (λ e. v e.bit < 2) ways (get_or here i d) good.bits (lead.among (get_or here i d) (Contains-get_or here i d l)))
      ∙ ap bit (guard_stands g packet v ps k ways here exits s lead good);
  placed = good.placed k;
  known = λ m at.
      let e = good.some k m at in
      let c = lead.all e.0 e.1 e.2 in
      let first = on_first v here c.0 e.0 c.1 (ap (λ (w : Way). on (v w.bit)) c.2 ∙ e.3) in
      let f : Way = get_or here (first_on v here) e.0 in
      let to : f.to ≡ k = lead.to (first_on v here) e.0 first.0 in
      let leads : k ≤ f.to → Leads g packet v ps s f = All-contains (λ w. k ≤ w.to → Leads g packet v ps s w) ways f good.each (lead.among f (Contains-get_or here (first_on v here) e.0 first.0)) in
      let stood = leads (omega (arith, to)) first.1 in
      let same : stood.0 ≡ m = cc (stood.1, at) in
      joins.known packet v k e.0 m run
      (subst (λ (n : Machine). IsKnown g.decls packet v ps k f.kinds f.held n) same
      (subst (λ (j : ℕ). IsKnown g.decls packet v ps j f.kinds f.held stood.0) to stood.2));
}

-- ---- the guard

pub any_bits : (v : ℕ → ℕ) (here : List Way) → list_any on (map_list v (map_list (λ (e : Way). e.bit) here)) ≡ any_on v here
any_bits v [] = refl
any_bits v (e ∷ here) = ap (λ (t : Bool). on (v e.bit) || t) (any_bits v here)

a_bit : (n : ℕ) → n < 2 → n ≡ bit (on n || false)
a_bit zero h = refl
a_bit (suc zero) h = refl
a_bit (suc (suc n)) h = absurd (omega arith)

pub one_guards : (cells : List CellView) (here : List Way) (c : ℕ) → length here ≡ 1 → All (λ e. e.bit < length cells) here → ((d : Way) → c ≡ (get_or here 0 d).bit) → Guards cells cells here c
one_guards cells [] c h there is = absurd (omega arith)
one_guards cells (e ∷ f ∷ more) c h there is = absurd (omega arith)
one_guards cells (e ∷ []) c h there is = record {
  grows = grown_none;
  there = omega (arith, is e, there 0 e (omega arith));
  value = λ packet v run bits. ap v (is e) ∙ a_bit (v e.bit) (bits 0 e (omega arith));
}

pub made_guards : (old new : List CellView) (here : List Way) (c : ℕ) (bits : List ℕ) → bits ≡ map_list (λ (e : Way). e.bit) here → Makes old new c (λ packet v. bit (list_any on (map_list v bits))) → Guards old new here c
made_guards old new here c bits is made = record {
  grows = made.grows;
  there = made.there;
  value = λ packet v run small. made.value packet v run ∙ ap (λ (xs : List ℕ). bit (list_any on (map_list v xs))) is ∙ ap bit (any_bits v here);
}
