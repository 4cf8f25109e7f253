-- The run of the machine goes from node to node, and touches what the operations of the sites touch whose guards are on.
use Rattle.std.proofs.Common.{◌≡◌, ℕ, suc, ◌+◌, ◌==◌, Bool, true, false, if◌then◌else◌, List, [], ◌∷◌, ◌++◌, refl, sym, ◌∙◌, ap, subst, arith}
use Rattle.std.specs.Prelude.{ℤ, pos, negsuc, Option, Some, None, All}
use Rattle.std.proofs.Math.Nat.{add_assoc}
use Rattle.std.proofs.lemmas.Bool.Decides.{nat_tests}
use Rattle.std.proofs.lemmas.List.{append-nil, append_assoc}
use Rattle.std.proofs.lemmas.List.Elements.{All-head, All-tail}
use Rattle.xdp_machine.specs.bpf_isa.declared.operation.Op.{Op}
use Rattle.xdp_machine.specs.bpf_isa.declared.operation.Op.TheVariants.{Load, LoadSigned, StoreImm, Store, Atomic, Call}
use Rattle.xdp_machine.specs.bpf_isa.declared.instruction.Insn.{Insn}
use Rattle.xdp_machine.specs.bpf_isa.Spelling.{units_of}
use Rattle.xdp_machine.specs.bpf_isa.Text.{insn_at}
use Rattle.xdp_machine.specs.xdp_maps.State.{MapState}
use Rattle.xdp_machine.specs.Values.{◌>>=◌}
use Rattle.xdp_machine.specs.State.{Code, Machine, begins}
use Rattle.xdp_machine.specs.Step.{Outcome, Goes, Ends, NoCase, goes_to, goes_on, outcome, outcome_at, effect, step}
use Rattle.xdp_machine.specs.Runs.{Ended, run}
use Rattle.xdp_machine.specs.Touched as machine
use Rattle.xdp_machine.specs.Touched.{Touched, nothing, both, touched_by, touched_at, operation_as, operation_at}
use Rattle.xdp_machine.proofs.RunLaws.{run_first}
use Rattle.cell_core.specs.Cells.{on, bit}
use Rattle.cell_core.specs.Sites.{SiteView, operation_on, applied, after, touched}
use Rattle.operator_cells.specs.HeldCells.Paths.{GraphView, Stage, At, Over, Nowhere, visit, stepped, stands_at, maps_in}
use Rattle.operator_cells.specs.HeldCells.Steps.{DoAs}

-- ---- what is touched

both_nothing : (a : Touched) → both a nothing ≡ a
both_nothing a =
    ap (λ xs. record { reads = xs; writes = a.writes ++ []; writing = a.writing + 0 }) (append-nil a.reads)
    ∙ ap (λ xs. record { reads = a.reads; writes = xs; writing = a.writing + 0 }) (append-nil a.writes)
    ∙ ap (λ (n : ℕ). record { reads = a.reads; writes = a.writes; writing = n }) (omega arith)

nothing_both : (a : Touched) → both nothing a ≡ a
nothing_both a = ap (λ (n : ℕ). record { reads = a.reads; writes = a.writes; writing = n }) (omega arith)

both_assoc : (a b c : Touched) → both (both a b) c ≡ both a (both b c)
both_assoc a b c =
    ap (λ xs. record { reads = xs; writes = (a.writes ++ b.writes) ++ c.writes; writing = a.writing + b.writing + c.writing }) (append_assoc a.reads b.reads c.reads)
    ∙ ap (λ xs. record { reads = a.reads ++ (b.reads ++ c.reads); writes = xs; writing = a.writing + b.writing + c.writing }) (append_assoc a.writes b.writes c.writes)
    ∙ ap (λ (n : ℕ). record { reads = a.reads ++ (b.reads ++ c.reads); writes = a.writes ++ (b.writes ++ c.writes); writing = n }) (add_assoc a.writing b.writing c.writing)

touched_append : (v : ℕ → ℕ) (maps : MapState) (xs ys : List SiteView) → touched v maps (xs ++ ys) ≡ both (touched v maps xs) (touched v (after v maps xs) ys)
touched_append v maps [] ys = sym (nothing_both (touched v maps ys))
touched_append v maps (x ∷ xs) ys =
    let first : Touched = if on (v x.guard) then touched_by maps (Some (x.map, operation_on v maps x)) else nothing in
    ap (both first) (touched_append v (applied v maps x) xs ys) ∙ sym (both_assoc first (touched v (applied v maps x) xs) (touched v (after v (applied v maps x) xs) ys))

touched_off : (v : ℕ → ℕ) (maps : MapState) (xs : List SiteView) → All (λ x. on (v x.guard) ≡ false) xs → touched v maps xs ≡ nothing
touched_off v maps [] h = refl
touched_off v maps (x ∷ xs) h =
    ap (λ (t : Bool). both (if t then touched_by maps (Some (x.map, operation_on v maps x)) else nothing) (touched v (applied v maps x) xs)) (All-head (λ y. on (v y.guard) ≡ false) x xs h)
    ∙ nothing_both (touched v (applied v maps x) xs) ∙ touched_off v (applied v maps x) xs (All-tail (λ y. on (v y.guard) ≡ false) x xs h)

does_touch : (code : Code) (v : ℕ → ℕ) (m : Machine) (xs : List SiteView) → DoAs v m.maps xs (operation_at code m) → All (λ x. on (v x.guard) ≡ true) xs → touched v m.maps xs ≡ touched_at code m
does_touch code v m [] does h = sym (ap (touched_by m.maps) does)
does_touch code v m (x ∷ []) does h =
    ap (λ (t : Bool). both (if t then touched_by m.maps (Some (x.map, operation_on v m.maps x)) else nothing) nothing) (All-head (λ y. on (v y.guard) ≡ true) x [] h)
    ∙ both_nothing (touched_by m.maps (Some (x.map, operation_on v m.maps x))) ∙ sym (ap (touched_by m.maps) does)
does_touch code v m (x ∷ y ∷ more) does h = absurd does

touched_first : (code : Code) (n : ℕ) (m : Machine) (o : Outcome) → step code m ≡ o → machine.touched code (suc n) m ≡ machine.and_then (touched_at code m) (machine.touched code n) o
unfolding machine.touched
touched_first code n m o e = ap (machine.and_then (touched_at code m) (machine.touched code n)) e

-- ---- an end operates on no map

never : {X : Type 0} (insns : List Insn) (place : ℤ) (m : Machine) (verdict : ℕ) → goes_to insns place m ≡ Ends verdict → X
never insns (pos place) m verdict h = by (begins insns place) h
  where
    by : {X : Type 0} (t : Bool) → (if t then Goes (record m { place = place }) else NoCase) ≡ Ends verdict → X
    by true e = absurd (cc)
    by false e = absurd (cc)
never insns (negsuc place) m verdict h = absurd (cc)

never_on : {X : Type 0} (insns : List Insn) (place units : ℕ) (r : Option Machine) (verdict : ℕ) → goes_on insns place units r ≡ Ends verdict → X
never_on insns place units (Some m) verdict h = never insns (pos (place + units)) m verdict h
never_on insns place units None verdict h = absurd (cc)

ends_plain : (code : Code) (m : Machine) (i : Insn) (op : Op) (verdict : ℕ) → outcome code m i op ≡ Ends verdict → operation_as m i op ≡ None
ends_plain code m i (Load size) verdict h = never_on code.insns m.place (units_of (Load size)) (effect code.refs m i (Load size)) verdict h
ends_plain code m i (LoadSigned size) verdict h = never_on code.insns m.place (units_of (LoadSigned size)) (effect code.refs m i (LoadSigned size)) verdict h
ends_plain code m i (StoreImm size) verdict h = never_on code.insns m.place (units_of (StoreImm size)) (effect code.refs m i (StoreImm size)) verdict h
ends_plain code m i (Store size) verdict h = never_on code.insns m.place (units_of (Store size)) (effect code.refs m i (Store size)) verdict h
ends_plain code m i (Atomic size) verdict h = never_on code.insns m.place (units_of (Atomic size)) (effect code.refs m i (Atomic size)) verdict h
ends_plain code m i Call verdict h = never_on code.insns m.place (units_of Call) (effect code.refs m i Call) verdict h
ends_plain code m i op verdict h = refl

ends_nothing : (code : Code) (m : Machine) (verdict : ℕ) → step code m ≡ Ends verdict → operation_at code m ≡ None
ends_nothing code m verdict h = by (insn_at code.insns m.place) h
  where
    by : (o : Option Insn) → outcome_at code m o ≡ Ends verdict → (o >>= λ i. operation_as m i i.op) ≡ None
    by None e = refl
    by (Some i) e = ends_plain code m i i.op verdict e

-- ---- the run, as far as a node

-- after so many steps the run stands there, and has touched this
abbrev pub Comes : Code → Machine → Touched → Stage → Type 0
Comes code first t (At n m) = (i : ℕ) × ((j : ℕ) → run code (i + j) first ≡ run code j m) × ((j : ℕ) → machine.touched code (i + j) first ≡ both t (machine.touched code j m))
Comes code first t (Over e) = (i : ℕ) × (run code i first ≡ Ended e) × (machine.touched code i first ≡ t)
Comes code first t Nowhere = Unit {0}

pub comes_first : (code : Code) (m : Machine) → Comes code m nothing (At 0 m)
comes_first code m = (
  0,
  (λ j. let e : 0 + j ≡ j = omega arith in ap (λ (n : ℕ). run code n m) e),
  (λ j. let e : 0 + j ≡ j = omega arith in ap (λ (n : ℕ). machine.touched code n m) e ∙ sym (nothing_both (machine.touched code j m))),
)

step_on : (i j : ℕ) → i + 1 + j ≡ i + suc j
step_on i j = omega arith

-- a step at a node
comes_step : (g : GraphView) (first : Machine) (t : Touched) (k : ℕ) (m : Machine) (o : Outcome) → step g.code m ≡ o → Comes g.code first t (At k m) → Comes g.code first (both t (touched_at g.code m)) (stepped g k m o)
comes_step g first t k m (Goes next) e (i, ran, saw) = (
  i + 1,
  (λ j. ap (λ (n : ℕ). run g.code n first) (step_on i j) ∙ ran (suc j) ∙ run_first g.code (suc j) j m (Goes next) refl e),
  (λ j. ap (λ (n : ℕ). machine.touched g.code n first) (step_on i j) ∙ saw (suc j) ∙ ap (both t) (touched_first g.code j m (Goes next) e) ∙ sym (both_assoc t (touched_at g.code m) (machine.touched g.code j next))),
)
comes_step g first t k m (Ends verdict) e (i, ran, saw) = (
  i + 1,
  ran 1 ∙ run_first g.code 1 0 m (Ends verdict) refl e,
  saw 1 ∙ ap (both t) (touched_first g.code 0 m (Ends verdict) e ∙ sym (ap (touched_by m.maps) (ends_nothing g.code m verdict e))),
)
comes_step g first t k m NoCase e c = tt

-- what the sites of a node touch, where their guards are on exactly where the run stands there
sites_touch : (g : GraphView) (v : ℕ → ℕ) (k : ℕ) (none maps : MapState) (s : Stage) (xs : List SiteView) → maps ≡ maps_in none s → All (λ x. v x.guard ≡ bit (stands_at k s)) xs
    → ((m : Machine) → s ≡ At k m → DoAs v m.maps xs (operation_at g.code m)) → (first : Machine) (t : Touched) → Comes g.code first t s → Comes g.code first (both t (touched v maps xs)) (visit g k s)
sites_touch g v k none maps (At n m) xs same guards does first t c = by (n == k) refl
  where
    on_bit : (b : Bool) → on (bit b) ≡ b
    on_bit true = refl
    on_bit false = refl

    guarded : (b : Bool) → (n == k) ≡ b → All (λ x. on (v x.guard) ≡ b) xs
    guarded b e i d l = ap on (guards i d l) ∙ on_bit (n == k) ∙ e

    by : (b : Bool) → (n == k) ≡ b → Comes g.code first (both t (touched v maps xs)) (if b then stepped g k m (step g.code m) else At n m)
    by true e =
        let is : n ≡ k = grind (arith, nat_tests) in
        subst (λ (x : Touched). Comes g.code first (both t x) (stepped g k m (step g.code m)))
        (sym (ap (λ (ms : MapState). touched v ms xs) same ∙ does_touch g.code v m xs (does m (ap (λ (j : ℕ). At j m) is)) (guarded true e)))
        (comes_step g first t k m (step g.code m) refl (subst (λ (j : ℕ). Comes g.code first t (At j m)) is c))
    by false e = subst (λ (x : Touched). Comes g.code first x (At n m)) (sym (ap (both t) (touched_off v maps xs (guarded false e)) ∙ both_nothing t)) c
sites_touch g v k none maps (Over e) xs same guards does first t c =
    subst (λ (x : Touched). Comes g.code first x (Over e)) (sym (ap (both t) (touched_off v maps xs (λ i d l. ap on (guards i d l))) ∙ both_nothing t)) c
sites_touch g v k none maps Nowhere xs same guards does first t c = tt

-- one node more
pub comes_more : (g : GraphView) (v : ℕ → ℕ) (k : ℕ) (maps : MapState) (s : Stage) (below xs : List SiteView) → after v maps below ≡ maps_in maps s → All (λ x. v x.guard ≡ bit (stands_at k s)) xs
    → ((m : Machine) → s ≡ At k m → DoAs v m.maps xs (operation_at g.code m)) → (first : Machine) → Comes g.code first (touched v maps below) s → Comes g.code first (touched v maps (below ++ xs)) (visit g k s)
comes_more g v k maps s below xs same guards does first c =
    subst (λ (x : Touched). Comes g.code first x (visit g k s)) (sym (touched_append v maps below xs))
    (sites_touch g v k maps (after v maps below) s xs same guards does first (touched v maps below) c)
