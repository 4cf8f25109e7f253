-- From one node to the next pointers come from lookups, and accesses go through them.
use Rattle.std.proofs.Common.{◌≡◌, ◌≢◌, ℕ, ◌+◌, ◌-◌, ◌<◌, ◌≤◌, ◌⊎◌, inl, inr, true, false, Some, None, List, [], ◌∷◌, ◌++◌, length, length-append, get_or, map as map_list, refl, sym, ◌∙◌, ap, subst, arith}
use Rattle.std.specs.Prelude.{All, Contains}
use Rattle.std.specs.List.{AllPairs}
use Rattle.std.proofs.Math.ListN.{get_or-append}
use Rattle.std.proofs.Math.Seq.{get_or-append_seam, get_or-append_right}
use Rattle.std.proofs.lemmas.Bool.{cases_lt, false≢true}
use Rattle.std.proofs.lemmas.List.{append-nil, append_cancel_left}
use Rattle.std.proofs.lemmas.List.Elements.{All-nil, All-cons, All-head, All-append, All-contains, All-weaker, Contains-get_or, Contains-append_cases}
use Rattle.xdp_machine.specs.bpf_isa.declared.instruction.Insn.{Insn}
use Rattle.xdp_machine.specs.xdp_maps.declared.decl.MapDecl.{MapDecl}
use Rattle.xdp_machine.specs.State.{PacketIn}
use Rattle.kind_core.specs.declared.kind.Kinds.{Kinds}
use Rattle.kind_core.specs.Kinds.{key_bytes, is_hash}
use Rattle.cell_core.specs.declared.operator.Operator.TheVariants.{Found}
use Rattle.cell_core.specs.declared.site.Act.{Act}
use Rattle.cell_core.specs.declared.site.Act.TheVariants as act
use Rattle.cell_core.specs.Cells.{CellView, IsRun, cell_at, site_in, on}
use Rattle.cell_core.specs.Sites.{SiteView, no_site, site_at, bytes_of}
use Rattle.operator_cells.specs.Making.{Grows, GrowsWith}
use Rattle.operator_cells.specs.Following.{IsFollowed}
use Rattle.operator_cells.proofs.MakingLaws.{grown_with, reads_none}
use Rattle.operator_cells.specs.declared.held_cells.machine_cells.RegisterCells.{RegisterCells}
use Rattle.operator_cells.specs.declared.held_cells.way.Way.{Way}
use Rattle.operator_cells.specs.declared.held_cells.way.Exit.{Exit}
use Rattle.operator_cells.specs.HeldCells.Paths.{GraphView, node_at}
use Rattle.operator_cells.specs.HeldCells.RegisterCells.{PointerView, pointer_at}
use Rattle.operator_cells.specs.HeldCells.Steps.{Steps, ReadsOwn}
use Rattle.operator_cells.specs.HeldCells.Pointing.{Pointing, HoldsPointer, changes_keys, GoesThrough, IsFoundOf, LookupPoints, ChangePoints, AccessPoints, PointsAs, PlainPoints, InstructionPoints, AnswerAlike, WasHeld, EdgesPoint, IsSamePointer, IsLookedUp, AreLookedUp, is_access, IsLookupAccess, IsThrough, FoundsAre, RegisterCellsAre, PointerIs}
use Rattle.edge_cells.specs.declared.joining.Here.{Here}
use Rattle.edge_cells.specs.Meeting.{Extends}
use Rattle.edge_cells.proofs.GrowthLaws.{followed_before}
use Rattle.edge_cells.proofs.ExtendingLaws.{extended, same_pointer, pointer_new}
use Rattle.predicate_core.specs.StepCells.Stepping.{MadeView}
use Rattle.predicate_core.specs.StepCells.Pointing.{AlongPoints, JumpPoints, NodePoints}
use Rattle.predicate_core.specs.Making.{Making, IsSoFar, Arrives}
use Rattle.predicate_core.specs.Laws.{NodesPoint}
use Rattle.predicate_core.specs.Pointing.{PointInto, PointWith, PointSoFar, ComesAlong, WasBrought, ArrivePoints}
use Rattle.predicate_core.proofs.Pointers.{inside_pointer, same_later, looked_more, access_more, access_at}

-- ---- sites in strictly ascending nodes

ascending_more : (k : ℕ) (ss more : List SiteView) → length more ≤ 1 → All (λ s. s.node < k) ss → All (λ s. s.node ≡ k) more → AllPairs (λ s r. s.node < r.node) ss → AllPairs (λ s r. s.node < r.node) (ss ++ more)
ascending_more k ss more few low is pairs i j d l h = by (cases_lt j (length ss))
  where
    by : (j < length ss) ⊎ (length ss ≤ j) → (get_or (ss ++ more) i d).node < (get_or (ss ++ more) j d).node
    by (inl b) = let p = pairs i j d l b in
        omega (arith, p, ap (λ (s : SiteView). s.node) (get_or-append ss more d i (omega (arith, l, b))), ap (λ (s : SiteView). s.node) (get_or-append ss more d j b))
    by (inr b) =
        let m : i < length ss = omega (arith, l, h, few, length-append ss more) in
        let e = is (j - length ss) d (omega (arith, b, h, length-append ss more)) in
        let f = low i d m in
        omega (arith, e, f, ap (λ (s : SiteView). s.node) (get_or-append ss more d i m), ap (λ (s : SiteView). s.node) (get_or-append_right ss more j d b))

-- one site of a node
one_site : (ss : List SiteView) (i j : ℕ) → AllPairs (λ s r. s.node < r.node) ss → i < length ss → j < length ss → (site_at ss i).node ≡ (site_at ss j).node → i ≡ j
one_site ss i j pairs l m same = by (cases_lt i j) (cases_lt j i)
  where
    by : (i < j) ⊎ (j ≤ i) → (j < i) ⊎ (i ≤ j) → i ≡ j
    by (inl a) b = let p = pairs i j no_site a m in absurd (omega (arith, p, same))
    by (inr a) (inl b) = let p = pairs j i no_site b l in absurd (omega (arith, p, same))
    by (inr a) (inr b) = omega (arith, a, b)

-- so all answers of its lookup have one found bit
answers_alike : (decls : List MapDecl) (cells : List CellView) (ss : List SiteView) (v u : ℕ → ℕ) (ps : List PointerView) (k : Kinds) (h : RegisterCells) → AllPairs (λ s r. s.node < r.node) ss → AreLookedUp decls cells ss v u ps k h → AnswerAlike v ps k h
answers_alike decls cells ss v u ps k h pairs looked x y n hx hy ex ey =
    let a = looked x hx in
    let b = looked y hy in
    let same : a.lookup ≡ b.lookup = one_site ss a.lookup b.lookup pairs a.there b.there (a.node n ex ∙ sym (b.node n ey)) in
    let cell : a.cell ≡ b.cell = b.is_found.only a.cell a.is_found.there (a.is_found.is ∙ ap (λ (j : ℕ). Found j) same) in
    a.found ∙ ap v cell ∙ sym b.found

-- an answer of a lookup that found its key is a place in the entry
entry_found : (decls : List MapDecl) (cells : List CellView) (ss : List SiteView) (v u : ℕ → ℕ) (ps : List PointerView) (x : Pointing) (n : ℕ) → x.node ≡ None → on (v (pointer_at ps x.pointer).found) ≡ true
    → IsLookedUp decls cells ss v u ps (record { map = x.map; node = Some n; pointer = x.pointer }) → IsLookedUp decls cells ss v u ps x
entry_found decls cells ss v u ps x n none o l = record {
  lookup = l.lookup;
  there = l.there;
  looks_up = l.looks_up;
  map = l.map;
  guard = l.guard;
  key = l.key;
  cell = l.cell;
  is_found = l.is_found;
  found = l.found;
  goes = l.goes;
  some = λ e. ap (λ (b : ℕ). on b) (sym l.found) ∙ o;
  node = λ m e. cc;
  between = l.between;
}

-- ---- what a node adds

-- For these values of cells: the edges that are added are on only where the guard is, and hold pointers of lookups; so does each access.
pub record Adds (decls : List MapDecl) (t : List Way) (before : List SiteView) (new : MadeView) (guard : ℕ) (v u : ℕ → ℕ) : Type 0 where
  pub more : List Way
  pub ways_are : new.ways ≡ t ++ more
  pub bits : All (λ e. v e.bit < 2) more
  pub guarded : All (λ e. on (v e.bit) ≡ true → on (v guard) ≡ true) more
  pub one : (e f : Way) → Contains more e → Contains more f → on (v e.bit) ≡ true → on (v f.bit) ≡ true → e.to ≡ f.to
  pub held : All (λ e. on (v e.bit) ≡ true → AreLookedUp decls new.cells new.sites v u new.pointers e.kinds e.held) more
  pub accesses : (j : ℕ) → length before ≤ j → j < length new.sites → is_access (site_at new.sites j).act ≡ true → on (v (site_at new.sites j).guard) ≡ true → IsLookupAccess decls new.cells new.sites v u j
  pub into : (m n : ℕ) → FoundsAre new.cells new.sites u m n → All (λ e. RegisterCellsAre u m n new.pointers e.kinds e.held) more
  pub through : (m n : ℕ) → FoundsAre new.cells new.sites u m n → (j : ℕ) → length before ≤ j → j < length new.sites → is_access (site_at new.sites j).act ≡ true → (site_at new.sites j).map ≡ m → PointerIs new.sites u n j

module _ (g : GraphView) (k : ℕ) (hs : List RegisterCells) (t : Making) (cells : List CellView) (ps : List PointerView) (new : MadeView) (here : Here) (exits : List Exit) (insn : Insn) (pending : List ℕ)
    (so_far : IsSoFar g k hs t) (arrives : Arrives g k t cells ps here.guard here.held)
    (s : Steps g k here.guard here.held cells new.cells ps new.pointers t.sites new.sites t.ways new.ways exits new.exits)
    (comes : ArrivePoints g.decls k (node_at g.nodes k).kinds cells t.pointers ps t.ways here.guard here.held)
    (before : PointSoFar g.decls k (record { cells = t.cells; pointers = t.pointers; sites = t.sites; ways = t.ways; exits = t.exits })) where
  abbrev pub kinds : Kinds
  kinds = (node_at g.nodes k).kinds

  abbrev pub reads : ℕ → ℕ → Type 0
  reads = ReadsOwn t.sites new.sites

  abbrev pub old : MadeView
  old = record { cells = cells; pointers = ps; sites = t.sites; ways = t.ways; exits = exits }

  extends : Extends ps new.pointers
  extends = record { more = s.more_pointers; is = s.pointers_are }

  grows : GrowsWith reads t.cells new.cells
  grows = grown_with reads t.cells cells new.cells (reads_none reads t.cells cells arrives.grows) s.grows

  -- a new site is that of this node
  own_site : (r : SiteView) → new.sites ≡ t.sites ++ r ∷ [] → (r.node ≡ k) × (r.guard ≡ here.guard)
  own_site r is = All-head (λ x. (x.node ≡ k) × (x.guard ≡ here.guard)) r []
      (subst (All (λ x. (x.node ≡ k) × (x.guard ≡ here.guard))) (append_cancel_left t.sites s.more (r ∷ []) (sym s.sites_are ∙ is)) s.own)

  -- what holds of it holds of all
  each_new : (P : SiteView → Type 0) (r : SiteView) → new.sites ≡ t.sites ++ r ∷ [] → P r → All P s.more
  each_new P r is p = subst (All P) (append_cancel_left t.sites (r ∷ []) s.more (sym is ∙ s.sites_are)) (All-cons P r [] p (All-nil P))

  none_new : (P : SiteView → Type 0) → new.sites ≡ t.sites → All P s.more
  none_new P is = subst (All P) (append_cancel_left t.sites [] s.more (append-nil t.sites ∙ sym is ∙ s.sites_are)) (All-nil P)

  last_site : (r : SiteView) (j : ℕ) → new.sites ≡ t.sites ++ r ∷ [] → length t.sites ≤ j → j < length new.sites → site_at new.sites j ≡ r
  last_site r j is low high =
      let at : length t.sites ≡ j = (let n = ap length is in omega (arith, low, high, n, length-append t.sites (r ∷ []))) in
      ap (λ (i : ℕ). site_at new.sites i) (sym at) ∙ ap (λ (ss : List SiteView). site_at ss (length t.sites)) is ∙ get_or-append_seam t.sites r [] no_site

  no_through : (r : SiteView) → new.sites ≡ t.sites ++ r ∷ [] → (j : ℕ) → length t.sites ≤ j → j < length new.sites → is_access r.act ≡ false → is_access (site_at new.sites j).act ≡ true → ⊥
  no_through r is j low high none accesses = false≢true (sym none ∙ ap (λ (x : SiteView). is_access x.act) (sym (last_site r j is low high)) ∙ accesses)

  -- no cell before the node's code reads its site
  none_before : (d : ℕ) → d < length cells → (cell_at cells d).op ≢ Found (length t.sites)
  none_before d l is = by (cases_lt d (length t.cells))
    where
      by : (d < length t.cells) ⊎ (length t.cells ≤ d) → ⊥
      by (inl m) = let x = so_far.sited.known d (length t.sites) m (ap (λ (c : CellView). site_in c.op) (sym (arrives.grows.kept d m)) ∙ ap site_in is) in omega (arith, x)
      by (inr m) = arrives.grows.reads d (length t.sites) m l (ap site_in is)

  module _ (packet : PacketIn) (v u : ℕ → ℕ) (run : IsRun packet new.cells v) (follows : IsFollowed new.cells v u) where
    now : PointWith g.decls k (record { cells = t.cells; pointers = t.pointers; sites = t.sites; ways = t.ways; exits = t.exits }) v u
    now = before.each packet v u (grows.run packet v run) (followed_before grows follows)

    pub come : (v here.guard < 2) × (on (v here.guard) ≡ true → ComesAlong g.decls k kinds here.held t.pointers ps t.ways v u) × ((y : Pointing) → HoldsPointer kinds here.held y → WasBrought t.pointers ps t.ways u y)
    come = comes packet v u (s.grows.run packet v run) (followed_before s.grows follows) now.bits

    -- where the node is on the path no edge passes it by
    pub passes : (e : Way) → Contains t.ways e → k + 1 ≤ e.to → on (v e.bit) ≡ true → on (v here.guard) ≡ true → ⊥
    passes e c l o path =
        let a = come.1 path in
        let same = now.one a.edge e a.among c (omega (arith, a.to)) (omega (arith, l)) a.is_on o in
        omega (arith, same, a.to, l)

    abbrev Keeps : Pointing → SiteView → Type 0
    Keeps x r = r.map ≡ x.map → on (v r.guard) ≡ true → is_hash g.decls x.map ≡ true → changes_keys r.act ≡ false

    passing : All (λ e. k + 1 ≤ e.to → on (v e.bit) ≡ true → AreLookedUp g.decls new.cells new.sites v u new.pointers e.kinds e.held) t.ways
    passing i d l low o x holds =
        let e = get_or t.ways i d in
        looked_more reads t.cells new.cells t.sites new.sites s.more grows (λ c j r. r.0) s.sites_are g.decls v u t.pointers new.pointers x x
        (All-weaker (λ r. (r.node ≡ k) × (r.guard ≡ here.guard)) (Keeps x) (λ r own m p h. absurd (passes e (Contains-get_or t.ways i d l) low o (ap (λ (b : ℕ). on (v b)) (sym own.1) ∙ p))) s.more s.own)
        (same_later g.decls v u t.pointers new.pointers x (extended arrives.extends extends) (inside_pointer g.decls (length t.cells) t.pointers e.kinds e.held x (so_far.made.each_way i d l).1 holds))
        (now.held i d l (omega (arith, low)) o x holds)

    looked : on (v here.guard) ≡ true → AreLookedUp g.decls cells t.sites v u ps kinds here.held
    looked path y holds =
        let a = come.1 path in
        let x = a.holds y holds in
        looked_more (λ c j. ⊥) t.cells cells t.sites t.sites [] arrives.grows (λ c j none. absurd none) (sym (append-nil t.sites)) g.decls v u t.pointers ps x.0 y (All-nil (Keeps x.0)) x.2
        (All-contains (λ e. k ≤ e.to → on (v e.bit) ≡ true → AreLookedUp g.decls t.cells t.sites v u t.pointers e.kinds e.held) t.ways a.edge now.held a.among (omega (arith, a.to)) a.is_on x.0 x.1)

    behind : (x : Pointing) → All (Keeps x) s.more → x.pointer < length ps → IsLookedUp g.decls cells t.sites v u ps x → IsLookedUp g.decls new.cells new.sites v u new.pointers x
    behind x keep l is = looked_more reads cells new.cells t.sites new.sites s.more s.grows (λ c j r. r.0) s.sites_are g.decls v u ps new.pointers x x keep (same_later g.decls v u ps new.pointers x extends l) is

    there : (x : Pointing) → HoldsPointer kinds here.held x → x.pointer < length ps
    there x holds = inside_pointer g.decls (length cells) ps kinds here.held x arrives.inside holds

    still : on (v here.guard) ≡ true → (x : Pointing) → All (Keeps x) s.more → HoldsPointer kinds here.held x → IsLookedUp g.decls new.cells new.sites v u new.pointers x
    still path x keep holds = behind x keep (there x holds) (looked path x holds)

    -- ---- into which maps pointers lead, on the path or not

    module _ (m n : ℕ) (founds : FoundsAre new.cells new.sites u m n) where
      founds_before : FoundsAre t.cells t.sites u m n
      founds_before c j l is into =
          let low : j < length t.sites = so_far.sited.known c j l (ap site_in is) in
          founds c j (omega (arith, l, grows.longer)) (ap (λ (x : CellView). x.op) (grows.kept c l) ∙ is)
          (ap (λ (ss : List SiteView). (site_at ss j).map) s.sites_are ∙ ap (λ (x : SiteView). x.map) (get_or-append t.sites s.more no_site j low) ∙ into)

      pub into_before : PointInto (record { cells = t.cells; pointers = t.pointers; sites = t.sites; ways = t.ways; exits = t.exits }) u m n
      into_before = now.into m n founds_before

      pub into_here : RegisterCellsAre u m n ps kinds here.held
      into_here y holds into =
          let f = come.2 y holds in
          f.goes ∙ All-contains (λ e. RegisterCellsAre u m n t.pointers e.kinds e.held) t.ways f.edge into_before.held f.among f.was f.holds (sym f.map ∙ into)

      pub into_still : RegisterCellsAre u m n new.pointers kinds here.held
      into_still y holds into = ap (λ (q : PointerView). u q.found) (same_pointer ps new.pointers y.pointer extends (there y holds)) ∙ into_here y holds into

      pub into_passing : All (λ e. RegisterCellsAre u m n new.pointers e.kinds e.held) t.ways
      into_passing i d l x holds into =
          let e = get_or t.ways i d in
          ap (λ (q : PointerView). u q.found)
          (same_pointer t.pointers new.pointers x.pointer (extended arrives.extends extends) (inside_pointer g.decls (length t.cells) t.pointers e.kinds e.held x (so_far.made.each_way i d l).1 holds))
          ∙ into_before.held i d l x holds into

      module _ (after : Kinds) (next : RegisterCells) where
        new_into : (r : SiteView) → new.sites ≡ t.sites ++ r ∷ [] → LookupPoints kinds here.held after next cells new.cells ps new.pointers (length t.sites) r → RegisterCellsAre u m n new.pointers after next
        new_into r is p y holds into = by (p.held y holds)
          where
            f : IsFoundOf new.cells (length t.sites) p.found
            f = p.is_found none_before

            at : site_at new.sites (length t.sites) ≡ r
            at = last_site r (length t.sites) is (omega arith) (let c = ap length is in omega (arith, c, length-append t.sites (r ∷ [])))

            by : (y ≡ record { map = r.map; node = Some r.node; pointer = length ps }) ⊎ HoldsPointer kinds here.held y → u (pointer_at new.pointers y.pointer).found ≡ n
            by (inr h) = into_still y h into
            by (inl e) =
                ap (λ (x : Pointing). u (pointer_at new.pointers x.pointer).found) e
                ∙ ap (λ (q : PointerView). u q.found) (pointer_new ps new.pointers (record { found = p.found; key = r.key }) (length ps) refl p.pointers_are)
                ∙ founds p.found (length t.sites) f.there f.is (ap (λ (x : SiteView). x.map) at ∙ sym (ap (λ (x : Pointing). x.map) e) ∙ into)

        acts_into : (r : SiteView) → new.sites ≡ t.sites ++ r ∷ [] → (a : Act) → PointsAs a g.decls kinds here.held after next cells new.cells ps new.pointers (length t.sites) r → RegisterCellsAre u m n new.pointers after next
        acts_into r is act.Lookup p = new_into r is p
        acts_into r is act.Update p = λ y holds. into_still y (p.kept y holds)
        acts_into r is act.Delete p = λ y holds. into_still y (p.kept y holds)
        acts_into r is (act.Load at size) p = λ y holds. into_still y (p.kept y holds)
        acts_into r is (act.Store at size) p = λ y holds. into_still y (p.kept y holds)
        acts_into r is (act.Atomic at a) p = λ y holds. into_still y (p.kept y holds)

        pub into_behind : InstructionPoints g.decls insn pending kinds here.held after next cells new.cells ps new.pointers t.sites new.sites → RegisterCellsAre u m n new.pointers after next
        into_behind (inl p) = λ y holds. into_still y (p.kept y holds)
        into_behind (inr p) = acts_into p.2.site p.2.sites_are p.2.site.act p.2.points

        -- the pointer of a new access
        goes_into : (r : SiteView) → new.sites ≡ t.sites ++ r ∷ [] → GoesThrough kinds here.held ps r → (j : ℕ) → length t.sites ≤ j → j < length new.sites → (site_at new.sites j).map ≡ m → PointerIs new.sites u n j
        goes_into r is goes j low high into =
            let at = last_site r j is low high in
            let c : ℕ = (pointer_at ps goes.pointer).found in (
              c,
              subst (λ (x : SiteView). IsThrough x.act x.operands c) (sym at) goes.through,
              into_here (record { map = r.map; node = None; pointer = goes.pointer }) goes.holds (sym (ap (λ (x : SiteView). x.map) at) ∙ into),
            )

        acts_through : (r : SiteView) → new.sites ≡ t.sites ++ r ∷ [] → (a : Act) → r.act ≡ a → PointsAs a g.decls kinds here.held after next cells new.cells ps new.pointers (length t.sites) r
            → (j : ℕ) → length t.sites ≤ j → j < length new.sites → is_access (site_at new.sites j).act ≡ true → (site_at new.sites j).map ≡ m → PointerIs new.sites u n j
        acts_through r is (act.Load at size) e p = λ j low high accesses. goes_into r is p.through j low high
        acts_through r is (act.Store at size) e p = λ j low high accesses. goes_into r is p.through j low high
        acts_through r is (act.Atomic at a) e p = λ j low high accesses. goes_into r is p.through j low high
        acts_through r is act.Lookup e p = λ j low high accesses. absurd (no_through r is j low high (ap is_access e) accesses)
        acts_through r is act.Update e p = λ j low high accesses. absurd (no_through r is j low high (ap is_access e) accesses)
        acts_through r is act.Delete e p = λ j low high accesses. absurd (no_through r is j low high (ap is_access e) accesses)

        pub into_access : InstructionPoints g.decls insn pending kinds here.held after next cells new.cells ps new.pointers t.sites new.sites
            → (j : ℕ) → length t.sites ≤ j → j < length new.sites → is_access (site_at new.sites j).act ≡ true → (site_at new.sites j).map ≡ m → PointerIs new.sites u n j
        into_access (inl p) = λ j low high. absurd (let c = ap length p.sites_are in omega (arith, low, high, c))
        into_access (inr p) = acts_through p.2.site p.2.sites_are p.2.site.act refl p.2.points

    -- ---- an instruction that leads on

    module _ (after : Kinds) (next : RegisterCells) where
      -- what is held after it, and its access
      abbrev AfterNode : Type 0
      AfterNode = (on (v here.guard) ≡ true → AreLookedUp g.decls new.cells new.sites v u new.pointers after next)
          × ((j : ℕ) → length t.sites ≤ j → j < length new.sites → is_access (site_at new.sites j).act ≡ true → on (v (site_at new.sites j).guard) ≡ true → IsLookupAccess g.decls new.cells new.sites v u j)

      plain : PlainPoints kinds here.held after next ps new.pointers t.sites new.sites → AfterNode
      plain p = (
        λ path x holds. still path x (none_new (Keeps x) p.sites_are) (p.kept x holds),
        λ j low high. absurd (let n = ap length p.sites_are in omega (arith, low, high, n)),
      )

      module _ (r : SiteView) (is : new.sites ≡ t.sites ++ r ∷ []) where
        no_access : is_access r.act ≡ false → (j : ℕ) → length t.sites ≤ j → j < length new.sites → is_access (site_at new.sites j).act ≡ true → on (v (site_at new.sites j).guard) ≡ true → IsLookupAccess g.decls new.cells new.sites v u j
        no_access none j low high a o = absurd (false≢true (sym none ∙ ap (λ (x : SiteView). is_access x.act) (sym (last_site r j is low high)) ∙ a))

        new_pointer : r.act ≡ act.Lookup → LookupPoints kinds here.held after next cells new.cells ps new.pointers (length t.sites) r → on (v here.guard) ≡ true
            → IsLookedUp g.decls new.cells new.sites v u new.pointers (record { map = r.map; node = Some r.node; pointer = length ps })
        new_pointer looks p path = record {
          lookup = length t.sites;
          there = high;
          looks_up = ap (λ (x : SiteView). x.act) at ∙ looks;
          map = ap (λ (x : SiteView). x.map) at;
          guard = ap (λ (x : SiteView). on (v x.guard)) at ∙ ap (λ (b : ℕ). on (v b)) (own_site r is).1 ∙ path;
          key = ap (λ (x : SiteView). bytes_of (key_bytes g.decls r.map) (map_list v x.key)) at ∙ ap (λ (q : PointerView). bytes_of (key_bytes g.decls r.map) (map_list v q.key)) (sym pointer);
          cell = p.found;
          is_found = p.is_found none_before;
          found = ap (λ (q : PointerView). v q.found) pointer;
          goes = ap (λ (q : PointerView). u q.found) pointer;
          some = λ e. cc;
          node = λ n e. ap (λ (x : SiteView). x.node) at ∙ cc;
          between = λ i a b. absurd (omega (arith, a, b, count));
        }
          where
            count : length new.sites ≡ length t.sites + 1
            count = ap length is ∙ length-append t.sites (r ∷ [])

            high : length t.sites < length new.sites
            high = omega (arith, count)

            at : site_at new.sites (length t.sites) ≡ r
            at = last_site r (length t.sites) is (omega arith) high

            pointer : pointer_at new.pointers (length ps) ≡ record { found = p.found; key = r.key }
            pointer = pointer_new ps new.pointers (record { found = p.found; key = r.key }) (length ps) refl p.pointers_are

        lookup : r.act ≡ act.Lookup → LookupPoints kinds here.held after next cells new.cells ps new.pointers (length t.sites) r → AfterNode
        lookup looks p = (λ path x holds. by path x (p.held x holds), no_access (ap is_access looks))
          where
            by : on (v here.guard) ≡ true → (x : Pointing) → (x ≡ record { map = r.map; node = Some r.node; pointer = length ps }) ⊎ HoldsPointer kinds here.held x → IsLookedUp g.decls new.cells new.sites v u new.pointers x
            by path x (inl e) = subst (IsLookedUp g.decls new.cells new.sites v u new.pointers) (sym e) (new_pointer looks p path)
            by path x (inr h) = still path x (each_new (Keeps x) r is (λ m o q. ap changes_keys looks)) h

        change : is_access r.act ≡ false → ChangePoints g.decls kinds here.held after next ps new.pointers r → AfterNode
        change none p = (
          λ path x holds. still path x (each_new (Keeps x) r is (λ m o hash. absurd (p.none (ap (is_hash g.decls) m ∙ hash) x holds (sym m)))) (p.kept x holds),
          no_access none,
        )

        access : changes_keys r.act ≡ false → AccessPoints kinds here.held after next ps new.pointers r → AfterNode
        access keeps p = (λ path x holds. still path x (all_kept x) (p.kept x holds), through)
          where
            all_kept : (x : Pointing) → All (Keeps x) s.more
            all_kept x = each_new (Keeps x) r is (λ m o q. keeps)

            through : (j : ℕ) → length t.sites ≤ j → j < length new.sites → is_access (site_at new.sites j).act ≡ true → on (v (site_at new.sites j).guard) ≡ true → IsLookupAccess g.decls new.cells new.sites v u j
            through j low high a o =
                let at = last_site r j is low high in
                let path : on (v here.guard) ≡ true = ap (λ (b : ℕ). on (v b)) (sym (own_site r is).1) ∙ ap (λ (x : SiteView). on (v x.guard)) (sym at) ∙ o in
                let goes : GoesThrough kinds here.held new.pointers (site_at new.sites j) = subst (λ (x : SiteView). GoesThrough kinds here.held new.pointers x) (sym at) (subst (λ (qs : List PointerView). GoesThrough kinds here.held qs r) (sym p.pointers_are) p.through) in
                let x : Pointing = record { map = (site_at new.sites j).map; node = None; pointer = goes.pointer } in
                access_at g.decls new.cells new.sites v u new.pointers goes.pointer j (let n = ap length is in omega (arith, low, high, n, length-append t.sites (r ∷ []))) a goes.key goes.through (still path x (all_kept x) goes.holds)

        by_act : (a : Act) → r.act ≡ a → PointsAs a g.decls kinds here.held after next cells new.cells ps new.pointers (length t.sites) r → AfterNode
        by_act act.Lookup e p = lookup e p
        by_act act.Update e p = change (ap is_access e) p
        by_act act.Delete e p = change (ap is_access e) p
        by_act (act.Load at size) e p = access (ap changes_keys e) p
        by_act (act.Store at size) e p = access (ap changes_keys e) p
        by_act (act.Atomic at a) e p = access (ap changes_keys e) p

      instruction : InstructionPoints g.decls insn pending kinds here.held after next cells new.cells ps new.pointers t.sites new.sites → AfterNode
      instruction (inl p) = plain p
      instruction (inr p) = by_act p.2.site p.2.sites_are p.2.site.act refl p.2.points

    along : AlongPoints g.decls insn pending kinds here old new → Adds g.decls t.ways t.sites new here.guard v u
    along a = record {
      more = a.more;
      ways_are = a.ways_are;
      bits = λ i d l. let e = a.edges i d l in subst (λ (b : ℕ). v b < 2) (sym e.1) come.0;
      guarded = λ i d l o. let e = a.edges i d l in ap (λ (b : ℕ). on (v b)) (sym e.1) ∙ o;
      one = λ e f c d o p. let to = λ (x : Way) (h : Contains a.more x). (All-contains (λ x. (x.to ≡ a.to) × (x.bit ≡ here.guard) × (x.kinds ≡ a.after) × (x.held ≡ a.next)) a.more x a.edges h).0 in to e c ∙ sym (to f d);
      held = λ i d l o.
          let e = a.edges i d l in
          subst (λ (h : RegisterCells). AreLookedUp g.decls new.cells new.sites v u new.pointers (get_or a.more i d).kinds h) (sym e.3)
          (subst (λ (ks : Kinds). AreLookedUp g.decls new.cells new.sites v u new.pointers ks a.next) (sym e.2) ((instruction a.after a.next a.points).0 (ap (λ (b : ℕ). on (v b)) (sym e.1) ∙ o)));
      accesses = (instruction a.after a.next a.points).1;
      into = λ m n founds i d l.
          let e = a.edges i d l in
          subst (λ (h : RegisterCells). RegisterCellsAre u m n new.pointers (get_or a.more i d).kinds h) (sym e.3) (subst (λ (ks : Kinds). RegisterCellsAre u m n new.pointers ks a.next) (sym e.2) (into_behind m n founds a.after a.next a.points));
      through = λ m n founds. into_access m n founds a.after a.next a.points;
    }

    jump : JumpPoints kinds here old new → Adds g.decls t.ways t.sites new here.guard v u
    jump a = record {
      more = a.leaves.0;
      ways_are = a.leaves.1;
      bits = edges.bits;
      guarded = edges.guarded;
      one = edges.one;
      held = λ i d l o x holds.
          let path = edges.guarded i d l o in
          by path x (edges.held (answers_alike g.decls cells t.sites v u ps kinds here.held before.ascending (looked path)) i d l o x holds);
      accesses = λ j low high. absurd (let n = ap length a.sites_are in omega (arith, low, high, n));
      into = λ m n founds i d l x holds. let was = edges.along i d l x holds in into_still m n founds (record { map = x.map; node = was.0; pointer = x.pointer }) was.1;
      through = λ m n founds j low high. absurd (let c = ap length a.sites_are in omega (arith, low, high, c));
    }
      where
        edges : EdgesPoint v ps kinds here.held here.guard a.leaves.0
        edges = a.leaves.2 packet v run come.0

        by : on (v here.guard) ≡ true → (x : Pointing) → WasHeld v ps kinds here.held x → IsLookedUp g.decls new.cells new.sites v u new.pointers x
        by path x (inl h) = still path x (none_new (Keeps x) a.sites_are) h
        by path x (inr h) = behind x (none_new (Keeps x) a.sites_are) (there (record { map = x.map; node = Some h.0; pointer = x.pointer }) h.1)
            (entry_found g.decls cells t.sites v u ps x h.0 h.2 h.3 (looked path (record { map = x.map; node = Some h.0; pointer = x.pointer }) h.1))

    pub adds : NodePoints g.decls insn pending kinds here old new → Adds g.decls t.ways t.sites new here.guard v u
    adds (inl a) = along a
    adds (inr a) = jump a

    next_with : Adds g.decls t.ways t.sites new here.guard v u → PointWith g.decls (k + 1) new v u
    next_with a = record {
      bits = subst (All (λ e. v e.bit < 2)) (sym a.ways_are) (All-append (λ e. v e.bit < 2) t.ways a.more now.bits a.bits);
      one = λ e f c d l m o p. one e f (Contains-append_cases t.ways a.more e (subst (λ (ws : List Way). Contains ws e) a.ways_are c)) (Contains-append_cases t.ways a.more f (subst (λ (ws : List Way). Contains ws f) a.ways_are d)) l m o p;
      held = subst (All Held_with) (sym a.ways_are) (All-append Held_with t.ways a.more passing (λ i d l low o. a.held i d l o));
      accesses = λ j l is o. by j l is o (cases_lt j (length t.sites));
      into = λ m n founds. record {
        held = subst (All (λ e. RegisterCellsAre u m n new.pointers e.kinds e.held)) (sym a.ways_are)
            (All-append (λ e. RegisterCellsAre u m n new.pointers e.kinds e.held) t.ways a.more (into_passing m n founds) (a.into m n founds));
        accesses = λ j l is into. into_each m n founds j l is into (cases_lt j (length t.sites));
      };
    }
      where
        into_each : (m n : ℕ) → FoundsAre new.cells new.sites u m n → (j : ℕ) → j < length new.sites → is_access (site_at new.sites j).act ≡ true → (site_at new.sites j).map ≡ m → (j < length t.sites) ⊎ (length t.sites ≤ j) → PointerIs new.sites u n j
        into_each m n founds j l is into (inr b) = a.through m n founds j b l is into
        into_each m n founds j l is into (inl b) =
            let at : site_at new.sites j ≡ site_at t.sites j = ap (λ (ss : List SiteView). site_at ss j) s.sites_are ∙ get_or-append t.sites s.more no_site j b in
            let x = (into_before m n founds).accesses j b (ap (λ (r : SiteView). is_access r.act) (sym at) ∙ is) (ap (λ (r : SiteView). r.map) (sym at) ∙ into) in
            (x.0, subst (λ (r : SiteView). IsThrough r.act r.operands x.0) (sym at) x.1, x.2)

        Held_with : Way → Type 0
        Held_with e = k + 1 ≤ e.to → on (v e.bit) ≡ true → AreLookedUp g.decls new.cells new.sites v u new.pointers e.kinds e.held

        one : (e f : Way) → Contains t.ways e ⊎ Contains a.more e → Contains t.ways f ⊎ Contains a.more f → k + 1 ≤ e.to → k + 1 ≤ f.to → on (v e.bit) ≡ true → on (v f.bit) ≡ true → e.to ≡ f.to
        one e f (inl c) (inl d) l m o p = now.one e f c d (omega (arith, l)) (omega (arith, m)) o p
        one e f (inl c) (inr d) l m o p = absurd (passes e c l o (All-contains (λ x. on (v x.bit) ≡ true → on (v here.guard) ≡ true) a.more f a.guarded d p))
        one e f (inr c) (inl d) l m o p = absurd (passes f d m p (All-contains (λ x. on (v x.bit) ≡ true → on (v here.guard) ≡ true) a.more e a.guarded c o))
        one e f (inr c) (inr d) l m o p = a.one e f c d o p

        by : (j : ℕ) → j < length new.sites → is_access (site_at new.sites j).act ≡ true → on (v (site_at new.sites j).guard) ≡ true → (j < length t.sites) ⊎ (length t.sites ≤ j) → IsLookupAccess g.decls new.cells new.sites v u j
        by j l is o (inl b) =
            let at : site_at new.sites j ≡ site_at t.sites j = ap (λ (ss : List SiteView). site_at ss j) s.sites_are ∙ get_or-append t.sites s.more no_site j b in
            access_more reads t.cells new.cells t.sites new.sites s.more grows (λ c i r. r.0) s.sites_are g.decls v u j b (now.accesses j b (ap (λ (x : SiteView). is_access x.act) (sym at) ∙ is) (ap (λ (x : SiteView). on (v x.guard)) (sym at) ∙ o))
        by j l is o (inr b) = a.accesses j b l is o

  -- at most one site is added
  pub few : NodePoints g.decls insn pending kinds here old new → length s.more ≤ 1
  few p = let n = ap length s.sites_are in by p (omega (arith, n, length-append t.sites s.more))
    where
      by : NodePoints g.decls insn pending kinds here old new → length new.sites ≡ length t.sites + length s.more → length s.more ≤ 1
      by (inl a) n = one a.points
        where
          one : InstructionPoints g.decls insn pending kinds here.held a.after a.next cells new.cells ps new.pointers t.sites new.sites → length s.more ≤ 1
          one (inl p) = let m = ap length p.sites_are in omega (arith, n, m)
          one (inr p) = let m = ap length p.2.sites_are in omega (arith, n, m, length-append t.sites (p.2.site ∷ []))
      by (inr a) n = let m = ap length a.sites_are in omega (arith, n, m)

  pub next_points : NodePoints g.decls insn pending kinds here old new → PointSoFar g.decls (k + 1) new
  next_points p = record {
    ascending = subst (AllPairs (λ x r. x.node < r.node)) (sym s.sites_are)
        (ascending_more k t.sites s.more (few p) so_far.laid.low (All-weaker (λ x. (x.node ≡ k) × (x.guard ≡ here.guard)) (λ x. x.node ≡ k) (λ x o. o.0) s.more s.own) before.ascending);
    each = λ packet v u run follows. next_with packet v u run follows (adds packet v u run follows p);
  }

-- ---- more cells, which read no site

same_one : (decls : List MapDecl) (v u : ℕ → ℕ) (ps : List PointerView) (x : Pointing) → IsSamePointer decls v u ps ps x x
same_one decls v u ps x = record { map = refl; node = refl; found = refl; goes = refl; key = refl }

pub points_later : (decls : List MapDecl) (k : ℕ) (t : MadeView) (cells : List CellView) → Grows t.cells cells → PointSoFar decls k t → PointSoFar decls k (record t { cells = cells })
points_later decls k t cells grows p = record {
  ascending = p.ascending;
  each = λ packet v u run follows.
      let now = p.each packet v u (grows.run packet v run) (followed_before grows follows) in
      record {
        bits = now.bits;
        one = now.one;
        held = λ i d l low o x holds.
            looked_more (λ c j. ⊥) t.cells cells t.sites t.sites [] grows (λ c j none. absurd none) (sym (append-nil t.sites)) decls v u t.pointers t.pointers x x (λ j e m. absurd (omega (arith, m))) (same_one decls v u t.pointers x)
            (now.held i d l low o x holds);
        accesses = λ j l a o. access_more (λ c i. ⊥) t.cells cells t.sites t.sites [] grows (λ c i none. absurd none) (sym (append-nil t.sites)) decls v u j l (now.accesses j l a o);
        into = λ m n founds.
            let i = now.into m n (λ c j l is. founds c j (omega (arith, l, grows.longer)) (ap (λ (x : CellView). x.op) (grows.kept c l) ∙ is)) in
            record { held = i.held; accesses = i.accesses };
      };
}

pub nodes_point : NodesPoint
nodes_point g k hs t old new here i pending cells so_far arrives sites_are ways_are s comes p grows before =
    points_later g.decls (k + 1) new cells grows (next_points g k hs t old.cells old.pointers new here old.exits i pending so_far arrives
    (subst (λ (m : MadeView). Steps g k here.guard here.held m.cells new.cells m.pointers new.pointers m.sites new.sites m.ways new.ways m.exits new.exits) same s) comes before
    (subst (λ (m : MadeView). NodePoints g.decls i pending (node_at g.nodes k).kinds here m new) same p))
  where
    same : old ≡ record { cells = old.cells; pointers = old.pointers; sites = t.sites; ways = t.ways; exits = old.exits }
    same = ap (λ (ss : List SiteView). record old { sites = ss }) sites_are ∙ ap (λ (ws : List Way). record { cells = old.cells; pointers = old.pointers; sites = t.sites; ways = ws; exits = old.exits }) ways_are
