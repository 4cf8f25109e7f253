-- Cells of all nodes, and of the answer, compute the runs of a program.
use Rattle.std.proofs.Common.{◌≡◌, ℕ, zero, suc, ◌+◌, ◌≤◌, ◌<◌, ◌==◌, true, false, Some, List, [], length, get_or, refl, sym, ◌∙◌, ap, subst, arith}
use Rattle.std.specs.Prelude.{All}
use Rattle.std.specs.List.{AllPairs}
use Rattle.std.proofs.lemmas.Bool.Decides.{nat_tests}
use Rattle.std.proofs.lemmas.List.{append-nil}
use Rattle.std.proofs.lemmas.List.Elements.{All-nil, All-filter, filter_passes}
use Rattle.xdp_machine.specs.xdp_maps.State.{MapState, IsSound}
use Rattle.xdp_machine.specs.State.{PacketIn, start}
use Rattle.xdp_machine.specs.Runs.{Leaves}
use Rattle.xdp_machine.specs.MachineLaws.{StartsInRange, RunsLeaveInRange}
use Rattle.xdp_machine.specs.Touched as machine
use Rattle.cell_core.specs.declared.program.FrameByte.{FrameByte}
use Rattle.xdp_machine.specs.bpf_isa.Spelling.{IsInsn}
use Rattle.cell_core.specs.declared.operator.Operator.{Operator}
use Rattle.cell_core.specs.declared.operator.Operator.TheVariants.{Found, Answer}
use Rattle.cell_core.specs.Cells.{CellView, IsRun, cell_at, is_read, site_in, bit, on}
use Rattle.cell_core.specs.Rows.{last_row}
use Rattle.cell_core.specs.Sites.{SiteView, no_site, ProgramView, IsCellRun, after, leaves, touched, with_bytes}
use Rattle.operator_cells.proofs.MakingLaws.{reads_none}
use Rattle.operator_cells.proofs.RisingLaws.{rows_before}
use Rattle.operator_cells.specs.declared.held_cells.machine_cells.RegisterCells.{RegisterCells}
use Rattle.operator_cells.specs.HeldCells.Paths.{GraphView, Stage, At, Over, Nowhere, before, stands_at, maps_in}
use Rattle.operator_cells.specs.HeldCells.Steps.{ReadsOwn, IsGood, IsLeft}
use Rattle.operator_cells.specs.HeldCells.Law.{IsPacket, AreAnswered, IsRight, made_at, sites_below, sites_at, Computes, IsLaw}
use Rattle.operator_cells.specs.HeldCells.Pointing.{AccessesLookUp, AccessesStay}
use Rattle.operator_cells.specs.HeldCells.Reading.{ReadsAreMade, ReadsWait}
use Rattle.edge_cells.proofs.GrowthLaws.{followed_before}
use Rattle.predicate_core.specs.Buildable.{IsBuildable}
use Rattle.predicate_core.specs.Making.{Making, IsSoFar, IsCase, Answers, made_alone, held_in}
use Rattle.predicate_core.specs.Laws.{WholesCompute}
use Rattle.predicate_core.proofs.SiteLists.{below_all, below_none}
use Rattle.predicate_core.proofs.Cases.{read_older, case_fewer}
use Rattle.predicate_core.proofs.Sited.{below_cells, sited_more}
use Rattle.predicate_core.proofs.Pointers.{access_more}
use Rattle.predicate_core.proofs.LaterReads.{made_later, waits_later}
use Rattle.predicate_core.proofs.Tracing.{Comes, comes_first, comes_more}

-- ---- sites in strictly ascending nodes, and so no more than nodes

node_above : (ss : List SiteView) → AllPairs (λ s r. s.node < r.node) ss → (j : ℕ) → j < length ss → j ≤ (get_or ss j no_site).node
node_above ss pairs zero l = omega arith
node_above ss pairs (suc j) l =
    let before = node_above ss pairs j (omega (arith, l)) in
    let next = pairs j (suc j) no_site (omega arith) l in
    omega (arith, before, next)

few_sites : (n : ℕ) (ss : List SiteView) → All (λ s. s.node < n) ss → AllPairs (λ s r. s.node < r.node) ss → length ss ≤ n
few_sites n ss low pairs = by (length ss) refl
  where
    by : (m : ℕ) → length ss ≡ m → m ≤ n
    by zero e = omega arith
    by (suc m) e =
        let last : m < length ss = omega (arith, e) in
        let above = node_above ss pairs m last in
        let below = low m no_site last in
        omega (arith, above, below)

module _ (starts : StartsInRange) (leave : RunsLeaveInRange) (g : GraphView) (hs : List RegisterCells) (t : Making) (cells : List CellView) (verdict target : ℕ) (frame : List FrameByte)
    (legal : All IsInsn g.code.insns) (so_far : IsSoFar g (length g.nodes) hs t) (apart : AllPairs (λ s r. s.node < r.node) t.sites) (accesses : AccessesLookUp g.decls (made_alone t)) (stays : AccessesStay (made_alone t)) (made : ReadsAreMade g.decls (made_alone t)) (waits : ReadsWait (made_alone t))
    (answers : Answers t.cells cells t.exits verdict target frame) where
  abbrev pub p : ProgramView
  p = record { cells = cells; nodes = t.nodes; sites = t.sites; verdict = verdict; target = target; frame = frame }

  case_of : (packet : PacketIn) (maps : MapState) (v : ℕ → ℕ) (k : ℕ) → IsPacket packet → IsSound maps → maps.decls ≡ g.decls → IsRun packet cells v → AreAnswered maps p v k → IsCase g t packet maps v k
  case_of packet maps v k is sound decls ran answered = record {
    is_packet = is;
    sound = sound;
    decls = decls;
    run = answers.grows.run packet v ran;
    read = read_older (λ c j. ⊥) maps t.cells cells t.sites t.sites [] v k k answers.grows (sym (append-nil t.sites)) (omega arith) (λ c j in_cells in_sites reads low o. answered c j in_cells reads low o);
  }

  right : (packet : PacketIn) (maps : MapState) (v : ℕ → ℕ) (k : ℕ) → IsPacket packet → IsSound maps → maps.decls ≡ g.decls → IsRun packet cells v
      → k ≤ length g.nodes → AreAnswered maps p v k → IsRight g p t.pointers (held_in hs) packet maps v k
  right packet maps v k is sound decls ran l answered = record {
    guards = λ j b inside. so_far.right.guards packet maps v j inside (case_fewer g t packet maps v j k b case);
    holds = λ j m b inside at. so_far.right.holds packet maps v j m inside (case_fewer g t packet maps v j k b case) at;
    sites = λ j m b at. so_far.right.does packet maps v j m (omega (arith, b, l)) (case_fewer g t packet maps v (j + 1) k (omega (arith, b)) case) at;
    maps_are = so_far.right.maps_are packet maps v k l case;
  }
    where
      case : IsCase g t packet maps v k
      case = case_of packet maps v k is sound decls ran answered

  -- the run comes by all nodes
  comes : (packet : PacketIn) (maps : MapState) (v : ℕ → ℕ) (k : ℕ) → k ≤ length g.nodes → IsCase g t packet maps v (length g.nodes)
      → Comes g.code (start packet maps) (touched v maps (sites_below k t.sites)) (before g packet maps k)
  comes packet maps v zero l case = subst (λ (ss : List SiteView). Comes g.code (start packet maps) (touched v maps ss) (At 0 (start packet maps))) (sym (below_none t.sites)) (comes_first g.code (start packet maps))
  comes packet maps v (suc k) l case =
      let next : k + 1 ≡ suc k = omega arith in
      subst (λ (ss : List SiteView). Comes g.code (start packet maps) (touched v maps ss) (before g packet maps (suc k)))
      (sym (ap (λ (j : ℕ). sites_below j t.sites) (sym next) ∙ so_far.laid.split k (omega (arith, l))))
      (comes_more g v k maps (before g packet maps k) (sites_below k t.sites) (sites_at k t.sites)
      (so_far.right.maps_are packet maps v k (omega (arith, l)) (case_fewer g t packet maps v k (length g.nodes) (omega (arith, l)) case))
      guarded
      (λ m at. so_far.right.does packet maps v k m (omega (arith, l)) (case_fewer g t packet maps v (k + 1) (length g.nodes) (omega (arith, l)) case) at)
      (start packet maps) (comes packet maps v k (omega (arith, l)) case))
    where
      own : (j : ℕ) → (j == k) ≡ true → j ≡ k
      own j h = grind (arith, nat_tests)

      guarded : All (λ x. v x.guard ≡ bit (stands_at k (before g packet maps k))) (sites_at k t.sites)
      guarded i d b =
          ap v (All-filter (λ s. s.node == k) (λ s. s.guard ≡ (made_at t.nodes s.node).guard) t.sites so_far.laid.guards i d b
          ∙ ap (λ (j : ℕ). (made_at t.nodes j).guard) (own (get_or (sites_at k t.sites) i d).node (filter_passes (λ s. s.node == k) t.sites i d b)))
          ∙ so_far.right.guards packet maps v k (omega (arith, l)) (case_fewer g t packet maps v k (length g.nodes) (omega (arith, l)) case)

  ends : (packet : PacketIn) (maps : MapState) (v : ℕ → ℕ) → IsPacket packet → IsSound maps → maps.decls ≡ g.decls → IsCellRun packet maps p v
      → machine.Touches g.code packet maps (leaves v packet maps p) (touched v maps t.sites)
  ends packet maps v is sound decls cell_run =
      by (before g packet maps (length g.nodes)) refl (so_far.right.good packet maps v case) (comes packet maps v (length g.nodes) (omega arith) case)
      (so_far.right.maps_are packet maps v (length g.nodes) (omega arith) case)
    where
      ran : IsRun packet cells v
      ran = record { each = λ k l. (cell_run.each k l).solves }

      case : IsCase g t packet maps v (length g.nodes)
      case = case_of packet maps v (length g.nodes) is sound decls ran (λ c j l reads low o. (cell_run.each c l).answers j reads o)

      all : sites_below (length g.nodes) t.sites ≡ t.sites
      all = below_all (length g.nodes) t.sites so_far.laid.low

      by : (s : Stage) → before g packet maps (length g.nodes) ≡ s → IsGood g packet v t.pointers (length g.nodes) t.ways t.exits s
          → Comes g.code (start packet maps) (touched v maps (sites_below (length g.nodes) t.sites)) s → after v maps (sites_below (length g.nodes) t.sites) ≡ maps_in maps s
          → machine.Touches g.code packet maps (leaves v packet maps p) (touched v maps t.sites)
      by (At n m) e good c same = let a = good.ahead n m refl in absurd (omega (arith, a.0, a.1))
      by Nowhere e good c same = absurd (good.somewhere refl)
      by (Over e) at good c same =
          let x = good.ended e refl in
          let l = answers.leaves packet v e is (leave g.code packet maps e legal (starts packet maps is.bytes (omega (arith, is.short)) is.ifindex is.time sound) (c.0, c.1)) ran left x in
          let maps_are : after v maps t.sites ≡ e.maps = ap (after v maps) (sym all) ∙ same in
          let left_is : leaves v packet maps p ≡ e =
          ap (λ (n : ℕ). record { verdict = n; target = v target; frame = with_bytes v packet.frame frame; maps = after v maps t.sites }) l.0
          ∙ ap (λ (n : ℕ). record { verdict = e.verdict; target = n; frame = with_bytes v packet.frame frame; maps = after v maps t.sites }) l.1
          ∙ ap (λ (f : List ℕ). record { verdict = e.verdict; target = e.target; frame = f; maps = after v maps t.sites }) l.2
          ∙ ap (λ (ms : MapState). record { verdict = e.verdict; target = e.target; frame = e.frame; maps = ms }) maps_are in
          subst (λ (y : Leaves). machine.Touches g.code packet maps y (touched v maps t.sites)) (sym left_is)
          (c.0, c.1, c.2 ∙ ap (touched v maps) all)
        where
          same_end : (a b : Leaves) → Over a ≡ Over b → a ≡ b
          same_end a b h = cc

          left : All (λ x. on (v x.guard) ≡ true → IsLeft packet v x e) t.exits
          left i d l o = let y = good.ends i d l o in subst (λ (b : Leaves). IsLeft packet v (get_or t.exits i d) b) (sym (same_end e y.0 y.1)) y.2

  whole : Computes g p
  whole = record {
    formed = answers.grows.formed so_far.formed;
    laid = record {
      count = so_far.laid.count;
      places = so_far.laid.places;
      inside = λ k l. let i = so_far.laid.inside k (omega (arith, l, so_far.laid.count)) in (i.0, i.1, omega (arith, i.2, answers.grows.longer));
      ascending = λ k l. so_far.laid.ascending k (omega (arith, l, so_far.laid.count));
      sites = so_far.laid.sites;
      guards = so_far.laid.guards;
      below = so_far.laid.below;
    };
    pointers = t.pointers;
    held = held_in hs;
    right = right;
    ends = ends;
  }

  pub law : IsLaw g p
  law = record {
    computes = whole;
    sited = sited_more g.decls (made_alone t) p [] (reads_none (ReadsOwn t.sites t.sites) t.cells cells answers.grows) (sym (append-nil t.sites)) (All-nil _) (below_cells g (length g.nodes) t so_far.laid) so_far.sited;
    accesses = λ packet v u run follows j l is o. access_more (λ c i. ⊥) t.cells cells t.sites t.sites [] answers.grows (λ c i none. absurd none) (sym (append-nil t.sites)) g.decls v u j l
        (accesses packet v u (answers.grows.run packet v run) (followed_before answers.grows follows) j l is o);
    stays = λ packet v u run follows m n founds.
        stays packet v u (answers.grows.run packet v run) (followed_before answers.grows follows) m n
        (λ c j l is. founds c j (omega (arith, l, answers.grows.longer)) (ap (λ (x : CellView). x.op) (answers.grows.kept c l) ∙ is));
    reads = made_later (made_alone t) p answers.grows refl g.decls made;
    waits = waits_later (made_alone t) p answers.grows refl so_far.sited.known waits;
  }

  no_reads : t.sites ≡ [] → (k : ℕ) → k < length cells → is_read (cell_at cells k).op ≡ false
  no_reads none k l = by (cell_at cells k).op (λ j reads. let b = law.sited.known k j l reads in omega (arith, b, ap length none))
    where
      by : (op : Operator) → ((j : ℕ) → site_in op ≡ Some j → ⊥) → is_read op ≡ false
      by (Found j) h = absurd (h j refl)
      by (Answer j) h = absurd (h j refl)
      by op h = refl

  pub buildable : IsBuildable p
  buildable = record {
    verdict = answers.verdict_is;
    target = answers.target_is;
    bytes = answers.bytes;
    ascending = answers.ascending;
    rows = λ row rows. answers.no_row row (last_row row t.nodes) rows (so_far.rows row (rows_before (λ k j. ⊥) t.cells cells answers.grows row rows));
    numbers = answers.grows.alone so_far.numbers;
    operations = let count = so_far.laid.count in let few = few_sites (length g.nodes) t.sites so_far.laid.low apart in omega (arith, count, few);
    no_reads = no_reads;
  }

pub wholes_compute : StartsInRange → RunsLeaveInRange → WholesCompute
wholes_compute starts leave g hs t cells verdict target frame legal so_far apart accesses stays made waits answers =
    (law starts leave g hs t cells verdict target frame legal so_far apart accesses stays made waits answers, buildable starts leave g hs t cells verdict target frame legal so_far apart accesses stays made waits answers)
