-- From one node to the next.
use Rattle.std.proofs.Common.{◌≡◌, ℕ, suc, ◌+◌, ◌<◌, ◌≤◌, ◌⊎◌, inl, inr, List, [], ◌∷◌, ◌++◌, length, length-append, refl, sym, ◌∙◌, ap, subst, arith}
use Rattle.std.specs.Prelude.{All}
use Rattle.std.proofs.Math.ListN.{get_or-append}
use Rattle.std.proofs.Math.Seq.{get_or-append_seam}
use Rattle.std.proofs.lemmas.Bool.{cases_lt}
use Rattle.std.proofs.lemmas.List.Elements.{All-weaker}
use Rattle.xdp_machine.specs.xdp_maps.State.{MapState}
use Rattle.xdp_machine.specs.State.{Machine, PacketIn}
use Rattle.xdp_machine.specs.Touched as machine
use Rattle.cell_core.specs.Cells.{CellView, bit}
use Rattle.cell_core.specs.Sites.{SiteView, after}
use Rattle.operator_cells.specs.Making.{GrowsWith}
use Rattle.operator_cells.proofs.MakingLaws.{grown_with, reads_none}
use Rattle.operator_cells.specs.declared.held_cells.machine_cells.RegisterCells.{RegisterCells}
use Rattle.operator_cells.specs.declared.held_cells.way.Way.{Way}
use Rattle.operator_cells.specs.declared.held_cells.way.Exit.{Exit}
use Rattle.operator_cells.specs.HeldCells.Paths.{GraphView, At, node_at, before, on_path, maps_in}
use Rattle.operator_cells.specs.HeldCells.RegisterCells.{PointerView, AreInside, AreHeld}
use Rattle.operator_cells.specs.HeldCells.Steps.{Steps, ReadsOwn, IsGood, IsHere, DoAs}
use Rattle.operator_cells.specs.HeldCells.Law.{made_at, sites_below, sites_at}
use Rattle.edge_cells.specs.Meeting.{Extends}
use Rattle.edge_cells.proofs.ExtendingLaws.{extended, inside_later}
use Rattle.predicate_core.specs.Making.{Making, IsSoFar, IsCase, AreRight, Arrives, made_alone, no_held, held_in}
use Rattle.predicate_core.specs.Laws.{NodesFollow, made_next}
use Rattle.predicate_core.proofs.LastRow.{rows_more}
use Rattle.predicate_core.proofs.Later.{held_later, good_later}
use Rattle.predicate_core.proofs.SiteLists.{below_all, below_more, at_more, at_new}
use Rattle.predicate_core.proofs.Cases.{case_older, case_fewer, all_read}
use Rattle.predicate_core.proofs.NodeLayout.{node_each, low_more, laid_more}
use Rattle.predicate_core.proofs.Sited.{below_cells, sited_more}

module _ (g : GraphView) (k : ℕ) (hs : List RegisterCells) (t : Making) (cells cells2 : List CellView) (ps ps2 : List PointerView) (sites2 : List SiteView) (ways : List Way) (exits : List Exit) (guard : ℕ) (h : RegisterCells)
    (so_far : IsSoFar g k hs t) (arrives : Arrives g k t cells ps guard h) (s : Steps g k guard h cells cells2 ps ps2 t.sites sites2 t.ways ways t.exits exits) where
  abbrev pub u : Making
  u = record { cells = cells2; pointers = ps2; sites = sites2; ways = ways; exits = exits; nodes = t.nodes ++ made_next g k guard t.cells cells2 ∷ [] }

  abbrev reads : ℕ → ℕ → Type 0
  reads = ReadsOwn t.sites sites2

  grows : GrowsWith reads t.cells cells2
  grows = grown_with reads t.cells cells cells2 (reads_none reads t.cells cells arrives.grows) s.grows

  more : Extends ps ps2
  more = record { more = s.more_pointers; is = s.pointers_are }

  extends : Extends t.pointers ps2
  extends = extended arrives.extends more

  at : All (λ x. x.node ≡ k) s.more
  at = All-weaker (λ x. (x.node ≡ k) × (x.guard ≡ guard)) (λ x. x.node ≡ k) (λ x o. o.0) s.more s.own

  low : All (λ x. x.node < k + 1) sites2
  low = subst (All (λ x. x.node < k + 1)) (sym s.sites_are) (low_more k t.sites s.more so_far.laid.low at)

  older : (packet : PacketIn) (maps : MapState) (v : ℕ → ℕ) (i j : ℕ) → i ≤ j → IsCase g u packet maps v j → IsCase g t packet maps v i
  older packet maps v i j l case = case_older reads g t u packet maps v s.more i j grows s.sites_are l case

  good_before : (packet : PacketIn) (maps : MapState) (v : ℕ → ℕ) → IsCase g u packet maps v k → IsGood g packet v t.pointers k t.ways t.exits (before g packet maps k)
  good_before packet maps v case = so_far.right.good packet maps v (older packet maps v k k (omega arith) case)

  here : (packet : PacketIn) (maps : MapState) (v : ℕ → ℕ) → IsCase g u packet maps v k → IsHere g packet v ps k guard h (before g packet maps k)
  here packet maps v case = arrives.here packet v (before g packet maps k) (s.grows.run packet v case.run) (good_before packet maps v case)

  maps_before : (packet : PacketIn) (maps : MapState) (v : ℕ → ℕ) → IsCase g u packet maps v k → after v maps t.sites ≡ maps_in maps (before g packet maps k)
  maps_before packet maps v case =
      ap (after v maps) (sym (below_all k t.sites so_far.laid.low)) ∙ so_far.right.maps_are packet maps v k (omega arith) (older packet maps v k k (omega arith) case)

  fewer : (packet : PacketIn) (maps : MapState) (v : ℕ → ℕ) → IsCase g u packet maps v (k + 1) → IsCase g u packet maps v k
  fewer packet maps v case = case_fewer g u packet maps v k (k + 1) (omega arith) case

  stepped : (packet : PacketIn) (maps : MapState) (v : ℕ → ℕ) → IsCase g u packet maps v (k + 1)
      → IsGood g packet v ps2 (k + 1) ways exits (before g packet maps (suc k)) × (after v maps sites2 ≡ maps_in maps (before g packet maps (suc k)))
  stepped packet maps v case =
      s.step packet maps v (before g packet maps k) case.run (all_read g u packet maps v (k + 1) low case) (maps_before packet maps v (fewer packet maps v case)) (here packet maps v (fewer packet maps v case))
      (good_later g packet v t.cells t.pointers ps k t.ways t.exits (before g packet maps k) arrives.extends so_far.made (good_before packet maps v (fewer packet maps v case)))

  next_is : suc k ≡ k + 1
  next_is = omega arith

  held_old : (j : ℕ) → j < k → held_in (hs ++ h ∷ []) j ≡ held_in hs j
  held_old j l = get_or-append hs (h ∷ []) no_held j (omega (arith, l, so_far.held_count))

  held_new : held_in (hs ++ h ∷ []) k ≡ h
  held_new = ap (held_in (hs ++ h ∷ [])) (sym so_far.held_count) ∙ get_or-append_seam hs h [] no_held

  -- what holds of what is held at each node
  held_each : (P : ℕ → RegisterCells → Type 0) → ((j : ℕ) → j < k → P j (held_in hs j)) → P k h → (j : ℕ) → j < k + 1 → P j (held_in (hs ++ h ∷ []) j)
  held_each P old new j l = by (cases_lt j k)
    where
      by : (j < k) ⊎ (k ≤ j) → P j (held_in (hs ++ h ∷ []) j)
      by (inl b) = subst (P j) (sym (held_old j b)) (old j b)
      by (inr b) = subst (λ (i : ℕ). P i (held_in (hs ++ h ∷ []) i)) (omega (arith, l, b)) (subst (P k) (sym held_new) new)

  guards_more : (packet : PacketIn) (maps : MapState) (v : ℕ → ℕ) (j : ℕ) → j < k + 1 → IsCase g u packet maps v j → v (made_at u.nodes j).guard ≡ bit (on_path g packet maps j)
  guards_more packet maps v = node_each (λ j x. IsCase g u packet maps v j → v x.guard ≡ bit (on_path g packet maps j)) t.nodes (made_next g k guard t.cells cells2) k so_far.laid.count
      (λ j l case. so_far.right.guards packet maps v j l (older packet maps v j j (omega arith) case))
      (λ case. (here packet maps v case).guard_is)

  holds_more : (packet : PacketIn) (maps : MapState) (v : ℕ → ℕ) (m : Machine) (j : ℕ) → j < k + 1 → IsCase g u packet maps v j → before g packet maps j ≡ At j m
      → AreHeld g.decls packet v ps2 (held_in (hs ++ h ∷ []) j) (node_at g.nodes j).kinds m
  holds_more packet maps v m = held_each (λ j x. IsCase g u packet maps v j → before g packet maps j ≡ At j m → AreHeld g.decls packet v ps2 x (node_at g.nodes j).kinds m)
      (λ j l case is. held_later g.decls packet v (length t.cells) t.pointers ps2 (held_in hs j) (node_at g.nodes j).kinds m extends (so_far.inside j l)
      (so_far.right.holds packet maps v j m l (older packet maps v j j (omega arith) case) is))
      (λ case is. held_later g.decls packet v (length cells) ps ps2 h (node_at g.nodes k).kinds m more arrives.inside ((here packet maps v case).known m is).held)

  does_more : (packet : PacketIn) (maps : MapState) (v : ℕ → ℕ) (m : Machine) (j : ℕ) → (j < k) ⊎ (k ≤ j) → j < k + 1 → IsCase g u packet maps v (j + 1) → before g packet maps j ≡ At j m
      → DoAs v m.maps (sites_at j sites2) (machine.operation_at g.code m)
  does_more packet maps v m j (inl l) b case is =
      subst (λ (ss : List SiteView). DoAs v m.maps ss (machine.operation_at g.code m)) (sym (ap (sites_at j) s.sites_are ∙ at_more j k t.sites s.more l at))
      (so_far.right.does packet maps v j m l (older packet maps v (j + 1) (j + 1) (omega arith) case) is)
  does_more packet maps v m j (inr l) b case' is' = subst (λ (i : ℕ). IsCase g u packet maps v (i + 1) → before g packet maps i ≡ At i m → DoAs v m.maps (sites_at i sites2) (machine.operation_at g.code m)) (omega (arith, l, b))
      (λ case is. subst (λ (ss : List SiteView). DoAs v m.maps ss (machine.operation_at g.code m)) (sym (ap (sites_at k) s.sites_are ∙ at_new k t.sites s.more so_far.laid.low at))
      (s.does packet maps v m case.run (all_read g u packet maps v (k + 1) low case) (maps_before packet maps v (fewer packet maps v case) ∙ ap (maps_in maps) is)
      (subst (IsHere g packet v ps k guard h) is (here packet maps v (fewer packet maps v case))))) case' is'

  maps_more : (packet : PacketIn) (maps : MapState) (v : ℕ → ℕ) (j : ℕ) → (j < k + 1) ⊎ (k + 1 ≤ j) → j ≤ k + 1 → IsCase g u packet maps v j → after v maps (sites_below j sites2) ≡ maps_in maps (before g packet maps j)
  maps_more packet maps v j (inl l) b case =
      ap (after v maps) (ap (sites_below j) s.sites_are ∙ below_more j k t.sites s.more (omega (arith, l)) at)
      ∙ so_far.right.maps_are packet maps v j (omega (arith, l)) (older packet maps v j j (omega arith) case)
  maps_more packet maps v j (inr l) b case' = subst (λ (i : ℕ). IsCase g u packet maps v i → after v maps (sites_below i sites2) ≡ maps_in maps (before g packet maps i)) (omega (arith, l, b))
      (λ case. ap (after v maps) (below_all (k + 1) sites2 low) ∙ (stepped packet maps v case).1 ∙ ap (λ (i : ℕ). maps_in maps (before g packet maps i)) next_is) case'

  right : AreRight g (k + 1) (hs ++ h ∷ []) u
  right = record {
    guards = guards_more;
    holds = λ packet maps v j m l. holds_more packet maps v m j l;
    does = λ packet maps v j m l. does_more packet maps v m j (cases_lt j k) l;
    maps_are = λ packet maps v j l. maps_more packet maps v j (cases_lt j (k + 1)) l;
    good = λ packet maps v case. subst (λ (i : ℕ). IsGood g packet v ps2 (k + 1) ways exits (before g packet maps i)) next_is (stepped packet maps v case).0;
  }

  pub next_so_far : IsSoFar g (k + 1) (hs ++ h ∷ []) u
  next_so_far = record {
    formed = grows.formed so_far.formed;
    numbers = grows.alone so_far.numbers;
    made = s.made;
    held_count = omega (arith, length-append hs (h ∷ []), so_far.held_count);
    inside = held_each (λ j x. AreInside g.decls (length cells2) ps2 x (node_at g.nodes j).kinds)
        (λ j l. inside_later g.decls (length t.cells) (length cells2) t.pointers ps2 (held_in hs j) (node_at g.nodes j).kinds grows.longer extends (so_far.inside j l))
        (inside_later g.decls (length cells) (length cells2) ps ps2 h (node_at g.nodes k).kinds s.grows.longer more arrives.inside);
    laid = laid_more g k guard t cells2 ps2 sites2 s.more ways exits so_far.laid arrives.own.0 (omega (arith, arrives.own.1, s.grows.longer)) grows.longer s.sites_are s.own s.below;
    rows = rows_more reads t.cells cells2 t.nodes (made_next g k guard t.cells cells2) refl refl grows so_far.rows;
    sited = sited_more g.decls (made_alone t) (made_alone u) s.more grows s.sites_are s.fits (below_cells g k t so_far.laid) so_far.sited;
    right = right;
  }

pub nodes_follow : NodesFollow
nodes_follow g k hs t cells cells2 ps ps2 sites ways exits guard h so_far arrives s =
    next_so_far g k hs t cells cells2 ps ps2 sites ways exits guard h so_far arrives s
