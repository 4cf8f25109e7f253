-- The packet's earlier operations, so far.
use Rattle.std.proofs.Common.{◌≡◌, ◌∙◌, ℕ, ◌+◌, ◌<◌, All, List, [], ◌∷◌, ◌++◌, length, get_or, sym, subst, arith}
use Rattle.std.proofs.lemmas.List.{length-map}
use Rattle.std.proofs.lemmas.List.Elements.{All-append}
use Rattle.block_core.specs.net_core.Value.{Env}
use Rattle.block_core.specs.declared.name.Name.{Name}
use Rattle.block_core.specs.Blocks.{BlockWireTree}
use Rattle.overlay_net.specs.cell_core.Sites.{ProgramView}
use Rattle.pipe_core.specs.hazard_core.StageValues.{StageValues}
use Rattle.pipe_core.specs.hazard_core.Tables.{TableState}
use Rattle.overlay_net.specs.cell_nets.Operands.{IsAvailable}
use Rattle.overlay_net.specs.declared.site_operands.Pending.{Pending}
use Rattle.overlay_net.specs.Seen.{read_of, all_read, IsOf, ShowsPending, AreOf, ShowPending}
use Rattle.overlay_net.specs.cell_nets.StepNets.Standing.{Stands}
use Rattle.overlay_net.proofs.cell_nets_laws.StepNets.ChainLaws.{starts}
use Rattle.read_net.specs.declared.sites.OwnSite.{OwnSite}
use Rattle.read_net.specs.declared.sites.MapNets.{MapNets}
use Rattle.read_net.specs.Sites.{cells_of, all_cells, slot_cells, sites_of, IsOwn, ShowsOwn, ShowsTable, AreSeenOf}
use Rattle.read_net.proofs.StandLemmas.{left_of, right_of, stands_as, stands_then}
use Rattle.read_net.proofs.SiteLemmas.{cells_at, read_push, each_more, by_sites}

module _ {P : Type 0} (part : P) (map : MapNets (Name P)) (ss : List (OwnSite (Name P))) (p : ProgramView) (t : TableState) (h : StageValues) (m : ℕ) where
  abbrev pub Needs : Env (Name P) → Type 0
  Needs v = All (ShowsOwn v p h) ss × ShowsTable v t m map

  abbrev pub Knows : List (Pending (Name P)) → ℕ → Env (Name P) → Type 0
  Knows ds i v = Needs v × ((n : ℕ) (s : OwnSite (Name P)) (d : Pending (Name P)) → n < i → ShowsPending v p t h (get_or ss n s).site (get_or ds n d))

  abbrev pub Far : List (BlockWireTree (Name P)) → List (BlockWireTree (Name P)) → List (Pending (Name P)) → ℕ → Type 0
  Far old new ds i = Stands part old new (all_cells ss ++ slot_cells map) Needs (all_read ds ++ (all_cells ss ++ slot_cells map)) (Knows ds i)

  pub far_none : (ws : List (BlockWireTree (Name P))) → Far ws ws [] 0
  far_none ws = stands_as (all_cells ss ++ slot_cells map) (Knows [] 0) (starts part ws (all_cells ss ++ slot_cells map) Needs) (λ ins a. a) (λ v n. (n, λ k s d lt. absurd (omega (arith, lt))))

  pub far_more :
      (old mid new : List (BlockWireTree (Name P))) (ds : List (Pending (Name P))) (i : ℕ) (s : OwnSite (Name P)) (d : Pending (Name P)) → Far old mid ds i → length ds ≡ i → i < length ss → s ≡ get_or ss i s
      → Stands part mid new (cells_of s ++ slot_cells map) (λ v. ShowsOwn v p h s × ShowsTable v t m map) (read_of d) (λ v. ShowsPending v p t h s.site d) → Far old new (ds ++ d ∷ []) (i + 1)
  far_more old mid new ds i s d x count lt is y =
      let cells = all_cells ss in
      let slots = slot_cells map in
      stands_as (all_read (ds ++ d ∷ []) ++ (cells ++ slots)) (Knows (ds ++ d ∷ []) (i + 1))
      (stands_then x y
      (λ ins a.
      let Q = IsAvailable ins in
      let r = right_of Q (all_read ds) (cells ++ slots) a in
      All-append Q (cells_of s) slots (cells_at Q ss i s lt is (left_of Q cells slots r)) (right_of Q cells slots r))
      (λ v k. (subst (ShowsOwn v p h) (sym is) (k.0.0 i s lt), k.0.1)))
      (λ ins a.
      let Q = IsAvailable ins in
      let r = right_of Q (read_of d) (all_read ds ++ (cells ++ slots)) a in
      All-append Q (all_read (ds ++ d ∷ [])) (cells ++ slots) (read_push Q ds d (left_of Q (all_read ds) (cells ++ slots) r) (left_of Q (read_of d) (all_read ds ++ (cells ++ slots)) a)) (right_of Q (all_read ds) (cells ++ slots) r))
      (λ v k. (k.0.0, each_more (λ (o : OwnSite (Name P)) e. ShowsPending v p t h o.site e) ss ds i s d count lt is k.0.1 k.1))

  -- all of them
  pub far_all :
      (old new : List (BlockWireTree (Name P))) (ds : List (Pending (Name P))) (i : ℕ) → i ≡ length ss → Far old new ds i
      → Stands part old new (all_cells ss ++ slot_cells map) Needs (all_read ds ++ (all_cells ss ++ slot_cells map)) (λ v. Needs v × ShowPending v p t h (sites_of ss) ds)
  far_all old new ds i e x =
      stands_as (all_read ds ++ (all_cells ss ++ slot_cells map)) (λ v. Needs v × ShowPending v p t h (sites_of ss) ds) x (λ ins a. a)
      (λ v k. (k.0, record { each = by_sites (λ j d. ShowsPending v p t h j d) ss ds (λ n s d lt. k.1 n s d (omega (arith, lt, e))) }))

-- what they are in a program
pub are_of : {N : Type 0} (p : ProgramView) (m : ℕ) (ss : List (OwnSite N)) (ds : List (Pending N)) → All (IsOwn p m) ss → AreSeenOf ss ds → AreOf p m (sites_of ss) ds
are_of p m ss ds own of = record {
  count = of.count ∙ sym (length-map ss (λ (s : OwnSite _). s.site));
  each =
      by_sites (λ j d. IsOf p m j d) ss ds
      (λ n s d lt.
      let o = own n s lt in
      let e = of.each n s d (omega (arith, lt, of.count)) in
      record { act = o.act ∙ sym e.act; map = o.map });
}
