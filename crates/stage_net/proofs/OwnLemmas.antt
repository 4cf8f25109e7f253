-- The sites of a program at a place: what reads take of them.
use Rattle.std.specs.Prelude.{filter}
use Rattle.std.proofs.Common.{◌≡◌, ◌∙◌, ℕ, zero, suc, ◌+◌, ◌*◌, ◌^◌, ◌<◌, ◌≤◌, Bool, All, List, [], ◌∷◌, ◌++◌, length, get_or, sym, ap, subst, arith}
use Rattle.std.proofs.lemmas.Bool.{eqb-true, and_parts}
use Rattle.std.proofs.lemmas.List.{length-map, get_or-map}
use Rattle.std.proofs.lemmas.List.Elements.{All-append, All-cons, All-nil, All-head, All-tail, filter_passes}
use Rattle.std.proofs.lemmas.List.Sums.{length-filter, count_by-le-length}
use Rattle.block_core.specs.net_core.Value.{Env}
use Rattle.hazard_core.specs.xdp_maps.declared.decl.MapDecl.{MapDecl}
use Rattle.hazard_core.specs.xdp_maps.State.{no_decl}
use Rattle.hazard_core.specs.cell_core.Formed.{HasWords, IsInside}
use Rattle.hazard_core.specs.cell_core.Rows.{numbers}
use Rattle.hazard_core.specs.cell_core.Sites.{ProgramView, site_at}
use Rattle.hazard_core.proofs.cell_core_laws.NumberLaws.{numbers_long}
use Rattle.hazard_core.specs.Tables.{TableState, decl_of, table_at}
use Rattle.hazard_core.specs.Tabled.{IsTable, AreTables}
use Rattle.hazard_core.specs.StageValues.{StageValues, is_pending, pending}
use Rattle.overlay_net.specs.cell_nets.declared.operand.Operand.{Operand}
use Rattle.overlay_net.specs.cell_nets.Operands.{IsOperand, IsNarrow, IsAvailable}
use Rattle.overlay_net.specs.SiteOperands.Sites.{operands_of, all_of, ShowsSite}
use Rattle.overlay_net.specs.ValueNet.Words.{IsAligned}
use Rattle.read_net.specs.declared.sites.OwnSite.{OwnSite}
use Rattle.read_net.specs.declared.sites.MapNets.{MapNets}
use Rattle.read_net.specs.Sites.{cells_of, all_cells, slot_cells, sites_of, IsWhole, IsMapOf, ShowsTable}
use Rattle.read_net.specs.Reads.{taken, Shows, IsReadOf}
use Rattle.read_net.specs.Accesses.{IsFitting, HaveOperands}
use Rattle.stage_net.specs.declared.row.StageNets.{StageNets}
use Rattle.stage_net.specs.Nets.{IsOwnOf, decls_of, IsSiteNets, IsMapNets, AreNets, NetsAreThere}
use Rattle.stage_net.specs.Staged.{IsStaged}
use Rattle.stage_net.specs.Rows.{ShowsReads}

-- ---- numbers that are kept

kept_few : (q : ℕ → Bool) (n : ℕ) → length (filter q (numbers 0 n)) ≤ n
kept_few q n = omega (arith, length-filter q (numbers 0 n), count_by-le-length q (numbers 0 n), numbers_long 0 n)

-- what holds of the numbers of sites
of_sites : {N : Type 0} (Q : ℕ → Type 0) (ss : List (OwnSite N)) → All Q (sites_of ss) → All (λ s. Q s.site) ss
of_sites Q [] h k d lt = absurd (omega (arith, lt))
of_sites Q (s ∷ ss) h zero d lt = h 0 0 (omega arith)
of_sites Q (s ∷ ss) h (suc k) d lt = of_sites Q ss (λ n e l. h (suc n) e (omega (arith, l))) k d (omega (arith, lt))

module _ {N : Type 0} (p : ProgramView) (row : ℕ → ℕ) (nets : StageNets N) (staged : IsStaged p row (decls_of nets.maps.now) nets.bits) (are : AreNets p nets) where
  -- ---- maps
  pub map_in : (j : ℕ) → j < length p.sites → (site_at p.sites j).map < length nets.maps.now
  map_in j lt = let f = (staged.fits j lt).map in omega (arith, f, length-map nets.maps.now (λ (m : MapNets N). m.decl.now))

  module _ (j : ℕ) (inside : j < length p.sites) (m : MapNets N) (is : m ≡ get_or nets.maps.now (site_at p.sites j).map m) where
    pub its_nets : IsMapNets nets.bits m
    its_nets = subst (IsMapNets nets.bits) (sym is) (are.maps (site_at p.sites j).map m (map_in j inside))

    its_decl : decl_of (decls_of nets.maps.now) (site_at p.sites j).map ≡ m.decl.now
    its_decl = get_or-map (λ (n : MapNets N). n.decl.now) nets.maps.now (site_at p.sites j).map m no_decl (map_in j inside) ∙ ap (λ (n : MapNets N). n.decl.now) (sym is)

    pub is_map_of : (t : TableState) → AreTables t → t.decls ≡ decls_of nets.maps.now → IsMapOf t (site_at p.sites j).map m.decl.now
    is_map_of t tables decls =
        let e : decl_of t.decls (site_at p.sites j).map ≡ m.decl.now = ap (λ ds. decl_of ds (site_at p.sites j).map) decls ∙ its_decl in
        let lt : (site_at p.sites j).map < length t.decls = omega (arith, (staged.fits j inside).map, ap (λ (l : List MapDecl). length l) decls) in
        record { decl = e; table = subst (λ (x : MapDecl). IsTable x (table_at t (site_at p.sites j).map)) e (tables.each (site_at p.sites j).map lt) }

    fits_map : (i : ℕ) → i < length p.sites → (site_at p.sites i).map ≡ (site_at p.sites j).map → decl_of (decls_of nets.maps.now) (site_at p.sites i).map ≡ m.decl.now
    fits_map i lt e = ap (decl_of (decls_of nets.maps.now)) e ∙ its_decl

  -- ---- a site
  nets_of : (s : OwnSite N) → IsOwnOf p nets.sites.now s → IsSiteNets p nets.bits s.site s.nets.now
  nets_of s own = subst (IsSiteNets p nets.bits s.site) (sym own.nets) (are.sites s.site s.nets.now own.site)

  pub cells_all : (s : OwnSite N) → IsOwnOf p nets.sites.now s → All IsOperand (cells_of s)
  cells_all s own = (nets_of s own).operands

  pub is_aligned : (s : OwnSite N) → IsOwnOf p nets.sites.now s → IsAligned s.act
  is_aligned s own = subst IsAligned own.act (staged.aligned s.site own.site)

  module _ (j : ℕ) (inside : j < length p.sites) (m : MapNets N) (is : m ≡ get_or nets.maps.now (site_at p.sites j).map m) (s : OwnSite N) (own : IsOwnOf p nets.sites.now s) (on : (site_at p.sites s.site).map ≡ (site_at p.sites j).map) where
    same : decl_of (decls_of nets.maps.now) (site_at p.sites s.site).map ≡ m.decl.now
    same = fits_map j inside m is s.site own.site on

    pub key_words : m.decl.now.key ≤ 8 * length s.nets.now.key.items
    key_words =
        let k = (staged.fits s.site own.site).key in
        let e = ap (λ (d : MapDecl). d.key) same in
        omega (arith, k, e, (nets_of s own).key)

    pub whole : IsWhole m s
    whole =
        let n = nets_of s own in
        let b = sym (its_nets j inside m is).same in
        record {
          operands = n.operands;
          key = key_words;
          number = subst (λ w. 4 * s.site + 2 < 2 ^ w) b (staged.room s.site own.site);
          found = subst (λ w. IsNarrow w s.nets.now.found) b n.found;
          pointer = subst (λ w. IsNarrow w s.nets.now.pointer) b n.pointer;
        }

    pub fitting : IsFitting m s
    fitting =
        let f = staged.fits s.site own.site in
        record {
          aligned = is_aligned s own;
          words = subst (λ n. HasWords m.decl.now.value s.act n) (sym (nets_of s own).words) (subst (λ a. HasWords m.decl.now.value a (length (site_at p.sites s.site).operands)) own.act (subst (λ (d : MapDecl). HasWords d.value (site_at p.sites s.site).act (length (site_at p.sites s.site).operands)) same f.value));
          inside = subst (λ a. IsInside m.decl.now.value a) own.act (subst (λ (d : MapDecl). IsInside d.value (site_at p.sites s.site).act) same f.inside);
        }

  -- ---- a site and the operations that its read sees
  module _ (r : ℕ) (s : OwnSite N) (own : IsOwnOf p nets.sites.now s) (ss : List (OwnSite N)) (owns : All (IsOwnOf p nets.sites.now) ss) (seen : sites_of ss ≡ pending p row r s.site) (m : MapNets N) (is : m ≡ get_or nets.maps.now (site_at p.sites s.site).map m) where
    on_map : All (λ o. (site_at p.sites o.site).map ≡ (site_at p.sites s.site).map) ss
    on_map =
        of_sites (λ i. (site_at p.sites i).map ≡ (site_at p.sites s.site).map) ss
        (subst (All (λ i. (site_at p.sites i).map ≡ (site_at p.sites s.site).map)) (sym seen)
        (λ k d lt. eqb-true _ _ (and_parts _ _ (and_parts _ _ (filter_passes (is_pending p row r s.site) (numbers 0 s.site) k d lt)).0).0))

    pub earlier_whole : All (IsWhole m) ss
    earlier_whole k d lt = whole s.site own.site m is (get_or ss k d) (owns k d lt) (on_map k d lt)

    pub earlier_fitting : All (IsFitting m) ss
    earlier_fitting k d lt = fitting s.site own.site m is (get_or ss k d) (owns k d lt) (on_map k d lt)

    pub earlier_few : length ss < 65536
    earlier_few =
        let a = length-map ss (λ (o : OwnSite N). o.site) in
        let b = ap (λ (l : List ℕ). length l) seen in
        omega (arith, a, b, kept_few (is_pending p row r s.site) s.site, own.site, staged.few)

    pub have_operands : HaveOperands p ss
    have_operands k d lt = (nets_of (get_or ss k d) (owns k d lt)).words

    pub is_read_of : (t : TableState) → AreTables t → t.decls ≡ decls_of nets.maps.now → IsReadOf p t row r m s ss
    is_read_of t tables decls = record { act = own.act; acts = λ k o l. (owns k o l).act; sites = seen; map = is_map_of s.site own.site m is t tables decls }

    -- ---- what is there
    module _ (ins : List (Operand N)) (hand : NetsAreThere ins nets) where
      cells_there : (o : OwnSite N) → IsOwnOf p nets.sites.now o → All (IsAvailable ins) (cells_of o)
      cells_there o of = subst (λ n. All (IsAvailable ins) (all_of (operands_of n))) (sym of.nets) (hand.sites o.site o.nets.now (omega (arith, of.site, are.count)))

      all_there : (os : List (OwnSite N)) → All (IsOwnOf p nets.sites.now) os → All (IsAvailable ins) (all_cells os)
      all_there [] h = All-nil (IsAvailable ins)
      all_there (o ∷ os) h = All-append (IsAvailable ins) (cells_of o) (all_cells os) (cells_there o (All-head (IsOwnOf p nets.sites.now) o os h)) (all_there os (All-tail (IsOwnOf p nets.sites.now) o os h))

      pub taken_there : (word : Operand N) → word ≡ get_or nets.words.now s.site word → All (IsAvailable ins) (word ∷ taken m s ss)
      taken_there word e =
          All-cons (IsAvailable ins) word (taken m s ss) (subst (IsAvailable ins) (sym e) (hand.words s.site word (omega (arith, own.site, are.word_count))))
          (All-append (IsAvailable ins) (cells_of s) (all_cells ss ++ slot_cells m) (cells_there s own)
          (All-append (IsAvailable ins) (all_cells ss) (slot_cells m) (all_there ss owns) (subst (λ n. All (IsAvailable ins) (slot_cells n)) (sym is) (hand.maps (site_at p.sites s.site).map m (map_in s.site own.site)))))

    -- ---- what it stands for
    module _ (v : Env N) (t : TableState) (h : StageValues) (x : ShowsReads v p nets t h s.site) where
      shows_own : (o : OwnSite N) → IsOwnOf p nets.sites.now o → ShowsSite v p h o.site (operands_of o.nets.now)
      shows_own o of = subst (λ n. ShowsSite v p h o.site (operands_of n)) (sym of.nets) (x.sites o.site o.nets.now of.site)

      pub shows_all : Shows v p t h m s ss
      shows_all = record {
        asked = (shows_own s own).asked;
        earlier = λ k d lt. shows_own (get_or ss k d) (owns k d lt);
        table = subst (ShowsTable v t (site_at p.sites s.site).map) (sym is) (x.maps.maps (site_at p.sites s.site).map m (map_in s.site own.site));
      }
