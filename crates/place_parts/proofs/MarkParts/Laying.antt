-- The parts of marks of a layout.
use Rattle.std.specs.Prelude.{◌==◌, ◌&&◌, if◌then◌else◌, Some, Contains, slice_index}
use Rattle.std.specs.List.{filter}
use Rattle.std.proofs.Common.{◌≡◌, ◌∙◌, ℕ, zero, suc, ◌<◌, ◌≤◌, Bool, true, All, List, [], ◌∷◌, length, get_or, map as map_list, sym, ap, subst, arith}
use Rattle.std.proofs.lemmas.Bool.{eq-eqb}
use Rattle.block_core.proofs.list_laws_laws.PlaceLaws.{some_of}
use Rattle.hazard_core.specs.xdp_maps.declared.decl.MapDecl.{MapDecl}
use Rattle.hazard_core.specs.xdp_maps.declared.decl.MapKind.{MapKind}
use Rattle.hazard_core.specs.xdp_maps.declared.decl.MapKind.TheVariants.{Hash}
use Rattle.block_core.specs.declared.name.Name.{Name}
use Rattle.block_core.specs.Blocks.{BlockTree, Whole}
use Rattle.hazard_core.specs.cell_core.Rows.{numbers}
use Rattle.hazard_core.specs.cell_core.Sites.{ProgramView, site_at}
use Rattle.overlay_net.specs.cell_nets.declared.operand.Operand.{Operand}
use Rattle.overlay_net.specs.cell_nets.declared.operand.Operand.TheVariants.{Net}
use Rattle.control_net.specs.Returns.{reload_name}
use Rattle.hazard_core.specs.Tables.{decl_of}
use Rattle.hazard_core.specs.StageValues.{is_update}
use Rattle.hazard_core.specs.Marks.{has_read}
use Rattle.hazard_core.specs.HeldRows.Fits.{IsMadeBefore}
use Rattle.overlay_net.specs.declared.site_operands.SiteNets.{SiteNets}
use Rattle.overlay_net.specs.SiteOperands.Sites.{SiteOperands, operands_of}
use Rattle.read_net.specs.declared.touch_net.change.OwnKey.{OwnKey}
use Rattle.read_net.specs.declared.touch_net.marks.MarkNets.{MarkNets}
use Rattle.read_net.specs.TouchNet.Marking.{AreKnown}
use Rattle.read_net.specs.TouchNet.Touching.{key_bytes, IsAmong}
use Rattle.commit_net.specs.declared.change_net.change.ChangePart.{ChangePart}
use Rattle.read_net.specs.declared.mark_net.nets.MarkSite.{MarkSite}
use Rattle.read_net.specs.MarkNet.Marks.{IsMarks}
use Rattle.read_net.specs.MarkNet.Sites.{AreMarkSites}
use Rattle.pipe_net.specs.declared.parts.Part.{Part}
use Rattle.pipe_net.specs.Parts as part
use Rattle.pipe_net.specs.Layout.{Layout, program_of, commit_of}
use Rattle.pipe_net.specs.Relation.{read_sites}
use Rattle.pipe_net.specs.Standing.{IsAtPlace}
use Rattle.pipe_net.specs.PipeMarks.Parts as layout
use Rattle.pipe_net.specs.PipeMarks.Parts.{AreMarksOf, IsMarkAt, IsMarkNets, IsOwnAt}
use Rattle.place_parts.specs.declared.mark_parts.layout.MarkLayout.{MarkLayout}
use Rattle.place_parts.specs.MarkParts.Places.{program_in, rows_in, reads_in, register_of}
use Rattle.place_parts.specs.MarkParts.Reload as reload
use Rattle.place_parts.specs.MarkParts.Reload.{AreMarkNets, IsReloadPart}
use Rattle.place_parts.specs.MarkParts.Owns.{is_hash, is_own}
use Rattle.place_parts.specs.MarkParts.Marks.{comes_by, IsMarkOf, Unread, Read, IsMarkBefore, IsMark, advances_by, IsMarksPart}
use Rattle.place_parts.specs.MarkParts.Laws.{IsFor, IsChangeIn}
use Rattle.place_parts.proofs.MarkParts.Listing.{kept_in}
use Rattle.place_parts.proofs.MarkParts.Forming.{read_known}

-- ---- updates
hash_is : (kind : MapKind) → kind ≡ Hash → is_hash kind ≡ true
hash_is kind e = ap is_hash e

own_is : (p : ProgramView) (decls : List MapDecl) (bytes u : ℕ) → is_update (site_at p.sites u).act ≡ true → (decl_of decls (site_at p.sites u).map).kind ≡ Hash → key_bytes p decls u ≡ bytes → is_own p decls bytes u ≡ true
own_is p decls bytes u update hash same = by (is_update (site_at p.sites u).act) (is_hash (decl_of decls (site_at p.sites u).map).kind) (key_bytes p decls u == bytes) update (hash_is _ hash) (eq-eqb (key_bytes p decls u) bytes same)
  where
    by : (a b c : Bool) → a ≡ true → b ≡ true → c ≡ true → (a && b && c) ≡ true
    by a b c x y z = cc

among : (owns : List (OwnKey (Name Part))) (u : ℕ) → Contains (map_list (λ o. o.site) owns) u → IsAmong owns u
among [] u (k, lt, e) = absurd (omega (arith, lt))
among (o ∷ os) u (zero, lt, e) = (0, omega arith, λ d. e)
among (o ∷ os) u (suc k, lt, e) = let r = among os u (k, omega (arith, lt), e) in (suc r.0, omega (arith, r.1), λ d. r.2 d)

module _ (l : Layout) (f : MarkLayout) (d : Whole Part) (k : ℕ) (sites : List (SiteNets (Name Part))) (changes : List (ChangePart (Name Part))) (is : IsFor l f) (low : k ≤ commit_of l)
    (at : (j : ℕ) (s : SiteNets (Name Part)) → j < length (program_of l).sites → IsAtPlace l k j (operands_of (get_or sites j s))) (changed : (m : ℕ) (c : ChangePart (Name Part)) → m < length l.decls → IsChangeIn l m (get_or changes m c))
    (sites_long : length sites ≡ length (program_of l).sites) (changes_long : length changes ≡ length l.decls) where
  -- ---- the same sites
  same_at : (n : ℕ) → read_sites l n ≡ reads_in f n
  same_at n =
      ap (λ (p : ProgramView). filter (has_read p l.build.plan.row n) (numbers 0 (length p.sites))) is.program ∙ ap (λ (row : ℕ → ℕ). filter (has_read (program_in f) row n) (numbers 0 (length (program_in f).sites))) is.rows

  same_register : (n i : ℕ) → register_of f.sizes n i ≡ layout.mark_register l n i
  same_register n i = ap (λ z. register_of z n i) (sym is.sizes)

  same_site : (j : ℕ) → site_at (program_in f).sites j ≡ site_at (program_of l).sites j
  same_site j = ap (λ (p : ProgramView). site_at p.sites j) (sym is.program)

  known_in : (j : ℕ) → j < length (program_in f).sites → j < length (program_of l).sites
  known_in j lt = subst (λ (p : ProgramView). j < length p.sites) (sym is.program) lt

  -- ---- which must reload
  guard_at : (j : ℕ) (m : MarkNets (Name Part)) → j < length (program_of l).sites → reload.IsGuard f sites k j m.guard → (g : Operand (Name Part)) → m.guard ≡ Some g → (nets : SiteOperands (Name Part)) × IsAtPlace l k j nets × (g ≡ nets.guard)
  guard_at j m lt x g e =
      let s = some_of sites j (omega (arith, lt, sites_long)) in
      (operands_of (get_or sites j s), at j s lt, x.is g s e)

  site_of : (n i : ℕ) → slice_index (reads_in f n) i ≡ slice_index (read_sites l n) i
  site_of n i = ap (λ js. slice_index js i) (sym (same_at n))

  reads_known : (i : ℕ) → i < length (reads_in f k) → slice_index (read_sites l k) i < length (program_of l).sites
  reads_known i lt = subst (λ j. j < length (program_of l).sites) (site_of k i) (known_in _ (read_known f k i 0 lt))

  reload_nets : (reloads : List (MarkNets (Name Part))) → AreMarkNets f sites k reloads → (i : ℕ) (m : MarkNets (Name Part)) → i < length reloads → IsMarkNets l k i (get_or reloads i m)
  reload_nets reloads are i m lt =
      let x = are.each i m lt in
      record {
        marked = x.marked ∙ same_register k i;
        guard = guard_at (slice_index (read_sites l k) i) (get_or reloads i m) (reads_known i (omega (arith, lt, are.count))) (subst (λ j. reload.IsGuard f sites k j (get_or reloads i m).guard) (site_of k i) x.guard);
      }

  reload_known : (reloads : List (MarkNets (Name Part))) → AreMarkNets f sites k reloads → AreKnown (program_in f) (rows_in f) k (reads_in f k) reloads
  reload_known reloads are = record { count = are.count; each = λ n m lt. (are.each n m (omega (arith, lt, are.count))).guard.known }

  reloads_known : (reloads : List (MarkNets (Name Part))) → AreMarkNets f sites k reloads → AreKnown (program_of l) l.build.plan.row k (read_sites l k) reloads
  reloads_known reloads are =
      subst (λ js. AreKnown (program_of l) l.build.plan.row k js reloads) (sym (same_at k))
      (subst (λ (row : ℕ → ℕ). AreKnown (program_of l) row k (reads_in f k) reloads) (sym is.rows) (subst (λ (p : ProgramView). AreKnown p (rows_in f) k (reads_in f k) reloads) (sym is.program) (reload_known reloads are)))

  -- ---- marks
  mark_of : (n j : ℕ) (o : Operand (Name Part)) → IsMarkOf f n j o → layout.IsMarkOf l n j o
  mark_of n j o (Unread none e) = layout.Unread (subst (λ js. ¬ Contains js j) (sym (same_at n)) none) e
  mark_of n j o (Read i lt there e) = layout.Read i (subst (λ js. i < length js) (sym (same_at n)) lt) (sym (site_of n i) ∙ there) (e ∙ same_register n i)

  mark_before : (n j : ℕ) (o : Operand (Name Part)) → IsMarkBefore f j n o → layout.IsMarkBefore l j n o
  mark_before zero j o e = e
  mark_before (suc n) j o b = mark_of n j o b

  module _ (i : ℕ) (m : MarkSite (Name Part)) (x : IsMark f sites changes k i m) where
    known : m.site < length (program_of l).sites
    known = known_in m.site x.known

    abbrev map_is : ℕ
    map_is = (site_at (program_of l).sites m.site).map

    owns_at : All (IsOwnAt l k) m.owns.now
    owns_at n o lt =
        let own = x.owns.each n o lt in
        let s = m.nets.now in
        let a = get_or m.owns.now n o in
        record { nets = operands_of (get_or sites a.site s); at = at a.site s (omega (arith, own.known, sites_long)); key = own.key s }

    owns_all : (u : ℕ) → IsMadeBefore (program_of l) l.decls l.build.plan.row (suc k) u → key_bytes (program_of l) l.decls u ≡ m.decl.now.key → IsAmong m.owns.now u
    owns_all u made same =
        let own = own_is (program_of l) l.decls m.decl.now.key u made.update made.hash same in
        let there = kept_in (is_own (program_of l) l.decls m.decl.now.key) (length (program_of l).sites) u made.known own in
        let there_in = subst (λ (ds : List MapDecl). Contains (filter (is_own (program_in f) ds m.decl.now.key) (numbers 0 (length (program_in f).sites))) u) is.decls
        (subst (λ (p : ProgramView). Contains (filter (is_own p l.decls m.decl.now.key) (numbers 0 (length p.sites))) u) is.program there) in
        among m.owns.now u (subst (λ js. Contains js u) (sym x.owns.are) there_in)

    module _ (map_known : map_is < length l.decls) where
      abbrev change_part : ChangePart (Name Part)
      change_part = some_of changes map_is (omega (arith, map_known, changes_long))

      abbrev change_at : ChangePart (Name Part)
      change_at = get_or changes map_is change_part

      same_change : get_or changes (site_at (program_in f).sites m.site).map change_part ≡ change_at
      same_change = ap (λ s. get_or changes s.map change_part) (same_site m.site)

      same_comes : comes_by f.sizes k change_at ≡ layout.comes_by l k map_is
      same_comes =
          let c = changed map_is change_part map_known in
          ap (λ n. if k == n then change_at.by_host else change_at.any) (sym is.commit) ∙ ap (λ n. if k == commit_of l then n else change_at.any) (sym c.by_host) ∙ ap (λ n. if k == commit_of l then (l.changes map_is).by_host else n) (sym c.any)

      pub mark_at : IsMarkAt l k i m
      mark_at =
          let c = changed map_is change_part map_known in
          let e = x.change change_part in
          record {
            site = x.site ∙ site_of k i;
            nets = subst (λ (n : SiteNets (Name Part)). IsAtPlace l k m.site (operands_of n)) (sym (x.nets m.nets.now)) (at m.site m.nets.now known);
            was = x.was ∙ same_register k i;
            before = mark_before k m.site m.before x.before;
            comes = e.comes ∙ ap (λ (a : ChangePart (Name Part)). Net (comes_by f.sizes k a) 1) same_change ∙ ap (λ n. Net n 1) same_comes;
            slot = e.change.slot_is ∙ ap (λ (a : ChangePart (Name Part)). a.slot) same_change ∙ sym c.slot;
            key = e.change.key_is ∙ ap (λ (a : ChangePart (Name Part)). a.key.items) same_change ∙ sym c.key;
            presence = e.change.presence_is ∙ ap (λ (a : ChangePart (Name Part)). a.presence) same_change ∙ sym c.presence;
            owns = owns_at;
            all = owns_all;
          }

    pub mark_here : IsMarkAt l k i m
    mark_here =
        let e : (site_at (program_in f).sites m.site).map ≡ map_is = ap (λ s. s.map) (same_site m.site) in
        mark_at (omega (arith, x.map_known, e, changes_long))

  -- ---- all
  block_at : (marks : List (MarkSite (Name Part))) (b : BlockTree (Name Part)) → IsMarks (program_in f) f.decls.now (part.marks f.sizes k) (advances_by f.sizes) marks b → IsMarks (program_of l) l.decls (part.marks l.sizes k) (layout.advances l) marks b
  block_at marks b m =
      subst (λ z. IsMarks (program_of l) l.decls (part.marks z k) (advances_by z) marks b) (sym is.sizes)
      (subst (λ (ds : List MapDecl). IsMarks (program_of l) ds (part.marks f.sizes k) (advances_by f.sizes) marks b) (sym is.decls) (subst (λ (p : ProgramView). IsMarks p f.decls.now (part.marks f.sizes k) (advances_by f.sizes) marks b) (sym is.program) m))

  sites_at : (marks : List (MarkSite (Name Part))) → AreMarkSites (program_in f) f.decls.now marks → AreMarkSites (program_of l) l.decls marks
  sites_at marks m = subst (λ (ds : List MapDecl). AreMarkSites (program_of l) ds marks) (sym is.decls) (subst (λ (p : ProgramView). AreMarkSites p f.decls.now marks) (sym is.program) m)

  pub of_marks : IsReloadPart f sites k (reload_name l.reload k) (d.block (part.reload k)) → IsMarksPart f sites changes k (d.block (part.marks l.sizes k)) → AreMarksOf l k d
  of_marks x y = record {
    sites = y.marks;
    count = y.are.count ∙ ap length (sym (same_at k));
    each = λ i m lt. mark_here i (get_or y.marks i m) (y.are.each i m lt);
    are = sites_at y.marks y.of_sites;
    block = block_at y.marks (d.block (part.marks l.sizes k)) y.is;
    reloads = x.reloads;
    known = reloads_known x.reloads x.are;
    nets = reload_nets x.reloads x.are;
    reload = x.is;
  }
