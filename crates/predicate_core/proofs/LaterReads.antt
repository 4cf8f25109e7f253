-- Reads among more cells and sites, where new cells read new sites alone.
use Rattle.std.proofs.Common.{◌≡◌, ℕ, ◌<◌, ◌≤◌, ◌⊎◌, inl, inr, zero, suc, true, Some, List, [], ◌∷◌, ◌++◌, length, get_or, sym, ◌∙◌, ap, subst, arith}
use Rattle.std.specs.Prelude.{Contains}
use Rattle.std.proofs.Math.ListN.{get_or-append}
use Rattle.std.proofs.lemmas.Bool.{cases_lt}
use Rattle.std.proofs.lemmas.List.{append-nil}
use Rattle.xdp_machine.specs.xdp_maps.declared.decl.MapDecl.{MapDecl}
use Rattle.xdp_machine.specs.State.{PacketIn}
use Rattle.cell_core.specs.Cells.{CellView, IsRun, cell_at, site_in, on}
use Rattle.cell_core.specs.Sites.{SiteView, ProgramView, no_site, site_at, records}
use Rattle.cell_core.specs.Rows.{greatest, taken_by}
use Rattle.operator_cells.specs.Making.{Grows, GrowsWith}
use Rattle.operator_cells.specs.HeldCells.Reading.{SiteIsRead, AreRanks, IsBehind, BelongsTo, ReadsAreMade, ReadsWait}

-- no element is higher than the highest
pub most : (rank : ℕ → ℕ) (xs : List ℕ) (x : ℕ) → Contains xs x → rank x ≤ greatest rank xs
most rank xs x (k, l, is) = subst (λ (y : ℕ). rank y ≤ greatest rank xs) is (at xs k l)
  where
    at : (ys : List ℕ) (i : ℕ) → i < length ys → rank (get_or ys i x) ≤ greatest rank ys
    at [] i m = absurd (omega (arith, m))
    at (y ∷ ys) zero m = omega arith
    at (y ∷ ys) (suc i) m = let h = at ys i (omega (arith, m)) in omega (arith, h)

pub ranks_before : (R : ℕ → ℕ → Type 0) (old new : List CellView) → GrowsWith R old new → (rank : ℕ → ℕ) → AreRanks new rank → AreRanks old rank
ranks_before R old new grows rank ranks = record {
  each = λ k l. let h = ranks.each k (omega (arith, l, grows.longer)) in omega (arith, h, ap (λ (c : CellView). greatest rank c.ins) (grows.kept k l));
}

module _ (R : ℕ → ℕ → Type 0) (p q : ProgramView) (more : List SiteView) (grows : GrowsWith R p.cells q.cells) (later : (d j : ℕ) → R d j → length p.sites ≤ j) (is : q.sites ≡ p.sites ++ more) where
  pub site_kept : (i : ℕ) → i < length p.sites → site_at q.sites i ≡ site_at p.sites i
  site_kept i l = ap (λ (ss : List SiteView). site_at ss i) is ∙ get_or-append p.sites more no_site i l

  kept_in : (x j : ℕ) → x < length p.cells → site_in (cell_at q.cells x).op ≡ Some j → site_in (cell_at p.cells x).op ≡ Some j
  kept_in x j l reads = ap (λ (c : CellView). site_in c.op) (sym (grows.kept x l)) ∙ reads

  -- what reads a site that was there, was there
  pub older : (x j : ℕ) → j < length p.sites → x < length q.cells → site_in (cell_at q.cells x).op ≡ Some j → x < length p.cells
  older x j low l reads = by (cases_lt x (length p.cells))
    where
      by : (x < length p.cells) ⊎ (length p.cells ≤ x) → x < length p.cells
      by (inl m) = m
      by (inr m) = absurd (omega (arith, low, later x j (grows.reads x j m l reads)))

  pub read_more : (decls : List MapDecl) (j : ℕ) (s : SiteView) → j < length p.sites → SiteIsRead decls p.cells j s → SiteIsRead decls q.cells j s
  read_more decls j s low r = record {
    found = λ e. let h = r.found e in (h.0, omega (arith, h.1, grows.longer), ap (λ (c : CellView). c.op) (grows.kept h.0 h.1) ∙ h.2);
    tells = λ e. let h = r.tells e in let k = grows.kept h.0 h.1 in
        (h.0, omega (arith, h.1, grows.longer), ap (λ (c : CellView). c.op) k ∙ h.2, ap (λ (c : CellView). c.width) k ∙ h.3, ap (λ (c : CellView). c.from) k ∙ h.4);
    one = λ c d l m reads same.
        let a = older c j low l reads in
        let b = older d j low m (ap site_in same ∙ reads) in
        r.one c d a b (kept_in c j a reads) (ap (λ (x : CellView). x.op) (sym (grows.kept d b)) ∙ same ∙ ap (λ (x : CellView). x.op) (grows.kept c a));
    finds = λ c l o. let a = older c j low l (ap site_in o) in r.finds c a (ap (λ (x : CellView). x.op) (sym (grows.kept c a)) ∙ o);
    answers = λ c l o. let a = older c j low l (ap site_in o) in r.answers c a (ap (λ (x : CellView). x.op) (sym (grows.kept c a)) ∙ o);
    takes = λ c x l reads h. let a = older c j low l reads in subst (λ (y : CellView). Contains y.ins x) (sym (grows.kept c a)) (r.takes c x a (kept_in c j a reads) h);
    alike = λ c d l m first second.
        let a = older c j low l first in
        let b = older d j low m second in
        ap (λ (y : CellView). y.ins) (grows.kept c a) ∙ r.alike c d a b (kept_in c j a first) (kept_in d j b second) ∙ ap (λ (y : CellView). y.ins) (sym (grows.kept d b));
    found_bits = λ c l o.
        let a = older c j low l (ap site_in o) in
        let k = grows.kept c a in
        let h = r.found_bits c a (ap (λ (x : CellView). x.op) (sym k) ∙ o) in
        (ap (λ (x : CellView). x.width) k ∙ h.0, ap (λ (x : CellView). x.from) k ∙ h.1);
    answered_bits = λ c l o.
        let a = older c j low l (ap site_in o) in
        let k = grows.kept c a in
        let h = r.answered_bits c a (ap (λ (x : CellView). x.op) (sym k) ∙ o) in
        (ap (λ (x : CellView). x.width) k ∙ h.0, ap (λ (x : CellView). x.from) k ∙ h.1);
    aligned = r.aligned;
  }

  pub belongs_before : (i x : ℕ) → i < length p.sites → BelongsTo q.cells i (site_at q.sites i) x → BelongsTo p.cells i (site_at p.sites i) x
  belongs_before i x low (inl taken) = inl (subst (λ (s : SiteView). Contains (taken_by s) x) (site_kept i low) taken)
  belongs_before i x low (inr reads) = let a = older x i low reads.0 reads.1 in inr (a, kept_in x i a reads.1)

  -- a read that was there waits as it did
  pub waits_more : ReadsWait p → (packet : PacketIn) (v : ℕ → ℕ) → IsRun packet q.cells v → (c i j : ℕ) → c < length q.cells → site_in (cell_at q.cells c).op ≡ Some j → i < j → j < length p.sites
      → (site_at q.sites i).map ≡ (site_at q.sites j).map → records (site_at q.sites i).act ≡ true → on (v (site_at q.sites i).guard) ≡ true → on (v (site_at q.sites j).guard) ≡ true
      → (x : ℕ) → BelongsTo q.cells i (site_at q.sites i) x → IsBehind q.cells c x
  waits_more w packet v run c i j l reads before low same writes first second x belongs rank ranks =
      let a = older c j low l reads in
      let m : i < length p.sites = omega (arith, before, low) in
      let at = site_kept i m in
      let own = site_kept j low in
      let h = w.waits packet v (grows.run packet v run) c i j a (kept_in c j a reads) before
      (ap (λ (s : SiteView). s.map) (sym at) ∙ same ∙ ap (λ (s : SiteView). s.map) own) (ap (λ (s : SiteView). records s.act) (sym at) ∙ writes)
      (ap (λ (s : SiteView). on (v s.guard)) (sym at) ∙ first) (ap (λ (s : SiteView). on (v s.guard)) (sym own) ∙ second) x (belongs_before i x m belongs) rank (ranks_before R p.cells q.cells grows rank ranks) in
      omega (arith, h, ap (λ (y : CellView). greatest rank y.ins) (grows.kept c a))

-- ---- more cells that read nothing, and the same sites

module _ (p q : ProgramView) (grows : Grows p.cells q.cells) (is : q.sites ≡ p.sites) where
  same : q.sites ≡ p.sites ++ []
  same = is ∙ sym (append-nil p.sites)

  stays : (x j : ℕ) → x < length q.cells → site_in (cell_at q.cells x).op ≡ Some j → (x < length p.cells) × (site_in (cell_at p.cells x).op ≡ Some j)
  stays x j l reads = by (cases_lt x (length p.cells))
    where
      by : (x < length p.cells) ⊎ (length p.cells ≤ x) → (x < length p.cells) × (site_in (cell_at p.cells x).op ≡ Some j)
      by (inl m) = (m, ap (λ (c : CellView). site_in c.op) (sym (grows.kept x m)) ∙ reads)
      by (inr m) = absurd (grows.reads x j m l reads)

  pub made_later : (decls : List MapDecl) → ReadsAreMade decls p → ReadsAreMade decls q
  made_later decls made = record {
    each = λ j l.
        let low : j < length p.sites = omega (arith, l, ap length is) in
        subst (SiteIsRead decls q.cells j) (sym (site_kept (λ c i. ⊥) p q [] grows (λ c i none. absurd none) same j low)) (read_more (λ c i. ⊥) p q [] grows (λ c i none. absurd none) same decls j (site_at p.sites j) low (made.each j low));
    ordered = λ c d i j l m first second less. let a = stays c j l second in let b = stays d i m first in made.ordered c d i j a.0 b.0 b.1 a.1 less;
  }

  pub waits_later : ((c j : ℕ) → c < length p.cells → site_in (cell_at p.cells c).op ≡ Some j → j < length p.sites) → ReadsWait p → ReadsWait q
  waits_later known w = record {
    waits = λ packet v run c i j l reads less maps writes first second x belongs.
        let a = stays c j l reads in
        waits_more (λ c i. ⊥) p q [] grows (λ c i none. absurd none) same w packet v run c i j l reads less (known c j a.0 a.1) maps writes first second x belongs;
  }
