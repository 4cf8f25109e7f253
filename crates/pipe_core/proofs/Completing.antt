-- Cell runs of a packet whose reads off the path are given: there is one on all maps, and only one.
use Rattle.std.proofs.Common.{◌≡◌, ℕ, zero, suc, ◌^◌, ◌<◌, ◌≤◌, Bool, true, false, List, length, take, Some, None, Option, refl, sym, ap, subst, ◌∙◌, arith}
use Rattle.std.specs.Prelude.{if◌then◌else◌, ◌==◌}
use Rattle.std.proofs.lemmas.Bool.{eqb-true, eqb-false}
use Rattle.std.proofs.lemmas.Nat.{mod_below, pow_pos}
use Rattle.hazard_core.specs.xdp_maps.declared.decl.MapDecl.{MapDecl}
use Rattle.hazard_core.specs.xdp_maps.State.{MapState}
use Rattle.hazard_core.specs.xdp_machine.State.{PacketIn}
use Rattle.hazard_core.specs.cell_core.Cells.{CellView, cell_at, is_read, site_in, value, bits_from, Solves_as, on}
use Rattle.hazard_core.specs.cell_core.Sites.{ProgramView, site_at, after, read_on, IsValue, IsCellRun}
use Rattle.hazard_core.specs.cell_core.Formed.{AreFormed, IsBelow, AreSited}
use Rattle.hazard_core.specs.cell_core.SiteLaws.{AreSame, ValuesKeep}
use Rattle.hazard_core.proofs.cell_core_laws.OperatorLaws.{value_of_plain, read_of_site, plain_when}

plain_solves : (b : Bool) (packet : PacketIn) (v : ℕ → ℕ) (c : CellView) (x : ℕ) → b ≡ false → x ≡ value packet v c → Solves_as b packet v c x
plain_solves true packet v c x e h = cc
plain_solves false packet v c x e h = h

read_solves : (b : Bool) (packet : PacketIn) (v : ℕ → ℕ) (c : CellView) (x : ℕ) → b ≡ true → x < 2 ^ c.width → Solves_as b packet v c x
read_solves true packet v c x e h = h
read_solves false packet v c x e h = cc

module _ (keep : ValuesKeep) (decls : List MapDecl) (p : ProgramView) (formed : AreFormed p.cells) (sited : AreSited decls p) (packet : PacketIn) (maps : MapState) where
  below : (k : ℕ) → k < length p.cells → (j i : ℕ) → site_in (cell_at p.cells k).op ≡ Some j → i ≤ j → IsBelow k (site_at p.sites i)
  below k l j i e m = sited.below k j i l e m

  kept : (v w : ℕ → ℕ) (k x : ℕ) → k < length p.cells → AreSame k v w → IsValue packet maps p.sites v (cell_at p.cells k) x → IsValue packet maps p.sites w (cell_at p.cells k) x
  kept v w k x l same h = keep packet maps p.sites v w k (cell_at p.cells k) x (formed.each k l).earlier (below k l) same h

  -- ---- only one

  -- the reads off the path are the same
  abbrev pub SameAside : (ℕ → ℕ) → (ℕ → ℕ) → Type 0
  SameAside v w = (k j : ℕ) → k < length p.cells → site_in (cell_at p.cells k).op ≡ Some j → on (v (site_at p.sites j).guard) ≡ false → on (w (site_at p.sites j).guard) ≡ false → v k ≡ w k

  one_value : (v w : ℕ → ℕ) (k : ℕ) → k < length p.cells → AreSame k v w → IsValue packet maps p.sites v (cell_at p.cells k) (v k) → IsValue packet maps p.sites w (cell_at p.cells k) (w k) →
      ((j : ℕ) → site_in (cell_at p.cells k).op ≡ Some j → on (v (site_at p.sites j).guard) ≡ false → on (w (site_at p.sites j).guard) ≡ false → v k ≡ w k) → v k ≡ w k
  one_value v w k l same h g aside = by (site_in (cell_at p.cells k).op) refl
    where
      c : CellView
      c = cell_at p.cells k

      q : IsValue packet maps p.sites w (cell_at p.cells k) (v k)
      q = kept v w k (v k) l same h

      by : (o : Option ℕ) → site_in (cell_at p.cells k).op ≡ o → v k ≡ w k
      by None e = value_of_plain (is_read c.op) packet w c (v k) (plain_when c.op e) q.solves ∙ sym (value_of_plain (is_read c.op) packet w c (w k) (plain_when c.op e) g.solves)
      by (Some j) e = guarded (on (w (site_at p.sites j).guard)) refl
        where
          guarded : (b : Bool) → on (w (site_at p.sites j).guard) ≡ b → v k ≡ w k
          guarded true is = q.answers j e is ∙ sym (g.answers j e is)
          guarded false is = aside j e (ap on (same (site_at p.sites j).guard (below k l j j e (omega arith)).guard) ∙ is) is

  one_below : (v w : ℕ → ℕ) → IsCellRun packet maps p v → IsCellRun packet maps p w → SameAside v w → (n k : ℕ) → k < n → k < length p.cells → v k ≡ w k
  one_below v w rv rw aside zero k l m = absurd (omega (arith, l))
  one_below v w rv rw aside (suc n) k l m = one_value v w k m (λ i h. one_below v w rv rw aside n i (omega (arith, l, h)) (omega (arith, m, h))) (rv.each k m) (rw.each k m) (λ j e off off'. aside k j m e off off')

  pub only_one : (v w : ℕ → ℕ) → IsCellRun packet maps p v → IsCellRun packet maps p w → SameAside v w → (k : ℕ) → k < length p.cells → v k ≡ w k
  only_one v w rv rw aside k l = one_below v w rv rw aside (suc k) k (omega arith) l

  -- ---- there is one

  -- the value of cell k on those of the earlier ones, and of a read off the path the one that is given
  settled : (ℕ → ℕ) → ℕ → ℕ → Option ℕ → ℕ
  settled v k given None = value packet v (cell_at p.cells k)
  settled v k given (Some j) =
      let c = cell_at p.cells k in
      if on (v (site_at p.sites j).guard) then bits_from (read_on v (after v maps (take j p.sites)) (site_at p.sites j) c.op) c.from c.width else given

  module _ (given : ℕ → ℕ) (fits : (k : ℕ) → k < length p.cells → is_read (cell_at p.cells k).op ≡ true → given k < 2 ^ (cell_at p.cells k).width) where
    abbrev settled_at : (ℕ → ℕ) → ℕ → ℕ
    settled_at v k = settled v k (given k) (site_in (cell_at p.cells k).op)

    -- the values of the first n cells
    built : ℕ → ℕ → ℕ
    built zero k = 0
    built (suc n) k = if k == n then settled_at (built n) n else built n k

    stays : (n k : ℕ) → k < n → built n k ≡ settled_at (built k) k
    unfolding built
    stays zero k l = absurd (omega (arith, l))
    stays (suc n) k l = by_test (k == n) refl (λ h. stays n k h)
      where
        by_test : (b : Bool) → (k == n) ≡ b → (k < n → built n k ≡ settled_at (built k) k) → (if b then settled_at (built n) n else built n k) ≡ settled_at (built k) k
        by_test true t lower = ap (λ (i : ℕ). settled_at (built i) i) (sym (eqb-true k n t))
        by_test false t lower = lower (omega (arith, l, eqb-false k n t))

    values : ℕ → ℕ
    values k = built (length p.cells) k

    same_here : (k : ℕ) → k < length p.cells → AreSame k (built k) values
    unfolding values
    same_here k l i h = stays k i h ∙ sym (stays (length p.cells) i (omega (arith, l, h)))

    value_here : (k : ℕ) → k < length p.cells → values k ≡ settled_at (built k) k
    unfolding values
    value_here k l = stays (length p.cells) k l

    settles : (k : ℕ) → k < length p.cells → (o : Option ℕ) → site_in (cell_at p.cells k).op ≡ o → IsValue packet maps p.sites (built k) (cell_at p.cells k) (settled (built k) k (given k) o)
    unfolding settled
    settles k l None e = record { solves = plain_solves (is_read c.op) packet (built k) c (value packet (built k) c) (plain_when c.op e) refl; answers = λ j f is. absurd (no j (sym e ∙ f)) }
      where
        c : CellView
        c = cell_at p.cells k

        no : (j : ℕ) → None ≡ Some j → ⊥
        no j e = cc
    settles k l (Some i) e = record {
      solves = read_solves (is_read c.op) packet (built k) c (settled (built k) k (given k) (Some i)) (read_of_site c.op i e) (by (on (built k (site_at p.sites i).guard)));
      answers = λ j f is. at j (some_same i j (sym e ∙ f)) is;
    }
      where
        c : CellView
        c = cell_at p.cells k

        some_same : (i j : ℕ) → Some i ≡ Some j → i ≡ j
        some_same i j e = cc

        by : (b : Bool) → (if b then bits_from (read_on (built k) (after (built k) maps (take i p.sites)) (site_at p.sites i) c.op) c.from c.width else given k) < 2 ^ c.width
        by true = mod_below _ (2 ^ c.width) (pow_pos c.width)
        by false = fits k l (read_of_site c.op i e)

        at : (j : ℕ) → i ≡ j → on (built k (site_at p.sites j).guard) ≡ true → settled (built k) k (given k) (Some i) ≡ bits_from (read_on (built k) (after (built k) maps (take j p.sites)) (site_at p.sites j) c.op) c.from c.width
        at j s = subst (λ (n : ℕ). on (built k (site_at p.sites n).guard) ≡ true → settled (built k) k (given k) (Some i) ≡ bits_from (read_on (built k) (after (built k) maps (take n p.sites)) (site_at p.sites n) c.op) c.from c.width) s
            (λ is. ap (λ (b : Bool). if b then bits_from (read_on (built k) (after (built k) maps (take i p.sites)) (site_at p.sites i) c.op) c.from c.width else given k) is)

    runs : IsCellRun packet maps p values
    runs = record {
      each = λ k l. subst (IsValue packet maps p.sites values (cell_at p.cells k)) (sym (value_here k l)) (kept (built k) values k (settled_at (built k) k) l (same_here k l) (settles k l (site_in (cell_at p.cells k).op) refl));
    }

    -- off the path what is given
    aside : (k j : ℕ) → k < length p.cells → site_in (cell_at p.cells k).op ≡ Some j → on (values (site_at p.sites j).guard) ≡ false → values k ≡ given k
    unfolding settled
    aside k j l e off =
        let g : on (built k (site_at p.sites j).guard) ≡ false = ap on (same_here k l (site_at p.sites j).guard (below k l j j e (omega arith)).guard) ∙ off in
        value_here k l ∙ ap (settled (built k) k (given k)) e
        ∙ ap (λ (b : Bool). if b then bits_from (read_on (built k) (after (built k) maps (take j p.sites)) (site_at p.sites j) (cell_at p.cells k).op) (cell_at p.cells k).from (cell_at p.cells k).width else given k) g

  pub completed : (given : ℕ → ℕ) → ((k : ℕ) → k < length p.cells → is_read (cell_at p.cells k).op ≡ true → given k < 2 ^ (cell_at p.cells k).width) →
      (v : ℕ → ℕ) × IsCellRun packet maps p v × ((k j : ℕ) → k < length p.cells → site_in (cell_at p.cells k).op ≡ Some j → on (v (site_at p.sites j).guard) ≡ false → v k ≡ given k)
  completed given fits = (values given fits, runs given fits, aside given fits)
