-- The cells of a read, by what its site finds.
use Rattle.std.specs.Prelude.{not}
use Rattle.std.proofs.Common.{◌≡◌, ◌∙◌, ℕ, zero, suc, ◌+◌, true, All, List, [], ◌∷◌, ◌++◌, sym, ap, subst, arith}
use Rattle.std.proofs.lemmas.Bool.{eqb-true, and_parts}
use Rattle.std.proofs.lemmas.List.Elements.{filter_passes}
use Rattle.block_core.specs.net_core.Value.{Env}
use Rattle.overlay_net.specs.xdp_machine.State.{PacketIn}
use Rattle.block_core.specs.declared.name.Name.{Name}
use Rattle.block_core.specs.Blocks.{BlockWireTree}
use Rattle.overlay_net.specs.cell_core.Cells.{CellView, bit, on, bits_from}
use Rattle.overlay_net.specs.cell_core.Rows.{numbers}
use Rattle.overlay_net.specs.cell_core.Sites.{ProgramView, site_at}
use Rattle.pipe_core.specs.hazard_core.Tables.{TableState}
use Rattle.pipe_core.specs.hazard_core.StageValues.{StageValues, is_null, is_pending, pending}
use Rattle.pipe_core.specs.hazard_core.Overlay.{found_pointer, answer_over}
use Rattle.overlay_net.specs.cell_nets.declared.operand.Operand.{Operand}
use Rattle.overlay_net.specs.cell_nets.Operands.{number_in, IsAvailable}
use Rattle.overlay_net.specs.cell_nets.Wires.{always, Gives}
use Rattle.overlay_net.specs.SiteOperands.Pointers.{pointer_number}
use Rattle.overlay_net.specs.Seen.{all_read}
use Rattle.overlay_net.specs.cell_nets.StepNets.Standing.{Stands}
use Rattle.overlay_net.proofs.cell_nets_laws.StepNets.ChainLaws.{next, ends}
use Rattle.overlay_net.proofs.PointerLaws.{found_on}
use Rattle.read_net.specs.declared.finding.FoundNets.{FoundNets}
use Rattle.read_net.specs.declared.sites.OwnSite.{OwnSite}
use Rattle.read_net.specs.declared.sites.MapNets.{MapNets}
use Rattle.read_net.specs.Reads.{taken, ShowsBoth, IsFound, Finds, IsReadOf, Reads}
use Rattle.read_net.specs.Sites.{sites_of, IsOwn}
use Rattle.read_net.proofs.StandLemmas.{one_of}

-- ---- the operations that a read sees are on its map
module _ {N : Type 0} (p : ProgramView) (t : TableState) (row : ℕ → ℕ) (r : ℕ) (m : MapNets N) (s : OwnSite N) (ss : List (OwnSite N)) (is : IsReadOf p t row r m s ss) where
  on_map : (i : ℕ) → is_pending p row r s.site i ≡ true → (site_at p.sites i).map ≡ (site_at p.sites s.site).map
  on_map i e = eqb-true (site_at p.sites i).map (site_at p.sites s.site).map (and_parts _ _ (and_parts _ _ e).0).0

  pub own_of : All (IsOwn p (site_at p.sites s.site).map) ss
  own_of = λ k d lt. record { act = is.acts k d lt; map = maps ss (subst (All (λ i. (site_at p.sites i).map ≡ (site_at p.sites s.site).map)) (sym is.sites) (λ n e l. on_map _ (filter_passes (is_pending p row r s.site) (numbers 0 s.site) n e l))) k d lt }
    where
      maps : (os : List (OwnSite N)) → All (λ i. (site_at p.sites i).map ≡ (site_at p.sites s.site).map) (sites_of os) → All (λ o. (site_at p.sites o.site).map ≡ (site_at p.sites s.site).map) os
      maps [] h k d lt = absurd (omega (arith, lt))
      maps (o ∷ os) h zero d lt = h 0 0 (omega arith)
      maps (o ∷ os) h (suc k) d lt = maps os (λ n e l. h (suc n) e (omega (arith, l))) k d (omega (arith, lt))

-- ---- what stands for its cells
module _ {P : Type 0} (part : P) (old mid : List (BlockWireTree (Name P))) (m : MapNets (Name P)) (s : OwnSite (Name P)) (ss : List (OwnSite (Name P))) (p : ProgramView) (t : TableState) (h : StageValues) (row : ℕ → ℕ) (r : ℕ) (packet : PacketIn) (c : CellView) (is : IsReadOf p t row r m s ss) (slot : Operand (Name P))
    (f : FoundNets (Name P)) (found : IsFound m ss f) (x : Stands part old mid (slot ∷ taken m s ss) (λ v. ShowsBoth v p t h m s ss slot) (f.key ∷ f.found ∷ all_read f.pending.items ++ taken m s ss) (λ v. Finds v p t h m s ss f)) where
  pub reads_found :
      (low new : List (BlockWireTree (Name P))) (bs : List (Operand (Name P))) (more : Env (Name P) → Type 0) (from width : ℕ) (there answer : Operand (Name P)) → Gives part mid low (f.found ∷ []) always (λ v. bit (on (number_in v f.found))) 1 there
      → Gives part low new bs more (λ v. bits_from (answer_over p t h (sites_of ss) s.site) from width) width answer → ((ins : List (Operand (Name P))) → All (IsAvailable ins) (f.key ∷ f.found ∷ all_read f.pending.items ++ taken m s ss) → All (IsAvailable ins) bs)
      → ((v : Env (Name P)) → Finds v p t h m s ss f → more v) → Reads part old new m s ss slot from width p t h row r packet c (record { found = f.found; there = there; answer = answer })
  reads_found low new bs more from width there answer y z sub enough =
      let all = next (next x y (λ ins a. one_of (IsAvailable ins) f.found (a 1 f.found (omega arith))) (λ v fit k. tt)) z (λ ins a. sub ins (λ n d lt. a (suc n) d (omega (arith, lt)))) (λ v fit k. enough v k.0) in
      record {
        found = ends all (λ v. pointer_number (found_pointer p t h (pending p row r s.site) s.site)) m.bits f.found (λ ins a. a 3 f.found (omega arith)) found.found found.found_bits (λ v fit k. k.0.0.found ∙ ap (λ l. pointer_number (found_pointer p t h l s.site)) is.sites);
        there =
            ends all (λ v. bit (not (is_null (found_pointer p t h (pending p row r s.site) s.site)))) 1 there (λ ins a. a 1 there (omega arith)) y.operand y.bits
            (λ v fit k. k.0.1 ∙ ap (λ n. bit (on n)) (k.0.0.found ∙ ap (λ l. pointer_number (found_pointer p t h l s.site)) is.sites) ∙ ap bit (found_on (found_pointer p t h (pending p row r s.site) s.site)));
        answer = ends all (λ v. bits_from (answer_over p t h (pending p row r s.site) s.site) from width) width answer (λ ins a. a 0 answer (omega arith)) z.operand z.bits (λ v fit k. k.1 ∙ ap (λ l. bits_from (answer_over p t h l s.site) from width) is.sites);
      }
