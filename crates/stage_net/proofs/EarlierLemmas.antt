-- The operations before a site, one more.
use Rattle.std.specs.Prelude.{filter}
use Rattle.std.proofs.Common.{◌≡◌, ◌∙◌, ℕ, suc, ◌+◌, Bool, true, false, All, List, [], ◌∷◌, ◌++◌, cond, append-nil, sym, ap, subst, arith}
use Rattle.std.proofs.lemmas.List.{map-append}
use Rattle.std.proofs.lemmas.List.Elements.{filter-append, All-append, All-cons, All-nil}
use Rattle.hazard_core.specs.cell_core.Rows.{numbers}
use Rattle.hazard_core.specs.cell_core.Sites.{ProgramView}
use Rattle.hazard_core.proofs.cell_core_laws.NumberLaws.{numbers_more}
use Rattle.overlay_net.specs.declared.site_operands.SiteNets.{SiteNets}
use Rattle.read_net.specs.declared.sites.OwnSite.{OwnSite}
use Rattle.read_net.specs.Sites.{sites_of}
use Rattle.stage_net.specs.Nets.{IsOwnOf}

module _ (q : ℕ → Bool) where
  next : (n : ℕ) → filter q (numbers 0 (n + 1)) ≡ filter q (numbers 0 n) ++ cond (q n) (n ∷ []) []
  next n =
      let e : n + 1 ≡ suc n = omega arith in
      ap (λ k. filter q (numbers 0 k)) e ∙ ap (filter q) (numbers_more 0 n ∙ ap (λ k. numbers 0 n ++ k ∷ []) (omega arith)) ∙ filter-append q (numbers 0 n) (n ∷ [])

  pub sites_same : {N : Type 0} (all new : List (OwnSite N)) (n : ℕ) → q n ≡ false → new ≡ all → sites_of all ≡ filter q (numbers 0 n) → sites_of new ≡ filter q (numbers 0 (n + 1))
  sites_same all new n gone e is = ap sites_of e ∙ is ∙ sym (append-nil (filter q (numbers 0 n))) ∙ ap (λ b. filter q (numbers 0 n) ++ cond b (n ∷ []) []) (sym gone) ∙ sym (next n)

  pub sites_more : {N : Type 0} (all new : List (OwnSite N)) (s : OwnSite N) (n : ℕ) → q n ≡ true → new ≡ all ++ s ∷ [] → s.site ≡ n → sites_of all ≡ filter q (numbers 0 n) → sites_of new ≡ filter q (numbers 0 (n + 1))
  sites_more all new s n there e number is =
      ap sites_of e ∙ map-append (λ (o : OwnSite _). o.site) all (s ∷ []) ∙ ap (λ k. sites_of all ++ k ∷ []) number ∙ ap (λ l. l ++ n ∷ []) is
      ∙ ap (λ b. filter q (numbers 0 n) ++ cond b (n ∷ []) []) (sym there) ∙ sym (next n)

pub owns_same : {N : Type 0} (p : ProgramView) (sites : List (SiteNets N)) (all new : List (OwnSite N)) → new ≡ all → All (IsOwnOf p sites) all → All (IsOwnOf p sites) new
owns_same p sites all new e owns = subst (All (IsOwnOf p sites)) (sym e) owns

pub owns_more : {N : Type 0} (p : ProgramView) (sites : List (SiteNets N)) (all new : List (OwnSite N)) (s : OwnSite N) → new ≡ all ++ s ∷ [] → All (IsOwnOf p sites) all → IsOwnOf p sites s → All (IsOwnOf p sites) new
owns_more p sites all new s e owns own = subst (All (IsOwnOf p sites)) (sym e) (All-append (IsOwnOf p sites) all (s ∷ []) owns (All-cons (IsOwnOf p sites) s [] own (All-nil (IsOwnOf p sites))))
