-- What is passed to the maps has the lengths that they declare.
use Rattle.std.proofs.Common.{◌≡◌, ◌≢◌, ℕ, zero, suc, ◌+◌, ◌*◌, ◌<◌, ◌≤◌, true, false, Bool, List, get_or, ap, add-one, [], ◌∷◌, ◌++◌, length, take, drop, refl, sym, ◌∙◌, arith, append_assoc, map as map_list}
use Rattle.std.proofs.lemmas.List.{length-map}
use Rattle.std.proofs.lemmas.List.{get_or-map}
use Rattle.std.proofs.Math.Seq.{drop-cons}
use Rattle.byteorder.specs.Endian.{little_bytes}
use Rattle.xdp_state.specs.xdp_maps.State.{MapState}
use Rattle.cell_core.specs.declared.site.Site.{Site}
use Rattle.cell_core.specs.View.{site_of}
use Rattle.cell_core.specs.Sites.{SiteView, site_at, no_site, spelled, bytes_of, records, operation_on, applied, after}
use Rattle.cell_core.specs.Cells.{on}
use Rattle.cell_core.proofs.SpelledLaws.{bytes_length}
use Rattle.xdp_state.specs.xdp_maps.Operations.{operated}
use Rattle.std.specs.Prelude.{if◌then◌else◌, ◌&&◌, ◌==◌, not}
use Rattle.std.proofs.lemmas.Bool.{eqb-true}

tail_length : (v : ℕ → ℕ) (ws : List ℕ) → length ws ≤ 1 + length (drop 1 (map_list v ws))
tail_length v [] = omega arith
tail_length v (w ∷ ws) = omega (arith, length-map ws v)

pub value_length : (n : ℕ) (v : ℕ → ℕ) (ws : List ℕ) → n + 8 ≤ 8 * length ws → length (bytes_of n (drop 1 (map_list v ws))) ≡ n
value_length n v ws h = bytes_length n (drop 1 (map_list v ws)) (omega (arith, tail_length v ws))

-- one word more is spelled
pub spelled_next : (v : ℕ → ℕ) (ws out : List ℕ) (i : ℕ) → i < length ws
    → (out ++ little_bytes 8 (v (get_or ws i 0))) ++ spelled (map_list v (drop (i + 1) ws)) ≡ out ++ spelled (map_list v (drop i ws))
spelled_next v ws out i h = rw (add-one, drop-cons ws i 0 h) (append_assoc out (little_bytes 8 (v (get_or ws i 0))) (spelled (map_list v (drop (suc i) ws))))

-- ---- one site more

pub after_next : (v : ℕ → ℕ) (maps : MapState) (ss : List SiteView) (i : ℕ) → i < length ss → after v maps (take (suc i) ss) ≡ applied v (after v maps (take i ss)) (site_at ss i)
after_next v maps [] i h = absurd (omega arith)
after_next v maps (s ∷ ss) zero h = refl
after_next v maps (s ∷ ss) (suc i) h = after_next v (applied v maps s) ss i (omega arith)

-- the sites of a program as those in memory are read
pub site_read : (ss : List Site) (i : ℕ) (s : Site) → i < length ss → s ≡ get_or ss i s → site_at (map_list site_of ss) i ≡ site_of s
site_read ss i s h e = get_or-map site_of ss i s no_site h ∙ ap site_of (sym e)

pub after_site : (v : ℕ → ℕ) (start old new : MapState) (ss : List Site) (i : ℕ) (s : Site) → i < length ss → s ≡ get_or ss i s
    → old ≡ after v start (take i (map_list site_of ss)) → new ≡ applied v old (site_of s) → new ≡ after v start (take (i + 1) (map_list site_of ss))
after_site v start old new ss i s h e before one =
    let more : i < length (map_list site_of ss) = omega (arith, length-map ss site_of) in
    rw add-one (one ∙ ap (λ (m : MapState). applied v m (site_of s)) before ∙ ap (applied v (after v start (take i (map_list site_of ss)))) (sym (site_read ss i s h e)) ∙ sym (after_next v start (map_list site_of ss) i more))

-- a site changes no declaration
pub applied_decls : (v : ℕ → ℕ) (maps : MapState) (s : SiteView) → (applied v maps s).decls ≡ maps.decls
applied_decls v maps s = by_test (records s.act && on (v s.guard))
  where
    by_test : (b : Bool) → (if b then operated maps s.map (operation_on v maps s) else maps).decls ≡ maps.decls
    by_test true = refl
    by_test false = refl

-- ---- a guard that is on

pub on_when : (n : ℕ) → n ≢ 0 → on n ≡ true
on_when n h = by_test (n == 0) refl
  where
    by_test : (b : Bool) → (n == 0) ≡ b → not b ≡ true
    by_test true t = absurd (h (eqb-true n 0 t))
    by_test false t = refl

both_on : (b g : Bool) → g ≡ true → b ≡ (b && g)
both_on true g e = sym e
both_on false g e = refl

pub applied_on : (v : ℕ → ℕ) (maps : MapState) (s : SiteView) → on (v s.guard) ≡ true → (if records s.act then operated maps s.map (operation_on v maps s) else maps) ≡ applied v maps s
applied_on v maps s e = ap (λ (b : Bool). if b then operated maps s.map (operation_on v maps s) else maps) (both_on (records s.act) (on (v s.guard)) e)
