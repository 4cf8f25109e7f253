-- The operands of sites, and the key that a site asks for.
use Rattle.std.proofs.Common.{◌≡◌, ◌∙◌, ◌⊎◌, inl, inr, ℕ, zero, suc, ◌+◌, ◌<◌, ◌≤◌, All, List, [], ◌∷◌, ◌++◌, length, get_or, sym, ap, subst, arith, map as map_list}
use Rattle.std.proofs.lemmas.Bool.{cases_lt}
use Rattle.std.proofs.lemmas.List.{get_or-map, get_or_append_left, get_or_default, get_or_push, length-map}
use Rattle.std.proofs.lemmas.List.Elements.{All-append}
use Rattle.block_core.proofs.list_laws_laws.PlaceLaws.{some_of}
use Rattle.block_core.specs.net_core.Value.{Env}
use Rattle.overlay_net.specs.xdp_maps.declared.decl.MapDecl.{MapDecl}
use Rattle.overlay_net.specs.cell_core.Sites.{ProgramView, site_at, bytes_of}
use Rattle.pipe_core.specs.hazard_core.Tables.{TableState, decl_of}
use Rattle.pipe_core.specs.hazard_core.StageValues.{StageValues, stage_value, asked_key}
use Rattle.overlay_net.specs.cell_nets.declared.operand.Operand.{Operand}
use Rattle.overlay_net.specs.cell_nets.Operands.{number_in}
use Rattle.overlay_net.specs.SiteOperands.Sites.{SiteOperands, all_of, ShowsAsked}
use Rattle.overlay_net.specs.declared.site_operands.Pending.{Pending}
use Rattle.overlay_net.specs.Seen.{read_of, all_read}
use Rattle.overlay_net.proofs.hazard_core_laws.ActsLaws.{key_is}
use Rattle.read_net.specs.declared.sites.OwnSite.{OwnSite}
use Rattle.read_net.specs.Sites.{cells_of, all_cells, sites_of}
use Rattle.read_net.proofs.StandLemmas.{left_of, right_of}

-- ---- operands
module _ {N : Type 0} (Q : Operand N → Type 0) where
  pub keys_of : (s : SiteOperands N) → All Q (all_of s) → All Q s.key
  keys_of s h = left_of Q s.key s.operands (λ n d lt. h (suc (suc (suc (suc n)))) d (omega (arith, lt)))

  -- those of one site among several
  pub cells_at : (ss : List (OwnSite N)) (k : ℕ) (s : OwnSite N) → k < length ss → s ≡ get_or ss k s → All Q (all_cells ss) → All Q (cells_of s)
  cells_at [] k s lt is h = absurd (omega (arith, lt))
  cells_at (o ∷ ss) zero s lt is h = subst (λ x. All Q (cells_of x)) (sym is) (left_of Q (cells_of o) (all_cells ss) h)
  cells_at (o ∷ ss) (suc k) s lt is h = cells_at ss k s (omega (arith, lt)) is (right_of Q (cells_of o) (all_cells ss) h)

  -- one operation more
  pub read_push : (ds : List (Pending N)) (d : Pending N) → All Q (all_read ds) → All Q (read_of d) → All Q (all_read (ds ++ d ∷ []))
  read_push [] d h k = All-append Q (read_of d) [] k h
  read_push (o ∷ ds) d h k = All-append Q (read_of o) (all_read (ds ++ d ∷ [])) (left_of Q (read_of o) (all_read ds) h) (read_push ds d (right_of Q (read_of o) (all_read ds) h) k)

-- ---- keys
pub shown_key : {N : Type 0} (v : Env N) (p : ProgramView) (t : TableState) (h : StageValues) (j : ℕ) (d : MapDecl) (s : SiteOperands N) → decl_of t.decls (site_at p.sites j).map ≡ d → ShowsAsked v p h j s → bytes_of d.key (map_list (number_in v) s.key) ≡ asked_key t.decls h (site_at p.sites j)
shown_key v p t h j d s e k =
    ap (bytes_of d.key) k.key
    ∙ ap (λ (x : MapDecl). bytes_of x.key (map_list (stage_value h) (site_at p.sites j).key)) (sym e)
    ∙ sym (key_is (decl_of t.decls (site_at p.sites j).map) (site_at p.sites j).act (map_list (stage_value h) (site_at p.sites j).key) (map_list (stage_value h) (site_at p.sites j).operands))

-- ---- pairs of elements of two lists
pub each_more :
    {X Y : Type 0} (Q : X → Y → Type 0) (xs : List X) (ys : List Y) (i : ℕ) (x : X) (y : Y) → length ys ≡ i → i < length xs → x ≡ get_or xs i x → ((n : ℕ) (s : X) (d : Y) → n < i → Q (get_or xs n s) (get_or ys n d)) → Q x y
    → (n : ℕ) (s : X) (d : Y) → n < i + 1 → Q (get_or xs n s) (get_or (ys ++ y ∷ []) n d)
each_more Q xs ys i x y count l is h q n s d lt = by (cases_lt n i)
  where
    by : (n < i) ⊎ (i ≤ n) → Q (get_or xs n s) (get_or (ys ++ y ∷ []) n d)
    by (inl less) = subst (Q (get_or xs n s)) (sym (get_or_append_left ys (y ∷ []) d n (omega (arith, less, count)))) (h n s d less)
    by (inr over) =
        let e : n ≡ i = omega (arith, over, lt) in
        let first : x ≡ get_or xs n s = is ∙ get_or_default xs i x s l ∙ ap (λ k. get_or xs k s) (sym e) in
        subst (Q (get_or xs n s)) (sym (get_or_push ys y d n (count ∙ sym e))) (subst (λ a. Q a y) first q)

-- ---- the numbers of sites

pub by_sites :
    {N Y : Type 0} (Q : ℕ → Y → Type 0) (ss : List (OwnSite N)) (ys : List Y) → ((n : ℕ) (s : OwnSite N) (d : Y) → n < length ss → Q (get_or ss n s).site (get_or ys n d))
    → (n : ℕ) (d : Y) → n < length (sites_of ss) → Q (get_or (sites_of ss) n 0) (get_or ys n d)
by_sites Q ss ys h n d lt =
    let l : n < length ss = omega (arith, lt, length-map ss (λ (s : OwnSite _). s.site)) in
    let s = some_of ss n l in
    subst (λ j. Q j (get_or ys n d)) (sym (get_or-map (λ (o : OwnSite _). o.site) ss n s 0 l)) (h n s d l)
