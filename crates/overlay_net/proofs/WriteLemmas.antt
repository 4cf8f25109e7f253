-- Whether operations write, and where, by what they do.
use Rattle.std.specs.Prelude.{not, if◌then◌else◌}
use Rattle.std.proofs.Common.{◌≡◌, ◌≢◌, ◌∙◌, ℕ, ◌+◌, ◌*◌, ◌==◌, Bool, true, false, ◌&&◌, List, refl, sym, ap, arith}
use Rattle.block_core.specs.net_core.Value.{Env}
use Rattle.hazard_core.specs.xdp_maps.declared.decl.MapDecl.{MapDecl}
use Rattle.hazard_core.specs.xdp_maps.declared.decl.MapKind.{MapKind}
use Rattle.hazard_core.specs.xdp_maps.declared.decl.MapKind.TheVariants as kind
use Rattle.hazard_core.specs.cell_core.declared.site.Act.{Act}
use Rattle.hazard_core.specs.cell_core.declared.site.Act.TheVariants as act
use Rattle.hazard_core.specs.cell_core.Cells.{bit, on}
use Rattle.hazard_core.specs.cell_core.Sites.{ProgramView, site_at, records}
use Rattle.hazard_core.specs.Tables.{TableState, decl_of}
use Rattle.hazard_core.specs.declared.pointer.Pointer.{Pointer}
use Rattle.hazard_core.specs.declared.pointer.Pointer.TheVariants.{Null, InSlot, Pending}
use Rattle.hazard_core.specs.StageValues.{is_null, StageValues, stage_value, answer_cell, is_update, is_delete, writes_as, writes, adds_key, takes_key, pointer_in, found_cell, update_pointer, written_as, written_pointer}
use Rattle.hazard_core.specs.Overlay.{found_as}
use Rattle.hazard_core.proofs.ActsLaws.{no_update}
use Rattle.cell_nets.specs.Operands.{number_in}
use Rattle.overlay_net.specs.SiteOperands.Pointers.{pointer_number}
use Rattle.overlay_net.specs.SiteOperands.Sites.{SiteOperands, ShowsSite}
use Rattle.overlay_net.specs.Reading.{IsSite}
use Rattle.overlay_net.proofs.PointerLaws.{found_on, some_on}
use Rattle.cell_nets.proofs.StepNets.StepLaws.{on_bit}

not_not : (b : Bool) → not (not b) ≡ b
not_not true = refl
not_not false = refl

pub is_zero : (n : ℕ) → (n == 0) ≡ not (on n)
is_zero n = sym (not_not (n == 0))

pub and_none : (b : Bool) → 0 ≡ bit (b && false)
and_none true = refl
and_none false = refl

pub and_all : (b : Bool) → bit b ≡ bit (b && true)
and_all true = refl
and_all false = refl

module _ (p : ProgramView) (decls : List MapDecl) (h : StageValues) (j : ℕ) (a : Act) (d : MapDecl) (is : IsSite p decls j a d) where
  writes_is : (w : ℕ → Bool) → ((n : ℕ) → writes_as a d.kind n ≡ w n) → writes p decls h j ≡ (on (stage_value h (site_at p.sites j).guard) && w (stage_value h (answer_cell p.cells j)))
  writes_is w e =
      let g = on (stage_value h (site_at p.sites j).guard) in
      let n = stage_value h (answer_cell p.cells j) in
      ap (λ b. g && writes_as b (decl_of decls (site_at p.sites j).map).kind n) is.act ∙ ap (λ (x : MapDecl). g && writes_as a x.kind n) is.decl ∙ ap (λ b. g && b) (e n)

  -- by what it answered
  pub shown_writes : {N : Type 0} (v : Env N) (s : SiteOperands N) (w : ℕ → Bool) → ((n : ℕ) → writes_as a d.kind n ≡ w n) → ShowsSite v p h j s → bit (on (number_in v s.guard) && w (number_in v s.answer)) ≡ bit (writes p decls h j)
  shown_writes v s w e k =
      ap (λ n. bit (on n && w (number_in v s.answer))) k.guard ∙ ap (λ n. bit (on (stage_value h (site_at p.sites j).guard) && w n)) k.answer ∙ ap bit (sym (writes_is w e))

pub written_is : (p : ProgramView) (t : TableState) (h : StageValues) (j : ℕ) (a : Act) (d : MapDecl) → IsSite p t.decls j a d → written_pointer p t h j ≡ written_as a d.kind p t h j
written_is p t h j a d is = ap (λ b. written_as b (decl_of t.decls (site_at p.sites j).map).kind p t h j) is.act ∙ ap (λ (x : MapDecl). written_as a x.kind p t h j) is.decl

-- an access writes whatever it answers
pub others_write : (a : Act) (k : MapKind) (n : ℕ) → a ≢ act.Update → a ≢ act.Delete → writes_as a k n ≡ records a
others_write act.Update k n u e = absurd (u refl)
others_write act.Delete k n u e = absurd (e refl)
others_write act.Lookup k n u e = refl
others_write (act.Load at size) k n u e = refl
others_write (act.Store at size) k n u e = refl
others_write (act.Atomic at a) k n u e = refl

-- and where its pointer is
pub others_through : (a : Act) (d : MapDecl) (p : ProgramView) (t : TableState) (h : StageValues) (j : ℕ) → a ≢ act.Update → a ≢ act.Delete → written_as a d.kind p t h j ≡ written_as act.Lookup d.kind p t h j
others_through act.Lookup d p t h j u e = refl
others_through (act.Load at size) d p t h j u e = refl
others_through act.Update d p t h j u e = absurd (u refl)
others_through act.Delete d p t h j u e = absurd (e refl)
others_through (act.Store at size) d p t h j u e = refl
others_through (act.Atomic at a) d p t h j u e = refl

pub no_delete : (a : Act) → a ≢ act.Delete → is_delete a ≡ false
no_delete act.Delete u = absurd (u refl)
no_delete act.Lookup u = refl
no_delete (act.Load at size) u = refl
no_delete act.Update u = refl
no_delete (act.Store at size) u = refl
no_delete (act.Atomic at a) u = refl

pub others_stay : (a : Act) (written found : Pointer) → a ≢ act.Update → a ≢ act.Delete → found_as a written found ≡ found
others_stay act.Update written found u e = absurd (u refl)
others_stay act.Delete written found u e = absurd (e refl)
others_stay act.Lookup written found u e = refl
others_stay (act.Load at size) written found u e = refl
others_stay (act.Store at size) written found u e = refl
others_stay (act.Atomic at a) written found u e = refl

-- ---- pointers as numbers
pub update_number : (j : ℕ) (q : Pointer) → (if on (pointer_number q) then pointer_number q else 4 * j + 2) ≡ pointer_number (update_pointer j q)
update_number j Null = refl
update_number j (InSlot n) = ap (λ b. if b then 4 * n + 1 else 4 * j + 2) (some_on (4 * n + 1) (omega arith))
update_number j (Pending i) = ap (λ b. if b then 4 * i + 2 else 4 * j + 2) (some_on (4 * i + 2) (omega arith))

-- ---- keys that come and go
three : (w u n : Bool) → u ≡ true → bit (w && n) ≡ bit (w && u && n)
three true u n e = ap (λ b. bit (b && n)) (sym e)
three false u n e = refl

three_none : (w u n : Bool) → u ≡ false → 0 ≡ bit (w && u && n)
three_none true u n e = ap (λ b. bit (b && n)) (sym e)
three_none false u n e = refl

two_none : (w u : Bool) → u ≡ false → 0 ≡ bit (w && u)
two_none true u e = ap bit (sym e)
two_none false u e = refl

two_all : (w u : Bool) → u ≡ true → bit w ≡ bit (w && u)
two_all true u e = ap bit (sym e)
two_all false u e = refl

module _ (p : ProgramView) (decls : List MapDecl) (h : StageValues) (j : ℕ) (a : Act) (is : (site_at p.sites j).act ≡ a) where
  pub update_adds : (w f : ℕ) → a ≡ act.Update → w ≡ bit (writes p decls h j) → f ≡ pointer_number (pointer_in h (found_cell p.cells j)) → bit (on w && not (on f)) ≡ bit (adds_key p decls h j)
  update_adds w f u ew ef =
      let q = pointer_in h (found_cell p.cells j) in
      ap (λ b. bit (b && not (on f))) (ap on ew ∙ on_bit (writes p decls h j))
      ∙ ap (λ b. bit (writes p decls h j && not b)) (ap on ef ∙ found_on q)
      ∙ ap (λ b. bit (writes p decls h j && b)) (not_not (is_null q))
      ∙ three (writes p decls h j) (is_update (site_at p.sites j).act) (is_null q) (ap is_update (is ∙ u))

  pub other_adds : a ≢ act.Update → 0 ≡ bit (adds_key p decls h j)
  other_adds u = three_none (writes p decls h j) (is_update (site_at p.sites j).act) (is_null (pointer_in h (found_cell p.cells j))) (ap is_update is ∙ no_update a u)

  pub delete_takes : (w : ℕ) → a ≡ act.Delete → w ≡ bit (writes p decls h j) → bit (on w) ≡ bit (takes_key p decls h j)
  delete_takes w u e = ap bit (ap on e ∙ on_bit (writes p decls h j)) ∙ two_all (writes p decls h j) (is_delete (site_at p.sites j).act) (ap is_delete (is ∙ u))

  pub other_takes : a ≢ act.Delete → 0 ≡ bit (takes_key p decls h j)
  other_takes u = two_none (writes p decls h j) (is_delete (site_at p.sites j).act) (ap is_delete is ∙ no_delete a u)

-- an update writes the entry that it found, or makes one
pub update_written : (p : ProgramView) (t : TableState) (h : StageValues) (j : ℕ) (a : Act) (d : MapDecl) → IsSite p t.decls j a d → a ≡ act.Update → d.kind ≡ kind.Hash → (f : ℕ) → f ≡ pointer_number (pointer_in h (found_cell p.cells j)) → (if on f then f else 4 * j + 2) ≡ pointer_number (written_pointer p t h j)
update_written p t h j a d is u k f e =
    ap (λ n. if on n then n else 4 * j + 2) e
    ∙ update_number j (pointer_in h (found_cell p.cells j))
    ∙ ap pointer_number (sym (written_is p t h j a d is ∙ ap (λ x. written_as x d.kind p t h j) u ∙ ap (λ x. written_as act.Update x p t h j) k))
