-- No site writes but record sites.
use Rattle.std.specs.Prelude.{cond, filter, nat_le}
use Rattle.std.specs.List.{find}
use Rattle.std.proofs.Common.{◌≡◌, ℕ, Bool, true, false, ◌&&◌, Some, List, [], ◌∷◌, refl, sym, ◌∙◌, ap}
use Rattle.std.proofs.lemmas.Bool.{and_parts, true≢false}
use Rattle.hazard_core.specs.xdp_maps.declared.decl.MapDecl.{MapDecl}
use Rattle.hazard_core.specs.xdp_maps.declared.decl.MapKind.{MapKind}
use Rattle.hazard_core.specs.cell_core.declared.site.Act.{Act}
use Rattle.hazard_core.specs.cell_core.declared.site.Act.TheVariants as act
use Rattle.hazard_core.specs.cell_core.Rows.{numbers}
use Rattle.hazard_core.specs.cell_core.Sites.{ProgramView, site_at, records}
use Rattle.hazard_core.specs.Tables.{decl_of}
use Rattle.hazard_core.specs.StageValues.{StageValues, stage_value, answer_cell, guard_on, writes_as, writes}
use Rattle.turn_net.specs.Actions.{RecordsAlone}

-- the first that passes a test is among those that pass a wider one
find_filter : {X : Type 0} (p q : X → Bool) → ((x : X) → p x ≡ true → q x ≡ true) → (xs : List X) → find p xs ≡ find p (filter q xs)
find_filter p q h [] = refl
find_filter {X} p q h (x ∷ xs) = by (q x) refl (find_filter p q h xs)
  where
    off : (a : Bool) → p x ≡ a → q x ≡ false → p x ≡ false
    off true f g = absurd (true≢false (sym (h x f) ∙ g))
    off false f g = f

    by : (b : Bool) → q x ≡ b → find p xs ≡ find p (filter q xs) → cond (p x) (Some x) (find p xs) ≡ find p (cond b (x ∷ filter q xs) (filter q xs))
    by true e rest = ap (cond (p x) (Some x)) rest
    by false e rest = ap (λ a. cond a (Some x) (find p xs)) (off (p x) refl e) ∙ rest

recorded : (a : Act) (kind : MapKind) (n : ℕ) → writes_as a kind n ≡ true → records a ≡ true
recorded act.Lookup kind n e = e
recorded (act.Load at size) kind n e = e
recorded act.Update kind n e = refl
recorded act.Delete kind n e = refl
recorded (act.Store at size) kind n e = refl
recorded (act.Atomic at a) kind n e = refl

open_recorded : (p : ProgramView) (decls : List MapDecl) (h : StageValues) (done j : ℕ) → (nat_le done j && writes p decls h j) ≡ true → records (site_at p.sites j).act ≡ true
open_recorded p decls h done j e =
    let s = site_at p.sites j in
    let w = and_parts (nat_le done j) (writes p decls h j) e in
    recorded s.act (decl_of decls s.map).kind (stage_value h (answer_cell p.cells j)) (and_parts (guard_on h s) _ w.1).1

pub alone : RecordsAlone
alone b t done x =
    find_filter (λ j. nat_le done j && writes b.program t.decls x.held j) (λ j. records (site_at b.program.sites j).act) (open_recorded b.program t.decls x.held done) (numbers 0 _)
