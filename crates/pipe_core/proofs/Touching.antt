-- A change that touched a read by what a packet held then touches it by a run too that holds the same before the read, but for one case: the size of
-- a hash touches only an update that finds no entry.
use Rattle.std.proofs.Common.{◌≡◌, ℕ, suc, ◌<◌, ◌⊎◌, inl, inr, Bool, true, false, List, [], ◌∷◌, Some, length, get_or, take, drop, refl, sym, ap, ◌∙◌, subst, arith, not, All, map as map_list}
use Rattle.std.specs.Prelude.{nat_lt, ◌==◌, ◌&&◌, ◌||◌, slice_index}
use Rattle.std.specs.List.{AllByRecursion}
use Rattle.std.specs.Str.{bytes_eq}
use Rattle.std.proofs.lemmas.Bool.{and_parts}
use Rattle.std.proofs.lemmas.Bool.Decides.{Decides-eqb}
use Rattle.std.proofs.lemmas.Slice.Eq.{bytes_eq-Decides}
use Rattle.hazard_core.specs.xdp_maps.declared.decl.MapDecl.{MapDecl}
use Rattle.hazard_core.specs.xdp_maps.declared.decl.MapKind.{MapKind}
use Rattle.hazard_core.specs.xdp_maps.declared.decl.MapKind.TheVariants.{Hash, Array}
use Rattle.hazard_core.specs.xdp_maps.Operations.{Operation}
use Rattle.hazard_core.specs.cell_core.declared.site.Act.{Act}
use Rattle.hazard_core.specs.cell_core.declared.site.Act.TheVariants as act
use Rattle.hazard_core.specs.cell_core.Acts.{is_access}
use Rattle.hazard_core.specs.cell_core.Cells.{cell_at, site_in}
use Rattle.hazard_core.specs.cell_core.Formed.{IsBelow}
use Rattle.hazard_core.specs.cell_core.Sites.{SiteView, ProgramView, site_at, bytes_of, operation_with}
use Rattle.hazard_core.specs.declared.change.Change.{Change}
use Rattle.hazard_core.specs.declared.pointer.Pointer.{Pointer}
use Rattle.hazard_core.specs.declared.pointer.Pointer.TheVariants.{Null, InSlot, Pending}
use Rattle.hazard_core.specs.Tables.{TableState, decl_of}
use Rattle.hazard_core.specs.StageValues.{is_null, StageValues, stage_value, pointer_in, asked_key, access_pointer, pointer_operand, found_cell}
use Rattle.hazard_core.specs.Keeping.{SameCell, looked_operands}
use Rattle.hazard_core.specs.Marks.{entry_touched, presence_touched, touched_as, touches}
use Rattle.hazard_core.proofs.ActsLaws.{key_is}
use Rattle.pipe_core.specs.Machine.{Build}
use Rattle.pipe_core.specs.Pipeable.{IsPipelinable}

module _ (b : Build) (t : TableState) (d : ℕ) (h g : StageValues) (same : (c : ℕ) → c < d → b.plan.row c < b.plan.row d → SameCell h g c) where
  abbrev pub Before : List ℕ → Type 0
  Before xs = All (λ c. c < d) xs

  abbrev pub Lower : List ℕ → Type 0
  Lower xs = AllByRecursion (λ c. b.plan.row c < b.plan.row d) xs

  values_same : (xs : List ℕ) → Before xs → Lower xs → map_list (stage_value h) xs ≡ map_list (stage_value g) xs
  values_same [] before low = refl
  values_same (c ∷ cs) before low =
      ap (λ n. n ∷ map_list (stage_value h) cs) (same c (before 0 c (omega arith)) low.0).value
      ∙ ap (λ ns. stage_value g c ∷ ns) (values_same cs (λ i e m. before (suc i) e (omega (arith, m))) low.1)

  pub key_same : (s : SiteView) → Before s.key → Lower s.key → asked_key t.decls h s ≡ asked_key t.decls g s
  key_same s before low =
      let m = decl_of t.decls s.map in
      key_is m s.act (map_list (stage_value h) s.key) (map_list (stage_value h) s.operands) ∙ ap (bytes_of m.key) (values_same s.key before low)
      ∙ sym (key_is m s.act (map_list (stage_value g) s.key) (map_list (stage_value g) s.operands))

  first_value : (xs : List ℕ) → Before xs → Lower (take 1 xs) → slice_index (map_list (stage_value h) xs) 0 ≡ slice_index (map_list (stage_value g) xs) 0
  first_value [] before low = refl
  first_value (c ∷ cs) before low = (same c (before 0 c (omega arith)) low.0).value

  first_pointer : (xs : List ℕ) → Before xs → Lower (take 1 xs) → get_or (map_list (pointer_in h) xs) 0 Null ≡ get_or (map_list (pointer_in g) xs) 0 Null
  first_pointer [] before low = refl
  first_pointer (c ∷ cs) before low = (same c (before 0 c (omega arith)) low.0).pointer

  third_pointer : (xs : List ℕ) → Before xs → Lower (take 1 (drop 2 xs)) → get_or (map_list (pointer_in h) xs) 2 Null ≡ get_or (map_list (pointer_in g) xs) 2 Null
  third_pointer [] before low = refl
  third_pointer (c ∷ []) before low = refl
  third_pointer (c ∷ e ∷ cs) before low = first_pointer cs (λ i f m. before (suc (suc i)) f (omega (arith, m))) low

  module _ (fit : IsPipelinable t.decls b) (j : ℕ) (l : d < length b.program.cells) (here : site_in (cell_at b.program.cells d).op ≡ Some j)
      (own : is_access (site_at b.program.sites j).act ≡ true → (i : ℕ) → access_pointer g (site_at b.program.sites j) ≡ Pending i → asked_key t.decls h (site_at b.program.sites i) ≡ asked_key t.decls g (site_at b.program.sites i)) where
    abbrev p : ProgramView
    p = b.program

    abbrev s : SiteView
    s = site_at b.program.sites j

    abbrev decl : MapDecl
    decl = decl_of t.decls (site_at b.program.sites j).map

    abbrev op_by : StageValues → Act → Operation
    op_by w a = operation_with (decl_of t.decls (site_at b.program.sites j).map) a (map_list (stage_value w) (site_at b.program.sites j).key) (map_list (stage_value w) (site_at b.program.sites j).operands)

    -- whether a packet found the key
    abbrev there : StageValues → Bool
    there w = not (is_null (pointer_in w (found_cell b.program.cells j)))

    abbrev key : StageValues → List ℕ
    key w = bytes_of (decl_of t.decls (site_at b.program.sites j).map).key (map_list (stage_value w) (site_at b.program.sites j).key)

    abbrev flags : StageValues → ℕ
    flags w = slice_index (map_list (stage_value w) (site_at b.program.sites j).operands) 0

    below : IsBelow d (site_at b.program.sites j)
    below = fit.sited.below d j j l here (omega arith)

    looked : (a : Act) → (site_at b.program.sites j).act ≡ a → Lower (looked_operands a (site_at b.program.sites j).operands)
    looked a is = subst (λ (x : Act). Lower (looked_operands x (site_at b.program.sites j).operands)) is (fit.rows.reads.below d j l here).1

    keys : key h ≡ key g
    keys = ap (bytes_of decl.key) (values_same s.key below.key (fit.rows.reads.below d j l here).0)

    -- ---- through a pointer

    entry : is_access s.act ≡ true → (e : Change) (q : Pointer) → access_pointer g s ≡ q → entry_touched p t.decls h e q ≡ true → entry_touched p t.decls g e q ≡ true
    entry access e Null is touched = cc
    entry access e (InSlot n) is touched = touched
    entry access e (Pending i) is touched = ap (λ (k : List ℕ). bytes_eq k e.key) (sym (own access i is)) ∙ touched

    through : is_access s.act ≡ true → (n : ℕ) → pointer_operand s.act ≡ n → get_or (map_list (pointer_in h) s.operands) n Null ≡ get_or (map_list (pointer_in g) s.operands) n Null → (e : Change) →
        entry_touched p t.decls h e (access_pointer h s) ≡ true → entry_touched p t.decls g e (access_pointer g s) ≡ true
    through access n is at e touched =
        let pointers : access_pointer h s ≡ access_pointer g s =
        ap (λ (k : ℕ). get_or (map_list (pointer_in h) s.operands) k Null) is ∙ at ∙ sym (ap (λ (k : ℕ). get_or (map_list (pointer_in g) s.operands) k Null) is) in
        entry access e (access_pointer g s) refl (ap (entry_touched p t.decls h e) (sym pointers) ∙ touched)

    -- ---- under a key

    lookup_same : (k : MapKind) (e : Change) → presence_touched k (op_by h act.Lookup) (there h) e ≡ presence_touched k (op_by g act.Lookup) (there g) e
    lookup_same Hash e = ap (λ (x : List ℕ). e.presence && bytes_eq x e.key) keys
    lookup_same Array e = refl

    delete_same : (k : MapKind) (e : Change) → presence_touched k (op_by h act.Delete) (there h) e ≡ presence_touched k (op_by g act.Delete) (there g) e
    delete_same Hash e = ap (λ (x : List ℕ). e.presence && bytes_eq x e.key) keys
    delete_same Array e = refl

    touches_by : (a : Act) → s.act ≡ a → (e : Change) → s.map ≡ e.map → touched_as a p t.decls g j e ≡ true → touches p t.decls g j e ≡ true
    touches_by a is e at touched =
        ap (λ (c : Bool). c && touched_as s.act p t.decls g j e) ((Decides-eqb s.map e.map).1 at) ∙ ap (λ (x : Act). touched_as x p t.decls g j e) is ∙ touched

    -- The size alone touched an update of a hash, which had found no entry. A change of its key touches it then too.
    pub record SizeAlone (e : Change) : Type 0 where
      pub updates : (site_at b.program.sites j).act ≡ act.Update
      pub hash : (decl_of t.decls (site_at b.program.sites j).map).kind ≡ Hash
      pub none : is_null (pointer_in h (found_cell b.program.cells j)) ≡ true
      pub too : is_null (pointer_in g (found_cell b.program.cells j)) ≡ true → touches b.program t.decls g j e ≡ true
      pub keyed : (c : Change) → c.presence ≡ true → (site_at b.program.sites j).map ≡ c.map → asked_key t.decls g (site_at b.program.sites j) ≡ c.key → touches b.program t.decls g j c ≡ true

    abbrev Touched : Change → Type 0
    Touched e = (touches b.program t.decls g j e ≡ true) ⊎ SizeAlone e

    -- whether an update under a key is touched
    abbrev updated : Change → List ℕ → ℕ → Bool → Bool
    updated e k n found = e.presence && (not (nat_lt 2 n) && (bytes_eq k e.key || (nat_lt n 2 && not found)))

    all_three : (a c o : Bool) → a ≡ true → c ≡ true → o ≡ true → a && (c && o) ≡ true
    all_three a c o e f i = rw (e, f, i) refl

    not_not : (c : Bool) → not (not c) ≡ true → c ≡ true
    not_not true f = refl
    not_not false f = cc

    module _ (e : Change) (at : (site_at b.program.sites j).map ≡ e.map) (is : (site_at b.program.sites j).act ≡ act.Update) (hash : (decl_of t.decls (site_at b.program.sites j).map).kind ≡ Hash) where
      now : (c : Change) → s.map ≡ c.map → updated c (key g) (flags g) (there g) ≡ true → touches p t.decls g j c ≡ true
      now c m touched =
          touches_by act.Update is c m (ap (λ (x : Act). presence_touched decl.kind (op_by g x) (there g) c) is ∙ ap (λ (k : MapKind). presence_touched k (op_by g act.Update) (there g) c) hash ∙ touched)

      by_key : (c : Change) → s.map ≡ c.map → c.presence ≡ true → not (nat_lt 2 (flags g)) ≡ true → bytes_eq (key g) c.key ≡ true → touches p t.decls g j c ≡ true
      by_key c m presence small k =
          now c m (all_three c.presence (not (nat_lt 2 (flags g))) (bytes_eq (key g) c.key || (nat_lt (flags g) 2 && not (there g))) presence small (ap (λ (o : Bool). o || (nat_lt (flags g) 2 && not (there g))) k))

      either : e.presence ≡ true → not (nat_lt 2 (flags g)) ≡ true → (k : Bool) → bytes_eq (key g) e.key ≡ k → k || (nat_lt (flags g) 2 && not (there h)) ≡ true → Touched e
      either presence small true k or = inl (by_key e at presence small k)
      either presence small false k or =
          let q = and_parts (nat_lt (flags g) 2) (not (there h)) or in
          inr (record {
            updates = is;
            hash = hash;
            none = not_not (is_null (pointer_in h (found_cell p.cells j))) q.1;
            too = λ null. now e at (all_three e.presence (not (nat_lt 2 (flags g))) (bytes_eq (key g) e.key || (nat_lt (flags g) 2 && not (there g))) presence small
                (ap (λ (o : Bool). o || (nat_lt (flags g) 2 && not (there g))) k ∙ ap (λ (o : Bool). o && not (there g)) q.0 ∙ ap (λ (o : Bool). not (not o)) null));
            keyed = λ c by m k. by_key c m by small ((bytes_eq-Decides (key g) c.key).1 (sym (key_is decl s.act (map_list (stage_value g) s.key) (map_list (stage_value g) s.operands)) ∙ k));
          })

      updates_too : updated e (key h) (flags h) (there h) ≡ true → Touched e
      updates_too touched =
          let n : flags h ≡ flags g = first_value s.operands below.operands (looked act.Update is) in
          let q = and_parts e.presence (not (nat_lt 2 (flags g)) && (bytes_eq (key g) e.key || (nat_lt (flags g) 2 && not (there h))))
          (ap (λ (x : List ℕ). updated e x (flags g) (there h)) (sym keys) ∙ ap (λ (m : ℕ). updated e (key h) m (there h)) (sym n) ∙ touched) in
          let r = and_parts (not (nat_lt 2 (flags g))) (bytes_eq (key g) e.key || (nat_lt (flags g) 2 && not (there h))) q.1 in
          either q.0 r.0 (bytes_eq (key g) e.key) refl r.1

    by_kind : (e : Change) → s.map ≡ e.map → s.act ≡ act.Update → (k : MapKind) → decl.kind ≡ k → presence_touched k (op_by h act.Update) (there h) e ≡ true → Touched e
    by_kind e at is Array kind touched = cc
    by_kind e at is Hash kind touched = updates_too e at is kind touched

    -- ---- any read

    by_act : (e : Change) → s.map ≡ e.map → (a : Act) → s.act ≡ a → touched_as a p t.decls h j e ≡ true → Touched e
    by_act e at act.Lookup is touched =
        inl (touches_by act.Lookup is e at (ap (λ (x : Act). presence_touched decl.kind (op_by g x) (there g) e) is ∙ sym (lookup_same decl.kind e) ∙ ap (λ (x : Act). presence_touched decl.kind (op_by h x) (there h) e) (sym is) ∙ touched))
    by_act e at act.Delete is touched =
        inl (touches_by act.Delete is e at (ap (λ (x : Act). presence_touched decl.kind (op_by g x) (there g) e) is ∙ sym (delete_same decl.kind e) ∙ ap (λ (x : Act). presence_touched decl.kind (op_by h x) (there h) e) (sym is) ∙ touched))
    by_act e at act.Update is touched = by_kind e at is decl.kind refl (ap (λ (x : Act). presence_touched decl.kind (op_by h x) (there h) e) (sym is) ∙ touched)
    by_act e at (act.Load offset size) is touched =
        inl (touches_by (act.Load offset size) is e at (through (ap is_access is) 0 (ap pointer_operand is) (first_pointer s.operands below.operands (looked (act.Load offset size) is)) e touched))
    by_act e at (act.Store offset size) is touched = cc
    by_act e at (act.Atomic offset a) is touched =
        let q = and_parts a.fetch (entry_touched p t.decls h e (access_pointer h s)) touched in
        inl (touches_by (act.Atomic offset a) is e at
        (ap (λ (c : Bool). c && entry_touched p t.decls g e (access_pointer g s)) q.0
        ∙ through (ap is_access is) 2 (ap pointer_operand is) (third_pointer s.operands below.operands (looked (act.Atomic offset a) is)) e q.1))

    pub touches_too : (e : Change) → touches b.program t.decls h j e ≡ true → (touches b.program t.decls g j e ≡ true) ⊎ SizeAlone e
    touches_too e touched =
        let q = and_parts (s.map == e.map) (touched_as s.act p t.decls h j e) touched in
        by_act e ((Decides-eqb s.map e.map).0 q.0) s.act refl q.1
