-- Which cells read a new site, and what they wait for.
use Rattle.std.proofs.Common.{◌≡◌, ℕ, ◌<◌, ◌≤◌, ◌⊎◌, inl, inr, true, false, Option, Some, List, [], ◌∷◌, ◌++◌, length, take, drop, refl, sym, ◌∙◌, ap, subst, arith}
use Rattle.std.specs.Prelude.{get_or, Contains}
use Rattle.std.proofs.lemmas.Bool.{cases_lt, false≢true}
use Rattle.std.proofs.lemmas.List.{append-nil, take-append-drop}
use Rattle.std.proofs.lemmas.List.Elements.{Contains-push, Contains-append_left, Contains-append_right, Contains-append_cases}
use Rattle.cell_core.specs.xdp_maps.declared.decl.MapDecl.{MapDecl}
use Rattle.cell_core.specs.xdp_maps.declared.decl.MapKind.{MapKind}
use Rattle.cell_core.specs.xdp_maps.State.{no_decl}
use Rattle.cell_core.specs.declared.operator.Operator.TheVariants.{Found, Answer}
use Rattle.cell_core.specs.declared.site.Act.{Act}
use Rattle.cell_core.specs.declared.site.Act.TheVariants as act
use Rattle.cell_core.specs.Acts.{finds_key, reads, asks, says_done, pointer_operand}
use Rattle.cell_core.specs.Cells.{CellView, cell_at, site_in}
use Rattle.cell_core.specs.Sites.{SiteView}
use Rattle.operator_cells.specs.Making.{Grows, GrowsWith}
use Rattle.operator_cells.specs.HeldCells.RegisterCells.{PointerView}
use Rattle.operator_cells.specs.HeldCells.Pointing.{changes_keys}
use Rattle.operator_cells.specs.HeldCells.Aligned.{IsAligned}
use Rattle.operator_cells.specs.HeldCells.Reading.{answer_bits, OperationReads}
use Rattle.site_cells.specs.declared.here.Here.{Here}
use Rattle.site_cells.specs.Siting.{ReadsNext, LooksUp, Accesses, Changes, lookup_site, access_site, change_site}

clash : (i j : ℕ) → Found i ≡ Answer j → ⊥
clash i j e = cc

-- a cell says whether the key of a site is there, or what it answered
abbrev ReadsAs : List CellView → ℕ → SiteView → ℕ → ℕ → ℕ → Type 0
ReadsAs cells j s f a c =
    ((c ≡ f) × ((cell_at cells c).op ≡ Found j) × (finds_key s.act ≡ true) × ((cell_at cells c).width ≡ 1) × ((cell_at cells c).from ≡ 0))
    ⊎ ((c ≡ a) × ((cell_at cells c).op ≡ Answer j) × (reads s.act ≡ true) × ((cell_at cells c).width ≡ answer_bits s.act) × ((cell_at cells c).from ≡ 0))

-- the key of a site, and of its operands the one that a read looks at
abbrev looked_by : SiteView → List ℕ
looked_by s = s.key ++ take 1 (drop (pointer_operand s.act) s.operands)

-- One new cell at most says whether the key of a new site is there, and one at most what it answered; both take the same cells.
module _ (decls : List MapDecl) (map : Option ℕ) (pending : ℕ) (old new : List CellView) (j : ℕ) (s : SiteView) (f a : ℕ) (taken : List ℕ) (kept : (k : ℕ) → k < length old → cell_at new k ≡ cell_at old k) (map_is : map ≡ Some s.map) (aligned : IsAligned s.act)
    (found : asks s.act (get_or decls s.map no_decl).kind ≡ true → (f < length new) × ((cell_at new f).op ≡ Found j))
    (tells : says_done s.act (get_or decls s.map no_decl).kind ≡ true → (a < length new) × ((cell_at new a).op ≡ Answer j) × ((cell_at new a).width ≡ 64) × ((cell_at new a).from ≡ 0))
    (looks : (x : ℕ) → Contains (looked_by s) x → Contains taken x)
    (sorts : (c : ℕ) → length old ≤ c → c < length new → site_in (cell_at new c).op ≡ Some j → ReadsAs new j s f a c × ((cell_at new c).ins ≡ taken ++ pending ∷ [])) where
  abbrev IsRead : ℕ → Type 0
  IsRead c = ReadsAs new j s f a c × ((cell_at new c).ins ≡ taken ++ pending ∷ [])

  same : (c d : ℕ) → ReadsAs new j s f a c → ReadsAs new j s f a d → (cell_at new d).op ≡ (cell_at new c).op → c ≡ d
  same c d (inl x) (inl y) e = x.0 ∙ sym y.0
  same c d (inr x) (inr y) e = x.0 ∙ sym y.0
  same c d (inl x) (inr y) e = absurd (clash j j (sym x.1 ∙ sym e ∙ y.1))
  same c d (inr x) (inl y) e = absurd (clash j j (sym y.1 ∙ e ∙ x.1))

  finds : (c : ℕ) → ReadsAs new j s f a c → (cell_at new c).op ≡ Found j → finds_key s.act ≡ true
  finds c (inl x) is = x.2
  finds c (inr x) is = absurd (clash j j (sym is ∙ x.1))

  answers : (c : ℕ) → ReadsAs new j s f a c → (cell_at new c).op ≡ Answer j → reads s.act ≡ true
  answers c (inr x) is = x.2
  answers c (inl x) is = absurd (clash j j (sym x.1 ∙ is))

  found_bits : (c : ℕ) → ReadsAs new j s f a c → (cell_at new c).op ≡ Found j → ((cell_at new c).width ≡ 1) × ((cell_at new c).from ≡ 0)
  found_bits c (inl x) is = (x.3, x.4)
  found_bits c (inr x) is = absurd (clash j j (sym is ∙ x.1))

  answered_bits : (c : ℕ) → ReadsAs new j s f a c → (cell_at new c).op ≡ Answer j → ((cell_at new c).width ≡ answer_bits s.act) × ((cell_at new c).from ≡ 0)
  answered_bits c (inr x) is = (x.3, x.4)
  answered_bits c (inl x) is = absurd (clash j j (sym x.1 ∙ is))

  pub operation_reads : OperationReads decls map pending old new j s
  operation_reads = record {
    map_is = map_is;
    read = λ none.
        let at : (c : ℕ) → c < length new → site_in (cell_at new c).op ≡ Some j → IsRead c = λ c l is. later none c l is (cases_lt c (length old)) in
        record {
          found = λ e. let h = found e in (f, h.0, h.1);
          tells = λ e. let h = tells e in (a, h.0, h.1, h.2, h.3);
          one = λ c d l m is e. same c d (at c l is).0 (at d m (ap site_in e ∙ is)).0 e;
          finds = λ c l is. finds c (at c l (ap site_in is)).0 is;
          answers = λ c l is. answers c (at c l (ap site_in is)).0 is;
          takes = λ c x l is h. subst (λ (xs : List ℕ). Contains xs x) (sym (at c l is).1) (Contains-append_left taken (pending ∷ []) x (looks x h));
          alike = λ c d l m first second. (at c l first).1 ∙ sym (at d m second).1;
          found_bits = λ c l is. found_bits c (at c l (ap site_in is)).0 is;
          answered_bits = λ c l is. answered_bits c (at c l (ap site_in is)).0 is;
          aligned = aligned;
        };
    pends = λ c low high is. subst (λ (xs : List ℕ). Contains xs pending) (sym (sorts c low high is).1) (Contains-push taken pending);
  }
    where
      later : ((d : ℕ) → d < length old → site_in (cell_at old d).op ≡ Some j → ⊥) → (c : ℕ) → c < length new → site_in (cell_at new c).op ≡ Some j → (c < length old) ⊎ (length old ≤ c) → IsRead c
      later none c l is (inl m) = absurd (none c m (ap (λ (x : CellView). site_in x.op) (sym (kept c m)) ∙ is))
      later none c l is (inr m) = sorts c m l is

-- ---- by the sort of the operation

-- between cells that read no site others were added
module _ (R : ℕ → ℕ → Type 0) (old mid full new : List CellView) (first : Grows old mid) (reading : GrowsWith R mid full) (last : Grows full new) where
  pub kept : (k : ℕ) → k < length old → cell_at new k ≡ cell_at old k
  kept k l =
      let m : k < length mid = omega (arith, l, first.longer) in
      last.kept k (omega (arith, m, reading.longer)) ∙ reading.kept k m ∙ first.kept k l

  pub only : (j c : ℕ) → length old ≤ c → c < length new → site_in (cell_at new c).op ≡ Some j → (length mid ≤ c) × (c < length full)
  only j c low high is = by (cases_lt c (length full))
    where
      early : c < length full → (c < length mid) ⊎ (length mid ≤ c) → length mid ≤ c
      early l (inr m) = m
      early l (inl m) = absurd (first.reads c j low m (ap (λ (x : CellView). site_in x.op) (sym (last.kept c l ∙ reading.kept c m)) ∙ is))

      by : (c < length full) ⊎ (length full ≤ c) → (length mid ≤ c) × (c < length full)
      by (inl l) = (early l (cases_lt c (length mid)), l)
      by (inr l) = absurd (last.reads c j l high is)

-- an operation that is not read
none_reads : (decls : List MapDecl) (map : Option ℕ) (pending : ℕ) (old new : List CellView) (j : ℕ) (s : SiteView) → Grows old new → map ≡ Some s.map → IsAligned s.act → ((k : MapKind) → asks s.act k ≡ false) → ((k : MapKind) → says_done s.act k ≡ false)
    → OperationReads decls map pending old new j s
none_reads decls map pending old new j s grows map_is aligned no_ask no_say =
    operation_reads decls map pending old new j s 0 0 (looked_by s) grows.kept map_is aligned (λ e. absurd (false≢true (sym (no_ask _) ∙ e))) (λ e. absurd (false≢true (sym (no_say _) ∙ e))) (λ x h. h) (λ c low high is. absurd (grows.reads c j low high is))

-- as an access that does not answer
pub silent_reads : (decls : List MapDecl) (map : Option ℕ) (here : Here) (old new : List CellView) (sites : List SiteView) (q : ℕ) (a : Act) (p : PointerView) (operands : List ℕ) → Grows old new → map ≡ Some q → IsAligned a
    → ((k : MapKind) → asks a k ≡ false) → ((k : MapKind) → says_done a k ≡ false) → OperationReads decls map here.pending old new (length sites) (access_site here q a p operands)
silent_reads decls map here old new sites q a p operands grows map_is aligned no_ask no_say = none_reads decls map here.pending old new (length sites) (access_site here q a p operands) grows map_is aligned no_ask no_say

-- an operand that is looked at is one
an_operand : (n : ℕ) (xs : List ℕ) (x : ℕ) → Contains (take 1 (drop n xs)) x → Contains xs x
an_operand n xs x h =
    let rest : Contains (drop n xs) x = subst (λ (ys : List ℕ). Contains ys x) (take-append-drop 1 (drop n xs)) (Contains-append_left (take 1 (drop n xs)) (drop 1 (drop n xs)) x h) in
    subst (λ (ys : List ℕ). Contains ys x) (take-append-drop n xs) (Contains-append_right (take n xs) (drop n xs) x rest)

-- an access that answers, whose read takes all operands
pub access_reads : (decls : List MapDecl) (map : Option ℕ) (here : Here) (old mid full new : List CellView) (sites sites2 : List SiteView) (q : ℕ) (a : Act) (p : PointerView) (operands : List ℕ) (c width : ℕ)
    → Grows old mid → Accesses mid full sites sites2 here q a p operands c width → Grows full new → map ≡ Some q → IsAligned a → width ≡ answer_bits a → reads a ≡ true → ((k : MapKind) → asks a k ≡ false) → ((k : MapKind) → says_done a k ≡ false)
    → OperationReads decls map here.pending old new (length sites) (access_site here q a p operands)
access_reads decls map here old mid full new sites sites2 q a p operands c width first x last map_is aligned wide answers no_ask no_say =
    operation_reads decls map here.pending old new (length sites) (access_site here q a p operands) c c (p.key ++ (operands ++ p.found ∷ [])) (kept (ReadsNext sites) old mid full new first x.grows last) map_is aligned
    (λ e. absurd (false≢true (sym (no_ask _) ∙ e))) (λ e. absurd (false≢true (sym (no_say _) ∙ e))) looks
    (λ d low high is. let o = only (ReadsNext sites) old mid full new first x.grows last (length sites) d low high is in by d (x.only d o.0 o.1))
  where
    at : cell_at new c ≡ record { op = Answer (length sites); ins = p.key ++ (operands ++ p.found ∷ []) ++ here.pending ∷ []; width = width; from = 0 }
    at = last.kept c x.reads.there ∙ x.reads.is

    looks : (y : ℕ) → Contains (looked_by (access_site here q a p operands)) y → Contains (p.key ++ (operands ++ p.found ∷ [])) y
    looks y h = elim (Contains-append_cases p.key (take 1 (drop (pointer_operand a) (operands ++ p.found ∷ []))) y h) [
      | inl k ↦ Contains-append_left p.key (operands ++ p.found ∷ []) y k
      | inr o ↦ Contains-append_right p.key (operands ++ p.found ∷ []) y (an_operand (pointer_operand a) (operands ++ p.found ∷ []) y o)
    ]

    by : (d : ℕ) → d ≡ c → ReadsAs new (length sites) (access_site here q a p operands) c c d × ((cell_at new d).ins ≡ p.key ++ (operands ++ p.found ∷ []) ++ here.pending ∷ [])
    by d same = let e = ap (cell_at new) same ∙ at in (inr (same, ap (λ (y : CellView). y.op) e, answers, ap (λ (y : CellView). y.width) e ∙ wide, ap (λ (y : CellView). y.from) e), ap (λ (y : CellView). y.ins) e)

-- a change, whose reads look at the first operand, if there is one
pub change_reads : (decls : List MapDecl) (map : Option ℕ) (here : Here) (old mid new : List CellView) (sites sites2 : List SiteView) (q : ℕ) (a : Act) (key looked operands : List ℕ) (c : ℕ)
    → Grows old mid → Changes mid new sites sites2 here q a key looked operands c → map ≡ Some q → changes_keys a ≡ true → looked ≡ take 1 (drop (pointer_operand a) operands)
    → OperationReads decls map here.pending old new (length sites) (change_site here q a key operands)
change_reads decls map here old mid new sites sites2 q a key looked operands c first x map_is changes looked_is =
    operation_reads decls map here.pending old new (length sites) (change_site here q a key operands) x.found c (key ++ looked) (λ k l. x.grows.kept k (omega (arith, l, first.longer)) ∙ first.kept k l) map_is (whole a changes).0
    (λ e. (x.finds.there, ap (λ (y : CellView). y.op) x.finds.is)) (λ e. (x.reads.there, ap (λ (y : CellView). y.op) x.reads.is, ap (λ (y : CellView). y.width) x.reads.is, ap (λ (y : CellView). y.from) x.reads.is))
    (λ y h. subst (λ (xs : List ℕ). Contains (key ++ xs) y) (sym looked_is) h) (λ d low high is. by d (new_one d low high is (cases_lt d (length mid))))
  where
    new_one : (d : ℕ) → length old ≤ d → d < length new → site_in (cell_at new d).op ≡ Some (length sites) → (d < length mid) ⊎ (length mid ≤ d) → (d ≡ x.found) ⊎ (d ≡ c)
    new_one d low high is (inl l) = absurd (first.reads d (length sites) low l (ap (λ (y : CellView). site_in y.op) (sym (x.grows.kept d l)) ∙ is))
    new_one d low high is (inr m) = x.only d m high

    both : (b : Act) → changes_keys b ≡ true → (finds_key b ≡ true) × (reads b ≡ true)
    both act.Update e = (e, e)
    both act.Delete e = (e, e)
    both b e = absurd (false≢true e)

    whole : (b : Act) → changes_keys b ≡ true → IsAligned b × (64 ≡ answer_bits b)
    whole act.Update e = (refl, refl)
    whole act.Delete e = (refl, refl)
    whole b e = absurd (false≢true e)

    by : (d : ℕ) → (d ≡ x.found) ⊎ (d ≡ c) → ReadsAs new (length sites) (change_site here q a key operands) x.found c d × ((cell_at new d).ins ≡ key ++ looked ++ here.pending ∷ [])
    by d (inl same) = let e = ap (cell_at new) same ∙ x.finds.is in (inl (same, ap (λ (y : CellView). y.op) e, (both a changes).0, ap (λ (y : CellView). y.width) e, ap (λ (y : CellView). y.from) e), ap (λ (y : CellView). y.ins) e)
    by d (inr same) = let e = ap (cell_at new) same ∙ x.reads.is in (inr (same, ap (λ (y : CellView). y.op) e, (both a changes).1, ap (λ (y : CellView). y.width) e ∙ (whole a changes).1, ap (λ (y : CellView). y.from) e), ap (λ (y : CellView). y.ins) e)

-- a lookup
pub lookup_reads : (decls : List MapDecl) (map : Option ℕ) (here : Here) (old mid new : List CellView) (ps qs : List PointerView) (sites sites2 : List SiteView) (q : ℕ) (key : List ℕ) (c : ℕ)
    → Grows old mid → LooksUp mid new ps qs sites sites2 here q key c → map ≡ Some q → OperationReads decls map here.pending old new (length sites) (lookup_site here q key)
lookup_reads decls map here old mid new ps qs sites sites2 q key c first x map_is =
    operation_reads decls map here.pending old new (length sites) (lookup_site here q key) x.found x.found key (λ k l. x.grows.kept k (omega (arith, l, first.longer)) ∙ first.kept k l) map_is refl
    (λ e. (x.reads.there, ap (λ (y : CellView). y.op) x.reads.is)) (λ e. absurd (false≢true e)) (λ y h. subst (λ (xs : List ℕ). Contains xs y) (append-nil key) h) (λ d low high is. by d (new_one d low high is (cases_lt d (length mid))))
  where
    new_one : (d : ℕ) → length old ≤ d → d < length new → site_in (cell_at new d).op ≡ Some (length sites) → (d < length mid) ⊎ (length mid ≤ d) → d ≡ x.found
    new_one d low high is (inl l) = absurd (first.reads d (length sites) low l (ap (λ (y : CellView). site_in y.op) (sym (x.grows.kept d l)) ∙ is))
    new_one d low high is (inr m) = x.only d m high

    by : (d : ℕ) → d ≡ x.found → ReadsAs new (length sites) (lookup_site here q key) x.found x.found d × ((cell_at new d).ins ≡ key ++ here.pending ∷ [])
    by d same = let e = ap (cell_at new) same ∙ x.reads.is in (inl (same, ap (λ (y : CellView). y.op) e, refl, ap (λ (y : CellView). y.width) e, ap (λ (y : CellView). y.from) e), ap (λ (y : CellView). y.ins) e)
