-- What meets at a part.
use Rattle.std.proofs.Common.{◌≡◌, ℕ, pos, zero, suc, ◌*◌, ◌<◌, ◌≤◌, true, false, if◌then◌else◌, List, [], ◌∷◌, length, length-append, get_or, map as map_list, refl, sym, ◌∙◌, ap, subst, arith}
use Rattle.std.specs.Prelude.{ℤ, All, Some, None}
use Rattle.std.proofs.lemmas.List.{length-map, get_or-map, get_or_default}
use Rattle.std.proofs.lemmas.Grind.{div_ceil_times}
use Rattle.xdp_machine.specs.xdp_maps.declared.decl.MapDecl.{MapDecl}
use Rattle.xdp_machine.specs.Values.{Value}
use Rattle.xdp_machine.specs.Values as is
use Rattle.xdp_machine.specs.State.{PacketIn}
use Rattle.kind_core.specs.declared.number.Number.{Number}
use Rattle.kind_core.specs.declared.number.Number.TheVariants.{Known, Between}
use Rattle.kind_core.specs.declared.kind.Kind.{Kind}
use Rattle.kind_core.specs.declared.kind.Kind.TheVariants.{Unset, Num, Var, Maybe, Entry, Mixed}
use Rattle.kind_core.specs.declared.kind.Kinds.{Kinds}
use Rattle.kind_core.specs.declared.base.Base.{Base}
use Rattle.kind_core.specs.NumberBounds.{any_number}
use Rattle.kind_core.specs.Kinds.{key_bytes}
use Rattle.cell_core.specs.Cells.{CellView, IsRun, on}
use Rattle.operator_cells.specs.declared.held_cells.way.Way.{Way}
use Rattle.operator_cells.specs.HeldCells.RegisterCells.{PointerView, pointer_at, key_of, Holds, Counts, IsPointer, number_of, IsThere}
use Rattle.edge_cells.specs.declared.part.Part.{Part}
use Rattle.edge_cells.specs.declared.part.Part.TheVariants.{Register, Slot, Byte, Target}
use Rattle.edge_cells.specs.Widening.{Widens, AreWider}
use Rattle.edge_cells.specs.Meeting.{IsPart, held_at, kind_at, number_in, number_brought, BringNumbers, cell_in, BringCells, Picks, PicksPointer, words_of, is_known, is_unknown, map_of, IsSaid, AreWays, MeetsMore, first_on}
use Rattle.operator_cells.proofs.MakingLaws.{grown_none}
use Rattle.edge_cells.proofs.Words.{bytes_same}
use Rattle.edge_cells.proofs.ExtendingLaws.{extends_none, extended, same_pointer, pointer_new, part_counts}
use Rattle.edge_cells.proofs.WayLaws.{first_below}
use Rattle.edge_cells.proofs.Widened.{widens-same}

pub part_wider : (k j : Kinds) (part : Part) → AreWider k j → Widens (kind_at part k) (kind_at part j)
part_wider k j (Register r) w = w.registers r
part_wider k j (Slot s) w = w.slots s
part_wider k j (Byte i) w = widens-same (Num (any_number 64))
part_wider k j Target w = widens-same (Num (any_number 64))

-- ---- all edges bring one cell

number-same : (decls : List MapDecl) (v : ℕ → ℕ) (qs : List PointerView) (n : Number) (c : ℕ) (x : Value) → is_known (Num n) ≡ false → Holds decls v qs (Num n) c x → x ≡ is.Number (v c)
number-same decls v qs (Between lo hi) c x k h = h
number-same decls v qs (Known a) c x k h = absurd (cc)

holds-same : (decls : List MapDecl) (v : ℕ → ℕ) (qs : List PointerView) (a b : Kind) (c : ℕ) (x : Value) → Widens a b → is_known b ≡ false → Holds decls v qs b c x → Holds decls v qs a c x
holds-same decls v qs Unset b c x w k h = tt
holds-same decls v qs Mixed b c x w k h = tt
holds-same decls v qs (Num (Between lo hi)) b c x w k h = number-same decls v qs w.0 c x (subst (λ (y : Kind). is_known y ≡ false) w.1 k) (subst (λ (y : Kind). Holds decls v qs y c x) w.1 h)
holds-same decls v qs (Num (Known n)) b c x w k h = tt
holds-same decls v qs (Var a f) b c x w k h = subst (λ (y : Kind). Holds decls v qs y c x) w.1 h
holds-same decls v qs a b c x w k h = subst (λ (y : Kind). Holds decls v qs y c x) (sym w) h

number-there : (decls : List MapDecl) (n : ℕ) (ps : List PointerView) (a : Number) (c : ℕ) → is_known (Num a) ≡ false → Counts decls n ps (Num a) c → c < n
number-there decls n ps (Between lo hi) c k h = h
number-there decls n ps (Known a) c k h = absurd (cc)

counts-same : (decls : List MapDecl) (n : ℕ) (ps : List PointerView) (a b : Kind) (c : ℕ) → Widens a b → is_known b ≡ false → Counts decls n ps b c → Counts decls n ps a c
counts-same decls n ps Unset b c w k h = tt
counts-same decls n ps Mixed b c w k h = tt
counts-same decls n ps (Num (Between lo hi)) b c w k h = number-there decls n ps w.0 c (subst (λ (y : Kind). is_known y ≡ false) w.1 k) (subst (λ (y : Kind). Counts decls n ps y c) w.1 h)
counts-same decls n ps (Num (Known a)) b c w k h = tt
counts-same decls n ps (Var a f) b c w k h = subst (λ (y : Kind). Counts decls n ps y c) w.1 h
counts-same decls n ps a b c w k h = subst (λ (y : Kind). Counts decls n ps y c) (sym w) h

-- what is asked of edges and kinds where they meet at a part
pub record AreAt (decls : List MapDecl) (cells : List CellView) (ps : List PointerView) (here : List Way) (k : Kinds) (part : Part) : Type 0 where
  pub some : 1 ≤ length here
  pub is_part : IsPart part
  pub ways : AreWays decls cells ps here
  pub wider : All (λ e. AreWider k e.kinds) here

counted : (decls : List MapDecl) (cells : List CellView) (ps : List PointerView) (here : List Way) (k : Kinds) (part : Part) → AreAt decls cells ps here k part
    → (i : ℕ) (d : Way) → i < length here → Counts decls (length cells) ps (kind_at part (get_or here i d).kinds) (held_at part (get_or here i d).held)
counted decls cells ps here k part a i d l = part_counts decls (length cells) ps (get_or here i d).held (get_or here i d).kinds part a.is_part (a.ways i d l).1

pub widened : (decls : List MapDecl) (cells : List CellView) (ps : List PointerView) (here : List Way) (k : Kinds) (part : Part) → AreAt decls cells ps here k part
    → (i : ℕ) (d : Way) → i < length here → Widens (kind_at part k) (kind_at part (get_or here i d).kinds)
widened decls cells ps here k part a i d l = part_wider k (get_or here i d).kinds part (a.wider i d l)

pub met_same : (decls : List MapDecl) (cells : List CellView) (ps : List PointerView) (here : List Way) (k : Kinds) (part : Part) (c : ℕ) (e : Way) → AreAt decls cells ps here k part
    → All (λ e. (is_known (kind_at part e.kinds) ≡ false) × (held_at part e.held ≡ c)) here → MeetsMore decls cells cells ps ps here part (kind_at part k) c
met_same decls cells ps here k part c e a all = record {
  grows = grown_none;
  extends = extends_none ps;
  meets = record {
    counts = subst (λ (n : ℕ). Counts decls (length cells) ps (kind_at part k) n) (all 0 e a.some).1
        (counts-same decls (length cells) ps (kind_at part k) (kind_at part (get_or here 0 e).kinds) (held_at part (get_or here 0 e).held)
        (widened decls cells ps here k part a 0 e a.some) (all 0 e a.some).0 (counted decls cells ps here k part a 0 e a.some));
    holds = λ packet v qs d x run more said h.
        let i : ℕ = first_on v here in
        let l : i < length here = first_below v here a.some in
        subst (λ (n : ℕ). Holds decls v qs (kind_at part k) n x) (all i d l).1
        (holds-same decls v qs (kind_at part k) (kind_at part (get_or here i d).kinds) (held_at part (get_or here i d).held) x
        (widened decls cells ps here k part a i d l) (all i d l).0 h);
  };
}

-- ---- numbers

number-brings : (decls : List MapDecl) (n : ℕ) (ps : List PointerView) (a : Number) (c : ℕ) → Counts decls n ps (Num a) c → IsThere n a c
number-brings decls n ps (Between lo hi) c h = h
number-brings decls n ps (Known a) c h = tt

number-held : (decls : List MapDecl) (v : ℕ → ℕ) (qs : List PointerView) (a : Number) (c : ℕ) (x : Value) → IsSaid (Num a) x → Holds decls v qs (Num a) c x → x ≡ is.Number (number_of v a c)
number-held decls v qs (Between lo hi) c x said h = h
number-held decls v qs (Known a) c x said h = said

-- a number where edges meet is one on each of them
is-number : (k : Kind) (lo hi : ℕ) → k ≡ Num (Between lo hi) → (b : Kind) → Widens k b → (n : Number) × (b ≡ Num n)
is-number k lo hi e b w = let n = subst (λ (a : Kind). Widens a b) e w in (n.0, n.1)

pub numbers_brought : (decls : List MapDecl) (cells : List CellView) (ps : List PointerView) (here : List Way) (k : Kinds) (part : Part) (lo hi : ℕ) → AreAt decls cells ps here k part
    → kind_at part k ≡ Num (Between lo hi) → BringNumbers (length cells) here part
numbers_brought decls cells ps here k part lo hi a e i d l =
    let n = is-number (kind_at part k) lo hi e (kind_at part (get_or here i d).kinds) (widened decls cells ps here k part a i d l) in (
      (a.ways i d l).0,
      subst (λ (b : Kind). IsThere (length cells) (number_in b) (held_at part (get_or here i d).held)) (sym n.1)
          (number-brings decls (length cells) ps n.0 (held_at part (get_or here i d).held)
          (subst (λ (b : Kind). Counts decls (length cells) ps b (held_at part (get_or here i d).held)) n.1 (counted decls cells ps here k part a i d l))),
    )

pub met_number : (decls : List MapDecl) (old new : List CellView) (ps : List PointerView) (here : List Way) (k : Kinds) (part : Part) (c lo hi : ℕ) → AreAt decls old ps here k part
    → kind_at part k ≡ Num (Between lo hi) → Picks old new here (number_brought part) c → MeetsMore decls old new ps ps here part (kind_at part k) c
met_number decls old new ps here k part c lo hi a e p = subst (λ (kind : Kind). MeetsMore decls old new ps ps here part kind c) (sym e) (record {
  grows = p.grows;
  extends = extends_none ps;
  meets = record {
    counts = p.there;
    holds = λ packet v qs d x run more said h.
        let i : ℕ = first_on v here in
        let l : i < length here = first_below v here a.some in
        let b : Kind = kind_at part (get_or here i d).kinds in
        let cell : ℕ = held_at part (get_or here i d).held in
        let n = is-number (kind_at part k) lo hi e b (widened decls old ps here k part a i d l) in
        number-held decls v qs n.0 cell x (subst (λ (y : Kind). IsSaid y x) n.1 said) (subst (λ (y : Kind). Holds decls v qs y cell x) n.1 h)
        ∙ ap (λ (y : Kind). is.Number (number_of v (number_in y) cell)) (sym n.1)
        ∙ ap is.Number (sym (p.value packet v d run));
  };
})

-- ---- pointers

counts-pointer : (decls : List MapDecl) (n : ℕ) (ps : List PointerView) (a : Kind) (q c : ℕ) → map_of a ≡ Some q → Counts decls n ps a c → (c < length ps) × IsPointer decls n q (pointer_at ps c)
counts-pointer decls n ps (Maybe r j) q c e h = let same : r ≡ q = cc in subst (λ (m : ℕ). (c < length ps) × IsPointer decls n m (pointer_at ps c)) same h
counts-pointer decls n ps (Entry r o) q c e h = let same : r ≡ q = cc in subst (λ (m : ℕ). (c < length ps) × IsPointer decls n m (pointer_at ps c)) same h
counts-pointer decls n ps a q c e h = absurd (cc)

pointer-counts : (decls : List MapDecl) (n : ℕ) (ps : List PointerView) (a : Kind) (q c : ℕ) → map_of a ≡ Some q → (c < length ps) × IsPointer decls n q (pointer_at ps c) → Counts decls n ps a c
pointer-counts decls n ps (Maybe r j) q c e h = let same : q ≡ r = cc in subst (λ (m : ℕ). (c < length ps) × IsPointer decls n m (pointer_at ps c)) same h
pointer-counts decls n ps (Entry r o) q c e h = let same : q ≡ r = cc in subst (λ (m : ℕ). (c < length ps) × IsPointer decls n m (pointer_at ps c)) same h
pointer-counts decls n ps a q c e h = absurd (cc)

pub same_kind : (a b : Kind) (q : ℕ) → map_of a ≡ Some q → Widens a b → b ≡ a
same_kind (Maybe r j) b q e w = sym w
same_kind (Entry r o) b q e w = sym w
same_kind a b q e w = absurd (cc)

-- pointers with the same values hold the same
holds-alike : (decls : List MapDecl) (v : ℕ → ℕ) (qs : List PointerView) (a : Kind) (q c d : ℕ) (x : Value) → map_of a ≡ Some q → v (pointer_at qs d).found ≡ v (pointer_at qs c).found
    → key_of decls v q (pointer_at qs d) ≡ key_of decls v q (pointer_at qs c) → Holds decls v qs a c x → Holds decls v qs a d x
holds-alike decls v qs (Maybe r j) q c d x e f g h = let same : q ≡ r = cc in
    h ∙ ap (λ (key : List ℕ). if on (v (pointer_at qs c).found) then is.Entry r key (pos 0) else is.Number 0) (sym (subst (λ (m : ℕ). key_of decls v m (pointer_at qs d) ≡ key_of decls v m (pointer_at qs c)) same g))
    ∙ ap (λ (n : ℕ). if on n then is.Entry r (key_of decls v r (pointer_at qs d)) (pos 0) else is.Number 0) (sym f)
holds-alike decls v qs (Entry r o) q c d x e f g h = let same : q ≡ r = cc in
    (ap on f ∙ h.0, h.1 ∙ ap (λ (key : List ℕ). is.Entry r key (pos o)) (sym (subst (λ (m : ℕ). key_of decls v m (pointer_at qs d) ≡ key_of decls v m (pointer_at qs c)) same g)))
holds-alike decls v qs a q c d x e f g h = absurd (cc)

brought : (decls : List MapDecl) (cells : List CellView) (ps : List PointerView) (here : List Way) (k : Kinds) (part : Part) (q : ℕ) → AreAt decls cells ps here k part → map_of (kind_at part k) ≡ Some q
    → (i : ℕ) (d : Way) → i < length here → (held_at part (get_or here i d).held < length ps) × IsPointer decls (length cells) q (pointer_at ps (held_at part (get_or here i d).held))
brought decls cells ps here k part q a e i d l =
    counts-pointer decls (length cells) ps (kind_at part k) q (held_at part (get_or here i d).held) e
    (subst (λ (b : Kind). Counts decls (length cells) ps b (held_at part (get_or here i d).held)) (same_kind (kind_at part k) (kind_at part (get_or here i d).kinds) q e (widened decls cells ps here k part a i d l))
    (counted decls cells ps here k part a i d l))

-- so many words are enough, and none of them is spared
enough : (n : ℕ) → n ≤ 8 * words_of n
enough n = omega (arith, (div_ceil_times n 8 (omega arith)).0)

least : (n k : ℕ) → n ≤ 8 * k → words_of n ≤ k
least n k h = omega (arith, (div_ceil_times n 8 (omega arith)).1, h)

cell-there : (decls : List MapDecl) (n q : ℕ) (p : PointerView) (j : ℕ) → IsPointer decls n q p → j ≤ length p.key → cell_in p j < n
cell-there decls n q p zero h l = h.found
cell-there decls n q p (suc j) h l = h.key j 0 (omega (arith, l))

pub cells_brought : (decls : List MapDecl) (cells : List CellView) (ps : List PointerView) (here : List Way) (k : Kinds) (part : Part) (q : ℕ) → AreAt decls cells ps here k part → map_of (kind_at part k) ≡ Some q
    → (j : ℕ) → j ≤ words_of (key_bytes decls q) → BringCells (length cells) ps here part j
cells_brought decls cells ps here k part q a e j h i d l =
    let b = brought decls cells ps here k part q a e i d l in
    let within : j ≤ length (pointer_at ps (held_at part (get_or here i d).held)).key = omega (arith, h, least (key_bytes decls q) (length (pointer_at ps (held_at part (get_or here i d).held)).key) b.1.enough) in
    ((a.ways i d l).0, b.0, within, cell-there decls (length cells) q (pointer_at ps (held_at part (get_or here i d).held)) j b.1 within)

-- the key is that of the pointer that the first edge that is on holds
pub keys_same : (decls : List MapDecl) (old new : List CellView) (ps qs : List PointerView) (here : List Way) (k : Kinds) (part : Part) (q n c : ℕ) → n ≡ words_of (key_bytes decls q) → AreAt decls old ps here k part
    → map_of (kind_at part k) ≡ Some q → (p : PicksPointer old new ps qs here part n c) → (packet : PacketIn) (v : ℕ → ℕ) (d : Way) → IsRun packet new v
    → key_of decls v q (pointer_at ps (held_at part (get_or here (first_on v here) d).held)) ≡ key_of decls v q p.pointer
keys_same decls old new ps qs here k part q n c words a e p packet v d run =
    let i : ℕ = first_on v here in
    let l : i < length here = first_below v here a.some in
    let old-key : List ℕ = (pointer_at ps (held_at part (get_or here i d).held)).key in
    let b = brought decls old ps here k part q a e i d l in
    bytes_same (key_bytes decls q) (map_list v p.pointer.key) (map_list v old-key)
    (omega (arith, length-map p.pointer.key v, p.key.count, words, enough (key_bytes decls q)))
    (omega (arith, length-map p.pointer.key v, length-map old-key v, p.key.count, words, least (key_bytes decls q) (length old-key) b.1.enough))
    (λ j h. let inside : j < length p.pointer.key = omega (arith, length-map p.pointer.key v, h) in
    let within : j < length old-key = omega (arith, inside, p.key.count, words, least (key_bytes decls q) (length old-key) b.1.enough) in
    get_or-map v p.pointer.key j 0 0 inside ∙ (p.key.words j (omega (arith, inside, p.key.count))).value packet v d run ∙ sym (get_or-map v old-key j 0 0 within))

pub met_pointer : (decls : List MapDecl) (old new : List CellView) (ps qs : List PointerView) (here : List Way) (k : Kinds) (part : Part) (q c : ℕ) → AreAt decls old ps here k part
    → map_of (kind_at part k) ≡ Some q → PicksPointer old new ps qs here part (words_of (key_bytes decls q)) c → MeetsMore decls old new ps qs here part (kind_at part k) c
met_pointer decls old new ps qs here k part q c a e p = record {
  grows = p.key.grows;
  extends = record { more = p.pointer ∷ []; is = p.is };
  meets = record {
    counts = pointer-counts decls (length new) qs (kind_at part k) q c e (inside, subst (λ (x : PointerView). IsPointer decls (length new) q x) (sym own) pointer);
    holds = λ packet v rs d x run more said h.
        let i : ℕ = first_on v here in
        let l : i < length here = first_below v here a.some in
        let cell : ℕ = held_at part (get_or here i d).held in
        let b = brought decls old ps here k part q a e i d l in
        let same = same_kind (kind_at part k) (kind_at part (get_or here i d).kinds) q e (widened decls old ps here k part a i d l) in
        let mine : pointer_at rs c ≡ p.pointer = same_pointer qs rs c more inside ∙ own in
        let other : pointer_at rs cell ≡ pointer_at ps cell = same_pointer ps rs cell (extended (record { more = p.pointer ∷ []; is = p.is }) more) b.0 in
        let keys : key_of decls v q p.pointer ≡ key_of decls v q (pointer_at ps cell) = sym (keys_same decls old new ps qs here k part q (words_of (key_bytes decls q)) c refl a e p packet v d run) in
        holds-alike decls v rs (kind_at part k) q cell c x e
        (ap (λ (y : PointerView). v y.found) mine ∙ p.found.value packet v d run ∙ ap (λ (y : PointerView). v y.found) (sym other))
        (ap (key_of decls v q) mine ∙ keys ∙ ap (key_of decls v q) (sym other))
        (subst (λ (y : Kind). Holds decls v rs y cell x) same h);
  };
}
  where
    own : pointer_at qs c ≡ p.pointer
    own = pointer_new ps qs p.pointer c p.at p.is

    inside : c < length qs
    inside = omega (arith, p.at, ap length p.is, length-append ps (p.pointer ∷ []))

    pointer : IsPointer decls (length new) q p.pointer
    pointer = record {
      found = p.found.there;
      key = λ j d l. subst (λ (n : ℕ). n < length new) (get_or_default p.pointer.key j 0 d l) (p.key.words j (omega (arith, p.key.count, l))).there;
      enough = omega (arith, p.key.count, enough (key_bytes decls q));
    }

-- ---- kinds without data

-- a place in the packet that is not known no edge brings
never-var : (decls : List MapDecl) (cells : List CellView) (ps : List PointerView) (here : List Way) (k : Kinds) (part : Part) → AreAt decls cells ps here k part → (b : Base) (f : ℤ) → kind_at part k ≡ Var b f → ⊥
never-var decls cells ps [] k part a b f e = absurd (omega (arith, a.some))
never-var decls cells ps (d ∷ here) k part a b f e =
    let w = subst (λ (x : Kind). Widens x (kind_at part d.kinds)) e (widened decls cells ps (d ∷ here) k part a 0 d a.some) in
    subst (λ (x : Kind). Counts decls (length cells) ps x (held_at part d.held)) w.1 (counted decls cells ps (d ∷ here) k part a 0 d a.some)

counts-none : (decls : List MapDecl) (n : ℕ) (ps : List PointerView) (a : Kind) (c : ℕ) → ((b : Base) (f : ℤ) → a ≡ Var b f → ⊥) → map_of a ≡ None → is_unknown a ≡ false → Counts decls n ps a c
counts-none decls n ps (Num (Between lo hi)) c never h g = absurd (cc)
counts-none decls n ps (Num (Known a)) c never h g = tt
counts-none decls n ps (Var b f) c never h g = never b f refl
counts-none decls n ps (Maybe q j) c never h g = absurd (cc)
counts-none decls n ps (Entry q o) c never h g = absurd (cc)
counts-none decls n ps a c never h g = tt

holds-none : (decls : List MapDecl) (v : ℕ → ℕ) (ps : List PointerView) (a : Kind) (c : ℕ) (x : Value) → ((b : Base) (f : ℤ) → a ≡ Var b f → ⊥) → map_of a ≡ None → is_unknown a ≡ false → Holds decls v ps a c x
holds-none decls v ps (Num (Between lo hi)) c x never h g = absurd (cc)
holds-none decls v ps (Num (Known a)) c x never h g = tt
holds-none decls v ps (Var b f) c x never h g = never b f refl
holds-none decls v ps (Maybe q j) c x never h g = absurd (cc)
holds-none decls v ps (Entry q o) c x never h g = absurd (cc)
holds-none decls v ps a c x never h g = tt

pub met_none : (decls : List MapDecl) (cells : List CellView) (ps : List PointerView) (here : List Way) (k : Kinds) (part : Part) (c : ℕ) → AreAt decls cells ps here k part → map_of (kind_at part k) ≡ None → is_unknown (kind_at part k) ≡ false
    → MeetsMore decls cells cells ps ps here part (kind_at part k) c
met_none decls cells ps here k part c a h g = record {
  grows = grown_none;
  extends = extends_none ps;
  meets = record {
    counts = counts-none decls (length cells) ps (kind_at part k) c (never-var decls cells ps here k part a) h g;
    holds = λ packet v qs d x run more said held. holds-none decls v qs (kind_at part k) c x (never-var decls cells ps here k part a) h g;
  };
}

-- a number that is not known has no other kind
pub unknown_is : (k : Kind) → is_unknown k ≡ true → (lo : ℕ) × (hi : ℕ) × (k ≡ Num (Between lo hi))
unknown_is (Num (Between lo hi)) h = (lo, hi, refl)
unknown_is k h = absurd (cc)

pub met_words : (decls : List MapDecl) (old new : List CellView) (ps qs : List PointerView) (here : List Way) (k : Kinds) (part : Part) (q n c : ℕ) → n ≡ words_of (key_bytes decls q) → map_of (kind_at part k) ≡ Some q
    → AreAt decls old ps here k part → PicksPointer old new ps qs here part n c → MeetsMore decls old new ps qs here part (kind_at part k) c
met_words decls old new ps qs here k part q n c words e a p =
    met_pointer decls old new ps qs here k part q c a e (subst (λ (m : ℕ). PicksPointer old new ps qs here part m c) words p)

pub cells_within : (decls : List MapDecl) (cells : List CellView) (ps : List PointerView) (here : List Way) (k : Kinds) (part : Part) (q n : ℕ) → n ≡ words_of (key_bytes decls q) → map_of (kind_at part k) ≡ Some q
    → AreAt decls cells ps here k part → (j : ℕ) → j ≤ n → BringCells (length cells) ps here part j
cells_within decls cells ps here k part q n words e a j h = cells_brought decls cells ps here k part q a e j (omega (arith, words, h))
