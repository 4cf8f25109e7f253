-- More pointers.
use Rattle.std.proofs.Common.{◌≡◌, ℕ, pos, true, ◌<◌, ◌≤◌, List, [], ◌∷◌, ◌++◌, length, length-append, append_assoc, sym, ◌∙◌, ap, subst, arith}
use Rattle.std.proofs.Math.ListN.{get_or-append}
use Rattle.std.proofs.Math.Seq.{get_or-append_seam}
use Rattle.std.proofs.lemmas.List.{append-nil}
use Rattle.xdp_machine.specs.xdp_maps.declared.decl.MapDecl.{MapDecl}
use Rattle.xdp_machine.specs.Values.{Value}
use Rattle.kind_core.specs.declared.number.Number.TheVariants.{Known, Between}
use Rattle.kind_core.specs.declared.kind.Kind.{Kind}
use Rattle.kind_core.specs.declared.kind.Kind.TheVariants.{Unset, Num, Packet, Var, End, Stack, Ctx, MapRef, Maybe, Entry, Stale, Mixed}
use Rattle.kind_core.specs.declared.kind.Kinds.{Kinds}
use Rattle.kind_core.specs.declared.kind.Offsets.TheVariants.{Fixed}
use Rattle.cell_core.specs.Cells.{CellView, on}
use Rattle.operator_cells.specs.Making.{Grows}
use Rattle.operator_cells.specs.declared.held_cells.machine_cells.RegisterCells.{RegisterCells}
use Rattle.operator_cells.specs.declared.held_cells.way.Way.{Way}
use Rattle.xdp_machine.specs.Values as is
use Rattle.operator_cells.specs.HeldCells.RegisterCells.{PointerView, no_pointer, pointer_at, key_of, entry_or_null, Holds, Counts, IsPointer, AreInside}
use Rattle.edge_cells.specs.declared.part.Part.{Part}
use Rattle.edge_cells.specs.declared.part.Part.TheVariants.{Register, Slot, Byte, Target}
use Rattle.edge_cells.specs.Meeting.{Extends, AreWays, Meets, IsPart, kind_at, held_at}
use Rattle.operator_cells.proofs.HeldCells.PointerLaws.{pointer_later}

pub extends_none : (ps : List PointerView) → Extends ps ps
extends_none ps = record { more = []; is = sym (append-nil ps) }

pub extended : {ps qs rs : List PointerView} → Extends ps qs → Extends qs rs → Extends ps rs
extended {ps = ps} a b = record { more = a.more ++ b.more; is = b.is ∙ ap (λ (xs : List PointerView). xs ++ b.more) a.is ∙ append_assoc ps a.more b.more }

pub same_pointer : (ps qs : List PointerView) (c : ℕ) → Extends ps qs → c < length ps → pointer_at qs c ≡ pointer_at ps c
same_pointer ps qs c e h = ap (λ (xs : List PointerView). pointer_at xs c) e.is ∙ get_or-append ps e.more no_pointer c h

-- the last of them
pub pointer_new : (ps qs : List PointerView) (p : PointerView) (c : ℕ) → c ≡ length ps → qs ≡ ps ++ p ∷ [] → pointer_at qs c ≡ p
pointer_new ps qs p c at is = ap (λ (xs : List PointerView). pointer_at xs c) is ∙ ap (λ (n : ℕ). pointer_at (ps ++ p ∷ []) n) at ∙ get_or-append_seam ps p [] no_pointer

longer : (ps qs : List PointerView) → Extends ps qs → length ps ≤ length qs
longer ps qs e = omega (arith, ap length e.is, length-append ps e.more)

pointer_kept : (decls : List MapDecl) (n m q c : ℕ) (ps qs : List PointerView) → n ≤ m → Extends ps qs → (c < length ps) × IsPointer decls n q (pointer_at ps c) → (c < length qs) × IsPointer decls m q (pointer_at qs c)
pointer_kept decls n m q c ps qs h e k =
    (omega (arith, k.0, longer ps qs e), subst (λ (p : PointerView). IsPointer decls m q p) (sym (same_pointer ps qs c e k.0)) (pointer_later decls n m q (pointer_at ps c) h k.1))

pub counts_later : (decls : List MapDecl) (n m : ℕ) (ps qs : List PointerView) (x : Kind) (c : ℕ) → n ≤ m → Extends ps qs → Counts decls n ps x c → Counts decls m qs x c
counts_later decls n m ps qs (Num (Between lo hi)) c h e k = omega (arith, k, h)
counts_later decls n m ps qs (Maybe q j) c h e k = pointer_kept decls n m q c ps qs h e k
counts_later decls n m ps qs (Entry q o) c h e k = pointer_kept decls n m q c ps qs h e k
counts_later decls n m ps qs (Num (Known a)) c h e k = tt
counts_later decls n m ps qs (Packet o) c h e k = tt
counts_later decls n m ps qs (Var b f) c h e k = k
counts_later decls n m ps qs End c h e k = tt
counts_later decls n m ps qs (Stack o) c h e k = tt
counts_later decls n m ps qs Ctx c h e k = tt
counts_later decls n m ps qs (MapRef q) c h e k = tt
counts_later decls n m ps qs Unset c h e k = tt
counts_later decls n m ps qs Stale c h e k = tt
counts_later decls n m ps qs Mixed c h e k = tt

-- what a value's cells hold they hold among more pointers
pub holds_later : (decls : List MapDecl) (n : ℕ) (v : ℕ → ℕ) (ps qs : List PointerView) (k : Kind) (c : ℕ) (x : Value) → Extends ps qs → Counts decls n ps k c → Holds decls v ps k c x → Holds decls v qs k c x
holds_later decls n v ps qs (Num (Between lo hi)) c x e k h = h
holds_later decls n v ps qs (Maybe q j) c x e k h = subst (λ (p : PointerView). x ≡ entry_or_null decls v q p) (sym (same_pointer ps qs c e k.0)) h
holds_later decls n v ps qs (Entry q o) c x e k h = subst (λ (p : PointerView). (on (v p.found) ≡ true) × (x ≡ is.Entry q (key_of decls v q p) (pos o))) (sym (same_pointer ps qs c e k.0)) h
holds_later decls n v ps qs (Num (Known a)) c x e k h = tt
holds_later decls n v ps qs (Packet o) c x e k h = tt
holds_later decls n v ps qs (Var b f) c x e k h = h
holds_later decls n v ps qs End c x e k h = tt
holds_later decls n v ps qs (Stack o) c x e k h = tt
holds_later decls n v ps qs Ctx c x e k h = tt
holds_later decls n v ps qs (MapRef q) c x e k h = tt
holds_later decls n v ps qs Unset c x e k h = tt
holds_later decls n v ps qs Stale c x e k h = tt
holds_later decls n v ps qs Mixed c x e k h = tt

-- a part of what is there
pub part_counts : (decls : List MapDecl) (n : ℕ) (ps : List PointerView) (h : RegisterCells) (k : Kinds) (part : Part) → IsPart part → AreInside decls n ps h k → Counts decls n ps (kind_at part k) (held_at part h)
part_counts decls n ps h k (Register r) l inside = inside.registers r l
part_counts decls n ps h k (Slot s) l inside = inside.slots s l
part_counts decls n ps h k (Byte i) l inside = inside.window i l
part_counts decls n ps h k Target l inside = inside.target

pub inside_from_parts : (decls : List MapDecl) (n : ℕ) (ps : List PointerView) (h : RegisterCells) (k : Kinds) → k.offsets ≡ Fixed → ((part : Part) → IsPart part → Counts decls n ps (kind_at part k) (held_at part h)) → AreInside decls n ps h k
inside_from_parts decls n ps h k fixed all = record {
  registers = λ r l. all (Register r) l;
  slots = λ s l. all (Slot s) l;
  window = λ i l. all (Byte i) l;
  target = all Target tt;
  offsets = fixed;
}

pub inside_later : (decls : List MapDecl) (n m : ℕ) (ps qs : List PointerView) (h : RegisterCells) (k : Kinds) → n ≤ m → Extends ps qs → AreInside decls n ps h k → AreInside decls m qs h k
inside_later decls n m ps qs h k l e inside = inside_from_parts decls m qs h k inside.offsets (λ part p. counts_later decls n m ps qs (kind_at part k) (held_at part h) l e (part_counts decls n ps h k part p inside))

pub ways_later : (decls : List MapDecl) (old new : List CellView) (ps qs : List PointerView) (here : List Way) → Grows old new → Extends ps qs → AreWays decls old ps here → AreWays decls new qs here
ways_later decls old new ps qs here g e ways = λ i d l. let w = ways i d l in (omega (arith, w.0, g.longer), inside_later decls (length old) (length new) ps qs _ _ g.longer e w.1)

pub meets_later : {decls : List MapDecl} {old new : List CellView} {ps qs : List PointerView} {here : List Way} {part : Part} {kind : Kind} {c : ℕ}
    → Grows old new → Extends ps qs → Meets decls old ps here part kind c → Meets decls new qs here part kind c
meets_later {decls = decls} {old = old} {new = new} {ps = ps} {qs = qs} {kind = kind} {c = c} g e m = record {
  counts = counts_later decls (length old) (length new) ps qs kind c g.longer e m.counts;
  holds = λ packet v rs d x run more said h. m.holds packet v rs d x (g.run packet v run) (extended e more) said h;
}
