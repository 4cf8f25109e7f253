-- The pointers that are held on the edges that leave a jump.
use Rattle.std.proofs.Common.{◌≡◌, ℕ, pos, ◌<◌, ◌≤◌, ◌⊎◌, inl, inr, ◌&&◌, not, Bool, true, false, if◌then◌else◌, List, [], ◌∷◌, ◌++◌, refl, sym, ◌∙◌, ap, subst, arith}
use Rattle.std.specs.Prelude.{All, Option, Some, None, slice_index}
use Rattle.std.proofs.lemmas.List.Elements.{All-nil, All-cons, All-contains}
use Rattle.xdp_machine.specs.bpf_isa.declared.operation.Width.{Width}
use Rattle.xdp_machine.specs.bpf_isa.declared.operation.Width.TheVariants.{Bits64}
use Rattle.xdp_machine.specs.bpf_isa.declared.operation.JumpCode.{JumpCode}
use Rattle.xdp_machine.specs.bpf_isa.declared.operation.JumpCode.TheVariants.{Jeq, Jne}
use Rattle.xdp_machine.specs.bpf_isa.declared.operation.Src.{Src}
use Rattle.xdp_machine.specs.bpf_isa.declared.operation.Src.TheVariants.{K, X}
use Rattle.xdp_machine.specs.bpf_isa.declared.operation.Op.TheVariants.{Ja, Jump}
use Rattle.xdp_machine.specs.bpf_isa.declared.instruction.Insn.{Insn}
use Rattle.xdp_machine.specs.xdp_maps.declared.decl.MapDecl.{MapDecl}
use Rattle.xdp_machine.specs.State.{PacketIn}
use Rattle.xdp_machine.specs.Values as is
use Rattle.xdp_machine.specs.Pointers.{compared}
use Rattle.kind_core.specs.declared.number.Number.TheVariants.{Known}
use Rattle.kind_core.specs.declared.kind.Kind.{Kind}
use Rattle.kind_core.specs.declared.kind.Kind.TheVariants.{Num, Maybe}
use Rattle.kind_core.specs.declared.kind.Kinds.{Kinds}
use Rattle.kind_core.specs.Kinds.{register}
use Rattle.kind_core.specs.Effects.{operand}
use Rattle.kind_core.specs.Edges.{agrees, decided, transferred}
use Rattle.cell_core.specs.Cells.{CellView, IsRun, on, bit}
use Rattle.operator_cells.specs.declared.held_cells.machine_cells.RegisterCells.{RegisterCells}
use Rattle.operator_cells.specs.declared.held_cells.way.Way.{Way}
use Rattle.operator_cells.specs.HeldCells.RegisterCells.{PointerView, pointer_at, key_of, entry_or_null}
use Rattle.operator_cells.specs.HeldCells.Rows.{kind_at, number_at}
use Rattle.operator_cells.specs.HeldCells.Pointing.{Pointing, pointing_as, pointing_at, HoldsPointer, AnswerAlike, WasHeld, CameAlong, EdgesPoint, LeavePoints, pointing_by}
use Rattle.edge_cells.specs.Testing.{is_equality, null_holds, Tests}
use Rattle.edge_cells.specs.Leaving.{operand_held, goes, IsBit, IsBranch, TestsJump}
use Rattle.edge_cells.proofs.JumpKindLaws.{Along, same, null, entry, further, IsEdge, Enters, along_at, none_enters, edge_of, single_edge}
use Rattle.operator_cells.specs.row_rules.declared.place_rows.location.Location.TheVariants as location
use Rattle.operator_cells.proofs.row_rules_laws.PlaceRows.LocationLaws.{at_number}

-- ---- what an edge makes of the kinds

-- a pointer was one, or it was what the lookup of one of these nodes answered
along_held : {Enter : ℕ → Type 0} (a b : Kind) (c : ℕ) (x : Pointing) → Along Enter a b → pointing_as b c ≡ Some x
    → (pointing_as a c ≡ Some x) ⊎ ((n : ℕ) × Enter n × (pointing_as a c ≡ Some (record { map = x.map; node = Some n; pointer = x.pointer })) × (x.node ≡ None))
along_held a b c x (same k) e = inl e
along_held a b c x (null q n) e = absurd (cc)
along_held a b c x (further y z f) e = absurd (cc)
along_held a b c x (entry q n p) e =
    let one : record { map = q; node = None; pointer = c } ≡ x = cc in
    inr (n, p, ap (λ (z : Pointing). Some (record { map = z.map; node = Some n; pointer = z.pointer })) one, ap (λ (z : Pointing). z.node) (sym one))

-- what the lookups of these nodes answered was found
abbrev AreFound : (ℕ → Type 0) → (ℕ → ℕ) → List PointerView → Kinds → RegisterCells → Type 0
AreFound Enter v ps k h = (n : ℕ) → Enter n → (y : Pointing) → HoldsPointer k h y → y.node ≡ Some n → on (v (pointer_at ps y.pointer).found) ≡ true

was_held : {Enter : ℕ → Type 0} (v : ℕ → ℕ) (ps : List PointerView) (k j : Kinds) (h : RegisterCells) → IsEdge Enter k j → AreFound Enter v ps k h → (x : Pointing) → HoldsPointer j h x → WasHeld v ps k h x
was_held {Enter} v ps k j h e found x holds = by (along_held (kind_at k holds.0) (kind_at j holds.0) (number_at h holds.0) x (along_at k j holds.0 e) holds.1)
  where
    by : (pointing_at k h holds.0 ≡ Some x) ⊎ ((n : ℕ) × Enter n × (pointing_at k h holds.0 ≡ Some (record { map = x.map; node = Some n; pointer = x.pointer })) × (x.node ≡ None)) → WasHeld v ps k h x
    by (inl is) = inl (holds.0, is)
    by (inr was) = inr (was.0, (holds.0, was.2), was.3, found was.0 was.1 (record { map = x.map; node = Some was.0; pointer = x.pointer }) (holds.0, was.2) refl)

came_along : {Enter : ℕ → Type 0} (k j : Kinds) (h : RegisterCells) → IsEdge Enter k j → (x : Pointing) → HoldsPointer j h x → CameAlong k h x
came_along {Enter} k j h e x holds = by (along_held (kind_at k holds.0) (kind_at j holds.0) (number_at h holds.0) x (along_at k j holds.0 e) holds.1)
  where
    by : (pointing_at k h holds.0 ≡ Some x) ⊎ ((n : ℕ) × Enter n × (pointing_at k h holds.0 ≡ Some (record { map = x.map; node = Some n; pointer = x.pointer })) × (x.node ≡ None)) → CameAlong k h x
    by (inl is) = (x.node, (holds.0, is))
    by (inr was) = (Some was.0, (holds.0, was.2))

-- ---- the test against null

null_compared : (c : JumpCode) (t : Bool) (q : ℕ) (key : List ℕ) → is_equality c ≡ true
    → (compared Bits64 c (if t then is.Entry q key (pos 0) else is.Number 0) (is.Number 0) ≡ Some (null_holds c t))
    × (compared Bits64 c (is.Number 0) (if t then is.Entry q key (pos 0) else is.Number 0) ≡ Some (null_holds c t))
null_compared Jeq true q key e = (refl, refl)
null_compared Jeq false q key e = (refl, refl)
null_compared Jne true q key e = (refl, refl)
null_compared Jne false q key e = (refl, refl)
null_compared c t q key e = absurd (cc)

-- the edge on which it is an entry is on where it was found
null_found : (c : JumpCode) (taken t : Bool) (n : ℕ) → is_equality c ≡ true → null_holds c true ≡ taken → n ≡ bit (null_holds c t) → agrees taken (on n) ≡ true → t ≡ true
null_found c taken true n e f g h = refl
null_found Jeq taken false n e f g h = let off : agrees taken (on n) ≡ false = ap (λ (b : Bool). agrees b (on n)) (sym f) ∙ ap (λ (m : ℕ). not (on m)) g in absurd (cc)
null_found Jne taken false n e f g h = let off : agrees taken (on n) ≡ false = ap (λ (b : Bool). agrees b (on n)) (sym f) ∙ ap on g in absurd (cc)
null_found c taken false n e f g h = absurd (cc)

left_found : {ps : List PointerView} {c : JumpCode} {r m p q : ℕ} {old new : List CellView} {condition : ℕ} (packet : PacketIn) (v : ℕ → ℕ) (taken : Bool) → Tests ps Bits64 c (Maybe r m) p (Num (Known 0)) q old new condition
    → is_equality c ≡ true → null_holds c true ≡ taken → IsRun packet new v → agrees taken (on (v condition)) ≡ true → on (v (pointer_at ps p).found) ≡ true
left_found {ps} {c} {r} {m} {p} {q} {condition = condition} packet v taken tests e f run h =
    let found : Bool = on (v (pointer_at ps p).found) in
    null_found c taken found (v condition) e f
    (tests.value [] packet v (entry_or_null [] v r (pointer_at ps p)) (is.Number 0) (null_holds c found) run refl refl (null_compared c found r (key_of [] v r (pointer_at ps p)) e).0) h

right_found : {ps : List PointerView} {c : JumpCode} {r m p q : ℕ} {old new : List CellView} {condition : ℕ} (packet : PacketIn) (v : ℕ → ℕ) (taken : Bool) → Tests ps Bits64 c (Num (Known 0)) p (Maybe r m) q old new condition
    → is_equality c ≡ true → null_holds c true ≡ taken → IsRun packet new v → agrees taken (on (v condition)) ≡ true → on (v (pointer_at ps q).found) ≡ true
right_found {ps} {c} {r} {m} {p} {q} {condition = condition} packet v taken tests e f run h =
    let found : Bool = on (v (pointer_at ps q).found) in
    null_found c taken found (v condition) e f
    (tests.value [] packet v (is.Number 0) (entry_or_null [] v r (pointer_at ps q)) (null_holds c found) run refl refl (null_compared c found r (key_of [] v r (pointer_at ps q)) e).1) h

register_held : (k : Kinds) (h : RegisterCells) (r q n : ℕ) → r ≤ 10 → register k r ≡ Maybe q n → HoldsPointer k h (record { map = q; node = Some n; pointer = slice_index h.registers r })
register_held k h r q n l e =
    let small : r < 11 = omega (arith, l) in
    (r, ap (pointing_by k h) (at_number (location.Register r) small) ∙ ap (λ (a : Kind). pointing_as a (slice_index h.registers r)) e)

operand_is_held : (k : Kinds) (h : RegisterCells) (i : Insn) (s : Src) (q n : ℕ) → i.src ≤ 10 → operand k i s ≡ Maybe q n → HoldsPointer k h (record { map = q; node = Some n; pointer = operand_held h i s })
operand_is_held k h i K q n l e = absurd (cc)
operand_is_held k h i X q n l e = register_held k h i.src q n l e

-- where the condition goes along the edge
answers_found : (ps : List PointerView) (k : Kinds) (h : RegisterCells) (i : Insn) (w : Width) (c : JumpCode) (s : Src) (old new : List CellView) (condition : ℕ) (packet : PacketIn) (v : ℕ → ℕ) (taken : Bool) → i.dst ≤ 10 → i.src ≤ 10
    → TestsJump ps k h i w c s old new condition → IsRun packet new v → agrees taken (on (v condition)) ≡ true → AnswerAlike v ps k h → AreFound (Enters taken w c (register k i.dst) (operand k i s)) v ps k h
answers_found ps k h i w c s old new condition packet v taken dst src tests run goes_on alike n enters y holds is_n = by enters.sides
  where
    wide : {a b : Kind} → register k i.dst ≡ a → operand k i s ≡ b → Tests ps Bits64 c a (slice_index h.registers i.dst) b (operand_held h i s) old new condition
    wide {a} {b} e f = subst (λ (x : Kind). Tests ps Bits64 c x (slice_index h.registers i.dst) b (operand_held h i s) old new condition) e
        (subst (λ (x : Kind). Tests ps Bits64 c (register k i.dst) (slice_index h.registers i.dst) x (operand_held h i s) old new condition) f
        (subst (λ (x : Width). Tests ps x c (register k i.dst) (slice_index h.registers i.dst) (operand k i s) (operand_held h i s) old new condition) enters.wide tests))

    by : ((register k i.dst ≡ Maybe enters.map n) × (operand k i s ≡ Num (Known 0))) ⊎ ((register k i.dst ≡ Num (Known 0)) × (operand k i s ≡ Maybe enters.map n)) → on (v (pointer_at ps y.pointer).found) ≡ true
    by (inl l) = ap on (alike y (record { map = enters.map; node = Some n; pointer = slice_index h.registers i.dst }) n holds (register_held k h i.dst enters.map n dst l.0) is_n refl)
        ∙ left_found packet v taken (wide l.0 l.1) enters.equality enters.goes run goes_on
    by (inr r) = ap on (alike y (record { map = enters.map; node = Some n; pointer = operand_held h i s }) n holds (operand_is_held k h i s enters.map n src r.1) is_n refl)
        ∙ right_found packet v taken (wide r.0 r.1) enters.equality enters.goes run goes_on

-- ---- edges

-- An edge has a bit; where it is on so is the guard, the edge leads there, and what it holds was held.
record PointsTo (v : ℕ → ℕ) (ps : List PointerView) (k : Kinds) (h : RegisterCells) (guard to : ℕ) (e : Way) : Type 0 where
  bits : v e.bit < 2
  guarded : on (v e.bit) ≡ true → on (v guard) ≡ true
  leads : on (v e.bit) ≡ true → e.to ≡ to
  held : AnswerAlike v ps k h → on (v e.bit) ≡ true → (x : Pointing) → HoldsPointer e.kinds e.held x → WasHeld v ps k h x
  along : (x : Pointing) → HoldsPointer e.kinds e.held x → CameAlong k h x

edges_point : {v : ℕ → ℕ} {ps : List PointerView} {k : Kinds} {h : RegisterCells} {guard to : ℕ} {more : List Way} → All (PointsTo v ps k h guard to) more → EdgesPoint v ps k h guard more
edges_point {v} {ps} {k} {h} {guard} {to} {more} all = record {
  bits = λ i d l. (all i d l).bits;
  guarded = λ i d l. (all i d l).guarded;
  one = λ e f among also is_on is_too. (All-contains (PointsTo v ps k h guard to) more e all among).leads is_on ∙ sym ((All-contains (PointsTo v ps k h guard to) more f all also).leads is_too);
  held = λ alike i d l is_on. (all i d l).held alike is_on;
  along = λ i d l. (all i d l).along;
}

bit_of : {n : ℕ} (a b : Bool) → n ≡ bit (a && b) → (n < 2) × (on n ≡ true → (a ≡ true) × (b ≡ true))
bit_of true true e = (omega (arith, e), λ is_on. (refl, refl))
bit_of true false e = (omega (arith, e), λ is_on. let off : on _ ≡ false = ap on e in absurd (cc))
bit_of false b e = (omega (arith, e), λ is_on. let off : on _ ≡ false = ap on e in absurd (cc))

branch_points : {decls : List MapDecl} {old new : List CellView} {node : ℕ} {k : Kinds} {h : RegisterCells} {guard : ℕ} {i : Insn} {condition : Option ℕ} {taken : Bool} {to : ℕ} {e : Way}
    (ps : List PointerView) (packet : PacketIn) (v : ℕ → ℕ) (there : ℕ)
    → IsBranch decls old new node k h guard i condition taken to e → IsRun packet new v → v guard < 2 → IsBit v condition → (goes v condition taken ≡ true → to ≡ there)
    → (AnswerAlike v ps k h → goes v condition taken ≡ true → (x : Pointing) → HoldsPointer (transferred decls k i node false taken) h x → WasHeld v ps k h x)
    → ((x : Pointing) → HoldsPointer (transferred decls k i node false taken) h x → CameAlong k h x) → PointsTo v ps k h guard there e
branch_points {decls} {node = node} {k = k} {h = h} {guard = guard} {i = i} {condition = condition} {taken = taken} {e = e} ps packet v there branch run small is_bit leads held along =
    let b = bit_of (on (v guard)) (goes v condition taken) (branch.branches.value packet v run small is_bit) in
    record {
      bits = b.0;
      guarded = λ is_on. (b.1 is_on).0;
      leads = λ is_on. branch.leads ∙ leads (b.1 is_on).1;
      held = λ alike is_on x holds. held alike (b.1 is_on).1 x (edge x holds);
      along = λ x holds. along x (edge x holds);
    }
  where
    edge : (x : Pointing) → HoldsPointer e.kinds e.held x → HoldsPointer (transferred decls k i node false taken) h x
    edge x holds = subst (λ (j : Kinds). HoldsPointer j h x) branch.kinds_are (subst (λ (g : RegisterCells). HoldsPointer e.kinds g x) branch.held_is holds)

-- one edge, on which all was held
one_points : {decls : List MapDecl} {old new : List CellView} {node : ℕ} {k : Kinds} {h : RegisterCells} {guard : ℕ} {i : Insn} {taken : Bool} {to : ℕ} {ways2 : List Way} {e : Way} (ps : List PointerView) (ways : List Way)
    → IsBranch decls old new node k h guard i None taken to e → ways2 ≡ ways ++ e ∷ [] → ((v : ℕ → ℕ) (x : Pointing) → HoldsPointer (transferred decls k i node false taken) h x → WasHeld v ps k h x)
    → ((x : Pointing) → HoldsPointer (transferred decls k i node false taken) h x → CameAlong k h x) → LeavePoints new ps k h guard ways ways2
one_points {k = k} {h = h} {guard = guard} {to = to} {e = e} ps ways branch pushed held along = (
  e ∷ [],
  pushed,
  λ packet v run small. edges_point
      (All-cons (PointsTo v ps k h guard to) e [] (branch_points ps packet v to branch run small tt (λ on. refl) (λ alike on. held v) along) (All-nil (PointsTo v ps k h guard to))),
)

pub decided_points : {decls : List MapDecl} {old new : List CellView} {node : ℕ} {k : Kinds} {h : RegisterCells} {guard : ℕ} {i : Insn} {w : Width} {c : JumpCode} {s : Src} {taken : Bool} {to : ℕ}
    {ways2 : List Way} {e : Way} (ps : List PointerView) (ways : List Way)
    → i.op ≡ Jump w c s → decided k i ≡ Some taken → IsBranch decls old new node k h guard i None taken to e → ways2 ≡ ways ++ e ∷ [] → LeavePoints new ps k h guard ways ways2
decided_points {decls} {node = node} {k = k} {h = h} {i = i} {w = w} {c = c} {s = s} {taken = taken} ps ways op is branch pushed =
    one_points ps ways branch pushed (λ v. was_held v ps k (transferred decls k i node false taken) h (edge_of decls k i node w c s taken op) (λ n enters. absurd (none_enters k i w c s taken taken n op is enters)))
    (came_along k (transferred decls k i node false taken) h (edge_of decls k i node w c s taken op))

pub always_points : {decls : List MapDecl} {old new : List CellView} {node : ℕ} {k : Kinds} {h : RegisterCells} {guard : ℕ} {i : Insn} {w : Width} {to : ℕ} {ways2 : List Way} {e : Way} (ps : List PointerView) (ways : List Way)
    → i.op ≡ Ja w → IsBranch decls old new node k h guard i None true to e → ways2 ≡ ways ++ e ∷ [] → LeavePoints new ps k h guard ways ways2
always_points {decls} {node = node} {k = k} {h = h} {i = i} {w = w} ps ways op branch pushed =
    one_points ps ways branch pushed (λ v x holds. inl (held x holds)) (λ x holds. (x.node, held x holds))
  where
    held : (x : Pointing) → HoldsPointer (transferred decls k i node false true) h x → HoldsPointer k h x
    held x holds = subst (λ (j : Kinds). HoldsPointer j h x) (single_edge decls k i node w true op) holds

-- two edges, by a condition
pub both_points : {decls : List MapDecl} {old mid mid2 new : List CellView} {node : ℕ} {k : Kinds} {h : RegisterCells} {guard : ℕ} {i : Insn} {w : Width} {code : JumpCode} {s : Src} {next jump c : ℕ}
    {ways2 : List Way} {e f : Way} (ps : List PointerView) (ways : List Way)
    → i.op ≡ Jump w code s → i.dst ≤ 10 → i.src ≤ 10 → TestsJump ps k h i w code s old mid c → IsBranch decls mid mid2 node k h guard i (Some c) false next e → IsBranch decls mid2 new node k h guard i (Some c) true jump f
    → ways2 ≡ ways ++ e ∷ f ∷ [] → LeavePoints new ps k h guard ways ways2
both_points {decls} {mid = mid} {new = new} {node = node} {k = k} {h = h} {guard = guard} {i = i} {w = w} {code = code} {s = s} {next = next} {jump = jump} {c = c} {e = e} {f = f} ps ways op dst src tests along aside pushed =
    (e ∷ f ∷ [], pushed, λ packet v run small. edges_point (points packet v run small))
  where
    held : (packet : PacketIn) (v : ℕ → ℕ) (taken : Bool) → IsRun packet mid v → AnswerAlike v ps k h → agrees taken (on (v c)) ≡ true → (x : Pointing) → HoldsPointer (transferred decls k i node false taken) h x → WasHeld v ps k h x
    held packet v taken run alike goes_on = was_held v ps k (transferred decls k i node false taken) h (edge_of decls k i node w code s taken op)
        (answers_found ps k h i w code s _ mid c packet v taken dst src tests run goes_on alike)

    came : (taken : Bool) (x : Pointing) → HoldsPointer (transferred decls k i node false taken) h x → CameAlong k h x
    came taken = came_along k (transferred decls k i node false taken) h (edge_of decls k i node w code s taken op)

    lead : (t taken : Bool) → agrees taken t ≡ true → (if taken then jump else next) ≡ (if t then jump else next)
    lead true true h = refl
    lead false false h = refl
    lead true false h = absurd (cc)
    lead false true h = absurd (cc)

    points : (packet : PacketIn) (v : ℕ → ℕ) → IsRun packet new v → v guard < 2 → All (PointsTo v ps k h guard (if on (v c) then jump else next)) (e ∷ f ∷ [])
    points packet v run small =
        let before = aside.branches.grows.run packet v run in
        let start = along.branches.grows.run packet v before in
        let is_bit = tests.is_bit packet v start in
        let P : Way → Type 0 = PointsTo v ps k h guard (if on (v c) then jump else next) in
        All-cons P e (f ∷ []) (branch_points ps packet v _ along before small is_bit (lead (on (v c)) false) (held packet v false start) (came false))
        (All-cons P f [] (branch_points ps packet v _ aside run small is_bit (lead (on (v c)) true) (held packet v true start) (came true)) (All-nil P))
