-- The cells of what a packet leaves.
use Rattle.std.proofs.Common.{◌≡◌, ℕ, ◌+◌, ◌/◌, ◌<◌, ◌≤◌, ◌^◌, ◌⊎◌, inl, inr, true, List, [], ◌∷◌, ◌++◌, length, length-append, get_or, refl, sym, ◌∙◌, ap, subst, arith}
use Rattle.std.specs.Prelude.{slice_index, slice_set, All}
use Rattle.std.specs.List.{AllPairs}
use Rattle.std.proofs.Math.ListN.{get_or-append, length-set}
use Rattle.std.proofs.Math.Seq.{get_or-append_seam}
use Rattle.std.proofs.Math.Nat.{mod-eq_of_lt}
use Rattle.std.proofs.lemmas.Bool.{cases_lt}
use Rattle.std.proofs.lemmas.Grind.{same_number_lists}
use Rattle.std.proofs.lemmas.List.{length-map, get_or-map, get_or-set_same, get_or-set_other, get_or_past}
use Rattle.std.proofs.lemmas.List.Elements.{All-push, All-weaker, All-contains}
use Rattle.xdp_machine.specs.Arithmetic.{low}
use Rattle.xdp_machine.specs.State.{PacketIn}
use Rattle.xdp_machine.specs.Runs.{Leaves}
use Rattle.xdp_machine.specs.MachineLaws.{LeavesInRange}
use Rattle.cell_core.specs.declared.cell.Cell.{Cell}
use Rattle.cell_core.specs.declared.operator.Operator.TheVariants.{Wire}
use Rattle.cell_core.specs.declared.program.FrameByte.{FrameByte}
use Rattle.cell_core.specs.Cells.{CellView, IsRun, no_cell, cell_at, on}
use Rattle.cell_core.specs.Rows.{greatest}
use Rattle.cell_core.specs.Sites.{with_bytes}
use Rattle.cell_core.specs.View.{cell_of}
use Rattle.operator_cells.specs.declared.joining.Arm.{Arm}
use Rattle.operator_cells.specs.Joining.{chosen, flat, ChoiceIsRight}
use Rattle.operator_cells.specs.Making.{seen, Adds, Makes, MakesIf, operated}
use Rattle.operator_cells.specs.Rising.{Rises}
use Rattle.operator_cells.proofs.MakingLaws.{grown}
use Rattle.operator_cells.specs.declared.held_cells.way.Exit.{Exit}
use Rattle.operator_cells.specs.HeldCells.Steps.{IsLeft}
use Rattle.operator_cells.specs.HeldCells.Law.{IsPacket}
use Rattle.predicate_core.specs.declared.closing.Output.{Output}
use Rattle.predicate_core.specs.declared.closing.Output.TheVariants.{Verdict, Target, Byte}
use Rattle.predicate_core.specs.Buildable.{HasBits, AddsNoRow}
use Rattle.predicate_core.specs.Making.{Answers}
use Rattle.predicate_core.specs.Opening.{HaveBytes}
use Rattle.predicate_core.specs.Closing.{output_of, bits_of, SomeEnds, AreOutputs, Outputs, OutputsWithin, AreFrameBytes}
use Rattle.predicate_core.proofs.LastRow.{no_row_then, no_row_more, flat_low, bits_later}
use Rattle.predicate_core.proofs.Opened.{byte_below}

-- ---- what one end holds

pub known_row : (old new : List CellView) (c : ℕ) → Rises old new c (λ row. 0) → AddsNoRow old new
known_row old new c rises = no_row_more old new (λ row. 0) rises.grows (λ row n low. omega arith)

pub held_row : (old new : List CellView) (a c : ℕ) → a < length old → Rises old new c (λ row. row a) → AddsNoRow old new
held_row old new a c there rises = no_row_more old new (λ row. row a) rises.grows (λ row n low. low a there)

pub seen_inside : (cells : List Cell) (k : ℕ) → k < length (seen cells) → k < length cells
unfolding seen
seen_inside cells k l = omega (arith, l, length-map cells cell_of)

pub seen_width : (cells : List Cell) (k : ℕ) (d : Cell) → k < length (seen cells) → (cell_at (seen cells) k).width ≡ (get_or cells k d).width
unfolding seen
seen_width cells k d l = ap (λ (x : CellView). x.width) (get_or-map cell_of cells k d no_cell (seen_inside cells k l))

-- a number in fewer bits
pub narrowed : (old new : List CellView) (a bits c : ℕ) → Makes old new c (operated Wire (a ∷ []) 0 bits) → MakesIf old new c (λ v. v a < 2 ^ bits) (λ packet v. v a)
narrowed old new a bits c made = record {
  grows = made.grows;
  there = made.there;
  value = λ packet v run fits. made.value packet v run ∙ let e : v a / 2 ^ 0 ≡ v a = omega arith in ap (low bits) e ∙ mod-eq_of_lt {n = v a} {m = 2 ^ bits} fits;
}

pub added_bits : (old new : List CellView) (c : ℕ) (cell : CellView) → Adds old new c cell → HasBits new cell.width c
added_bits old new c cell adds = record {
  there = omega (arith, adds.at, ap length adds.is, length-append old (cell ∷ []));
  width = let e : cell_at new c ≡ cell = ap (cell_at new) adds.at ∙ ap (λ (cells : List CellView). cell_at cells (length old)) adds.is ∙ get_or-append_seam old cell [] no_cell in omega (arith, ap (λ (x : CellView). x.width) e);
}

-- ---- what all ends hold

pub outputs_more : (old mid new : List CellView) (exits : List Exit) (o : Output) (n : ℕ) (arms more : List Arm) (c : ℕ) (x : Exit) → n < length exits → AreOutputs old mid exits o n arms
    → x.guard < length old → Makes mid new c (λ packet v. output_of v o x) → AddsNoRow mid new → ((d : Exit) → get_or exits n d ≡ x) → more ≡ arms ++ record { bit = x.guard; cell = c } ∷ [] → AreOutputs old new exits o (n + 1) more
outputs_more old mid new exits o n arms more c x inside outputs guard made no_row is pushed = record {
  grows = grown outputs.grows made.grows;
  no_row = no_row_then old mid new made.grows outputs.no_row no_row;
  count = omega (arith, ap length pushed, length-append arms (arm ∷ []), outputs.count);
  there = subst (All (λ a. (a.bit < length new) × (a.cell < length new))) (sym pushed)
      (All-push (λ a. (a.bit < length new) × (a.cell < length new)) arms arm
      (All-weaker (λ a. (a.bit < length mid) × (a.cell < length mid)) (λ a. (a.bit < length new) × (a.cell < length new)) (λ a l. (omega (arith, l.0, made.grows.longer), omega (arith, l.1, made.grows.longer))) arms outputs.there)
      (omega (arith, guard, outputs.grows.longer, made.grows.longer), made.there));
  each = λ packet v i a y l run. by packet v i a y (cases_lt i n) l run;
}
  where
    arm : Arm
    arm = record { bit = x.guard; cell = c }

    at : (i : ℕ) (a : Arm) → get_or more i a ≡ get_or (arms ++ arm ∷ []) i a
    at i a = ap (λ (xs : List Arm). get_or xs i a) pushed

    by : (packet : PacketIn) (v : ℕ → ℕ) (i : ℕ) (a : Arm) (y : Exit) → (i < n) ⊎ (n ≤ i) → i < n + 1 → IsRun packet new v
        → ((get_or more i a).bit ≡ (get_or exits i y).guard) × (v (get_or more i a).cell ≡ output_of v o (get_or exits i y))
    by packet v i a y (inl l) m run =
        let e : get_or more i a ≡ get_or arms i a = at i a ∙ get_or-append arms (arm ∷ []) a i (omega (arith, l, outputs.count)) in
        let p = outputs.each packet v i a y l (made.grows.run packet v run) in
        (ap (λ (b : Arm). b.bit) e ∙ p.0, ap (λ (b : Arm). v b.cell) e ∙ p.1)
    by packet v i a y (inr l) m run =
        let j : length arms ≡ i = omega (arith, l, m, outputs.count) in
        let k : n ≡ i = omega (arith, l, m) in
        let e : get_or more i a ≡ arm = at i a ∙ ap (λ (b : ℕ). get_or (arms ++ arm ∷ []) b a) (sym j) ∙ get_or-append_seam arms arm [] a in
        let f : x ≡ get_or exits i y = sym (is y) ∙ ap (λ (b : ℕ). get_or exits b y) k in
        (ap (λ (b : Arm). b.bit) e ∙ ap (λ (z : Exit). z.guard) f, ap (λ (b : Arm). v b.cell) e ∙ made.value packet v run ∙ ap (output_of v o) f)

pub outputs_chosen : ChoiceIsRight → (old mid new : List CellView) (exits : List Exit) (o : Output) (arms : List Arm) (c : ℕ) → AreOutputs old mid exits o (length exits) arms → Makes mid new c (λ packet v. chosen v arms)
    → Rises mid new c (λ row. greatest row (flat arms)) → Outputs old new exits o c
outputs_chosen choice old mid new exits o arms c outputs made rises = record {
  grows = grown outputs.grows made.grows;
  no_row = no_row_then old mid new made.grows outputs.no_row (no_row_more mid new (λ row. greatest row (flat arms)) rises.grows (λ row n low. flat_low mid row n arms low outputs.there));
  there = made.there;
  value = λ packet v n run x all.
      let k = x.1.0 in
      let r = made.grows.run packet v run in
      let d : Arm = record { bit = 0; cell = 0 } in
      made.value packet v run
      ∙ choice v arms n k d (omega (arith, x.1.1, outputs.count)) (ap (λ (b : ℕ). on (v b)) ((outputs.each packet v k d x.0 x.1.1 r).0 ∙ ap (λ (y : Exit). y.guard) x.1.2) ∙ x.2)
      (λ i a l o'. let p = outputs.each packet v i a x.0 (omega (arith, l, outputs.count)) r in
      p.1 ∙ all i x.0 (omega (arith, l, outputs.count)) (ap (λ (b : ℕ). on (v b)) (sym p.0) ∙ o'));
}

pub outputs_empty : (old mid new : List CellView) (exits : List Exit) (o : Output) (arms : List Arm) (c : ℕ) (f : PacketIn → (ℕ → ℕ) → ℕ) → length arms ≡ 0 → AreOutputs old mid exits o (length exits) arms → Makes mid new c f
    → Rises mid new c (λ row. 0) → Outputs old new exits o c
outputs_empty old mid new exits o arms c f none outputs made rises = record {
  grows = grown outputs.grows made.grows;
  no_row = no_row_then old mid new made.grows outputs.no_row (no_row_more mid new (λ row. 0) rises.grows (λ row n low. omega arith));
  there = made.there;
  value = λ packet v n run x. absurd (omega (arith, x.1.1, outputs.count, none));
}

pub outputs_within : (old mid new : List CellView) (exits : List Exit) (o : Output) (a c bits : ℕ) → bits ≡ bits_of o → Outputs old mid exits o a → MakesIf mid new c (λ v. v a < 2 ^ bits) (λ packet v. v a) → HasBits new bits c → AddsNoRow mid new
    → OutputsWithin old new exits o c
outputs_within old mid new exits o a c bits size whole made is no_row = record {
  grows = grown whole.grows made.grows;
  no_row = no_row_then old mid new made.grows whole.no_row no_row;
  is = subst (λ (b : ℕ). HasBits new b c) size is;
  value = λ packet v n run some all fits.
      let same : v a ≡ n = whole.value packet v n (made.grows.run packet v run) some all in
      made.value packet v run (subst (λ (m : ℕ). m < 2 ^ bits) (sym same) (subst (λ (b : ℕ). n < 2 ^ b) (sym size) fits)) ∙ same;
}

-- ---- the frame

more_bytes : (v : ℕ → ℕ) (f : List ℕ) (frame : List FrameByte) (b : FrameByte) → with_bytes v f (frame ++ b ∷ []) ≡ slice_set (with_bytes v f frame) b.at (v b.cell)
more_bytes v f [] b = refl
more_bytes v f (a ∷ frame) b = more_bytes v (slice_set f a.at (v a.cell)) frame b

left_at : (packet : PacketIn) (v : ℕ → ℕ) (exits : List Exit) (e : Leaves) (x : SomeEnds v exits) → All (λ x. on (v x.guard) ≡ true → IsLeft packet v x e) exits → IsLeft packet v x.0 e
left_at packet v exits e x all = All-contains (λ x. on (v x.guard) ≡ true → IsLeft packet v x e) exits x.0 all x.1 x.2

-- no end has another cell of the next byte
pub frame_same : (old new : List CellView) (exits : List Exit) (window : List ℕ) (n : ℕ) (frame : List FrameByte) → n < 256 → HaveBytes old 256 window → All (λ x. slice_index x.held.window n ≡ slice_index window n) exits
    → AreFrameBytes old new exits window n frame → AreFrameBytes old new exits window (n + 1) frame
frame_same old new exits window n frame below bytes same so_far = record {
  grows = so_far.grows;
  no_row = so_far.no_row;
  bytes = All-weaker (λ b. (b.at < n) × HasBits new 8 b.cell) (λ b. (b.at < n + 1) × HasBits new 8 b.cell) (λ b h. (omega (arith, h.0), h.1)) frame so_far.bytes;
  ascending = so_far.ascending;
  size = so_far.size;
  rest = λ packet v i l. so_far.rest packet v i (omega (arith, l));
  each = λ packet v e i l is range run left some. by packet v e i (cases_lt i n) l is range run left some;
}
  where
    by : (packet : PacketIn) (v : ℕ → ℕ) (e : Leaves) (i : ℕ) → (i < n) ⊎ (n ≤ i) → i < n + 1 → IsPacket packet → LeavesInRange e → IsRun packet new v → All (λ x. on (v x.guard) ≡ true → IsLeft packet v x e) exits → SomeEnds v exits
        → slice_index (with_bytes v packet.frame frame) i ≡ slice_index e.frame i
    by packet v e i (inl l) m is range run left some = so_far.each packet v e i l is range run left some
    by packet v e i (inr l) m is range run left some =
        let k : n ≡ i = omega (arith, l, m) in
        let one = left_at packet v exits e some left in
        subst (λ (j : ℕ). slice_index (with_bytes v packet.frame frame) j ≡ slice_index e.frame j) k
        (so_far.rest packet v n (omega arith) ∙ sym (one.window n below ∙ ap v (All-contains (λ x. slice_index x.held.window n ≡ slice_index window n) exits some.0 same some.1)
        ∙ bytes.value packet v n below (so_far.grows.run packet v run) is.bytes))

ascending_more : (n : ℕ) (frame : List FrameByte) (c : ℕ) → AllPairs (λ a b. a.at < b.at) frame → All (λ b. b.at < n) frame → AllPairs (λ a b. a.at < b.at) (frame ++ record { at = n; cell = c } ∷ [])
ascending_more n frame c pairs low i j d l h = by (cases_lt j (length frame))
  where
    x : FrameByte
    x = record { at = n; cell = c }

    by : (j < length frame) ⊎ (length frame ≤ j) → (get_or (frame ++ x ∷ []) i d).at < (get_or (frame ++ x ∷ []) j d).at
    by (inl m) = let p = pairs i j d l m in
        omega (arith, p, ap (λ (b : FrameByte). b.at) (get_or-append frame (x ∷ []) d i (omega (arith, l, m))), ap (λ (b : FrameByte). b.at) (get_or-append frame (x ∷ []) d j m))
    by (inr m) =
        let e : length frame ≡ j = omega (arith, m, h, length-append frame (x ∷ [])) in
        let last : get_or (frame ++ x ∷ []) j d ≡ x = ap (λ (k : ℕ). get_or (frame ++ x ∷ []) k d) (sym e) ∙ get_or-append_seam frame x [] d in
        omega (arith, low i d (omega (arith, l, e)), ap (λ (b : FrameByte). b.at) (get_or-append frame (x ∷ []) d i (omega (arith, l, e))), ap (λ (b : FrameByte). b.at) last)

-- one byte more
pub frame_more : (old mid new : List CellView) (exits : List Exit) (window : List ℕ) (n : ℕ) (frame more : List FrameByte) (c : ℕ) → n < 256 → AreFrameBytes old mid exits window n frame → OutputsWithin mid new exits (Byte n) c
    → more ≡ frame ++ record { at = n; cell = c } ∷ [] → AreFrameBytes old new exits window (n + 1) more
frame_more old mid new exits window n frame more c below so_far made pushed = record {
  grows = grown so_far.grows made.grows;
  no_row = no_row_then old mid new made.grows so_far.no_row made.no_row;
  bytes = subst (All (λ b. (b.at < n + 1) × HasBits new 8 b.cell)) (sym pushed)
      (All-push (λ b. (b.at < n + 1) × HasBits new 8 b.cell) frame (record { at = n; cell = c })
      (All-weaker (λ b. (b.at < n) × HasBits mid 8 b.cell) (λ b. (b.at < n + 1) × HasBits new 8 b.cell) (λ b h. (omega (arith, h.0), bits_later mid new 8 b.cell made.grows h.1)) frame so_far.bytes)
      (omega arith, made.is));
  ascending = subst (AllPairs (λ a b. a.at < b.at)) (sym pushed) (ascending_more n frame c so_far.ascending (All-weaker (λ b. (b.at < n) × HasBits mid 8 b.cell) (λ b. b.at < n) (λ b h. h.0) frame so_far.bytes));
  size = λ packet v. ap length (set packet v) ∙ length-set (with_bytes v packet.frame frame) n (v c) ∙ so_far.size packet v;
  rest = λ packet v i l. ap (λ (f : List ℕ). slice_index f i) (set packet v) ∙ get_or-set_other (with_bytes v packet.frame frame) n i (v c) 0 (λ e. absurd (omega (arith, l, e))) ∙ so_far.rest packet v i (omega (arith, l));
  each = λ packet v e i l is range run left some. by packet v e i (cases_lt i n) l is range run left some;
}
  where
    set : (packet : PacketIn) (v : ℕ → ℕ) → with_bytes v packet.frame more ≡ slice_set (with_bytes v packet.frame frame) n (v c)
    set packet v = ap (with_bytes v packet.frame) pushed ∙ more_bytes v packet.frame frame (record { at = n; cell = c })

    new_byte : (packet : PacketIn) (v : ℕ → ℕ) (e : Leaves) → LeavesInRange e → IsRun packet new v → All (λ x. on (v x.guard) ≡ true → IsLeft packet v x e) exits → SomeEnds v exits
        → (n < length (with_bytes v packet.frame frame)) ⊎ (length (with_bytes v packet.frame frame) ≤ n) → slice_index (slice_set (with_bytes v packet.frame frame) n (v c)) n ≡ slice_index e.frame n
    new_byte packet v e range run left some (inl l) =
        get_or-set_same (with_bytes v packet.frame frame) n (v c) 0 l
        ∙ made.value packet v (slice_index e.frame n) run some (λ i d b o. sym ((left i d b o).window n below)) (byte_below e.frame n range.frame)
    new_byte packet v e range run left some (inr l) =
        get_or_past (slice_set (with_bytes v packet.frame frame) n (v c)) n 0 (omega (arith, l, length-set (with_bytes v packet.frame frame) n (v c)))
        ∙ sym (get_or_past e.frame n 0 (omega (arith, l, so_far.size packet v, (left_at packet v exits e some left).length_is)))

    by : (packet : PacketIn) (v : ℕ → ℕ) (e : Leaves) (i : ℕ) → (i < n) ⊎ (n ≤ i) → i < n + 1 → IsPacket packet → LeavesInRange e → IsRun packet new v → All (λ x. on (v x.guard) ≡ true → IsLeft packet v x e) exits → SomeEnds v exits
        → slice_index (with_bytes v packet.frame more) i ≡ slice_index e.frame i
    by packet v e i (inl l) m is range run left some =
        ap (λ (f : List ℕ). slice_index f i) (set packet v) ∙ get_or-set_other (with_bytes v packet.frame frame) n i (v c) 0 (λ x. absurd (omega (arith, l, x)))
        ∙ so_far.each packet v e i l is range (made.grows.run packet v run) left some
    by packet v e i (inr l) m is range run left some =
        let k : n ≡ i = omega (arith, l, m) in
        subst (λ (j : ℕ). slice_index (with_bytes v packet.frame more) j ≡ slice_index e.frame j) k
        (ap (λ (f : List ℕ). slice_index f n) (set packet v) ∙ new_byte packet v e range run left some (cases_lt n (length (with_bytes v packet.frame frame))))

-- ---- the answer

pub answered : (a b c d : List CellView) (exits : List Exit) (window : List ℕ) (verdict target : ℕ) (frame : List FrameByte) → OutputsWithin a b exits Verdict verdict → OutputsWithin b c exits Target target → AreFrameBytes c d exits window 256 frame
    → Answers a d exits verdict target frame
answered a b c d exits window verdict target frame first second third = record {
  grows = grown first.grows (grown second.grows third.grows);
  no_row = no_row_then a c d third.grows (no_row_then a b c second.grows first.no_row second.no_row) third.no_row;
  verdict_is = bits_later b d 32 verdict (grown second.grows third.grows) first.is;
  target_is = bits_later c d 32 target third.grows second.is;
  bytes = third.bytes;
  ascending = third.ascending;
  leaves = λ packet v e is range run left some. (
    first.value packet v e.verdict (second.grows.run packet v (third.grows.run packet v run)) some (λ i x l o. sym (left i x l o).verdict) range.verdict,
    second.value packet v e.target (third.grows.run packet v run) some (λ i x l o. sym (left i x l o).target) range.target,
    same_number_lists (with_bytes v packet.frame frame) e.frame (third.size packet v ∙ sym (left_at packet v exits e some left).length_is)
        (λ i l. at packet v e is range run left some i (cases_lt i 256)),
  );
}
  where
    at : (packet : PacketIn) (v : ℕ → ℕ) (e : Leaves) → IsPacket packet → LeavesInRange e → IsRun packet d v → All (λ x. on (v x.guard) ≡ true → IsLeft packet v x e) exits → SomeEnds v exits → (i : ℕ) → (i < 256) ⊎ (256 ≤ i)
        → slice_index (with_bytes v packet.frame frame) i ≡ slice_index e.frame i
    at packet v e is range run left some i (inl l) = third.each packet v e i l is range run left some
    at packet v e is range run left some i (inr l) = third.rest packet v i l ∙ sym ((left_at packet v exits e some left).rest i l)
