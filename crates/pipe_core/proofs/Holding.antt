-- A packet whose reads on the path are as they would be made holds what it finds over all its earlier operations.
use Rattle.std.proofs.Common.{◌≡◌, ℕ, ℤ, suc, ◌+◌, ◌<◌, Bool, true, false, List, [], ◌∷◌, Some, None, length, refl, sym, ap, ◌∙◌, subst, arith, not}
use Rattle.std.specs.Prelude.{if◌then◌else◌, nat_lt, nat_le, ◌==◌, ◌&&◌, ◌%◌, ◌^◌, map as map_list}
use Rattle.std.specs.List.{list_all}
use Rattle.std.specs.Int.{w64, cast_unsigned}
use Rattle.std.proofs.Math.Nat.{zero-mod, zero-div}
use Rattle.std.proofs.lemmas.Bool.{and_parts}
use Rattle.std.proofs.lemmas.List.Sums.{passes_at_first}
use Rattle.hazard_core.specs.xdp_maps.declared.decl.MapDecl.{MapDecl}
use Rattle.hazard_core.specs.xdp_maps.declared.decl.MapKind.{MapKind}
use Rattle.hazard_core.specs.xdp_maps.declared.decl.MapKind.TheVariants.{Hash, Array}
use Rattle.hazard_core.specs.xdp_maps.declared.errno.TheConstants.{ENOENT, E2BIG, EEXIST, EINVAL}
use Rattle.hazard_core.specs.xdp_maps.Calls.{number_of}
use Rattle.hazard_core.specs.xdp_machine.State.{PacketIn}
use Rattle.hazard_core.specs.cell_core.declared.operator.Operator.TheVariants.{Found, Answer}
use Rattle.hazard_core.specs.cell_core.declared.site.Act.{Act}
use Rattle.hazard_core.specs.cell_core.declared.site.Act.TheVariants as act
use Rattle.hazard_core.specs.cell_core.Cells.{cell_at, no_cell, site_in, bits_from, bit, on}
use Rattle.hazard_core.specs.cell_core.Sites.{ProgramView, site_at, operation_with}
use Rattle.hazard_core.specs.Tables.{TableState, decl_of}
use Rattle.hazard_core.specs.StageValues.{StageValues, is_null, stage_value, pointer_in, guard_on, is_found_of, is_answer_of, found_cell, answer_cell, writes_as, pending}
use Rattle.hazard_core.specs.Overlay.{found_pointer, update_answer, delete_answer, answer_as, answer_over}
use Rattle.hazard_core.specs.Rows.{cell_number, cell_pointer}
use Rattle.hazard_core.specs.Replay.{earlier, HoldsReads, says_done, SeesEarlier}
use Rattle.hazard_core.proofs.ActsLaws.{recorded}
use Rattle.hazard_core.proofs.HeldLaws.{answer_is, found_is}
use Rattle.pipe_core.specs.Machine.{Packet, Build}
use Rattle.pipe_core.specs.Agreement.{Agrees, excused_as}
use Rattle.pipe_core.specs.Pipeable.{FitsReads, IsOwn, IsPipelinable}
use Rattle.pipe_core.specs.Agreed.{IsPathMade}

-- ---- what a cell keeps of an answer

no_bits : (from width : ℕ) → bits_from 0 from width ≡ 0
no_bits from width = ap (λ n. n % 2 ^ width) (zero-div (2 ^ from)) ∙ zero-mod (2 ^ width)

-- an answer that is 0 or an error is kept as 0 only where it is 0
told_as : (from width : ℕ) (e : ℤ) → not (bits_from (cast_unsigned w64 e) from width == 0) ≡ true → (cast_unsigned w64 e == 0) ≡ false → (bits_from (cast_unsigned w64 e) from width == 0) ≡ (cast_unsigned w64 e == 0)
told_as from width e kept some = by (bits_from (cast_unsigned w64 e) from width == 0) kept ∙ sym some
  where
    by : (c : Bool) → not c ≡ true → c ≡ false
    by true e = cc
    by false e = refl

pub told_none : (from width : ℕ) → (bits_from (cast_unsigned w64 (number_of None)) from width == 0) ≡ (cast_unsigned w64 (number_of None) == 0)
told_none from width = ap (λ n. n == 0) (no_bits from width)

abbrev pub Told : ℕ → ℕ → ℕ → Type 0
Told from width n = (bits_from n from width == 0) ≡ (n == 0)

pub record ErrorsTold (from width : ℕ) : Type 0 where
  pub inval : Told from width (cast_unsigned w64 EINVAL)
  pub exist : Told from width (cast_unsigned w64 EEXIST)
  pub absent : Told from width (cast_unsigned w64 ENOENT)
  pub big : Told from width (cast_unsigned w64 E2BIG)

pub errors_told : (from width : ℕ) → list_all (λ e. not (bits_from (cast_unsigned w64 e) from width == 0)) (EINVAL ∷ EEXIST ∷ ENOENT ∷ E2BIG ∷ []) ≡ true → ErrorsTold from width
errors_told from width all =
    let keeps : ℤ → Bool = λ e. not (bits_from (cast_unsigned w64 e) from width == 0) in
    let a = and_parts (keeps EINVAL) (list_all keeps (EEXIST ∷ ENOENT ∷ E2BIG ∷ [])) all in
    let b = and_parts (keeps EEXIST) (list_all keeps (ENOENT ∷ E2BIG ∷ [])) a.1 in
    let c = and_parts (keeps ENOENT) (list_all keeps (E2BIG ∷ [])) b.1 in
    let d = and_parts (keeps E2BIG) (list_all keeps []) c.1 in
    record {
      inval = told_as from width EINVAL a.0 refl;
      exist = told_as from width EEXIST b.0 refl;
      absent = told_as from width ENOENT c.0 refl;
      big = told_as from width E2BIG d.0 refl;
    }

pub told_hash : (from width : ℕ) → ErrorsTold from width → (a b c d : Bool) → Told from width (cast_unsigned w64 (number_of (if a then Some EINVAL else if b then Some EEXIST else if c then Some ENOENT else if d then Some E2BIG else None)))
told_hash from width t true b c d = t.inval
told_hash from width t false true c d = t.exist
told_hash from width t false false true d = t.absent
told_hash from width t false false false true = t.big
told_hash from width t false false false false = told_none from width

pub told_array : (from width : ℕ) → ErrorsTold from width → (a b c : Bool) → Told from width (cast_unsigned w64 (number_of (if a then Some EINVAL else if b then Some E2BIG else if c then Some EEXIST else None)))
told_array from width t true b c = t.inval
told_array from width t false true c = t.big
told_array from width t false false true = t.exist
told_array from width t false false false = told_none from width

told_update : (from width : ℕ) → ErrorsTold from width → (k : MapKind) (d : MapDecl) (plus minus : ℕ) (present : Bool) (key : List ℕ) (flags : ℕ) → Told from width (cast_unsigned w64 (update_answer k d plus minus present key flags))
told_update from width t Hash d plus minus present key flags = told_hash from width t (nat_lt 2 flags) ((flags == 1) && present) ((flags == 2) && not present) (not present && nat_le (d.cap + minus) plus)
told_update from width t Array d plus minus present key flags = told_array from width t (nat_lt 2 flags) _ (flags == 1)

told_delete : (from width : ℕ) → ErrorsTold from width → (k : MapKind) (present : Bool) → Told from width (cast_unsigned w64 (delete_answer k present))
told_delete from width t Hash true = told_none from width
told_delete from width t Hash false = t.absent
told_delete from width t Array present = t.inval

-- an answer of a site that says whether it was done
told_answer : (from width : ℕ) → ErrorsTold from width → (p : ProgramView) (t : TableState) (h : StageValues) (before : List ℕ) (j : ℕ) → says_done (site_at p.sites j).act (decl_of t.decls (site_at p.sites j).map).kind ≡ true → Told from width (answer_over p t h before j)
told_answer from width told p t h before j says = by (site_at p.sites j).act refl (decl_of t.decls (site_at p.sites j).map).kind says
  where
    answered : Act → ℕ
    answered a = answer_as a (operation_with (decl_of t.decls (site_at p.sites j).map) a (map_list (stage_value h) (site_at p.sites j).key) (map_list (stage_value h) (site_at p.sites j).operands)) p t h before j

    by : (a : Act) → (site_at p.sites j).act ≡ a → (k : MapKind) → says_done (site_at p.sites j).act k ≡ true → Told from width (answer_over p t h before j)
    by act.Update is k s =
        subst (λ (a : Act). Told from width (answered a)) (sym is)
        (told_update from width told (decl_of t.decls (site_at p.sites j).map).kind (decl_of t.decls (site_at p.sites j).map) _ _ _ _ _)
    by act.Delete is k s = subst (λ (a : Act). Told from width (answered a)) (sym is) (told_delete from width told (decl_of t.decls (site_at p.sites j).map).kind _)
    by act.Lookup is k s = absurd (no (sym (ap (λ (a : Act). says_done a k) is) ∙ s))
      where
        no : false ≡ true → ⊥
        no e = cc
    by (act.Load at size) is k s = absurd (no (sym (ap (λ (a : Act). says_done a k) is) ∙ s))
      where
        no : false ≡ true → ⊥
        no e = cc
    by (act.Store at size) is k s = absurd (no (sym (ap (λ (a : Act). says_done a k) is) ∙ s))
      where
        no : false ≡ true → ⊥
        no e = cc
    by (act.Atomic at x) is k s = absurd (no (sym (ap (λ (a : Act). says_done a k) is) ∙ s))
      where
        no : false ≡ true → ⊥
        no e = cc

-- ---- the reads of a packet

pub own_cells : (b : Build) (t : TableState) (packet : PacketIn) (x : Packet) → Agrees b t packet (suc b.plan.commit) x → IsOwn b t packet x.held
own_cells b t packet x a c l low none = a.each c l (omega (arith, low)) (ap (λ o. excused_as b (suc b.plan.commit) x o) none)

module _ (seen : SeesEarlier) (b : Build) (t : TableState) (packet : PacketIn) (x : Packet) (fit : IsPipelinable t.decls b) (own : IsOwn b t packet x.held) (fits : FitsReads b x.held) (path : IsPathMade b t packet x) where
  abbrev p : ProgramView
  p = b.program

  abbrev h : StageValues
  h = x.held

  pub both_seen : (c j : ℕ) → c < length b.program.cells → site_in (cell_at b.program.cells c).op ≡ Some j → guard_on x.held (site_at b.program.sites j) ≡ true →
      (found_pointer b.program t x.held (pending b.program b.plan.row (b.plan.row c) j) j ≡ found_pointer b.program t x.held (earlier b.program j) j)
      × (answer_over b.program t x.held (pending b.program b.plan.row (b.plan.row c) j) j ≡ answer_over b.program t x.held (earlier b.program j) j)
  both_seen c j l e guard = seen p b.plan.row (b.plan.row c) j t h (λ i before same w.
      let s = site_at p.sites i in
      let q = and_parts (guard_on h s) (writes_as s.act (decl_of t.decls s.map).kind (stage_value h (answer_cell p.cells i))) w in
      fit.sees t packet h refl own fits c j i l e before same (recorded s.act (decl_of t.decls s.map).kind (stage_value h (answer_cell p.cells i)) q.1) q.0 guard)

  found_op : (j : ℕ) → found_cell b.program.cells j < length b.program.cells → (cell_at b.program.cells (found_cell b.program.cells j)).op ≡ Found j
  found_op j l = found_is j (cell_at p.cells (found_cell p.cells j)).op (passes_at_first (λ d. is_found_of j d.op) p.cells no_cell l)

  answer_op : (j : ℕ) → answer_cell b.program.cells j < length b.program.cells → (cell_at b.program.cells (answer_cell b.program.cells j)).op ≡ Answer j
  answer_op j l = answer_is j (cell_at p.cells (answer_cell p.cells j)).op (passes_at_first (λ d. is_answer_of j d.op) p.cells no_cell l)

  pub holds_reads : HoldsReads b.program t x.held
  holds_reads = record {
    found = λ j l guard a.
        let c = found_cell p.cells j in
        let m = fit.found j l a in
        let o = found_op j m in
        let s : site_in (cell_at p.cells c).op ≡ Some j = ap site_in o in
        (path c j m s guard).pointer ∙ ap (cell_pointer p b.plan.row (b.plan.row c) t h (cell_at p.cells c)) o ∙ (both_seen c j m s guard).0;
    absent = λ j l guard a none.
        let c = found_cell p.cells j in
        let d = cell_at p.cells c in
        let m = fit.found j l a in
        let o = found_op j m in
        let s : site_in (cell_at p.cells c).op ≡ Some j = ap site_in o in
        let made = path c j m s guard in
        let at : pointer_in h c ≡ found_pointer p t h (pending p b.plan.row (b.plan.row c) j) j = made.pointer ∙ ap (cell_pointer p b.plan.row (b.plan.row c) t h d) o in
        let value : stage_value h c ≡ 0 =
        made.value ∙ ap (λ q. bits_from (cell_number p b.plan.row (b.plan.row c) t packet h d q) d.from d.width) o
        ∙ ap (λ q. bits_from (bit (not (is_null q))) d.from d.width) (sym at) ∙ ap (λ z. bits_from (bit (not z)) d.from d.width) none ∙ no_bits d.from d.width in
        ap on value;
    done = λ j l guard says.
        let c = answer_cell p.cells j in
        let d = cell_at p.cells c in
        let tell = fit.tells j l says in
        let o = answer_op j tell.in_range in
        let s : site_in (cell_at p.cells c).op ≡ Some j = ap site_in o in
        let value : stage_value h c ≡ bits_from (answer_over p t h (earlier p j) j) d.from d.width =
        (path c j tell.in_range s guard).value ∙ ap (λ q. bits_from (cell_number p b.plan.row (b.plan.row c) t packet h d q) d.from d.width) o
        ∙ ap (λ n. bits_from n d.from d.width) (both_seen c j tell.in_range s guard).1 in
        ap (λ n. n == 0) value ∙ told_answer d.from d.width (errors_told d.from d.width tell.errors) p t h (earlier p j) j says;
    accesses = λ j l guard a. fit.accesses t packet h refl own fits j l guard a;
  }
