-- What is committed is what the runs of the packets write.
use Rattle.std.proofs.Common.{◌≡◌, ℕ, zero, suc, ◌+◌, ◌<◌, ◌≤◌, Bool, true, false, List, [], ◌∷◌, ◌++◌, Some, None, length, take, refl, sym, ap, ◌∙◌, subst, arith, not}
use Rattle.std.specs.Prelude.{if◌then◌else◌, nat_lt, nat_le, ◌&&◌, ◌==◌, map as map_list, is_some}
use Rattle.std.specs.Int.{w64, cast_unsigned}
use Rattle.std.specs.FinMap as finite
use Rattle.std.proofs.lemmas.Bool.{and_parts}
use Rattle.std.proofs.lemmas.Bool.Decides.{nat_tests}
use Rattle.std.proofs.lemmas.List.Sums.{passes_at_first}
use Rattle.hazard_core.specs.xdp_maps.declared.decl.MapDecl.{MapDecl}
use Rattle.hazard_core.specs.xdp_maps.declared.decl.MapKind.{MapKind}
use Rattle.hazard_core.specs.xdp_maps.declared.decl.MapKind.TheVariants.{Hash, Array}
use Rattle.hazard_core.specs.xdp_maps.declared.errno.TheConstants.{ENOENT}
use Rattle.hazard_core.specs.xdp_maps.Contents.{Contents, index_of}
use Rattle.hazard_core.specs.xdp_maps.State.{MapState, decl_at, contents_at}
use Rattle.hazard_core.specs.xdp_maps.Calls.{lookup_of, number_of, update_number, update_error_as, delete_number, delete_error_as}
use Rattle.hazard_core.specs.xdp_maps.Touched.{Present, Content, Size, where_done, update_writes, writes as resources_written}
use Rattle.hazard_core.specs.xdp_machine.State.{PacketIn}
use Rattle.hazard_core.specs.xdp_machine.Touched.{Touched, nothing, touched_by, counted}
use Rattle.hazard_core.specs.cell_core.declared.operator.Operator.TheVariants.{Answer}
use Rattle.hazard_core.specs.cell_core.declared.site.Act.{Act}
use Rattle.hazard_core.specs.cell_core.declared.site.Act.TheVariants as act
use Rattle.hazard_core.specs.cell_core.Cells.{cell_at, no_cell, site_in, bits_from, bit, on}
use Rattle.hazard_core.specs.cell_core.Sites.{SiteView, ProgramView, site_at, bytes_of, operation_with, operation_on, applied, after, answer_as, read_on, touched, IsCellRun}
use Rattle.hazard_core.specs.Tables.{decl_of}
use Rattle.hazard_core.specs.StageValues.{StageValues, stage_value, guard_on, is_answer_of, answer_cell, writes_as, writes}
use Rattle.hazard_core.specs.Replay.{says_done}
use Rattle.realization.specs.beat_core.Ports.{Arrival}
use Rattle.hazard_core.proofs.HeldLaws.{answer_is}
use Rattle.pipe_core.specs.Machine.{Build, packet_of}
use Rattle.pipe_core.specs.Pipeable.{IsPipelinable}
use Rattle.pipe_core.specs.Sequential.{AreCellRuns}
use Rattle.realization.specs.Bounds.{all_writing}
use Rattle.pipe_core.specs.Apart.{AllRun}
use Rattle.pipe_core.proofs.Holding.{Told, ErrorsTold, errors_told, told_hash, told_array, told_none}
use Rattle.pipe_core.proofs.Resources.{update_none, delete_there}
use Rattle.pipe_core.proofs.Elsewhere.{applied_decls}

-- ---- how many operations of a packet write, below one site and from one on

abbrev pub made : ProgramView → List MapDecl → StageValues → ℕ → ℕ
made p decls h zero = 0
made p decls h (suc d) = made p decls h d + bit (writes p decls h d)

pub made_more : (p : ProgramView) (decls : List MapDecl) (h : StageValues) (d e : ℕ) → d ≤ e → made p decls h d ≤ made p decls h e
made_more p decls h d zero l = let e : 0 ≡ d = omega (arith, l) in subst (λ n. made p decls h n ≤ 0) e (omega arith)
made_more p decls h d (suc e) l = by (nat_le d e) refl (made_more p decls h d e)
  where
    by : (b : Bool) → nat_le d e ≡ b → (d ≤ e → made p decls h d ≤ made p decls h e) → made p decls h d ≤ made p decls h e + bit (writes p decls h e)
    by true q more = let m : d ≤ e = at_most q in omega (arith, more m)
      where
        at_most : nat_le d e ≡ true → d ≤ e
        at_most q = grind (arith, nat_tests)
    by false q more = let m : e < d = above q in let same : d ≡ suc e = omega (arith, m, l) in subst (λ n. made p decls h n ≤ made p decls h (suc e)) (sym same) (omega arith)
      where
        above : nat_le d e ≡ false → e < d
        above q = grind (arith, nat_tests)

-- one that writes counts
pub made_one : (p : ProgramView) (decls : List MapDecl) (h : StageValues) (d j : ℕ) → d ≤ j → writes p decls h j ≡ true → made p decls h d + 1 ≤ made p decls h (suc j)
made_one p decls h d j l w = let e : bit (writes p decls h j) ≡ 1 = ap bit w in omega (arith, made_more p decls h d j l, e)

-- from site j on, as many
abbrev from_on : ProgramView → List MapDecl → StageValues → ℕ → ℕ → ℕ
from_on p decls h j zero = 0
from_on p decls h j (suc n) = bit (writes p decls h j) + from_on p decls h (suc j) n

made_split : (p : ProgramView) (decls : List MapDecl) (h : StageValues) (j n : ℕ) → made p decls h (j + n) ≡ made p decls h j + from_on p decls h j n
made_split p decls h j zero = let e : j + 0 ≡ j = omega arith in let f : made p decls h j ≡ made p decls h j + 0 = omega arith in ap (made p decls h) e ∙ f
made_split p decls h j (suc n) =
    let e : j + suc n ≡ suc j + n = omega arith in
    let f : made p decls h (suc j + n) ≡ made p decls h j + from_on p decls h j (suc n) = omega (arith, made_split p decls h (suc j) n) in
    ap (made p decls h) e ∙ f

-- ---- of a run

-- what the operation of a site writes, if its guard is on
abbrev writing_at : (ℕ → ℕ) → MapState → SiteView → ℕ
writing_at v m s = (if on (v s.guard) then touched_by m (Some (s.map, operation_on v m s)) else nothing).writing

writes_touched : (p : ProgramView) (decls : List MapDecl) (h : StageValues) (j : ℕ) (maps : MapState) (ss : List SiteView) → ((i : ℕ) → i < length ss → bit (writes p decls h (j + i)) ≤ writing_at (stage_value h) (after (stage_value h) maps (take i ss)) (site_at ss i)) →
    from_on p decls h j (length ss) ≤ (touched (stage_value h) maps ss).writing
writes_touched p decls h j maps [] each = omega arith
writes_touched p decls h j maps (s ∷ ss) each =
    let here : bit (writes p decls h j) ≤ writing_at (stage_value h) maps s = subst (λ n. bit (writes p decls h n) ≤ writing_at (stage_value h) maps s) (omega arith) (each 0 (omega arith)) in
    let more = writes_touched p decls h (suc j) (applied (stage_value h) maps s) ss
    (λ i l. subst (λ n. bit (writes p decls h n) ≤ writing_at (stage_value h) (after (stage_value h) (applied (stage_value h) maps s) (take i ss)) (site_at ss i)) (omega arith) (each (suc i) (omega (arith, l)))) in
    omega (arith, here, more)

after_decls : (v : ℕ → ℕ) (maps : MapState) (ss : List SiteView) → (after v maps ss).decls ≡ maps.decls
after_decls v maps [] = refl
after_decls v maps (s ∷ ss) = after_decls v (applied v maps s) ss ∙ applied_decls v maps s

update_counts : (q : ℕ) (d : MapDecl) (c : Contents) (key : List ℕ) (flags : ℕ) → (cast_unsigned w64 (update_number d c key flags) == 0) ≡ true → counted (where_done (update_number d c key flags) (update_writes q key (is_some (lookup_of c key)))) ≡ 1
update_counts q d c key flags z = ap (λ e. counted (where_done (number_of e) (update_writes q key (is_some (lookup_of c key))))) (update_none d c key flags z) ∙ by (is_some (lookup_of c key))
  where
    by : (b : Bool) → counted (update_writes q key b) ≡ 1
    by true = refl
    by false = refl

update_told : (from width : ℕ) → ErrorsTold from width → (d : MapDecl) (c : Contents) (key : List ℕ) (flags : ℕ) → Told from width (cast_unsigned w64 (update_number d c key flags))
update_told from width t d c key flags = by d.kind
  where
    by : (k : MapKind) → Told from width (cast_unsigned w64 (number_of (update_error_as k d c key flags)))
    by Hash = told_hash from width t (nat_lt 2 flags) ((flags == 1) && finite.contains_key c key) ((flags == 2) && not (finite.contains_key c key)) (not (finite.contains_key c key) && nat_le d.cap (finite.len c))
    by Array = told_array from width t (nat_lt 2 flags) (nat_le d.cap (index_of key)) (flags == 1)

delete_told : (from width : ℕ) → ErrorsTold from width → (d : MapDecl) (c : Contents) (key : List ℕ) → Told from width (cast_unsigned w64 (delete_number d c key))
delete_told from width t d c key = by d.kind
  where
    hash : (b : Bool) → Told from width (cast_unsigned w64 (number_of (if b then None else Some ENOENT)))
    hash true = told_none from width
    hash false = t.absent

    by : (k : MapKind) → Told from width (cast_unsigned w64 (number_of (delete_error_as k c key)))
    by Hash = hash (finite.contains_key c key)
    by Array = t.inval

module _ (b : Build) (maps : MapState) (fit : IsPipelinable maps.decls b) (packet : PacketIn) (h : StageValues) (m : MapState) (same : m.decls ≡ maps.decls) (run : IsCellRun packet m b.program (stage_value h)) where
  -- what a site that says whether it was done answered
  answered : (j : ℕ) → j < length b.program.sites → says_done (site_at b.program.sites j).act (decl_of maps.decls (site_at b.program.sites j).map).kind ≡ true → on (stage_value h (site_at b.program.sites j).guard) ≡ true →
      (stage_value h (answer_cell b.program.cells j) == 0) ≡ true → (n : ℕ) → read_on (stage_value h) (after (stage_value h) m (take j b.program.sites)) (site_at b.program.sites j) (Answer j) ≡ n →
      ((from width : ℕ) → ErrorsTold from width → Told from width n) → (n == 0) ≡ true
  answered j l says is zeroed n reads told =
      let p = b.program in
      let c = answer_cell p.cells j in
      let d = cell_at p.cells c in
      let tell = fit.tells j l says in
      let o : d.op ≡ Answer j = answer_is j d.op (passes_at_first (λ x. is_answer_of j x.op) p.cells no_cell tell.in_range) in
      let value : stage_value h c ≡ bits_from n d.from d.width =
      (run.each c tell.in_range).answers j (ap site_in o) is
      ∙ ap (λ op. bits_from (read_on (stage_value h) (after (stage_value h) m (take j p.sites)) (site_at p.sites j) op) d.from d.width) o ∙ ap (λ x. bits_from x d.from d.width) reads in
      sym (told d.from d.width (errors_told d.from d.width tell.errors)) ∙ ap (λ x. x == 0) (sym value) ∙ zeroed

  module _ (j : ℕ) (l : j < length b.program.sites) where
    abbrev s : SiteView
    s = site_at b.program.sites j

    abbrev here : MapState
    here = after (stage_value h) m (take j b.program.sites)

    written : Act → ℕ
    written a = counted (resources_written here s.map (operation_with (decl_at here s.map) a (map_list (stage_value h) s.key) (map_list (stage_value h) s.operands)))

    answer_by : Act → ℕ
    answer_by a = answer_as a (decl_at here s.map) (contents_at here s.map) (operation_with (decl_at here s.map) a (map_list (stage_value h) s.key) (map_list (stage_value h) s.operands))

    counts_as : (a : Act) → s.act ≡ a → (k : MapKind) → (decl_of maps.decls s.map).kind ≡ k → on (stage_value h s.guard) ≡ true → writes_as a k (stage_value h (answer_cell b.program.cells j)) ≡ true → written a ≡ 1
    unfolding written answer_by
    counts_as act.Update is k kind guard w =
        update_counts s.map (decl_at here s.map) (contents_at here s.map) _ _
        (answered j l (ap (λ a. says_done a (decl_of maps.decls s.map).kind) is) guard w (answer_by act.Update) (ap answer_by is) (λ from width t. update_told from width t (decl_at here s.map) (contents_at here s.map) _ _))
    counts_as act.Delete is Hash kind guard w =
        let z = answered j l (ap (λ a. says_done a (decl_of maps.decls s.map).kind) is ∙ ap (says_done act.Delete) kind) guard w (answer_by act.Delete) (ap answer_by is) (λ from width t. delete_told from width t (decl_at here s.map) (contents_at here s.map) _) in
        let key = bytes_of (decl_at here s.map).key (map_list (stage_value h) s.key) in
        ap (λ e. counted (where_done (number_of e) (Content s.map key ∷ Present s.map key ∷ Size s.map ∷ []))) (delete_there (decl_at here s.map) (contents_at here s.map) key z).0
    counts_as act.Delete is Array kind guard w = cc
    counts_as act.Lookup is k kind guard w = cc
    counts_as (act.Load at size) is k kind guard w = cc
    counts_as (act.Store at size) is k kind guard w = refl
    counts_as (act.Atomic at a) is k kind guard w = refl

    counts : bit (writes b.program maps.decls h j) ≤ writing_at (stage_value h) (after (stage_value h) m (take j b.program.sites)) (site_at b.program.sites j)
    unfolding written
    counts = by (writes b.program maps.decls h j) refl
      where
        by : (c : Bool) → writes b.program maps.decls h j ≡ c → bit c ≤ writing_at (stage_value h) here s
        by false e = omega arith
        by true e =
            let q = and_parts (guard_on h s) (writes_as s.act (decl_of maps.decls s.map).kind (stage_value h (answer_cell b.program.cells j))) e in
            let one : written s.act ≡ 1 = counts_as s.act refl (decl_of maps.decls s.map).kind refl q.0 q.1 in
            subst (λ (g : Bool). 1 ≤ (if g then touched_by here (Some (s.map, operation_on (stage_value h) here s)) else nothing).writing) (sym q.0) (omega (arith, one))

  pub made_touched : made b.program maps.decls h (length b.program.sites) ≤ (touched (stage_value h) m b.program.sites).writing
  made_touched =
      let p = b.program in
      let n : 0 + length p.sites ≡ length p.sites = omega arith in
      let all = ap (made p maps.decls h) n in
      let each = writes_touched p maps.decls h 0 m p.sites
      (λ i l. let e : i ≡ 0 + i = omega arith in subst (λ k. bit (writes p maps.decls h k) ≤ writing_at (stage_value h) (after (stage_value h) m (take i p.sites)) (site_at p.sites i)) e (counts i l)) in
      omega (arith, made_split p maps.decls h 0 (length p.sites), all, each)

-- ---- of all that left

abbrev pub left_made : ProgramView → List MapDecl → List StageValues → ℕ
left_made p decls [] = 0
left_made p decls (h ∷ hs) = made p decls h (length p.sites) + left_made p decls hs

pub left_append : (p : ProgramView) (decls : List MapDecl) (hs gs : List StageValues) → left_made p decls (hs ++ gs) ≡ left_made p decls hs + left_made p decls gs
left_append p decls [] gs = omega arith
left_append p decls (h ∷ hs) gs = omega (arith, left_append p decls hs gs)

pub record Runs (b : Build) (decls : List MapDecl) (m : MapState) (hs : List StageValues) (cs : List Arrival) : Type 0 where
  pub ts : List Touched
  pub run : AllRun b.program m cs ts
  pub enough : left_made b.program decls hs ≤ all_writing ts

pub all_run : (b : Build) (maps : MapState) → IsPipelinable maps.decls b → (m last : MapState) → m.decls ≡ maps.decls → (hs : List StageValues) (cs : List Arrival) → length hs ≡ length cs → AreCellRuns b.program m hs cs last → Runs b maps.decls m hs cs
all_run b maps fit m last same [] [] long runs = record { ts = []; run = tt; enough = omega arith }
all_run b maps fit m last same [] (c ∷ cs) long runs = absurd (omega (arith, long))
all_run b maps fit m last same (h ∷ hs) [] long runs = absurd (omega (arith, long))
all_run b maps fit m last same (h ∷ hs) (c ∷ cs) long runs =
    let v = stage_value h in
    let r = all_run b maps fit (after v m b.program.sites) last (after_decls v m b.program.sites ∙ same) hs cs (omega (arith, long)) runs.1 in
    record {
      ts = touched v m b.program.sites ∷ r.ts;
      run = (v, runs.0, refl, r.run);
      enough = omega (arith, r.enough, made_touched b maps fit (packet_of c) h m same runs.0);
    }
