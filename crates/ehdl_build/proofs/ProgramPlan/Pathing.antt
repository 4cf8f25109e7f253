-- What a packet holds of the operations on its path, by the law of the completed run.
use Rattle.std.proofs.Common.{◌≡◌, ℕ, suc, ◌<◌, ◌≤◌, Bool, true, false, Some, List, length, get_or, refl, sym, ap, ◌∙◌, arith, inl, inr, map as map_list}
use Rattle.std.specs.Prelude.{All, Contains, ◌⊎◌, slice_index, nat_lt, ◌&&◌}
use Rattle.std.specs.List.{list_all}
use Rattle.std.proofs.lemmas.Bool.{cases_lt, lt-ltb}
use Rattle.std.proofs.lemmas.List.{get_or_past}
use Rattle.std.proofs.lemmas.Option.{slice_get-get_or}
use Rattle.std.proofs.lemmas.List.Elements.{All-contains, All-contains_itself, Contains-append_cases}
use Rattle.std.proofs.lemmas.List.Sums.{list_all-from_AllPass}
use Rattle.beat_core.proofs.list_laws_laws.ListLaws.{map_alike}
use Rattle.xdp_object.specs.xdp_maps.declared.decl.MapDecl.{MapDecl}
use Rattle.xdp_object.specs.xdp_maps.declared.decl.MapKind.TheVariants.{Hash}
use Rattle.xdp_object.specs.xdp_maps.State.{no_decl}
use Rattle.xdp_object.specs.xdp_machine.State.{PacketIn}
use Rattle.kind_core.specs.Kinds.{key_bytes, key_in, is_hash, is_hash_kind, hash_in}
use Rattle.hazard_core.specs.cell_core.Acts.{is_access}
use Rattle.hazard_core.specs.cell_core.Cells.{CellView, cell_at, site_in, on}
use Rattle.hazard_core.specs.cell_core.Sites.{SiteView, ProgramView, no_site, site_at, records, bytes_of}
use Rattle.hazard_core.specs.cell_core.Formed.{IsBelow}
use Rattle.hazard_core.specs.cell_core.Rows.{taken_by}
use Rattle.operator_cells.specs.HeldCells.Paths.{GraphView}
use Rattle.operator_cells.specs.HeldCells.Law.{IsLaidOut, IsLaw, no_made, made_at}
use Rattle.operator_cells.specs.HeldCells.Pointing.{IsFoundOf}
use Rattle.operator_cells.specs.HeldCells.Reading.{BelongsTo, RowsStandBehind}
use Rattle.hazard_core.specs.Tables.{decl_of}
use Rattle.hazard_core.specs.StageValues.{StageValues, stage_value, pointer_in, guard_on, asked_key, found_cell, read_cells, parts}
use Rattle.hazard_core.specs.Replay.{IsAccess}
use Rattle.hazard_core.proofs.ActsLaws.{key_is}
use Rattle.hazard_core.proofs.cell_core_laws.RowLaws.{greatest_above}
use Rattle.row_plan.specs.Plan.{Plan, IsPlan}
use Rattle.ehdl_build.specs.ProgramPlan.Pipelinable.{build_of}
use Rattle.ehdl_build.proofs.ProgramPlan.Operators.{heavy_of_site, changes, goes_by}
use Rattle.ehdl_build.proofs.ProgramPlan.Planning.{site_early, read_early}
use Rattle.ehdl_build.proofs.ProgramPlan.Reading.{IsRead, found_there, found_reads, reads_are}
use Rattle.ehdl_build.proofs.ProgramPlan.Completing.{IsCompleted, pointer_code, pointers_same}

-- ---- maps and cells by their numbers

key_bytes_is : (decls : List MapDecl) (q : ℕ) → q < length decls → key_bytes decls q ≡ (decl_of decls q).key
key_bytes_is decls q l = ap key_in (slice_get-get_or decls q no_decl l)

hash_is : (decls : List MapDecl) (q : ℕ) → q < length decls → (decl_of decls q).kind ≡ Hash → is_hash decls q ≡ true
hash_is decls q l e = ap hash_in (slice_get-get_or decls q no_decl l) ∙ ap is_hash_kind e

first_of : (x y : Bool) → (x && y) ≡ true → x ≡ true
first_of true y e = refl
first_of false y e = e

only_found : (cells : List CellView) (j c : ℕ) → IsFoundOf cells j c → found_cell cells j ≡ c
only_found cells j c f = let l = found_there cells j c f.there f.is in f.only (found_cell cells j) l (found_reads cells j l)

belongs : (cells : List CellView) (i : ℕ) (s : SiteView) (x : ℕ) → Contains (taken_by s) x ⊎ Contains (read_cells cells i) x → BelongsTo cells i s x
belongs cells i s x (inl taken) = inl taken
belongs cells i s x (inr read) = let r = All-contains (IsRead cells i) (read_cells cells i) x (reads_are cells i) read in inr (r.there, r.site)

-- Sites take cells that there are.
pub below_there : (g : GraphView) (p : ProgramView) → IsLaidOut g p → (j : ℕ) → j < length p.sites → (n : ℕ) × (n ≤ length p.cells) × IsBelow n (site_at p.sites j)
below_there g p laid j l =
    let s = site_at p.sites j in (
      (made_at p.nodes s.node).end,
      elim (cases_lt s.node (length p.nodes)) [
        | inl there ↦ (laid.inside s.node there).2
        | inr past ↦ let e = ap (λ m. m.end) (get_or_past p.nodes s.node no_made past) in omega (arith, e)
      ],
      laid.below j no_site l,
    )

module _ (g : GraphView) (p : ProgramView) (plan : Plan) (slots : ℕ) (law : IsLaw g p) (is : IsPlan p plan) (packet : PacketIn) (h : StageValues) (made : IsCompleted pointer_code (build_of p plan slots) packet h (suc plan.commit)) where
  abbrev row : ℕ → ℕ
  row = slice_index plan.rows

  -- The run has what the packet holds of all that a site takes.
  record SameSite (s : SiteView) : Type 0 where
    guard : on (made.v s.guard) ≡ guard_on h s
    key : map_list made.v s.key ≡ map_list (stage_value h) s.key
    operands : All (λ c. (c < length p.cells) × (row c < suc plan.commit)) s.operands

  same_site : (j : ℕ) → j < length p.sites → SameSite (site_at p.sites j)
  same_site j l =
      let s = site_at p.sites j in
      let early = site_early p plan is j l in
      let q = below_there g p law.computes.laid j l in
      let few = q.1 in
      let below = q.2 in
      let low = early.key in
      let high = early.operands in
      let first = early.guard in
      record {
        guard = ap on (made.value s.guard (omega (arith, below.guard, few)) (omega (arith, first)));
        key = map_alike made.v (stage_value h) s.key (λ k d lt.
            let there = below.key k d lt in
            let up = greatest_above row s.key k d lt in
            made.value (get_or s.key k d) (omega (arith, there, few)) (omega (arith, up, low)));
        operands = λ k d lt.
            let there = below.operands k d lt in
            let up = greatest_above row s.operands k d lt in
            (omega (arith, there, few), omega (arith, up, high));
      }

  -- ---- the reads of a later site stand after an earlier one

  module _ (stand : RowsStandBehind) where
    pub seen : (c j i : ℕ) → c < length p.cells → site_in (cell_at p.cells c).op ≡ Some j → i < j → (site_at p.sites i).map ≡ (site_at p.sites j).map → records (site_at p.sites i).act ≡ true
        → guard_on h (site_at p.sites i) ≡ true → guard_on h (site_at p.sites j) ≡ true → list_all (λ x. nat_lt (row x) (row c)) (parts p i) ≡ true
    seen c j i l e earlier map may on_i on_j = list_all-from_AllPass (λ x. nat_lt (row x) (row c)) (parts p i) (λ k d lt.
        let s = site_at p.sites i in
        let lj = law.sited.known c j l e in
        let x : ℕ = get_or (parts p i) k d in
        let has = belongs p.cells i s x (Contains-append_cases (taken_by s) (read_cells p.cells i) x (All-contains_itself (parts p i) k d lt)) in
        let waits = law.waits.waits packet made.v made.run c i j l e earlier map may ((same_site i (omega (arith, earlier, lj))).guard ∙ on_i) ((same_site j lj).guard ∙ on_j) x has in
        lt-ltb (row x) (row c) ((stand p.cells row c x is.rows l waits).1 (heavy_of_site (cell_at p.cells c).op j e)))

  -- ---- accesses go through lookups

  key_held : (j : ℕ) → j < length p.sites → (q : ℕ) → (site_at p.sites j).map ≡ q → q < length g.decls
      → asked_key g.decls h (site_at p.sites j) ≡ bytes_of (key_bytes g.decls q) (map_list made.v (site_at p.sites j).key)
  key_held j l q map lq =
      let s = site_at p.sites j in
      key_is (decl_of g.decls s.map) s.act (map_list (stage_value h) s.key) (map_list (stage_value h) s.operands)
      ∙ ap (λ m. bytes_of (decl_of g.decls m).key (map_list (stage_value h) s.key)) map
      ∙ ap (λ n. bytes_of n (map_list (stage_value h) s.key)) (sym (key_bytes_is g.decls q lq))
      ∙ ap (bytes_of (key_bytes g.decls q)) (sym (same_site j l).key)

  pub accessed : (j : ℕ) → j < length p.sites → guard_on h (site_at p.sites j) ≡ true → is_access (site_at p.sites j).act ≡ true → IsAccess p g.decls h j
  accessed j l guard access =
      let s = site_at p.sites j in
      let here = same_site j l in
      let a = law.accesses packet made.v made.u made.run made.followed j l access (here.guard ∙ guard) in
      let before = a.before in
      let ll : a.lookup < length p.sites = omega (arith, before, l) in
      let map_there = (law.sited.fits j l).map in
      let found = only_found p.cells a.lookup a.cell a.is_found in
      let found_early : row a.cell < suc plan.commit = (let e = read_early p plan is a.cell a.lookup a.is_found.there (ap site_in a.is_found.is) in omega (arith, e)) in
      let through = goes_by h s.act s.operands a.operand a.through in
      let operand = All-contains (λ c. (c < length p.cells) × (row c < suc plan.commit)) s.operands a.operand here.operands through.there in
      record {
        lookup = a.lookup;
        before = a.before;
        looks_up = a.looks_up;
        map = a.map;
        guard = sym (same_site a.lookup ll).guard ∙ a.guard;
        key = key_held a.lookup ll s.map a.map map_there ∙ a.key ∙ sym (key_held j l s.map refl map_there);
        pointer = through.pointer
            ∙ pointers_same (pointer_in h a.operand) (pointer_in h a.cell) (sym (made.goes a.operand operand.0 operand.1) ∙ a.goes ∙ made.goes a.cell a.is_found.there found_early)
            ∙ ap (pointer_in h) (sym found);
        some = ap (λ c. on (stage_value h c)) found ∙ ap on (sym (made.value a.cell a.is_found.there found_early)) ∙ a.some;
        between = λ i after until map kind writing.
            let on_i = first_of (guard_on h (site_at p.sites i)) _ writing in
            changes (site_at p.sites i).act
            ∙ a.between i after until map ((same_site i (omega (arith, until, l))).guard ∙ on_i) (hash_is g.decls s.map map_there kind);
      }
