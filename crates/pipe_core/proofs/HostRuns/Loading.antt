-- The clocks of a load, slot by slot and map by map.
use Rattle.std.proofs.Common.{◌≡◌, ℕ, suc, ◌+◌, ◌-◌, ◌<◌, ◌≤◌, Bool, true, List, [], ◌∷◌, ◌++◌, length, get_or, refl, sym, ◌∙◌, ap, subst, arith, append_assoc, length-append}
use Rattle.std.specs.Prelude.{if◌then◌else◌, nat_lt, ◌&&◌, replicate, slice_set, unwrap_or, map as map_list}
use Rattle.std.specs.List.{range_with_len}
use Rattle.std.specs.FinMap as map
use Rattle.std.specs.FinMap.{len-entries}
use Rattle.std.proofs.lemmas.Bool.Decides.{nat_tests}
use Rattle.std.proofs.lemmas.List.{get_or_at, set_at, length-map, length-replicate}
use Rattle.hazard_core.specs.xdp_maps.declared.decl.MapKind.{MapKind}
use Rattle.hazard_core.specs.xdp_maps.declared.decl.MapKind.TheVariants.{Hash, Array}
use Rattle.hazard_core.specs.xdp_maps.declared.decl.MapDecl.{MapDecl}
use Rattle.hazard_core.specs.xdp_maps.Contents.{Contents, IsOver, IsWithinLimits, IsFilled_as, index_key, opened}
use Rattle.hazard_core.specs.xdp_maps.Laws.{IndexLaws, KeepsOver, PairLaws}
use Rattle.hazard_core.specs.xdp_maps.State.{no_decl, opened_state}
use Rattle.realization.specs.net_core.declared.ports.Inputs.{Inputs}
use Rattle.hazard_core.specs.declared.access.Word.{Word}
use Rattle.hazard_core.specs.declared.access.Word.TheVariants.{Nothing}
use Rattle.hazard_core.specs.declared.slot.Slot.{Slot}
use Rattle.hazard_core.specs.Tables.{TableState, no_slot, empty_slot, pair_slot, index_slot, table_at, slot_at, decl_of, loaded_as, loaded_tables}
use Rattle.hazard_core.specs.Commits.{word_as, word_in, written_word, host_written}
use Rattle.realization.specs.HostHistory.Rows.{slot_of, words_of, rows_as, rows_of}
use Rattle.realization.specs.HostHistory.Host.{row_writes, map_writes, writes, load}
use Rattle.pipe_core.specs.Machine.{Build}
use Rattle.pipe_core.specs.History.{Trace, next, run, begin}
use Rattle.pipe_core.specs.HostRuns.Inputs.{input_of}
use Rattle.pipe_core.specs.HostRuns.Runs.{after}
use Rattle.pipe_core.specs.HostRuns.Loads.{LoadsMaps, LoadsTraces}
use Rattle.pipe_core.proofs.HostRuns.Clocks.{resting, writing, quiet, next_writes}
use Rattle.pipe_core.proofs.HostRuns.Filling.{row_slot, rows_over, rows_fill}

-- ---- one word

abbrev Tables : Type 0
Tables = List (List Slot)

record IsAt (decls : List MapDecl) (before : Tables) (m : ℕ) (d : MapDecl) : Type 0 where
  tables : length before ≡ m
  within : m < length decls
  decl : decl_of decls m ≡ d

module _ (decls : List MapDecl) (before after : Tables) (m : ℕ) (d : MapDecl) (at : IsAt decls before m d) where
  table_is : (slots : List Slot) → table_at (record { decls = decls; tables = before ++ slots ∷ after }) m ≡ slots
  table_is slots = get_or_at before slots after [] m at.tables

  word_is : (front back : List Slot) (s : Slot) (i w x : ℕ) → length front ≡ i → word_in (record { decls = decls; tables = before ++ (front ++ s ∷ back) ∷ after }) (writing m i w x) ≡ word_as d.kind d w
  word_is front back s i w x here =
      let known : nat_lt m (length decls) ≡ true = grind (arith, nat_tests, at.within) in
      let slot : nat_lt i (length (front ++ s ∷ back)) ≡ true = grind (arith, nat_tests, here, length-append front (s ∷ back)) in
      ap (λ (slots : List Slot). if nat_lt m (length decls) && nat_lt i (length slots) then word_as (decl_of decls m).kind (decl_of decls m) w else Nothing) (table_is (front ++ s ∷ back))
      ∙ ap (λ (c : Bool). if c && nat_lt i (length (front ++ s ∷ back)) then word_as (decl_of decls m).kind (decl_of decls m) w else Nothing) known
      ∙ ap (λ (c : Bool). if c then word_as (decl_of decls m).kind (decl_of decls m) w else Nothing) slot
      ∙ ap (λ (e : MapDecl). word_as e.kind e w) at.decl

  written_is : (front back : List Slot) (s : Slot) (i w x : ℕ) → length front ≡ i
      → host_written (record { decls = decls; tables = before ++ (front ++ s ∷ back) ∷ after }) (writing m i w x) x
      ≡ record { decls = decls; tables = before ++ (front ++ written_word s (word_as d.kind d w) x ∷ back) ∷ after }
  unfolding host_written
  written_is front back s i w x here =
      let t : TableState = record { decls = decls; tables = before ++ (front ++ s ∷ back) ∷ after } in
      ap (λ (y : Word). put t (slice_set (table_at t m) i (written_word (slot_at (table_at t m) i) y x))) (word_is front back s i w x here)
      ∙ ap (λ (slots : List Slot). put t (slice_set slots i (written_word (slot_at slots i) (word_as d.kind d w) x))) (table_is (front ++ s ∷ back))
      ∙ ap (λ (y : Slot). put t (slice_set (front ++ s ∷ back) i (written_word y (word_as d.kind d w) x))) (get_or_at front s back no_slot i here)
      ∙ ap (λ (slots : List Slot). put t slots) (set_at front s back (written_word s (word_as d.kind d w) x) i here)
      ∙ ap (λ (tables : Tables). record { decls = decls; tables = tables }) (set_at before (front ++ s ∷ back) after (front ++ written_word s (word_as d.kind d w) x ∷ back) m at.tables)
    where
      put : TableState → List Slot → TableState
      put t slots = record t { tables = slice_set t.tables m slots }

-- ---- rows and maps, on the machine

-- a machine with these tables that has nothing inside, and a trace in which nothing came or went
abbrev fresh : Build → TableState → Trace
fresh b t = quiet (resting t 0 (suc b.plan.last) 0 (replicate (length b.program.sites) 0) 0)

run_append : (b : Build) (is js : List Inputs) (t : Trace) → run b (map_list input_of (is ++ js)) t ≡ run b (map_list input_of js) (run b (map_list input_of is) t)
run_append b [] js t = refl
run_append b (i ∷ is) js t = run_append b is js (next b (input_of i) t)

row_runs : (b : Build) (decls : List MapDecl) (before after : Tables) (m : ℕ) (d : MapDecl) → IsAt decls before m d → (front back : List Slot) (i : ℕ) → length front ≡ i → (w : ℕ) (words : List ℕ) (s : Slot)
    → run b (map_list input_of (row_writes m i w words)) (fresh b (record { decls = decls; tables = before ++ (front ++ s ∷ back) ∷ after }))
    ≡ fresh b (record { decls = decls; tables = before ++ (front ++ row_slot d w words s ∷ back) ∷ after })
row_runs b decls before after m d at front back i here w [] s = refl
row_runs b decls before after m d at front back i here w (x ∷ words) s =
    ap (run b (map_list input_of (row_writes m i (w + 1) words)))
    (next_writes b m i w x (record { decls = decls; tables = before ++ (front ++ s ∷ back) ∷ after }) 0 (suc b.plan.last) (replicate (length b.program.sites) 0)
    ∙ ap (fresh b) (written_is decls before after m d at front back s i w x here))
    ∙ row_runs b decls before after m d at front back i here (w + 1) words (written_word s (word_as d.kind d w) x)

map_runs : (b : Build) (decls : List MapDecl) (before after : Tables) (m : ℕ) (d : MapDecl) → IsAt decls before m d → (rows : List (List ℕ)) (front slots : List Slot) (i : ℕ) → length front ≡ i → length rows ≤ length slots
    → run b (map_list input_of (map_writes m i rows)) (fresh b (record { decls = decls; tables = before ++ (front ++ slots) ∷ after }))
    ≡ fresh b (record { decls = decls; tables = before ++ (front ++ rows_over d rows slots) ∷ after })
map_runs b decls before after m d at [] front slots i here le = refl
map_runs b decls before after m d at (r ∷ rows) front [] i here le = absurd (omega arith)
map_runs b decls before after m d at (r ∷ rows) front (s ∷ slots) i here le =
    run_append b (row_writes m i 0 r) (map_writes m (i + 1) rows) (fresh b (record { decls = decls; tables = before ++ (front ++ s ∷ slots) ∷ after }))
    ∙ ap (run b (map_list input_of (map_writes m (i + 1) rows))) (row_runs b decls before after m d at front slots i here 0 r s)
    ∙ ap (λ (xs : List Slot). run b (map_list input_of (map_writes m (i + 1) rows)) (fresh b (record { decls = decls; tables = before ++ xs ∷ after }))) (sym (append_assoc front (row_slot d 0 r s ∷ []) slots))
    ∙ map_runs b decls before after m d at rows (front ++ row_slot d 0 r s ∷ []) slots (i + 1) (omega (arith, here, length-append front (row_slot d 0 r s ∷ []))) (omega (arith, le))
    ∙ ap (λ (xs : List Slot). fresh b (record { decls = decls; tables = before ++ xs ∷ after })) (append_assoc front (row_slot d 0 r s ∷ []) (rows_over d rows slots))

-- no more rows than slots
rows_long : (k : MapKind) (d : MapDecl) (c o : Contents) → d.kind ≡ k → IsOver d c → length (rows_as k d c) ≤ length (loaded_as k d o)
rows_long Hash d c o kind over = omega (
  arith,
  few,
  len-entries c,
  length-append (map_list slot_of (map.entries c)) (replicate (d.cap - map.len c) (0 ∷ [])),
  length-map (map.entries c) slot_of,
  length-replicate {A = List ℕ} (d.cap - map.len c) (0 ∷ []),
  length-append (map_list pair_slot (map.entries o)) (replicate (d.cap - length (map.entries o)) (empty_slot d)),
  length-map (map.entries o) pair_slot,
  length-replicate (d.cap - length (map.entries o)) (empty_slot d),
)
  where
    few : map.len c ≤ d.cap
    few = subst (λ k. IsFilled_as k d c) kind over.filled
rows_long Array d c o kind over = omega (
  arith,
  length-map (range_with_len 0 d.cap) (λ i. words_of (unwrap_or (map.get c (index_key i)) [])),
  length-map (range_with_len 0 d.cap) (index_slot d o),
)

-- ---- all maps

abbrev Limits : List MapDecl → Type 0
Limits ds = (m : ℕ) → m < length ds → IsWithinLimits (get_or ds m no_decl)

abbrev Over : List MapDecl → List Contents → Type 0
Over ds cs = (m : ℕ) → m < length ds → IsOver (get_or ds m no_decl) (get_or cs m map.empty)

record Laws : Type 0 where
  index : IndexLaws
  keeps : (d : MapDecl) (c : Contents) → KeepsOver d c
  pairs : (d : MapDecl) (c : Contents) → PairLaws d c

all_runs : (b : Build) → Laws → (decls first ds : List MapDecl) (cs : List Contents) (before : Tables) (m : ℕ) → decls ≡ first ++ ds → length first ≡ m → length before ≡ m → length cs ≡ length ds → Limits ds → Over ds cs
    → run b (map_list input_of (writes m ds cs)) (fresh b (record { decls = decls; tables = before ++ loaded_tables ds (map_list opened ds) }))
    ≡ fresh b (record { decls = decls; tables = before ++ loaded_tables ds cs })
all_runs b laws decls first [] cs before m e long here beside limits over = refl
all_runs b laws decls first (d ∷ ds) [] before m e long here beside limits over = absurd (omega (arith, beside))
all_runs b laws decls first (d ∷ ds) (c ∷ cs) before m e long here beside limits over =
    run_append b (map_writes m 0 (rows_of d c)) (writes (m + 1) ds cs) (fresh b (record { decls = decls; tables = before ++ table ∷ rest }))
    ∙ ap (run b (map_list input_of (writes (m + 1) ds cs))) one
    ∙ ap (λ (tables : Tables). run b (map_list input_of (writes (m + 1) ds cs)) (fresh b (record { decls = decls; tables = tables }))) (sym (append_assoc before (loaded_as d.kind d c ∷ []) rest))
    ∙ all_runs b laws decls (first ++ d ∷ []) ds cs (before ++ loaded_as d.kind d c ∷ []) (m + 1)
    (e ∙ sym (append_assoc first (d ∷ []) ds))
    (omega (arith, long, length-append first (d ∷ [])))
    (omega (arith, here, length-append before (loaded_as d.kind d c ∷ [])))
    (omega (arith, beside))
    (λ n l. limits (suc n) (omega (arith, l)))
    (λ n l. over (suc n) (omega (arith, l)))
    ∙ ap (λ (tables : Tables). fresh b (record { decls = decls; tables = tables })) (append_assoc before (loaded_as d.kind d c ∷ []) (loaded_tables ds cs))
  where
    table : List Slot
    table = loaded_as d.kind d (opened d)

    rest : Tables
    rest = loaded_tables ds (map_list opened ds)

    at : IsAt decls before m d
    at = record {
      tables = here;
      within = omega (arith, long, ap length e, length-append first (d ∷ ds));
      decl = ap (λ (xs : List MapDecl). get_or xs m no_decl) e ∙ get_or_at first d ds no_decl m long;
    }

    one : run b (map_list input_of (map_writes m 0 (rows_of d c))) (fresh b (record { decls = decls; tables = before ++ loaded_as d.kind d (opened d) ∷ loaded_tables ds (map_list opened ds) }))
        ≡ fresh b (record { decls = decls; tables = before ++ loaded_as d.kind d c ∷ loaded_tables ds (map_list opened ds) })
    one =
        let o : IsOver d c = over 0 (omega arith) in
        map_runs b decls before rest m d at (rows_of d c) [] table 0 refl (rows_long d.kind d c (opened d) refl o)
        ∙ ap (λ (slots : List Slot). fresh b (record { decls = decls; tables = before ++ slots ∷ rest })) (rows_fill laws.index laws.keeps laws.pairs d c (limits 0 (omega arith)) o)

pub loads_traces : IndexLaws → ((d : MapDecl) (c : Contents) → KeepsOver d c) → ((d : MapDecl) (c : Contents) → PairLaws d c) → LoadsTraces
loads_traces index keeps pairs b maps sound =
    all_runs b (record { index = index; keeps = keeps; pairs = pairs }) maps.decls [] maps.decls maps.contents [] 0 refl refl refl sound.beside sound.limits sound.over

run_state : (b : Build) (is : List Inputs) (t : Trace) → (run b (map_list input_of is) t).state ≡ after b is t.state
unfolding next
run_state b [] t = refl
run_state b (i ∷ is) t = run_state b is (next b (input_of i) t)

pub loads_maps : LoadsTraces → LoadsMaps
loads_maps traces b maps sound = sym (run_state b (load maps) (begin b (opened_state maps.decls))) ∙ ap (λ (t : Trace). t.state) (traces b maps sound)
