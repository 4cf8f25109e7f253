-- The maps of packets past the commit place.
use Rattle.std.proofs.Common.{◌≡◌, ℕ, zero, suc, ◌+◌, ◌<◌, ◌≤◌, inl, Bool, true, false, List, [], ◌∷◌, ◌++◌, Option, Some, None, length, get_or, drop, refl, sym, ap, ◌∙◌, arith}
use Rattle.std.specs.Prelude.{if◌then◌else◌, nat_lt, nat_le, ◌&&◌, ◌||◌, map as map_list}
use Rattle.std.specs.List.{AllByRecursion}
use Rattle.std.specs.Option.{option_map}
use Rattle.std.proofs.lemmas.Bool.Decides.{nat_tests}
use Rattle.realization.proofs.list_laws_laws.ListLaws.{all_split}
use Rattle.hazard_core.specs.xdp_maps.State.{MapState, decl_at}
use Rattle.hazard_core.specs.xdp_maps.Operations.{operated}
use Rattle.hazard_core.specs.cell_core.Cells.{on}
use Rattle.hazard_core.specs.cell_core.Sites.{SiteView, ProgramView, site_at, records, operation_with, operation_on, applied, after}
use Rattle.hazard_core.specs.cell_core.Rows.{taken_by}
use Rattle.hazard_core.specs.Tables.{TableState, maps_of}
use Rattle.hazard_core.specs.StageValues.{StageValues, stage_value}
use Rattle.hazard_core.specs.Rows.{with_row}
use Rattle.hazard_core.specs.declared.change.Change.{Change}
use Rattle.realization.specs.beat_core.Ports.{Arrival}
use Rattle.pipe_core.specs.Machine.{Packet, Build, no_frame, packet_of, inside, sends, some_send, flushed, must_reload, entered, marked_by, marked_below, enters, moved}
use Rattle.pipe_core.specs.Pipeable.{IsPipeable}
use Rattle.pipe_core.specs.SequentialOrder.{passed_maps, AreChained}
use Rattle.pipe_core.proofs.Order.{last_or}
use Rattle.pipe_core.proofs.Agreeing.{keeps_other}
use Rattle.pipe_core.proofs.FlushLaws.{flushed_none}

-- ---- sites that take the same do the same

pub map_same : (v w : ℕ → ℕ) (cs : List ℕ) → AllByRecursion (λ c. v c ≡ w c) cs → map_list v cs ≡ map_list w cs
map_same v w [] a = refl
map_same v w (c ∷ cs) a = ap (λ x. x ∷ map_list v cs) a.0 ∙ ap (λ l. w c ∷ l) (map_same v w cs a.1)

-- two packets hold the same of what the sites take
abbrev pub SameSites : (ℕ → ℕ) → (ℕ → ℕ) → List SiteView → Type 0
SameSites v w ss = (j : ℕ) → j < length ss → AllByRecursion (λ c. v c ≡ w c) ((site_at ss j).guard ∷ (site_at ss j).key ++ (site_at ss j).operands)

pub applied_same : (v w : ℕ → ℕ) (maps : MapState) (s : SiteView) → AllByRecursion (λ c. v c ≡ w c) (s.guard ∷ s.key ++ s.operands) → applied v maps s ≡ applied w maps s
applied_same v w maps s a =
    let q = all_split (λ c. v c ≡ w c) s.key s.operands a.1 in
    ap (λ n. if records s.act && on n then operated maps s.map (operation_on v maps s) else maps) a.0
    ∙ ap (λ (k : List ℕ). if records s.act && on (w s.guard) then operated maps s.map (operation_with (decl_at maps s.map) s.act k (map_list v s.operands)) else maps) (map_same v w s.key q.0)
    ∙ ap (λ (o : List ℕ). if records s.act && on (w s.guard) then operated maps s.map (operation_with (decl_at maps s.map) s.act (map_list w s.key) o) else maps) (map_same v w s.operands q.1)

pub after_same : (v w : ℕ → ℕ) (maps : MapState) (ss : List SiteView) → SameSites v w ss → after v maps ss ≡ after w maps ss
after_same v w maps [] same = refl
after_same v w maps (s ∷ ss) same = ap (λ m. after v m ss) (applied_same v w maps s (same 0 (omega arith))) ∙ after_same v w (applied w maps s) ss (λ j l. same (suc j) (omega (arith, l)))

each_same : (b : Build) (h g : StageValues) (cs : List ℕ) → ((c : ℕ) → b.plan.row c ≤ b.plan.commit → stage_value h c ≡ stage_value g c) → AllByRecursion (λ c. b.plan.row c ≤ b.plan.commit) cs → AllByRecursion (λ c. stage_value h c ≡ stage_value g c) cs
each_same b h g [] same a = tt
each_same b h g (c ∷ cs) same a = (same c a.0, each_same b h g cs same a.1)

-- a packet that enters a place past the commit place holds the same of what its sites take, and leaves the same
pub entered_sites : (b : Build) → IsPipeable b → (t : TableState) (k : ℕ) (c : Arrival) (x : Packet) → b.plan.commit < k → SameSites (stage_value x.held) (stage_value (entered b t k c x).held) b.program.sites
unfolding entered with_row
entered_sites b fit t k c x past j l =
    each_same b x.held (with_row b.program b.plan.row k t (packet_of c) x.held) (taken_by (site_at b.program.sites j)) (λ i low. (keeps_other b k t (packet_of c) 0 b.program.cells x.held (omega arith) i (inl (λ e. omega (arith, e, low, past)))).value) (fit.site_rows j l)

entered_after : (b : Build) → IsPipeable b → (t : TableState) (k : ℕ) (c : Arrival) (x : Packet) (maps : MapState) → b.plan.commit < k →
    after (stage_value (entered b t k c x).held) maps b.program.sites ≡ after (stage_value x.held) maps b.program.sites
entered_after b fit t k c x maps past = sym (after_same (stage_value x.held) (stage_value (entered b t k c x).held) maps b.program.sites (entered_sites b fit t k c x past))

-- ---- moving on

abbrev pub exit_maps : ProgramView → MapState → Option Packet → MapState
exit_maps p maps None = maps
exit_maps p maps (Some x) = after (stage_value x.held) maps p.sites

pub passed_moved : (b : Build) → IsPipeable b → (t : TableState) (fs : List Arrival) (maps : MapState) (k : ℕ) (x : Option Packet) (ys : List (Option Packet)) → b.plan.commit < k →
    passed_maps b.program (exit_maps b.program maps (last_or x ys)) (moved b t fs k x ys) ≡ passed_maps b.program maps (x ∷ ys)
passed_moved b fit t fs maps k None [] past = refl
passed_moved b fit t fs maps k (Some x) [] past = refl
passed_moved b fit t fs maps k None (y ∷ ys) past = passed_moved b fit t fs maps (suc k) y ys (omega (arith, past))
passed_moved b fit t fs maps k (Some x) (y ∷ ys) past =
    let c = get_or fs (inside (y ∷ ys)) no_frame in
    entered_after b fit t k c x (passed_maps b.program (exit_maps b.program maps (last_or y ys)) (moved b t fs (suc k) y ys)) past
    ∙ ap (λ m. after (stage_value x.held) m b.program.sites) (passed_moved b fit t fs maps (suc k) y ys (omega (arith, past)))

-- of a packet that is to enter place k: the tables of the place before it
abbrev pub ReadyMaps : ProgramView → MapState → TableState → Option Packet → List (Option Packet) → Type 0
ReadyMaps p maps view None ys = Unit {0}
ReadyMaps p maps view (Some x) ys = maps_of view ≡ passed_maps p maps ys

pub chained_moved : (b : Build) → IsPipeable b → (t : TableState) (fs : List Arrival) (maps : MapState) (views new : ℕ → TableState) → ((k : ℕ) → b.plan.commit ≤ k → new (suc k) ≡ views k) → (k : ℕ) (x : Option Packet) (ys : List (Option Packet)) → b.plan.commit ≤ k →
    ReadyMaps b.program maps (views k) x ys → AreChained b.program maps views (suc k) ys → AreChained b.program (exit_maps b.program maps (last_or x ys)) new (suc k) (moved b t fs (suc k) x ys)
chained_moved b fit t fs maps views new shift k x [] past r h = tt
chained_moved b fit t fs maps views new shift k x (y ∷ ys) past r h = by x y r h (chained_moved b fit t fs maps views new shift (suc k) y ys (omega (arith, past)) (ready y h) (rest y h))
  where
    ready : (y : Option Packet) → AreChained b.program maps views (suc k) (y ∷ ys) → ReadyMaps b.program maps (views (suc k)) y ys
    ready None h = tt
    ready (Some y) h = h.0

    rest : (y : Option Packet) → AreChained b.program maps views (suc k) (y ∷ ys) → AreChained b.program maps views (suc (suc k)) ys
    rest None h = h
    rest (Some y) h = h.1

    by : (x y : Option Packet) → ReadyMaps b.program maps (views k) x (y ∷ ys) → AreChained b.program maps views (suc k) (y ∷ ys) → AreChained b.program (exit_maps b.program maps (last_or y ys)) new (suc (suc k)) (moved b t fs (suc (suc k)) y ys) →
        AreChained b.program (exit_maps b.program maps (last_or y ys)) new (suc k) (enters b t (suc k) (get_or fs (inside (y ∷ ys)) no_frame) x ∷ moved b t fs (suc (suc k)) y ys)
    by None y r h more = more
    by (Some x) y r h more = (ap maps_of (shift k past) ∙ r ∙ sym (passed_moved b fit t fs maps (suc (suc k)) y ys (omega (arith, past))), more)

pub chained_same : (p : ProgramView) (maps : MapState) (views new : ℕ → TableState) (k : ℕ) (xs : List (Option Packet)) → ((n : ℕ) → k ≤ n → new n ≡ views n) → AreChained p maps views k xs → AreChained p maps new k xs
chained_same p maps views new k [] same h = tt
chained_same p maps views new k (None ∷ xs) same h = chained_same p maps views new (suc k) xs (λ n l. same n (omega (arith, l))) h
chained_same p maps views new k (Some x ∷ xs) same h = (ap maps_of (same k (omega arith)) ∙ h.0, chained_same p maps views new (suc k) xs (λ n l. same n (omega (arith, l))) h.1)

-- ---- the places past the commit place

pub drop_moved : (b : Build) (t : TableState) (fs : List Arrival) (k n : ℕ) (x : Option Packet) (ys : List (Option Packet)) → n < length ys → drop (suc n) (moved b t fs k x ys) ≡ moved b t fs (suc (k + n)) (get_or ys n None) (drop (suc n) ys)
drop_moved b t fs k n x [] l = absurd (omega (arith, l))
drop_moved b t fs k zero x (y ∷ ys) l = ap (λ m. moved b t fs m y ys) (omega arith)
drop_moved b t fs k (suc n) x (y ∷ ys) l = drop_moved b t fs (suc k) n y ys (omega (arith, l)) ∙ ap (λ m. moved b t fs m (get_or ys n None) (drop (suc n) ys)) (omega arith)

marked_by_past : (to : ℕ) (b : Build) (t : TableState) (e : Change) (k : ℕ) (xs : List (Option Packet)) → to ≤ k → marked_below to b t e k xs ≡ xs
marked_by_past to b t e k [] l = refl
marked_by_past to b t e k (x ∷ xs) l = by (nat_lt k to) refl ∙ ap (λ r. x ∷ r) (marked_by_past to b t e (suc k) xs (omega (arith, l)))
  where
    by : (c : Bool) → nat_lt k to ≡ c → (if c then option_map (marked_by b t k e) x else x) ∷ marked_below to b t e (suc k) xs ≡ x ∷ marked_below to b t e (suc k) xs
    by true q = let m : k < to = grind (arith, nat_tests) in absurd (omega (arith, m, l))
    by false q = refl

pub drop_marked_by : (to : ℕ) (b : Build) (t : TableState) (e : Change) (k n : ℕ) (xs : List (Option Packet)) → to ≤ k + n → drop n (marked_below to b t e k xs) ≡ drop n xs
drop_marked_by to b t e k zero xs l = marked_by_past to b t e k xs (omega (arith, l))
drop_marked_by to b t e k (suc n) [] l = refl
drop_marked_by to b t e k (suc n) (x ∷ xs) l = drop_marked_by to b t e (suc k) n xs (omega (arith, l))

none_sends : (b : Build) (k : ℕ) (xs : List (Option Packet)) → b.plan.commit < k → some_send b k xs ≡ false
none_sends b k [] past = refl
none_sends b k (x ∷ xs) past = ap (λ c. c || some_send b (suc k) xs) (one x) ∙ none_sends b (suc k) xs (omega (arith, past))
  where
    one : (x : Option Packet) → sends b k x ≡ false
    one None = refl
    one (Some x) = by (nat_le k b.plan.commit) refl
      where
        by : (c : Bool) → nat_le k b.plan.commit ≡ c → c && must_reload b k x ≡ false
        by true q = let m : k ≤ b.plan.commit = grind (arith, nat_tests) in absurd (omega (arith, m, past))
        by false q = refl

pub drop_flushed : (b : Build) (k n : ℕ) (xs : List (Option Packet)) → b.plan.commit < k + n → drop n (flushed b k xs) ≡ drop n xs
drop_flushed b k zero xs past = flushed_none b k xs (none_sends b k xs (omega (arith, past)))
drop_flushed b k (suc n) [] past = refl
drop_flushed b k (suc n) (x ∷ xs) past = drop_flushed b (suc k) n xs (omega (arith, past))
