-- A cell run on maps is one on other maps that show the same of what its operations read, and touches the same there.
use Rattle.std.proofs.Common.{◌≡◌, ℕ, zero, suc, ◌+◌, ◌*◌, ◌<◌, ◌≤◌, Bool, true, false, List, [], ◌∷◌, length, Some, get_or, take, drop, refl, sym, ap, subst, ◌∙◌, arith, All, map as map_list, length-drop}
use Rattle.std.specs.Prelude.{if◌then◌else◌, nat_lt, nat_le, ◌&&◌, not, is_some, slice_index, Contains}
use Rattle.std.specs.Int.{w64, cast_unsigned}
use Rattle.std.proofs.lemmas.List.{length-map}
use Rattle.std.proofs.lemmas.Bool.Decides.{nat_tests}
use Rattle.std.proofs.lemmas.List.Elements.{All-nil, All-cons, All-head, All-weaker, All-contains_itself, Contains-append_left, Contains-append_right}
use Rattle.hazard_core.specs.xdp_maps.declared.decl.MapDecl.{MapDecl}
use Rattle.hazard_core.specs.xdp_maps.declared.decl.MapKind.{MapKind}
use Rattle.hazard_core.specs.xdp_maps.declared.decl.MapKind.TheVariants.{Hash, Array}
use Rattle.hazard_core.specs.xdp_maps.Contents.{Contents, IsBytes}
use Rattle.hazard_core.specs.xdp_maps.State.{MapState, IsSound, decl_at, contents_at, no_decl}
use Rattle.hazard_core.specs.xdp_maps.Calls.{lookup_of, number_before}
use Rattle.hazard_core.specs.xdp_maps.declared.change.Change.{Change}
use Rattle.hazard_core.specs.xdp_maps.Operations as map
use Rattle.hazard_core.specs.xdp_maps.Operations.{Operation, key_in, Fits, operated}
use Rattle.hazard_core.specs.xdp_maps.Touched.{Resource, Present, Size, SameOf, AnswersSame, reads_as, reads as resources_read, writes as resources_written}
use Rattle.hazard_core.specs.xdp_maps.Laws.{IsDecided}
use Rattle.hazard_core.proofs.xdp_maps_laws.ByteLaws.{IsBytes-little_bytes}
use Rattle.hazard_core.proofs.xdp_maps_laws.SoundLaws.{operations_keep_sound}
use Rattle.hazard_core.proofs.xdp_maps_laws.ReadLaws.{reads_decide}
use Rattle.hazard_core.specs.xdp_machine.State.{PacketIn}
use Rattle.hazard_core.specs.xdp_machine.Memory.{bytes_in}
use Rattle.hazard_core.specs.xdp_machine.Touched.{Touched, nothing, both, touched_by, counted}
use Rattle.hazard_core.specs.cell_core.declared.operator.Operator.{Operator}
use Rattle.hazard_core.specs.cell_core.declared.operator.Operator.TheVariants.{Found, Answer}
use Rattle.hazard_core.specs.cell_core.declared.site.Act.{Act}
use Rattle.hazard_core.specs.cell_core.declared.site.Act.TheVariants as act
use Rattle.hazard_core.specs.cell_core.Acts.{finds_key, reads}
use Rattle.hazard_core.specs.cell_core.Cells.{cell_at, site_in, bits_from, bit, on}
use Rattle.hazard_core.specs.cell_core.Sites.{SiteView, ProgramView, site_at, records, bytes_of, change_of, operation_with, operation_on, applied, after, found_in, loaded, number_or, answer_as, answer, read_on, touched, IsCellRun}
use Rattle.hazard_core.specs.cell_core.Formed.{IsInside, HasWords, FitsMap, AllFit}
use Rattle.hazard_core.proofs.cell_core_laws.SpelledLaws.{bytes_are}
use Rattle.pipe_core.proofs.Resources.{operated_same}

-- ---- operations of sites fit their maps

fits : (d : MapDecl) (a : Act) (words xs : List ℕ) → d.key ≤ 8 * length words → HasWords d.value a (length xs) → IsInside d.value a → Fits d (operation_with d a words xs)
fits d act.Lookup words xs k w i = (bytes_are d.key words k, tt)
fits d act.Update words xs k w i = (bytes_are d.key words k, bytes_are d.value (drop 1 xs) (omega (arith, w, length-drop 1 xs)))
fits d act.Delete words xs k w i = (bytes_are d.key words k, tt)
fits d (act.Load at size) words xs k w i = (bytes_are d.key words k, tt)
fits d (act.Store at size) words xs k w i =
    let b = IsBytes-little_bytes (bytes_in size) (slice_index xs 0) in
    (bytes_are d.key words k, (subst (λ n. at + n ≤ d.value) (sym b.len) i, b.bytes_fit))
fits d (act.Atomic at a) words xs k w i = (bytes_are d.key words k, i)

module _ (v : ℕ → ℕ) where
  site_fits : (maps : MapState) (s : SiteView) → FitsMap maps.decls s → Fits (decl_at maps s.map) (operation_on v maps s)
  site_fits maps s fit =
      fits (decl_at maps s.map) s.act (map_list v s.key) (map_list v s.operands) (let k = fit.key in omega (arith, k, length-map s.key v)) (subst (HasWords (decl_at maps s.map).value s.act) (sym (length-map s.operands v)) fit.value) fit.inside

  site_key : (maps : MapState) (s : SiteView) → FitsMap maps.decls s → IsBytes (decl_at maps s.map).key (key_in (operation_on v maps s))
  site_key maps s fit = (site_fits maps s fit).0

  pub applied_decls : (maps : MapState) (s : SiteView) → (applied v maps s).decls ≡ maps.decls
  applied_decls maps s = by (records s.act && on (v s.guard))
    where
      by : (b : Bool) → (if b then operated maps s.map (operation_on v maps s) else maps).decls ≡ maps.decls
      by true = refl
      by false = refl

  pub applied_sound : (maps : MapState) (s : SiteView) → IsSound maps → FitsMap maps.decls s → IsSound (applied v maps s)
  applied_sound maps s sound fit = by (records s.act && on (v s.guard))
    where
      by : (b : Bool) → IsSound (if b then operated maps s.map (operation_on v maps s) else maps)
      by true = operations_keep_sound maps s.map (operation_on v maps s) sound fit.map (site_fits maps s fit)
      by false = sound

  pub after_sound : (maps : MapState) (sites : List SiteView) → IsSound maps → AllFit maps.decls sites → IsSound (after v maps sites) × ((after v maps sites).decls ≡ maps.decls)
  after_sound maps [] sound fit = (sound, refl)
  after_sound maps (s ∷ ss) sound fit =
      let same = applied_decls maps s in
      let r = after_sound (applied v maps s) ss (applied_sound maps s sound (fit 0 (omega arith))) (subst (λ ds. AllFit ds ss) (sym same) (λ j l. fit (suc j) (omega arith))) in
      (r.0, r.1 ∙ same)

-- ---- one site

module _ (maps other : MapState) (same : other.decls ≡ maps.decls) (sound : IsSound maps) (sound' : IsSound other) (q : ℕ) (inside : q < length maps.decls) where
  -- whether a key is there
  looked : (key : List ℕ) → IsBytes (decl_at maps q).key key → All (SameOf maps other) (resources_read maps q (map.Lookup key)) → is_some (lookup_of (contents_at other q) key) ≡ is_some (lookup_of (contents_at maps q) key)
  looked key bytes all = sym (reads_decide maps other q (map.Lookup key) same sound sound' inside bytes all).answer

  looks_as : (k : MapKind) (c : Contents) (key value : List ℕ) (flags : ℕ) → nat_lt 2 flags ≡ false → All (SameOf maps other) (reads_as k q c (map.Update key value flags)) → All (SameOf maps other) (reads_as k q c (map.Lookup key))
  looks_as Array c key value flags small all = All-nil (SameOf maps other)
  looks_as Hash c key value flags small all = by (nat_lt 2 flags) small (not (is_some (lookup_of c key)) && nat_lt flags 2) all
    where
      by : (a : Bool) → a ≡ false → (b : Bool) → All (SameOf maps other) (if a then [] else if b then Present q key ∷ Size q ∷ [] else Present q key ∷ []) → All (SameOf maps other) (Present q key ∷ [])
      by true e b h = cc
      by false e true h = All-cons (SameOf maps other) (Present q key) [] (All-head (SameOf maps other) (Present q key) (Size q ∷ []) h) (All-nil (SameOf maps other))
      by false e false h = h

  deletes_as : (k : MapKind) (c : Contents) (key : List ℕ) → All (SameOf maps other) (reads_as k q c (map.Delete key)) → All (SameOf maps other) (reads_as k q c (map.Lookup key))
  deletes_as Hash c key all = all
  deletes_as Array c key all = all

  small_flags : (flags : ℕ) → nat_lt 2 flags ≡ true → nat_le flags 2 ≡ false
  small_flags flags e = by (nat_le flags 2) refl
    where
      by : (b : Bool) → nat_le flags 2 ≡ b → b ≡ false
      by true f = let m : 2 < flags = grind (arith, nat_tests) in let n : flags ≤ 2 = grind (arith, nat_tests) in absurd (omega (arith, m, n))
      by false f = refl

  found_as : (a : Act) (words xs : List ℕ) → IsBytes (decl_at maps q).key (key_in (operation_with (decl_at maps q) a words xs)) → All (SameOf maps other) (resources_read maps q (operation_with (decl_at maps q) a words xs)) → finds_key a ≡ true →
      found_in (contents_at other q) (operation_with (decl_at maps q) a words xs) ≡ found_in (contents_at maps q) (operation_with (decl_at maps q) a words xs)
  found_as act.Lookup words xs bytes all f = looked (bytes_of (decl_at maps q).key words) bytes all
  found_as act.Update words xs bytes all f = by (nat_lt 2 flags) refl
    where
      flags : ℕ
      flags = slice_index xs 0

      key : List ℕ
      key = bytes_of (decl_at maps q).key words

      off : (b : Bool) (c d : Bool) → b ≡ false → (b && c) ≡ (b && d)
      off true c d e = cc
      off false c d e = refl

      by : (b : Bool) → nat_lt 2 flags ≡ b → (nat_le flags 2 && is_some (lookup_of (contents_at other q) key)) ≡ (nat_le flags 2 && is_some (lookup_of (contents_at maps q) key))
      by true e = off (nat_le flags 2) (is_some (lookup_of (contents_at other q) key)) (is_some (lookup_of (contents_at maps q) key)) (small_flags flags e)
      by false e = ap (λ b. nat_le flags 2 && b) (looked key bytes (looks_as (decl_at maps q).kind (contents_at maps q) key (bytes_of (decl_at maps q).value (drop 1 xs)) flags e all))
  found_as act.Delete words xs bytes all f = looked (bytes_of (decl_at maps q).key words) bytes (deletes_as (decl_at maps q).kind (contents_at maps q) (bytes_of (decl_at maps q).key words) all)
  found_as (act.Load at size) words xs bytes all f = cc
  found_as (act.Store at size) words xs bytes all f = cc
  found_as (act.Atomic at a) words xs bytes all f = cc

  answers_as : (a : Act) (words xs : List ℕ) → IsDecided maps other q (operation_with (decl_at maps q) a words xs) → reads a ≡ true →
      answer_as a (decl_at other q) (contents_at other q) (operation_with (decl_at maps q) a words xs) ≡ answer_as a (decl_at maps q) (contents_at maps q) (operation_with (decl_at maps q) a words xs)
  answers_as act.Lookup words xs h f = ap bit (sym h.answer)
  answers_as act.Update words xs h f = ap (cast_unsigned w64) (sym h.answer)
  answers_as act.Delete words xs h f = ap (cast_unsigned w64) (sym h.answer)
  answers_as (act.Load at size) words xs h f = ap (loaded at size) (sym h.answer)
  answers_as (act.Store at size) words xs h f = cc
  answers_as (act.Atomic at a) words xs h f =
      ap number_or (sym (fetched (bytes_of (decl_at maps q).key words) (change_of a (slice_index xs 0) (slice_index xs 1)) a.fetch f h.answer))
    where
      fetched : (key : List ℕ) (x : Change) (b : Bool) → b ≡ true → AnswersSame maps other q (map.Atomic key at x b) → number_before (contents_at maps q) key at x ≡ number_before (contents_at other q) key at x
      fetched key x true e h = h
      fetched key x false e h = cc

-- ---- all sites, one after another

-- what a site reads
pub record ReadsSame (v : ℕ → ℕ) (s : SiteView) (maps other : MapState) : Type 0 where
  pub found : finds_key s.act ≡ true → (i : ℕ) → read_on v other s (Found i) ≡ read_on v maps s (Found i)
  pub answer : reads s.act ≡ true → (i : ℕ) → read_on v other s (Answer i) ≡ read_on v maps s (Answer i)

module _ (v : ℕ → ℕ) where
  operation_same : (maps other : MapState) (s : SiteView) → other.decls ≡ maps.decls → operation_on v other s ≡ operation_on v maps s
  operation_same maps other s same = ap (λ ds. operation_with (get_or ds s.map no_decl) s.act (map_list v s.key) (map_list v s.operands)) same

  site_decided : (maps other : MapState) (s : SiteView) → other.decls ≡ maps.decls → IsSound maps → IsSound other → FitsMap maps.decls s → All (SameOf maps other) (resources_read maps s.map (operation_on v maps s)) → IsDecided maps other s.map (operation_on v maps s)
  site_decided maps other s same sound sound' fit all = reads_decide maps other s.map (operation_on v maps s) same sound sound' fit.map (site_key v maps s fit) all

  site_reads : (maps other : MapState) (s : SiteView) → other.decls ≡ maps.decls → IsSound maps → IsSound other → FitsMap maps.decls s → All (SameOf maps other) (resources_read maps s.map (operation_on v maps s)) → ReadsSame v s maps other
  site_reads maps other s same sound sound' fit all = record {
    found = λ f i. ap (λ op. bit (found_in (contents_at other s.map) op)) ops
        ∙ ap bit (found_as maps other same sound sound' s.map fit.map s.act (map_list v s.key) (map_list v s.operands) (site_key v maps s fit) all f);
    answer = λ f i. ap (λ op. answer other s.map s.act op) ops
        ∙ answers_as maps other same sound sound' s.map fit.map s.act (map_list v s.key) (map_list v s.operands) (site_decided maps other s same sound sound' fit all) f;
  }
    where
      ops : operation_on v other s ≡ operation_on v maps s
      ops = operation_same maps other s same

  site_touches : (maps other : MapState) (s : SiteView) → other.decls ≡ maps.decls → IsDecided maps other s.map (operation_on v maps s) → touched_by other (Some (s.map, operation_on v other s)) ≡ touched_by maps (Some (s.map, operation_on v maps s))
  site_touches maps other s same h =
      ap (λ op. touched_by other (Some (s.map, op))) (operation_same maps other s same)
      ∙ ap (λ rs. record { reads = rs; writes = resources_written other s.map (operation_on v maps s); writing = counted (resources_written other s.map (operation_on v maps s)) }) h.reads
      ∙ ap (λ ws. record { reads = resources_read maps s.map (operation_on v maps s); writes = ws; writing = counted ws }) h.writes

  -- the operation of a site keeps what both show the same
  site_keeps : (maps other : MapState) (s : SiteView) → other.decls ≡ maps.decls → IsSound maps → IsSound other → FitsMap maps.decls s → (on (v s.guard) ≡ true → IsDecided maps other s.map (operation_on v maps s)) →
      (r : Resource) → SameOf maps other r → SameOf (applied v maps s) (applied v other s) r
  site_keeps maps other s same sound sound' fit h r is = by (records s.act) (on (v s.guard)) refl
    where
      by : (b c : Bool) → on (v s.guard) ≡ c → SameOf (if b && c then operated maps s.map (operation_on v maps s) else maps) (if b && c then operated other s.map (operation_on v other s) else other) r
      by true true e =
          subst (λ op. SameOf (operated maps s.map (operation_on v maps s)) (operated other s.map op) r) (sym (operation_same maps other s same))
          (operated_same maps other same s.map (let i = fit.map in omega (arith, i, sound.beside)) (let i = fit.map in omega (arith, i, sound'.beside, ap length same)) (operation_on v maps s) (h e) r is)
      by true false e = is
      by false c e = is

  pub record Same (sites : List SiteView) (maps other : MapState) : Type 0 where
    pub touches : touched v other sites ≡ touched v maps sites
    pub reads_same : (j : ℕ) → j < length sites → on (v (site_at sites j).guard) ≡ true → ReadsSame v (site_at sites j) (after v maps (take j sites)) (after v other (take j sites))

  join : (s : SiteView) (ss : List SiteView) (maps other : MapState) → other.decls ≡ maps.decls → (on (v s.guard) ≡ true → ReadsSame v s maps other) → (on (v s.guard) ≡ true → IsDecided maps other s.map (operation_on v maps s)) →
      Same ss (applied v maps s) (applied v other s) → Same (s ∷ ss) maps other
  join s ss maps other same reads_here decided more = record {
    touches = ap (both (if on (v s.guard) then touched_by other (Some (s.map, operation_on v other s)) else nothing)) more.touches ∙ ap (λ t. both t (touched v (applied v maps s) ss)) (head (on (v s.guard)) refl);
    reads_same = λ j. at j;
  }
    where
      head : (c : Bool) → on (v s.guard) ≡ c → (if c then touched_by other (Some (s.map, operation_on v other s)) else nothing) ≡ (if c then touched_by maps (Some (s.map, operation_on v maps s)) else nothing)
      head true is = site_touches maps other s same (decided is)
      head false is = refl

      at : (j : ℕ) → j < length (s ∷ ss) → on (v (site_at (s ∷ ss) j).guard) ≡ true → ReadsSame v (site_at (s ∷ ss) j) (after v maps (take j (s ∷ ss))) (after v other (take j (s ∷ ss)))
      at zero l is = reads_here is
      at (suc j) l is = more.reads_same j (omega (arith, l)) is

  pub same_reads : (sites : List SiteView) (maps other : MapState) → other.decls ≡ maps.decls → IsSound maps → IsSound other → AllFit maps.decls sites → ((r : Resource) → Contains (touched v maps sites).reads r → SameOf maps other r) → Same sites maps other
  same_reads [] maps other same sound sound' fit all = record { touches = refl; reads_same = λ j l is. absurd (omega (arith, l)) }
  same_reads (s ∷ ss) maps other same sound sound' fit all = join s ss maps other same (λ is. (here is).0) (λ is. (here is).1)
      (same_reads ss (applied v maps s) (applied v other s) (applied_decls v other s ∙ same ∙ sym (applied_decls v maps s)) (applied_sound v maps s sound fits_here) (applied_sound v other s sound' (subst (λ ds. FitsMap ds s) (sym same) fits_here))
      (subst (λ ds. AllFit ds ss) (sym (applied_decls v maps s)) (λ j l. fit (suc j) (omega arith)))
      (λ r has. site_keeps maps other s same sound sound' fits_here (λ is. (here is).1) r (all r (later has))))
    where
      fits_here : FitsMap maps.decls s
      fits_here = fit 0 (omega arith)

      rest : Touched
      rest = touched v (applied v maps s) ss

      own : Touched
      own = touched_by maps (Some (s.map, operation_on v maps s))

      later : {r : Resource} → Contains (touched v (applied v maps s) ss).reads r → Contains (touched v maps (s ∷ ss)).reads r
      later {r} has = Contains-append_right (if on (v s.guard) then own else nothing).reads rest.reads r has

      here : on (v s.guard) ≡ true → ReadsSame v s maps other × IsDecided maps other s.map (operation_on v maps s)
      here is =
          let reads_here : All (SameOf maps other) (resources_read maps s.map (operation_on v maps s)) =
          All-weaker (Contains (resources_read maps s.map (operation_on v maps s))) (SameOf maps other)
          (λ r has. all r (Contains-append_left (if on (v s.guard) then own else nothing).reads rest.reads r (subst (λ (c : Bool). Contains (if c then own else nothing).reads r) (sym is) has)))
          (resources_read maps s.map (operation_on v maps s)) (All-contains_itself (resources_read maps s.map (operation_on v maps s))) in
          (site_reads maps other s same sound sound' fits_here reads_here, site_decided maps other s same sound sound' fits_here reads_here)

-- ---- and the run

pub run_elsewhere : (p : ProgramView) → ((c j : ℕ) → c < length p.cells → site_in (cell_at p.cells c).op ≡ Some j → j < length p.sites) → ((c j : ℕ) → c < length p.cells → (cell_at p.cells c).op ≡ Found j → finds_key (site_at p.sites j).act ≡ true) →
    ((c j : ℕ) → c < length p.cells → (cell_at p.cells c).op ≡ Answer j → reads (site_at p.sites j).act ≡ true) → (packet : PacketIn) (maps other : MapState) (v : ℕ → ℕ) → Same v p.sites maps other → IsCellRun packet maps p v → IsCellRun packet other p v
run_elsewhere p known finds answers packet maps other v same run = record {
  each = λ k l. record {
    solves = (run.each k l).solves;
    answers = λ j e is. (run.each k l).answers j e is ∙ ap (λ n. bits_from n (cell_at p.cells k).from (cell_at p.cells k).width) (by k l j (known k j l e) is (cell_at p.cells k).op refl e);
  };
}
  where
    by : (k : ℕ) → k < length p.cells → (j : ℕ) → j < length p.sites → on (v (site_at p.sites j).guard) ≡ true → (op : Operator) → (cell_at p.cells k).op ≡ op → site_in op ≡ Some j →
        read_on v (after v maps (take j p.sites)) (site_at p.sites j) op ≡ read_on v (after v other (take j p.sites)) (site_at p.sites j) op
    by k l j m is (Found i) o e = sym ((same.reads_same j m is).found (finds k j l (o ∙ ap Found (some_same i j e))) i)
      where
        some_same : (i j : ℕ) → Some i ≡ Some j → i ≡ j
        some_same i j e = cc
    by k l j m is (Answer i) o e = sym ((same.reads_same j m is).answer (answers k j l (o ∙ ap Answer (some_same i j e))) i)
      where
        some_same : (i j : ℕ) → Some i ≡ Some j → i ≡ j
        some_same i j e = cc
    by k l j m is op o e = cc
