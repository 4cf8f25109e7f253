-- A packet that runs ahead, on maps in the midst of its forerunners' operations, runs so in its turn too.
use Rattle.std.proofs.Common.{◌≡◌, ℕ, zero, suc, ◌^◌, ◌<◌, ◌≤◌, Bool, true, false, List, [], ◌∷◌, ◌++◌, length, Some, take, drop, refl, sym, ap, subst, ◌∙◌, arith}
use Rattle.std.specs.Prelude.{if◌then◌else◌, ◌&&◌, Contains}
use Rattle.std.proofs.lemmas.Nat.{pow_pos}
use Rattle.std.proofs.lemmas.List.Elements.{Contains-append_left, Contains-append_right}
use Rattle.hazard_core.specs.xdp_maps.declared.decl.MapDecl.{MapDecl}
use Rattle.hazard_core.specs.xdp_maps.State.{MapState, IsSound}
use Rattle.hazard_core.specs.xdp_maps.Operations.{operated}
use Rattle.hazard_core.specs.xdp_maps.Touched.{Resource, Present, Content, Size, SameOf}
use Rattle.hazard_core.proofs.xdp_maps_laws.WriteLaws.{keeps_unwritten}
use Rattle.hazard_core.specs.xdp_machine.State.{PacketIn}
use Rattle.hazard_core.specs.xdp_machine.Touched.{Touched, nothing, touched_by}
use Rattle.hazard_core.specs.cell_core.Cells.{CellView, cell_at, is_read, Solves_as, on}
use Rattle.hazard_core.specs.cell_core.Sites.{SiteView, ProgramView, records, operation_on, applied, after, touched, IsValue, IsCellRun}
use Rattle.hazard_core.specs.cell_core.Formed.{AllFit, AreSited, AreFormed}
use Rattle.hazard_core.specs.cell_core.SiteLaws.{ValuesKeep}
use Rattle.realization.specs.beat_core.Ports.{Arrival}
use Rattle.pipe_core.specs.Machine.{Build, packet_of}
use Rattle.pipe_core.specs.Agreement.{ReadsArePlanned}
use Rattle.pipe_core.specs.Apart.{AllRun, AreOthers, ReadOthers, ConflictFree, RunsElsewhere, RunsComplete, Leads, RunsInTurnToo, InTurnToo}
use Rattle.pipe_core.proofs.Elsewhere.{after_sound}

-- ---- what shows the same

same_trans : (r : Resource) (s t u : MapState) → SameOf s t r → SameOf t u r → SameOf s u r
same_trans (Present q key) s t u h k = h ∙ k
same_trans (Content q key) s t u h k = h ∙ k
same_trans (Size q) s t u h k = h ∙ k

same_self : (r : Resource) (s : MapState) → SameOf s s r
same_self (Present q key) s = refl
same_self (Content q key) s = refl
same_self (Size q) s = refl

module _ (v : ℕ → ℕ) where
  -- a site that does not write a resource keeps it
  site_keeps : (m : MapState) (s : SiteView) (r : Resource) → (Contains (if on (v s.guard) then touched_by m (Some (s.map, operation_on v m s)) else nothing).writes r → ⊥) → SameOf (applied v m s) m r
  site_keeps m s r not_written = by (records s.act) (on (v s.guard)) refl
    where
      by : (b c : Bool) → on (v s.guard) ≡ c → SameOf (if b && c then operated m s.map (operation_on v m s) else m) m r
      by true true e = keeps_unwritten m s.map (operation_on v m s) r (λ has. not_written (subst (λ (c : Bool). Contains (if c then touched_by m (Some (s.map, operation_on v m s)) else nothing).writes r) (sym e) has))
      by true false e = same_self r m
      by false c e = same_self r m

  -- so do all
  sites_keep : (ss : List SiteView) (m : MapState) (r : Resource) → (Contains (touched v m ss).writes r → ⊥) → SameOf (after v m ss) m r
  sites_keep [] m r not_written = same_self r m
  sites_keep (s ∷ ss) m r not_written =
      let here = if on (v s.guard) then touched_by m (Some (s.map, operation_on v m s)) else nothing in
      let more = touched v (applied v m s) ss in
      same_trans r (after v (applied v m s) ss) (applied v m s) m (sites_keep ss (applied v m s) r (λ has. not_written (Contains-append_right here.writes more.writes r has)))
      (site_keeps m s r (λ has. not_written (Contains-append_left here.writes more.writes r has)))

  after_split : (n : ℕ) (ss : List SiteView) (m : MapState) → after v (after v m (take n ss)) (drop n ss) ≡ after v m ss
  after_split zero ss m = refl
  after_split (suc n) [] m = refl
  after_split (suc n) (s ∷ ss) m = after_split n ss (applied v m s)

  later_writes : (n : ℕ) (ss : List SiteView) (m : MapState) (r : Resource) → Contains (touched v (after v m (take n ss)) (drop n ss)).writes r → Contains (touched v m ss).writes r
  later_writes zero ss m r has = has
  later_writes (suc n) [] m r has = has
  later_writes (suc n) (s ∷ ss) m r has =
      Contains-append_right (if on (v s.guard) then touched_by m (Some (s.map, operation_on v m s)) else nothing).writes (touched v (applied v m s) ss).writes r (later_writes n ss (applied v m s) r has)

  -- from the midst of the operations on
  midst_keeps : (n : ℕ) (ss : List SiteView) (m : MapState) (r : Resource) → (Contains (touched v m ss).writes r → ⊥) → SameOf (after v m ss) (after v m (take n ss)) r
  midst_keeps n ss m r not_written =
      subst (λ z. SameOf z (after v m (take n ss)) r) (after_split n ss m) (sites_keep (drop n ss) (after v m (take n ss)) r (λ has. not_written (later_writes n ss m r has)))

-- ---- lists of runs

module _ (p : ProgramView) where
  pub leads_then : (maps last : MapState) (cs ds : List Arrival) (ts us : List Touched) → Leads p maps cs ts last → AllRun p last ds us → AllRun p maps (cs ++ ds) (ts ++ us)
  leads_then maps last [] ds [] us h k = subst (λ m. AllRun p m ds us) h k
  leads_then maps last [] ds (t ∷ ts) us h k = absurd h
  leads_then maps last (c ∷ cs) ds [] us h k = absurd h
  leads_then maps last (c ∷ cs) ds (t ∷ ts) us (v, run, touches, more) k = (v, run, touches, leads_then (after v maps p.sites) last cs ds ts us more k)

  -- of what is apart: what follows a run
  pub apart_after : (n : ℕ) (ts us : List Touched) → ConflictFree n (ts ++ us) → ConflictFree n us
  apart_after n [] us h = h
  apart_after n (t ∷ ts) us h = apart_after n ts us h.1

  reads_others : (n : ℕ) (writes : List Resource) (ts us : List Touched) (t : Touched) → length ts < n → ReadOthers n writes (ts ++ (t ∷ us)) → AreOthers t.reads writes
  reads_others zero writes ts us t l h = absurd (omega (arith, l))
  reads_others (suc n) writes [] us t l h = h.0
  reads_others (suc n) writes (x ∷ ts) us t l h = reads_others n writes ts us t (omega (arith, l)) h.1

  -- what is read after these runs none of them wrote
  unread_stays : (n : ℕ) (maps last : MapState) (cs : List Arrival) (ts us : List Touched) (t : Touched) → length ts ≤ n → ConflictFree n (ts ++ (t ∷ us)) → Leads p maps cs ts last → (r : Resource) → Contains t.reads r → SameOf last maps r
  unread_stays n maps last [] [] us t l a h r has = subst (λ m. SameOf m maps r) (sym h) (same_self r maps)
  unread_stays n maps last [] (x ∷ ts) us t l a h r has = absurd h
  unread_stays n maps last (c ∷ cs) [] us t l a h r has = absurd h
  unread_stays n maps last (c ∷ cs) (x ∷ ts) us t l a (v, run, touches, more) r has =
      same_trans r last (after v maps p.sites) maps (unread_stays n (after v maps p.sites) last cs ts us t (omega (arith, l)) a.1 more r has)
      (sites_keep v p.sites maps r (λ wrote. reads_others n x.writes ts us t (omega (arith, l)) a.0 r has (subst (λ (z : Touched). Contains z.writes r) touches wrote)))

  pub leads_sound : (maps last : MapState) → AllFit maps.decls p.sites → (cs : List Arrival) (ts : List Touched) → Leads p maps cs ts last → IsSound maps → IsSound last × (last.decls ≡ maps.decls)
  leads_sound maps last fit [] [] h sound = (subst IsSound (sym h) sound, ap (λ (m : MapState). m.decls) h)
  leads_sound maps last fit [] (t ∷ ts) h sound = absurd h
  leads_sound maps last fit (c ∷ cs) [] h sound = absurd h
  leads_sound maps last fit (c ∷ cs) (t ∷ ts) (v, run, touches, more) sound =
      let q = after_sound v maps p.sites sound fit in
      let r = leads_sound (after v maps p.sites) last (subst (λ ds. AllFit ds p.sites) (sym q.1) fit) cs ts more q.0 in
      (r.0, r.1 ∙ q.1)

  pub leads_long : (maps last : MapState) (cs : List Arrival) (ts : List Touched) → Leads p maps cs ts last → length ts ≡ length cs
  leads_long maps last [] [] h = refl
  leads_long maps last [] (t ∷ ts) h = absurd h
  leads_long maps last (c ∷ cs) [] h = absurd h
  leads_long maps last (c ∷ cs) (t ∷ ts) (v, run, touches, more) = ap suc (leads_long (after v maps p.sites) last cs ts more)

-- ---- there are runs

pub solves_fit : (b : Bool) (packet : PacketIn) (v : ℕ → ℕ) (c : CellView) (x : ℕ) → b ≡ true → Solves_as b packet v c x → x < 2 ^ c.width
solves_fit true packet v c x e h = h
solves_fit false packet v c x e h = cc

module _ (complete : RunsComplete) (decls : List MapDecl) (p : ProgramView) (formed : AreFormed p.cells) (sited : AreSited decls p) where
  pub record Led (maps : MapState) (cs : List Arrival) : Type 0 where
    pub ts : List Touched
    pub last : MapState
    pub leads : Leads p maps cs ts last

  pub led_by : (maps : MapState) (cs : List Arrival) → Led maps cs
  led_by maps [] = record { ts = []; last = maps; leads = refl }
  led_by maps (c ∷ cs) =
      let q = complete decls p formed sited (packet_of c) maps (λ k. 0) (λ k l is. pow_pos (cell_at p.cells k).width) in
      let r = led_by (after q.0 maps p.sites) cs in
      record { ts = touched q.0 maps p.sites ∷ r.ts; last = r.last; leads = (q.0, q.1.run, refl, r.leads) }

  pub runs_after : (maps last : MapState) (cs : List Arrival) (ts : List Touched) → Leads p maps cs ts last → AllRun p maps cs ts
  runs_after maps last [] [] h = tt
  runs_after maps last [] (t ∷ ts) h = absurd h
  runs_after maps last (c ∷ cs) [] h = absurd h
  runs_after maps last (c ∷ cs) (t ∷ ts) (v, run, touches, more) = (v, run, touches, runs_after (after v maps p.sites) last cs ts more)

-- ---- in turn too

-- runs with the same cells
pub same_run : ValuesKeep → (b : Build) (decls : List MapDecl) → ReadsArePlanned b → AreSited decls b.program → (packet : PacketIn) (m : MapState) (v w : ℕ → ℕ) → ((k : ℕ) → k < length b.program.cells → v k ≡ w k) → IsCellRun packet m b.program v → IsCellRun packet m b.program w
same_run keep b decls plan sited packet m v w same run = record {
  each = λ k l. subst (IsValue packet m b.program.sites w (cell_at b.program.cells k)) (same k l)
      (keep packet m b.program.sites v w k (cell_at b.program.cells k) (v k) (plan.planned.formed.each k l).earlier (λ j i e h. sited.below k j i l e h) (λ i h. same i (omega (arith, l, h))) (run.each k l));
}

module _ (elsewhere : RunsElsewhere) (complete : RunsComplete) (keep : ValuesKeep) (b : Build) (maps : MapState) (plan : ReadsArePlanned b) (fit : AllFit maps.decls b.program.sites) (sited : AreSited maps.decls b.program) (sound : IsSound maps) where
  abbrev p : ProgramView
  p = b.program

  module _ (n : ℕ) (before : List Arrival) (w : Arrival) (between : List Arrival) (y : Arrival) (later : List Arrival) (apart : (ts : List Touched) → AllRun b.program maps (before ++ (w ∷ (between ++ (y ∷ later)))) ts → ConflictFree n ts) (near : length between < n)
      (first : List Touched) (m : MapState) (leads : Leads b.program maps before first m) (u : ℕ → ℕ) (writer : IsCellRun (packet_of w) m b.program u) (s : ℕ) where
    abbrev midst : MapState
    midst = after u m (take s b.program.sites)

    abbrev left : MapState
    left = after u m b.program.sites

    m_sound : IsSound m × (m.decls ≡ maps.decls)
    m_sound = leads_sound p maps m fit before first leads sound

    fit_m : AllFit m.decls b.program.sites
    fit_m = subst (λ ds. AllFit ds p.sites) (sym m_sound.1) fit

    left_sound : IsSound (after u m b.program.sites) × ((after u m b.program.sites).decls ≡ m.decls)
    left_sound = after_sound u m p.sites m_sound.0 fit_m

    take_fit : (s : ℕ) (ss : List SiteView) (ds : List MapDecl) → AllFit ds ss → AllFit ds (take s ss)
    take_fit zero ss ds f j l = absurd (omega (arith, l))
    take_fit (suc s) [] ds f j l = f j l
    take_fit (suc s) (x ∷ ss) ds f zero l = f 0 (omega arith)
    take_fit (suc s) (x ∷ ss) ds f (suc j) l = take_fit s ss ds (λ i h. f (suc i) (omega (arith, h))) j (omega (arith, l))

    midst_sound : IsSound (after u m (take s b.program.sites)) × ((after u m (take s b.program.sites)).decls ≡ m.decls)
    midst_sound = after_sound u m (take s p.sites) m_sound.0 (take_fit s p.sites m.decls fit_m)

    btw : Led complete maps.decls b.program plan.planned.formed sited (after u m b.program.sites) between
    btw = led_by complete maps.decls p plan.planned.formed sited left between

    abbrev action : MapState
    action = btw.last

    action_sound : IsSound btw.last × (btw.last.decls ≡ (after u m b.program.sites).decls)
    action_sound = leads_sound p left btw.last (subst (λ ds. AllFit ds p.sites) (sym left_sound.1) fit_m) between btw.ts btw.leads left_sound.0

    action_decls : btw.last.decls ≡ maps.decls
    action_decls = action_sound.1 ∙ left_sound.1 ∙ m_sound.1

    midst_decls : (after u m (take s b.program.sites)).decls ≡ btw.last.decls
    midst_decls = midst_sound.1 ∙ m_sound.1 ∙ sym action_decls

    -- whatever run of the frame there is in its turn, it reads nothing that was written since
    unread : (x : ℕ → ℕ) → IsCellRun (packet_of y) btw.last b.program x → (r : Resource) → Contains (touched x btw.last b.program.sites).reads r → SameOf btw.last (after u m (take s b.program.sites)) r
    unread x run r has =
        let t = touched x btw.last p.sites in
        let rest = led_by complete maps.decls p plan.planned.formed sited (after x btw.last p.sites) later in
        let tail : AllRun p btw.last (y ∷ later) (t ∷ rest.ts) = (x, run, refl, runs_after complete maps.decls p plan.planned.formed sited (after x btw.last p.sites) rest.last later rest.ts rest.leads) in
        let mid : AllRun p left (between ++ (y ∷ later)) (btw.ts ++ (t ∷ rest.ts)) = leads_then p left btw.last between (y ∷ later) btw.ts (t ∷ rest.ts) btw.leads tail in
        let all = leads_then p maps m before (w ∷ (between ++ (y ∷ later))) first (touched u m p.sites ∷ (btw.ts ++ (t ∷ rest.ts))) leads (u, writer, refl, mid) in
        let a = apart_after p n first (touched u m p.sites ∷ (btw.ts ++ (t ∷ rest.ts))) (apart (first ++ (touched u m p.sites ∷ (btw.ts ++ (t ∷ rest.ts)))) all) in
        let long : length btw.ts ≡ length between = leads_long p left btw.last between btw.ts btw.leads in
        same_trans r btw.last left midst (unread_stays p n left btw.last between btw.ts rest.ts t (omega (arith, long, near)) a.1 btw.leads r has)
        (midst_keeps u s p.sites m r (λ wrote. reads_others p n (touched u m p.sites).writes btw.ts rest.ts t (omega (arith, long, near)) a.0 r has wrote))

    runs_in_turn_too : (v : ℕ → ℕ) → IsCellRun (packet_of y) (after u m (take s b.program.sites)) b.program v → RunsInTurnToo b.program (packet_of y) (after u m (take s b.program.sites)) (after u m b.program.sites) between v
    runs_in_turn_too v run =
        let given = complete maps.decls p plan.planned.formed sited (packet_of y) btw.last v (λ k l is. solves_fit (is_read (cell_at p.cells k).op) (packet_of y) v (cell_at p.cells k) (v k) is (run.each k l).solves) in
        let fit_action = subst (λ ds. AllFit ds p.sites) (sym action_decls) fit in
        let there = elsewhere b plan (packet_of y) btw.last midst given.0 midst_decls action_sound.0 midst_sound.0 fit_action given.1.run (unread given.0 given.1.run) in
        let one = complete maps.decls p plan.planned.formed sited (packet_of y) midst v (λ k l is. solves_fit (is_read (cell_at p.cells k).op) (packet_of y) v (cell_at p.cells k) (v k) is (run.each k l).solves) in
        let same : (k : ℕ) → k < length p.cells → given.0 k ≡ v k =
        λ k l. one.2 given.0 (record { run = there.0; aside = given.1.aside }) k l ∙ sym (one.2 v (record { run = run; aside = λ i j h e off. refl }) k l) in
        let in_turn = same_run keep b maps.decls plan sited (packet_of y) btw.last given.0 v same given.1.run in
        record {
          ts = btw.ts;
          action = btw.last;
          leads = btw.leads;
          run = in_turn;
          touches = (elsewhere b plan (packet_of y) btw.last midst v midst_decls action_sound.0 midst_sound.0 fit_action in_turn (unread v in_turn)).1;
        }

pub in_turn_too : RunsElsewhere → RunsComplete → ValuesKeep → InTurnToo
in_turn_too elsewhere complete keep b maps plan fit sited sound n before w between y later apart near first m leads u writer s v run =
    runs_in_turn_too elsewhere complete keep b maps plan fit sited sound n before w between y later apart near first m leads u writer s v run
