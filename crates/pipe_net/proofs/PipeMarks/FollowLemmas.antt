-- After a clock the registers hold the marks of the packets that stand in the places then.
use Rattle.std.specs.Prelude.{◌==◌, nat_lt, if◌then◌else◌, Option, Some, None, slice_index, map as map_list}
use Rattle.std.proofs.Common.{◌≡◌, ◌∙◌, ℕ, zero, suc, ◌<◌, ◌≤◌, Bool, true, false, ◌&&◌, ◌||◌, List, length, get_or, replicate, refl, sym, ap, subst, arith}
use Rattle.std.proofs.lemmas.Bool.{eqb-true, eqb-false}
use Rattle.std.proofs.lemmas.Bool.Decides.{nat_tests}
use Rattle.std.proofs.lemmas.List.{nil_from_length}
use Rattle.list_laws.proofs.PlaceLaws.{no_mark}
use Rattle.block_core.specs.net_core.declared.tree.Word.{Word}
use Rattle.block_core.specs.net_core.declared.ports.Inputs.{Inputs}
use Rattle.block_core.specs.net_core.Ports.{words_of}
use Rattle.block_core.specs.net_core.Value.{bit as bit_word, nothing, Env}
use Rattle.block_core.specs.net_core.Clock.{Stored, done}
use Rattle.block_core.specs.declared.name.Name.{Name}
use Rattle.block_core.specs.Blocks.{Whole, Among}
use Rattle.block_core.specs.Parts.{Sees}
use Rattle.hazard_core.specs.cell_core.Cells.{bit, on}
use Rattle.hazard_core.specs.cell_core.Formed.{AllFit}
use Rattle.hazard_core.specs.cell_core.Sites.{site_at, bytes_of}
use Rattle.hazard_core.specs.xdp_maps.declared.decl.MapDecl.{MapDecl}
use Rattle.turn_net.specs.cell_nets.declared.operand.Operand.{Operand}
use Rattle.turn_net.specs.cell_nets.Operands.{number_in}
use Rattle.hazard_core.specs.Tables.{TableState, decl_of}
use Rattle.hazard_core.specs.declared.change.Change.{Change}
use Rattle.hazard_core.specs.declared.pointer.Pointer.TheVariants.{Pending}
use Rattle.hazard_core.specs.StageValues.{access_pointer, pointer_operand}
use Rattle.hazard_core.specs.Commits.{change_by, host_change}
use Rattle.hazard_core.specs.Marks.{has_read, known_off, touches}
use Rattle.beat_core.specs.Ports.{Arrival}
use Rattle.hazard_core.specs.HeldRows.Fits.{IsMadeBefore}
use Rattle.turn_net.proofs.cell_nets_laws.StepNets.StepLaws.{on_bit}
use Rattle.pipe_core.specs.Machine.{Packet, State, Action, Commits, Writes, Moves, place_at, marked_at, injected, entered, marked_by, some_send, flushed, newcomer, marked_below, worked}
use Rattle.pipe_core.proofs.FlushLaws.{flushed_at}
use Rattle.read_net.specs.TouchNet.Touching.{ShowsChange, IsMade}
use Rattle.read_net.specs.declared.mark_net.nets.MarkSite.{MarkSite}
use Rattle.read_net.specs.MarkNet.Sites.{changes_map, is_touched, ShowMarkSites}
use Rattle.read_net.specs.MarkNet.Marks.{mark_before, mark_behind}
use Rattle.read_net.specs.MarkNet.Standing.{EnteringStands, EntersUnmarked, MarkingStands, MarksReadsAlone}
use Rattle.pipe_net.specs.declared.parts.Part.{Part}
use Rattle.pipe_net.specs.Parts as part
use Rattle.pipe_net.specs.Machine.{input_of}
use Rattle.pipe_net.specs.Layout.{Layout, IsSized, program_of, commit_of}
use Rattle.pipe_net.specs.Relation.{IsStored, read_sites, HoldsMarks, HoldMarks}
use Rattle.pipe_net.specs.Saying.{moves, action_in, change_of, is_host, is_on, ShowChanges}
use Rattle.pipe_net.specs.Standing.{ShowsHeld, ShowPackets}
use Rattle.pipe_net.specs.PipeMarks.Parts.{advances, comes_by, Unread, Read, IsMarkOf, IsMarkAt, AreMarkParts}
use Rattle.pipe_net.specs.PipeMarks.Following.{MarksAreFit, MarksFollow, MarksBegin}
use Rattle.pipe_net.proofs.PipeMarks.PlaceLemmas.{moved_at, newcomer_is, marked_by_any, seen_below, marked_by_at, clock_places}
use Rattle.pipe_net.proofs.PipeMarks.ReadLemmas.{bit_value, or_false, mapped, read_known, read_there, unread, unread_before, marked_by_past, access_at}
use Rattle.pipe_net.proofs.PipeMarks.ShownLemmas.{marks_among, by_last, register_count, memory_count, mark_value}

-- a test of equality may be turned
acted : (a b : ℕ) → (a == b) ≡ (b == a)
acted a b = by (a == b) (b == a) refl refl
  where
    by : (c e : Bool) → (a == b) ≡ c → (b == a) ≡ e → c ≡ e
    by true true f g = refl
    by true false f g = absurd (eqb-false b a g (sym (eqb-true a b f)))
    by false true f g = absurd (eqb-false a b f (sym (eqb-true b a g)))
    by false false f g = refl

not_below : (n : ℕ) → nat_lt n n ≡ false
not_below n = by (nat_lt n n) refl
  where
    by : (c : Bool) → nat_lt n n ≡ c → nat_lt n n ≡ false
    by true e = let lt : n < n = grind (arith, nat_tests) in absurd (omega (arith, lt))
    by false e = e

below_next : (n : ℕ) → nat_lt n (suc n) ≡ true
below_next n = let lt : n < suc n = omega arith in grind (arith, nat_tests)

module _
    (l : Layout) (d : Whole Part) (sized : IsSized l) (are : d.parts ≡ part.parts_of l.sizes) (parts : AreMarkParts l d) (ss : Part → Stored) (stored : (p : Part) → Among p d.parts → IsStored (d.block p) (ss p)) (i : Inputs) (v : Env (Name Part))
    (sees : Sees d (words_of i) ss v) (s : State) (hold : HoldMarks l s ss) (fit : MarksAreFit l d parts v) where
  -- what the parts store then
  abbrev behind : Part → Stored
  behind p = done v (d.block p).statement (ss p)

  abbrev registers : ℕ → List Word
  registers k = (behind (part.marks l.sizes k)).registers

  -- a site of a place
  abbrev site_of : ℕ → ℕ → ℕ
  site_of k n = slice_index (read_sites l k) n

  known : (k n : ℕ) → n < length (read_sites l k) → site_of k n < length (program_of l).sites
  known k n lt = read_known (program_of l) l.build.plan.row k n 0 lt

  -- a mark of a packet that stands in a place
  mark_of : (k j : ℕ) (w : k ≤ commit_of l) (x : Packet) → place_at s.places k ≡ Some x → j < length (program_of l).sites → (o : Operand (Name Part)) → IsMarkOf l k j o → known_off l.build.plan.row k x.held (site_at (program_of l).sites j) ≡ false
      → on (number_in v o) ≡ marked_at x j
  mark_of k j w x at lt o (Unread none is) off = ap (λ a. on (number_in v a)) is ∙ sym ((hold k x w at).others j (unread (program_of l) l.build.plan.row k j lt none))
  mark_of k j w x at lt o (Read n there same is) off =
      let off_there = ap (λ m. known_off l.build.plan.row k x.held (site_at (program_of l).sites m)) same ∙ off in
      let m = marked_at x (site_of k n) in
      ap (λ a. on (number_in v a)) is ∙ ap on (mark_value l d sized are parts ss stored i v sees k w n there m ((hold k x w at).each n there off_there)) ∙ on_bit m ∙ ap (marked_at x) same

  -- ---- packets move on
  module _ (advance : v.net (advances l) ≡ bit_word true) (entering : EnteringStands) (unmarked : EntersUnmarked) where
    taken : (k : ℕ) (w : k ≤ commit_of l) → registers k ≡ map_list (mark_before v) (parts k w).sites
    taken k w =
        let a = parts k w in
        ap (λ (x : Stored). x.registers) (a.block.moves v (ss (part.marks l.sizes k)) (fit k w).0 (sees.wires (part.marks l.sizes k) (marks_among l d sized are k w)) (register_count l d sized are parts ss stored k w)
        (nil_from_length _ (memory_count l d sized are parts ss stored k w)) advance)

    each_taken : (k n : ℕ) (w : k ≤ commit_of l) → n < length (read_sites l k) → (c : Bool) → ((m : MarkSite (Name Part)) → IsMarkAt l k n m → on (number_in v m.before) ≡ c) → get_or (registers k) n nothing ≡ bit_word c
    each_taken k n w lt c is =
        let a = parts k w in
        let there : n < length a.sites = omega (arith, lt, a.count) in
        ap (λ ws. get_or ws n nothing) (taken k w) ∙ mapped (mark_before v) (λ x. x ≡ bit_word c) a.sites n nothing there (λ m. ap bit_word (is (get_or a.sites n m) (a.each n m there)))

    pub first_enters : (t : TableState) (c : Arrival) → HoldsMarks l 0 (entered l.build t 0 c (injected (program_of l))) (registers 0)
    first_enters t c =
        let none : (j : ℕ) → marked_at (entered l.build t 0 c (injected (program_of l))) j ≡ false = λ j. unmarked l.build t 0 c (injected (program_of l)) j (no_mark (length (program_of l).sites) j) in
        record {
          each = λ n lt off. each_taken 0 n (omega arith) lt false (λ m is. ap (λ a. on (number_in v a)) is.before) ∙ ap bit_word (sym (none (site_of 0 n)));
          others = λ j e. none j;
        }

    pub next_enters : (k : ℕ) (w : suc k ≤ commit_of l) (t : TableState) (c : Arrival) (x : Packet) → place_at s.places k ≡ Some x → HoldsMarks l (suc k) (entered l.build t (suc k) c x) (registers (suc k))
    next_enters k w t c x at =
        let before : k ≤ commit_of l = omega (arith, w) in
        record {
          each = λ n lt off.
              let j = site_of (suc k) n in
              each_taken (suc k) n w lt (marked_at (entered l.build t (suc k) c x) j)
              (λ m is. entering l.build t k c x (λ _. on (number_in v m.before)) j (known (suc k) n lt) (mark_of k j before x at (known (suc k) n lt) m.before (subst (λ q. IsMarkOf l k q m.before) is.site is.before)) off);
          others = λ j e. unmarked l.build t (suc k) c x j ((hold k x before at).others j (unread_before (program_of l) l.build.plan.row k j e));
        }

  -- ---- packets stay, and a map may change
  module _
      (marking : MarkingStands) (alone : MarksReadsAlone) (shown : ShowPackets l s v) (fits : AllFit l.decls (program_of l).sites) (changes : ShowChanges l (input_of i) s v) (decls : s.tables.decls ≡ l.decls) where
    -- of a packet in its place, and of what it sees of the change
    module _
        (advance : v.net (advances l) ≡ bit_word false) (k : ℕ) (w : k ≤ commit_of l) (x : Packet) (at : place_at s.places k ≡ Some x) (seen : Option Change)
        (comes : (m : ℕ) → m < length l.decls → v.net (comes_by l k m) ≡ bit_word (is_on m seen)) (from : (e : Change) → seen ≡ Some e → change_of l.build s (action_in l.build (input_of i) s) ≡ Some e) where
      held : ShowsHeld l v k x.held
      held = shown k x (by_last l d sized are k w) at

      pending : (j u : ℕ) → access_pointer x.held (site_at (program_of l).sites j) ≡ Pending u → IsMadeBefore (program_of l) l.decls l.build.plan.row (suc k) u
      pending j u is = let c = access_at x.held (site_at (program_of l).sites j).operands (pointer_operand (site_at (program_of l).sites j).act) u is in held.fits.pending c.0 u c.1

      made : (n : ℕ) (m : MarkSite (Name Part)) → IsMarkAt l k n m → IsMade (program_of l) l.decls m.decl.now.key (access_pointer x.held (site_at (program_of l).sites m.site)) m.owns.now
      made n m is = record {
        among = λ u q same. is.all u (pending m.site u q) same;
        words = λ u q. (fits u (pending m.site u q).known).key;
      }

      on_seen : (j : ℕ) (e : Option Change) → is_on (site_at (program_of l).sites j).map e ≡ changes_map (program_of l) j e
      on_seen j None = refl
      on_seen j (Some e) = acted e.map (site_at (program_of l).sites j).map

      change_shown : (n : ℕ) (m : MarkSite (Name Part)) → IsMarkAt l k n m → decl_of l.decls (site_at (program_of l).sites m.site).map ≡ m.decl.now → (site_at (program_of l).sites m.site).map < length l.decls → (e : Change) → seen ≡ Some e
          → (site_at (program_of l).sites m.site).map ≡ e.map → ShowsChange v m.decl.now.key e m.change
      change_shown n m is decl there e some same =
          let c = changes (site_at (program_of l).sites m.site).map there in
          record {
            slot = ap (number_in v) is.slot ∙ c.slot e (from e some) (sym same);
            key = ap (λ (q : MapDecl). bytes_of q.key (map_list (number_in v) m.change.key.now)) (sym decl)
                ∙ ap (λ ks. bytes_of (decl_of l.decls (site_at (program_of l).sites m.site).map).key (map_list (number_in v) ks)) is.key ∙ c.key e (from e some) (sym same);
            presence = ap (number_in v) is.presence ∙ c.presence e (from e some) (sym same);
          }

      sites_shown : ShowMarkSites v (program_of l) l.decls x.held seen (parts k w).sites
      sites_shown n m0 lt =
          let a = parts k w in
          let m = get_or a.sites n m0 in
          let is = a.each n m0 lt in
          let site = (a.are n m0 lt).site in
          let small : m.site < length (program_of l).sites = subst (λ j. j < length (program_of l).sites) (sym is.site) (known k n (omega (arith, lt, a.count))) in
          let there = (fits m.site small).map in
          record {
            cells = is.nets.shown v x.held held;
            comes = ap (number_in v) is.comes ∙ ap (λ (b : Word). b.value) (comes (site_at (program_of l).sites m.site).map there) ∙ bit_value (is_on (site_at (program_of l).sites m.site).map seen) ∙ ap bit (on_seen m.site seen);
            change = change_shown n m is site.decl there;
            owns = λ q o has. let own = is.owns q o has in ap (map_list (number_in v)) own.key ∙ (own.at.shown v x.held held).asked.key;
            made = λ reads. made n m is;
          }

      stayed : registers k ≡ map_list (mark_behind v (program_of l) l.decls x.held seen) (parts k w).sites
      stayed =
          let a = parts k w in
          ap (λ (y : Stored). y.registers) (a.block.stays v (ss (part.marks l.sizes k)) x.held seen (fit k w).0 (sees.wires (part.marks l.sizes k) (marks_among l d sized are k w)) (register_count l d sized are parts ss stored k w)
          (nil_from_length _ (memory_count l d sized are parts ss stored k w)) advance sites_shown)

      stood : (n : ℕ) (m : MarkSite (Name Part)) → n < length (read_sites l k) → IsMarkAt l k n m → known_off l.build.plan.row k x.held (site_at (program_of l).sites (site_of k n)) ≡ false → on (number_in v m.was) ≡ marked_at x (site_of k n)
      stood n m lt is off =
          let c = marked_at x (site_of k n) in
          ap (λ a. on (number_in v a)) is.was ∙ ap on (mark_value l d sized are parts ss stored i v sees k w n lt c ((hold k x w at).each n lt off)) ∙ on_bit c

      stands : (e : Option Change) (n : ℕ) (m : MarkSite (Name Part)) → n < length (read_sites l k) → IsMarkAt l k n m → known_off l.build.plan.row k (marked_by_any l.build s.tables k e x).held (site_at (program_of l).sites (site_of k n)) ≡ false
          → (on (number_in v m.was) || is_touched (program_of l) l.decls x.held m.site e) ≡ marked_at (marked_by_any l.build s.tables k e x) (site_of k n)
      stands None n m lt is off = or_false (on (number_in v m.was)) ∙ stood n m lt is off
      stands (Some e) n m lt is off =
          ap (λ j. on (number_in v m.was) || touches (program_of l) l.decls x.held j e) is.site
          ∙ ap (λ ds. on (number_in v m.was) || touches (program_of l) ds x.held (site_of k n) e) (sym decls)
          ∙ marking l.build s.tables k e x (λ j. on (number_in v m.was)) (site_of k n) (known k n lt) (read_there (program_of l) l.build.plan.row k n 0 lt) (stood n m lt is) off

      none_elsewhere : (e : Option Change) (j : ℕ) → has_read (program_of l) l.build.plan.row k j ≡ false → marked_at (marked_by_any l.build s.tables k e x) j ≡ false
      none_elsewhere None j un = (hold k x w at).others j un
      none_elsewhere (Some e) j un = by (nat_lt j (length (program_of l).sites)) refl
        where
          by : (c : Bool) → nat_lt j (length (program_of l).sites) ≡ c → marked_at (marked_by l.build s.tables k e x) j ≡ false
          by true lt = let small : j < length (program_of l).sites = grind (arith, nat_tests) in alone l.build s.tables k e x j small un ∙ (hold k x w at).others j un
          by false past = let large : length (program_of l).sites ≤ j = grind (arith, nat_tests) in marked_by_past l.build s.tables k e x j large

      pub stays : HoldsMarks l k (marked_by_any l.build s.tables k seen x) (registers k)
      stays = record {
        each = λ n lt off.
            let a = parts k w in
            let there : n < length a.sites = omega (arith, lt, a.count) in
            let after = marked_at (marked_by_any l.build s.tables k seen x) (site_of k n) in
            ap (λ ws. get_or ws n nothing) stayed
            ∙ mapped (mark_behind v (program_of l) l.decls x.held seen) (λ b. b ≡ bit_word after) a.sites n nothing there (λ m. ap bit_word (stands seen n (get_or a.sites n m) lt (a.each n m there) off));
        others = none_elsewhere seen;
      }

    -- ---- what a packet sees of a change by the action of the clock: at the commit place the host's alone
    module _ (action : Action) (is : action_in l.build (input_of i) s ≡ action) (e : Change) (of_action : change_of l.build s action ≡ Some e) (to : ℕ) (low : commit_of l ≤ to) (high : nat_lt (commit_of l) to ≡ is_host action) where
      abbrev sees_at : ℕ → Option Change
      sees_at k = seen_below to k e

      from_action : (k : ℕ) (c : Change) → sees_at k ≡ Some c → change_of l.build s (action_in l.build (input_of i) s) ≡ Some c
      from_action k c some = ap (change_of l.build s) is ∙ of_action ∙ by (nat_lt k to) some
        where
          by : (b : Bool) → (if b then Some e else None) ≡ Some c → Some e ≡ Some c
          by true f = f
          by false f = cc

      guarded : (m : ℕ) (b : Bool) → (b && is_on m (Some e)) ≡ is_on m (if b then Some e else None)
      guarded m true = refl
      guarded m false = refl

      comes_at : (k : ℕ) → k ≤ commit_of l → (m : ℕ) → m < length l.decls → v.net (comes_by l k m) ≡ bit_word (is_on m (sees_at k))
      comes_at k w m lt = by (k == commit_of l) refl
        where
          by : (c : Bool) → (k == commit_of l) ≡ c → v.net (if c then (l.changes m).by_host else (l.changes m).any) ≡ bit_word (is_on m (sees_at k))
          by true same =
              let here : k ≡ commit_of l = eqb-true k (commit_of l) same in
              (changes m lt).by_host
              ∙ ap (λ u. bit_word (is_host u && is_on m (change_of l.build s u))) is
              ∙ ap (λ q. bit_word (is_host action && is_on m q)) of_action
              ∙ ap (λ b. bit_word (b && is_on m (Some e))) (sym high ∙ ap (λ n. nat_lt n to) (sym here))
              ∙ ap bit_word (guarded m (nat_lt k to))
          by false other =
              let ne = eqb-false k (commit_of l) other in
              let below : k < to = omega (arith, w, low, ne) in
              let yes : nat_lt k to ≡ true = grind (arith, nat_tests) in
              (changes m lt).any
              ∙ ap (λ u. bit_word (is_on m (change_of l.build s u))) is
              ∙ ap (λ q. bit_word (is_on m q)) of_action
              ∙ ap (λ b. bit_word (is_on m (if b then Some e else None))) (sym yes)

      pub mark_stands : v.net (advances l) ≡ bit_word false → (k : ℕ) → k ≤ commit_of l → (x : Packet) → place_at (marked_below to l.build s.tables e 0 (flushed l.build 0 s.places)) k ≡ Some x → HoldsMarks l k x (registers k)
      mark_stands advance k w x at =
          let q = marked_by_at to l.build s.tables e 0 k k (flushed l.build 0 s.places) x (omega arith) at in
          subst (λ y. HoldsMarks l k y (registers k)) (sym q.2) (stays advance k w q.0 (flushed_at l.build 0 s.places k q.0 q.1) (sees_at k) (comes_at k w) (from_action k))

    -- ---- each action
    module _ (entering : EnteringStands) (unmarked : EntersUnmarked) where
      pub holds_behind : (action : Action) → action_in l.build (input_of i) s ≡ action → v.net (advances l) ≡ bit_word (moves action) → (k : ℕ) (x : Packet) → k ≤ commit_of l
          → place_at (worked l.build s (some_send l.build 0 s.places) (flushed l.build 0 s.places) action).places k ≡ Some x → HoldsMarks l k x (registers k)
      holds_behind (Commits j y) is advance k x w at =
          mark_stands (Commits j y) is (change_by (program_of l) s.tables s.taken y.held j) refl (commit_of l) (omega arith) (not_below (commit_of l)) advance k w x at
      holds_behind (Writes a n) is advance k x w at = mark_stands (Writes a n) is (host_change s.tables a) refl (suc (commit_of l)) (omega arith) (below_next (commit_of l)) advance k w x at
      holds_behind Moves is advance zero x w at =
          let rest = flushed l.build 0 s.places in
          let back = some_send l.build 0 s.places in
          let q = moved_at l.build s.tables s.frames 0 0 0 (newcomer l.build back s.frames rest) rest x (omega arith) at in
          subst (λ y. HoldsMarks l 0 y (registers 0)) (sym q.3)
          (subst (λ y. HoldsMarks l 0 (entered l.build s.tables 0 q.1 y) (registers 0)) (sym (newcomer_is l.build back s.frames rest q.0 q.2)) (first_enters advance entering unmarked s.tables q.1))
      holds_behind Moves is advance (suc k) x w at =
          let rest = flushed l.build 0 s.places in
          let back = some_send l.build 0 s.places in
          let q = moved_at l.build s.tables s.frames 0 (suc k) (suc k) (newcomer l.build back s.frames rest) rest x (omega arith) at in
          subst (λ y. HoldsMarks l (suc k) y (registers (suc k))) (sym q.3) (next_enters advance entering unmarked k w s.tables q.1 q.0 (flushed_at l.build 0 s.places k q.0 q.2))

pub marks_follow : EnteringStands → EntersUnmarked → MarkingStands → MarksReadsAlone → MarksFollow
marks_follow entering unmarked marking alone l d sized parts are fits i s ss v hold sees stored fit shown advance changes decls k x w at =
    holds_behind l d sized are parts ss stored i v sees s hold fit marking alone shown fits changes decls entering unmarked (action_in l.build (input_of i) s) refl advance k x w (sym (ap (λ ps. place_at ps k) (clock_places l.build (input_of i) s)) ∙ at)

-- there is no packet at first
no_packet : (n k : ℕ) (x : Packet) → place_at (replicate n None) k ≡ Some x → ⊥
no_packet zero k x e = cc
no_packet (suc n) zero x e = cc
no_packet (suc n) (suc k) x e = no_packet n k x e

pub marks_begin : MarksBegin
marks_begin l maps ss k x w at = absurd (no_packet (suc l.build.plan.last) k x at)
