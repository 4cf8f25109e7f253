-- What a clock changes, as the parts of maps show it.
use Rattle.std.specs.Prelude.{Some}
use Rattle.std.proofs.Common.{◌≡◌, ℕ, ◌^◌, ◌<◌, ◌==◌, Bool, true, false, ◌&&◌, ◌||◌, List, length, map as map_list, refl, sym, ◌∙◌, ap, subst, arith}
use Rattle.std.proofs.lemmas.Bool.{eq-eqb}
use Rattle.block_core.specs.net_core.declared.tree.Word.{Word}
use Rattle.block_core.specs.net_core.declared.ports.Inputs.{Inputs}
use Rattle.block_core.specs.net_core.Ports.{words_of}
use Rattle.block_core.specs.net_core.Value.{word, bit, Env}
use Rattle.block_core.specs.net_core.Clock.{Stored}
use Rattle.block_core.specs.declared.name.Name.{Name}
use Rattle.block_core.specs.Blocks.{Whole}
use Rattle.block_core.specs.Parts.{Solve}
use Rattle.hazard_core.specs.xdp_maps.declared.decl.MapKind.{MapKind}
use Rattle.hazard_core.specs.xdp_maps.declared.decl.MapKind.TheVariants.{Hash, Array}
use Rattle.hazard_core.specs.xdp_maps.Contents.{IsBytes}
use Rattle.hazard_core.specs.cell_core.Sites.{ProgramView, site_at, bytes_of}
use Rattle.turn_net.specs.cell_nets.Operands.{number_in}
use Rattle.hazard_core.specs.declared.access.Access.{Access}
use Rattle.hazard_core.specs.declared.change.Change.{Change}
use Rattle.hazard_core.specs.Tables.{decl_of, table_at, slot_at}
use Rattle.hazard_core.specs.declared.slot.Slot.{Slot}
use Rattle.hazard_core.specs.Tabled.{IsFilledTable}
use Rattle.hazard_core.specs.Commits.{change_by, host_change, written_slot}
use Rattle.hazard_core.specs.Changes.{IsRightCommit}
use Rattle.read_net.specs.hash_net.Hash.{StoresHash}
use Rattle.read_net.specs.array_net.Hosts.{SeesHost}
use Rattle.read_net.specs.TouchNet.Touching.{ShowsChange}
use Rattle.commit_net.specs.Wholes.{slot_before}
use Rattle.commit_net.specs.ChangeNet.Changes.{ShowsKey_as, ShowsKey, IsCommitting, IsNaming}
use Rattle.commit_net.specs.MapBlock.Parts.{SolveAll}
use Rattle.commit_net.specs.MapBlock.Stored.{StoresAs, SeesStored}
use Rattle.commit_net.specs.MapBlock.Laws.{SeesParts}
use Rattle.turn_net.specs.HostNet.Laws.{WritesItsNumber}
use Rattle.turn_net.specs.Actions.{RecordsAlone}
use Rattle.turn_net.specs.TargetNet.Commits.{commits_on}
use Rattle.pipe_core.specs.Machine as machine
use Rattle.pipe_core.specs.Machine.{Packet, State, Action, Moves, Writes, Build}
use Rattle.pipe_net.specs.declared.parts.Part.{Part}
use Rattle.pipe_net.specs.Parts as part
use Rattle.pipe_net.specs.Machine.{input_of, access_in}
use Rattle.pipe_net.specs.Layout.{Layout, program_of}
use Rattle.pipe_net.specs.Saying.{action_in, is_host, change_of, is_on, ShowsChangeOf}
use Rattle.pipe_net.specs.PipeTurns.Maps.{decl_at}
use Rattle.pipe_net.specs.PipeTurns.Parts.{AreActionParts}
use Rattle.pipe_net.specs.PipeTurns.Acting.{site_of}
use Rattle.pipe_net.specs.PipeMaps.Parts.{commits_net, parts_at, ArePartsOfMap}
use Rattle.pipe_net.specs.PipeMaps.Premises.{HasMaps, IsMapClock}
use Rattle.pipe_net.specs.PipeMaps.Saying.{ChangesAreShown}
use Rattle.pipe_net.proofs.PipeMaps.AmongLemmas.{map_among}
use Rattle.pipe_net.proofs.PipeMaps.ActionLemmas.{hosts_action}
use Rattle.pipe_net.proofs.PipeMaps.OperationLemmas.{commits}
use Rattle.pipe_net.proofs.PipeMaps.SeenLemmas.{are_solved, sees_host}
use Rattle.pipe_net.proofs.PipeMaps.StandLemmas.{named, bytes_at, small, slots_are}
use Rattle.pipe_net.proofs.PipeMaps.ClockLemmas.{says, host_says, fits}

or_false : (a : Bool) → (a || false) ≡ a
or_false true = refl
or_false false = refl

-- ---- the map of the change
change_map : (b : Build) (s : State) (j : ℕ) (x : Packet) → (change_by b.program s.tables s.taken x.held j).map ≡ (site_at b.program.sites j).map
unfolding change_by
change_map b s j x = refl

changes_on : (b : Build) (s : State) (t : Action) (named m : ℕ) → ((a : Access) (n : ℕ) → t ≡ Writes a n → named ≡ a.map) → (commits_on b.program (site_of t) m || (is_host t && (named == m))) ≡ is_on m (change_of b s t)
changes_on b s (machine.Commits j x) named m h = or_false ((site_at b.program.sites j).map == m) ∙ ap (λ n. n == m) (sym (change_map b s j x))
changes_on b s (Writes a n) named m h = ap (λ n. n == m) (h a n refl)
changes_on b s Moves named m h = refl

hosts_on : (b : Build) (s : State) (t : Action) (named m : ℕ) → ((a : Access) (n : ℕ) → t ≡ Writes a n → named ≡ a.map) → (is_host t && (named == m)) ≡ (is_host t && is_on m (change_of b s t))
hosts_on b s (machine.Commits j x) named m h = refl
hosts_on b s (Writes a n) named m h = ap (λ n. n == m) (h a n refl)
hosts_on b s Moves named m h = refl

module _ (seen : SeesParts Part) (alone : RecordsAlone) (number : WritesItsNumber) (l : Layout) (d : Whole Part) (action : AreActionParts l d) (is : HasMaps l d action) (i : Inputs) (s : State) (ss : Part → Stored) (v : Env (Name Part)) (k : IsMapClock l d action is.parts i s ss v) (m : ℕ)
    (there : m < length l.decls) where
  abbrev p : ProgramView
  p = program_of l

  abbrev parts : ArePartsOfMap l d action m
  parts = is.parts.maps m there

  abbrev shown : Change → Type 0
  shown e = ShowsChange v (decl_at l m).key e parts.change_nets

  solved : SolveAll v (parts_at l m) parts.trees × SeesStored (part.own l.sizes m) v (ss (part.own l.sizes m))
  solved = are_solved l d action is m there seen (words_of i) ss v k.sees

  written_solved : Solve v (part.written l.sizes m) 0 (d.block (part.written l.sizes m)).wires
  written_solved = k.sees.wires (part.written l.sizes m) (map_among l d is.sized is.places m 4 there (omega arith))

  change_solved : Solve v (part.change l.sizes m) 0 (d.block (part.change l.sizes m)).wires
  change_solved = k.sees.wires (part.change l.sizes m) (map_among l d is.sized is.places m 5 there (omega arith))

  -- the key in a slot, by the net that gives its number
  key_in : (n : ℕ) → n < length (table_at s.tables m) → v.net parts.slot ≡ word (l.slot_bits m) n → ShowsKey v (decl_at l m) parts.keys n (slot_at (table_at s.tables m) n)
  key_in n lt at = by_kind (decl_at l m).kind refl
    where
      slots : List Slot
      slots = table_at s.tables m

      own : Stored
      own = ss (part.own l.sizes m)

      by_kind : (c : MapKind) → (decl_at l m).kind ≡ c → ShowsKey_as (decl_at l m).kind v (decl_at l m) parts.keys n (slot_at slots n)
      by_kind Hash e =
          let stores : StoresHash (decl_at l m) (l.slot_bits m) slots own = subst (λ c. StoresAs c (decl_at l m) (l.slot_bits m) slots own) e (k.held.tables m there) in
          let count = slots_are l s.tables k.held.decls k.keys m there in
          subst (λ c. ShowsKey_as c v (decl_at l m) parts.keys n (slot_at slots n)) (sym e)
          (λ w o less. ap (λ (y : Word). y.value) (parts.written.keys v own slots n w o e written_solved solved.1.memories stores (ap (λ (y : Word). y.value) at) (omega (arith, lt, count)) less))
      by_kind Array e =
          let kind : (decl_of s.tables.decls m).kind ≡ Array = ap (λ ds. (decl_of ds m).kind) k.held.decls ∙ e in
          let filled : IsFilledTable Array slots = subst (λ c. IsFilledTable c slots) kind (k.keys.filled m (subst (λ ds. m < length ds) (sym k.held.decls) there)) in
          subst (λ c. ShowsKey_as c v (decl_at l m) parts.keys n (slot_at slots n)) (sym e) (filled n lt)

  -- ---- an operation of the packet at the commit place
  module _ (j : ℕ) (x : Packet) (e : action_in l.build (input_of i) s ≡ machine.Commits j x) (on : (site_at p.sites j).map ≡ m) where
    abbrev n : ℕ
    n = written_slot p s.tables s.taken x.held j

    right : IsRightCommit p s.tables s.taken x.held j
    right = k.right.commits j x e

    within : n < length (table_at s.tables m)
    within = subst (λ c. n < length (table_at s.tables c)) on right.slot

    acts : v.net (commits_net l d action m) ≡ bit true
    acts = says l d action is i s ss v k m there _ e ∙ ap bit (eq-eqb (site_at p.sites j).map m on)

    is_small : n < 2 ^ l.slot_bits m
    is_small = small l s.tables k.held.decls k.keys m there parts.form_fits n within

    in_slot : v.net parts.slot ≡ word (l.slot_bits m) n
    in_slot =
        let operation = commits alone l d action is i s ss v k j x e m there on in
        parts.written.committed v n (k.fit m there).written written_solved acts (parts.map.does.finds v p s.tables s.taken x.held j (k.fit m there).operations solved.0 operation is_small)

    key : ShowsKey v (decl_at l m) parts.keys n (slot_before p s.tables s.taken x.held j)
    key = subst (λ c. ShowsKey v (decl_at l m) parts.keys n (slot_at (table_at s.tables c) n)) (sym on) (key_in n within in_slot)

    committing : IsCommitting v p s.tables s.taken x.held j (decl_at l m) (l.slot_bits m) parts.operations (commits_net l d action m) parts.slot parts.keys
    committing = record {
      operation = commits alone l d action is i s ss v k j x e m there on;
      acts = acts;
      in_slot = in_slot;
      declared = ap (decl_of s.tables.decls) on ∙ ap (λ ds. decl_of ds m) k.held.decls;
      fits = fits alone l d action is i s ss v k j x e;
      right = right;
      key = key;
      bytes = λ other. subst (λ c. IsBytes (decl_at l m).key (slot_at (table_at s.tables c) n).key) (sym on) (bytes_at l s.tables k.held.decls k.keys m there n within).key;
    }

    committed : shown (change_by p s.tables s.taken x.held j)
    committed = parts.change.committed v p s.tables s.taken x.held j parts.change_nets (k.fit m there).change change_solved committing parts.stands

  -- ---- the host
  hosted : (a : Access) (w : ℕ) → action_in l.build (input_of i) s ≡ Writes a w → a.map ≡ m → shown (host_change s.tables a)
  hosted a w e on =
      let acted = hosts_action number l.build i s a w e in
      let name = named (machine.is_idle s) s.tables a acted.may in
      let lt : a.index < length (table_at s.tables m) = subst (λ c. a.index < length (table_at s.tables c)) on name.index in
      let host : SeesHost v a i.host_data = subst (λ a. SeesHost v a i.host_data) (sym acted.access) (sees_host d i ss v k.sees) in
      let idle = says l d action is i s ss v k m there _ e in
      let at = parts.written.addressed v a i.host_data (k.fit m there).written written_solved idle host (small l s.tables k.held.decls k.keys m there parts.form_fits a.index lt) in
      let naming : IsNaming v s.tables a (decl_at l m) (l.slot_bits m) (commits_net l d action m) parts.slot parts.keys = record {
        idle = idle;
        in_slot = at;
        key = subst (λ c. ShowsKey v (decl_at l m) parts.keys a.index (slot_at (table_at s.tables c) a.index)) (sym on) (key_in a.index lt at);
        bytes = subst (λ c. IsBytes (decl_at l m).key (slot_at (table_at s.tables c) a.index).key) (sym on) (bytes_at l s.tables k.held.decls k.keys m there a.index lt).key;
      } in
      parts.change.written v s.tables a parts.change_nets (k.fit m there).change change_solved naming parts.stands

  -- ---- all of it
  shows : (t : Action) → action_in l.build (input_of i) s ≡ t → (e : Change) → change_of l.build s t ≡ Some e → e.map ≡ m → shown e
  shows (machine.Commits j x) is_action e q on = let same : change_by p s.tables s.taken x.held j ≡ e = cc in subst shown same (committed j x is_action (sym (change_map l.build s j x) ∙ ap (λ (c : Change). c.map) same ∙ on))
  shows (Writes a w) is_action e q on = let same : host_change s.tables a ≡ e = cc in subst shown same (hosted a w is_action (ap (λ (c : Change). c.map) same ∙ on))
  shows Moves is_action e q on = cc

  names : (t : Action) → action_in l.build (input_of i) s ≡ t → (a : Access) (n : ℕ) → t ≡ Writes a n → i.host_map ≡ a.map
  names t e a n q = sym (ap (λ (a : Access). a.map) (hosts_action number l.build i s a n (e ∙ q)).access)

  change_shown : ShowsChangeOf l (input_of i) s v m
  change_shown =
      let t = action_in l.build (input_of i) s in
      let host = sees_host d i ss v k.sees in
      let acts = says l d action is i s ss v k m there t refl in
      let writes = host_says l d action is i s ss v k m there t refl in
      let fit = (k.fit m there).change in
      let stands = parts.stands in
      record {
        any = parts.change.says_any v (access_in i) i.host_data (commits_on p (site_of t) m) (is_host t) fit change_solved host acts writes ∙ ap bit (changes_on l.build s t i.host_map m (names t refl));
        by_host = parts.change.says_host v (access_in i) i.host_data (is_host t) fit change_solved host writes ∙ ap bit (hosts_on l.build s t i.host_map m (names t refl));
        slot = λ e q on. ap (number_in v) (sym stands.slot_is) ∙ (shows t refl e q on).slot;
        key = λ e q on. ap (λ (o : _). bytes_of (decl_at l m).key (map_list (number_in v) o)) (sym stands.key_is) ∙ (shows t refl e q on).key;
        presence = λ e q on. ap (number_in v) (sym stands.presence_is) ∙ (shows t refl e q on).presence;
      }

pub changes_are_shown : SeesParts Part → RecordsAlone → WritesItsNumber → ChangesAreShown
changes_are_shown seen alone number = λ l d action is i s ss v k m there. change_shown seen alone number l d action is i s ss v k m there
