-- The tables after a clock.
use Rattle.std.specs.Prelude.{if◌then◌else◌}
use Rattle.std.proofs.Common.{◌≡◌, ◌≢◌, ℕ, ◌<◌, ◌==◌, Bool, true, false, length, refl, sym, ◌∙◌, ap, subst}
use Rattle.std.proofs.lemmas.Bool.{eqb-true, eqb-false, eq-eqb}
use Rattle.block_core.specs.net_core.declared.ports.Inputs.{Inputs}
use Rattle.block_core.specs.net_core.Ports.{words_of}
use Rattle.block_core.specs.net_core.Value.{bit, Env}
use Rattle.block_core.specs.net_core.Clock.{Stored, done}
use Rattle.block_core.specs.declared.name.Name.{Name}
use Rattle.block_core.specs.Blocks.{BlockTree, Whole}
use Rattle.hazard_core.specs.xdp_maps.Contents.{IsBytes}
use Rattle.hazard_core.specs.cell_core.Sites.{ProgramView, site_at}
use Rattle.hazard_core.specs.declared.access.Access.{Access}
use Rattle.hazard_core.specs.Tables.{TableState, decl_of, table_at, slot_at}
use Rattle.hazard_core.specs.Commits.{committed, host_written, written_slot}
use Rattle.hazard_core.specs.Changes.{IsRightCommit}
use Rattle.read_net.specs.array_net.Hosts.{SeesHost}
use Rattle.commit_net.specs.Wholes.{WritesSlot}
use Rattle.commit_net.specs.Laws.{IsCommit, CommitsOneSlot}
use Rattle.commit_net.specs.MapBlock.Parts.{SolveAll, with_slot_net}
use Rattle.commit_net.specs.MapBlock.Stored.{StoresMap, SeesStored}
use Rattle.commit_net.specs.MapBlock.Laws.{SeesParts}
use Rattle.turn_net.specs.HostNet.Laws.{WritesItsNumber}
use Rattle.turn_net.specs.Actions.{RecordsAlone}
use Rattle.pipe_core.specs.Machine as machine
use Rattle.pipe_core.specs.Machine.{Packet, State, Action, Moves, Writes, is_idle, clock}
use Rattle.pipe_net.specs.declared.parts.Part.{Part}
use Rattle.pipe_net.specs.Parts as part
use Rattle.pipe_net.specs.Machine.{input_of}
use Rattle.pipe_net.specs.Layout.{Layout, program_of}
use Rattle.pipe_net.specs.Saying.{action_in}
use Rattle.pipe_net.specs.PipeTurns.Maps.{decl_at}
use Rattle.pipe_net.specs.PipeTurns.Parts.{writes_net, AreActionParts}
use Rattle.pipe_net.specs.PipeMaps.Parts.{commits_net, control_at, parts_at, ArePartsOfMap}
use Rattle.pipe_net.specs.PipeMaps.Premises.{HasMaps, IsMapClock}
use Rattle.pipe_net.specs.PipeMaps.Tables.{HoldTables, TablesFollow}
use Rattle.pipe_net.proofs.PipeMaps.ActionLemmas.{tables_by, clock_tables, hosts_action}
use Rattle.pipe_net.proofs.PipeMaps.OperationLemmas.{is_writing, commits}
use Rattle.pipe_net.proofs.PipeMaps.SeenLemmas.{are_solved, is_map_of, sees_host}
use Rattle.pipe_net.proofs.PipeMaps.StandLemmas.{bytes_at}
use Rattle.pipe_net.proofs.PipeMaps.ClockLemmas.{says, host_says, fits}

module _ (seen : SeesParts Part) (alone : RecordsAlone) (number : WritesItsNumber) (one_slot : CommitsOneSlot) (l : Layout) (d : Whole Part) (action : AreActionParts l d) (is : HasMaps l d action) (i : Inputs) (s : State) (ss : Part → Stored) (v : Env (Name Part))
    (k : IsMapClock l d action is.parts i s ss v) where
  abbrev p : ProgramView
  p = program_of l

  abbrev after : Part → Stored
  after q = done v (d.block q).statement (ss q)

  -- ---- one map
  module _ (m : ℕ) (there : m < length l.decls) where
    abbrev parts : ArePartsOfMap l d action m
    parts = is.parts.maps m there

    abbrev Stores : TableState → Stored → Type 0
    Stores t x = StoresMap (decl_at l m) (l.slot_bits m) (table_at t m) x

    solved : SolveAll v (parts_at l m) parts.trees × SeesStored (part.own l.sizes m) v (ss (part.own l.sizes m))
    solved = are_solved l d action is m there seen (words_of i) ss v k.sees

    of_block : (t : TableState) → Stores t (done v parts.trees.stores.statement (ss (part.own l.sizes m))) → Stores t (after (part.own l.sizes m))
    of_block t h = subst (λ (b : BlockTree (Name Part)). Stores t (done v b.statement (ss (part.own l.sizes m)))) (sym parts.blocks.3) h

    unwritten : v.net (commits_net l d action m) ≡ bit false → v.net (writes_net l) ≡ bit false → Stores s.tables (after (part.own l.sizes m))
    unwritten none silent = of_block s.tables (subst (Stores s.tables) (sym (parts.map.does.stays v (ss (part.own l.sizes m)) solved.0 none silent)) (k.held.tables m there))

    -- the host writes
    hosted : (a : Access) (n : ℕ) → action_in l.build (input_of i) s ≡ Writes a n → Stores (host_written s.tables a n) (after (part.own l.sizes m))
    hosted a n e =
        let w = hosts_action number l.build i s a n e in
        let host : SeesHost v a n = subst (λ a. SeesHost v a n) (sym w.access) (subst (SeesHost v _) (sym w.number) (sees_host d i ss v k.sees)) in
        let written = parts.map.does.written v (ss (part.own l.sizes m)) s.tables a n (is_idle s) solved.0 solved.1 (is_map_of l d action is m there s.tables k.held.decls) (k.held.tables m there) host (says l d action is i s ss v k m there _ e) (host_says l d action is i s ss v k m there _ e) k.host.idle in
        of_block (host_written s.tables a n) (subst (λ c. Stores (if c then host_written s.tables a n else s.tables) (done v parts.trees.stores.statement (ss (part.own l.sizes m)))) w.may written)

    -- an operation of the packet at the commit place commits
    module _ (j : ℕ) (x : Packet) (e : action_in l.build (input_of i) s ≡ machine.Commits j x) where
      abbrev right : IsRightCommit p s.tables s.taken x.held j
      right = k.right.commits j x e

      elsewhere : (site_at p.sites j).map ≢ m → Stores (committed p s.tables s.taken x.held j) (after (part.own l.sizes m))
      elsewhere off =
          let none : v.net (commits_net l d action m) ≡ bit false = says l d action is i s ss v k m there _ e ∙ ap bit (no_test (site_at p.sites j).map m off) in
          subst (λ slots. StoresMap (decl_at l m) (l.slot_bits m) slots (after (part.own l.sizes m))) (sym ((one_slot p s.tables s.taken x.held j right).others m (λ same. off (sym same)))) (unwritten none (host_says l d action is i s ss v k m there _ e))
        where
          no_test : (a b : ℕ) → a ≢ b → (a == b) ≡ false
          no_test a b n = by (a == b) refl
            where
              by : (c : Bool) → (a == b) ≡ c → c ≡ false
              by true e = absurd (n (eqb-true a b e))
              by false e = refl

      module _ (on : (site_at p.sites j).map ≡ m) where
        within : written_slot p s.tables s.taken x.held j < length (table_at s.tables m)
        within = subst (λ n. written_slot p s.tables s.taken x.held j < length (table_at s.tables n)) on right.slot

        writes_slot : WritesSlot p s.tables s.taken x.held j (decl_at l m)
        writes_slot = record {
          declared = ap (decl_of s.tables.decls) on ∙ ap (λ ds. decl_of ds m) k.held.decls;
          fits = fits alone l d action is i s ss v k j x e;
          shaped = k.keys.bytes.shaped;
          right = right;
          value = subst (λ n. IsBytes (decl_at l m).value (slot_at (table_at s.tables n) (written_slot p s.tables s.taken x.held j)).value) (sym on) (bytes_at l s.tables k.held.decls k.keys m there (written_slot p s.tables s.taken x.held j) within).value;
        }

        here : Stores (committed p s.tables s.taken x.held j) (after (part.own l.sizes m))
        here =
            let t = committed p s.tables s.taken x.held j in
            let own = ss (part.own l.sizes m) in
            let before : StoresMap (decl_at l m) (l.slot_bits m) (table_at s.tables (site_at p.sites j).map) own = subst (λ n. StoresMap (decl_at l m) (l.slot_bits m) (table_at s.tables n) own) (sym on) (k.held.tables m there) in
            let commit : IsCommit v p s.tables s.taken x.held j (decl_at l m) parts.operations (with_slot_net (control_at l d action m) parts.trees.slot) = record { fit = (k.fit m there).operations; operation = commits alone l d action is i s ss v k j x e m there on; slot = writes_slot; commits = says l d action is i s ss v k m there _ e ∙ ap bit (eq-eqb (site_at p.sites j).map m on); silent = host_says l d action is i s ss v k m there _ e } in
            let stores = parts.map.does.commits v own p s.tables s.taken x.held j solved.0 solved.1 before (is_writing alone l d action is i s ss v k j x e) commit in
            of_block t (subst (λ n. StoresMap (decl_at l m) (l.slot_bits m) (table_at t n) (done v parts.trees.stores.statement own)) on stores)

      done_by : Stores (committed p s.tables s.taken x.held j) (after (part.own l.sizes m))
      done_by = by ((site_at p.sites j).map == m) refl
        where
          by : (c : Bool) → ((site_at p.sites j).map == m) ≡ c → Stores (committed p s.tables s.taken x.held j) (after (part.own l.sizes m))
          by true q = here (eqb-true (site_at p.sites j).map m q)
          by false q = elsewhere (eqb-false (site_at p.sites j).map m q)

  -- ---- all of them
  commit_decls : (j : ℕ) (x : Packet) → IsRightCommit p s.tables s.taken x.held j → (committed p s.tables s.taken x.held j).decls ≡ s.tables.decls
  commit_decls j x right = (one_slot p s.tables s.taken x.held j right).decls

  host_decls : (a : Access) (n : ℕ) → (host_written s.tables a n).decls ≡ s.tables.decls
  unfolding host_written
  host_decls a n = refl

  by_action : (t : Action) → action_in l.build (input_of i) s ≡ t → HoldTables l (tables_by l.build s t) after
  by_action (machine.Commits j x) e = record { decls = commit_decls j x (k.right.commits j x e) ∙ k.held.decls; tables = λ m there. done_by m there j x e }
  by_action (Writes a n) e = record { decls = host_decls a n ∙ k.held.decls; tables = λ m there. hosted m there a n e }
  by_action Moves e = record { decls = k.held.decls; tables = λ m there. unwritten m there (says l d action is i s ss v k m there _ e) (host_says l d action is i s ss v k m there _ e) }

  follow : HoldTables l (clock l.build (input_of i) s).tables after
  follow = subst (λ t. HoldTables l t after) (sym (clock_tables l.build (input_of i) s)) (by_action (action_in l.build (input_of i) s) refl)

pub tables_follow : SeesParts Part → RecordsAlone → WritesItsNumber → CommitsOneSlot → TablesFollow
tables_follow seen alone number one_slot = λ l d action is i s ss v k. follow seen alone number one_slot l d action is i s ss v k
