-- What clocks keep, from the first one on.
use Rattle.std.specs.Prelude.{◌≡◌, ℕ, ◌<◌, ◌≤◌, List, [], ◌∷◌, length}
use Rattle.std.proofs.Common.{sym, ap, ◌∙◌, subst, arith, inl, inr}
use Rattle.std.proofs.lemmas.Bool.{cases_lt}
use Rattle.std.proofs.lemmas.List.{get_or_past}
use Rattle.hazard_core.specs.xdp_maps.Contents.{IsBytes}
use Rattle.block_core.specs.net_core.declared.ports.Inputs.{Inputs}
use Rattle.block_core.specs.net_core.Ports.{words_of}
use Rattle.block_core.specs.net_core.Clock.{Stored, shown}
use Rattle.block_core.specs.net_core.Trace.{IsInput}
use Rattle.block_core.specs.Blocks.{Whole}
use Rattle.block_core.specs.Parts.{stored_of}
use Rattle.hazard_core.specs.cell_core.Formed.{AllFit}
use Rattle.hazard_core.specs.Tables.{decl_of, table_at, slot_at}
use Rattle.pipe_core.specs.Machine.{State, output, flushed, host_ready, is_idle, host_writes}
use Rattle.pipe_core.specs.History.{Trace, next, begin, KeepsOrder, IsAlwaysInOrder}
use Rattle.pipe_core.specs.Computed.{KeepsComputed, IsAlwaysComputed}
use Rattle.pipe_core.proofs.FlushLaws.{flushed_at}
use Rattle.pipe_net.specs.declared.parts.Part.{Part}
use Rattle.pipe_net.specs.Machine.{input_of, MayCome, Shows}
use Rattle.pipe_net.specs.Layout.{Layout, program_of, last_of, commit_of}
use Rattle.pipe_net.specs.Relation.{most_slots}
use Rattle.pipe_net.specs.PipePlaces.Layout.{IsLaidOut}
use Rattle.pipe_net.specs.PipePlaces.Following.{AreServed}
use Rattle.pipe_net.specs.PipePlaces.Entries.{AccessesLead, EntriesFollow, EntriesBegin, EntriesServe}
use Rattle.pipe_net.specs.PipeTurns.Acting.{IsRightAction}
use Rattle.pipe_net.specs.PipeForms.Parts.{design}
use Rattle.pipe_net.specs.PipeMaps.Keys.{KeysFollow, KeysBegin}
use Rattle.pipe_net.specs.PipeClocks.Following.{IsPipeline, IsFollowable, ClocksShow, ClocksFollow, BeginRelated}
use Rattle.pipe_net.specs.PipeClocks.Standing.{Stands, IsRightClock, GoesOn, ClocksGoOn, PipelinesStart, FollowsAll, PipelinesFollow}
use Rattle.pipe_net.proofs.PipeClocks.Actions.{commits_at}

pub record StandingLaws : Type 0 where
  pub show : ClocksShow
  pub follow : ClocksFollow
  pub begins : BeginRelated
  pub order : KeepsOrder
  pub computes : KeepsComputed
  pub in_order : IsAlwaysInOrder
  pub computed : IsAlwaysComputed
  pub keys : KeysFollow
  pub first_keys : KeysBegin
  pub entries : EntriesFollow
  pub first_entries : EntriesBegin
  pub serve : EntriesServe

module _ (laws : StandingLaws) (l : Layout) (d : Whole Part) (names : List (List ℕ)) (pipe : IsPipeline l d) (leads : AccessesLead l.build) where
  abbrev laid : IsLaidOut l
  laid = pipe.parts.stages.laid

  module _ (i : Inputs) (t : Trace) (ss : Part → Stored) (right : IsRightClock l i t.state) (h : Stands l d t ss) where
    abbrev s : State
    s = t.state

    abbrev decls : s.tables.decls ≡ l.decls
    decls = h.related.maps.decls

    -- ---- the tables can be read by the packets inside
    short : (m : ℕ) → length (table_at s.tables m) ≤ most_slots
    short m = elim (cases_lt m (length l.decls)) [
      | inl lt ↦
          let e = h.keys.bytes.shaped.counts m (subst (λ ds. m < length ds) (sym decls) lt) ∙ ap (λ ds. (decl_of ds m).cap) decls in
          subst (λ n. n ≤ most_slots) (sym e) (laid.room m lt).most
      | inr past ↦
          let n = h.keys.bytes.shaped.beside ∙ ap length decls in
          let e = ap length (get_or_past s.tables.tables m [] (omega (arith, n, past))) in
          omega (arith, e)
    ]

    bytes_in : (m n : ℕ) → m < length l.decls → n < length (table_at s.tables m) → IsBytes (decl_of l.decls m).value (slot_at (table_at s.tables m) n).value
    bytes_in m n lt within = subst (λ ds. IsBytes (decl_of ds m).value (slot_at (table_at s.tables m) n).value) decls (h.keys.bytes.each m n (subst (λ ds. m < length ds) (sym decls) lt) within).value

    served : AreServed l s
    served = record {
      short = short;
      each = λ k x le e. record { tables = right.tables k x le e; values = bytes_in; entries = laws.serve l leads t ss h.computed h.related.packets h.pointers k x le e };
    }

    -- ---- what commits
    commit_within : commit_of l ≤ last_of l
    commit_within = let a = pipe.parts.sized.small.commit in let b = pipe.parts.sized.commit in let c = pipe.parts.sized.last in omega (arith, a, b, c)

    right_action : IsRightAction l i s
    right_action = record {
      tables = λ j x e.
          right.tables (commit_of l) x commit_within
          (flushed_at l.build 0 s.places (commit_of l) x (commits_at l.build s (flushed l.build 0 s.places) j x (host_writes (host_ready l.build s) (is_idle s) s.tables (input_of i).host) e));
      commits = right.commits;
    }

    followable : IsFollowable l i s
    followable = record { served = served; right = right_action; keys = h.keys }

    fits : AllFit s.tables.decls (program_of l).sites
    fits = subst (λ ds. AllFit ds (program_of l).sites) (sym decls) laid.staged.fits

    pub shows : IsInput i → Shows (output l.build (input_of i) s) (shown (design l d names) (words_of i) (stored_of d ss))
    shows within = laws.show l d names pipe i t ss h.order h.computed within followable h.related

    pub goes_on : MayCome l.build s i → GoesOn l d names i t ss
    unfolding next
    goes_on come =
        let f = laws.follow l d names pipe i t ss h.order h.computed come followable h.related in
        record {
          follows = f;
          stands = record {
            order = laws.order l.build (input_of i) t h.order;
            computed = laws.computes l.build laid.planned (input_of i) t h.order h.computed;
            related = f.related;
            keys = laws.keys l.build (input_of i) s fits right.commits h.keys;
            pointers = laws.entries l laid i t ss h.order h.related.packets h.pointers;
          };
        }

  -- ---- clock after clock
  pub all_clocks : (is : List Inputs) (t : Trace) (ss : Part → Stored) → Stands l d t ss → FollowsAll l d names is t (stored_of d ss)
  all_clocks [] t ss h = tt
  all_clocks (i ∷ is) t ss h = (
    λ within right. shows i t ss right h within,
    λ come right.
        let g = goes_on i t ss right h come in
        (g.follows.goes, subst (FollowsAll l d names is (next l.build (input_of i) t)) (sym g.follows.after) (all_clocks is (next l.build (input_of i) t) g.follows.next g.stands)),
  )

pub clocks_go_on : StandingLaws → ClocksGoOn
clocks_go_on laws l d names pipe leads i t ss come right h = goes_on laws l d names pipe leads i t ss right h come

pub pipelines_start : StandingLaws → PipelinesStart
pipelines_start laws l d names maps pipe first =
    let b = laws.begins l d names maps pipe first.decls first.first in
    record {
      first = b.first;
      stored = b.stored;
      stands = record {
        order = laws.in_order l.build maps [];
        computed = laws.computed l.build pipe.parts.stages.laid.planned maps [];
        related = b.related;
        keys = laws.first_keys maps first.sound;
        pointers = laws.first_entries l maps;
      };
    }

pub pipelines_follow : StandingLaws → PipelinesFollow
pipelines_follow laws l d names maps pipe leads first is =
    let b = pipelines_start laws l d names maps pipe first in
    subst (FollowsAll l d names is (begin l.build maps)) (sym b.stored) (all_clocks laws l d names pipe leads is (begin l.build maps) b.first b.stands)
