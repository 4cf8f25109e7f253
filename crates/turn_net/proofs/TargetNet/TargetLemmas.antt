-- What operations write, so far.
use Rattle.std.proofs.Common.{◌≡◌, ◌∙◌, ℕ, zero, suc, ◌+◌, ◌^◌, ◌<◌, ◌≤◌, All, List, [], ◌∷◌, ◌++◌, length, get_or, sym, ap, subst, arith}
use Rattle.std.proofs.lemmas.List.{get_or-map, length-map}
use Rattle.std.proofs.lemmas.List.Elements.{All-append}
use Rattle.net_core.specs.Value.{Env}
use Rattle.block_core.specs.declared.name.Name.{Name}
use Rattle.block_core.specs.Blocks.{BlockWireTree}
use Rattle.hazard_core.specs.cell_core.Cells.{bit}
use Rattle.hazard_core.specs.cell_core.Sites.{ProgramView}
use Rattle.hazard_core.specs.Tables.{TableState, table_at}
use Rattle.hazard_core.specs.StageValues.{StageValues, written_pointer}
use Rattle.hazard_core.specs.Commits.{written_slot, makes_entry}
use Rattle.cell_nets.specs.declared.operand.Operand.{Operand}
use Rattle.cell_nets.specs.Operands.{number_in, IsAvailable}
use Rattle.cell_nets.specs.Wires.{Gives}
use Rattle.overlay_net.specs.declared.site_operands.Pending.{Pending}
use Rattle.overlay_net.specs.SiteOperands.Pointers.{pointer_number}
use Rattle.overlay_net.specs.Seen.{read_of, all_read}
use Rattle.commit_net.specs.declared.target.TakenSlot.{TakenSlot}
use Rattle.commit_net.specs.Targets.{slots_of, ShowsWritten, ShowsTarget as AsksTarget}
use Rattle.cell_nets.specs.StepNets.Standing.{Stands}
use Rattle.cell_nets.proofs.StepNets.ChainLaws.{starts, next}
use Rattle.read_net.specs.declared.sites.OwnSite.{OwnSite}
use Rattle.read_net.specs.Sites.{sites_of, IsOwn}
use Rattle.turn_net.specs.declared.target_net.targets.Target.{Target}
use Rattle.turn_net.specs.TargetNet.Targets.{all_of, written_of, ShowsFree, FindsSlot, ShowsTarget, ShowTargets, AsksTargets}
use Rattle.turn_net.proofs.TargetNet.StandLemmas.{left_of, right_of, first_of, tail_of, one_of, stands_as, next_if, each_more, mapped_at}

-- ---- operands
module _ {N : Type 0} (Q : Operand N → Type 0) where
  pub all_push : (ds : List (Target N)) (d : Target N) → All Q (all_of ds) → Q d.slot → Q d.makes → All Q (all_of (ds ++ d ∷ []))
  all_push [] d h a b = first_of Q d.slot (d.makes ∷ []) a (one_of Q d.makes b)
  all_push (e ∷ ds) d h a b =
      first_of Q e.slot (e.makes ∷ all_of (ds ++ d ∷ [])) (h 0 e.slot (omega arith))
      (first_of Q e.makes (all_of (ds ++ d ∷ [])) (h 1 e.slot (omega arith)) (all_push ds d (λ n o l. h (suc (suc n)) o (omega (arith, l))) a b))

  -- the pointers to the entries are among what the operations read
  pub written_there : (ds : List (Pending N)) → All Q (all_read ds) → All Q (written_of ds)
  written_there [] h n o l = absurd (omega (arith, l))
  written_there (d ∷ ds) h zero o l = h 1 o (omega arith)
  written_there (d ∷ ds) h (suc n) o l = written_there ds (right_of Q (read_of d) (all_read ds) h) n o (omega (arith, l))

-- ---- one operation after another
module _ {P : Type 0} (part : P) (bits : ℕ) (rs : List (OwnSite (Name P))) (es : List (Pending (Name P))) (free : Operand (Name P)) (ss : List (TakenSlot (Name P))) (p : ProgramView) (t : TableState) (took : List ℕ) (h : StageValues) (m : ℕ) where
  abbrev pub args : List (Operand (Name P))
  args = written_of es ++ free ∷ slots_of ss

  abbrev pub Needs : Env (Name P) → Type 0
  Needs v = AsksTargets v p t took h m rs es free ss

  abbrev pub Knows : List (Target (Name P)) → ℕ → Env (Name P) → Type 0
  Knows ds i v = Needs v × ((n : ℕ) (s : OwnSite (Name P)) (d : Target (Name P)) → n < i → ShowsTarget v p t took h ss (get_or rs n s).site (get_or ds n d))

  abbrev pub Far : List (BlockWireTree (Name P)) → List (BlockWireTree (Name P)) → List (Target (Name P)) → ℕ → Type 0
  Far old new ds i = Stands part old new args Needs (all_of ds ++ args) (Knows ds i)

  pub far_none : (ws : List (BlockWireTree (Name P))) → Far ws ws [] 0
  far_none ws = stands_as args (Knows [] 0) (starts part ws args Needs) (λ ins a. a) (λ v n. (n, λ k s d lt. absurd (omega (arith, lt))))

  module _ (i : ℕ) (s : OwnSite (Name P)) (e : Pending (Name P)) (lt : i < length rs) (is : s ≡ get_or rs i s) (there : i < length es) (as_seen : e ≡ get_or es i e) (own : IsOwn p m s) (room : length (table_at t m) ≤ 2 ^ bits) where
    pub written_here : (v : Env (Name P)) → Needs v → ShowsWritten v p t h s.site e.written
    written_here v n =
        let site : get_or (sites_of rs) i 0 ≡ s.site = get_or-map (λ (o : OwnSite (Name P)). o.site) rs i s 0 lt ∙ ap (λ (o : OwnSite (Name P)). o.site) (sym is) in
        ap (λ (o : Pending (Name P)). number_in v o.written) as_seen
        ∙ (n.pending.each i e (omega (arith, lt, length-map rs (λ (o : OwnSite (Name P)). o.site)))).written
        ∙ ap (λ j. pointer_number (written_pointer p t h j)) site

    pub asks : (v : Env (Name P)) → Needs v → FindsSlot p t took h ss s.site → AsksTarget v p t took h s.site bits e.written free ss
    asks v n f = record {
      written = written_here v n;
      free = subst (λ k. ShowsFree v (table_at t k) free) (sym own.map) (n.first (omega (arith, lt)));
      taken = n.taken;
      made = f.made;
      within = f.within;
      room = subst (λ k. length (table_at t k) ≤ 2 ^ bits) (sym own.map) room;
    }

    pub far_more :
        (old mid low new : List (BlockWireTree (Name P))) (ds : List (Target (Name P))) (d : Target (Name P)) → Far old mid ds i → length ds ≡ i
        → Gives part mid low (e.written ∷ free ∷ slots_of ss) (λ v. AsksTarget v p t took h s.site bits e.written free ss) (λ v. written_slot p t took h s.site) bits d.slot
        → Gives part low new (e.written ∷ []) (λ v. ShowsWritten v p t h s.site e.written) (λ v. bit (makes_entry p t h s.site)) 1 d.makes → Far old new (ds ++ d ∷ []) (i + 1)
    far_more old mid low new ds d x count y z =
        let w = written_of es in
        let others = free ∷ slots_of ss in
        let pointer = λ (Q : Operand (Name P) → Type 0) (a : All Q args). mapped_at Q (λ (o : Pending (Name P)). o.written) es i e there as_seen (left_of Q w others a) in
        let first =
        next_if x y
        (λ ins a.
        let Q = IsAvailable ins in
        let r = right_of Q (all_of ds) args a in
        first_of Q e.written others (pointer Q r) (right_of Q w others r)) in
        let second =
        next first z
        (λ ins a.
        let Q = IsAvailable ins in
        one_of Q e.written (pointer Q (right_of Q (all_of ds) args (tail_of Q d.slot (all_of ds ++ args) a))))
        (λ v f k. written_here v k.0.0) in
        stands_as (all_of (ds ++ d ∷ []) ++ args) (Knows (ds ++ d ∷ []) (i + 1)) second
        (λ ins a.
        let Q = IsAvailable ins in
        let r = tail_of Q d.slot (all_of ds ++ args) (tail_of Q d.makes (d.slot ∷ all_of ds ++ args) a) in
        All-append Q (all_of (ds ++ d ∷ [])) args (all_push Q ds d (left_of Q (all_of ds) args r) (a 1 d.slot (omega arith)) (a 0 d.slot (omega arith))) (right_of Q (all_of ds) args r))
        (λ v k. (k.0.0.0, each_more (λ (o : OwnSite (Name P)) (g : Target (Name P)). ShowsTarget v p t took h ss o.site g) rs ds i s d count lt is k.0.0.1 (record { slot = λ f. k.0.1 (asks v k.0.0.0 f); makes = k.1 })))

  -- all of them
  pub far_all : (old new : List (BlockWireTree (Name P))) (ds : List (Target (Name P))) (i : ℕ) → i ≡ length rs → Far old new ds i → Stands part old new args Needs (all_of ds ++ args) (λ v. ShowTargets v p t took h ss rs ds)
  far_all old new ds i e x = stands_as (all_of ds ++ args) (λ v. ShowTargets v p t took h ss rs ds) x (λ ins a. a) (λ v k n s d lt. k.1 n s d (omega (arith, lt, e)))
