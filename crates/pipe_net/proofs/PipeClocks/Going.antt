-- No divisor in a clock is 0.
use Rattle.std.specs.Prelude.{◌≡◌, ℕ, ◌<◌, ◌≤◌, is_some, drop, length}
use Rattle.std.proofs.Common.{sym, subst, refl, arith}
use Rattle.hazard_core.specs.xdp_maps.declared.decl.MapKind.{MapKind}
use Rattle.hazard_core.specs.xdp_maps.declared.decl.MapKind.TheVariants.{Hash, Array}
use Rattle.block_core.specs.net_core.declared.ports.Inputs.{Inputs}
use Rattle.block_core.specs.net_core.Value.{Env}
use Rattle.block_core.specs.net_core.Clock.{Stored}
use Rattle.block_core.specs.declared.name.Name.{Name}
use Rattle.block_core.specs.Blocks.{BlockTree, Whole, Among}
use Rattle.block_core.specs.Parts.{Solve, Goes}
use Rattle.commit_net.specs.MapBlock.Parts.{SolveAll, Each, AreParts as AreMapParts}
use Rattle.pipe_core.specs.Machine.{State, place_at, some_send}
use Rattle.pipe_core.specs.History.{Trace}
use Rattle.turn_net.specs.Actions.{Signals}
use Rattle.turn_net.specs.Action.{SeesAction}
use Rattle.pipe_net.specs.declared.parts.Part.{Part}
use Rattle.pipe_net.specs.Parts as part
use Rattle.pipe_net.specs.Parts.{part_count}
use Rattle.pipe_net.specs.Machine.{input_of}
use Rattle.pipe_net.specs.Layout.{Layout, program_of, commit_of, last_of}
use Rattle.pipe_net.specs.Saying.{action_in, is_host}
use Rattle.pipe_net.specs.PipeTurns.Maps.{decl_at, IsSlotsPart}
use Rattle.pipe_net.specs.PipeTurns.Parts.{action_nets}
use Rattle.pipe_net.specs.PipeMaps.Parts.{ArePartsOfMap, parts_at}
use Rattle.pipe_net.specs.PipePlaces.Layout.{load_sites}
use Rattle.pipe_net.specs.PipeForms.Parts.{AreParts}
use Rattle.pipe_net.proofs.PipeForms.SortLaws.{Sort, Scatter, Reload, Returns, Sources, Slots, Word, Place, Targets, Host, Action, Commits, OfMap, Control, Marks, Value, Gather, Exit, PartOfMap, Finder, Fetcher, Asker, Own, Written, Change, sort, is_there}
use Rattle.pipe_net.proofs.PipeClocks.Fits.{are_fit}
use Rattle.pipe_net.proofs.PipeClocks.Some.{fetched_some}
use Rattle.pipe_net.proofs.PipeClocks.Clock as clock
use Rattle.pipe_net.proofs.PipeClocks.Clock.{ClockLaws, IsSeen}

module _ (laws : ClockLaws) (l : Layout) (d : Whole Part) (i : Inputs) (t : Trace) (ss : Part → Stored) (v : Env (Name Part)) (h : IsSeen l d i t ss v) where
  abbrev parts : AreParts l d
  parts = h.pipe.parts

  abbrev s : State
  s = t.state

  abbrev PartGoes : Part → Type 0
  PartGoes p = Goes v (d.block p).wires

  has : (k : ℕ) → k < part_count l.sizes → Among (part.part k) d.parts
  has k lt = is_there l.sizes d parts.parts k lt

  -- ---- the action
  abbrev signals : Signals
  signals = record {
    present = is_some (place_at s.places (commit_of l));
    back = some_send l.build (commit_of l) (drop (commit_of l) s.places);
    host = is_host (action_in l.build (input_of i) s);
  }

  action_goes : Among (part.action l.sizes) d.parts → PartGoes (part.action l.sizes)
  action_goes a =
      let r = clock.returns laws l d i t ss v h in
      let low : commit_of l ≤ last_of l = (clock.has_maps laws l d i t ss v h).within in
      let sees : SeesAction (part.action l.sizes) (action_nets l) l.records (d.block (part.action l.sizes)) signals (ss (part.action l.sizes)) v = record {
        present = r.holds (commit_of l) low;
        back = r.back (commit_of l) (omega arith);
        host = (clock.host laws l d i t ss v h).writes;
        fit = (clock.actions_fit laws l d i t ss v h).records;
        registers = λ k lt. h.sees.register (part.action l.sizes) k a lt;
        wires = h.sees.wires (part.action l.sizes) a;
      } in
      parts.actions.action.goes signals s.done s.taken (ss (part.action l.sizes)) v h.related.maps.action sees

  -- ---- the parts of a map
  slots_go : (m : ℕ) → IsSlotsPart l d m → PartGoes (part.slots l.sizes m)
  slots_go m is = by (decl_at l m).kind refl
    where
      by : (k : MapKind) → (decl_at l m).kind ≡ k → PartGoes (part.slots l.sizes m)
      by Hash e = (is.hash e).goes v
      by Array e = subst (λ (b : BlockTree (Name Part)). Goes v b.wires) (sym (is.array e)) tt

  module _ (m : ℕ) (in_maps : m < l.sizes.maps) (w : m < length l.decls) where
    abbrev of_map : ArePartsOfMap l d parts.actions m
    of_map = parts.maps.maps m w

    has_at : (at : ℕ) → at < 6 → Among (part.of_map l.sizes m at) d.parts
    has_at at lt = has _ (omega (arith, lt, in_maps))

    wires_at : (p : Part) (b : BlockTree (Name Part)) → Among p d.parts → d.block p ≡ b → Solve v p 0 b.wires
    wires_at p b a e = subst (λ (x : BlockTree (Name Part)). Solve v p 0 x.wires) e (h.sees.wires p a)

    all_wires : SolveAll v (parts_at l m) of_map.trees
    all_wires = (
      wires_at _ _ (has_at 0 (omega arith)) of_map.blocks.0,
      wires_at _ _ (has_at 1 (omega arith)) of_map.blocks.1,
      wires_at _ _ (has_at 2 (omega arith)) of_map.blocks.2,
      wires_at _ _ (has_at 3 (omega arith)) of_map.blocks.3,
    )

    all_go : Each (λ p b. Goes v b.wires) (parts_at l m) of_map.trees
    all_go =
        let of = of_map.map.formed in
        let is : AreMapParts d (parts_at l m) of_map.trees = record { among = (has_at 0 (omega arith), has_at 1 (omega arith), has_at 2 (omega arith), has_at 3 (omega arith)); blocks = of_map.blocks } in
        let ops = ((clock.all laws l d i t ss v h).maps m w).operations in
        let fit = are_fit d v (clock.widths laws l d i t ss v h) _ (record { widths = of.declared d is ops.widths; there = of.there d is ops.there }) (fetched_some l d parts (clock.formed laws l d i t ss v h) m w) in
        of.goes v fit all_wires

    at_block : (p : Part) (b : BlockTree (Name Part)) → d.block p ≡ b → Goes v b.wires → PartGoes p
    at_block p b e g = subst (λ (x : BlockTree (Name Part)). Goes v x.wires) (sym e) g

    abbrev GoesAt : ℕ → Type 0
    GoesAt at = PartGoes (part.of_map l.sizes m at)

    map_goes : (at : ℕ) → PartOfMap at → GoesAt at
    map_goes at (Finder e) = subst GoesAt (sym e) (at_block (part.finder l.sizes m) of_map.trees.finds of_map.blocks.0 all_go.0)
    map_goes at (Fetcher e) = subst GoesAt (sym e) (at_block (part.fetcher l.sizes m) of_map.trees.fetches of_map.blocks.1 all_go.1)
    map_goes at (Asker e) = subst GoesAt (sym e) (at_block (part.asker l.sizes m) of_map.trees.asks of_map.blocks.2 all_go.2)
    map_goes at (Own e) = subst GoesAt (sym e) (at_block (part.own l.sizes m) of_map.trees.stores of_map.blocks.3 all_go.3)
    map_goes at (Written e) = subst GoesAt (sym e) (of_map.written.words_of.goes v (clock.maps_fit laws l d i t ss v h m w).written (h.sees.wires (part.written l.sizes m) (has_at 4 (omega arith))))
    map_goes at (Change e) = subst GoesAt (sym e) (of_map.change.wiring.goes v (clock.maps_fit laws l d i t ss v h m w).change (h.sees.wires (part.change l.sizes m) (has_at 5 (omega arith))))

  -- ---- all parts
  in_decls : (m : ℕ) → m < l.sizes.maps → m < length l.decls
  in_decls m lt = let e = parts.sized.maps in omega (arith, lt, e)

  in_commit : (k : ℕ) → k ≤ l.sizes.commit → k ≤ commit_of l
  in_commit k le = let e = parts.sized.commit in omega (arith, le, e)

  in_last : (k : ℕ) → k ≤ l.sizes.last → k ≤ last_of l
  in_last k le = let e = parts.sized.last in omega (arith, le, e)

  in_loads : (j : ℕ) → j < l.sizes.loads → j < length (load_sites (program_of l))
  in_loads j lt = let e = parts.stages.laid.loads in omega (arith, lt, e)

  one_goes : (p : Part) → Among p d.parts → Sort l.sizes p → PartGoes p
  one_goes p a (Scatter e) = subst PartGoes (sym e) (parts.frames.scatter.goes v)
  one_goes p a (Reload k le e) =
      let w = in_commit k le in
      subst PartGoes (sym e) ((parts.marks k w).reload.wiring.goes v (clock.marks_fit laws l d i t ss v h k w).1 (h.sees.wires (part.reload k) (subst (λ q. Among q d.parts) e a)))
  one_goes p a (Returns e) = subst PartGoes (sym e) (parts.frames.returns.goes v)
  one_goes p a (Sources e) = subst PartGoes (sym e) (parts.frames.sources.goes v)
  one_goes p a (Slots m lt e) = subst PartGoes (sym e) (slots_go m (parts.actions.writes m (in_decls m lt)).slots)
  one_goes p a (Word j lt e) =
      let w = in_loads j lt in
      subst PartGoes (sym e) ((parts.stages.words j w).block.goes v ((clock.places_fit laws l d i t ss v h).words j w) (h.sees.wires (part.word l.sizes j) (subst (λ q. Among q d.parts) e a)))
  one_goes p a (Place k le e) =
      let w = in_last k le in
      subst PartGoes (sym e) ((parts.stages.places k w).block.goes v ((clock.places_fit laws l d i t ss v h).places k w) (h.sees.wires (part.place l.sizes k) (subst (λ q. Among q d.parts) e a)))
  one_goes p a (Targets m lt e) =
      let w = in_decls m lt in
      subst PartGoes (sym e) ((parts.actions.writes m w).block.wiring.goes v ((clock.actions_fit laws l d i t ss v h).targets m w) (h.sees.wires (part.targets l.sizes m) (subst (λ q. Among q d.parts) e a)))
  one_goes p a (Host e) = subst PartGoes (sym e) (parts.actions.host.goes v)
  one_goes p a (Action e) = subst PartGoes (sym e) (action_goes (subst (λ q. Among q d.parts) e a))
  one_goes p a (Commits e) =
      subst PartGoes (sym e) (parts.actions.says.wiring.goes v (clock.actions_fit laws l d i t ss v h).chosen (h.sees.wires (part.commits l.sizes) (subst (λ q. Among q d.parts) e a)))
  one_goes p a (OfMap m at lt one e) = subst PartGoes (sym e) (map_goes m lt (in_decls m lt) at one)
  one_goes p a (Control e) = subst PartGoes (sym e) (parts.frames.control.goes v)
  one_goes p a (Marks k le e) =
      let w = in_commit k le in
      subst PartGoes (sym e) ((parts.marks k w).block.goes v (clock.marks_fit laws l d i t ss v h k w).0 (h.sees.wires (part.marks l.sizes k) (subst (λ q. Among q d.parts) e a)))
  one_goes p a (Value e) = subst PartGoes (sym e) (parts.maps.value.block.goes v)
  one_goes p a (Gather e) = subst PartGoes (sym e) (parts.frames.gather.goes v)
  one_goes p a (Exit e) = subst PartGoes (sym e) (subst (Goes v) (sym parts.frames.exit.wires) tt)

  pub all_parts_go : (p : Part) → Among p d.parts → PartGoes p
  all_parts_go p a = one_goes p a (sort l.sizes p (subst (Among p) parts.parts a))
