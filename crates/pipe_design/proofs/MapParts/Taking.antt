-- One operation after another, by the record sites of the program.
use Rattle.std.specs.Prelude.{◌≢◌, slice_index}
use Rattle.std.specs.List.{filter}
use Rattle.std.proofs.Common.{◌≡◌, ◌∙◌, ℕ, ◌+◌, ◌<◌, true, false, List, [], ◌∷◌, ◌++◌, length, get_or, sym, ap, arith}
use Rattle.std.proofs.lemmas.Bool.{eq-eqb, ne_eqb}
use Rattle.std.proofs.lemmas.Grind.{get_or_default_zero}
use Rattle.std.proofs.lemmas.List.{length-map, length_push, take_all}
use Rattle.block_core.proofs.list_laws_laws.PlaceLaws.{each_more}
use Rattle.block_core.specs.declared.name.Name.{Name}
use Rattle.hazard_core.specs.cell_core.Sites.{ProgramView, site_at}
use Rattle.hazard_core.specs.cell_core.View.{site_of}
use Rattle.overlay_net.specs.cell_nets.declared.operand.Operand.{Operand}
use Rattle.overlay_net.specs.declared.site_operands.SiteNets.{SiteNets}
use Rattle.commit_net.specs.declared.choosing.CommitNets.{CommitNets}
use Rattle.turn_net.specs.Actions.{record_sites}
use Rattle.turn_net.specs.declared.target_net.targets.Target.{Target}
use Rattle.pipe_net.specs.declared.parts.Part.{Part}
use Rattle.pipe_net.specs.PipeTurns.Maps.{records_on}
use Rattle.pipe_parts.specs.declared.pipe_draft.pipeline_plan.PipelinePlan.{PipelinePlan}
use Rattle.pipe_parts.specs.PipeDraft.PipelinePlan.{program_in, IsPipelinePlan}
use Rattle.pipe_parts.proofs.TurnParts.SiteLaws.{record_known}
use Rattle.pipe_design.specs.MapParts.Operations.{IsOperation, AreOperations}
use Rattle.pipe_design.proofs.MapParts.Listing.{passed, passed_more, passed_same, next_is}
use Rattle.pipe_design.proofs.MapParts.Operating.{is_on}

-- ---- the i-th record site of a pipeline plan is one of its program
module _ (d : PipelinePlan) (is : IsPipelinePlan d) (i n : ℕ) (lt : i < length d.records.items) (at : n ≡ get_or d.records.items i n) where
  pub number_is : n ≡ get_or (record_sites (program_in d)) i 0
  number_is = at ∙ get_or_default_zero d.records.items i n lt ∙ ap (λ js. get_or js i 0) is.records

  pub number_known : n < length d.program.now.sites.items
  number_known = omega (arith, number_is, record_known (program_in d) i 0 (omega (arith, lt, ap length is.records)), length-map d.program.now.sites.items site_of)

  pub number_on : (m s : ℕ) → s ≡ (site_at (program_in d).sites n).map → s ≡ m → is_on (program_in d) m (get_or (record_sites (program_in d)) i 0) ≡ true
  number_on m s e h = eq-eqb (site_at (program_in d).sites (get_or (record_sites (program_in d)) i 0)).map m (ap (λ j. (site_at (program_in d).sites j).map) (sym number_is) ∙ sym e ∙ h)

  pub number_off : (m s : ℕ) → s ≡ (site_at (program_in d).sites n).map → s ≢ m → is_on (program_in d) m (get_or (record_sites (program_in d)) i 0) ≡ false
  number_off m s e h = ne_eqb (site_at (program_in d).sites (get_or (record_sites (program_in d)) i 0)).map m (λ same. h (e ∙ ap (λ j. (site_at (program_in d).sites j).map) number_is ∙ same))

module _ (p : ProgramView) (sites : List (SiteNets (Name Part))) (chosen : List (Operand (Name Part))) (outs : List (Target (Name Part))) (m : ℕ) where
  abbrev js : List ℕ
  js = record_sites p

  -- the first i record sites have such operations
  pub record HaveTaken (i : ℕ) (all : List (CommitNets (Name Part))) : Type 0 where
    pub count : length all ≡ passed (is_on p m) js i
    pub each : (n : ℕ) (c : CommitNets (Name Part)) → n < length all → IsOperation p sites chosen outs m n (get_or all n c)

  module _ (i : ℕ) (all : List (CommitNets (Name Part))) (taken : HaveTaken i all) (lt : i < length js) where
    -- ---- the next one is on the map
    module _ (on : is_on p m (get_or js i 0) ≡ true) where
      there : length all < length (records_on p m)
      there = omega (arith, (next_is (is_on p m) js i lt on).there, taken.count)

      here : slice_index (records_on p m) (length all) ≡ get_or js i 0
      here = ap (slice_index (records_on p m)) taken.count ∙ (next_is (is_on p m) js i lt on).is

      pub record IsTakenBy (x : CommitNets (Name Part)) : Type 0 where
        pub act : x.act ≡ (site_at p.sites (get_or js i 0)).act
        pub nets : (s : SiteNets (Name Part)) → x.nets.now ≡ get_or sites (get_or js i 0) s
        pub target : (t : Target (Name Part)) → x.target ≡ (get_or outs (length all) t).slot
        pub makes : (t : Target (Name Part)) → x.makes ≡ (get_or outs (length all) t).makes
        pub chosen_is : (o : Operand (Name Part)) → x.chosen ≡ get_or chosen i o

      pub taken_more : (x : CommitNets (Name Part)) → IsTakenBy x → HaveTaken (i + 1) (all ++ x ∷ [])
      taken_more x by =
          let operation : IsOperation p sites chosen outs m (length all) x = record {
            act = by.act ∙ ap (λ j. (site_at p.sites j).act) (sym here);
            nets = λ s. by.nets s ∙ ap (λ j. get_or sites j s) (sym here);
            target = by.target;
            makes = by.makes;
            place = i;
            there = lt;
            site = sym here;
            chosen_is = by.chosen_is;
          } in
          let long : length (all ++ x ∷ []) ≡ length all + 1 = length_push all x in
          record {
            count = omega (arith, long, taken.count, passed_more (is_on p m) js i lt on);
            each = λ n c l. each_more (IsOperation p sites chosen outs m) all (length all) x (omega arith) taken.each operation n c (omega (arith, l, long));
          }

    -- ---- it is not
    pub taken_same : is_on p m (get_or js i 0) ≡ false → HaveTaken (i + 1) all
    taken_same off = record { count = omega (arith, taken.count, passed_same (is_on p m) js i lt off); each = taken.each }

  -- all of them
  pub taken_all : (i : ℕ) (all : List (CommitNets (Name Part))) → HaveTaken i all → i ≡ length js → AreOperations p sites chosen outs m all
  taken_all i all taken whole = record { count = taken.count ∙ ap (λ ks. length (filter (is_on p m) ks)) (take_all i js (omega (arith, whole))); each = taken.each }

-- of a record site on the map there is still something among what its operations write
pub room :
    (d : PipelinePlan) (is : IsPipelinePlan d) (i n : ℕ) (lt : i < length d.records.items) (at : n ≡ get_or d.records.items i n) (sites : List (SiteNets (Name Part))) (chosen : List (Operand (Name Part))) (outs : List (Target (Name Part))) (m s : ℕ) (all : List (CommitNets (Name Part)))
    → HaveTaken (program_in d) sites chosen outs m i all → length outs ≡ length (records_on (program_in d) m) → s ≡ (site_at (program_in d).sites n).map → s ≡ m → length all < length outs
room d is i n lt at sites chosen outs m s all taken count e h = omega (arith, there (program_in d) sites chosen outs m i all taken (omega (arith, lt, ap length is.records)) (number_on d is i n lt at m s e h), count)
