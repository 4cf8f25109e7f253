-- The parts of one map after another.
use Rattle.std.proofs.Common.{◌≡◌, ◌∙◌, ℕ, ◌+◌, ◌<◌, List, [], ◌∷◌, ◌++◌, length, get_or, subst, arith}
use Rattle.std.proofs.lemmas.List.{length_push, get_or_default}
use Rattle.block_core.specs.declared.name.Name.{Name}
use Rattle.block_core.specs.declared.name.Name.TheVariants as name
use Rattle.overlay_net.specs.declared.site_operands.SiteNets.{SiteNets}
use Rattle.commit_net.specs.declared.change_net.change.ChangePart.{ChangePart}
use Rattle.pipe_net.specs.declared.parts.Part.{Part}
use Rattle.pipe_parts.specs.declared.pipe_draft.pipeline_plan.PipelinePlan.{PipelinePlan}
use Rattle.pipe_design.specs.declared.map_parts.committing.MapCommits.{MapCommits}
use Rattle.pipe_design.specs.declared.map_parts.committing.Committing.{Committing}
use Rattle.pipe_design.specs.declared.map_parts.parts.PartsOfMap.{PartsOfMap}
use Rattle.pipe_design.specs.MapParts.Parts.{ArePartsOfMap}
use Rattle.pipe_design.proofs.MapParts.Listing.{pair_next}

-- of a map for which nothing is said
abbrev pub none_said : MapCommits
none_said = record { commits = name.Port 0; targets = record { ref_ptr = (0, 0); now = [] } }

module _ (d : PipelinePlan) (sites : List (SiteNets (Name Part))) (c : Committing) where
  -- the parts of the map of a number
  abbrev ArePartsAt : ℕ → PartsOfMap → ChangePart (Name Part) → Type 0
  ArePartsAt m x y = (on : MapCommits) → ArePartsOfMap d sites c.chosen.now (get_or c.maps.now m on) m x y

  -- those of the first n maps
  pub record HaveParts (n : ℕ) (xs : List PartsOfMap) (ys : List (ChangePart (Name Part))) : Type 0 where
    pub maps : length xs ≡ n
    pub changes : length ys ≡ n
    pub each : (m : ℕ) (x : PartsOfMap) (y : ChangePart (Name Part)) → m < n → ArePartsAt m (get_or xs m x) (get_or ys m y)

  pub parts_more : (n : ℕ) (xs : List PartsOfMap) (ys : List (ChangePart (Name Part))) (x : PartsOfMap) (y : ChangePart (Name Part)) → n < length c.maps.now → ArePartsOfMap d sites c.chosen.now (get_or c.maps.now n none_said) n x y → HaveParts n xs ys
      → HaveParts (n + 1) (xs ++ x ∷ []) (ys ++ y ∷ [])
  parts_more n xs ys x y lt here have = record {
    maps = length_push xs x ∙ omega (arith, have.maps);
    changes = length_push ys y ∙ omega (arith, have.changes);
    each = pair_next ArePartsAt n xs ys x y have.maps have.changes have.each (λ on. subst (λ o. ArePartsOfMap d sites c.chosen.now o n x y) (get_or_default c.maps.now n none_said on lt) here);
  }
