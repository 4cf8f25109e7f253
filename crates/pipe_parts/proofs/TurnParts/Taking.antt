-- The registers with the slots that updates of hashes took.
use Rattle.std.specs.List.{filter}
use Rattle.std.proofs.Common.{◌≡◌, ◌∙◌, ℕ, suc, ◌+◌, ◌<◌, ◌≤◌, Bool, true, false, cond, All, List, [], ◌∷◌, ◌++◌, length, get_or, take, refl, sym, ap, arith}
use Rattle.std.proofs.lemmas.List.{length-take-le}
use Rattle.std.proofs.lemmas.List.Sums.{length-filter, count_by-le-length}
use Rattle.std.proofs.lemmas.List.Elements.{All-nil, All-cons, All-head, All-tail}
use Rattle.hazard_core.specs.xdp_maps.declared.decl.MapDecl.{MapDecl}
use Rattle.block_core.specs.declared.name.Name.{Name}
use Rattle.block_core.specs.declared.name.Name.TheVariants as name
use Rattle.hazard_core.specs.cell_core.Sites.{ProgramView}
use Rattle.overlay_net.specs.cell_nets.declared.operand.Operand.TheVariants.{Net}
use Rattle.overlay_net.specs.cell_nets.Operands.{IsOperand, IsWide}
use Rattle.commit_net.specs.declared.target.TakenSlot.{TakenSlot}
use Rattle.commit_net.specs.Targets.{slots_of}
use Rattle.turn_net.specs.declared.nets.RecordNets.{RecordNets}
use Rattle.turn_net.specs.Nets.{sites_of, keeps, kept}
use Rattle.pipe_net.specs.declared.parts.Part.{Part}
use Rattle.pipe_net.specs.declared.parts.Sizes.{Sizes}
use Rattle.pipe_net.specs.Parts as part
use Rattle.pipe_net.specs.Layout.{Layout}
use Rattle.pipe_net.specs.PipeTurns.Maps.{taken_from}
use Rattle.pipe_parts.specs.TurnParts.Sites.{keeps_at, taken_at}
use Rattle.pipe_parts.proofs.TurnParts.Listing.{filter_more, filter_same}

abbrev pub slot_at : Part → ℕ → ℕ → ℕ → TakenSlot (Name Part)
slot_at p bits j at = record { site = j; slot = Net (name.Register p at) bits }

abbrev pub slot_of : Sizes → ℕ → ℕ → ℕ → TakenSlot (Name Part)
slot_of z bits j at = slot_at (part.action z) bits j at

pub taken_push : (z : Sizes) (bits at : ℕ) (js : List ℕ) (j : ℕ) → taken_at z bits at (js ++ j ∷ []) ≡ taken_at z bits at js ++ slot_of z bits j (at + length js) ∷ []
taken_push z bits at [] j = let e : at ≡ at + 0 = omega arith in ap (λ n. slot_of z bits j n ∷ []) e
taken_push z bits at (i ∷ js) j =
    let e : suc at + length js ≡ at + suc (length js) = omega arith in
    ap (λ ss. slot_of z bits i at ∷ ss) (taken_push z bits (suc at) js j ∙ ap (λ n. taken_at z bits (suc at) js ++ slot_of z bits j n ∷ []) e)

pub taken_long : (z : Sizes) (bits at : ℕ) (js : List ℕ) → length (taken_at z bits at js) ≡ length js
taken_long z bits at [] = refl
taken_long z bits at (j ∷ js) = omega (arith, taken_long z bits (suc at) js)

pub taken_operands : (z : Sizes) (bits at : ℕ) (js : List ℕ) → IsWide bits → All IsOperand (slots_of (taken_at z bits at js))
taken_operands z bits at [] wide = All-nil IsOperand
taken_operands z bits at (j ∷ js) wide = All-cons IsOperand (Net (name.Register (part.action z) at) bits) (slots_of (taken_at z bits (suc at) js)) wide (taken_operands z bits (suc at) js wide)

-- ---- one after another
module _ (z : Sizes) (bits : ℕ) (q : ℕ → Bool) (js : List ℕ) (i : ℕ) (lt : i < length js) where
  pub taken_more :
      (ss : List (TakenSlot (Name Part))) (s : TakenSlot (Name Part)) → ss ≡ taken_at z bits 1 (filter q (take i js)) → q (get_or js i 0) ≡ true → s ≡ slot_of z bits (get_or js i 0) (1 + length ss)
      → ss ++ s ∷ [] ≡ taken_at z bits 1 (filter q (take (i + 1) js))
  taken_more ss s so_far on same =
      let long : length ss ≡ length (filter q (take i js)) = ap length so_far ∙ taken_long z bits 1 (filter q (take i js)) in
      ap (λ xs. xs ++ s ∷ []) so_far ∙ ap (λ x. taken_at z bits 1 (filter q (take i js)) ++ x ∷ []) (same ∙ ap (λ n. slot_of z bits (get_or js i 0) (1 + n)) long)
      ∙ sym (taken_push z bits 1 (filter q (take i js)) (get_or js i 0)) ∙ ap (taken_at z bits 1) (sym (filter_more q js i lt on))

  pub taken_less : q (get_or js i 0) ≡ false → taken_at z bits 1 (filter q (take i js)) ≡ taken_at z bits 1 (filter q (take (i + 1) js))
  taken_less off = ap (taken_at z bits 1) (sym (filter_same q js i lt off))

-- there are no more of them than sites so far
pub taken_few : (z : Sizes) (bits : ℕ) (q : ℕ → Bool) (js : List ℕ) (i : ℕ) (ss : List (TakenSlot (Name Part))) → i ≤ length js → ss ≡ taken_at z bits 1 (filter q (take i js)) → length ss ≤ i
taken_few z bits q js i ss le so_far =
    omega (arith, ap length so_far, taken_long z bits 1 (filter q (take i js)), length-filter q (take i js), count_by-le-length q (take i js), length-take-le i js le)

-- ---- those of records
module _ (l : Layout) (p : ProgramView) (decls : List MapDecl) where
  abbrev taken : ℕ → List ℕ → List (TakenSlot (Name Part))
  taken at js = taken_at l.sizes l.action_shape.slot_bits at js

  step : (r : RecordNets (Name Part)) (rs : List (RecordNets (Name Part))) (js : List ℕ) → ((at : ℕ) → taken_from l at rs ≡ taken at js) → (t : Bool) (at : ℕ) → taken_from l at (cond t (r ∷ rs) rs) ≡ taken at (cond t (r.number ∷ js) js)
  step r rs js rest true at = ap (λ ss. slot_of l.sizes l.action_shape.slot_bits r.number at ∷ ss) (rest (suc at))
  step r rs js rest false at = rest at

  pub taken_same : (rs : List (RecordNets (Name Part))) → All (λ r. keeps r ≡ keeps_at p decls r.number) rs → (at : ℕ) → taken_from l at (kept rs) ≡ taken at (filter (keeps_at p decls) (sites_of rs))
  taken_same [] h at = refl
  taken_same (r ∷ rs) h at =
      step r (kept rs) (filter (keeps_at p decls) (sites_of rs)) (taken_same rs (All-tail (λ (x : RecordNets (Name Part)). keeps x ≡ keeps_at p decls x.number) r rs h)) (keeps r) at
      ∙ ap (λ t. taken at (cond t (r.number ∷ filter (keeps_at p decls) (sites_of rs)) (filter (keeps_at p decls) (sites_of rs)))) (All-head (λ (x : RecordNets (Name Part)). keeps x ≡ keeps_at p decls x.number) r rs h)
