-- Programs that are accepted, by what is counted of them, and why nothing is counted.
use Rattle.std.proofs.Common.{◌≡◌, List, Result, Ok, Err, IfErr, IsErrAnd, subst, sym, inl, inr}
use Rattle.xdp_machine.specs.Program.{XdpProgram}
use Rattle.xdp_state.specs.declared.refusal.Refusal.{Refusal}
use Rattle.xdp_state.specs.declared.refusal.BuildError.{BuildError}
use Rattle.xdp_state.specs.declared.refusal.BuildError.TheVariants.{Refused, NoMemory}
use Rattle.kind_core.specs.declared.kind.Offsets.{Offsets}
use Rattle.unfold_core.specs.declared.links.Edge.{Edge}
use Rattle.unfold_core.specs.declared.unfolding.Unfolded.{Unfolded}
use Rattle.unfold_core.specs.Unfolding.{IsUnfolded, Unfolds}
use Rattle.unfold_core.proofs.AcceptanceLaws.{unfolds_of}
use Rattle.row_rules.specs.declared.node_rows.stages.Stages.{Stages}
use Rattle.row_rules.specs.NodeRows.Rows.{HasStages, IsTooLate, AreCounted}
use Rattle.row_rules.specs.NodeRows.Acceptance.{IsAccepted, HasTooManyStages}
use Rattle.prepare_core.specs.Counted.{FailsCounting}

abbrev pub accepted_of : (offsets : Offsets) (p : XdpProgram) (u : Unfolded) (s : Stages) → IsUnfolded p u → u.offsets ≡ offsets → HasStages p u.nodes.items u.edges.items s → IsAccepted offsets p
accepted_of offsets p u s is same has = record { unfolds = unfolds_of offsets p u is same; stages = s; has_stages = subst (λ (es : List Edge). HasStages p u.nodes.items es s) is.edges has }

late_of : (offsets : Offsets) (p : XdpProgram) (u : Unfolded) (r : Refusal) → IsUnfolded p u → u.offsets ≡ offsets → IsTooLate p u.nodes.items u.edges.items r → HasTooManyStages offsets p r
late_of offsets p u r is same late = record { unfolds = unfolds_of offsets p u is same; late = subst (λ (es : List Edge). IsTooLate p u.nodes.items es r) is.edges late }

-- ---- where nothing is counted
pub unfolding_fails : (offsets : Offsets) (p : XdpProgram) (e : BuildError) → Unfolds offsets p (Err e) → FailsCounting offsets p e
unfolding_fails offsets p (Refused r) u = inl u
unfolding_fails offsets p NoMemory u = tt

pub counting_fails : (offsets : Offsets) (p : XdpProgram) (u : Unfolded) (e : BuildError) → IsUnfolded p u → u.offsets ≡ offsets → AreCounted p u (Err e) → FailsCounting offsets p e
counting_fails offsets p u (Refused r) is same late = inr (late_of offsets p u r is same late)
counting_fails offsets p u NoMemory is same late = tt

pub fails_with : {T : Type 0} (offsets : Offsets) (p : XdpProgram) (e : BuildError) (r : Result T BuildError) → IsErrAnd r (λ f. f ≡ e) → FailsCounting offsets p e → IfErr r (FailsCounting offsets p)
fails_with offsets p e (Ok x) is fails = tt
fails_with offsets p e (Err f) is fails = subst (FailsCounting offsets p) (sym is) fails
