-- What holds of the bytes that an error is answered for, and that no other error was to come.
use Rattle.std.specs.Prelude.{◌≡◌, ◌≢◌, ◌⊎◌, Result, Ok, Err, IfErr, IsErrAnd, IsErrOf, ℕ, List}
use Rattle.std.proofs.Common.{sym, ap, subst, inl, inr, ◌∙◌}
use Rattle.xdp_object.specs.xdp_machine.Program.{XdpProgram}
use Rattle.xdp_object.specs.declared.error.ObjectError.{ObjectError}
use Rattle.xdp_object.specs.declared.error.ObjectError.TheVariants.{NoMemory as ObjectMemory}
use Rattle.xdp_object.specs.Choice.{Chosen}
use Rattle.xdp_object.specs.Object.{FirstFault, IsObject}
use Rattle.xdp_object.proofs.OutcomeLaws.{one_outcome, never_both}
use Rattle.xdp_state.specs.declared.refusal.Refusal.{Refusal}
use Rattle.xdp_state.specs.declared.refusal.BuildError.{BuildError}
use Rattle.xdp_state.specs.declared.refusal.BuildError.TheVariants as build
use Rattle.kind_core.specs.declared.kind.Offsets.TheVariants.{Fixed}
use Rattle.unfold_core.specs.declared.links.Edge.{Edge}
use Rattle.unfold_core.specs.declared.unfolding.Unfolded.{Unfolded}
use Rattle.unfold_core.specs.Unfolding.{IsUnfolded, Unfolds}
use Rattle.unfold_core.proofs.AcceptanceLaws.{unfolds_of}
use Rattle.row_rules.specs.NodeRows.Rows.{HasStages, IsTooLate, AreCounted}
use Rattle.row_rules.specs.NodeRows.Acceptance.{IsAccepted, IsFirstRefusal}
use Rattle.row_rules.proofs.NodeRows.OneOutcomeLaws.{has_one_outcome}
use Rattle.ehdl_build.specs.declared.counted.Counted.{Counted}
use Rattle.ehdl_build.specs.declared.built.CompileError.{CompileError}
use Rattle.ehdl_build.specs.declared.built.CompileError.TheVariants.{Object, Refused, NoMemory}
use Rattle.ehdl_build.specs.Compiled.{IsRefused, FailsFor, compile_error}
use Rattle.ehdl_build.specs.Steps.{IsCounted, FailsCounting}

-- what holds of an error holds of the same error
pub err_with : {T E : Type 0} (P : E → Type 0) (e : E) (r : Result T E) → IsErrAnd r (λ f. f ≡ e) → P e → IfErr r P
err_with P e (Ok x) is h = tt
err_with P e (Err f) is h = subst P (sym is) h

-- ---- what is counted

abbrev pub accepted_of : (p : XdpProgram) (c : Counted) → IsCounted p c → IsAccepted Fixed p
accepted_of p c is = record {
  unfolds = unfolds_of Fixed p c.graph is.unfolded is.fixed;
  stages = c.stages;
  has_stages = subst (λ (es : List Edge). HasStages p c.graph.nodes.items es c.stages) is.unfolded.edges is.stages;
}

pub unfolding_fails : (p : XdpProgram) (e : BuildError) → Unfolds Fixed p (Err e) → FailsCounting p e
unfolding_fails p (build.Refused r) u = inl u
unfolding_fails p build.NoMemory u = tt

pub counting_fails : (p : XdpProgram) (u : Unfolded) (e : BuildError) → IsUnfolded p u → u.offsets ≡ Fixed → AreCounted p u (Err e) → FailsCounting p e
counting_fails p u (build.Refused r) is fixed late =
    inr (record { unfolds = unfolds_of Fixed p u is fixed; late = subst (λ (es : List Edge). IsTooLate p u.nodes.items es r) is.edges late })
counting_fails p u build.NoMemory is fixed late = tt

-- ---- errors of the object
abbrev pub IsErrorOf : ObjectError → CompileError → Type 0
IsErrorOf error r = ((error ≡ ObjectMemory) × (r ≡ NoMemory)) ⊎ ((error ≢ ObjectMemory) × (r ≡ Object error))

module _ (choice : Chosen) (bytes : List ℕ) where
  -- bytes with a fault are not refused
  not_refused : (e : ObjectError) (r : Refusal) → FirstFault choice bytes e → ¬ IsRefused choice bytes r
  not_refused e r f h = never_both choice bytes h.program e h.object f

  pub failed : (error : ObjectError) (r : CompileError) → IsErrorOf error r → (error ≢ ObjectMemory → FirstFault choice bytes error) → FailsFor choice bytes r
  failed error r (inl (memory, e)) fault = subst (λ (x : CompileError). FailsFor choice bytes x) (sym e) tt
  failed error r (inr (other, e)) fault = subst (λ (x : CompileError). FailsFor choice bytes x) (sym e) (fault other)

  pub only_fault : {T : Type 0} (error : ObjectError) (r : CompileError) (e : ObjectError) → IsErrorOf error r → (error ≢ ObjectMemory → FirstFault choice bytes error) → FirstFault choice bytes e
      → IsErrOf {T = T} (Err r) (Object e) ⊎ IsErrOf {T = T} (Err r) NoMemory
  only_fault error r e (inl (memory, m)) fault f = inr (ap Err m)
  only_fault error r e (inr (other, m)) fault f = inl (ap Err (m ∙ ap Object ((one_outcome choice bytes).fault error e (fault other) f)))

  pub never_refused : {T : Type 0} (error : ObjectError) (r : CompileError) (q : Refusal) → IsErrorOf error r → (error ≢ ObjectMemory → FirstFault choice bytes error) → IsRefused choice bytes q
      → IsErrOf {T = T} (Err r) (Refused q) ⊎ IsErrOf {T = T} (Err r) NoMemory
  never_refused error r q (inl (memory, m)) fault h = inr (ap Err m)
  never_refused error r q (inr (other, m)) fault h = absurd (not_refused error q (fault other) h)

  -- ---- errors of the program
  module _ (p : XdpProgram) (object : IsObject choice bytes p) where
    -- the refusal of an object is that of its program
    refusal_in : (r : Refusal) → IsRefused choice bytes r → IsFirstRefusal Fixed p r
    refusal_in r h = subst (λ (q : XdpProgram). IsFirstRefusal Fixed q r) ((one_outcome choice bytes).program h.program p h.object object) h.refusal

    pub failed_program : (error : BuildError) (r : CompileError) → FailsCounting p error → r ≡ compile_error error → FailsFor choice bytes r
    failed_program error r is e = subst (λ (x : CompileError). FailsFor choice bytes x) (sym e) (by_error error is)
      where
        by_error : (error : BuildError) → FailsCounting p error → FailsFor choice bytes (compile_error error)
        by_error (build.Refused q) is = record { program = p; object = object; refusal = is }
        by_error build.NoMemory is = tt

    pub only_refusal : {T : Type 0} (error : BuildError) (r : CompileError) (q : Refusal) → FailsCounting p error → r ≡ compile_error error → IsRefused choice bytes q
        → IsErrOf {T = T} (Err r) (Refused q) ⊎ IsErrOf {T = T} (Err r) NoMemory
    only_refusal {T} error r q is e h = by_error error is e
      where
        by_error : (error : BuildError) → FailsCounting p error → r ≡ compile_error error → IsErrOf {T = T} (Err r) (Refused q) ⊎ IsErrOf {T = T} (Err r) NoMemory
        by_error (build.Refused own) is e = inl (ap Err (e ∙ ap Refused ((has_one_outcome Fixed p).refusal own q is (refusal_in q h))))
        by_error build.NoMemory is e = inr (ap Err e)

    -- an accepted program is not refused
    pub no_refusal : (r : Refusal) → IsAccepted Fixed p → ¬ IsRefused choice bytes r
    no_refusal r accepted h = (has_one_outcome Fixed p).never_both r (refusal_in r h) accepted
