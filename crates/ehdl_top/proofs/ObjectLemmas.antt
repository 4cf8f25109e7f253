-- Objects that are compiled.
use Rattle.std.proofs.Common.{◌≡◌, ◌⊎◌, ℕ, List, Result, Ok, IsErrOf, subst, inl, inr}
use Rattle.xdp_object.specs.declared.error.ObjectError.{ObjectError}
use Rattle.xdp_object.specs.Choice.{Chosen}
use Rattle.xdp_object.specs.Object.{FirstFault}
use Rattle.xdp_state.specs.declared.refusal.Refusal.{Refusal}
use Rattle.ehdl_build.specs.declared.built.Built.{Built}
use Rattle.ehdl_build.specs.declared.built.CompileError.{CompileError}
use Rattle.ehdl_build.specs.declared.built.CompileError.TheVariants.{Object, Refused, NoMemory}
use Rattle.ehdl_build.specs.Compiled.{Compiles, FailsFor, IsRefused}
use Rattle.ehdl_top.specs.Forms.{built}
use Rattle.ehdl_top.specs.Steps.{IsBuiltOf}

-- what was compiled was not refused
pub built_of : (choice : Chosen) (bytes : List ℕ) (r : Result Built CompileError) (b : Built) → r ≡ Ok b → (c : Compiles choice bytes b)
    → ((q : Refusal) → IsRefused choice bytes q → IsErrOf r (Refused q) ⊎ IsErrOf r NoMemory) → IsBuiltOf choice bytes b
built_of choice bytes r b e c refuses = record {
  program = c.program;
  taken = record { object = c.object; takes = λ q f. never r b e q (refuses q (record { program = c.program; object = c.object; refusal = f })) };
  realized = record { is_program = c.is_program; decls = c.decls; has_size = c.has_size; realizes = c.realizes };
}
  where
    never : (r : Result Built CompileError) (built : Built) → r ≡ Ok built → (q : Refusal) → IsErrOf r (Refused q) ⊎ IsErrOf r NoMemory → ⊥
    never r built e q (inl f) = absurd cc
    never r built e q (inr f) = absurd cc

pub fails_object : (choice : Chosen) (bytes : List ℕ) (failed : CompileError) (fault : ObjectError) → failed ≡ Object fault → FailsFor choice bytes failed → FirstFault choice bytes fault
fails_object choice bytes failed fault same fails = let P : CompileError → Type 0 = FailsFor choice bytes in subst P same fails
