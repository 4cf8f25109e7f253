-- What a prepared object is for: it compiles, to a text that realizes the program that it was prepared from.
use Rattle.std.specs.Prelude.{ℕ, List}
use Rattle.xdp_object.specs.declared.error.ObjectError.{ObjectError}
use Rattle.xdp_object.specs.Choice.{Chosen}
use Rattle.xdp_object.specs.Object.{FirstFault}
use Rattle.xdp_object.specs.xdp_machine.Program.{XdpProgram}
use Rattle.xdp_state.specs.declared.refusal.Refusal.{Refusal}
use Rattle.ehdl_build.specs.declared.built.Built.{Built}
use Rattle.ehdl_build.specs.Compiled.{IsRefused, Compiles, Realizes, size_of}
use Rattle.prepare_core.specs.Prepared.{IsPrepared}

-- The bytes of an object have no fault and are not refused, and whatever they are compiled to realizes a.
pub record CompilesFor (choice : Chosen) (a : XdpProgram) (bytes : List ℕ) : Type 0 where
  pub no_fault : (e : ObjectError) → ¬ FirstFault choice bytes e
  pub not_refused : (r : Refusal) → ¬ IsRefused choice bytes r
  pub realizes : (built : Built) → Compiles choice bytes built → Realizes built.text.items a (size_of built)

-- So it is with an object that is prepared from a.
abbrev pub PreparedObjectsCompile : Type 0
PreparedObjectsCompile = (choice : Chosen) (a b : XdpProgram) (bytes : List ℕ) → IsPrepared choice a b bytes → CompilesFor choice a bytes
