-- What is given for an object: itself, or what is found.
use Rattle.std.specs.declared.vec.Vec.{Vec}
use Rattle.std.specs.declared.alloc.Global.{Global}
use Rattle.std.proofs.Common.{◌≡◌, ℕ, List, length, Option, Some, IfSome, refl, sym, ap, subst, ◌∙◌, arith, inl, inr, ◌⊎◌}
use Rattle.xdp_machine.specs.xdp_maps.State.{MapState}
use Rattle.xdp_machine.specs.State.{PacketIn, start}
use Rattle.xdp_machine.specs.Ranges.{IsInRange}
use Rattle.xdp_machine.specs.Touched.{touched}
use Rattle.xdp_machine.specs.Program.{XdpProgram, IsProgram, program_code}
use Rattle.xdp_state.specs.declared.refusal.Refusal.{Refusal}
use Rattle.xdp_state.specs.declared.refusal.BuildError.{BuildError}
use Rattle.xdp_state.specs.declared.refusal.BuildError.TheVariants.{Refused, NoMemory}
use Rattle.kind_core.specs.declared.kind.Offsets.TheVariants.{Fixed}
use Rattle.unfold_core.specs.declared.unfolding.Unfolded.{Unfolded}
use Rattle.unfold_core.specs.Unfolding.{IsUnfolded}
use Rattle.unfold_core.specs.RunLaws.{RunsAreSound}
use Rattle.xdp_object.specs.Choice.{Chosen}
use Rattle.xdp_object.specs.Object.{IsObject}
use Rattle.row_rules.specs.declared.node_rows.stages.Stages.{Stages}
use Rattle.row_rules.specs.NodeRows.Acceptance.{IsAccepted, IsFirstRefusal}
use Rattle.row_rules.proofs.NodeRows.OneOutcomeLaws.{has_one_outcome}
use Rattle.cover_core.specs.Laws.{HasSameRun, HaveSameRuns}
use Rattle.prepare_core.specs.declared.counting.Counted.{Counted}
use Rattle.prepare_core.specs.declared.preparing.Counts.{Counts}
use Rattle.prepare_core.specs.declared.preparing.Prepared.{Prepared}
use Rattle.prepare_core.specs.Counted.{IsCounted, FailsCounting}
use Rattle.prepare_core.specs.Prepared.{Prepares, IsGivenFor, counts_of}
use Rattle.prepare_core.specs.Steps.{IsAcceptedCover, ArePrepared, IsItself}
use Rattle.prepare_core.proofs.CountingLaws.{accepted_of}

pub cover_of : (a b : XdpProgram) (c : Counted) → IsCounted Fixed b c → b.decls ≡ a.decls → HaveSameRuns a b → IsAcceptedCover a b c.stages
cover_of a b c is decls runs = record { accepted = accepted_of Fixed b c.graph c.stages is.unfolded is.same is.stages; stages_are = refl; decls = decls; runs = runs }

-- what is so of what is there, if anything is
pub in_some : {A : Type 0} (P : A → Type 0) (o : Option A) (x : A) → o ≡ Some x → IfSome o P → P x
in_some {A} P o x is h = let Q : Option A → Type 0 = λ p. IfSome p P in subst Q is h

-- an object of b, with what is counted of it
pub prepared_of : (choice : Chosen) (a b : XdpProgram) (bytes : List ℕ) (s : Stages) (c : Counts) → IsObject choice bytes b → IsProgram b → IsAcceptedCover a b s → c ≡ counts_of a b s → ArePrepared choice a bytes c
prepared_of choice a b bytes s c object program cover are = record {
  program = b;
  is = record { object = object; is_program = program; accepted = cover.accepted; decls = cover.decls; runs = cover.runs };
  counts_are = are ∙ ap (counts_of a b) cover.stages_are;
}

pub prepares_of : (choice : Chosen) (a : XdpProgram) (object : Vec ℕ Global) (c : Counts) (bytes : List ℕ) → bytes ≡ object.items → ArePrepared choice a bytes c → Prepares choice a (record { object = object; counts = c })
prepares_of choice a object c bytes same are =
    let P : List ℕ → Type 0 = λ bs. ArePrepared choice a bs c in
    let is = subst P same are in
    record { program = is.program; is = is.is; counts = is.counts_are }

-- each packet has a run of a program that unfolds
own_runs : RunsAreSound → (a : XdpProgram) (u : Unfolded) → IsProgram a → IsUnfolded a u → HaveSameRuns a a
own_runs sound a u program unfolded packet maps declared range =
    let run = sound a u packet maps program unfolded declared range in
    let steps = length u.nodes.items in
    let ended = run.ended steps (omega arith) in
    record { left = run.left; touched = touched (program_code a) steps (start packet maps); of_b = (steps, ended, refl); of_a = (steps, ended, refl) }

-- an accepted program's own object
pub itself_given : RunsAreSound → (choice : Chosen) (a : XdpProgram) (object : List ℕ) (c : Counted) (p : Prepared) → IsProgram a → IsObject choice object a → IsCounted Fixed a c → IsItself a object c.stages p → IsGivenFor choice a object p
itself_given sound choice a object c p program is counted itself = record {
  prepares = record {
    program = a;
    is = record {
      object = subst (λ (bytes : List ℕ). IsObject choice bytes a) (sym itself.same) is;
      is_program = program;
      accepted = accepted_of Fixed a c.graph c.stages counted.unfolded counted.same counted.stages;
      decls = refl;
      runs = own_runs sound a c.graph program counted.unfolded;
    };
    counts = itself.counts;
  };
  itself = λ accepted. itself.same;
}

-- what is found for a refused one
pub found_given : (choice : Chosen) (a : XdpProgram) (object : List ℕ) (r : Refusal) (p : Prepared) → IsFirstRefusal Fixed a r → Prepares choice a p → IsGivenFor choice a object p
found_given choice a object r p refused prepares = record { prepares = prepares; itself = λ accepted. absurd ((has_one_outcome Fixed a).never_both r refused accepted) }

pub refused_or : (a : XdpProgram) (r : Refusal) (e : BuildError) → IsFirstRefusal Fixed a r → (e ≡ Refused r) ⊎ (e ≡ NoMemory) → FailsCounting Fixed a e
refused_or a r e refused (inl is) = subst (FailsCounting Fixed a) (sym is) refused
refused_or a r e refused (inr is) = subst (FailsCounting Fixed a) (sym is) tt
