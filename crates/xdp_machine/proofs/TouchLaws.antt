-- What a step does not write, and what it reads.
use Rattle.std.proofs.Common.{◌≡◌, ◌≢◌, ℕ, zero, suc, List, Some, None, refl, sym, ◌∙◌, ap, subst}
use Rattle.std.specs.Prelude.{Option, All, Contains}
use Rattle.bpf_isa.specs.declared.operation.Op.{Op}
use Rattle.bpf_isa.specs.declared.operation.Op.TheVariants.{Call, Load, LoadSigned, StoreImm, Store, Atomic}
use Rattle.bpf_isa.specs.declared.instruction.Insn.{Insn}
use Rattle.bpf_isa.specs.declared.helper.Helper.{Helper}
use Rattle.bpf_isa.specs.declared.helper.Helper.TheVariants.{Lookup, Update, Delete, Time, Redirect}
use Rattle.bpf_isa.specs.Helpers.{helper_of}
use Rattle.bpf_isa.specs.Text.{insn_at}
use Rattle.xdp_maps.specs.Contents.{Contents}
use Rattle.xdp_maps.specs.State.{MapState, IsSound}
use Rattle.xdp_maps.specs.Operations.{Operation}
use Rattle.xdp_maps.specs.Touched.{Resource, Present, Content, Size, SameOf, reads, writes}
use Rattle.xdp_maps.proofs.WriteLaws.{keeps_unwritten}
use Rattle.xdp_maps.proofs.ReadLaws.{reads_decide}
use Rattle.xdp_machine.specs.Values.{◌>>=◌}
use Rattle.xdp_machine.specs.State.{Code, Machine, start}
use Rattle.xdp_machine.specs.Helpers.{calls_on}
use Rattle.xdp_machine.specs.Step.{Outcome, Goes, Ends, NoCase, step}
use Rattle.xdp_machine.specs.Runs.{Progress, run, then_on}
use Rattle.xdp_machine.specs.Touched.{Touched, after, operation_as, operation_at, touched_by, touched_at, touched, counted, and_then, both}
use Rattle.xdp_machine.specs.Ranges.{IsInRange}
use Rattle.xdp_machine.specs.MachineLaws.{IsOver, StepsKeepUnwritten, TakesSameStep, IsSameStep, TouchesOne}
use Rattle.xdp_machine.proofs.StepLaws.{AnsweredSame, holding, over, step_same, steps_operate}
use Rattle.xdp_machine.proofs.FitLaws.{FitsIn, fits_at}

unwritten_by : (o : Option (ℕ × Operation)) (s : MapState) (r : Resource) → ¬ Contains (touched_by s o).writes r → SameOf (after o s) s r
unwritten_by None s (Present q key) none = refl
unwritten_by None s (Content q key) none = refl
unwritten_by None s (Size q) none = refl
unwritten_by (Some (q, op)) s r unwritten = keeps_unwritten s q op r unwritten

pub steps_keep_unwritten : StepsKeepUnwritten
steps_keep_unwritten code old new e r unwritten =
    subst (λ (s : MapState). SameOf s old.maps r) (sym (steps_operate code old new e)) (unwritten_by (operation_at code old) old.maps r unwritten)

-- an operation that fits is decided by what it reads
record Decided (s t : MapState) (o : Option (ℕ × Operation)) : Type 0 where
  answer : AnsweredSame o s t
  touched : touched_by t o ≡ touched_by s o

decided : (s t : MapState) (o : Option (ℕ × Operation)) → t.decls ≡ s.decls → IsSound s → IsSound t → FitsIn s o → All (SameOf s t) (touched_by s o).reads → Decided s t o
decided s t None decls sound sound_t fits all = record { answer = tt; touched = refl }
decided s t (Some (q, op)) decls sound sound_t fits all =
    let is = reads_decide s t q op decls sound sound_t fits.0 fits.1.0 all in
    let of : List Resource → List Resource → Touched = λ rs ws. record { reads = rs; writes = ws; writing = counted ws } in
    record {
      answer = is.answer;
      touched = ap (λ rs. of rs (writes t q op)) is.reads ∙ ap (of (reads s q op)) is.writes;
    }

-- the operation is the same, whatever the maps hold
call_stays : (m : Machine) (cs : List Contents) (h : Option Helper) → calls_on h (over m cs) ≡ calls_on h m
call_stays m cs (Some Lookup) = refl
call_stays m cs (Some Update) = refl
call_stays m cs (Some Delete) = refl
call_stays m cs (Some Time) = refl
call_stays m cs (Some Redirect) = refl
call_stays m cs None = refl

operation_stays : (m : Machine) (cs : List Contents) (i : Insn) (op : Op) → operation_as (over m cs) i op ≡ operation_as m i op
operation_stays m cs i (Load size) = refl
operation_stays m cs i (LoadSigned size) = refl
operation_stays m cs i (StoreImm size) = refl
operation_stays m cs i (Store size) = refl
operation_stays m cs i (Atomic size) = refl
operation_stays m cs i Call = call_stays m cs (helper_of i.imm)
operation_stays m cs i op = refl

stays_at : (m : Machine) (cs : List Contents) (i : Option Insn) → (i >>= (λ x. operation_as (over m cs) x x.op)) ≡ (i >>= (λ x. operation_as m x x.op))
stays_at m cs None = refl
stays_at m cs (Some i) = operation_stays m cs i i.op

same_over : (code : Code) (m : Machine) (cs : List Contents) → IsInRange m → IsSound (holding m.maps cs) → All (SameOf m.maps (holding m.maps cs)) (touched_at code m).reads
    → step code m ≢ NoCase → step code (over m cs) ≢ NoCase → IsSameStep code m (holding m.maps cs)
same_over code m cs range sound all case case' =
    let is = decided m.maps (holding m.maps cs) (operation_at code m) refl range.maps sound (fits_at code m range) all in
    record {
      outcome = step_same code m cs is.answer case case';
      touched = ap (touched_by (holding m.maps cs)) (stays_at m cs (insn_at code.insns m.place)) ∙ is.touched;
    }

pub takes_same_step : TakesSameStep
takes_same_step code m other range decls sound all case case' =
    let is : other ≡ holding m.maps other.contents = ap (λ ds. record { decls = ds; contents = other.contents }) decls in
    subst (IsSameStep code m) (sym is) (same_over code m other.contents range (subst IsSound is sound)
    (subst (λ (s : MapState). All (SameOf m.maps s) (touched_at code m).reads) is all) case
    (subst (λ (s : MapState). step code (record m { maps = s }) ≢ NoCase) is case'))

-- ---- what a run touches

both_over : (t : Touched) (f g : Machine → Progress) (a b : Machine → Touched) (m : Machine) (o : Outcome)
    → ((next : Machine) → IsOver (f next) → IsOver (g next) → a next ≡ b next) → IsOver (then_on f m o) → IsOver (then_on g m o) → and_then t a o ≡ and_then t b o
both_over t f g a b m (Goes next) same h k = ap (both t) (same next h k)
both_over t f g a b m (Ends verdict) same h k = refl
both_over t f g a b m NoCase same h k = refl

touched_same : (code : Code) (n k : ℕ) (m : Machine) → IsOver (run code n m) → IsOver (run code k m) → touched code n m ≡ touched code k m
unfolding run touched
touched_same code zero k m h g = absurd h
touched_same code (suc n) zero m h g = absurd g
touched_same code (suc n) (suc k) m h g =
    both_over (touched_at code m) (run code n) (run code k) (touched code n) (touched code k) m (step code m) (λ next. touched_same code n k next) h g

pub touches_one : TouchesOne
touches_one code packet maps e f t u (n, ran, is) (k, ran', is') =
    sym is ∙ touched_same code n k (start packet maps) (subst IsOver (sym ran) tt) (subst IsOver (sym ran') tt) ∙ is'
