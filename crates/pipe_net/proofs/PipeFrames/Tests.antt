-- Tests of counts, and how many packets, frames and answers a clock adds and takes.
use Rattle.std.specs.Prelude.{◌≡◌, ℕ, suc, ◌+◌, ◌%◌, ◌^◌, ◌<◌, ◌≤◌, nat_lt, if◌then◌else◌, Bool, true, false, not, ◌&&◌, Option, Some, None, is_some, List, [], ◌∷◌, length}
use Rattle.std.proofs.Common.{refl, sym, ap, ◌∙◌, arith}
use Rattle.std.proofs.Math.Nat.{mod-eq_of_lt}
use Rattle.std.proofs.lemmas.Bool.Decides.{nat_tests}
use Rattle.beat_core.specs.declared.beat.Beat.{Beat}
use Rattle.beat_core.specs.declared.answer.Answer.{Answer}
use Rattle.beat_core.specs.Ports.{Arrival}
use Rattle.block_core.specs.net_core.Value.{number_of}
use Rattle.hazard_core.specs.cell_core.Cells.{bit}
use Rattle.hazard_core.specs.cell_core.Sites.{ProgramView}
use Rattle.pipe_core.specs.Machine.{Packet, State, Input, Build, place_at, inside, some_send, flushed, injected, answers_by, beat_at, came_with}
use Rattle.pipe_core.specs.History.{came_in}
use Rattle.control_net.specs.RingNet.Control.{counted}
use Rattle.control_net.specs.Control.{shifted}
use Rattle.pipe_core.proofs.FlushLaws.{flushed_none}
use Rattle.pipe_core.proofs.ClockLaws.{part_after}
use Rattle.pipe_net.proofs.PipeFrames.Flushing.{leaves_inside}
use Rattle.pipe_net.proofs.PipeFrames.Clocking.{leaver, passed_after, ends_with}

-- ---- tests
pub less_shifted : (g a n : ℕ) → nat_lt (g + a) (g + n) ≡ nat_lt a n
less_shifted g a n = grind (arith, nat_tests)

pub over_some : (r v : Bool) (x : Beat) → v && r ≡ is_some (if r then (if v then Some x else None) else None)
over_some true true x = refl
over_some true false x = refl
over_some false true x = refl
over_some false false x = refl

pub over_ends : (r v : Bool) (x : Beat) → (v && r) && x.last ≡ ends_with (if r then (if v then Some x else None) else None)
over_ends true true x = refl
over_ends true false x = refl
over_ends false true x = refl
over_ends false false x = refl

pub shows_some : (g pos : ℕ) (answers : List Answer) → nat_lt g (g + length answers) ≡ is_some (beat_at pos answers)
shows_some g pos [] = grind (arith, nat_tests)
shows_some g pos (r ∷ more) = let l : g < g + length (r ∷ more) = omega arith in grind (arith, nat_tests)

pub gone_ends : (o : Option Beat) (take last : Bool) → ((x : Beat) → o ≡ Some x → last ≡ x.last) → (is_some o && take) && last ≡ ends_with (if take then o else None)
gone_ends None true last h = refl
gone_ends None false last h = refl
gone_ends (Some x) true last h = h x refl
gone_ends (Some x) false last h = refl

pub counted_is : (x : Bool) (k : ℕ) → counted x k ≡ k + bit x
counted_is true k = omega arith
counted_is false k = omega arith

pub new_some : (p : ProgramView) (c : Bool) → c ≡ is_some (if c then Some (injected p) else None)
new_some p true = refl
new_some p false = refl

pub last_some : (c : Arrival) (l : Bool) → not l ≡ is_some (if l then None else Some c)
last_some c true = refl
last_some c false = refl

pub part_some : (s : State) (i : Input) (r v : Bool) (x : Beat) → (if v && r then not x.last else is_some s.part) ≡ is_some (part_after s.part i (if r then (if v then Some x else None) else None))
part_some s i true true x = last_some (came_with s.part i x) x.last
part_some s i true false x = refl
part_some s i false true x = refl
part_some s i false false x = refl

pub answers_length : (p : ProgramView) (fs : List Arrival) (x : Option Packet) → length (answers_by p fs x) ≡ bit (is_some x)
answers_length p fs None = refl
answers_length p fs (Some x) = refl

pub one_if : {X : Type 0} (x : X) (l : Bool) → length (if l then x ∷ [] else []) ≡ bit l
one_if x true = refl
one_if x false = refl

pub came_length : (s : State) (i : Input) (o : Option Beat) → length (came_in s i o) ≡ bit (ends_with o)
came_length s i None = refl
came_length s i (Some x) = one_if (came_with s.part i x) x.last

pub ends_within : (pos : ℕ) (answers : List Answer) (take : Bool) → bit (ends_with (if take then beat_at pos answers else None)) ≤ length answers
ends_within pos [] true = omega arith
ends_within pos [] false = omega arith
ends_within pos (r ∷ more) true = most (ends_with (beat_at pos (r ∷ more)))
  where
    most : (x : Bool) → bit x ≤ suc (length more)
    most true = omega arith
    most false = omega arith
ends_within pos (r ∷ more) false = omega arith

-- ---- packets that leave, enter and pass
pub leaves_some : (goes : Bool) (b : Build) (places : List (Option Packet)) → goes && is_some (place_at places b.plan.last) ≡ is_some (leaver goes b places)
leaves_some true b places = refl
leaves_some false b places = refl

pub and_assoc : (x y z : Bool) → (x && y) && z ≡ x && (y && z)
and_assoc true y z = refl
and_assoc false y z = refl

pub leaver_inside : (goes : Bool) (b : Build) (places : List (Option Packet)) → bit (is_some (leaver goes b places)) ≤ inside places
leaver_inside true b places = leaves_inside places b.plan.last
leaver_inside false b places = omega arith

-- where none is sent back as many are left as there were
pub enters_same : (b : Build) (places : List (Option Packet)) (n : ℕ) (q : Bool) → some_send b 0 places ≡ q → not q && nat_lt (inside places) n ≡ not q && nat_lt (inside (flushed b 0 places)) n
enters_same b places n true e = refl
enters_same b places n false e = ap (λ ps. nat_lt (inside ps) n) (sym (flushed_none b 0 places e))

pub if_goes : (goes x : Bool) (hs : List Bool) → (if goes then shifted (goes && x) hs else hs) ≡ (if goes then shifted x hs else hs)
if_goes true x hs = refl
if_goes false x hs = refl

pub passed_is : (goes : Bool) (b : Build) (places : List (Option Packet)) (n : ℕ) → n < 2 ^ 32 → (n + number_of (goes && is_some (place_at places b.plan.commit))) % 2 ^ 32 ≡ passed_after goes b places n
passed_is true b places n lt = refl
passed_is false b places n lt = let z : n + 0 ≡ n = omega arith in ap (λ m. m % 2 ^ 32) z ∙ mod-eq_of_lt lt
