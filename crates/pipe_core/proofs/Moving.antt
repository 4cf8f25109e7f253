-- Packets in their places, one place after another.
use Rattle.std.proofs.Common.{◌≡◌, ◌∙◌, ℕ, zero, suc, ◌+◌, ◌<◌, ◌≤◌, Bool, true, false, ◌||◌, if◌then◌else◌, Option, Some, None, is_some, option_map, nat_lt, List, [], ◌∷◌, ◌++◌, refl, sym, ap, subst, arith, length, get_or, set, take, drop, replicate, map as map_list, drop-cons, drop-set-lt, append_assoc}
use Rattle.std.proofs.lemmas.List.{map-set, map-append, length-map, length-append}
use Rattle.std.proofs.lemmas.Grind.{take-set_at, replicate_next}
use Rattle.std.proofs.lemmas.List.Elements.{All-get_or, All-set, All-push}
use Rattle.hazard_core.specs.cell_core.Cells.{bit}
use Rattle.hazard_core.specs.cell_core.Sites.{ProgramView}
use Rattle.hazard_core.specs.Tables.{TableState}
use Rattle.hazard_core.specs.declared.change.Change.{Change}
use Rattle.realization.specs.beat_core.Ports.{Arrival}
use Rattle.pipe_core.specs.declared.places.Stage.{Stage}
use Rattle.pipe_core.specs.Machine.{Packet, Build, no_frame, inside, sends, some_send, flushed, enters, moved, marked_by, marked_below}
use Rattle.pipe_core.specs.Planned.{IsPacketOf}
use Rattle.pipe_core.specs.StageMemory.{in_place, HaveStageMemory}

-- ---- a place of the list

pub read_place : (ps : List Stage) (k : ℕ) (d : Stage) → k < length ps → get_or (map_list in_place ps) k None ≡ in_place (get_or ps k d)
read_place [] k d l = absurd (omega arith)
read_place (p ∷ ps) zero d l = refl
read_place (p ∷ ps) (suc k) d l = read_place ps k d (omega arith)

pub put_place : (ps : List Stage) (k : ℕ) (p : Stage) → map_list in_place (set ps k p) ≡ set (map_list in_place ps) k (in_place p)
put_place ps k p = map-set in_place ps k p

from : (xs : List (Option Packet)) (k : ℕ) → k < length xs → drop k xs ≡ get_or xs k None ∷ drop (k + 1) xs
from xs k l = let s : suc k ≡ k + 1 = omega arith in drop-cons xs k None l ∙ ap (λ (n : ℕ). get_or xs k None ∷ drop n xs) s

none_from : (xs : List (Option Packet)) (k : ℕ) → length xs ≤ k → drop k xs ≡ []
none_from [] zero l = refl
none_from [] (suc k) l = refl
none_from (x ∷ xs) zero l = absurd (omega arith)
none_from (x ∷ xs) (suc k) l = none_from xs k (omega arith)

all_to : (xs : List (Option Packet)) (k : ℕ) → length xs ≤ k → take k xs ≡ xs
all_to [] zero l = refl
all_to [] (suc k) l = refl
all_to (x ∷ xs) zero l = absurd (omega arith)
all_to (x ∷ xs) (suc k) l = ap (λ (ys : List (Option Packet)). x ∷ ys) (all_to xs k (omega arith))

ends : (xs : List (Option Packet)) → xs ++ [] ≡ xs
ends [] = refl
ends (x ∷ xs) = ap (λ (ys : List (Option Packet)). x ∷ ys) (ends xs)

-- what stands before place k and in it once this is written, and then what follows
written : (xs : List (Option Packet)) (k : ℕ) (y : Option Packet) (zs : List (Option Packet)) → k < length xs → take (k + 1) (set xs k y) ++ zs ≡ take k xs ++ y ∷ zs
written xs k y zs l = ap (λ (ys : List (Option Packet)). ys ++ zs) (take-set_at xs k (k + 1) y refl l) ∙ append_assoc (take k xs) (y ∷ []) zs

behind : (xs : List (Option Packet)) (k : ℕ) (y : Option Packet) → drop (k + 1) (set xs k y) ≡ drop (k + 1) xs
behind xs k y = drop-set-lt (k + 1) xs k y (omega arith)

-- ---- how many there are

counted : (x : Option Packet) (xs : List (Option Packet)) → inside (x ∷ xs) ≡ bit (is_some x) + inside xs
counted None xs = omega arith
counted (Some x) xs = omega arith

pub count_more : (xs : List (Option Packet)) (k : ℕ) → k < length xs → inside (drop k xs) ≡ bit (is_some (get_or xs k None)) + inside (drop (k + 1) xs)
count_more xs k l = ap inside (from xs k l) ∙ counted (get_or xs k None) (drop (k + 1) xs)

pub count_past : (xs : List (Option Packet)) (k : ℕ) → length xs ≤ k → inside (drop k xs) ≡ 0
count_past xs k l = ap inside (none_from xs k l)

-- ---- moving on: those before place k have moved

abbrev pub moved_on : Build → TableState → List Arrival → ℕ → Option Packet → List (Option Packet) → List (Option Packet)
moved_on b t frames k x xs = take k xs ++ moved b t frames k x (drop k xs)

pub move_more : (b : Build) (t : TableState) (frames : List Arrival) (k : ℕ) (x y e : Option Packet) (xs : List (Option Packet)) → k < length xs → y ≡ get_or xs k None
    → e ≡ enters b t k (get_or frames (inside (drop k xs)) no_frame) x → moved_on b t frames (k + 1) y (set xs k e) ≡ moved_on b t frames k x xs
move_more b t frames k x y e xs l here enter =
    let s : suc k ≡ k + 1 = omega arith in
    ap (λ (ys : List (Option Packet)). take (k + 1) (set xs k e) ++ moved b t frames (k + 1) y ys) (behind xs k e)
    ∙ written xs k e (moved b t frames (k + 1) y (drop (k + 1) xs)) l
    ∙ ap (λ (z : Option Packet). take k xs ++ z ∷ moved b t frames (k + 1) y (drop (k + 1) xs)) (enter ∙ ap (λ (ys : List (Option Packet)). enters b t k (get_or frames (inside ys) no_frame) x) (from xs k l))
    ∙ ap (λ (z : Option Packet). take k xs ++ enters b t k (get_or frames (inside (get_or xs k None ∷ drop (k + 1) xs)) no_frame) x ∷ moved b t frames (k + 1) z (drop (k + 1) xs)) here
    ∙ ap (λ (n : ℕ). take k xs ++ enters b t k (get_or frames (inside (get_or xs k None ∷ drop (k + 1) xs)) no_frame) x ∷ moved b t frames n (get_or xs k None) (drop (k + 1) xs)) (sym s)
    ∙ sym (ap (λ (ys : List (Option Packet)). take k xs ++ moved b t frames k x ys) (from xs k l))

pub move_all : (b : Build) (t : TableState) (frames : List Arrival) (k : ℕ) (x : Option Packet) (xs : List (Option Packet)) → length xs ≤ k → moved_on b t frames k x xs ≡ xs
move_all b t frames k x xs l = ap (λ (ys : List (Option Packet)). take k xs ++ moved b t frames k x ys) (none_from xs k l) ∙ ends (take k xs) ∙ all_to xs k l

-- ---- marks: those before place k are marked

abbrev pub marked_by_on : ℕ → Build → TableState → Change → ℕ → List (Option Packet) → List (Option Packet)
marked_by_on to b t e k xs = take k xs ++ marked_below to b t e k (drop k xs)

pub mark_more : (to : ℕ) (b : Build) (t : TableState) (e : Change) (k : ℕ) (z : Option Packet) (xs : List (Option Packet)) → k < length xs
    → z ≡ (if nat_lt k to then option_map (marked_by b t k e) (get_or xs k None) else get_or xs k None) → marked_by_on to b t e (k + 1) (set xs k z) ≡ marked_by_on to b t e k xs
mark_more to b t e k z xs l is =
    let s : suc k ≡ k + 1 = omega arith in
    ap (λ (ys : List (Option Packet)). take (k + 1) (set xs k z) ++ marked_below to b t e (k + 1) ys) (behind xs k z)
    ∙ written xs k z (marked_below to b t e (k + 1) (drop (k + 1) xs)) l
    ∙ ap (λ (y : Option Packet). take k xs ++ y ∷ marked_below to b t e (k + 1) (drop (k + 1) xs)) is
    ∙ ap (λ (n : ℕ). take k xs ++ (if nat_lt k to then option_map (marked_by b t k e) (get_or xs k None) else get_or xs k None) ∷ marked_below to b t e n (drop (k + 1) xs)) (sym s)
    ∙ sym (ap (λ (ys : List (Option Packet)). take k xs ++ marked_below to b t e k ys) (from xs k l))

pub mark_all : (to : ℕ) (b : Build) (t : TableState) (e : Change) (k : ℕ) (xs : List (Option Packet)) → length xs ≤ k → marked_by_on to b t e k xs ≡ xs
mark_all to b t e k xs l = ap (λ (ys : List (Option Packet)). take k xs ++ marked_below to b t e k ys) (none_from xs k l) ∙ ends (take k xs) ∙ all_to xs k l

-- ---- sending back: the places from k on are flushed

abbrev pub flushed_on : Build → ℕ → List (Option Packet) → List (Option Packet)
flushed_on b k xs = take k xs ++ flushed b k (drop k xs)

either : (c d : Bool) → (c || d) ≡ (d || c)
either true true = refl
either true false = refl
either false true = refl
either false false = refl

unflushed : (b : Build) (k : ℕ) (xs : List (Option Packet)) → k < length xs → get_or (flushed_on b (k + 1) xs) k None ≡ get_or xs k None
unflushed b k xs l = by xs k (flushed b (k + 1) (drop (k + 1) xs)) l
  where
    by : (xs : List (Option Packet)) (k : ℕ) (zs : List (Option Packet)) → k < length xs → get_or (take (k + 1) xs ++ zs) k None ≡ get_or xs k None
    by [] k zs l = absurd (omega arith)
    by (x ∷ xs) zero zs l = refl
    by (x ∷ xs) (suc k) zs l = let s : suc k + 1 ≡ suc (k + 1) = omega arith in rw s (by xs k zs (omega arith))

rewritten : (xs : List (Option Packet)) (k : ℕ) (zs : List (Option Packet)) (y : Option Packet) → k < length xs → set (take (k + 1) xs ++ zs) k y ≡ take k xs ++ y ∷ zs
rewritten [] k zs y l = absurd (omega arith)
rewritten (x ∷ xs) zero zs y l = refl
rewritten (x ∷ xs) (suc k) zs y l = let s : suc k + 1 ≡ suc (k + 1) = omega arith in rw s (ap (λ (ys : List (Option Packet)). x ∷ ys) (rewritten xs k zs y (omega arith)))

-- place k sends back, or one after it does
pub send_more : (b : Build) (k : ℕ) (xs : List (Option Packet)) (more back : Bool) → k < length xs → more ≡ some_send b (k + 1) (drop (k + 1) xs)
    → back ≡ (more || sends b k (get_or (flushed_on b (k + 1) xs) k None)) → back ≡ some_send b k (drop k xs)
send_more b k xs more back l m e =
    let s : suc k ≡ k + 1 = omega arith in
    e
    ∙ ap (λ (x : Option Packet). more || sends b k x) (unflushed b k xs l)
    ∙ ap (λ (c : Bool). c || sends b k (get_or xs k None)) m
    ∙ either (some_send b (k + 1) (drop (k + 1) xs)) (sends b k (get_or xs k None))
    ∙ ap (λ (n : ℕ). sends b k (get_or xs k None) || some_send b n (drop (k + 1) xs)) (sym s)
    ∙ sym (ap (some_send b k) (from xs k l))

pub flush_more : (b : Build) (k : ℕ) (xs : List (Option Packet)) (back : Bool) (z : Option Packet) → k < length xs → back ≡ some_send b k (drop k xs)
    → z ≡ (if back then None else get_or (flushed_on b (k + 1) xs) k None) → set (flushed_on b (k + 1) xs) k z ≡ flushed_on b k xs
flush_more b k xs back z l m e =
    let s : suc k ≡ k + 1 = omega arith in
    rewritten xs k (flushed b (k + 1) (drop (k + 1) xs)) z l
    ∙ ap (λ (y : Option Packet). take k xs ++ y ∷ flushed b (k + 1) (drop (k + 1) xs))
    (e ∙ ap (λ (x : Option Packet). if back then None else x) (unflushed b k xs l) ∙ ap (λ (c : Bool). if c then None else get_or xs k None) (m ∙ ap (some_send b k) (from xs k l)))
    ∙ ap (λ (n : ℕ). take k xs ++ (if some_send b k (get_or xs k None ∷ drop (k + 1) xs) then None else get_or xs k None) ∷ flushed b n (drop (k + 1) xs)) (sym s)
    ∙ sym (ap (λ (ys : List (Option Packet)). take k xs ++ flushed b k ys) (from xs k l))

pub flush_none : (b : Build) (k : ℕ) (xs : List (Option Packet)) → length xs ≤ k → flushed_on b k xs ≡ xs
flush_none b k xs l = ap (λ (ys : List (Option Packet)). take k xs ++ flushed b k ys) (none_from xs k l) ∙ ends (take k xs) ∙ all_to xs k l

pub send_none : (b : Build) (k : ℕ) (xs : List (Option Packet)) → length xs ≤ k → some_send b k (drop k xs) ≡ false
send_none b k xs l = ap (some_send b k) (none_from xs k l)

-- ---- all have the memory of a packet of the program

pub stock_at : (p : ProgramView) (ps : List Stage) (k : ℕ) (x : Stage) → k < length ps → x ≡ get_or ps k x → HaveStageMemory p ps → IsPacketOf p x.packet
stock_at p ps k x l e h = subst (λ (y : Stage). IsPacketOf p y.packet) (sym e) (All-get_or (λ (y : Stage). IsPacketOf p y.packet) ps k x l h)

pub stock_set : (p : ProgramView) (ps : List Stage) (k : ℕ) (x : Stage) → IsPacketOf p x.packet → HaveStageMemory p ps → HaveStageMemory p (set ps k x)
stock_set p ps k x o h = All-set (λ (y : Stage). IsPacketOf p y.packet) ps k x o h

-- one place more, without a packet
pub stock_more : (p : ProgramView) (ps qs : List Stage) (x : Stage) (n m : ℕ) → qs ≡ ps ++ x ∷ [] → in_place x ≡ None → IsPacketOf p x.packet → map_list in_place ps ≡ replicate n None → HaveStageMemory p ps → length ps ≡ n → m ≡ n + 1
    → (map_list in_place qs ≡ replicate m None) × HaveStageMemory p qs × (length qs ≡ m)
stock_more p ps qs x n m e none of s h l next = (
  ap (map_list in_place) e
      ∙ map-append in_place ps (x ∷ [])
      ∙ ap (λ (zs : List (Option Packet)). zs ++ in_place x ∷ []) s
      ∙ ap (λ (y : Option Packet). replicate n None ++ y ∷ []) none
      ∙ sym (replicate_next n None)
      ∙ ap (λ (i : ℕ). replicate i None) (sym next),
  subst (λ (zs : List Stage). HaveStageMemory p zs) (sym e) (All-push (λ (y : Stage). IsPacketOf p y.packet) ps x h of),
  omega (arith, ap length e, length-append ps (x ∷ []), l, next),
)

-- ---- the same of places in memory: p stands in place k before, and q after

long : (ps : List Stage) (k : ℕ) → k < length ps → k < length (map_list in_place ps)
long ps k l = omega (arith, l, length-map ps in_place)

here : (ps : List Stage) (k : ℕ) (p : Stage) → k < length ps → p ≡ get_or ps k p → in_place p ≡ get_or (map_list in_place ps) k None
here ps k p l e = ap in_place e ∙ sym (read_place ps k p l)

used_bit : (p : Stage) → bit (is_some (in_place p)) ≡ bit p.used
used_bit p = by p.used
  where
    by : (c : Bool) → bit (is_some (if c then Some p.packet else None)) ≡ bit c
    by true = refl
    by false = refl

pub count_step : (ps : List Stage) (k : ℕ) (p : Stage) → k < length ps → p ≡ get_or ps k p → inside (drop k (map_list in_place ps)) ≡ bit p.used + inside (drop (k + 1) (map_list in_place ps))
count_step ps k p l e =
    count_more (map_list in_place ps) k (long ps k l)
    ∙ ap (λ (x : Option Packet). bit (is_some x) + inside (drop (k + 1) (map_list in_place ps))) (sym (here ps k p l e))
    ∙ ap (λ (n : ℕ). n + inside (drop (k + 1) (map_list in_place ps))) (used_bit p)

pub older_step : (ps : List Stage) (k : ℕ) (p q : Stage) → k < length ps → p ≡ get_or ps k p → inside (drop k (map_list in_place ps)) ≡ bit p.used + inside (drop (k + 1) (map_list in_place (set ps k q)))
older_step ps k p q l e =
    count_step ps k p l e
    ∙ ap (λ (xs : List (Option Packet)). bit p.used + inside xs) (sym (ap (drop (k + 1)) (put_place ps k q) ∙ behind (map_list in_place ps) k (in_place q)))

pub move_step : (b : Build) (t : TableState) (frames : List Arrival) (all : List (Option Packet)) (ps : List Stage) (k older : ℕ) (moving p q : Stage) → k < length ps → p ≡ get_or ps k p
    → older ≡ inside (drop k (map_list in_place ps)) → in_place q ≡ enters b t k (get_or frames older no_frame) (in_place moving) → moved_on b t frames k (in_place moving) (map_list in_place ps) ≡ all
    → moved_on b t frames (k + 1) (in_place p) (map_list in_place (set ps k q)) ≡ all
move_step b t frames all ps k older moving p q l e o enter m =
    ap (moved_on b t frames (k + 1) (in_place p)) (put_place ps k q)
    ∙ move_more b t frames k (in_place moving) (in_place p) (in_place q) (map_list in_place ps) (long ps k l) (here ps k p l e) (enter ∙ ap (λ (n : ℕ). enters b t k (get_or frames n no_frame) (in_place moving)) o)
    ∙ m

pub mark_step : (to : ℕ) (b : Build) (t : TableState) (e : Change) (all : List (Option Packet)) (ps : List Stage) (k : ℕ) (p q : Stage) → k < length ps → p ≡ get_or ps k p
    → in_place q ≡ (if nat_lt k to then option_map (marked_by b t k e) (in_place p) else in_place p) → marked_by_on to b t e k (map_list in_place ps) ≡ all
    → marked_by_on to b t e (k + 1) (map_list in_place (set ps k q)) ≡ all
mark_step to b t e all ps k p q l is mark_by m =
    ap (marked_by_on to b t e (k + 1)) (put_place ps k q)
    ∙ mark_more to b t e k (in_place q) (map_list in_place ps) (long ps k l) (mark_by ∙ ap (λ (x : Option Packet). if nat_lt k to then option_map (marked_by b t k e) x else x) (here ps k p l is))
    ∙ m

-- a loop from the last place down, at place k after those from n on
module _ (b : Build) (old : List (Option Packet)) (ps : List Stage) (n k : ℕ) (p q : Stage) (more back : Bool) (l : k < length ps) (count : length ps ≡ length old) (next : n ≡ k + 1) (is : p ≡ get_or ps k p)
    (flushed_so_far : map_list in_place ps ≡ flushed_on b n old) (sent_so_far : more ≡ some_send b n (drop n old)) (back_is : back ≡ (more || sends b k (in_place p))) where
  known : map_list in_place ps ≡ flushed_on b (k + 1) old
  known = subst (λ (i : ℕ). map_list in_place ps ≡ flushed_on b i old) next flushed_so_far

  read : in_place p ≡ get_or (flushed_on b (k + 1) old) k None
  read = here ps k p l is ∙ ap (λ (zs : List (Option Packet)). get_or zs k None) known

  pub send_step : back ≡ some_send b k (drop k old)
  send_step =
      send_more b k old more back (omega (arith, l, count)) (subst (λ (i : ℕ). more ≡ some_send b i (drop i old)) next sent_so_far) (back_is ∙ ap (λ (x : Option Packet). more || sends b k x) read)

  pub flush_step : in_place q ≡ (if back then None else in_place p) → map_list in_place (set ps k q) ≡ flushed_on b k old
  flush_step e =
      put_place ps k q
      ∙ ap (λ (zs : List (Option Packet)). set zs k (in_place q)) known
      ∙ flush_more b k old back (in_place q) (omega (arith, l, count)) send_step (e ∙ ap (λ (x : Option Packet). if back then None else x) read)
