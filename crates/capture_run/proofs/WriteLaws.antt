-- Writes that were done, up to one that failed, and what they leave.
use Rattle.std.proofs.Common.{◌≡◌, ◌≢◌, ◌⊎◌, ℕ, IsTrue, List, [], ◌∷◌, ◌++◌, Option, Some, Result, Ok, Err, OnOk, OnErr, refl, sym, ◌∙◌, ap, subst, inl, inr, append_assoc, append-nil}
use Rattle.shelf_core.specs.Shelf.{HoldsFront, LeavesFront, appended}
use Rattle.shelf_core.proofs.PrefixLaws.{front_of_more, front_of_whole}
use Rattle.capture_run.specs.States.{ShelfState, Changes, OneRose}
use Rattle.capture_run.specs.Writes.{File, Write, Begin, Append, name_of, left_by, LeavesPart, IsDone, IsFailed, AreDone, OneFailed, KeepsOrHoldsPrefix, HoldWhole, HoldPrefixes}
use Rattle.capture_run.proofs.StateLaws.{tells_later, changes_then, changes_none, changes_within, changes_one, rose_from, rose_one, one_rose_from, IsOneOf}

-- ---- one after the other
from_done : (w : Write) (a b c : ShelfState) → Changes [] a b → IsDone w b c → IsDone w a c
from_done w a b c same d = record {
  left = λ told. d.left (tells_later a b same.later told) ∙ ap (λ h. Some (left_by w h)) (same.others (name_of w) tt);
  kept = changes_then (name_of w ∷ []) a b c (changes_within (name_of w ∷ []) a b same) d.kept;
}

from_failed : (w : Write) (a b c : ShelfState) → Changes [] a b → IsFailed w b c → IsFailed w a c
from_failed w a b c same f = record {
  rose = rose_from (a.write_faults (name_of w)) (b.write_faults (name_of w)) (c.write_faults (name_of w)) (same.later.writes.each (name_of w)) f.rose;
  left = λ told. let P : Option (List ℕ) → Type 0 = λ h. LeavesPart w h (c.held (name_of w)) in subst P (same.others (name_of w) tt) (f.left (tells_later a b same.later told));
  kept = changes_then (name_of w ∷ []) a b c (changes_within (name_of w ∷ []) a b same) f.kept;
}

pub done_from : (ws : List Write) (a b c : ShelfState) → Changes [] a b → AreDone ws b c → AreDone ws a c
done_from [] a b c same done = changes_then [] a b c same done
done_from (w ∷ ws) a b c same done = (done.0, from_done w a b done.0 same done.1, done.2)

pub failed_from : (ws : List Write) (a b c : ShelfState) → Changes [] a b → OneFailed ws b c → OneFailed ws a c
failed_from [] a b c same failed = failed
failed_from (w ∷ ws) a b c same (inl f) = inl (from_failed w a b c same f)
failed_from (w ∷ ws) a b c same (inr x) = inr (x.0, from_done w a b x.0 same x.1, x.2)

-- one write more
pub done_more : (ws : List Write) (w : Write) (a b c : ShelfState) → AreDone ws a b → IsDone w b c → AreDone (ws ++ w ∷ []) a c
done_more [] w a b c same d = (c, from_done w a b c same d, changes_none c)
done_more (v ∷ ws) w a b c done d = (done.0, done.1, done_more ws w done.0 b c done.2 d)

pub failed_more : (ws : List Write) (w : Write) (rest : List Write) (a b c : ShelfState) → AreDone ws a b → IsFailed w b c → OneFailed (ws ++ w ∷ rest) a c
failed_more [] w rest a b c same f = inl (from_failed w a b c same f)
failed_more (v ∷ ws) w rest a b c done f = inr (done.0, done.1, failed_more ws w rest done.0 b c done.2 f)

pub ok_more : {X E : Type 0} (result : Result X E) (ws : List Write) (w : Write) (a b c : ShelfState) → AreDone ws a b → OnOk result (IsDone w b c) → OnOk result (AreDone (ws ++ w ∷ []) a c)
ok_more (Ok x) ws w a b c done d = done_more ws w a b c done d
ok_more (Err e) ws w a b c done d = tt

pub err_more : {X E : Type 0} (result : Result X E) (ws : List Write) (w : Write) (a b c : ShelfState) → AreDone ws a b → OnErr result (IsFailed w b c) → OnErr result (OneFailed (ws ++ w ∷ []) a c)
err_more (Ok x) ws w a b c done f = tt
err_more (Err e) ws w a b c done f = failed_more ws w [] a b c done f

-- one write of two
pub two_done : (v w : Write) (a b c : ShelfState) → IsDone v a b → IsDone w b c → AreDone (v ∷ w ∷ []) a c
two_done v w a b c d e = (b, d, (c, e, changes_none c))

pub first_failed : (v w : Write) (a b : ShelfState) → IsFailed v a b → OneFailed (v ∷ w ∷ []) a b
first_failed v w a b f = inl f

pub second_failed : (v w : Write) (a b c : ShelfState) → IsDone v a b → IsFailed w b c → OneFailed (v ∷ w ∷ []) a c
second_failed v w a b c d f = inr (b, d, inl f)

-- ---- one list after the other
pub failed_before : (ws vs : List Write) (a b : ShelfState) → OneFailed ws a b → OneFailed (ws ++ vs) a b
failed_before [] vs a b failed = absurd failed
failed_before (w ∷ ws) vs a b (inl f) = inl f
failed_before (w ∷ ws) vs a b (inr x) = inr (x.0, x.1, failed_before ws vs x.0 b x.2)

pub done_both : (ws vs : List Write) (a b c : ShelfState) → AreDone ws a b → AreDone vs b c → AreDone (ws ++ vs) a c
done_both [] vs a b c done more = done_from vs a b c done more
done_both (w ∷ ws) vs a b c done more = (done.0, done.1, done_both ws vs done.0 b c done.2 more)

pub failed_after : (ws vs : List Write) (a b c : ShelfState) → AreDone ws a b → OneFailed vs b c → OneFailed (ws ++ vs) a c
failed_after [] vs a b c done failed = failed_from vs a b c done failed
failed_after (w ∷ ws) vs a b c done failed = inr (done.0, done.1, failed_after ws vs done.0 b c done.2 failed)

-- ---- writes of these names
abbrev pub AreOf : List (List ℕ) → List Write → Type 0
AreOf names [] = Unit {0}
AreOf names (w ∷ ws) = IsOneOf names (name_of w) × AreOf names ws

pub of_both : (names : List (List ℕ)) (ws vs : List Write) → AreOf names ws → AreOf names vs → AreOf names (ws ++ vs)
of_both names [] vs f g = g
of_both names (w ∷ ws) vs f g = (f.0, of_both names ws vs f.1 g)

pub of_front : (names : List (List ℕ)) (ws vs : List Write) → AreOf names (ws ++ vs) → AreOf names ws
of_front names [] vs of = tt
of_front names (w ∷ ws) vs of = (of.0, of_front names ws vs of.1)

pub of_as : (names : List (List ℕ)) (ws vs : List Write) → ws ≡ vs → AreOf names vs → AreOf names ws
of_as names ws vs e f = let P : List Write → Type 0 = AreOf names in subst P (sym e) f

pub done_changes : (names : List (List ℕ)) (ws : List Write) (a b : ShelfState) → AreOf names ws → AreDone ws a b → Changes names a b
done_changes names [] a b of done = changes_within names a b done
done_changes names (w ∷ ws) a b of done = changes_then names a done.0 b (changes_one names (name_of w) a done.0 of.0 done.1.kept) (done_changes names ws done.0 b of.1 done.2)

pub failed_changes : (names : List (List ℕ)) (ws : List Write) (a b : ShelfState) → AreOf names ws → OneFailed ws a b → Changes names a b
failed_changes names [] a b of failed = absurd failed
failed_changes names (w ∷ ws) a b of (inl f) = changes_one names (name_of w) a b of.0 f.kept
failed_changes names (w ∷ ws) a b of (inr x) = changes_then names a x.0 b (changes_one names (name_of w) a x.0 of.0 x.1.kept) (failed_changes names ws x.0 b of.1 x.2)

pub failed_rose : (names : List (List ℕ)) (ws : List Write) (a b : ShelfState) → AreOf names ws → OneFailed ws a b → OneRose names a.write_faults b.write_faults
failed_rose names [] a b of failed = absurd failed
failed_rose names (w ∷ ws) a b of (inl f) = rose_one names (name_of w) a.write_faults b.write_faults of.0 f.rose
failed_rose names (w ∷ ws) a b of (inr x) = one_rose_from names a.write_faults x.0.write_faults b.write_faults x.1.kept.later.writes (failed_rose names ws x.0 b of.1 x.2)

-- ---- what a name is made to hold
-- the writes add these bytes to the name, and do not begin it
abbrev pub Adds : List Write → List ℕ → List ℕ → Type 0
Adds [] name bytes = bytes ≡ []
Adds (Begin other ∷ ws) name bytes = (name ≢ other) × Adds ws name bytes
Adds (Append other part ∷ ws) name bytes = ((name ≡ other) × (more : List ℕ) × (bytes ≡ part ++ more) × Adds ws name more) ⊎ ((name ≢ other) × Adds ws name bytes)

-- they begin it, and add these bytes to it
abbrev pub Builds : List Write → List ℕ → List ℕ → Type 0
Builds [] name bytes = ⊥
Builds (Begin other ∷ ws) name bytes = ((name ≡ other) × Adds ws name bytes) ⊎ ((name ≢ other) × Builds ws name bytes)
Builds (Append other part ∷ ws) name bytes = (name ≢ other) × Builds ws name bytes

apart_done : (w : Write) (name : List ℕ) (a b : ShelfState) → name ≢ name_of w → Changes (name_of w ∷ []) a b → b.held name ≡ a.held name
apart_done w name a b apart c = c.others name (apart, tt)

part_done : (other part name bytes : List ℕ) (a b : ShelfState) → name ≡ other → IsDone (Append other part) a b → IsTrue a.tells → a.held name ≡ Some bytes → b.held name ≡ Some (bytes ++ part)
part_done other part name bytes a b e d told there =
    let P : List ℕ → Type 0 = λ n. a.held n ≡ Some bytes → b.held n ≡ Some (bytes ++ part) in
    subst P (sym e) (λ t. d.left told ∙ ap (λ h. Some (appended h part)) t) there

begin_done : (other name : List ℕ) (a b : ShelfState) → name ≡ other → IsDone (Begin other) a b → IsTrue a.tells → b.held name ≡ Some []
begin_done other name a b e d told = let P : List ℕ → Type 0 = λ n. b.held n ≡ Some [] in subst P (sym e) (d.left told)

-- part by part, as the whole
grouped : (bytes part more all : List ℕ) → all ≡ part ++ more → (bytes ++ part) ++ more ≡ bytes ++ all
grouped bytes part more all e = append_assoc bytes part more ∙ ap (λ t. bytes ++ t) (sym e)

done_adds : (ws : List Write) (name more bytes : List ℕ) (a b : ShelfState) → AreDone ws a b → Adds ws name more → IsTrue a.tells → a.held name ≡ Some bytes → b.held name ≡ Some (bytes ++ more)
done_adds [] name more bytes a b done e told there = done.others name tt ∙ there ∙ ap Some (sym (append-nil bytes) ∙ ap (λ t. bytes ++ t) (sym e))
done_adds (Begin other ∷ ws) name more bytes a b done u told there =
    done_adds ws name more bytes done.0 b done.2 u.1 (tells_later a done.0 done.1.kept.later told) (apart_done (Begin other) name a done.0 u.0 done.1.kept ∙ there)
done_adds (Append other part ∷ ws) name more bytes a b done (inl u) told there =
    done_adds ws name u.1 (bytes ++ part) done.0 b done.2 u.3 (tells_later a done.0 done.1.kept.later told) (part_done other part name bytes a done.0 u.0 done.1 told there)
    ∙ ap Some (grouped bytes part u.1 more u.2)
done_adds (Append other part ∷ ws) name more bytes a b done (inr u) told there =
    done_adds ws name more bytes done.0 b done.2 u.1 (tells_later a done.0 done.1.kept.later told) (apart_done (Append other part) name a done.0 u.0 done.1.kept ∙ there)

done_builds : (ws : List Write) (name bytes : List ℕ) (a b : ShelfState) → AreDone ws a b → Builds ws name bytes → IsTrue a.tells → b.held name ≡ Some bytes
done_builds [] name bytes a b done u told = absurd u
done_builds (Begin other ∷ ws) name bytes a b done (inl u) told =
    done_adds ws name bytes [] done.0 b done.2 u.1 (tells_later a done.0 done.1.kept.later told) (begin_done other name a done.0 u.0 done.1 told)
done_builds (Begin other ∷ ws) name bytes a b done (inr u) told = done_builds ws name bytes done.0 b done.2 u.1 (tells_later a done.0 done.1.kept.later told)
done_builds (Append other part ∷ ws) name bytes a b done u told = done_builds ws name bytes done.0 b done.2 u.1 (tells_later a done.0 done.1.kept.later told)

-- ---- prefixes
prefix_there : (bytes more : List ℕ) (held : Option (List ℕ)) → held ≡ Some bytes → HoldsFront (bytes ++ more) held
prefix_there bytes more held there = let P : Option (List ℕ) → Type 0 = λ h. HoldsFront (bytes ++ more) h in subst P (sym there) (front_of_whole bytes more)

prefix_as : (whole all : List ℕ) (held : Option (List ℕ)) → whole ≡ all → HoldsFront whole held → HoldsFront all held
prefix_as whole all held e prefix = let P : List ℕ → Type 0 = λ bytes. HoldsFront bytes held in subst P e prefix

-- a part was not added whole
part_failed : (other part name bytes more all : List ℕ) (a b : ShelfState) → name ≡ other → IsFailed (Append other part) a b → IsTrue a.tells → a.held name ≡ Some bytes → all ≡ part ++ more → HoldsFront (bytes ++ all) (b.held name)
part_failed other part name bytes more all a b e f told there is =
    let P : List ℕ → Type 0 = λ n. a.held n ≡ Some bytes → HoldsFront (bytes ++ part) (b.held n) in
    let Q : Option (List ℕ) → Type 0 = λ h. LeavesFront h part (b.held other) in
    prefix_as ((bytes ++ part) ++ more) (bytes ++ all) (b.held name) (grouped bytes part more all is) (front_of_more (bytes ++ part) more (b.held name) (subst P (sym e) (λ t. subst Q t (f.left told)) there))

failed_adds : (ws : List Write) (name more bytes : List ℕ) (a b : ShelfState) → OneFailed ws a b → Adds ws name more → IsTrue a.tells → a.held name ≡ Some bytes → HoldsFront (bytes ++ more) (b.held name)
failed_adds [] name more bytes a b failed u told there = absurd failed
failed_adds (Begin other ∷ ws) name more bytes a b (inl f) u told there = prefix_there bytes more (b.held name) (apart_done (Begin other) name a b u.0 f.kept ∙ there)
failed_adds (Begin other ∷ ws) name more bytes a b (inr x) u told there =
    failed_adds ws name more bytes x.0 b x.2 u.1 (tells_later a x.0 x.1.kept.later told) (apart_done (Begin other) name a x.0 u.0 x.1.kept ∙ there)
failed_adds (Append other part ∷ ws) name more bytes a b (inl f) (inl u) told there = part_failed other part name bytes u.1 more a b u.0 f told there u.2
failed_adds (Append other part ∷ ws) name more bytes a b (inl f) (inr u) told there = prefix_there bytes more (b.held name) (apart_done (Append other part) name a b u.0 f.kept ∙ there)
failed_adds (Append other part ∷ ws) name more bytes a b (inr x) (inl u) told there =
    prefix_as ((bytes ++ part) ++ u.1) (bytes ++ more) (b.held name) (grouped bytes part u.1 more u.2)
    (failed_adds ws name u.1 (bytes ++ part) x.0 b x.2 u.3 (tells_later a x.0 x.1.kept.later told) (part_done other part name bytes a x.0 u.0 x.1 told there))
failed_adds (Append other part ∷ ws) name more bytes a b (inr x) (inr u) told there =
    failed_adds ws name more bytes x.0 b x.2 u.1 (tells_later a x.0 x.1.kept.later told) (apart_done (Append other part) name a x.0 u.0 x.1.kept ∙ there)

-- the name was not begun, or holds nothing
begin_failed : (other name bytes : List ℕ) (a b : ShelfState) → name ≡ other → IsFailed (Begin other) a b → IsTrue a.tells → KeepsOrHoldsPrefix bytes (a.held name) (b.held name)
begin_failed other name bytes a b e f told =
    let P : List ℕ → Type 0 = λ n. KeepsOrHoldsPrefix bytes (a.held n) (b.held n) in
    subst P (sym e) (elim (f.left told) [ inl same ↦ inl same | inr none ↦ inr (prefix_there [] bytes (b.held other) none) ])

keeps_from : (bytes : List ℕ) (old mid new : Option (List ℕ)) → mid ≡ old → KeepsOrHoldsPrefix bytes mid new → KeepsOrHoldsPrefix bytes old new
keeps_from bytes old mid new e keeps = let P : Option (List ℕ) → Type 0 = λ h. KeepsOrHoldsPrefix bytes h new in subst P e keeps

failed_builds : (ws : List Write) (name bytes : List ℕ) (a b : ShelfState) → OneFailed ws a b → Builds ws name bytes → IsTrue a.tells → KeepsOrHoldsPrefix bytes (a.held name) (b.held name)
failed_builds [] name bytes a b failed u told = absurd failed
failed_builds (Begin other ∷ ws) name bytes a b (inl f) (inl u) told = begin_failed other name bytes a b u.0 f told
failed_builds (Begin other ∷ ws) name bytes a b (inl f) (inr u) told = inl (apart_done (Begin other) name a b u.0 f.kept)
failed_builds (Begin other ∷ ws) name bytes a b (inr x) (inl u) told =
    inr (failed_adds ws name bytes [] x.0 b x.2 u.1 (tells_later a x.0 x.1.kept.later told) (begin_done other name a x.0 u.0 x.1 told))
failed_builds (Begin other ∷ ws) name bytes a b (inr x) (inr u) told =
    keeps_from bytes (a.held name) (x.0.held name) (b.held name) (apart_done (Begin other) name a x.0 u.0 x.1.kept) (failed_builds ws name bytes x.0 b x.2 u.1 (tells_later a x.0 x.1.kept.later told))
failed_builds (Append other part ∷ ws) name bytes a b (inl f) u told = inl (apart_done (Append other part) name a b u.0 f.kept)
failed_builds (Append other part ∷ ws) name bytes a b (inr x) u told =
    keeps_from bytes (a.held name) (x.0.held name) (b.held name) (apart_done (Append other part) name a x.0 u.0 x.1.kept) (failed_builds ws name bytes x.0 b x.2 u.1 (tells_later a x.0 x.1.kept.later told))

-- ---- the first writes were done, and no more of them
some_adds : (ws rest : List Write) (name more bytes : List ℕ) (a b : ShelfState) → AreDone ws a b → Adds (ws ++ rest) name more → IsTrue a.tells → a.held name ≡ Some bytes → HoldsFront (bytes ++ more) (b.held name)
some_adds [] rest name more bytes a b done u told there = prefix_there bytes more (b.held name) (done.others name tt ∙ there)
some_adds (Begin other ∷ ws) rest name more bytes a b done u told there =
    some_adds ws rest name more bytes done.0 b done.2 u.1 (tells_later a done.0 done.1.kept.later told) (apart_done (Begin other) name a done.0 u.0 done.1.kept ∙ there)
some_adds (Append other part ∷ ws) rest name more bytes a b done (inl u) told there =
    prefix_as ((bytes ++ part) ++ u.1) (bytes ++ more) (b.held name) (grouped bytes part u.1 more u.2)
    (some_adds ws rest name u.1 (bytes ++ part) done.0 b done.2 u.3 (tells_later a done.0 done.1.kept.later told) (part_done other part name bytes a done.0 u.0 done.1 told there))
some_adds (Append other part ∷ ws) rest name more bytes a b done (inr u) told there =
    some_adds ws rest name more bytes done.0 b done.2 u.1 (tells_later a done.0 done.1.kept.later told) (apart_done (Append other part) name a done.0 u.0 done.1.kept ∙ there)

some_builds : (ws rest : List Write) (name bytes : List ℕ) (a b : ShelfState) → AreDone ws a b → Builds (ws ++ rest) name bytes → IsTrue a.tells → KeepsOrHoldsPrefix bytes (a.held name) (b.held name)
some_builds [] rest name bytes a b done u told = inl (done.others name tt)
some_builds (Begin other ∷ ws) rest name bytes a b done (inl u) told =
    inr (some_adds ws rest name bytes [] done.0 b done.2 u.1 (tells_later a done.0 done.1.kept.later told) (begin_done other name a done.0 u.0 done.1 told))
some_builds (Begin other ∷ ws) rest name bytes a b done (inr u) told =
    keeps_from bytes (a.held name) (done.0.held name) (b.held name) (apart_done (Begin other) name a done.0 u.0 done.1.kept) (some_builds ws rest name bytes done.0 b done.2 u.1 (tells_later a done.0 done.1.kept.later told))
some_builds (Append other part ∷ ws) rest name bytes a b done u told =
    keeps_from bytes (a.held name) (done.0.held name) (b.held name) (apart_done (Append other part) name a done.0 u.0 done.1.kept) (some_builds ws rest name bytes done.0 b done.2 u.1 (tells_later a done.0 done.1.kept.later told))

-- ---- files
abbrev pub AreBuilt : List File → List Write → Type 0
AreBuilt [] ws = Unit {0}
AreBuilt (f ∷ rest) ws = Builds ws f.name f.bytes × AreBuilt rest ws

pub done_whole : (F : List File) (ws : List Write) (a b : ShelfState) → AreBuilt F ws → AreDone ws a b → IsTrue a.tells → HoldWhole F b.held
done_whole [] ws a b built done told = tt
done_whole (f ∷ F) ws a b built done told = (done_builds ws f.name f.bytes a b done built.0 told, done_whole F ws a b built.1 done told)

pub failed_prefixes : (F : List File) (ws : List Write) (a b : ShelfState) → AreBuilt F ws → OneFailed ws a b → IsTrue a.tells → HoldPrefixes F a.held b.held
failed_prefixes [] ws a b built failed told = tt
failed_prefixes (f ∷ F) ws a b built failed told = (failed_builds ws f.name f.bytes a b failed built.0 told, failed_prefixes F ws a b built.1 failed told)

pub some_prefixes : (F : List File) (ws rest : List Write) (a b : ShelfState) → AreBuilt F (ws ++ rest) → AreDone ws a b → IsTrue a.tells → HoldPrefixes F a.held b.held
some_prefixes [] ws rest a b built done told = tt
some_prefixes (f ∷ F) ws rest a b built done told = (some_builds ws rest f.name f.bytes a b done built.0 told, some_prefixes F ws rest a b built.1 done told)

-- ---- one list after the other
pub adds_as : (ws : List Write) (name bytes more : List ℕ) → bytes ≡ more → Adds ws name bytes → Adds ws name more
adds_as ws name bytes more e u = let P : List ℕ → Type 0 = Adds ws name in subst P e u

pub adds_both : (ws vs : List Write) (name bytes more : List ℕ) → Adds ws name bytes → Adds vs name more → Adds (ws ++ vs) name (bytes ++ more)
adds_both [] vs name bytes more e v = adds_as vs name more (bytes ++ more) (ap (λ t. t ++ more) (sym e)) v
adds_both (Begin other ∷ ws) vs name bytes more u v = (u.0, adds_both ws vs name bytes more u.1 v)
adds_both (Append other part ∷ ws) vs name bytes more (inl u) v = inl (u.0, u.1 ++ more, ap (λ t. t ++ more) u.2 ∙ append_assoc part u.1 more, adds_both ws vs name u.1 more u.3 v)
adds_both (Append other part ∷ ws) vs name bytes more (inr u) v = inr (u.0, adds_both ws vs name bytes more u.1 v)

-- no write is one of the name
abbrev pub Skips : List Write → List ℕ → Type 0
Skips [] name = Unit {0}
Skips (w ∷ ws) name = (name ≢ name_of w) × Skips ws name

pub skips_both : (ws vs : List Write) (name : List ℕ) → Skips ws name → Skips vs name → Skips (ws ++ vs) name
skips_both [] vs name s t = t
skips_both (w ∷ ws) vs name s t = (s.0, skips_both ws vs name s.1 t)

pub skips_adds : (ws : List Write) (name : List ℕ) → Skips ws name → Adds ws name []
skips_adds [] name s = refl
skips_adds (Begin other ∷ ws) name s = (s.0, skips_adds ws name s.1)
skips_adds (Append other part ∷ ws) name s = inr (s.0, skips_adds ws name s.1)

pub builds_after : (ws vs : List Write) (name bytes : List ℕ) → Skips ws name → Builds vs name bytes → Builds (ws ++ vs) name bytes
builds_after [] vs name bytes s u = u
builds_after (Begin other ∷ ws) vs name bytes s u = inr (s.0, builds_after ws vs name bytes s.1 u)
builds_after (Append other part ∷ ws) vs name bytes s u = (s.0, builds_after ws vs name bytes s.1 u)
