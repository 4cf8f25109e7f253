-- What is read on, and what is given of it.
use Rattle.std.proofs.Common.{◌≡◌, ℕ, ◌+◌, ◌-◌, ◌<◌, ◌≤◌, min, List, [], ◌++◌, length, take, drop, Option, Some, None, refl, sym, ap, ◌∙◌, subst, arith, inl, inr, length-append, length-drop, take-add}
use Rattle.std.specs.Prelude.{IsSome}
use Rattle.std.specs.List.{copy_within}
use Rattle.std.proofs.lemmas.Bool.{cases_lt}
use Rattle.std.proofs.lemmas.List.{append-nil, length-take, length-take-le, take_all, take-take, drop_all, drop-drop, drop-take, take_at, take-append-drop}
use Rattle.std.proofs.Math.Seq.{take-append-add}
use Rattle.std.proofs.lemmas.Slice.{take-put_mid}
use borrow.Rule.Slice.PartMut.{put_mid}
use Rattle.shelf_core.specs.Shelf.{Reads, IsLonger}
use Rattle.shelf_core.specs.Feeding.{StandsAt, IsNextOf, GivesNext, IsReadTo}

-- ---- bytes that stand in what is held
-- with those that were read behind them
pub stands_more : (held : Option (List ℕ)) (at n : ℕ) (front into : List ℕ) → 0 < n → n ≤ length into → StandsAt held at front → Reads held (at + length front) n into → StandsAt held at (front ++ take n into)
stands_more None at n front into some room stands reads = absurd reads
stands_more (Some content) at n front into some room stands reads =
    let many : length (front ++ take n into) ≡ length front + n = length-append front (take n into) ∙ ap (λ k. length front + k) (length-take-le n into room) in
    let later : take n into ≡ take n (drop (length front) (drop at content)) = reads.bytes ∙ ap (take n) (sym (drop-drop (length front) at content)) in
    let all : front ++ take n into ≡ take (length front + n) (drop at content) =
    ap (λ l. l ++ take n into) stands.1 ∙ ap (λ l. take (length front) (drop at content) ++ l) later ∙ sym (take-add (length front) n (drop at content)) in
    (omega (arith, many, reads.within some), all ∙ ap (λ k. take k (drop at content)) (sym many))

pub there : (held : Option (List ℕ)) (at n : ℕ) (into : List ℕ) → Reads held at n into → IsSome held
there None at n into reads = absurd reads
there (Some content) at n into reads = refl

pub longer : (held : Option (List ℕ)) (at n limit : ℕ) (into : List ℕ) → 0 < n → limit < at + n → Reads held at n into → IsLonger limit held
longer None at n limit into some more reads = absurd reads
longer (Some content) at n limit into some more reads = omega (arith, reads.within some)

-- ---- what is given of them
pub next_kept : (held : Option (List ℕ)) (at need : ℕ) (bytes : List ℕ) → need ≤ length bytes → StandsAt held at bytes → IsNextOf held at need (take need bytes)
next_kept None at need bytes room stands =
    let none : need ≡ 0 = omega (arith, ap length stands.1) in
    (none, ap (take need) stands.1 ∙ take_all need [] (omega arith))
next_kept (Some content) at need bytes room stands =
    ap (take need) stands.1 ∙ take-take need (length bytes) (drop at content) room

pub next_read : (held : Option (List ℕ)) (at need end : ℕ) (bytes : List ℕ) → length bytes ≡ end → StandsAt held at bytes → IsReadTo held (at + end) (need ≤ end) → IsNextOf held at need (take need bytes)
next_read None at need end bytes many stands read = absurd read
next_read (Some content) at need end bytes many stands (inl enough) = next_kept (Some content) at need bytes (omega arith) stands
next_read (Some content) at need end bytes many stands (inr all) = elim (cases_lt (length bytes) need) [
  | inl short ↦
      take_all need bytes (omega arith) ∙ stands.1 ∙ take_all (length bytes) (drop at content) (omega (arith, length-drop at content, all, many))
      ∙ sym (take_all need (drop at content) (omega (arith, length-drop at content, all, many)))
  | inr long ↦ next_kept (Some content) at need bytes long stands
]

pub ahead_left : (held : Option (List ℕ)) (at n : ℕ) (bytes : List ℕ) → StandsAt held at bytes → StandsAt held (at + length (take n bytes)) (drop n bytes)
ahead_left None at n bytes stands =
    (omega (arith, stands.0, ap length stands.1, length-take n bytes), ap (drop n) stands.1 ∙ drop_all n [] (omega arith))
ahead_left (Some content) at n bytes stands = elim (cases_lt n (length bytes)) [
  | inl less ↦
      let many : length (drop n bytes) ≡ length bytes - n = length-drop n bytes in
      let whole : length bytes ≡ n + (length bytes - n) = omega arith in
      let place : at + length (take n bytes) ≡ at + n = omega (arith, length-take n bytes) in
      let is : drop n bytes ≡ take (length bytes - n) (drop (at + n) content) =
      ap (drop n) (stands.1 ∙ ap (λ k. take k (drop at content)) whole) ∙ drop-take n (length bytes - n) (drop at content) ∙ ap (take (length bytes - n)) (drop-drop n at content) in
      (omega (arith, place, many, stands.0), is ∙ ap (λ k. take k (drop (at + n) content)) (sym many) ∙ ap (λ k. take (length (drop n bytes)) (drop k content)) (sym place))
  | inr all ↦
      let none : drop n bytes ≡ [] = drop_all n bytes all in
      (omega (arith, ap length none, length-take n bytes, stands.0), none ∙ sym (ap (λ k. take k (drop (at + length (take n bytes)) content)) (ap length none)))
]

-- ---- the buffer
-- after a read into the part behind a place
pub take_put_more : (a k n : ℕ) (xs ys : List ℕ) → a ≤ length xs → n ≤ length ys → take (a + n) (put_mid a k xs ys) ≡ take a xs ++ take n ys
take_put_more a k n xs ys le room =
    let len : length (take a xs) ≡ a = length-take-le a xs le in
    sym (take-take (a + n) (a + length ys) (put_mid a k xs ys) (omega arith))
    ∙ ap (take (a + n)) (take-put_mid a k xs ys (a + length ys) refl le)
    ∙ ap (λ m. take (m + n) (take a xs ++ ys)) (sym len)
    ∙ take-append-add (take a xs) ys n

-- the front of what was read ahead, and what is left of it
pub given_kept : (buffer : List ℕ) (middle end need : ℕ) → middle + need ≤ end → drop middle (take (middle + need) buffer) ≡ take need (drop middle (take end buffer) ++ [])
given_kept buffer middle end need room =
    let whole : end ≡ middle + (end - middle) = omega arith in
    drop-take middle need buffer ∙ sym (take-take need (end - middle) (drop middle buffer) (omega arith)) ∙ ap (take need) (sym (drop-take middle (end - middle) buffer) ∙ ap (λ k. drop middle (take k buffer)) (sym whole) ∙ sym (append-nil _))

pub ahead_kept : (buffer : List ℕ) (middle end need : ℕ) → drop (middle + need) (take end buffer) ≡ drop need (drop middle (take end buffer) ++ [])
ahead_kept buffer middle end need = sym (drop-drop need middle (take end buffer)) ∙ ap (drop need) (sym (append-nil _))

-- what was read ahead, moved to the front
pub moved : (buffer : List ℕ) (start end : ℕ) → start ≤ end → end ≤ length buffer → take (end - start) (copy_within buffer start end 0) ≡ drop start (take end buffer)
moved buffer start end le room =
    let k = end - start in
    let part = take k (drop start buffer) in
    let many : length part ≡ k = length-take-le k (drop start buffer) (omega (arith, length-drop start buffer)) in
    let whole : start + k ≡ end = omega arith in
    take_at part (drop (0 + k) buffer) k many ∙ sym (drop-take start k buffer) ∙ ap (λ n. drop start (take n buffer)) whole

-- the bytes that are kept in front, and those read behind them
pub kept_more : (buffer kept_bytes : List ℕ) (kept end : ℕ) → kept ≤ end → take kept buffer ≡ kept_bytes → take end buffer ≡ kept_bytes ++ drop kept (take end buffer)
kept_more buffer kept_bytes kept end le is =
    sym (take-append-drop kept (take end buffer)) ∙ ap (λ l. l ++ drop kept (take end buffer)) (take-take kept end buffer le ∙ is)

pub given_read : (bytes : List ℕ) (need end : ℕ) → length bytes ≡ end → take (min need end) bytes ≡ take need bytes
given_read bytes need end many = elim (cases_lt need end) [
  | inl less ↦ ap (λ k. take k bytes) (omega arith)
  | inr all ↦ take_all (min need end) bytes (omega arith) ∙ sym (take_all need bytes (omega arith))
]

pub ahead_read : (bytes : List ℕ) (need end : ℕ) → length bytes ≡ end → drop (min need end) bytes ≡ drop need bytes
ahead_read bytes need end many = elim (cases_lt need end) [
  | inl less ↦ ap (λ k. drop k bytes) (omega arith)
  | inr all ↦ drop_all (min need end) bytes (omega arith) ∙ sym (drop_all need bytes (omega arith))
]

-- ---- a call that finds enough read ahead
pub gives_kept : (buffer given : List ℕ) (limit at middle end need : ℕ) → middle + need ≤ end → end ≤ length buffer
    → GivesNext (record { limit = limit; at = at; given = given; ahead = drop middle (take end buffer) }) (record { limit = limit; at = at + need; given = drop middle (take (middle + need) buffer); ahead = drop (middle + need) (take end buffer) }) need
gives_kept buffer given limit at middle end need room len =
    let many : length (take (middle + need) buffer) ≡ middle + need = length-take-le (middle + need) buffer (omega arith) in
    record {
      read = [];
      given = given_kept buffer middle end need room;
      ahead = ahead_kept buffer middle end need;
      at = omega (arith, length-drop middle (take (middle + need) buffer), many);
      limit = refl;
    }

pub kept_next : (held : Option (List ℕ)) (buffer : List ℕ) (at middle end need : ℕ) → middle + need ≤ end → end ≤ length buffer → StandsAt held at (drop middle (take end buffer)) → IsNextOf held at need (drop middle (take (middle + need) buffer))
kept_next held buffer at middle end need room len stands =
    let bytes = drop middle (take end buffer) in
    let enough : need ≤ length bytes = omega (arith, length-drop middle (take end buffer), length-take-le end buffer len) in
    subst (λ l. IsNextOf held at need l) (sym (given_kept buffer middle end need room ∙ ap (take need) (append-nil bytes))) (next_kept held at need bytes enough stands)

pub kept_ahead : (held : Option (List ℕ)) (buffer : List ℕ) (at middle end need : ℕ) → middle + need ≤ end → end ≤ length buffer → StandsAt held at (drop middle (take end buffer)) → StandsAt held (at + need) (drop (middle + need) (take end buffer))
kept_ahead held buffer at middle end need room len stands =
    let bytes = drop middle (take end buffer) in
    let enough : need ≤ length bytes = omega (arith, length-drop middle (take end buffer), length-take-le end buffer len) in
    let left : StandsAt held (at + need) (drop need bytes) = subst (λ k. StandsAt held (at + k) (drop need bytes)) (length-take-le need bytes enough) (ahead_left held at need bytes stands) in
    subst (λ l. StandsAt held (at + need) l) (drop-drop need middle (take end buffer)) left

-- ---- a call that reads on
-- what is given of the bytes that are there then
given_of : (buffer : List ℕ) (need end middle : ℕ) → end ≤ length buffer → middle ≡ min need end → take middle buffer ≡ take need (take end buffer)
given_of buffer need end middle room is =
    let within : middle ≤ end = omega (arith, is) in
    sym (take-take middle end buffer within) ∙ ap (λ k. take k (take end buffer)) is ∙ given_read (take end buffer) need end (length-take-le end buffer room)

pub gives_read : (buffer given kept_bytes : List ℕ) (limit at kept need end middle : ℕ) → kept ≤ end → end ≤ length buffer → take kept buffer ≡ kept_bytes → middle ≡ min need end
    → GivesNext (record { limit = limit; at = at; given = given; ahead = kept_bytes }) (record { limit = limit; at = at + middle; given = take middle buffer; ahead = drop middle (take end buffer) }) need
gives_read buffer given kept_bytes limit at kept need end middle le room same is =
    let whole = kept_more buffer kept_bytes kept end le same in
    let many : length (take end buffer) ≡ end = length-take-le end buffer room in
    let within : middle ≤ end = omega (arith, is) in
    record {
      read = drop kept (take end buffer);
      given = given_of buffer need end middle room is ∙ ap (take need) whole;
      ahead = ap (λ k. drop k (take end buffer)) is ∙ ahead_read (take end buffer) need end many ∙ ap (drop need) whole;
      at = ap (λ k. at + k) (sym (length-take-le middle buffer (omega arith)));
      limit = refl;
    }

pub read_next : (held : Option (List ℕ)) (buffer : List ℕ) (at need end middle : ℕ) → end ≤ length buffer → middle ≡ min need end → StandsAt held at (take end buffer) → IsReadTo held (at + end) (need ≤ end) → IsNextOf held at need (take middle buffer)
read_next held buffer at need end middle room is stands read =
    subst (λ l. IsNextOf held at need l) (sym (given_of buffer need end middle room is)) (next_read held at need end (take end buffer) (length-take-le end buffer room) stands read)

pub read_ahead : (held : Option (List ℕ)) (buffer : List ℕ) (at need end middle : ℕ) → end ≤ length buffer → middle ≡ min need end → StandsAt held at (take end buffer) → StandsAt held (at + middle) (drop middle (take end buffer))
read_ahead held buffer at need end middle room is stands =
    let within : middle ≤ end = omega (arith, is) in
    let many : length (take middle (take end buffer)) ≡ middle = length-take-le middle (take end buffer) (omega (arith, length-take-le end buffer room)) in
    subst (λ k. StandsAt held (at + k) (drop middle (take end buffer))) many (ahead_left held at middle (take end buffer) stands)
