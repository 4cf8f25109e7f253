-- What holds of all elements of a list.
use Rattle.std.proofs.Common.{zero, suc, ◌+◌, All, List, [], ◌∷◌, ◌++◌, length, length-append, subst, arith}
use Rattle.std.proofs.lemmas.List.{get_or_append_left, get_or-append-add}
use Rattle.std.proofs.lemmas.List.Elements.{All-nil, All-cons, All-head, All-tail}

-- ---- of all what is said of each

pub all_one : {X : Type 0} (Q : X → Type 0) (x : X) → Q x → All Q (x ∷ [])
all_one Q x h zero d lt = h
all_one Q x h (suc k) d lt = absurd (omega arith)

pub all_two : {X : Type 0} (Q : X → Type 0) (x y : X) → Q x → Q y → All Q (x ∷ y ∷ [])
all_two Q x y h l zero d lt = h
all_two Q x y h l (suc zero) d lt = l
all_two Q x y h l (suc (suc k)) d lt = absurd (omega arith)

pub all_three : {X : Type 0} (Q : X → Type 0) (x y z : X) → Q x → Q y → Q z → All Q (x ∷ y ∷ z ∷ [])
all_three Q x y z h l m zero d lt = h
all_three Q x y z h l m (suc zero) d lt = l
all_three Q x y z h l m (suc (suc zero)) d lt = m
all_three Q x y z h l m (suc (suc (suc k))) d lt = absurd (omega arith)

-- ---- of one list and another

pub all_left : {X : Type 0} (Q : X → Type 0) (xs ys : List X) → All Q (xs ++ ys) → All Q xs
all_left Q xs ys h k d l = subst Q (get_or_append_left xs ys d k l) (h k d (omega (arith, length-append xs ys)))

pub all_right : {X : Type 0} (Q : X → Type 0) (xs ys : List X) → All Q (xs ++ ys) → All Q ys
all_right Q xs ys h k d l = subst Q (get_or-append-add xs ys k d) (h (length xs + k) d (omega (arith, length-append xs ys)))

pub both_all : {X : Type 0} (Q : X → Type 0) (xs ys : List X) → All Q (xs ++ ys) → All Q xs × All Q ys
both_all Q [] ys h = (All-nil Q, h)
both_all Q (x ∷ xs) ys h = let r = both_all Q xs ys (All-tail Q x (xs ++ ys) h) in (All-cons Q x xs (All-head Q x (xs ++ ys) h) r.0, r.1)
