-- Lines that were put, up to one that was not.
use Rattle.std.proofs.Common.{◌≡◌, ℕ, suc, ◌+◌, ◌<◌, length, take, drop, get_or, arith, Bool, IsTrue, List, [], ◌∷◌, ◌++◌, Option, Some, None, sym, ◌∙◌, ap, subst, inl, inr, append_assoc, append-nil}
use Rattle.std.specs.List.{concat}
use Rattle.std.proofs.lemmas.List.Folds.{concat-append}
use Rattle.std.proofs.lemmas.List.{take_more}
use Rattle.std.proofs.Math.Seq.{split_at}
use Rattle.shelf_core.specs.Shelf.{Rose, HoldsFront, LeavesFront, appended, content_of}
use Rattle.shelf_core.proofs.PrefixLaws.{front_of_more}
use Rattle.capture_run.specs.States.{SinkState, IsLaterSink}
use Rattle.ehdl_top.specs.Ends.{ArePut, AreCutOff}
use Rattle.capture_run.proofs.StateLaws.{rose_from}

-- ---- one line more
-- after the lines so far, as one text
joined : (old : Option (List ℕ)) (lines : List (List ℕ)) (line : List ℕ) (rest : List (List ℕ)) → (appended old (concat lines) ++ line) ++ concat rest ≡ appended old (concat (lines ++ line ∷ rest))
joined old lines line rest =
    append_assoc (appended old (concat lines)) line (concat rest) ∙ append_assoc (content_of old) (concat lines) (line ++ concat rest)
    ∙ ap (λ t. content_of old ++ t) (sym (concat-append lines (line ∷ rest)))

one_more : (old : Option (List ℕ)) (lines : List (List ℕ)) (line : List ℕ) → appended old (concat lines) ++ line ≡ appended old (concat (lines ++ line ∷ []))
one_more old lines line = sym (append-nil (appended old (concat lines) ++ line)) ∙ joined old lines line []

pub put_more : (lines : List (List ℕ)) (line : List ℕ) (old now new : SinkState) → ArePut lines old now → now.tells ≡ old.tells → (IsTrue now.tells → new.taken ≡ Some (appended now.taken line)) → ArePut (lines ++ line ∷ []) old new
put_more [] line old now new same told put =
    let P : SinkState → Type 0 = λ s. IsTrue s.tells → new.taken ≡ Some (appended s.taken line) in
    λ tells. subst P same put tells ∙ ap (λ t. Some (appended old.taken t)) (sym (append-nil line))
put_more (first ∷ lines) line old now new are told put = λ tells.
    let P : Bool → Type 0 = λ t. IsTrue t in
    put (subst P (sym told) tells) ∙ ap (λ h. Some (appended h line)) (are tells) ∙ ap Some (one_more old.taken (first ∷ lines) line)

-- ---- one that was not put whole
leaves_front : (old : Option (List ℕ)) (bytes : List ℕ) (new : Option (List ℕ)) → HoldsFront (appended old bytes) new → LeavesFront old bytes new
leaves_front None bytes new front = inr front
leaves_front (Some content) bytes new front = front

front_as : (a b : List ℕ) (new : Option (List ℕ)) → a ≡ b → HoldsFront a new → HoldsFront b new
front_as a b new e front = subst (λ (t : List ℕ). HoldsFront t new) e front

-- none was put before it
first_cut : (old : Option (List ℕ)) (line more : List ℕ) (new : Option (List ℕ)) → LeavesFront old line new → LeavesFront old (line ++ more) new
first_cut None line more new (inl none) = inl none
first_cut None line more new (inr front) = inr (front_of_more line more new front)
first_cut (Some content) line more new front = front_as ((content ++ line) ++ more) (content ++ (line ++ more)) new (append_assoc content line more) (front_of_more (content ++ line) more new front)

pub cut_more : (lines : List (List ℕ)) (line : List ℕ) (rest : List (List ℕ)) (old now : SinkState) (new : Option (List ℕ)) → ArePut lines old now → now.tells ≡ old.tells → (IsTrue now.tells → LeavesFront now.taken line new)
    → IsTrue old.tells → LeavesFront old.taken (concat (lines ++ line ∷ rest)) new
cut_more [] line rest old now new same told cut tells =
    let P : SinkState → Type 0 = λ s. IsTrue s.tells → LeavesFront s.taken line new in
    first_cut old.taken line (concat rest) new (subst P same cut tells)
cut_more (first ∷ lines) line rest old now new are told cut tells =
    let P : Bool → Type 0 = λ t. IsTrue t in
    let Q : Option (List ℕ) → Type 0 = λ h. LeavesFront h line new in
    let front : HoldsFront (appended old.taken (concat (first ∷ lines)) ++ line) new = subst Q (are tells) (cut (subst P (sym told) tells)) in
    leaves_front old.taken (concat ((first ∷ lines) ++ line ∷ rest)) new
    (front_as ((appended old.taken (concat (first ∷ lines)) ++ line) ++ concat rest) (appended old.taken (concat ((first ∷ lines) ++ line ∷ rest))) new (joined old.taken (first ∷ lines) line rest)
    (front_of_more (appended old.taken (concat (first ∷ lines)) ++ line) (concat rest) new front))

-- ---- line by line
module _ (lines : List (List ℕ)) (i : ℕ) (line : List ℕ) (old now new : SinkState) (below : i < length lines) (is : line ≡ get_or lines i line) (are : ArePut (take i lines) old now) (later : IsLaterSink old now) where
  pub put_next : (IsTrue now.tells → new.taken ≡ Some (appended now.taken line)) → ArePut (take (i + 1) lines) old new
  put_next put =
      subst (λ (ls : List (List ℕ)). ArePut ls old new) (sym (take_more lines i line below ∙ ap (λ x. take i lines ++ x ∷ []) (sym is)))
      (put_more (take i lines) line old now new are later.tells put)

  pub cut_at : (IsTrue now.tells → LeavesFront now.taken line new.taken) → Rose now.faults new.faults → AreCutOff lines old new
  cut_at cut rose = record {
    some = λ none. let e : length lines ≡ 0 = ap length none in omega (arith, below, e);
    rose = rose_from old.faults now.faults new.faults later.faults rose;
    front = λ tells.
        subst (λ (ls : List (List ℕ)). LeavesFront old.taken (concat ls) new.taken) (sym (split_at lines i line below ∙ ap (λ x. take i lines ++ x ∷ drop (suc i) lines) (sym is)))
        (cut_more (take i lines) line (drop (suc i) lines) old now new.taken are later.tells cut tells);
  }
