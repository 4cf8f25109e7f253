-- What stands for the answer of a program.
use Rattle.std.specs.Prelude.{◌==◌, ◌/◌, Contains}
use Rattle.std.proofs.Common.{◌≡◌, ◌∙◌, ℕ, ◌+◌, ◌<◌, true, Option, All, List, [], ◌∷◌, ◌++◌, length, map, take, get_or, sym, ap, subst, arith}
use Rattle.std.proofs.lemmas.Bool.{eq-eqb}
use Rattle.std.proofs.lemmas.List.{get_or-map, length-map, map_push, take_more}
use Rattle.std.proofs.lemmas.List.Folds.{list_any_at}
use Rattle.std.proofs.lemmas.List.Elements.{All-push, Contains-get_or}
use Rattle.block_core.specs.declared.name.Name.{Name}
use Rattle.hazard_core.specs.cell_core.declared.program.FrameByte.{FrameByte}
use Rattle.overlay_net.specs.cell_nets.declared.operand.Operand.{Operand}
use Rattle.row_net.specs.Table.{Stands}
use Rattle.row_net.specs.declared.place_net.outputs.AnswerByte.{AnswerByte}
use Rattle.row_net.specs.PlaceNet.Exit.{byte_number}
use Rattle.pipe_net.specs.declared.parts.Part.{Part}
use Rattle.pipe_design.specs.Answer.{IsByteIn, has_byte, changed_words}
use Rattle.pipe_design.proofs.Listing.{kept_there}

pub mapped_in : {X Y : Type 0} (f : X → Y) (xs : List X) (x : X) → Contains xs x → Contains (map f xs) (f x)
mapped_in f xs x (i, lt, e) = (i, omega (arith, lt, length-map xs f), get_or-map f xs i x (f x) lt ∙ ap f e)

-- ---- a word of which a byte may change
pub any_word : (frame : List FrameByte) (word i : ℕ) (d : FrameByte) → i < length frame → (get_or frame i d).at / 8 ≡ word → has_byte frame word ≡ true
any_word frame word i d lt e =
    let f : FrameByte → ℕ = λ x. x.at / 8 in
    list_any_at (λ n. n == word) (map f frame) i (f d) (omega (arith, lt, length-map frame f)) (eq-eqb (get_or (map f frame) i (f d)) word (get_or-map f frame i d (f d) lt ∙ e))

-- each byte of the window that may change has its word
pub words_cover : (frame : List FrameByte) → ((x : FrameByte) → Contains frame x → x.at < 256) → (b : ℕ) → Contains (map (λ x. x.at) frame) b → Contains (changed_words frame) (b / 8)
words_cover frame small b (i, lt, e) =
    let d : FrameByte = record { at = b; cell = 0 } in
    let within : i < length frame = omega (arith, lt, length-map frame (λ (x : FrameByte). x.at)) in
    let is : (get_or frame i d).at ≡ b = sym (get_or-map (λ (x : FrameByte). x.at) frame i d b within) ∙ e in
    let below : (get_or frame i d).at < 256 = small (get_or frame i d) (Contains-get_or frame i d within) in
    kept_there (has_byte frame) 32 (b / 8) (omega (arith, below, is)) (any_word frame (b / 8) i d within (ap (λ n. n / 8) is))

pub covers : (frame : List FrameByte) (words numbers : List ℕ) → ((x : FrameByte) → Contains frame x → x.at < 256) → words ≡ changed_words frame → numbers ≡ map (λ x. x.at) frame → (b : ℕ) → Contains numbers b → Contains words (b / 8)
covers frame words numbers small e f b h = subst (λ l. Contains l (b / 8)) (sym e) (words_cover frame small b (subst (λ l. Contains l b) f h))

-- ---- one byte more
pub bytes_more :
    (table : List (Option (Operand (Name Part)))) (frame : List FrameByte) (i : ℕ) (d : FrameByte) (all : List (AnswerByte (Name Part))) (x : AnswerByte (Name Part))
    → i < length frame → (get_or frame i d).at ≡ x.at → Stands table (get_or frame i d).cell x.operand → All (IsByteIn table frame) all → All (IsByteIn table frame) (all ++ x ∷ [])
bytes_more table frame i d all x lt at stands before =
    All-push (IsByteIn table frame) all x before (record { byte = get_or frame i d; changed = Contains-get_or frame i d lt; at = at; stands = stands })

pub byte_numbers_more :
    (frame : List FrameByte) (i : ℕ) (d : FrameByte) (all : List (AnswerByte (Name Part))) (x : AnswerByte (Name Part)) → i < length frame → (get_or frame i d).at ≡ x.at
    → map byte_number all ≡ map (λ y. y.at) (take i frame) → map byte_number (all ++ x ∷ []) ≡ map (λ y. y.at) (take (i + 1) frame)
byte_numbers_more frame i d all x lt at before =
    map_push byte_number all x ∙ ap (λ l. l ++ x.at ∷ []) before ∙ ap (λ n. map (λ y. y.at) (take i frame) ++ n ∷ []) (sym at) ∙ sym (map_push (λ y. y.at) (take i frame) (get_or frame i d))
    ∙ ap (map (λ y. y.at)) (sym (take_more frame i d lt))
