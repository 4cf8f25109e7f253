-- The words and memories of what is declared, item by item.
use Rattle.std.specs.Prelude.{◌≡◌, ℕ, zero, suc, ◌<◌, ◌^◌, List, [], ◌∷◌, ◌++◌, length, replicate, take}
use Rattle.std.proofs.Common.{get_or, refl, ap, arith}
use Rattle.net_core.specs.declared.tree.Word.{Word}
use Rattle.net_core.specs.declared.design.Declared.{Declared}
use Rattle.net_core.specs.declared.design.Declared.TheVariants.{Integer, Register, Memory}
use Rattle.net_core.specs.Clock.{first_words, first_memories}

pub words_more : (ds : List Declared) (i : ℕ) → i < length ds → first_words (take (suc i) ds) ≡ first_words (take i ds) ++ first_words (get_or ds i Integer ∷ [])
words_more [] i l = absurd (omega arith)
words_more (d ∷ ds) zero l = refl
words_more (Integer ∷ ds) (suc i) l = words_more ds i (omega arith)
words_more (Register w ∷ ds) (suc i) l = ap (λ ws. w ∷ ws) (words_more ds i (omega arith))
words_more (Memory m w n ∷ ds) (suc i) l = words_more ds i (omega arith)

pub no_word : (d : Declared) → ((w : Word) → d ≡ Register w → ⊥) → first_words (d ∷ []) ≡ []
no_word Integer h = refl
no_word (Register w) h = absurd (h w refl)
no_word (Memory m w n) h = refl

pub words_append : (xs ys : List Declared) → first_words (xs ++ ys) ≡ first_words xs ++ first_words ys
words_append [] ys = refl
words_append (Integer ∷ xs) ys = words_append xs ys
words_append (Register w ∷ xs) ys = ap (λ l. w ∷ l) (words_append xs ys)
words_append (Memory i w n ∷ xs) ys = words_append xs ys

pub memories_append : (xs ys : List Declared) → first_memories (xs ++ ys) ≡ first_memories xs ++ first_memories ys
memories_append [] ys = refl
memories_append (Integer ∷ xs) ys = memories_append xs ys
memories_append (Register w ∷ xs) ys = memories_append xs ys
memories_append (Memory i w n ∷ xs) ys = ap (λ l. replicate (2 ^ i) w ∷ l) (memories_append xs ys)
