-- Texts that were added one after the other.
use Rattle.std.proofs.Common.{ℕ, Result, OnOk, List, [], ◌∷◌, ◌++◌, subst, append_assoc}
use Rattle.std.proofs.lemmas.Result.{on_ok_weaker}
use Rattle.verilog_lex.specs.Lexeme.{Lexeme}
use Rattle.verilog_lex.specs.Spelling.{IsClosed, IsOpen}
use Rattle.verilog_lex.proofs.SpellingLaws.{IsOpen-closed}
use Rattle.verilog_write.specs.Adds.{AddsWord, AddsLine}

pub line_more : {a b c : List ℕ} {ls ms : List Lexeme} → AddsLine a b ls → AddsLine b c ms → AddsLine a c (ls ++ ms)
line_more {a} {b} {c} {ls} {ms} h k = record {
  read = λ before p. let P : List Lexeme → Type 0 = λ all. IsClosed c all in subst P (append_assoc before ls ms) (k.read (before ++ ls) (h.read before p));
}

pub opened : {text : List ℕ} {ls : List Lexeme} → IsClosed text ls → IsOpen text ls
opened {text} {ls} h = IsOpen-closed text ls h

-- what a last call gives
pub from_ok : {T E P Q : Type 0} (r : Result T E) → OnOk r P → (P → Q) → OnOk r Q
from_ok r h f = on_ok_weaker r f h

-- the end of a line after a word
pub word_line : {a b c : List ℕ} {ls : List Lexeme} → AddsWord a b ls → ((before : List Lexeme) → IsOpen b before → IsClosed c before) → AddsLine a c ls
word_line {ls = ls} w e = record { read = λ before h. e (before ++ ls) (w.read before h) }

-- more of a line after a word
pub marked_line : {a b c : List ℕ} {ls ms : List Lexeme} → AddsWord a b ls → ((before : List Lexeme) → IsOpen b before → IsClosed c (before ++ ms)) → AddsLine a c (ls ++ ms)
marked_line {a} {b} {c} {ls} {ms} w e = record {
  read = λ before h. let P : List Lexeme → Type 0 = λ all. IsClosed c all in subst P (append_assoc before ls ms) (e (before ++ ls) (w.read before h));
}

-- what stands before the items, the items, and a last lexeme
pub whole_text : (text : List ℕ) (a b c e f g : Lexeme) (ports items : List Lexeme)
    → IsClosed text ((([] ++ (a ∷ b ∷ c ∷ (ports ++ e ∷ f ∷ []))) ++ items) ++ g ∷ []) → IsClosed text (a ∷ b ∷ c ∷ (ports ++ e ∷ f ∷ (items ++ g ∷ [])))
whole_text text a b c e f g ports items h = simp append_assoc at h
