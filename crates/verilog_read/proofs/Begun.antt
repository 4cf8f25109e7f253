-- Items by their first words, and registers and memories by what stands after their names.
use Rattle.std.proofs.Common.{◌≡◌, ◌∙◌, ap, refl, ℕ, ◌<◌, ◌≤◌, Bool, true, false, Option, Some, None, Ok, Err, List, ◌∷◌}
use Rattle.std.specs.Prelude.{nat_le, if◌then◌else◌}
use Rattle.std.proofs.lemmas.Bool.{lt-leb, le-leb}
use Rattle.net_core.specs.Nets.{Netlist}
use Rattle.verilog_lex.specs.declared.token.Keyword.TheVariants as keyword
use Rattle.verilog_lex.specs.declared.token.Symbol.TheVariants as symbol
use Rattle.verilog_lex.specs.Lexeme.{Lexeme, LKeyword, LSymbol}
use Rattle.verilog_expression.specs.declared.fault.Code.TheVariants as code
use Rattle.verilog_expression.specs.declared.fault.Fault.{Fault}
use Rattle.verilog_expression.specs.Reads.{Read, ◌>>=◌, fault, kept_if}
use Rattle.verilog_read.specs.declared.section.Section.{Section}
use Rattle.verilog_read.specs.declared.sections.Item.{Item}
use Rattle.verilog_read.specs.Declarations.{register_at, memory_at, stored_at}
use Rattle.verilog_read.specs.Items.{item_at, item_in, rank}
use Rattle.verilog_read.specs.Words.{begins_at, behind_word, item_section, storage_at}

-- a section and a design
named : Section → Netlist × List Lexeme → Read (Section × Netlist)
named s x = Ok ((s, x.0), x.1)

-- an item from its first word
begun : Section → Netlist → List Lexeme → Option (Item × List Lexeme) → Read (Section × Netlist)
begun now d ts None = fault code.Syntax ts
begun now d ts (Some x) = kept_if (nat_le (rank now) (rank (item_section x.0))) ts code.Order ts >>= λ ordered. behind_word x.0 d x.1 >>= named (item_section x.0)

kept_as : {X : Type 0} (b : Bool) (ts : List Lexeme) (f : List Lexeme → Read X) (g : Read X) → f ts ≡ g → (kept_if b ts code.Order ts >>= f) ≡ (kept_if b ts code.Order ts >>= λ ordered. g)
kept_as true ts f g e = e
kept_as false ts f g e = refl

by_word : (now : Section) (d : Netlist) (ts : List Lexeme) → item_in now d ts ≡ begun now d ts (begins_at ts)
unfolding item_in item_at begun named
by_word now d (LKeyword keyword.Integer ∷ ts) = kept_as (nat_le (rank now) 0) (LKeyword keyword.Integer ∷ ts) _ _ refl
by_word now d (LKeyword keyword.Reg ∷ ts) = kept_as (nat_le (rank now) 0) (LKeyword keyword.Reg ∷ ts) _ _ refl
by_word now d (LKeyword keyword.Wire ∷ ts) = kept_as (nat_le (rank now) 1) (LKeyword keyword.Wire ∷ ts) _ _ refl
by_word now d (LKeyword keyword.Assign ∷ ts) = kept_as (nat_le (rank now) 2) (LKeyword keyword.Assign ∷ ts) _ _ refl
by_word now d (LKeyword keyword.Always ∷ ts) = kept_as (nat_le (rank now) 3) (LKeyword keyword.Always ∷ ts) _ _ refl
by_word now d ts = refl

pub none_begun : (now : Section) (d : Netlist) (ts : List Lexeme) → begins_at ts ≡ None → item_in now d ts ≡ fault code.Syntax ts
unfolding begun
none_begun now d ts e = by_word now d ts ∙ rw e refl

known : (now : Section) (d : Netlist) (ts r : List Lexeme) (k : Item) → begins_at ts ≡ Some (k, r) → item_in now d ts ≡ begun now d ts (Some (k, r))
known now d ts r k e = by_word now d ts ∙ ap (begun now d ts) e

pub item_late : (now : Section) (d : Netlist) (ts r : List Lexeme) (k : Item) → begins_at ts ≡ Some (k, r) → rank (item_section k) < rank now → item_in now d ts ≡ fault code.Order ts
unfolding begun
item_late now d ts r k e h = known now d ts r k e ∙ by_rank (nat_le (rank now) (rank (item_section k))) (lt-leb (rank now) (rank (item_section k)) h)
  where
    by_rank : (b : Bool) → b ≡ false → (kept_if b ts code.Order ts >>= λ ordered. behind_word k d r >>= named (item_section k)) ≡ fault code.Order ts
    by_rank true f = absurd cc
    by_rank false f = refl

in_order : (now : Section) (d : Netlist) (ts r : List Lexeme) (k : Item) → begins_at ts ≡ Some (k, r) → rank now ≤ rank (item_section k) → item_in now d ts ≡ (behind_word k d r >>= named (item_section k))
unfolding begun
in_order now d ts r k e h = known now d ts r k e ∙ by_rank (nat_le (rank now) (rank (item_section k))) (le-leb (rank now) (rank (item_section k)) h)
  where
    by_rank : (b : Bool) → b ≡ true → (kept_if b ts code.Order ts >>= λ ordered. behind_word k d r >>= named (item_section k)) ≡ (behind_word k d r >>= named (item_section k))
    by_rank true f = refl
    by_rank false f = absurd cc

pub item_begun : (now s : Section) (d x : Netlist) (ts r rest : List Lexeme) (k : Item) → begins_at ts ≡ Some (k, r) → rank now ≤ rank (item_section k) → behind_word k d r ≡ Ok (x, rest) → s ≡ item_section k → item_in now d ts ≡ Ok ((s, x), rest)
unfolding named
item_begun now s d x ts r rest k e h f g = in_order now d ts r k e h ∙ rw (f, g) refl

pub item_faulty : (now : Section) (d : Netlist) (ts r : List Lexeme) (k : Item) (f : Fault) → begins_at ts ≡ Some (k, r) → rank now ≤ rank (item_section k) → behind_word k d r ≡ Err f → item_in now d ts ≡ Err f
item_faulty now d ts r k f e h g = in_order now d ts r k e h ∙ rw g refl

-- ---- registers and memories
pick : Netlist → ℕ → List ℕ → Bool × List Lexeme → Read Netlist
pick d width s x = if x.0 then register_at d width s x.1 else memory_at d width s x.1

by_storage : (d : Netlist) (width : ℕ) (s : List ℕ) (ts : List Lexeme) → stored_at d width s ts ≡ (storage_at ts >>= pick d width s)
unfolding stored_at pick
by_storage d width s (LSymbol symbol.Assign ∷ ts) = refl
by_storage d width s (LSymbol symbol.OpenBracket ∷ ts) = refl
by_storage d width s ts = refl

pub not_stored : (d : Netlist) (width : ℕ) (s : List ℕ) (ts : List Lexeme) (f : Fault) → storage_at ts ≡ Err f → stored_at d width s ts ≡ Err f
not_stored d width s ts f e = by_storage d width s ts ∙ rw e refl

pub stored_register : (d : Netlist) (width : ℕ) (s : List ℕ) (ts r : List Lexeme) (b : Bool) → storage_at ts ≡ Ok (b, r) → b ≡ true → stored_at d width s ts ≡ register_at d width s r
unfolding pick
stored_register d width s ts r b e f = by_storage d width s ts ∙ rw (e, f) refl

pub stored_memory : (d : Netlist) (width : ℕ) (s : List ℕ) (ts r : List Lexeme) (b : Bool) → storage_at ts ≡ Ok (b, r) → b ≡ false → stored_at d width s ts ≡ memory_at d width s r
unfolding pick
stored_memory d width s ts r b e f = by_storage d width s ts ∙ rw (e, f) refl
