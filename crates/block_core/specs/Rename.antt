-- Trees and statements under other names of nets.
use Rattle.std.specs.Prelude.{ℕ, ◌+◌}
use Rattle.net_core.specs.Nets.{Tree, TConst, TRead, TBit, TPartSelect, TMemoryWord, TUnary, TBinary, TConditional, TConcatenation, Trees, TLast, TMore, RightTree, RPlain, RQuotient, RRemainder, StatementTree, SBlock, SIf, SIfElse, SSet, SStore, StatementTrees, SEnd, SThen}
use Rattle.net_core.specs.Value.{Env}

abbrev mutual
  pub rename : {M N : Type 0} → (M → N) → Tree M → Tree N
  rename f (TConst w) = TConst w
  rename f (TRead n) = TRead (f n)
  rename f (TBit n i) = TBit (f n) i
  rename f (TPartSelect n hi lo) = TPartSelect (f n) hi lo
  rename f (TMemoryWord m i) = TMemoryWord (f m) (rename f i)
  rename f (TUnary p a) = TUnary p (rename f a)
  rename f (TBinary op a b) = TBinary op (rename f a) (rename f b)
  rename f (TConditional c a b) = TConditional (rename f c) (rename f a) (rename f b)
  rename f (TConcatenation ps) = TConcatenation (rename_parts f ps)

  pub rename_parts : {M N : Type 0} → (M → N) → Trees M → Trees N
  rename_parts f (TLast a) = TLast (rename f a)
  rename_parts f (TMore a ps) = TMore (rename f a) (rename_parts f ps)

abbrev pub rename_right : {M N : Type 0} → (M → N) → RightTree M → RightTree N
rename_right f (RPlain e) = RPlain (rename f e)
rename_right f (RQuotient a b) = RQuotient (f a) (f b)
rename_right f (RRemainder a b) = RRemainder (f a) (f b)

-- Statements: what they set moves up by so many registers and memories.
abbrev mutual
  pub rename_statement : {M N : Type 0} → (M → N) → ℕ → ℕ → StatementTree M → StatementTree N
  rename_statement f r m (SBlock more) = SBlock (rename_statements f r m more)
  rename_statement f r m (SIf c a) = SIf (rename f c) (rename_statement f r m a)
  rename_statement f r m (SIfElse c a b) = SIfElse (rename f c) (rename_statement f r m a) (rename_statement f r m b)
  rename_statement f r m (SSet k e) = SSet (r + k) (rename f e)
  rename_statement f r m (SStore k i e) = SStore (m + k) (rename f i) (rename f e)

  pub rename_statements : {M N : Type 0} → (M → N) → ℕ → ℕ → StatementTrees M → StatementTrees N
  rename_statements f r m SEnd = SEnd
  rename_statements f r m (SThen a more) = SThen (rename_statement f r m a) (rename_statements f r m more)

-- the values of nets, by other names for them
abbrev pub seen : {M N : Type 0} → (M → N) → Env N → Env M
seen f v = record { net = λ n. v.net (f n); memory_word = λ m. v.memory_word (f m) }
