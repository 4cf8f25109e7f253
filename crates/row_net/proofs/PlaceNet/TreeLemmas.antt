-- What trees read.
use Rattle.net_core.specs.Nets.{Tree, TConst, TRead, TBit, TPartSelect, TMemoryWord, TUnary, TBinary, TConditional, TConcatenation, Trees, TLast, TMore}
use Rattle.block_core.specs.Order.{Reads, AllRead}

-- nets that are of one sort are of a wider one
mutual
  pub reads_as : {N : Type 0} (q r : N → Type 0) → ((n : N) → q n → r n) → (t : Tree N) → Reads q t → Reads r t
  reads_as q r sub (TConst w) h = tt
  reads_as q r sub (TRead n) h = sub n h
  reads_as q r sub (TBit n i) h = sub n h
  reads_as q r sub (TPartSelect n hi lo) h = sub n h
  reads_as q r sub (TMemoryWord m i) h = (sub m h.0, reads_as q r sub i h.1)
  reads_as q r sub (TUnary p a) h = reads_as q r sub a h
  reads_as q r sub (TBinary op a b) h = (reads_as q r sub a h.0, reads_as q r sub b h.1)
  reads_as q r sub (TConditional c a b) h = (reads_as q r sub c h.0, reads_as q r sub a h.1, reads_as q r sub b h.2)
  reads_as q r sub (TConcatenation ps) h = all_read_as q r sub ps h

  pub all_read_as : {N : Type 0} (q r : N → Type 0) → ((n : N) → q n → r n) → (ps : Trees N) → AllRead q ps → AllRead r ps
  all_read_as q r sub (TLast a) h = reads_as q r sub a h
  all_read_as q r sub (TMore a ps) h = (reads_as q r sub a h.0, all_read_as q r sub ps h.1)
