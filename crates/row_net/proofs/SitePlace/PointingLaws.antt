-- What a pointer takes, said of more.
use Rattle.std.proofs.Common.{ℕ, Bool, true, false, List, slice_index}
use Rattle.overlay_net.specs.cell_core.declared.operator.Operator.{Operator}
use Rattle.overlay_net.specs.cell_core.declared.operator.Operator.TheVariants.{Wire, Phi}
use Rattle.row_net.specs.SitePlace.Pointing.{is_edge, HoldsOf, Takes}

pub of_as : (e f p q : ℕ → Type 0) → ((i : ℕ) → e i → f i) → ((i : ℕ) → p i → q i) → (b : Bool) (i : ℕ) → HoldsOf e p b i → HoldsOf f q b i
of_as e f p q edges pointers true i h = edges i h
of_as e f p q edges pointers false i h = pointers i h

pub takes_as : (e f p q : ℕ → Type 0) → ((i : ℕ) → e i → f i) → ((i : ℕ) → p i → q i) → (op : Operator) (ins : List ℕ) → Takes e p op ins → Takes f q op ins
takes_as e f p q edges pointers Wire ins h = pointers (slice_index ins 0) h
takes_as e f p q edges pointers Phi ins h = λ n l. of_as e f p q edges pointers (is_edge n) (slice_index ins n) (h n l)
takes_as e f p q edges pointers op ins h = tt
