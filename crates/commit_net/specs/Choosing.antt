-- What stands for the operations on a map of which one commits.
use Rattle.std.specs.Prelude.{◌≡◌, ℕ, ◌/◌, ◌<◌, ◌==◌, Bool, true, false, if◌then◌else◌, All, List, [], ◌∷◌, ◌++◌, length, map as map_list}
use Rattle.std.proofs.Common.{get_or}
use Rattle.net_core.specs.Value.{Env}
use Rattle.overlay_net.specs.cell_core.declared.site.Act.{Act}
use Rattle.overlay_net.specs.cell_core.declared.site.Act.TheVariants as act
use Rattle.overlay_net.specs.cell_core.Cells.{bit, phi}
use Rattle.overlay_net.specs.cell_core.Sites.{ProgramView, site_at}
use Rattle.overlay_net.specs.hazard_core.Tables.{TableState}
use Rattle.overlay_net.specs.hazard_core.StageValues.{StageValues, is_delete}
use Rattle.overlay_net.specs.hazard_core.Commits.{written_slot, makes_entry}
use Rattle.overlay_net.specs.cell_nets.declared.operand.Operand.{Operand}
use Rattle.overlay_net.specs.cell_nets.declared.operand.Operand.TheVariants.{Known}
use Rattle.overlay_net.specs.cell_nets.Operands.{number_in, IsOperand}
use Rattle.overlay_net.specs.SiteOperands.Sites.{operands_of, ShowsAsked}
use Rattle.commit_net.specs.declared.choosing.CommitNets.{CommitNets}
use Rattle.commit_net.specs.declared.choosing.Asked.{Asked}
use Rattle.commit_net.specs.declared.choosing.Asked.TheVariants.{Slot, Insert, Delete, Key, Change}

-- whether an operation changes a word of a value: an update each, a store and an atomic change the one in which they lie
abbrev pub changes_word : Act → ℕ → Bool
changes_word act.Update w = true
changes_word (act.Store at size) w = at / 8 == w
changes_word (act.Atomic at a) w = at / 8 == w
changes_word a w = false

-- what one of them asks
abbrev pub asked_of : {N : Type 0} → Asked → CommitNets N → Operand N
asked_of Slot n = n.target
asked_of Insert n = n.makes
asked_of Delete n = if is_delete n.act then Known 1 else Known 0
asked_of (Key w) n = get_or n.nets.now.key.items w (Known 0)
asked_of (Change w) n = if changes_word n.act w then Known 1 else Known 0

-- whether each commits
abbrev pub chosen_of : {N : Type 0} → List (CommitNets N) → List (Operand N)
chosen_of ns = map_list (λ n. n.chosen) ns

-- operands in pairs
abbrev pub paired : {X : Type 0} → List X → List X → List X
paired [] ys = []
paired (x ∷ xs) [] = []
paired (x ∷ xs) (y ∷ ys) = x ∷ y ∷ paired xs ys

-- of operands of several operations that of the one that commits
abbrev pub picked : {N : Type 0} → List (CommitNets N) → List (Operand N) → Env N → ℕ
picked ns values v = phi (map_list (number_in v) (paired (chosen_of ns) values))

-- ---- the operands of them
abbrev pub read_of : {N : Type 0} → CommitNets N → List (Operand N)
read_of n = n.chosen ∷ n.target ∷ n.makes ∷ n.nets.now.key.items ++ n.nets.now.operands.items

abbrev pub all_read : {N : Type 0} → List (CommitNets N) → List (Operand N)
all_read [] = []
all_read (n ∷ ns) = read_of n ++ all_read ns

abbrev pub HasOperands : {N : Type 0} → CommitNets N → Type 0
HasOperands n = All IsOperand (read_of n)

-- ---- one commits, and no other one
abbrev pub IsOnly : {N : Type 0} → Env N → List (CommitNets N) → ℕ → Type 0
IsOnly v ns k = (i : ℕ) (d : CommitNets _) → i < length ns → number_in v (get_or ns i d).chosen ≡ bit (i == k)

-- its operands stand for the operation at site j: what this asks, the slot that it writes, and whether it makes an entry there
pub record ShowsCommit {N : Type 0} (v : Env N) (p : ProgramView) (t : TableState) (taken : List ℕ) (h : StageValues) (j : ℕ) (n : CommitNets N) : Type 0 where
  pub asked : ShowsAsked v p h j (operands_of n.nets.now)
  pub target : number_in v n.target ≡ written_slot p t taken h j
  pub makes : number_in v n.makes ≡ bit (makes_entry p t h j)

-- One of them commits, and no other one: by what it does the operation at site j.
pub record IsChosen {N : Type 0} (v : Env N) (p : ProgramView) (j : ℕ) (ns : List (CommitNets N)) : Type 0 where
  pub place : ℕ
  pub nets : CommitNets N
  pub within : place < length ns
  pub is : get_or ns place nets ≡ nets
  pub only : IsOnly v ns place
  pub act : (site_at p.sites j).act ≡ nets.act

-- and its operands stand for it
pub record Commits {N : Type 0} (v : Env N) (p : ProgramView) (t : TableState) (taken : List ℕ) (h : StageValues) (j : ℕ) (ns : List (CommitNets N)) : Type 0 where
  pub chosen : IsChosen v p j ns
  pub shows : ShowsCommit v p t taken h j chosen.nets
