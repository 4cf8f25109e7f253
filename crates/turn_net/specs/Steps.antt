-- What the nets of the part say, step by step.
use Rattle.std.specs.Prelude.{◌≡◌, ℕ, suc, ◌<◌, Bool, true, not, ◌&&◌, ◌||◌, if◌then◌else◌, Option, Some, None, is_some, All, List, [], ◌∷◌, ◌++◌, length, map as map_list}
use Rattle.std.proofs.Common.{get_or}
use Rattle.net_core.specs.Value.{Env}
use Rattle.block_core.specs.declared.name.Name.{Name}
use Rattle.block_core.specs.declared.name.Name.TheVariants as name
use Rattle.block_core.specs.Blocks.{BlockWireTree}
use Rattle.hazard_core.specs.xdp_maps.declared.decl.MapDecl.{MapDecl}
use Rattle.hazard_core.specs.cell_core.Cells.{bit, on}
use Rattle.hazard_core.specs.cell_core.Sites.{ProgramView}
use Rattle.hazard_core.specs.StageValues.{StageValues, writes}
use Rattle.cell_nets.specs.declared.operand.Operand.{Operand}
use Rattle.cell_nets.specs.declared.operand.Operand.TheVariants.{Net}
use Rattle.cell_nets.specs.Operands.{number_in, IsOperand}
use Rattle.cell_nets.specs.Wires.{HasBits, always}
use Rattle.cell_nets.specs.StepNets.Standing.{Stands}
use Rattle.cell_nets.specs.declared.operand_blocks.registers.Taken.{Taken}
use Rattle.turn_net.specs.declared.nets.RecordNets.{RecordNets}
use Rattle.turn_net.specs.declared.nets.ActionNets.{ActionNets}
use Rattle.turn_net.specs.declared.choosing.Step.{Step}
use Rattle.turn_net.specs.Actions.{first_open, may_commit, committing, is_at, behind_site, done_after}
use Rattle.turn_net.specs.declared.nets.ActionShape.{ActionShape}
use Rattle.turn_net.specs.Nets.{sites_of, kept, outside, own_operands, ShowsRecords, signals_in}

-- Whatever stands after earlier wires, after the new ones stand these operands, of which something is known.
abbrev pub Leads : {P : Type 0} → P → List (BlockWireTree (Name P)) → List (BlockWireTree (Name P)) → List (Operand (Name P)) → List (Operand (Name P)) → (Env (Name P) → Type 0) → Type 0
Leads p old new args outs knows = Stands p old new args always outs knows

-- ---- one operation after another
-- bits that say whether it commits and whether a later one may, and how far the packet is, in so many bits
pub record HasSteps {N : Type 0} (bits : ℕ) (s : Step N) : Type 0 where
  pub chosen : IsOperand s.chosen
  pub free : IsOperand s.free
  pub done : IsOperand s.done
  pub chosen_bits : HasBits 1 s.chosen
  pub free_bits : HasBits 1 s.free
  pub done_bits : HasBits bits s.done

-- An operation commits where it is open and may.
pub record IsStep {N : Type 0} (v : Env N) (number : ℕ) (opened : Operand N) (before after : Step N) : Type 0 where
  pub chosen : number_in v after.chosen ≡ bit (on (number_in v before.free) && on (number_in v opened))
  pub free : number_in v after.free ≡ bit (on (number_in v before.free) && not (on (number_in v opened)))
  pub done : number_in v after.done ≡ (if on (number_in v before.free) && on (number_in v opened) then suc number else number_in v before.done)

-- ---- the site that commits among some
abbrev pub IsBelow : ℕ → Option ℕ → Type 0
IsBelow n None = Unit {0}
IsBelow n (Some j) = j < n

-- each record's operand says whether it is the site that commits
abbrev pub ShowsChosen : {N : Type 0} → Env N → Option ℕ → List (RecordNets N) → List (Operand N) → Type 0
ShowsChosen v site rs chosen = (k : ℕ) (d : Operand _) (r : RecordNets _) → k < length rs → number_in v (get_or chosen k d) ≡ bit (is_at site (get_or rs k r).number)

-- This is the first open one, if one may commit. After it none may, and the packet is through with it.
pub record AreChosen {N : Type 0} (p : ProgramView) (decls : List MapDecl) (v : Env N) (may : Bool) (now rest : ℕ) (rs : List (RecordNets N)) (chosen : List (Operand N)) (last : Step N) : Type 0 where
  pub site : Option ℕ
  pub shown : (h : StageValues) → (may ≡ true → ShowsRecords v p h rs) → site ≡ (if may then first_open now (writes p decls h) (sites_of rs) else None)
  pub within : (n : ℕ) → All (λ r. r.number < n) rs → IsBelow n site
  pub each : ShowsChosen v site rs chosen
  pub free : number_in v last.free ≡ bit (may && not (is_some site))
  pub done : number_in v last.done ≡ behind_site rest site

-- a bit for each
pub record HasChosen {N : Type 0} (rs : List (RecordNets N)) (chosen : List (Operand N)) : Type 0 where
  pub count : length chosen ≡ length rs
  pub operands : All IsOperand chosen
  pub bits : All (HasBits 1) chosen

-- ---- slots
-- those that updates took, after the clock: in registers from one on
abbrev pub slot_at : {P : Type 0} → Env (Name P) → P → Option ℕ → ℕ → RecordNets (Name P) → ℕ
slot_at v part site at r = if is_at site r.number then number_in v r.target else (v.net (name.Register part at)).value

abbrev pub slots_after : {P : Type 0} → Env (Name P) → P → Option ℕ → ℕ → List (RecordNets (Name P)) → List ℕ
slots_after v part site at [] = []
slots_after v part site at (r ∷ rs) = slot_at v part site at r ∷ slots_after v part site (suc at) rs

abbrev pub AreSlots : {P : Type 0} → Env (Name P) → P → List (RecordNets (Name P)) → List (Operand (Name P)) → List (Operand (Name P)) → Type 0
AreSlots v part rs chosen slots = (site : Option ℕ) → ShowsChosen v site rs chosen → map_list (number_in v) slots ≡ slots_after v part site 1 (kept rs)

-- ---- all of it
pub record IsDecided {P : Type 0} (p : ProgramView) (decls : List MapDecl) (part : P) (nets : ActionNets P) (rs : List (RecordNets (Name P))) (chosen : List (Operand (Name P))) (one stay : Name P) (last : Operand (Name P)) (taken : List (Operand (Name P))) (v : Env (Name P)) : Type 0 where
  pub site : Option ℕ
  pub shown : (h : StageValues) → (may_commit (signals_in nets v) ≡ true → ShowsRecords v p h rs) → site ≡ committing (signals_in nets v) (first_open (v.net (name.Register part 0)).value (writes p decls h) (sites_of rs))
  pub each : ShowsChosen v site rs chosen
  pub commits : (v.net one).value ≡ bit (is_some site)
  pub stays : (v.net stay).value ≡ bit (is_some site || on (v.net nets.host).value)
  pub done : number_in v last ≡ done_after (signals_in nets v) (v.net (name.Register part 0)).value site
  pub slots : map_list (number_in v) taken ≡ slots_after v part site 1 (kept rs)

-- the operands of it
pub record HasDecided {N : Type 0} (shape : ActionShape) (rs : List (RecordNets N)) (each : List (Operand N)) (last : Operand N) (slots : List (Operand N)) : Type 0 where
  pub chosen : HasChosen rs each
  pub done : IsOperand last
  pub done_bits : HasBits shape.bits last
  pub slots_count : length slots ≡ length (kept rs)
  pub slot_operands : All IsOperand slots
  pub slot_bits : All (HasBits shape.slot_bits) slots

-- its nets, over the part's registers and what comes from outside
abbrev pub Decides : {P : Type 0} → ProgramView → List MapDecl → P → ActionShape → ActionNets P → List (RecordNets (Name P)) → List (BlockWireTree (Name P)) → List (BlockWireTree (Name P)) → List (Operand (Name P)) → Name P → Name P → Operand (Name P) → List (Operand (Name P)) → Type 0
Decides p decls part shape nets rs old new chosen commits stays done slots =
    Leads part old new (own_operands part shape rs ++ outside nets rs) ((Net commits 1 ∷ Net stays 1 ∷ chosen) ++ done ∷ slots) (IsDecided p decls part nets rs chosen commits stays done slots)

-- what the registers take, with their bits
abbrev pub slot_value : {N : Type 0} → ℕ → Operand N → Taken N
slot_value bits a = record { operand = a; width = bits }

abbrev pub taken_values : {N : Type 0} → ActionShape → Operand N → List (Operand N) → List (Taken N)
taken_values shape done slots = slot_value shape.bits done ∷ map_list (slot_value shape.slot_bits) slots
