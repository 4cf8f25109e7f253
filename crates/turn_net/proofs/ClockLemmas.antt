-- What the registers of the part hold after a clock.
use Rattle.std.specs.Prelude.{◌==◌, if◌then◌else◌, cond, slice_index, slice_set}
use Rattle.std.proofs.Common.{◌≡◌, ℕ, zero, suc, ◌+◌, ◌^◌, ◌<◌, Bool, true, false, Option, Some, None, All, List, [], ◌∷◌, length, get_or, refl, sym, ◌∙◌, ap, subst, arith, map as map_list}
use Rattle.std.proofs.lemmas.Bool.{eqb-true, eqb-false}
use Rattle.std.proofs.lemmas.List.{get_or-map, length-map}
use Rattle.std.proofs.lemmas.List.Elements.{All-nil, All-cons, All-head, All-tail}
use Rattle.net_core.specs.Value.{word, Env}
use Rattle.block_core.specs.declared.name.Name.{Name}
use Rattle.block_core.specs.declared.name.Name.TheVariants as name
use Rattle.hazard_core.specs.xdp_maps.declared.decl.MapKind.{MapKind}
use Rattle.hazard_core.specs.cell_core.declared.site.Act.{Act}
use Rattle.hazard_core.specs.cell_core.declared.site.Act.TheVariants as act
use Rattle.hazard_core.specs.cell_core.Sites.{ProgramView, site_at}
use Rattle.hazard_core.specs.Tables.{TableState}
use Rattle.hazard_core.specs.StageValues.{StageValues, is_update}
use Rattle.hazard_core.specs.Commits.{written_slot}
use Rattle.hazard_core.proofs.cell_core_laws.BitLaws.{small_bits}
use Rattle.cell_nets.specs.declared.operand.Operand.{Operand}
use Rattle.cell_nets.specs.Operands.{number_in}
use Rattle.cell_nets.specs.OperandBlocks.Registers.{taken_word, zero_word}
use Rattle.turn_net.specs.declared.nets.RecordNets.{RecordNets}
use Rattle.turn_net.specs.Actions.{is_at, taken_by}
use Rattle.turn_net.specs.Nets.{keeps_slot, keeps, kept}
use Rattle.turn_net.specs.Steps.{slot_at, slots_after, slot_value}
use Rattle.turn_net.specs.Action.{slot_word, IsSmall, ShowsTarget}

-- ---- of each kept record
pub kept_keep : {N : Type 0} (rs : List (RecordNets N)) → All (λ r. keeps r ≡ true) (kept rs)
kept_keep [] = All-nil (λ r. keeps r ≡ true)
kept_keep {N} (x ∷ rs) = by (keeps x) refl (kept_keep rs)
  where
    by : (b : Bool) → keeps x ≡ b → All (λ r. keeps r ≡ true) (kept rs) → All (λ (r : RecordNets N). keeps r ≡ true) (cond b (x ∷ kept rs) (kept rs))
    by true e h = All-cons (λ r. keeps r ≡ true) x (kept rs) e h
    by false e h = h

update_of : (a : Act) (k : MapKind) → keeps_slot a k ≡ true → is_update a ≡ true
update_of act.Update k e = refl
update_of act.Lookup k e = e
update_of (act.Load at size) k e = e
update_of act.Delete k e = e
update_of (act.Store at size) k e = e
update_of (act.Atomic at a) k e = e

-- ---- the slot that an update took, after the clock
set_same : (xs : List ℕ) (i x : ℕ) → i < length xs → slice_index (slice_set xs i x) i ≡ x
set_same [] i x l = absurd (omega arith)
set_same (y ∷ xs) zero x l = refl
set_same (y ∷ xs) (suc i) x l = set_same xs i x (omega arith)

set_other : (xs : List ℕ) (i j x : ℕ) → ((i ≡ j) → ⊥) → slice_index (slice_set xs i x) j ≡ slice_index xs j
set_other [] i j x n = refl
set_other (y ∷ xs) zero zero x n = absurd (n refl)
set_other (y ∷ xs) zero (suc j) x n = refl
set_other (y ∷ xs) (suc i) zero x n = refl
set_other (y ∷ xs) (suc i) (suc j) x n = set_other xs i j x (λ e. n (ap suc e))

module _ {P : Type 0} (v : Env (Name P)) (p : ProgramView) (t : TableState) (taken : List ℕ) (h : StageValues) where
  abbrev after : Option ℕ → ℕ → ℕ
  after site j = slice_index (taken_by p t taken h site) j

  one_slot :
      (site : Option ℕ) (r : RecordNets (Name P)) (x : ℕ) → keeps r ≡ true → (site_at p.sites r.number).act ≡ r.act → r.number < length taken → ShowsTarget v p t taken h site r → x ≡ slice_index taken r.number
      → (if is_at site r.number then number_in v r.target else x) ≡ after site r.number
  one_slot None r x does is inside target e = e
  one_slot (Some i) r x does is inside target e = by (i == r.number) refl
    where
      new : ℕ
      new = written_slot p t taken h i

      other : (b : Bool) → ((i ≡ r.number) → ⊥) → slice_index (if b then slice_set taken i new else taken) r.number ≡ slice_index taken r.number
      other true n = set_other taken i r.number new n
      other false n = refl

      by : (b : Bool) → (i == r.number) ≡ b → (if b then number_in v r.target else x) ≡ after (Some i) r.number
      by true f =
          let s : i ≡ r.number = eqb-true i r.number f in
          let u : is_update (site_at p.sites i).act ≡ true = ap (λ j. is_update (site_at p.sites j).act) s ∙ ap is_update is ∙ update_of r.act r.decl.now.kind does in
          target f ∙ ap (written_slot p t taken h) (sym s) ∙ sym (ap (λ b. slice_index (if b then slice_set taken i new else taken) r.number) u ∙ ap (slice_index (slice_set taken i new)) (sym s) ∙ set_same taken i new (omega arith))
      by false f = e ∙ sym (other (is_update (site_at p.sites i).act) (λ s. eqb-false i r.number f s))

  -- of all that are kept
  pub all_slots :
      (part : P) (site : Option ℕ) (at : ℕ) (rs : List (RecordNets (Name P))) → All (λ r. keeps r ≡ true) rs → All (λ r. (site_at p.sites r.number).act ≡ r.act) rs → All (λ r. r.number < length taken) rs → All (ShowsTarget v p t taken h site) rs
      → ((k : ℕ) (d : RecordNets (Name P)) → k < length rs → (v.net (name.Register part (at + k))).value ≡ slice_index taken (get_or rs k d).number) → slots_after v part site at rs ≡ map_list (λ r. after site r.number) rs
  all_slots part site at [] does is inside targets now = refl
  all_slots part site at (r ∷ rs) does is inside targets now =
      let z : at ≡ at + 0 = omega arith in
      let first : slot_at v part site at r ≡ after site r.number = one_slot site r (v.net (name.Register part at)).value (All-head (λ r. keeps r ≡ true) r rs does) (All-head (λ r. (site_at p.sites r.number).act ≡ r.act) r rs is)
      (All-head (λ r. r.number < length taken) r rs inside) (All-head (ShowsTarget v p t taken h site) r rs targets) (ap (λ k. (v.net (name.Register part k)).value) z ∙ now 0 r (omega arith)) in
      let rest = all_slots part site (suc at) rs (All-tail (λ r. keeps r ≡ true) r rs does) (All-tail (λ r. (site_at p.sites r.number).act ≡ r.act) r rs is) (All-tail (λ r. r.number < length taken) r rs inside) (All-tail (ShowsTarget v p t taken h site) r rs targets)
      (λ k d l. let f : suc at + k ≡ at + suc k = omega arith in ap (λ i. (v.net (name.Register part i)).value) f ∙ now (suc k) d (omega arith)) in
      λ i. first i ∷ rest i

-- ---- as words
pub slot_words : {N : Type 0} (v : Env N) (bits : ℕ) (slots : List (Operand N)) → All (λ a. number_in v a < 2 ^ bits) slots → map_list (taken_word v) (map_list (slot_value bits) slots) ≡ map_list (word bits) (map_list (number_in v) slots)
slot_words v bits [] h = refl
slot_words v bits (a ∷ slots) h =
    let first = small_bits (number_in v a) bits (All-head (λ a. number_in v a < 2 ^ bits) a slots h) in
    let rest = slot_words v bits slots (All-tail (λ a. number_in v a < 2 ^ bits) a slots h) in
    λ i. word bits (first i) ∷ rest i

pub words_of_slots : {N : Type 0} (bits : ℕ) (taken : List ℕ) (rs : List (RecordNets N)) → map_list (word bits) (map_list (λ r. slice_index taken r.number) rs) ≡ map_list (slot_word bits taken) rs
words_of_slots bits taken [] = refl
words_of_slots bits taken (r ∷ rs) = ap (λ l. slot_word bits taken r ∷ l) (words_of_slots bits taken rs)

pub slots_fit : {N : Type 0} (v : Env N) (bits : ℕ) (taken : List ℕ) (slots : List (Operand N)) (rs : List (RecordNets N)) → All (λ a. number_in v a < 2 ^ bits) slots → map_list (number_in v) slots ≡ map_list (λ r. slice_index taken r.number) rs → All (IsSmall bits taken) rs
slots_fit v bits taken slots rs h e k d l =
    let long : length slots ≡ length rs = omega (arith, ap (λ (ns : List ℕ). length ns) e, length-map slots (number_in v), length-map rs (λ r. slice_index taken r.number)) in
    let here : slice_index taken (get_or rs k d).number ≡ number_in v (get_or slots k d.target) =
    sym (get_or-map (λ (r : RecordNets _). slice_index taken r.number) rs k d 0 l) ∙ ap (λ ns. get_or ns k 0) (sym e) ∙ get_or-map (number_in v) slots k d.target 0 (omega arith) in
    subst (λ n. n < 2 ^ bits) (sym here) (h k d.target (omega arith))

-- ---- first values
pub first_words : {N : Type 0} (bits : ℕ) (taken : List ℕ) (slots : List (Operand N)) (rs : List (RecordNets N)) → length slots ≡ length rs → All (λ r. slice_index taken r.number ≡ 0) rs → map_list zero_word (map_list (slot_value bits) slots) ≡ map_list (slot_word bits taken) rs
first_words bits taken [] [] e h = refl
first_words bits taken [] (r ∷ rs) e h = absurd (omega arith)
first_words bits taken (a ∷ slots) [] e h = absurd (omega arith)
first_words bits taken (a ∷ slots) (r ∷ rs) e h =
    let first = sym (All-head (λ r. slice_index taken r.number ≡ 0) r rs h) in
    let rest = first_words bits taken slots rs (omega arith) (All-tail (λ r. slice_index taken r.number ≡ 0) r rs h) in
    λ i. word bits (first i) ∷ rest i
