-- What blocks read of the memories of others.
use Rattle.std.specs.Prelude.{◌≡◌, ℕ, zero, suc, ◌+◌, ◌-◌, ◌<◌, List, [], length, map}
use Rattle.std.proofs.Common.{get_or, refl, ap, ◌∙◌, arith}
use Rattle.std.proofs.lemmas.List.{length-map}
use Rattle.net_core.specs.declared.tree.Word.{Word}
use Rattle.net_core.specs.Nets.{TRead}
use Rattle.net_core.specs.Value.{word, Env, value}
use Rattle.block_core.specs.declared.name.Name.{Name}
use Rattle.block_core.specs.declared.name.Name.TheVariants as name
use Rattle.frame_net.specs.declared.held.Kept.{Kept}
use Rattle.frame_net.specs.declared.held.Kept.TheVariants.{Ifindex}
use Rattle.frame_net.specs.declared.held.Further.TheVariants.{Kept as Keep, Bank}
use Rattle.frame_net.specs.Frames.{word_at, bank_bits, banks, bank, banks_from, further}
use Rattle.frame_net.specs.Gather.{held_widths, kept_widths, further_widths}
use Rattle.frame_net.specs.Sources.{SeesHeld}
use Rattle.frame_net.specs.SourcesNets.{held}
use Rattle.frame_net.proofs.BankLaws.{map_at, item_kept, item_bank, count_further}

-- a word of a memory at a slot
pub held_word : {P : Type 0} (v : Env (Name P)) (m : P) (slot : Name P) (k bits at : ℕ) (w : Word) → v.net slot ≡ word bits at → v.memory_word (name.Memory m k) at ≡ w → value v (held m k (TRead slot)) ≡ w
held_word v m slot k bits at w n h = ap (λ (x : Word). v.memory_word (name.Memory m k) x.value) n ∙ h

pub held_here : {P : Type 0} (gather : P) (bits : ℕ) (kept : List Kept) (slot : Name P) (v : Env (Name P)) (ms : List (List Word)) (at : ℕ) → SeesHeld gather bits kept slot v ms at → (k : ℕ) → k < length (held_widths bits kept)
    → value v (held gather k (TRead slot)) ≡ word_at (get_or ms k []) at
held_here gather bits kept slot v ms at sees k l = held_word v gather slot k bits at _ sees.in_slot (sees.memory k at l)

pub count_held : (bits : ℕ) (kept : List Kept) → length (held_widths bits kept) ≡ 3 + (length kept + (banks bits - 1))
count_held bits kept = let n : length (map (further_widths bits) (further bits kept)) ≡ length (further bits kept) = length-map (further bits kept) (further_widths bits) in omega (arith, n, count_further bits kept)

pub held_kept : (bits : ℕ) (kept : List Kept) (j : ℕ) → j < length kept → get_or (held_widths bits kept) (3 + j) (0, 0) ≡ kept_widths bits (get_or kept j Ifindex)
held_kept bits kept j l =
    let e : 3 + j ≡ suc (suc (suc j)) = omega arith in
    let x = get_or kept j Ifindex in
    ap (λ i. get_or (held_widths bits kept) i (0, 0)) e
    ∙ map_at (further_widths bits) (further bits kept) j (0, 0) (Keep x) (omega (arith, count_further bits kept))
    ∙ ap (further_widths bits) (item_kept kept (banks_from 1 (banks bits - 1)) j (Keep x) l)

pub bank_within_held : (bits : ℕ) (kept : List Kept) (b : ℕ) → b < banks bits → bank kept b < length (held_widths bits kept)
bank_within_held bits kept zero l = omega (arith, count_held bits kept)
bank_within_held bits kept (suc b) l = omega (arith, count_held bits kept)

pub held_bank : (bits : ℕ) (kept : List Kept) (b : ℕ) → b < banks bits → get_or (held_widths bits kept) (bank kept b) (0, 0) ≡ (bank_bits bits + 11, 64)
held_bank bits kept zero l = refl
held_bank bits kept (suc b) l =
    let k = length kept + b in
    let e : 3 + k ≡ suc (suc (suc k)) = omega arith in
    let within : k < length (further bits kept) = omega (arith, count_further bits kept) in
    ap (λ i. get_or (held_widths bits kept) i (0, 0)) e
    ∙ map_at (further_widths bits) (further bits kept) k (0, 0) (Bank (suc b)) within
    ∙ ap (further_widths bits) (item_bank kept 1 (banks bits - 1) b (Bank (suc b)) (omega arith))
