-- No product stands in these blocks.
use Rattle.std.specs.Prelude.{◌≡◌, ℕ, zero, suc, ◌&&◌, Bool, true, List, [], ◌∷◌, map}
use Rattle.std.specs.List.{list_all}
use Rattle.std.proofs.Common.{refl}
use Rattle.std.proofs.lemmas.Bool.{and_parts}
use Rattle.net_core.specs.Nets.{SEnd}
use Rattle.net_core.specs.Chains.{statements_before}
use Rattle.net_core.specs.ProductRules.Products.{is_flat, statements_flat}
use Rattle.block_core.specs.ProductBlocks.Alone.{wire_flat, IsFree}
use Rattle.block_core.specs.declared.name.Name.{Name}
use Rattle.block_core.proofs.list_laws_laws.BoolLaws.{and_is}
use Rattle.frame_net.specs.declared.held.Kept.{Kept}
use Rattle.frame_net.specs.declared.held.Kept.TheVariants.{Ifindex, Time, Word as FrameWord}
use Rattle.frame_net.specs.declared.held.Further.{Further}
use Rattle.frame_net.specs.declared.held.Further.TheVariants.{Kept as Keep, Bank}
use Rattle.frame_net.specs.Frames.{further}
use Rattle.frame_net.specs.Stores.{Store, store_statements}
use Rattle.frame_net.specs.GatherNets.{further_store, gather_stores, gather_block}
use Rattle.frame_net.specs.SourcesNets.{kept_wires, sources_block}

-- ---- stores
abbrev pub store_flat : {N : Type 0} → (N → Bool) → Store N → Bool
store_flat made r = is_flat made r.condition && (is_flat made r.at && is_flat made r.value)

pub stores_flat : {N : Type 0} (made : N → Bool) (rs : List (Store N)) (at : ℕ) → list_all (store_flat made) rs ≡ true → statements_flat made (statements_before (store_statements at rs) SEnd) ≡ true
stores_flat made [] at h = refl
stores_flat made (r ∷ rs) at h = let p = and_parts (store_flat made r) (list_all (store_flat made) rs) h in and_is _ _ p.0 (stores_flat made rs (suc at) p.1)

-- ---- the gatherer
further_flat : {P : Type 0} (made : Name P → Bool) (p : P) (bits : ℕ) (over slot : Name P) (fs : List Further) → list_all (store_flat made) (map (further_store p bits over slot) fs) ≡ true
further_flat made p bits over slot [] = refl
further_flat made p bits over slot (Keep Ifindex ∷ fs) = further_flat made p bits over slot fs
further_flat made p bits over slot (Keep Time ∷ fs) = further_flat made p bits over slot fs
further_flat made p bits over slot (Keep (FrameWord j) ∷ fs) = further_flat made p bits over slot fs
further_flat made p bits over slot (Bank b ∷ fs) = further_flat made p bits over slot fs

pub gather_free : {P : Type 0} (p : P) (bits : ℕ) (kept : List Kept) (over slot : Name P) → IsFree (gather_block p bits kept over slot)
gather_free p bits kept over slot = record {
  wires = λ made. refl;
  statement = λ made. stores_flat made (gather_stores p bits (further bits kept) over slot) 0 (further_flat made p bits over slot (further bits kept));
}

-- ---- the sources
kept_flat : {P : Type 0} (made : Name P → Bool) (p gather : P) (slot : Name P) (xs : List Kept) (k : ℕ) → list_all (wire_flat made) (kept_wires p gather slot k xs) ≡ true
kept_flat made p gather slot [] k = refl
kept_flat made p gather slot (Ifindex ∷ xs) k = kept_flat made p gather slot xs (suc k)
kept_flat made p gather slot (Time ∷ xs) k = kept_flat made p gather slot xs (suc k)
kept_flat made p gather slot (FrameWord zero ∷ xs) k = kept_flat made p gather slot xs (suc k)
kept_flat made p gather slot (FrameWord (suc j) ∷ xs) k = kept_flat made p gather slot xs (suc k)

pub sources_free : {P : Type 0} (p gather : P) (kept : List Kept) (slot : Name P) → IsFree (sources_block p gather kept slot)
sources_free p gather kept slot = record { wires = λ made. kept_flat made p gather slot kept 3; statement = λ made. refl }
