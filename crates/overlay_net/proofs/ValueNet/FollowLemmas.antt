-- What operations make of words, by what they do.
use Rattle.std.specs.Prelude.{drop, min}
use Rattle.std.proofs.Common.{◌≡◌, ◌≢◌, ℕ, ◌+◌, ◌-◌, ◌*◌, ◌%◌, ◌^◌, ◌<◌, ◌≤◌, List, length, refl, sym, ◌∙◌, ap, arith, length-drop}
use Rattle.std.proofs.lemmas.List.{get_or-drop, length-map}
use Rattle.block_core.specs.net_core.Value.{Env}
use Rattle.hazard_core.specs.xdp_maps.declared.decl.MapDecl.{MapDecl}
use Rattle.hazard_core.specs.bpf_isa.declared.operation.Size.{Size}
use Rattle.hazard_core.specs.cell_core.declared.site.Atomic.{Atomic}
use Rattle.hazard_core.specs.cell_core.declared.site.Act.{Act}
use Rattle.hazard_core.specs.cell_core.declared.site.Act.TheVariants as act
use Rattle.hazard_core.specs.cell_core.Cells.{bits_from}
use Rattle.hazard_core.specs.cell_core.Sites.{bytes_of, operation_with}
use Rattle.hazard_core.specs.Commits.{word_at}
use Rattle.hazard_core.specs.Overlay.{value_as}
use Rattle.cell_nets.specs.declared.operand.Operand.{Operand}
use Rattle.cell_nets.specs.Operands.{number_in}
use Rattle.overlay_net.specs.ValueNet.Lists.{numbers_in, number_of}
use Rattle.overlay_net.proofs.ValueNet.BitLemmas.{low_bits, more_bits}
use Rattle.overlay_net.proofs.ValueNet.ByteLaws.{word_of_words}

-- a word of the value of an update
pub value_is :
    {N : Type 0} (v : Env N) (args : List (Operand N)) (n w m width a low out : ℕ) → 8 * w < n → n + 8 ≤ 8 * length args → m ≡ min 8 (n - 8 * w) → width ≡ 8 * m → low < 2 ^ width → a ≡ number_of args (1 + w) v → low ≡ bits_from a 0 width → out ≡ bits_from low 0 64
    → out ≡ word_at (bytes_of n (drop 1 (numbers_in v args))) w
value_is v args n w m width a low out there words em ew small ea el eo =
    let most : width ≤ 64 = omega arith in
    let within : w < length (drop 1 (numbers_in v args)) = omega (arith, length-drop 1 (numbers_in v args), length-map args (number_in v)) in
    eo ∙ more_bits low width most small ∙ el ∙ low_bits a width ∙ ap (λ k. k % 2 ^ width) ea ∙ ap (λ k. number_of args (1 + w) v % 2 ^ k) ew
    ∙ ap (λ k. k % 2 ^ (8 * m)) (sym (get_or-drop 1 (numbers_in v args) w 0))
    ∙ sym (word_of_words n (drop 1 (numbers_in v args)) w m there within em)

-- operations that leave a value as it is
pub unwritten :
    (d : MapDecl) (a : Act) (key xs value : List ℕ) → a ≢ act.Update → ((at : ℕ) (size : Size) → a ≢ act.Store at size) → ((at : ℕ) (x : Atomic) → a ≢ act.Atomic at x)
    → value_as (operation_with d a key xs) value ≡ value
unwritten d act.Lookup key xs value u s x = refl
unwritten d (act.Load at size) key xs value u s x = refl
unwritten d act.Update key xs value u s x = absurd (u refl)
unwritten d act.Delete key xs value u s x = refl
unwritten d (act.Store at size) key xs value u s x = absurd (s at size refl)
unwritten d (act.Atomic at a) key xs value u s x = absurd (x at a refl)
