-- A design that could be linked has few enough nets for names of their own.
use Rattle.std.specs.Prelude.{◌≡◌, ℕ, ◌-◌, ◌^◌, ◌&&◌, Bool, true, false, IsTrue, Result, Ok, Err, IfOk, IsErr, IsErrOf, List, [], ◌∷◌, length}
use Rattle.std.specs.List.{sum_by}
use Rattle.std.proofs.Common.{refl, sym, ap, ◌∙◌, subst, arith, length-append}
use Rattle.std.proofs.lemmas.Bool.{ltb-true, and_parts}
use Rattle.std.proofs.lemmas.List.{length-map}
use Rattle.std.proofs.lemmas.List.Sums.{sum_by-cons}
use Rattle.std.proofs.lemmas.Result.{IfOk-weaker, IfOk-at_ok}
use Rattle.net_core.specs.declared.design.Design.{Design}
use Rattle.net_core.specs.declared.design.Port.{Port}
use Rattle.net_core.specs.View.{netlist_of}
use Rattle.net_core.specs.Ports.{port_list, port_names}
use Rattle.net_core.specs.ProductRules.Products.{no_product_chains}
use Rattle.block_core.specs.design_rules.Formed.{IsWellFormed}
use Rattle.block_core.specs.declared.name.Name.{Name}
use Rattle.block_core.specs.declared.block.Placed.{Placed}
use Rattle.block_core.specs.declared.error.LinkError.{LinkError}
use Rattle.block_core.specs.declared.error.LinkError.TheVariants as error
use Rattle.block_core.specs.View.{Makes}
use Rattle.block_core.specs.Blocks.{OutputTree, registers_of, memories_of, wires_of, Whole, gather}
use Rattle.block_core.specs.Link.{resolve, link_wire, link_wires, numbered_names, link}
use Rattle.block_core.specs.Range.{in_range, total, design_in_range}
use Rattle.block_core.specs.BlockForms.WellFormed.{HasFewNets, LinkedIsWellFormed, NumbersAreNames}
use Rattle.pipe_net.specs.declared.parts.Part.{Part}
use Rattle.pipe_net.specs.declared.parts.Sizes.{Sizes}
use Rattle.pipe_net.specs.Parts.{part_place}
use Rattle.pipe_net.specs.Layout.{Layout}
use Rattle.pipe_net.specs.PipeForms.Parts.{outputs_of, design, names_of}
use Rattle.pipe_net.specs.PipeForms.Forming.{PipelinesAreFormed, HaveNoProductChains}
use Rattle.pipe_design.specs.Linking.{IsLinked, shown_outputs}

-- ---- what the outputs show is what those of the pipeline do
pub outputs_are : (z : Sizes) (words : ℕ) (ms : List (Placed Part)) (l : Layout) (d : Whole Part) → IsLinked z words ms l d → shown_outputs z words z.commit ≡ outputs_of l
outputs_are z words ms l d h =
    let same : l.shape.commit ≡ l.sizes.commit = h.parts.sized.commits ∙ sym h.parts.sized.commit in
    let zero : l.shape.commit - 0 ≡ l.sizes.commit = omega (arith, same) in
    ap (λ (x : Sizes). shown_outputs x words x.commit) (sym h.sizes) ∙ ap (λ n. shown_outputs l.sizes n l.sizes.commit) (sym h.words_are) ∙ ap (shown_outputs l.sizes (length l.words)) (sym zero)

-- the nets of all parts, counted
counted : {P A : Type 0} (g : P → List A) (count : P → ℕ) (ps : List P) → ((p : P) → length (g p) ≡ count p) → length (gather g ps) ≡ sum_by count ps
counted g count [] h = refl
counted g count (p ∷ ps) h =
    let e = length-append (g p) (gather g ps) in
    let f = counted g count ps h in
    let k = h p in
    let s = sum_by-cons count p ps in
    omega (arith, e, f, k, s)

few_nets : (d : Whole Part) (outputs : List (OutputTree (Name Part))) → design_in_range d outputs ≡ true → HasFewNets d
few_nets d outputs h =
    let p = and_parts (in_range (total registers_of d) && (in_range (total memories_of d) && in_range (total wires_of d))) _ h in
    let q = and_parts (in_range (total registers_of d)) (in_range (total memories_of d) && in_range (total wires_of d)) p.0 in
    let r = and_parts (in_range (total memories_of d)) (in_range (total wires_of d)) q.1 in
    let a = ltb-true (total registers_of d) (2 ^ 32) q.0 in
    let b = ltb-true (total memories_of d) (2 ^ 32) r.0 in
    let c = ltb-true (total wires_of d) (2 ^ 32) r.1 in
    let x = counted (λ k. (d.block k).registers) (λ k. registers_of (d.block k)) d.parts (λ k. refl) in
    let y = counted (λ k. (d.block k).memories) (λ k. memories_of (d.block k)) d.parts (λ k. refl) in
    let z = counted (λ k. link_wires (resolve d) (d.block k).wires) (λ k. wires_of (d.block k)) d.parts (λ k. length-map (d.block k).wires (link_wire (resolve d))) in
    record { registers = omega (arith, a, x); memories = omega (arith, b, y); wires = omega (arith, c, z) }

-- a test that cannot fail holds
is_true : (b : Bool) → ((IsTrue b → ⊥) → ⊥) → b ≡ true
is_true true h = refl
is_true false h = absurd (h (λ e. false_true e))
  where
    false_true : false ≡ true → ⊥
    false_true e = cc

not_err : (n : Design) → IsErr {T = Design} {E = LinkError} (Ok n) → ⊥
not_err n e = cc

-- ---- what was linked of these outputs, names and ports
module _ (r : Result Design LinkError) (z : Sizes) (words : ℕ) (parts : List (Placed Part)) (names : List (List ℕ)) (ports : List Port) (outputs : List (OutputTree (Name Part))) (a : names ≡ port_names) (b : ports ≡ port_list)
    (c : outputs ≡ shown_outputs z words z.commit) (linked : IfOk r (λ n. (d : Whole Part) → Makes part_place parts d → netlist_of n ≡ link d (numbered_names d names) ports outputs)) where
  abbrev IsOf : Layout → Whole Part → Type 0
  IsOf l d = IsLinked z words parts l d

  same : (l : Layout) (d : Whole Part) → IsOf l d → outputs ≡ outputs_of l
  same l d h = c ∙ outputs_are z words parts l d h

  abbrev IsDesign : Design → Type 0
  IsDesign n = (l : Layout) (d : Whole Part) → IsOf l d → netlist_of n ≡ design l d (names_of d)

  is_design : (n : Design) → ((d : Whole Part) → Makes part_place parts d → netlist_of n ≡ link d (numbered_names d names) ports outputs) → IsDesign n
  is_design n f l d h = let o = same l d h in f d h.makes ∙ (λ j. link d (numbered_names d (a j)) (b j) (o j))

  pub linked_design : IfOk r IsDesign
  linked_design = IfOk-weaker r _ _ is_design linked

  pub linked_apart : HaveNoProductChains → IfOk r (λ n. (l : Layout) (d : Whole Part) → IsOf l d → IsTrue (no_product_chains (netlist_of n)))
  linked_apart law = IfOk-weaker r _ _ (λ n is l d h. ap no_product_chains (is l d h) ∙ law l d h.parts (names_of d)) linked_design

  well_formed : PipelinesAreFormed → LinkedIsWellFormed Part → NumbersAreNames Part → (l : Layout) (d : Whole Part) → IsOf l d → ((IsTrue (design_in_range d (outputs_of l)) → ⊥) → ⊥) → IsWellFormed (design l d (names_of d))
  well_formed law forms numbers l d h fits =
      let f = law l d h.parts in
      forms d _ (outputs_of l) f.0 f.1 (numbers d (few_nets d (outputs_of l) (is_true _ fits)))

  pub linked_well : PipelinesAreFormed → LinkedIsWellFormed Part → NumbersAreNames Part → ((d : Whole Part) → Makes part_place parts d → (IsTrue (design_in_range d outputs) → ⊥) → IsErr r)
      → IfOk r (λ n. (l : Layout) (d : Whole Part) → IsOf l d → IsWellFormed (netlist_of n))
  linked_well law forms numbers past = by r refl past linked_design
    where
      by : (x : Result Design LinkError) → x ≡ r → ((d : Whole Part) → Makes part_place parts d → (IsTrue (design_in_range d outputs) → ⊥) → IsErr r) → IfOk r IsDesign
          → IfOk x (λ n. (l : Layout) (d : Whole Part) → IsOf l d → IsWellFormed (netlist_of n))
      by (Err y) e past is = tt
      by (Ok n) e past is = λ l d h.
          let is_one : netlist_of n ≡ design l d (names_of d) = IfOk-at_ok IsDesign (sym e) is l d h in
          let o = same l d h in
          subst IsWellFormed (sym is_one) (well_formed law forms numbers l d h (λ large. not_err n (subst IsErr (sym e) (past d h.makes (λ t. large (subst (λ os. IsTrue (design_in_range d os)) o t))))))

  -- and what could not be
  pub past_range : ((d : Whole Part) → Makes part_place parts d → IsTrue (design_in_range d outputs) → IsErrOf r error.TooMany → ⊥) → IsErrOf r error.TooMany → (l : Layout) (d : Whole Part) → IsOf l d → IsTrue (design_in_range d (outputs_of l)) → ⊥
  past_range fits e l d h t = fits d h.makes (subst (λ os. IsTrue (design_in_range d os)) (sym (same l d h)) t) e
