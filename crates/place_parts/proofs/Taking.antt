-- What places read of maps and of words.
use Rattle.std.specs.Prelude.{◌≢◌}
use Rattle.std.proofs.Common.{◌≡◌, ◌∙◌, ℕ, zero, suc, ◌+◌, ◌<◌, Bool, All, set, List, [], ◌∷◌, ◌++◌, length, get_or, inl, inr, sym, ap, subst, arith}
use Rattle.std.proofs.lemmas.Bool.{cases_eq}
use Rattle.std.proofs.lemmas.List.{length-map, length-set, get_or-map, get_or-set_same, get_or-set_other, ext_get_or}
use Rattle.std.proofs.lemmas.List.Elements.{All-nil, All-append}
use Rattle.block_core.proofs.list_laws_laws.PlaceLaws.{some_of}
use Rattle.hazard_core.specs.xdp_maps.State.{no_decl}
use Rattle.block_core.specs.declared.name.Name.{Name}
use Rattle.hazard_core.specs.cell_core.Sites.{site_at}
use Rattle.overlay_net.specs.cell_nets.declared.operand.Operand.{Operand}
use Rattle.overlay_net.specs.cell_nets.declared.operand.Operand.TheVariants.{Known}
use Rattle.overlay_net.specs.cell_nets.Operands.{IsOperand}
use Rattle.commit_net.specs.declared.map_block.form.MapForm.{MapForm}
use Rattle.overlay_net.specs.ValueNet.Words.{answers_number}
use Rattle.read_net.specs.declared.sites.MapNets.{MapNets}
use Rattle.read_net.specs.Sites.{slot_cells}
use Rattle.commit_net.specs.declared.change_net.pointed.PointedWords.{PointedWords}
use Rattle.stage_net.specs.Nets.{decls_of, IsMapNets}
use Rattle.pipe_net.specs.declared.parts.Part.{Part}
use Rattle.pipe_parts.specs.declared.pipe_draft.pipeline_plan.PipelinePlan.{PipelinePlan}
use Rattle.pipe_parts.specs.PipeDraft.PipelinePlan.{program_in, decls_in, IsPipelinePlan}
use Rattle.place_parts.specs.Maps.{AreMapsFor}
use Rattle.place_parts.specs.Words.{load_at, word_net, IsWordNet, AreWordNets}
use Rattle.place_parts.proofs.Available.{IsIn, in_left, in_right}
use Rattle.place_parts.proofs.Numbers.{passing_once}
use Rattle.place_parts.proofs.Pointing.{load_low}

-- ---- maps
-- all that is shown of them
abbrev pub slot_nets : List (MapNets (Name Part)) → List (Operand (Name Part))
slot_nets [] = []
slot_nets (m ∷ ms) = slot_cells m ++ slot_nets ms

pub slots_in : (ms : List (MapNets (Name Part))) (m : ℕ) (n : MapNets (Name Part)) → m < length ms → IsIn (slot_cells (get_or ms m n)) (slot_nets ms)
slots_in [] m n lt = absurd (omega (arith, lt))
slots_in (x ∷ xs) zero n lt = in_left (slot_cells x) (slot_nets xs)
slots_in (x ∷ xs) (suc m) n lt = λ a c. in_right (slot_cells x) (slot_nets xs) a (slots_in xs m n (omega (arith, lt)) a c)

pub slots_all : (Q : Operand (Name Part) → Type 0) (ms : List (MapNets (Name Part))) → ((m : ℕ) (n : MapNets (Name Part)) → m < length ms → All Q (slot_cells (get_or ms m n))) → All Q (slot_nets ms)
slots_all Q [] each = All-nil Q
slots_all Q (x ∷ xs) each = All-append Q (slot_cells x) (slot_nets xs) (each 0 x (omega arith)) (slots_all Q xs (λ m n lt. each (suc m) n (omega (arith, lt))))

module _ (d : PipelinePlan) (maps : List (MapNets (Name Part))) (fit : AreMapsFor d maps) where
  no_form : MapForm
  no_form = record { number = 0; bits = 0; decl = no_decl }

  pub maps_are : All (IsMapNets d.bits) maps
  maps_are m n lt = let x = fit.each m n no_form (omega (arith, lt, fit.count)) in record { is = x.is; same = x.bits }

  pub maps_decls : decls_of maps ≡ decls_in d
  maps_decls =
      let left = length-map maps (λ (m : MapNets (Name Part)). m.decl.now) in
      let right = length-map d.forms.items (λ (f : MapForm). f.decl) in
      ext_get_or no_decl (decls_of maps) (decls_in d) (left ∙ fit.count ∙ sym right)
      (λ m lt.
      let there : m < length maps = omega (arith, lt, left) in
      let formed : m < length d.forms.items = omega (arith, there, fit.count) in
      let n = some_of maps m there in
      get_or-map (λ (x : MapNets (Name Part)). x.decl.now) maps m n no_decl there ∙ (fit.each m n no_form formed).decl ∙ sym (get_or-map (λ (f : MapForm). f.decl) d.forms.items m no_form no_decl formed))

-- ---- words
word_operand : (words : List (PointedWords (Name Part))) (a : Operand (Name Part)) → IsWordNet words a → IsOperand a
word_operand words a (inl e) = subst IsOperand (sym e) (omega arith)
word_operand words a (inr h) = let x = some_of words h.0 h.1 in subst IsOperand (sym (h.2 x)) (record { some = omega arith; most = omega arith })

pub words_are : (d : PipelinePlan) (words : List (PointedWords (Name Part))) (nets : List (Operand (Name Part))) → AreWordNets d words nets → All IsOperand nets
words_are d words nets are i a lt = word_operand words (get_or nets i a) (are.only i a lt)

-- so of the first sites that read a word
pub record AreNetsTo (d : PipelinePlan) (words : List (PointedWords (Name Part))) (n : ℕ) (nets : List (Operand (Name Part))) : Type 0 where
  pub count : length nets ≡ length (program_in d).sites
  pub read : (i : ℕ) (x : PointedWords (Name Part)) (a : Operand (Name Part)) → i < n → get_or nets (load_at d i) a ≡ word_net (get_or words i x)
  pub only : All (IsWordNet words) nets

pub no_nets : (d : PipelinePlan) (words : List (PointedWords (Name Part))) (nets : List (Operand (Name Part))) → length nets ≡ length (program_in d).sites → All (λ a. a ≡ Known 0) nets → AreNetsTo d words 0 nets
no_nets d words nets count none = record { count = count; read = λ i x a lt. absurd (omega (arith, lt)); only = λ i a lt. inl (none i a lt) }

module _ (d : PipelinePlan) (is : IsPipelinePlan d) (words : List (PointedWords (Name Part))) (n : ℕ) (nets : List (Operand (Name Part))) (j : ℕ) (net : Operand (Name Part)) (same : length words ≡ length d.loads.items) (lt : n < length d.loads.items) (so : AreNetsTo d words n nets)
    (here : j ≡ load_at d n) (of : (x : PointedWords (Name Part)) → net ≡ word_net (get_or words n x)) where
  abbrev passes : ℕ → Bool
  passes k = answers_number (site_at (program_in d).sites k).act

  inside : j < length nets
  inside = omega (arith, here, load_low d is n 0 lt, so.count)

  apart : (i : ℕ) → i < n → load_at d i ≢ j
  apart i low e =
      let long = ap length is.loads in
      let once = passing_once passes (length (program_in d).sites) i n (omega (arith, low, lt, long)) (omega (arith, lt, long)) (ap (λ ks. get_or ks i 0) (sym is.loads) ∙ e ∙ here ∙ ap (λ ks. get_or ks n 0) is.loads) in
      absurd (omega (arith, once, low))

  pub nets_more : AreNetsTo d words (n + 1) (set nets j net)
  nets_more = record {
    count = length-set nets j net ∙ so.count;
    read = λ i x a low. elim (cases_eq i n) [
      | inl e ↦ ap (λ k. get_or (set nets j net) (load_at d k) a) e ∙ ap (λ k. get_or (set nets j net) k a) (sym here) ∙ get_or-set_same nets j net a inside ∙ of x ∙ ap (λ k. word_net (get_or words k x)) (sym e)
      | inr o ↦ get_or-set_other nets j (load_at d i) net a (apart i (omega (arith, low, o))) ∙ so.read i x a (omega (arith, low, o))
    ];
    only = λ k a within. elim (cases_eq k j) [
      | inl e ↦ inr (n, omega (arith, lt, same), λ x. ap (λ m. get_or (set nets j net) m a) e ∙ get_or-set_same nets j net a inside ∙ of x)
      | inr o ↦ subst (IsWordNet words) (sym (get_or-set_other nets j k net a o)) (so.only k a (omega (arith, within, length-set nets j net)))
    ];
  }
