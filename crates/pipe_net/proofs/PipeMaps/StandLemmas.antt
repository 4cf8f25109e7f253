-- Slots of tables that hold keys.
use Rattle.std.specs.Prelude.{nat_lt, if◌then◌else◌, ◌&&◌}
use Rattle.std.proofs.Common.{◌≡◌, ℕ, ◌^◌, ◌<◌, Bool, true, false, length, refl, sym, ◌∙◌, ap, subst, arith}
use Rattle.std.proofs.lemmas.Bool.{and_parts, ltb-true}
use Rattle.hazard_core.specs.xdp_maps.declared.decl.MapDecl.{MapDecl}
use Rattle.hazard_core.specs.declared.access.Access.{Access}
use Rattle.hazard_core.specs.declared.access.Word.TheVariants.{Nothing}
use Rattle.hazard_core.specs.declared.slot.Slot.{Slot}
use Rattle.hazard_core.specs.Tables.{TableState, decl_of, table_at, slot_at}
use Rattle.hazard_core.specs.Commits.{word_as, word_in, may_write}
use Rattle.hazard_core.specs.TableLaws.Bytes.{HasBytes}
use Rattle.pipe_net.specs.Layout.{Layout}
use Rattle.pipe_net.specs.PipeTurns.Maps.{decl_at}
use Rattle.pipe_net.specs.PipeTurns.Parts.{form_at}
use Rattle.commit_net.specs.MapBlock.Forms.{FormFits}
use Rattle.pipe_net.specs.PipeMaps.Premises.{HoldKeys}

-- The host writes a word that there is.
pub record IsNamed (t : TableState) (a : Access) : Type 0 where
  pub map : a.map < length t.decls
  pub index : a.index < length (table_at t a.map)

no_word : (idle : Bool) (s : Slot) → may_write idle s Nothing ≡ true → ⊥
no_word idle s e = cc

pub named : (idle : Bool) (t : TableState) (a : Access) → may_write idle (slot_at (table_at t a.map) a.index) (word_in t a) ≡ true → IsNamed t a
named idle t a e = by (nat_lt a.map (length t.decls) && nat_lt a.index (length (table_at t a.map))) refl e
  where
    by : (c : Bool) → (nat_lt a.map (length t.decls) && nat_lt a.index (length (table_at t a.map))) ≡ c
        → may_write idle (slot_at (table_at t a.map) a.index) (if c then word_as (decl_of t.decls a.map).kind (decl_of t.decls a.map) a.word else Nothing) ≡ true → IsNamed t a
    by true is e = let w = and_parts (nat_lt a.map (length t.decls)) (nat_lt a.index (length (table_at t a.map))) is in record { map = ltb-true a.map (length t.decls) w.0; index = ltb-true a.index (length (table_at t a.map)) w.1 }
    by false is e = absurd (no_word idle (slot_at (table_at t a.map) a.index) e)

module _ (l : Layout) (t : TableState) (decls : t.decls ≡ l.decls) (keys : HoldKeys t) (m : ℕ) (there : m < length l.decls) where
  there_too : m < length t.decls
  there_too = subst (λ ds. m < length ds) (sym decls) there

  pub declared : decl_of t.decls m ≡ decl_at l m
  declared = ap (λ ds. decl_of ds m) decls

  pub slots_are : length (table_at t m) ≡ (decl_at l m).cap
  slots_are = keys.bytes.shaped.counts m there_too ∙ ap (λ (d : MapDecl). d.cap) declared

  pub bytes_at : (n : ℕ) → n < length (table_at t m) → HasBytes (decl_at l m) (slot_at (table_at t m) n)
  bytes_at n lt = subst (λ d. HasBytes d (slot_at (table_at t m) n)) declared (keys.bytes.each m n there_too lt)

  pub small : FormFits (form_at l m) → (n : ℕ) → n < length (table_at t m) → n < 2 ^ l.slot_bits m
  small form_fits n lt = let count = slots_are in let room = form_fits.room in omega (arith, lt, count, room)
