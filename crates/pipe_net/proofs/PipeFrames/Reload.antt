-- Which places have a packet that must reload, as nets say it.
use Rattle.std.specs.Prelude.{◌≡◌, ℕ, ◌≤◌, nat_le, Bool, true, false, Option, Some, None}
use Rattle.std.proofs.Common.{refl, sym, ap, ◌∙◌}
use Rattle.std.proofs.lemmas.Bool.{false≢true, leb-true, le-leb}
use Rattle.block_core.specs.net_core.Value.{bit, Env}
use Rattle.block_core.specs.declared.name.Name.{Name}
use Rattle.pipe_core.specs.Machine.{Packet, State, Build, place_at, must_reload}
use Rattle.control_net.specs.Returns.{reload_name}
use Rattle.pipe_net.specs.declared.parts.Part.{Part}
use Rattle.pipe_net.specs.Layout.{Layout, commit_of}
use Rattle.pipe_net.specs.Saying.{ShowReloads}

abbrev reload_in : Build → ℕ → Option Packet → Bool
reload_in b k None = false
reload_in b k (Some x) = must_reload b k x

module _ (l : Layout) (s : State) (v : Env (Name Part)) (reloads : ShowReloads l s v) where
  -- up to the commit place what the net says
  abbrev said : (k : ℕ) (q : Bool) → nat_le k (commit_of l) ≡ q → Bool
  said k true e = (reloads k (leb-true k (commit_of l) e)).says
  said k false e = reload_in l.build k (place_at s.places k)

  abbrev pub reload : ℕ → Bool
  reload k = said k (nat_le k (commit_of l)) refl

  said_net : (k : ℕ) → k ≤ commit_of l → (q : Bool) (e : nat_le k (commit_of l) ≡ q) → v.net (reload_name l.reload k) ≡ bit (said k q e)
  said_net k h true e = (reloads k (leb-true k (commit_of l) e)).net
  said_net k h false e = absurd (false≢true (sym e ∙ le-leb k (commit_of l) h))

  said_is : (k : ℕ) (x : Packet) → place_at s.places k ≡ Some x → (q : Bool) (e : nat_le k (commit_of l) ≡ q) → said k q e ≡ must_reload l.build k x
  said_is k x p true e = (reloads k (leb-true k (commit_of l) e)).is x p
  said_is k x p false e = ap (reload_in l.build k) p

  pub reload_net : (k : ℕ) → k ≤ commit_of l → v.net (reload_name l.reload k) ≡ bit (reload k)
  reload_net k h = said_net k h (nat_le k (commit_of l)) refl

  pub reload_is : (k : ℕ) (x : Packet) → place_at s.places k ≡ Some x → reload k ≡ must_reload l.build k x
  reload_is k x p = said_is k x p (nat_le k (commit_of l)) refl
