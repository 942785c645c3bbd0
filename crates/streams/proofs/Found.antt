-- What `found` says of an endpoint, and how many bytes an input run moves.
use Prim.Native.Nat.{ℕ, ◌<◌}
use mathlib.Core.Bool.{Bool, true, false, ◌&&◌}
use mathlib.Core.List.{[]}
use mathlib.Core.Path.{◌≡◌, refl, sym, ap, ap₂, ◌∙◌}
use Rattle.std.proofs.Common.{◌⊎◌, ⊎_elim}
use lib.ListN.{length}
use Rattle.bus.specs.Memory.{Memory}
use Rattle.bus.specs.Stores.{bus}
use Rattle.dtd.specs.declared.Found.TheVariants.{Unprimed, Ended}
use Rattle.dtd.specs.Dtd.{Endpoint, endpoint, primed, queue_head, next_dtd, next_active, token_of, moves, Run, settled, run_dtds, found, active}
use Rattle.dtd.proofs.Runs.{IsActive, says_unprimed, says_ended, says_active, run_unprimed, run_ended, active_moved, single, input_length}

-- ---- an endpoint is ready where its next descriptor is active, and only there

module _ (e : Endpoint) (m : Memory) where
  pub found_idle : (found e m ≡ Unprimed) ⊎ (found e m ≡ Ended) → primed e m.page && next_active e m ≡ false
  found_idle =
      ⊎_elim (λ f. ap (λ (x : Bool). x && next_active e m) (says_unprimed e m f)) (λ f. ap₂ ◌&&◌ (says_ended e m f).0 (says_ended e m f).1)

  module _ (qh n tok : ℕ) (f : found e m ≡ active e qh n tok) where
    pub active_ready : primed e m.page && next_active e m ≡ true
    active_ready = ap₂ ◌&&◌ (says_active e m qh n tok f).prime (says_active e m qh n tok f).active

    pub active_token : tok ≡ token_of (next_dtd e m) m
    active_token = (says_active e m qh n tok f).token ∙ ap (λ (x : ℕ). token_of x m) (says_active e m qh n tok f).next

-- ---- an input run moves as many bytes as it gives

module _ (ep : ℕ) (other : 0 < ep) (m : Memory) (l : Bool) where
  abbrev here : Endpoint
  here = endpoint ep true

  abbrev run : Run
  run = run_dtds here [] (bus m l)

  pub moved_bytes : run.moved ≡ length run.bytes
  unfolding settled moves
  moved_bytes = by_cases (primed here m.page) (next_active here m) refl refl
    where
      by_cases : (p a : Bool) → primed here m.page ≡ p → next_active here m ≡ a → run.moved ≡ length run.bytes
      by_cases false a u v = rw (run_unprimed here [] (bus m l) u)
      by_cases true false u v = rw (run_ended here [] (bus m l) (single ep true other) u v)
      by_cases true true u v =
          let is : IsActive here m (queue_head here m.page) (next_dtd here m) (token_of (next_dtd here m) m) = record { prime = u; active = v; head = refl; next = refl; token = refl } in
          active_moved here [] (bus m l) (single ep true other) _ _ _ is ∙ sym (input_length ep other m l _ _ _ is)
