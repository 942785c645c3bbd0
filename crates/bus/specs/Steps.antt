-- Steps that say what they change. A step goes from a state to the list of its changes, oldest first; its outcome is the replay of that list.
use Rattle.std.specs.Prelude.{◌≡◌, Bool, List, [], ◌∷◌, ◌++◌, refl}
use Rattle.bits.specs.Pick.{pick, pick_map}

module _ {S C : Type 0} (apply : C → S → S) where
  -- the state after a list of changes
  abbrev pub replay : List C → S → S
  replay [] s = s
  replay (c ∷ cs) s = replay cs (apply c s)

  -- the state after a step
  abbrev pub exec : (S → List C) → S → S
  exec f s = replay (f s) s

  -- one step after the other: the second sees the state that the first left
  unfoldable pub and_then : (S → List C) → (S → List C) → S → List C
  and_then f g s = f s ++ g (exec f s)

  -- the one or the other step, by a test of the state at hand
  unfoldable pub choose : (S → Bool) → (S → List C) → (S → List C) → S → List C
  choose t f g s = pick (t s) (f s) (g s)

  pub replay_append : (cs ds : List C) (s : S) → replay (cs ++ ds) s ≡ replay ds (replay cs s)
  replay_append [] ds s = refl
  replay_append (c ∷ cs) ds s = replay_append cs ds (apply c s)

  pub exec_then : (f g : S → List C) (s : S) → exec (and_then f g) s ≡ exec g (exec f s)
  unfolding and_then
  exec_then f g s = replay_append (f s) (g (exec f s)) s

  pub exec_choose : (t : S → Bool) (f g : S → List C) (s : S) → exec (choose t f g) s ≡ pick (t s) (exec f s) (exec g s)
  unfolding choose
  exec_choose t f g s = pick_map (λ (cs : List C). replay cs s) (t s) (f s) (g s)
