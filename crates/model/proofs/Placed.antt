-- Where a step's changes stand in the list of another step that has it in it.
use mathlib.Core.Path.{◌≡◌, refl, ap, sym, ◌∙◌}
use mathlib.Core.Bool.{Bool, true, false}
use mathlib.Core.List.{List, [], ◌++◌, append_assoc, append-nil}
use Rattle.bits.specs.Pick.{pick}
use Rattle.bus.specs.Steps.{replay, and_then, choose, replay_append}
use Rattle.record.specs.World.{World}
use Rattle.record.specs.Change.{Change, apply, Step, left, ◌then◌, if, here}

-- the changes of f at w are some, then those of g at x, then others; and the first lead from w to x
pub record Placed (f : Step) (w : World) (g : Step) (x : World) : Type 0 where
  pub before : List Change
  pub rest : List Change
  pub whole : f w ≡ before ++ (g x ++ rest)
  pub there : replay apply before w ≡ x

pub placed_self : (f : Step) (w : World) → Placed f w f w
placed_self f w = record { before = []; rest = []; whole = sym (append-nil (f w)); there = refl }

pub placed_first : (f g h : Step) (w x : World) → Placed f w h x → Placed (f then g) w h x
unfolding and_then
placed_first f g h w x p =
    record {
      before = p.before;
      rest = p.rest ++ g (left f w);
      whole =
          ap (λ (l : List Change). l ++ g (left f w)) p.whole
          ∙ append_assoc p.before (h x ++ p.rest) (g (left f w))
          ∙ ap (λ (l : List Change). p.before ++ l) (append_assoc (h x) p.rest (g (left f w)));
      there = p.there;
    }

pub placed_second : (f g h : Step) (w x : World) → Placed g (left f w) h x → Placed (f then g) w h x
unfolding and_then
placed_second f g h w x p =
    record {
      before = f w ++ p.before;
      rest = p.rest;
      whole = ap (λ (l : List Change). f w ++ l) p.whole ∙ sym (append_assoc (f w) p.before (h x ++ p.rest));
      there = replay_append apply (f w) p.before w ∙ p.there;
    }

pub placed_true : (t : World → Bool) (f g h : Step) (w x : World) → t w ≡ true → Placed f w h x → Placed (if t f g) w h x
unfolding choose
placed_true t f g h w x e p =
    record { before = p.before; rest = p.rest; whole = ap (λ (b : Bool). pick b (f w) (g w)) e ∙ p.whole; there = p.there }

pub placed_false : (t : World → Bool) (f g h : Step) (w x : World) → t w ≡ false → Placed g w h x → Placed (if t f g) w h x
unfolding choose
placed_false t f g h w x e p =
    record { before = p.before; rest = p.rest; whole = ap (λ (b : Bool). pick b (f w) (g w)) e ∙ p.whole; there = p.there }

pub placed_here : (f : World → Step) (h : Step) (w x : World) → Placed (f w) w h x → Placed (here f) w h x
unfolding here
placed_here f h w x p = record { before = p.before; rest = p.rest; whole = p.whole; there = p.there }
