use Rattle.std.proofs.Common.{◌≡◌, List, [], ◌∷◌, ◌++◌, length, refl, sym, ap, ◌∙◌, append-nil, arith, ◌⊎◌, ⊎_elim, inl, inr}
use Rattle.surveys.specs.declared.group.Group.{Group}
use Rattle.surveys.specs.Running.{groups_added}
use Rattle.surveys.proofs.running_counts.groups_added.Goals as goal

-- If one of two lists is empty, nothing is left to add.
none_left : (gs fs : List Group) → (length gs ≡ 0) ⊎ (length fs ≡ 0) → groups_added gs fs ≡ []
none_left [] fs h = refl
none_left (g ∷ gs) [] h = refl
none_left (g ∷ gs) (f ∷ fs) h = ⊎_elim (λ e. absurd (omega (arith, e))) (λ e. absurd (omega (arith, e))) h

pub returns : goal.returns
returns c =
    let a = c.loop-group.group-iterator.a.rest.now in
    let b = c.loop-group.group-iterator.b.rest.now in
    let e = none_left a b (⊎_elim (λ h. inl h.1.0) (λ h. inr h.1.0) c.in-None.ensures.steps) in
    sym (append-nil c.loop-group.added.items) ∙ (ap (λ (l : List Group). c.loop-group.added.items ++ l) (sym e) ∙ c.loop-group.invariant)
