-- Passes over a campaign, which remove each traitor or statement that the campaign does not need to stay broken.
use Rattle.std.proofs.Common.{ℕ, ◌+◌, ◌-◌, ◌<◌, ◌≡◌, ◌∙◌, length, arith, refl, subst, inl, inr, ap}
use Rattle.std.specs.Prelude.{IfNone, IfSome, Option, None, Some, false, is_some}
use Rattle.std.proofs.lemmas.List.{get_or-set_same, length-set}
use Rattle.std.proofs.lemmas.List.Edits.{length-remove}
use Rattle.surveys.specs.Plot.{Plot, Traitor}
use Rattle.surveys.specs.Shrinking.{ComesWell, IsBroken, IsWalked, IsWithoutFirst, IsWithoutFirstLie, IsWithoutFirstTraitor, LieWalk, LieWalks, ShrinksTo, TraitorWalk, TraitorsAreNeeded, further, lie_out, lie_stays, lies_end, nobody, one_then, quieter, traitor_at, traitor_out, traitor_stays, without_lie, without_traitor}

-- A pass over the traitors of `p` has reached index `place`, and `left` is the campaign so far.
abbrev pub TraitorsSoFar : Plot → ℕ → Plot → Type 0
TraitorsSoFar p place left = (q : Plot) → TraitorWalk q place left → TraitorWalk q 0 p

abbrev pub LiesSoFar : Plot → ℕ → ℕ → Plot → Type 0
LiesSoFar p place index left = (q : Plot) → LieWalk place q index left → LieWalk place q 0 p

abbrev pub AllSoFar : Plot → ℕ → Plot → Type 0
AllSoFar p place left = (q : Plot) → LieWalks q place left → LieWalks q 0 p

abbrev pub ShrunkSoFar : Plot → Plot → Type 0
ShrunkSoFar p left = (q : Plot) → ShrinksTo q left → ShrinksTo q p

-- The pass goes on if it removes a traitor, or keeps him.
pub without_one : (p left less : Plot) (place : ℕ) → place < length left.traitors → less ≡ without_traitor left place → IsBroken less → TraitorsSoFar p place left → TraitorsSoFar p place less
without_one p left less place lt is broken far q walk = far q (traitor_out place left lt (subst IsBroken is broken) (subst (TraitorWalk q place) is walk))

pub with_one : (p left : Plot) (place : ℕ) → place < length left.traitors → ComesWell (without_traitor left place) → TraitorsSoFar p place left → TraitorsSoFar p (place + 1) left
with_one p left place lt well far q walk = far q (traitor_stays place left lt well walk)

pub fewer_left : (left less : Plot) (place : ℕ) → place < length left.traitors → less ≡ without_traitor left place → length less.traitors - place < length left.traitors - place
fewer_left left less place lt is = rw is (fewer (length-remove left.traitors place lt))
  where
    fewer : length (without_traitor left place).traitors + 1 ≡ length left.traitors → length (without_traitor left place).traitors - place < length left.traitors - place
    fewer h = omega (arith, h, lt)

-- The pass goes on if it removes a statement, or keeps it.
pub without_lie_of : (p left less : Plot) (place index : ℕ) → index < length (traitor_at left place).lies → less ≡ without_lie left place index → IsBroken less → LiesSoFar p place index left → LiesSoFar p place index less
without_lie_of p left less place index lt is broken far q walk = far q (lie_out index left lt (subst IsBroken is broken) (subst (LieWalk place q index) is walk))

pub with_lie_of : (p left : Plot) (place index : ℕ) → index < length (traitor_at left place).lies → ComesWell (without_lie left place index) → LiesSoFar p place index left → LiesSoFar p place (index + 1) left
with_lie_of p left place index lt well far q walk = far q (lie_stays index left lt well walk)

-- Without one statement, a campaign has as many traitors as before.
same_traitors : (p : Plot) (place index : ℕ) → length (without_lie p place index).traitors ≡ length p.traitors
same_traitors p place index = length-set p.traitors place (quieter (traitor_at p place) index)

pub still_there : (left less : Plot) (place index : ℕ) → place < length left.traitors → less ≡ without_lie left place index → place < length less.traitors
still_there left less place index lt is = rw (is, same_traitors left place index) lt

pub fewer_lies_left : (left less : Plot) (place index : ℕ) → place < length left.traitors → index < length (traitor_at left place).lies → less ≡ without_lie left place index
    → length (traitor_at less place).lies - index < length (traitor_at left place).lies - index
fewer_lies_left left less place index lt within is = rw is (fewer (ap (λ (t : Traitor). length t.lies) (get_or-set_same left.traitors place (quieter (traitor_at left place) index) nobody lt)) (length-remove (traitor_at left place).lies index within))
  where
    fewer : length (traitor_at (without_lie left place index) place).lies ≡ length (quieter (traitor_at left place) index).lies → length (quieter (traitor_at left place) index).lies + 1 ≡ length (traitor_at left place).lies
        → length (traitor_at (without_lie left place index) place).lies - index < length (traitor_at left place).lies - index
    fewer g h = omega (arith, g, h, within)

-- A pass over statements keeps all traitors.
pub walk_keeps : (place : ℕ) (q : Plot) {index : ℕ} {p : Plot} → LieWalk place q index p → length q.traitors ≡ length p.traitors
walk_keeps place q (lies_end index h) = refl
walk_keeps place q (lie_stays index p lt well walk) = walk_keeps place q walk
walk_keeps place q (lie_out index p lt broken walk) = walk_keeps place q walk ∙ same_traitors p place index

-- The pass over one traitor's statements is followed by the passes over the next traitors' statements.
pub one_more : (p left next : Plot) (place : ℕ) → place < length left.traitors → LieWalk place next 0 left → AllSoFar p place left → AllSoFar p (place + 1) next
one_more p left next place lt walk far q rest = far q (one_then place left next lt walk rest)

-- After the first removal, the passes follow.
pub walked_on : (p left smaller next : Plot) → IsWithoutFirst left smaller → IsWalked smaller next → ShrunkSoFar p left → ShrunkSoFar p next
walked_on p left smaller next first walk far q rest = far q (further left smaller next first walk rest)

-- The first traitor is removed, or the first statement if all traitors are needed.
pub first_traitor : (p : Plot) (o : Option Plot) → IfSome o (IsWithoutFirstTraitor p) → IfSome o (IsWithoutFirst p)
first_traitor p None h = tt
first_traitor p (Some q) h = inl h

pub first_lie : (p : Plot) (fewer : Option Plot) → is_some fewer ≡ false → IfNone fewer (TraitorsAreNeeded p) → (o : Option Plot) → IfSome o (IsWithoutFirstLie p) → IfSome o (IsWithoutFirst p)
first_lie p (Some q) none needed o h = absurd cc
first_lie p None none needed None h = tt
first_lie p None none needed (Some q) h = inr (needed, h)
