-- No decision rule suffices: the proofs of the laws in specs/Tightness and specs/Stories.
use Rattle.std.proofs.Common.{ℕ, zero, suc, ◌+◌, ◌<◌, ◌≤◌, ◌≡◌, ◌≢◌, false, [], ◌∷◌, refl, sym, ap, arith, inl, inr}
use Rattle.std.specs.Prelude.{◌==◌}
use Rattle.std.proofs.lemmas.Bool.Decides.{nat_tests}
use Rattle.std.proofs.lemmas.Bool.{cases_eq, or_from, ne_eqb}
use Rattle.label.specs.Oral.{IsLoyalLieutenant, order_of}
use Rattle.label.proofs.Same.{om-same}
use Rattle.bounds.specs.declared.story.Story.{Story}
use Rattle.bounds.specs.declared.story.Story.TheVariants.{First, Second, Third}
use Rattle.bounds.specs.Stories.{group_of, lying_group, is_traitor_in, story_order, story_messages, StoriesAreAdmissible, StoriesBreak}
use Rattle.bounds.specs.Tightness.{IsTooFew, IsAdmissible, BoundIsTight, OmIsDecisionRule}
use Rattle.bounds.proofs.StoryLemmas.{faithful, first_two, last_two, loyal_in, group_of-commander}
use Rattle.bounds.proofs.GroupSizes.{liars}

admissible : (s : Story) (n c m : ℕ) → IsTooFew n c m → IsAdmissible n c m (story_order s) (is_traitor_in s c) (story_messages s c)
admissible s n c m few = record { few = (liars s n c m few).1; faithful = λ rounds g l loyal. faithful s n c rounds g loyal }

pub proved_stories_are_admissible : StoriesAreAdmissible
proved_stories_are_admissible = record { admissible = admissible; some = λ s n c m few. (liars s n c m few).0; first_two = first_two; last_two = last_two }

-- A lieutenant of the group g, whose number is below 3.
record Has (c g : ℕ) : Type 0 where
  at : ℕ
  below : at < 3
  is : group_of c at ≡ g

has_1 : (c : ℕ) → Has c 1
unfolding group_of
has_1 zero = record { at = 1; below = omega arith; is = refl }
has_1 (suc c) = record { at = 0; below = omega arith; is = grind (arith, nat_tests) }

has_2 : (c : ℕ) → Has c 2
unfolding group_of
has_2 zero = record { at = 2; below = omega arith; is = refl }
has_2 (suc zero) = record { at = 2; below = omega arith; is = refl }
has_2 (suc (suc c)) = record { at = 1; below = omega arith; is = grind (arith, nat_tests) }

lieutenant : (c p g : ℕ) → group_of c p ≡ g → 0 < g → p ≢ c
lieutenant c p g e l same = let zero' : group_of c p ≡ 0 = rw same (group_of-commander c) in omega arith

loyal : (s : Story) (n c p g : ℕ) → group_of c p ≡ g → 0 < g → g ≢ lying_group s → p < n → IsLoyalLieutenant n c (is_traitor_in s c) p
loyal s n c p g e l ne within = record { general = within; lieutenant = lieutenant c p g e l; loyal = loyal_in s c p g e ne }

pub proved_stories_break : StoriesBreak
proved_stories_break n c m decide few rule =
    let a : Has c 1 = has_1 c in
    let b : Has c 2 = has_2 c in
    let three : 3 ≤ n = few.three in
    let la : a.at < 3 = a.below in
    let lb : b.at < 3 = b.below in
    let wa : a.at < n = omega arith in
    let wb : b.at < n = omega arith in
    let ea : decide a.at (story_messages First c) ≡ decide a.at (story_messages Second c) = rule a.at (story_messages First c) (story_messages Second c) wa (lieutenant c a.at 1 a.is (omega arith)) (first_two n c a.at a.is) in
    let eb : decide b.at (story_messages Second c) ≡ decide b.at (story_messages Third c) = rule b.at (story_messages Second c) (story_messages Third c) wb (lieutenant c b.at 2 b.is (omega arith)) (last_two n c b.at b.is) in
    elim (cases_eq (decide a.at (story_messages First c)) 0) [
      | inr ne ↦ (First, λ agree. ne (agree.obeyed (loyal_in First c c 0 (group_of-commander c) (λ x. omega arith)) a.at (loyal First n c a.at 1 a.is (omega arith) (λ x. omega arith) wa)))
      | inl none ↦ elim (cases_eq (decide b.at (story_messages Third c)) 1) [
        | inr ne ↦ (Third, λ agree. ne (agree.obeyed (loyal_in Third c c 0 (group_of-commander c) (λ x. omega arith)) b.at (loyal Third n c b.at 2 b.is (omega arith) (λ x. omega arith) wb)))
        | inl one ↦ (
          Second,
          λ agree.
              let same : decide a.at (story_messages Second c) ≡ decide b.at (story_messages Second c) = agree.alike a.at b.at (loyal Second n c a.at 1 a.is (omega arith) (λ x. omega arith) wa) (loyal Second n c b.at 2 b.is (omega arith) (λ x. omega arith) wb) in
              omega arith,
        )
      ]
    ]

pub proved_bound_is_tight : BoundIsTight
proved_bound_is_tight n c m decide few rule =
    let story = proved_stories_break n c m decide few rule in
    record {
      order = story_order story.0;
      traitor = is_traitor_in story.0 c;
      messages = story_messages story.0 c;
      admissible = admissible story.0 n c m few;
      broken = story.1;
    }

pub proved_om_is_decision_rule : OmIsDecisionRule
proved_om_is_decision_rule f n c m inside p M N within ne alike =
    om-same f n c (m + 1) p M N (λ w label off short. ap order_of (alike w label off)) m (c ∷ []) (record { first = refl; below = (inside, tt); distinct = refl }) (or_from (c == p) false (ne_eqb c p (λ e. ne (sym e))) refl) (omega arith)
