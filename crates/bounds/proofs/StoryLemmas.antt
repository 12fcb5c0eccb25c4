-- The messages of the stories: loyal generals are faithful, and some lieutenants cannot distinguish two stories.
use Rattle.std.proofs.Common.{ℕ, ◌+◌, ◌%◌, ◌<◌, ◌≡◌, ◌≢◌, false, cond, List, [], ◌∷◌, ◌++◌, refl, sym, ap, ◌∙◌, arith, inl, inr, Some}
use Rattle.std.proofs.lemmas.Bool.Decides.{nat_tests}
use Rattle.std.proofs.lemmas.Bool.{cases_Bool, cond-true, cond-false, eqb-false, ne_eqb}
use Rattle.label.specs.Oral.{IsLabel, heard, order_of, IsFaithful}
use Rattle.label.proofs.Pushes.{heard-push}
use Rattle.bounds.specs.declared.story.Story.{Story}
use Rattle.bounds.specs.declared.story.Story.TheVariants.{First, Second, Third}
use Rattle.bounds.specs.Stories.{group_of, is_crossing, crossings, lying_group, is_traitor_in, copy_in, story_order, held_order, last_general, story_messages}
use Rattle.bounds.specs.Tightness.{IsIndistinguishable}

pub group_of-below : (c j : ℕ) → group_of c j < 3
unfolding group_of
group_of-below c j = grind (arith, nat_tests)

pub group_of-commander : (c : ℕ) → group_of c c ≡ 0
unfolding group_of
group_of-commander c = grind (arith, nat_tests)

pub crossings-push : (c : ℕ) (u : List ℕ) (g p : ℕ) → crossings c ((u ++ g ∷ []) ++ p ∷ []) ≡ crossings c (u ++ g ∷ []) + cond (is_crossing (group_of c g) (group_of c p)) 1 0
unfolding crossings
crossings-push c [] g p = omega arith
crossings-push c (x ∷ []) g p = omega arith
crossings-push c (x ∷ y ∷ rest) g p = omega (arith, crossings-push c (y ∷ rest) g p)

pub last_general-push : (u : List ℕ) (g : ℕ) → last_general (u ++ g ∷ []) ≡ g
unfolding last_general
last_general-push [] g = refl
last_general-push (x ∷ []) g = refl
last_general-push (x ∷ y ∷ rest) g = last_general-push (y ∷ rest) g

-- Proves that two loyal groups are in adjacent copies of the ring.
neighbours : (s : Story) (g h t : ℕ) → g < 3 → h < 3 → g ≢ lying_group s → h ≢ lying_group s → (copy_in s h + (t + cond (is_crossing g h) 1 0)) % 2 ≡ (copy_in s g + t) % 2
neighbours First g h t lg lh g' h' = grind (arith, nat_tests)
neighbours Second g h t lg lh g' h' = grind (arith, nat_tests)
neighbours Third g h t lg lh g' h' = grind (arith, nat_tests)

loyal_group : (s : Story) (c g : ℕ) → is_traitor_in s c g ≡ false → group_of c g ≢ lying_group s
unfolding is_traitor_in
loyal_group s c g e = eqb-false (group_of c g) (lying_group s) e

-- Proves that a loyal general holds the order that the loyal general before him holds.
held_order-push : (s : Story) (c : ℕ) (u : List ℕ) (g p : ℕ) → is_traitor_in s c g ≡ false → is_traitor_in s c p ≡ false → held_order s c p ((u ++ g ∷ []) ++ p ∷ []) ≡ held_order s c g (u ++ g ∷ [])
unfolding held_order
held_order-push s c u g p lg lp =
    rw (crossings-push c u g p) (neighbours s (group_of c g) (group_of c p) (crossings c (u ++ g ∷ [])) (group_of-below c g) (group_of-below c p) (loyal_group s c g lg) (loyal_group s c p lp))

pub story_messages-push : (s : Story) (c : ℕ) (u : List ℕ) (g p : ℕ) → story_messages s c (u ++ g ∷ []) p ≡ Some (cond (is_traitor_in s c g) (held_order s c p ((u ++ g ∷ []) ++ p ∷ [])) (held_order s c g (u ++ g ∷ [])))
unfolding story_messages
story_messages-push s c u g p = rw (last_general-push u g) refl

-- Proves that a loyal general sends the order that he holds.
sent_by_loyal : (s : Story) (c : ℕ) (u : List ℕ) (g p : ℕ) → is_traitor_in s c g ≡ false → story_messages s c (u ++ g ∷ []) p ≡ Some (held_order s c g (u ++ g ∷ []))
sent_by_loyal s c u g p loyal = story_messages-push s c u g p ∙ ap Some (cond-false (is_traitor_in s c g) (held_order s c p ((u ++ g ∷ []) ++ p ∷ [])) (held_order s c g (u ++ g ∷ [])) loyal)

-- Proves that a loyal general receives the order that he then holds.
sent_to_loyal : (s : Story) (c : ℕ) (u : List ℕ) (g p : ℕ) → is_traitor_in s c p ≡ false → story_messages s c (u ++ g ∷ []) p ≡ Some (held_order s c p ((u ++ g ∷ []) ++ p ∷ []))
sent_to_loyal s c u g p loyal = elim (cases_Bool (is_traitor_in s c g)) [
  | inl bad ↦ story_messages-push s c u g p ∙ ap Some (cond-true (is_traitor_in s c g) (held_order s c p ((u ++ g ∷ []) ++ p ∷ [])) (held_order s c g (u ++ g ∷ [])) bad)
  | inr good ↦ sent_by_loyal s c u g p good ∙ ap Some (sym (held_order-push s c u g p good loyal))
]

-- A list, split into its last number and the numbers before it.
pub record Ends (w : List ℕ) : Type 0 where
  pub before : List ℕ
  pub end : ℕ
  pub is : w ≡ before ++ end ∷ []

pub ends : (x : ℕ) (xs : List ℕ) → Ends (x ∷ xs)
ends x [] = record { before = []; end = x; is = refl }
ends x (y ∷ ys) = let e : Ends (y ∷ ys) = ends y ys in record { before = x ∷ e.before; end = e.end; is = ap (λ w. x ∷ w) e.is }

held_order-first : (s : Story) (c : ℕ) → held_order s c c (c ∷ []) ≡ story_order s
unfolding held_order crossings
held_order-first First c = refl
held_order-first Second c = refl
held_order-first Third c = rw (group_of-commander c) refl

held_order-heard : (s : Story) (c g : ℕ) (u v : List ℕ) (h : ℕ) → is_traitor_in s c g ≡ false → u ≡ v ++ h ∷ [] → held_order s c g (u ++ g ∷ []) ≡ heard (story_messages s c) (story_order s) u g
held_order-heard s c g u v h loyal e = rw e (sym (heard-push (story_messages s c) (story_order s) v h g ∙ ap order_of (sent_to_loyal s c v h g loyal)))

holds_heard : (s : Story) (n c g : ℕ) (u : List ℕ) → is_traitor_in s c g ≡ false → IsLabel n c (u ++ g ∷ []) → held_order s c g (u ++ g ∷ []) ≡ heard (story_messages s c) (story_order s) u g
holds_heard s n c g [] loyal label = let e : g ≡ c = label.first in rw e (held_order-first s c)
holds_heard s n c g (x ∷ xs) loyal label = let e : Ends (x ∷ xs) = ends x xs in held_order-heard s c g (x ∷ xs) e.before e.end loyal e.is

-- Proves that loyal generals are faithful.
pub faithful : (s : Story) (n c rounds g : ℕ) → is_traitor_in s c g ≡ false → IsFaithful n c rounds (story_order s) (story_messages s c) g
faithful s n c rounds g loyal u p label short within off = sent_by_loyal s c u g p loyal ∙ ap Some (holds_heard s n c g u loyal label)

-- Proves that a general who is loyal and plays the same copy in two stories receives the same in both.
same_sent : (s t : Story) (c : ℕ) (w u : List ℕ) (g p : ℕ) → is_traitor_in s c p ≡ false → is_traitor_in t c p ≡ false → copy_in s (group_of c p) ≡ copy_in t (group_of c p) → w ≡ u ++ g ∷ [] → story_messages s c w p ≡ story_messages t c w p
unfolding held_order
same_sent s t c w u g p ls lt same e =
    rw e (sent_to_loyal s c u g p ls ∙ ap (λ x. Some ((x + crossings c ((u ++ g ∷ []) ++ p ∷ [])) % 2)) same ∙ sym (sent_to_loyal t c u g p lt))

pub indistinguishable : (s t : Story) (n c p : ℕ) → is_traitor_in s c p ≡ false → is_traitor_in t c p ≡ false → copy_in s (group_of c p) ≡ copy_in t (group_of c p) → IsIndistinguishable n c p (story_messages s c) (story_messages t c)
indistinguishable s t n c p ls lt same [] label off = absurd label.first
indistinguishable s t n c p ls lt same (x ∷ xs) label off = let e : Ends (x ∷ xs) = ends x xs in same_sent s t c (x ∷ xs) e.before e.end p ls lt same e.is

-- Proves that a general whose group does not lie is loyal.
pub loyal_in : (s : Story) (c p g : ℕ) → group_of c p ≡ g → g ≢ lying_group s → is_traitor_in s c p ≡ false
unfolding is_traitor_in
loyal_in s c p g e ne = ne_eqb (group_of c p) (lying_group s) (λ same. ne (sym e ∙ same))

pub first_two : (n c p : ℕ) → group_of c p ≡ 1 → IsIndistinguishable n c p (story_messages First c) (story_messages Second c)
first_two n c p e = indistinguishable First Second n c p (loyal_in First c p 1 e (λ x. omega arith)) (loyal_in Second c p 1 e (λ x. omega arith)) refl

pub last_two : (n c p : ℕ) → group_of c p ≡ 2 → IsIndistinguishable n c p (story_messages Second c) (story_messages Third c)
last_two n c p e = indistinguishable Second Third n c p (loyal_in Second c p 2 e (λ x. omega arith)) (loyal_in Third c p 2 e (λ x. omega arith)) (rw e refl)
