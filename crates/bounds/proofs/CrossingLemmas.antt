-- The crossings between the copies of the groups along a label, and the message of a story that follows from their
-- number.
use Rattle.std.proofs.Common.{ℕ, zero, suc, ◌+◌, ◌-◌, ◌%◌, ◌<◌, ◌≤◌, ◌≡◌, ◌≢◌, ◌∙◌, Bool, true, false, cond, List, [], ◌∷◌, ◌++◌, take, get_or, length, refl, sym, ap, arith, Some}
use Rattle.std.specs.Prelude.{◌==◌}
use Rattle.std.proofs.lemmas.Bool.{cond-true, cond-false, eq-eqb, ne_eqb}
use Rattle.std.specs.Int.{from_bool}
use Rattle.bounds.specs.declared.story.Story.{Story}
use Rattle.bounds.specs.Stories.{group_of, is_crossing, crossings, lying_group, is_traitor_in, copy_in, held_order, last_general, story_messages}
use Rattle.bounds.proofs.StoryLemmas.{Ends, ends, story_messages-push, crossings-push, last_general-push}

-- Proves how one more general changes the number of crossings.
pub crossings-take : (c k : ℕ) (gs : List ℕ) → suc k < length gs → crossings c (take (suc (suc k)) gs) ≡ crossings c (take (suc k) gs) + cond (is_crossing (group_of c (get_or gs k 0)) (group_of c (get_or gs (suc k) 0))) 1 0
unfolding crossings
crossings-take c k [] l = absurd (omega arith)
crossings-take c k (x ∷ []) l = absurd (omega arith)
crossings-take c zero (x ∷ y ∷ rest) l = omega arith
crossings-take c (suc k) (x ∷ y ∷ rest) l = omega (arith, crossings-take c k (y ∷ rest) (omega arith))

pub crossings-next : (c i : ℕ) (gs : List ℕ) → 1 ≤ i → i < length gs → crossings c (take (i + 1) gs) ≡ crossings c (take i gs) + cond (is_crossing (group_of c (get_or gs (i - 1) 0)) (group_of c (get_or gs i 0))) 1 0
crossings-next c zero gs l h = absurd (omega arith)
crossings-next c (suc k) gs l h =
    let e : suc k + 1 ≡ suc (suc k) = omega arith in
    let d : suc k - 1 ≡ k = omega arith in
    rw (e, d) (crossings-take c k gs h)

pub crossings-start : (c : ℕ) (gs : List ℕ) → crossings c (take 1 gs) ≡ 0
unfolding crossings
crossings-start c [] = refl
crossings-start c (x ∷ xs) = refl

pub last_general-at : (x : ℕ) (xs : List ℕ) → last_general (x ∷ xs) ≡ get_or (x ∷ xs) (length xs) 0
unfolding last_general
last_general-at x [] = refl
last_general-at x (y ∷ ys) = last_general-at y ys

story_messages-at : (s : Story) (c : ℕ) (w u : List ℕ) (g p : ℕ) → w ≡ u ++ g ∷ [] →
    story_messages s c w p ≡ Some (cond (group_of c (last_general w) == lying_group s) ((copy_in s (group_of c p) + (crossings c w + cond (is_crossing (group_of c (last_general w)) (group_of c p)) 1 0)) % 2) ((copy_in s (group_of c (last_general w)) + crossings c w) % 2))
unfolding held_order is_traitor_in
story_messages-at s c w u g p e = rw (e, last_general-push u g) (story_messages-push s c u g p ∙ rw (crossings-push c u g p) refl)

pub story_messages_is : (s : Story) (c : ℕ) (w : List ℕ) (p : ℕ) → 0 < length w →
    story_messages s c w p ≡ Some (cond (group_of c (last_general w) == lying_group s) ((copy_in s (group_of c p) + (crossings c w + cond (is_crossing (group_of c (last_general w)) (group_of c p)) 1 0)) % 2) ((copy_in s (group_of c (last_general w)) + crossings c w) % 2))
story_messages_is s c [] p l = absurd (omega arith)
story_messages_is s c (x ∷ xs) p l = let e : Ends (x ∷ xs) = ends x xs in story_messages-at s c (x ∷ xs) e.before e.end p e.is

pub crossing_counted : (a b g h : ℕ) (r : Bool) → r ≡ is_crossing a b → a ≡ g → b ≡ h → r ≡ is_crossing g h
crossing_counted a b g h r e p q = e ∙ (ap (λ x. is_crossing x b) p ∙ ap (λ x. is_crossing g x) q)

last_general_is : (w : List ℕ) → 0 < length w → last_general w ≡ get_or w (length w - 1) 0
last_general_is [] l = absurd (omega arith)
last_general_is (x ∷ xs) l = let e : suc (length xs) - 1 ≡ length xs = omega arith in rw e (last_general-at x xs)

-- Proves which message is sent, from the groups of the last general and of the receiver.
pub sent_by_traitor : (s : Story) (c : ℕ) (w : List ℕ) (p g h t more : ℕ) → 0 < length w → g ≡ group_of c (get_or w (length w - 1) 0) → h ≡ group_of c p → t ≡ crossings c w → more ≡ cond (is_crossing g h) 1 0 → g ≡ lying_group s
    → Some ((copy_in s h + t + more) % 2) ≡ story_messages s c w p
sent_by_traitor s c w p g h t more l eg eh et em lies =
    let last' : g ≡ group_of c (last_general w) = eg ∙ ap (group_of c) (sym (last_general_is w l)) in
    let sum : copy_in s h + t + more ≡ copy_in s (group_of c p) + (crossings c w + cond (is_crossing (group_of c (last_general w)) (group_of c p)) 1 0) =
    rw (em, et, last', eh) (omega arith)
    in
    sym (story_messages_is s c w p l ∙ ap Some (cond-true (group_of c (last_general w) == lying_group s) ((copy_in s (group_of c p) + (crossings c w + cond (is_crossing (group_of c (last_general w)) (group_of c p)) 1 0)) % 2) ((copy_in s (group_of c (last_general w)) + crossings c w) % 2) (eq-eqb (group_of c (last_general w)) (lying_group s) (sym last' ∙ lies)) ∙ ap (λ x. x % 2) (sym sum)))

pub sent_truly : (s : Story) (c : ℕ) (w : List ℕ) (p g t : ℕ) → 0 < length w → g ≡ group_of c (get_or w (length w - 1) 0) → t ≡ crossings c w → g ≢ lying_group s
    → Some ((copy_in s g + t) % 2) ≡ story_messages s c w p
sent_truly s c w p g t l eg et true_to =
    let last' : g ≡ group_of c (last_general w) = eg ∙ ap (group_of c) (sym (last_general_is w l)) in
    sym (story_messages_is s c w p l ∙ ap Some (cond-false (group_of c (last_general w) == lying_group s) ((copy_in s (group_of c p) + (crossings c w + cond (is_crossing (group_of c (last_general w)) (group_of c p)) 1 0)) % 2) ((copy_in s (group_of c (last_general w)) + crossings c w) % 2) (ne_eqb (group_of c (last_general w)) (lying_group s) (λ e. true_to (last' ∙ e))) ∙ (ap (λ x. (copy_in s (group_of c (last_general w)) + x) % 2) (sym et) ∙ ap (λ x. (copy_in s x + t) % 2) (sym last'))))

pub byte_is : (b : Bool) → from_bool b ≡ cond b 1 0
byte_is true = refl
byte_is false = refl
