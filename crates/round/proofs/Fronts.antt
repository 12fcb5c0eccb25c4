-- What the letters of closed rounds say about a label, which is split into its last general and the others.
use Rattle.std.proofs.Common.{◌≡◌, ◌≢◌, ℕ, suc, ◌-◌, ◌<◌, ◌≤◌, List, [], ◌∷◌, ◌++◌, length, take, map, get_or, Bool, true, false, not, refl, sym, ap, ◌∙◌, Some, None, arith, length-append}
use Rattle.std.specs.Prelude.{◌||◌, slice_get, slice_index, ◌==◌, ◌&&◌, bytes_eq}
use Rattle.std.proofs.lemmas.Bool.{eq-eqb, ne_eqb, eqb-true, and_parts, true≢false, not-true}
use Rattle.std.proofs.lemmas.Slice.Eq.{bytes_eq-Decides}
use Rattle.label.specs.declared.shape.Shape.{Shape}
use Rattle.label.specs.Labels.{on, is_distinct, others}
use Rattle.label.specs.Oral.{AllBelow, IsLabel, order_of}
use Rattle.label.specs.Relay.{relay, receivers}
use Rattle.label.proofs.Counting.{on-push}
use Rattle.label.proofs.Ranks.{others-at, is_distinct-push}
use Rattle.std.proofs.lemmas.Bool.Decides.{nat_tests}
use Rattle.label.proofs.Same.{label_stands}
use Rattle.round.specs.Scenario.{Scenario}
use Rattle.round.specs.Letters.{Letter, value_beside, tells, telling, told_by, letter_of, messages}
use Rattle.round.specs.Contexts.{took}
use Rattle.round.proofs.Lists.{beside-map, take-get_or}

below-front : (n g : ℕ) (u : List ℕ) → AllBelow n (u ++ g ∷ []) → AllBelow n u × (g < n)
below-front n g [] a = (tt, a.0)
below-front n g (x ∷ xs) a = let b = below-front n g xs a.1 in ((a.0, b.0), b.1)

pub record Front (n c g : ℕ) (u : List ℕ) : Type 0 where
  pub label : IsLabel n c u
  pub within : g < n
  pub off : on u g ≡ false

pub front : (n c g x : ℕ) (xs : List ℕ) → IsLabel n c ((x ∷ xs) ++ g ∷ []) → Front n c g (x ∷ xs)
front n c g x xs a =
    let b = below-front n g (x ∷ xs) a.below in
    let d = and_parts (is_distinct (x ∷ xs)) (not (on (x ∷ xs) g)) (sym (is_distinct-push (x ∷ xs) g) ∙ a.distinct) in
    record { label = record { first = a.first; below = b.0; distinct = d.0 }; within = b.1; off = not-true (on (x ∷ xs) g) d.1 }

-- A general who extends a label is not the commander.
pub apart : (n c g x : ℕ) (xs : List ℕ) → IsLabel n c (x ∷ xs) → on (x ∷ xs) g ≡ false → g ≢ c
apart n c g x xs a off e = true≢false (sym (let f : x ≡ g = a.first ∙ sym e in rw (eq-eqb x g f) refl) ∙ off)

-- A label without its last general is among those that this general relays.
pub relay_stands : (s : Shape) (u : List ℕ) → s.commander < s.generals → s.round ≡ suc (length u) → IsLabel s.generals s.commander (u ++ s.general ∷ []) → (i : ℕ) × (slice_get (relay s) i ≡ Some u)
relay_stands s [] inside r a = (0, rw (eq-eqb s.general s.commander a.first, eq-eqb s.round 1 r) refl)
relay_stands s (x ∷ xs) inside r a =
    let f = front s.generals s.commander s.general x xs a in
    let ne = apart s.generals s.commander s.general x xs f.label f.off in
    let k : s.round - 1 ≡ length (x ∷ xs) = omega arith in
    rw (ne_eqb s.general s.commander ne, k) (label_stands s.generals s.commander s.general (x ∷ xs) inside f.within ne f.label f.off)

-- An outbox that sends values sends each receiver of a label the label's value.
pub tells-telling : (s : Shape) (F : List ℕ → ℕ) (u : List ℕ) (p : ℕ) → s.commander < s.generals → s.round ≡ suc (length u) → p < s.generals
    → IsLabel s.generals s.commander (u ++ s.general ∷ []) → on (u ++ s.general ∷ []) p ≡ false → tells (telling s F) u p ≡ Some (F u)
tells-telling s F u p inside r within a off =
    let at = relay_stands s u inside r a in
    ap (λ row. value_beside (λ j. j == p) None (receivers s u) row)
    (beside-map (λ v. bytes_eq v u) [] (λ v. map (λ j. Some (F v)) (receivers s v)) (relay s) u at.0 at.1 ((bytes_eq-Decides u u).1 refl) (λ y h. (bytes_eq-Decides y u).0 h))
    ∙ beside-map (λ j. j == p) None (λ j. Some (F u)) (receivers s u) p (length (others p (u ++ s.general ∷ []))) (others-at s.generals (u ++ s.general ∷ []) p within off) (eq-eqb p p refl) (λ y h. eqb-true y p h)

pub last-push : (u : List ℕ) (g : ℕ) → slice_index (u ++ g ∷ []) (length u) ≡ g
last-push [] g = refl
last-push (x ∷ xs) g = last-push xs g

pub front-push : (u : List ℕ) (g : ℕ) → take (length u) (u ++ g ∷ []) ≡ u
front-push [] g = refl
front-push (x ∷ xs) g = ap (λ ys. x ∷ ys) (front-push xs g)

pub messages-push : (rounds : List (List Letter)) (u : List ℕ) (g p : ℕ) → messages rounds (u ++ g ∷ []) p ≡ told_by (letter_of (get_or rounds (length u) []) g) u p
unfolding messages
messages-push rounds u g p =
    let long : length (u ++ g ∷ []) - 1 ≡ length u = omega (arith, length-append u (g ∷ [])) in
    rw (long, last-push u g, front-push u g) refl

-- Messages about labels of a length depend only on as many rounds.
pub messages-front : (rounds : List (List Letter)) (k : ℕ) (x : ℕ) (xs : List ℕ) (p : ℕ) → length (x ∷ xs) ≤ k → messages (take k rounds) (x ∷ xs) p ≡ messages rounds (x ∷ xs) p
unfolding messages
messages-front rounds k x xs p le =
    ap (λ ls. told_by (letter_of ls (slice_index (x ∷ xs) (length (x ∷ xs) - 1))) (take (length (x ∷ xs) - 1) (x ∷ xs)) p) (take-get_or rounds k (length (x ∷ xs) - 1) [] (omega arith))

pub heard-front : (s : Scenario) (rounds : List (List Letter)) (u : List ℕ) (g : ℕ) → took s (take (length u) rounds) g u ≡ took s rounds g u
heard-front s rounds [] g = refl
heard-front s rounds (x ∷ xs) g = ap order_of (messages-front rounds (length (x ∷ xs)) x xs g (omega arith))
