-- How the strokes of loyal generals are drawn.
use Rattle.std.proofs.Common.{ℕ, suc, ◌<◌, ◌≡◌, Bool, true, false, not, cond, List, [], ◌∷◌, ◌++◌, length, refl, sym, ap, subst, ◌∙◌, inl, inr, append-nil}
use Rattle.std.specs.Prelude.{◌==◌, bytes_eq, filter}
use Rattle.std.proofs.lemmas.Bool.{and_from, or_left, or_right, eq-eqb}
use Rattle.std.proofs.lemmas.Slice.Eq.{bytes_eq-Decides}
use Rattle.label.specs.Labels.{on}
use Rattle.round.specs.Scenario.{Scenario, IsScenario, is_traitor}
use Rattle.world.specs.Agreement.{IsFinished}
use Rattle.world.specs.declared.event.Event.{Event}
use Rattle.signed.specs.Accepted.{loyal_chains}
use Rattle.signed.specs.Chains.{Among, Chain}
use Rattle.signed.specs.Chronicle.{signed_chronicle_of}
use Rattle.signed.specs.Kind.{played}
use Rattle.signed.specs.Sent.{delivered, sent_in}
use Rattle.signed.proofs.Along.{sent_length}
use Rattle.signed.proofs.Concluding.{same_scenario, told_in}
use Rattle.signed.proofs.Finishing.{loyal_in}
use Rattle.signed.proofs.Worlds.{full_in}
use Rattle.show_chains.specs.Laws.{OnlyTraitorsDiffer}
use Rattle.show_chains.specs.Owed.{is_among, is_same, owed_to, sent_to}
use Rattle.show_chains.specs.Strokes.{grouped, told_between, way}

same_as_itself : (ch : Chain) → is_same ch ch ≡ true
same_as_itself ch = and_from (ch.order == ch.order) (bytes_eq ch.signers ch.signers) (eq-eqb ch.order ch.order refl) ((bytes_eq-Decides ch.signers ch.signers).1 refl)

pub among_them : (xs : List Chain) (x : Chain) → Among x xs → is_among xs x ≡ true
among_them [] x m = absurd m
among_them (y ∷ xs) x (inl e) = or_left (is_same x y) (is_among xs x) (subst (λ z. is_same x z ≡ true) (sym e) (same_as_itself x))
among_them (y ∷ xs) x (inr m) = or_right (is_same x y) (is_among xs x) (among_them xs x m)

all_kept : (f : Chain → Bool) (xs : List Chain) → ((x : Chain) → Among x xs → f x ≡ true) → filter f xs ≡ xs
all_kept f [] h = refl
all_kept f (x ∷ xs) h = ap (λ b. cond b (x ∷ filter f xs) (filter f xs)) (h x (inl refl)) ∙ ap (λ ys. x ∷ ys) (all_kept f xs (λ y m. h y (inr m)))

none_kept : (f : Chain → Bool) (xs : List Chain) → ((x : Chain) → Among x xs → f x ≡ true) → filter (λ x. not (f x)) xs ≡ []
none_kept f [] h = refl
none_kept f (x ∷ xs) h =
    ap (λ b. cond (not b) (x ∷ filter (λ y. not (f y)) xs) (filter (λ y. not (f y)) xs)) (h x (inl refl)) ∙ none_kept f xs (λ y m. h y (inr m))

-- If exactly the owed chains are sent, all strokes are honest.
alike : (round p g : ℕ) (xs : List Chain) → told_between round p g xs xs ≡ grouped (way round p g true false) xs
alike round p g xs =
    ap (λ ys. grouped (way round p g true false) ys ++ grouped (way round p g true true) (filter (λ ch. not (is_among xs ch)) xs) ++ grouped (way round p g false true) (filter (λ ch. not (is_among xs ch)) xs))
    (all_kept (is_among xs) xs (among_them xs))
    ∙ (ap (λ ys. grouped (way round p g true false) xs ++ grouped (way round p g true true) ys ++ grouped (way round p g false true) ys) (none_kept (is_among xs) xs (among_them xs))
    ∙ (append-nil (grouped (way round p g true false) xs ++ []) ∙ append-nil (grouped (way round p g true false) xs)))

owes : (s : Scenario) (events : List Event) (round g p : ℕ) → IsScenario s → IsFinished (played s events) → g < s.generals → p < s.generals → is_traitor s g ≡ false →
    sent_to (signed_chronicle_of (played s events)) round g p ≡ owed_to (signed_chronicle_of (played s events)) round g p
owes s events round g p is f gn pn loyal =
    let closed = (played s events).closed in
    let long : length closed ≡ suc s.bound = f.closed ∙ ap (λ (t : Scenario). suc t.bound) (same_scenario s events) in
    let A : Scenario → Type 0 = λ t. delivered (sent_in t closed) round g p
    ≡ filter (λ ch. not (on ch.signers p)) (loyal_chains t.generals t.commander t.bound t.order (delivered (sent_in t closed)) round g) in
    subst A (sym (same_scenario s events))
    (loyal_in s (sent_in s closed) (full_in s closed (told_in s events is f.full)) (sent_length s closed ∙ long) g gn loyal round p pn)

pub proved_only_traitors_differ : OnlyTraitorsDiffer
proved_only_traitors_differ = record {
  owed = owes;
  drawn = λ s events round g p is f gn pn loyal.
      let c = signed_chronicle_of (played s events) in
      ap (λ ys. told_between round p g (sent_to c round g p) ys) (sym (owes s events round g p is f gn pn loyal)) ∙ alike round p g (sent_to c round g p);
}
