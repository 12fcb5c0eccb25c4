-- Steps of the loops of the search.
use Rattle.std.proofs.Common.{ℕ, zero, suc, ◌+◌, ◌<◌, ◌≤◌, ◌≡◌, Bool, true, false, not, cond, List, [], ◌∷◌, ◌++◌, Option, None, Some, map, length, take, get_or, refl, sym, ap, ◌∙◌, arith, add-one, add-zero}
use Rattle.std.specs.Prelude.{count_by, filter, flat_map, ◌==◌}
use Rattle.std.specs.List.{range_with_len}
use Rattle.std.proofs.lemmas.Bool.{cond-true, cond-false}
use Rattle.std.proofs.lemmas.List.{append-nil, take_more, take_all}
use Rattle.std.proofs.lemmas.List.Concat.{flat_map-append}
use Rattle.std.proofs.lemmas.List.Elements.{filter-append}
use Rattle.std.proofs.lemmas.List.FromFn.{length-range_with_len}
use Rattle.std.proofs.lemmas.List.Sums.{length-filter, count_by-le-length}
use Rattle.label.specs.Labels.{generals, others}
use Rattle.label.proofs.Ranks.{others-count}
use Rattle.lies.specs.Plans.{all_votes, attacks, attacks_by, cheapest, choices_of, chosen, may_cast, meets, next_aims, plan, selections, sender_of, without}
use Rattle.lies.specs.PlannedMessages.{after, choice_in, message, received}
use Rattle.lies.specs.declared.aim.Aims.{Aims}
use Rattle.lies.specs.declared.choice.Vote.{Vote}
use Rattle.lies.specs.declared.sender.Sender.{Sender}
use Rattle.lies.specs.declared.choice.Choice.{Choice}
use Rattle.lies.proofs.PlanLemmas.{attacks_none, attacks_cons}
use Rattle.lies.proofs.Soundness.{message_cons, message_nil}

-- Proves that a filter keeps at most all generals.
pub filter_few : (t : ℕ → Bool) (j : ℕ) → length (filter t (generals j)) ≤ j
filter_few t j = rw (length-filter t (generals j)) (omega (arith, count_by-le-length t (generals j), length-range_with_len 0 j))

range_push : (a n : ℕ) → range_with_len a (suc n) ≡ range_with_len a n ++ (a + n) ∷ []
range_push a zero = rw add-zero refl
range_push a (suc n) =
    let s : (a + 1) + n ≡ a + suc n = omega arith in
    ap (λ xs. a ∷ xs) (range_push (a + 1) n ∙ ap (λ x. range_with_len (a + 1) n ++ x ∷ []) s)

generals_more : (j : ℕ) → generals (j + 1) ≡ generals j ++ j ∷ []
generals_more j = rw add-one (range_push 0 j ∙ ap (λ x. range_with_len 0 j ++ x ∷ []) (omega arith))

-- Proves what a filter keeps of one general more.
pub filter_yes : (t : ℕ → Bool) (j : ℕ) → t j ≡ true → filter t (generals (j + 1)) ≡ filter t (generals j) ++ j ∷ []
filter_yes t j e = ap (filter t) (generals_more j) ∙ (filter-append t (generals j) (j ∷ []) ∙ ap (λ xs. filter t (generals j) ++ xs) (cond-true (t j) (j ∷ []) [] e))

pub filter_no : (t : ℕ → Bool) (j : ℕ) → t j ≡ false → filter t (generals (j + 1)) ≡ filter t (generals j)
filter_no t j e = ap (filter t) (generals_more j) ∙ (filter-append t (generals j) (j ∷ []) ∙ (ap (λ xs. filter t (generals j) ++ xs) (cond-false (t j) (j ∷ []) [] e) ∙ append-nil (filter t (generals j))))

-- Proves what one choice more costs.
pub attacks_push : (zs : List Choice) (z : Choice) → attacks (zs ++ z ∷ []) ≡ attacks zs + z.attacks
attacks_push [] z = let none = attacks_none in attacks_cons z [] ∙ rw attacks_none (omega arith)
attacks_push (y ∷ zs) z = let ih = attacks_push zs z in rw (attacks_cons y (zs ++ z ∷ []), attacks_cons y zs) (omega arith)

-- Proves what a flat map adds for one element more.
pub flat_more : {A B : Type 0} → (f : A → List B) (xs : List A) (i : ℕ) (d : A) → i < length xs → flat_map f (take (i + 1) xs) ≡ flat_map f (take i xs) ++ f (get_or xs i d)
flat_more f xs i d l = ap (flat_map f) (take_more xs i d l) ∙ (flat_map-append f (take i xs) (get_or xs i d ∷ []) ∙ ap (λ ys. flat_map f (take i xs) ++ ys) (append-nil (f (get_or xs i d))))

-- Proves that a list without a general is no longer.
pub without_few : (gs : List ℕ) (j : ℕ) → length (without gs j) ≤ length gs
without_few gs j = rw (length-filter (λ g. not (g == j)) gs) (count_by-le-length (λ g. not (g == j)) gs)

-- Proves that at most 12 generals are off the commander's label.
pub off_few : (n c : ℕ) → c < n → n ≤ 13 → length (others n (c ∷ [])) ≤ 12
off_few n c l few = (let size = others-count n (c ∷ []) refl (l, tt) in omega arith)

same_rest : (zss : List (List Choice)) → map (λ rest. [] ++ rest) zss ≡ zss
same_rest [] = refl
same_rest (zs ∷ zss) = ap (λ ys. zs ∷ ys) (same_rest zss)

-- Proves that the cheapest selection of all choices is the plan.
pub plan_found : (f : List ℕ → ℕ) (t : ℕ → Bool) (k l : ℕ) (gs : List ℕ) (s : Sender) (a : Aims) (B flat : List Choice) (i : ℕ) → k ≡ suc l → B ≡ [] → flat ≡ flat_map (λ j. choices_of (λ q b. plan f t l (without gs j) q b) s t a j) (take i gs) → length gs ≤ i
    → cheapest (filter (meets f a) (map (λ rest. B ++ rest) (selections flat gs))) ≡ plan f t k gs s a
unfolding plan
plan_found f t k l gs s a B flat i ek eb ef long =
    let all : flat ≡ flat_map (λ j. choices_of (λ q b. plan f t l (without gs j) q b) s t a j) gs = ef ∙ ap (flat_map (λ j. choices_of (λ q b. plan f t l (without gs j) q b) s t a j)) (take_all i gs long) in
    (λ d. cheapest (filter (meets f a) (map (λ rest. eb d ++ rest) (selections (all d) gs))))
    ∙ (ap (λ ys. cheapest (filter (meets f a) ys)) (same_rest (selections (flat_map (λ j. choices_of (λ q b. plan f t l (without gs j) q b) s t a j) gs) gs))
    ∙ ap (λ (m : ℕ). plan f t m gs s a) (sym ek))

-- Proves one step of the walk to a message.
pub message_step : (f : List ℕ → ℕ) (t : ℕ → Bool) (k l : ℕ) (gs hs : List ℕ) (s q : Sender) (a b : Aims) (j : ℕ) (rest : List ℕ) (g : ℕ) (z : Choice) → k ≡ suc l → choice_in (plan f t k gs s a) j ≡ Some z
    → hs ≡ without gs j → q ≡ sender_of t j z.vote.taken → b ≡ next_aims a j z.vote → message f t l hs q b rest g ≡ message f t k gs s a (j ∷ rest) g
message_step f t k l gs hs s q a b j rest g z ek found eh eq eb =
    let here : choice_in (plan f t (suc l) gs s a) j ≡ Some z = ap (λ (m : ℕ). choice_in (plan f t m gs s a) j) (sym ek) ∙ found in
    (λ d. message f t l (eh d) (eq d) (eb d) rest g) ∙ (sym (message_cons f t l gs s a j rest g z here) ∙ ap (λ (m : ℕ). message f t m gs s a (j ∷ rest) g) (sym ek))

-- Proves that without a choice there is no message.
pub message_stops : (f : List ℕ → ℕ) (t : ℕ → Bool) (k l : ℕ) (gs : List ℕ) (s : Sender) (a : Aims) (j : ℕ) (rest : List ℕ) (g : ℕ) → k ≡ suc l → choice_in (plan f t k gs s a) j ≡ None → None ≡ message f t k gs s a (j ∷ rest) g
unfolding message
message_stops f t k l gs s a j rest g ek found =
    let here : choice_in (plan f t (suc l) gs s a) j ≡ None = ap (λ (m : ℕ). choice_in (plan f t m gs s a) j) (sym ek) ∙ found in
    sym (ap (λ (c : Option Choice). after c (λ (choice : Choice). message f t l (without gs j) (sender_of t j choice.vote.taken) (next_aims a j choice.vote) rest g)) here)
    ∙ ap (λ (m : ℕ). message f t m gs s a (j ∷ rest) g) (sym ek)

-- Proves what a vote adds to the choices for a general.
pub vote_adds : (s : Sender) (t : ℕ → Bool) (a : Aims) (j : ℕ) (vote : Vote) (plans : Option (List Choice)) (zs : List Choice) (cost : ℕ) → may_cast s t a j vote ≡ true → plans ≡ Some zs → cost ≡ attacks_by s vote.taken + attacks zs
    → cond (may_cast s t a j vote) (chosen s j vote plans) [] ≡ record { general = j; vote = vote; attacks = cost } ∷ []
vote_adds s t a j vote plans zs cost may e c = rw (may, e, c) refl

pub vote_fails : (s : Sender) (t : ℕ → Bool) (a : Aims) (j : ℕ) (vote : Vote) (plans : Option (List Choice)) → plans ≡ None → cond (may_cast s t a j vote) (chosen s j vote plans) [] ≡ []
vote_fails s t a j vote plans e = ap (λ (o : Option (List Choice)). cond (may_cast s t a j vote) (chosen s j vote o) []) e ∙ nothing (may_cast s t a j vote)
  where
    nothing : (b : Bool) → cond {A = List Choice} b [] [] ≡ []
    nothing true = refl
    nothing false = refl

-- Proves that the walk ends with the message about the label itself.
pub message_last : (f : List ℕ → ℕ) (t : ℕ → Bool) (k : ℕ) (gs : List ℕ) (s : Sender) (a : Aims) (rest : List ℕ) (g : ℕ) → length rest ≡ 0 → received t s (plan f t k gs s a) g ≡ message f t k gs s a rest g
message_last f t k gs s a [] g e = sym (message_nil f t k gs s a g)
message_last f t k gs s a (x ∷ xs) g e = absurd (omega arith)

-- Proves how many votes there are.
pub votes_many : length all_votes ≡ 8
unfolding all_votes
votes_many = refl

-- Proves that at most n of n generals are traitors.
pub count_few : (n : ℕ) (t : ℕ → Bool) → count_by t (generals n) ≤ n
count_few n t = omega (arith, count_by-le-length t (generals n), length-range_with_len 0 n)
