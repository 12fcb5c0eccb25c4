-- The orders that traitors send: those of a plan are no more than its cost, and messages that agree at all places have the same.
use Rattle.std.proofs.Common.{ℕ, zero, suc, ◌+◌, ◌<◌, ◌≤◌, ◌≡◌, Bool, true, false, not, cond, List, [], ◌∷◌, ◌++◌, map, length, refl, sym, ap, ◌∙◌, arith, inl, inr, Option, None, Some, length-append}
use Rattle.std.specs.Prelude.{count_by, sum_by, flat_map, ◌&&◌, ◌==◌, ◌⊎◌}
use Rattle.std.proofs.lemmas.Bool.{cases_Bool, cond-true, cond-false, true≢false}
use Rattle.std.proofs.lemmas.List.Sums.{sum_by-cons}
use Rattle.label.specs.Labels.{on, others}
use Rattle.label.specs.Oral.{IsLabel, Messages, taken, order_of}
use Rattle.label.proofs.Counting.{others-on, others-distinct}
use Rattle.label.proofs.Pushes.{IsLabel-push}
use Rattle.lies.specs.Break.{attacks_at, attacks_from}
use Rattle.lies.specs.Plans.{without, sender_of, next_aims, attacks, attacks_by, choices_of, last_taken, last_choice, plan}
use Rattle.lies.specs.PlannedMessages.{choice_in}
use Rattle.lies.specs.declared.aim.Aims.{Aims}
use Rattle.lies.specs.declared.choice.Choice.{Choice}
use Rattle.lies.specs.declared.sender.Sender.{Sender}
use Rattle.lies.specs.declared.sender.Sender.TheVariants.{Loyal, Traitor}
use Rattle.lies.proofs.Members.{on_in, in_on}
use Rattle.lies.proofs.PlanLemmas.{attacks_none, attacks_cons, votes_are, IsPlan, plan_is}
use Rattle.lies.proofs.Aims.{Setting}
use Rattle.lies.proofs.Soundness.{Follows, Child, child, takes_choice, last_taken_by}

-- States that the last general of the label is loyal, or the plan counts what he sends.
abbrev pub IsCounted : Setting → ℕ → Sender → Type 0
IsCounted x g s = (x.traitor g ≡ false) ⊎ (s ≡ Traitor)

pub counted_sender : (x : Setting) (j t : ℕ) → IsCounted x j (sender_of x.traitor j t)
counted_sender x j t = elim (cases_Bool (x.traitor j)) [
  | inl bad ↦ inr (cond-true (x.traitor j) Traitor (Loyal t) bad)
  | inr good ↦ inl good
]

sum_at : (F G : ℕ → ℕ) (js : List ℕ) → ((j : ℕ) → on js j ≡ true → F j ≤ G j) → sum_by F js ≤ sum_by G js
sum_at F G [] each = omega arith
sum_at F G (j ∷ js) each =
    let here = each j (on_in (j ∷ js) j (inl refl)) in
    let rest = sum_at F G js (λ i h. each i (on_in (j ∷ js) i (inr (in_on js i h)))) in
    rw (sum_by-cons F j js, sum_by-cons G j js) (omega arith)

pub sum_same : (F G : ℕ → ℕ) (js : List ℕ) → ((j : ℕ) → on js j ≡ true → F j ≡ G j) → sum_by F js ≡ sum_by G js
sum_same F G [] each = refl
sum_same F G (j ∷ js) each =
    let here = each j (on_in (j ∷ js) j (inl refl)) in
    let rest = sum_same F G js (λ i h. each i (on_in (j ∷ js) i (inr (in_on js i h)))) in
    rw (sum_by-cons F j js, sum_by-cons G j js) (omega arith)

sum_both : (F G : ℕ → ℕ) (js : List ℕ) → sum_by (λ j. F j + G j) js ≡ sum_by F js + sum_by G js
sum_both F G [] = omega arith
sum_both F G (j ∷ js) = let ih = sum_both F G js in rw (sum_by-cons (λ i. F i + G i) j js, sum_by-cons F j js, sum_by-cons G j js) (omega arith)

attacks_map : (zs : List Choice) → attacks zs ≡ sum_by (λ t. t) (map (λ (z : Choice). z.attacks) zs)
attacks_map [] = attacks_none
attacks_map (z ∷ zs) = let ih = attacks_map zs in rw (attacks_cons z zs, sum_by-cons (λ (t : ℕ). t) z.attacks (map (λ (y : Choice). y.attacks) zs)) (omega arith)

sum_map : (F : ℕ → ℕ) (js : List ℕ) → sum_by (λ t. t) (map F js) ≡ sum_by F js
sum_map F [] = refl
sum_map F (j ∷ js) = let ih = sum_map F js in rw (sum_by-cons (λ (t : ℕ). t) (F j) (map F js), sum_by-cons F j js) (omega arith)

-- Returns a number of a choice, or 0 if there is none.
abbrev pick : Option Choice → (Choice → ℕ) → ℕ
pick None v = 0
pick (Some z) v = v z

-- Proves that the orders about one label are at most those that the plan counts for it.
one_message : (x : Setting) (w : List ℕ) (g : ℕ) (s : Sender) (own : ℕ → ℕ) → IsCounted x g s → ((j : ℕ) → on (others x.n w) j ≡ true → x.traitor j ≡ false → taken x.M w j ≡ own j)
    → attacks_at x.n x.traitor x.M w g ≤ sum_by (λ j. attacks_by s (own j)) (others x.n w)
one_message x w g s own counted same = elim (cases_Bool (x.traitor g)) [
  | inr good ↦ rw (cond-false (x.traitor g) (count_by (λ p. not (x.traitor p) && not (taken x.M w p == 0)) (others x.n w)) 0 good) (omega arith)
  | inl bad ↦
      rw (cond-true (x.traitor g) (count_by (λ p. not (x.traitor p) && not (taken x.M w p == 0)) (others x.n w)) 0 bad)
      (sum_at (λ p. cond (not (x.traitor p) && not (taken x.M w p == 0)) 1 0) (λ j. attacks_by s (own j)) (others x.n w) (λ j i. each (is_traitor bad counted) j i (x.traitor j) refl))
]
  where
    is_traitor : x.traitor g ≡ true → IsCounted x g s → s ≡ Traitor
    is_traitor bad (inl good) = absurd (true≢false (sym bad ∙ good))
    is_traitor bad (inr e) = e

    bit : (b : Bool) → cond {A = ℕ} (not b) 1 0 ≤ cond b 0 1
    bit true = omega arith
    bit false = omega arith

    each : s ≡ Traitor → (j : ℕ) → on (others x.n w) j ≡ true → (b : Bool) → x.traitor j ≡ b → cond {A = ℕ} (not b && not (taken x.M w j == 0)) 1 0 ≤ attacks_by s (own j)
    each e j i true h = omega arith
    each e j i false h = rw (e, same j i h) (bit (own j == 0))

-- Proves that the messages of a plan have at most the orders that it counts.
pub cost_within : (x : Setting) (k : ℕ) (w : List ℕ) (g : ℕ) (s : Sender) (a : Aims) (h : Follows x k w s a) → IsCounted x g s → attacks_from x.n x.traitor x.M k w g ≤ attacks h.choices
unfolding attacks_from
cost_within x zero w g s a h counted =
    let last = last_taken_by x w s a h in
    let whole : h.choices ≡ map (last_choice s a) (others x.n w) = last.0 in
    let sum : attacks (map (last_choice s a) (others x.n w)) ≡ sum_by (λ j. attacks_by s (last_taken s a j)) (others x.n w) = all (others x.n w) in
    rw (whole, sum) (one_message x w g s (last_taken s a) counted last.1)
  where
    all : (js : List ℕ) → attacks (map (last_choice s a) js) ≡ sum_by (λ j. attacks_by s (last_taken s a j)) js
    all [] = attacks_none
    all (j ∷ js) = let ih = all js in rw (attacks_cons (last_choice s a j) (map (last_choice s a) js), sum_by-cons (λ i. attacks_by s (last_taken s a i)) j js) (omega arith)
cost_within x (suc k) w g s a h counted =
    let gs : List ℕ = others x.n w in
    let own : ℕ → ℕ = λ j. pick (choice_in (Some h.choices) j) (λ (z : Choice). z.vote.taken) in
    let cost : ℕ → ℕ = λ j. pick (choice_in (Some h.choices) j) (λ (z : Choice). z.attacks) in
    let is : IsPlan x.f x.traitor k (others x.n w) s a h.choices = plan_is x.f x.traitor k (others x.n w) s a h.choices h.possible in
    let here : attacks_at x.n x.traitor x.M w g ≤ sum_by (λ j. attacks_by s (own j)) (others x.n w) =
    one_message x w g s own counted (λ j i loyal. (let c : Child x k w s a h.choices j = child x k w s a h j i in takes_choice x k w s a h j loyal c ∙ sym (ap (λ (o : Option Choice). pick o (λ (z : Choice). z.vote.taken)) c.found)))
    in
    let later : sum_by (λ j. attacks_by s (own j) + attacks_from x.n x.traitor x.M k (w ++ j ∷ []) j) (others x.n w) ≤ sum_by cost (others x.n w) =
    sum_at (λ j. attacks_by s (own j) + attacks_from x.n x.traitor x.M k (w ++ j ∷ []) j) cost (others x.n w)
    (λ j i.
    let c : Child x k w s a h.choices j = child x k w s a h j i in
    let rest = cost_within x k (w ++ j ∷ []) j (sender_of x.traitor j c.choice.vote.taken) (next_aims a j c.choice.vote) c.follows (counted_sender x j c.choice.vote.taken) in
    let price = c.cost in
    let e : own j ≡ c.choice.vote.taken = ap (λ (o : Option Choice). pick o (λ (z : Choice). z.vote.taken)) c.found in
    let d : cost j ≡ c.choice.attacks = ap (λ (o : Option Choice). pick o (λ (z : Choice). z.attacks)) c.found in
    let b : attacks_by s (own j) ≡ attacks_by s c.choice.vote.taken = ap (attacks_by s) e in
    omega arith)
    in
    let all : map (λ (z : Choice). z.attacks) h.choices ≡ map cost (others x.n w) =
    votes_are (flat_map (λ i. choices_of (λ q b. plan x.f x.traitor k (without (others x.n w) i) q b) s x.traitor a i) (others x.n w)) (λ (z : Choice). z.attacks) cost (others x.n w) h.choices is.choices (others-distinct x.n w)
    (λ j z i found. sym (ap (λ (o : Option Choice). pick o (λ (y : Choice). y.attacks)) found))
    in
    let total : attacks h.choices ≡ sum_by cost (others x.n w) = attacks_map h.choices ∙ (ap (sum_by (λ t. t)) all ∙ sum_map cost (others x.n w)) in
    let sums = sum_both (λ j. attacks_by s (own j)) (λ j. attacks_from x.n x.traitor x.M k (w ++ j ∷ []) j) (others x.n w) in
    omega arith

-- States that two message functions agree at all places of a campaign, and two sets of traitors have the same generals.
pub record SameAt (n c m : ℕ) (t u : ℕ → Bool) (M N : Messages) : Type 0 where
  pub traitors : (j : ℕ) → j < n → t j ≡ u j
  pub messages : (w : List ℕ) (p : ℕ) → IsLabel n c w → length w ≤ m + 1 → p < n → on w p ≡ false → M w p ≡ N w p

same_at : (n c m : ℕ) (t u : ℕ → Bool) (M N : Messages) → SameAt n c m t u M N → (w : List ℕ) (g : ℕ) → IsLabel n c w → length w ≤ m + 1 → g < n → attacks_at n t M w g ≡ attacks_at n u N w g
same_at n c m t u M N same w g label short l =
    ap (λ (b : Bool). cond b (count_by (λ p. not (t p) && not (taken M w p == 0)) (others n w)) 0) (same.traitors g l)
    ∙ ap (λ (k : ℕ). cond (u g) k 0)
    (sum_same (λ p. cond (not (t p) && not (taken M w p == 0)) 1 0) (λ p. cond (not (u p) && not (taken N w p == 0)) 1 0) (others n w)
    (λ p i. (let at = others-on n w p i in λ k. cond (not (same.traitors p at.0 k) && not (order_of (same.messages w p label short at.0 at.1 k) == 0)) 1 0)))

pub same_from : (n c m : ℕ) (t u : ℕ → Bool) (M N : Messages) → SameAt n c m t u M N → (k : ℕ) (w : List ℕ) (g : ℕ) → IsLabel n c w → length w + k ≤ m + 1 → g < n → attacks_from n t M k w g ≡ attacks_from n u N k w g
unfolding attacks_from
same_from n c m t u M N same zero w g label short l = same_at n c m t u M N same w g label (omega arith) l
same_from n c m t u M N same (suc k) w g label short l =
    let here = same_at n c m t u M N same w g label (omega arith) l in
    let rest = sum_same (λ j. attacks_from n t M k (w ++ j ∷ []) j) (λ j. attacks_from n u N k (w ++ j ∷ []) j) (others n w)
    (λ j i. (let at = others-on n w j i in same_from n c m t u M N same k (w ++ j ∷ []) j (IsLabel-push label j at.0 at.1) (omega (arith, length-append w (j ∷ []))) at.0))
    in
    omega arith
