-- What is known of a plan: it is a selection of choices, one for each general off the label, and no selection that meets the aims is cheaper.
use Rattle.std.proofs.Common.{ℕ, suc, ◌+◌, ◌<◌, ◌≤◌, ◌≡◌, Bool, true, false, not, cond, List, [], ◌∷◌, ◌++◌, map, refl, sym, ap, subst, ◌∙◌, arith, inl, inr, Option, None, Some}
use Rattle.std.specs.Prelude.{filter, find, flat_map, nat_lt, ◌||◌, ◌==◌}
use Rattle.std.proofs.lemmas.Bool.{cases_Bool, and_parts, not-true, or_left, or_right, or_cases, eqb-true, eq-eqb, ne_eqb, cond-true, cond-false, ltb-true, ltb-false, false≢true}
use Rattle.std.proofs.lemmas.List.Sums.{sum_by-cons}
use Rattle.label.specs.Labels.{on, is_distinct, others, generals}
use Rattle.label.proofs.Counting.{on-push}
use Rattle.label.proofs.Ranks.{eqb_sym}
use Rattle.lies.specs.Attempts.{IsIn}
use Rattle.lies.specs.Plans.{without, sender_of, may_cast, next_aims, attacks_by, attacks, all_votes, chosen, choices_of, selections, meets, cheaper, cheapest, plan}
use Rattle.lies.specs.PlannedMessages.{choice_in}
use Rattle.lies.specs.declared.aim.Aims.{Aims}
use Rattle.lies.specs.declared.choice.Choice.{Choice}
use Rattle.lies.specs.declared.choice.Vote.{Vote}
use Rattle.lies.specs.declared.sender.Sender.{Sender}
use Rattle.lies.proofs.Members.{in_map, in_filter, in_flat_map, from_map, from_filter, from_flat_map, FromMap, FromFlatMap}

some_same : {A : Type 0} → (x y : A) → Some x ≡ Some y → x ≡ y
some_same x y e = cc

-- Proves what a plan costs, choice by choice.
pub attacks_none : attacks [] ≡ 0
unfolding attacks
attacks_none = refl

pub attacks_cons : (z : Choice) (zs : List Choice) → attacks (z ∷ zs) ≡ z.attacks + attacks zs
unfolding attacks
attacks_cons z zs = sum_by-cons (λ (choice : Choice). choice.attacks) z zs

-- The cheaper of two plans, of which the second may be missing.
record Cheaper (p : List Choice) (rest : Option (List Choice)) : Type 0 where
  best : List Choice
  is : cheaper (Some p) rest ≡ Some best
  first : attacks best ≤ attacks p
  later : (q : List Choice) → rest ≡ Some q → attacks best ≤ attacks q

cheaper_is : (p : List Choice) (rest : Option (List Choice)) → Cheaper p rest
cheaper_is p None = record { best = p; is = refl; first = omega arith; later = λ q e. absurd (none q e) }
  where
    none : (q : List Choice) → None ≡ Some q → ⊥
    none q e = cc
cheaper_is p (Some q) = elim (cases_Bool (nat_lt (attacks q) (attacks p))) [
  | inl less ↦
      let l : attacks q < attacks p = ltb-true (attacks q) (attacks p) less in
      record {
        best = q;
        is = cond-true (nat_lt (attacks q) (attacks p)) (Some q) (Some p) less;
        first = omega arith;
        later = λ r e. let same : attacks q ≡ attacks r = ap attacks (some_same q r e) in omega arith;
      }
  | inr more ↦
      let l : attacks p ≤ attacks q = ltb-false (attacks q) (attacks p) more in
      record {
        best = p;
        is = cond-false (nat_lt (attacks q) (attacks p)) (Some q) (Some p) more;
        first = omega arith;
        later = λ r e. let same : attacks q ≡ attacks r = ap attacks (some_same q r e) in omega arith;
      }
]

-- Proves that the cheapest of some plans is one of them.
pub cheapest_in : (plans : List (List Choice)) (best : List Choice) → cheapest plans ≡ Some best → IsIn best plans
unfolding cheapest
cheapest_in [] best e = cc
cheapest_in (p ∷ ps) best e = pick p ps best (cheapest ps) (λ q h. cheapest_in ps q h) e
  where
    one : (p q : List Choice) (ps : List (List Choice)) (best : List Choice) → IsIn q ps → (b : Bool) → cond b (Some q) (Some p) ≡ Some best → IsIn best (p ∷ ps)
    one p q ps best i true e = inr (subst (λ r. IsIn r ps) (some_same q best e) i)
    one p q ps best i false e = inl (sym (some_same p best e))

    pick : (p : List Choice) (ps : List (List Choice)) (best : List Choice) (rest : Option (List Choice)) → ((q : List Choice) → rest ≡ Some q → IsIn q ps) → cheaper (Some p) rest ≡ Some best → IsIn best (p ∷ ps)
    pick p ps best None ih e = inl (sym (some_same p best e))
    pick p ps best (Some q) ih e = one p q ps best (ih q refl) (nat_lt (attacks q) (attacks p)) e

-- States that there is a cheapest plan, and that it costs at most this.
pub record Cheapest (plans : List (List Choice)) (limit : ℕ) : Type 0 where
  pub best : List Choice
  pub is : cheapest plans ≡ Some best
  pub least : attacks best ≤ limit

pub cheapest_least : (plans : List (List Choice)) (p : List Choice) → IsIn p plans → Cheapest plans (attacks p)
unfolding cheapest
cheapest_least [] p i = absurd i
cheapest_least (q ∷ qs) p (inl e) =
    let c : Cheaper q (cheapest qs) = cheaper_is q (cheapest qs) in
    let l = c.first in
    let same : attacks p ≡ attacks q = ap attacks e in
    record { best = c.best; is = c.is; least = omega arith }
cheapest_least (q ∷ qs) p (inr i) =
    let c : Cheaper q (cheapest qs) = cheaper_is q (cheapest qs) in
    let rest : Cheapest qs (attacks p) = cheapest_least qs p i in
    let l = c.later rest.best rest.is in
    let m = rest.least in
    record { best = c.best; is = c.is; least = omega arith }

-- States that the plan has one of the choices for each general.
abbrev pub AreChosen : List Choice → List ℕ → List Choice → Type 0
AreChosen choices [] [] = Unit {0}
AreChosen choices [] (z ∷ zs) = ⊥
AreChosen choices (j ∷ js) [] = ⊥
AreChosen choices (j ∷ js) (z ∷ zs) = IsIn z choices × (z.general ≡ j) × AreChosen choices js zs

pub selected : (choices : List Choice) (js : List ℕ) (zs : List Choice) → AreChosen choices js zs → IsIn zs (selections choices js)
unfolding selections
selected choices [] [] h = inl refl
selected choices [] (z ∷ zs) h = absurd h
selected choices (j ∷ js) [] h = absurd h
selected choices (j ∷ js) (z ∷ zs) h =
    in_flat_map (λ (choice : Choice). map (λ (rest : List Choice). choice ∷ rest) (selections choices js)) (z ∷ zs) z (filter (λ (choice : Choice). choice.general == j) choices)
    (in_filter (λ (choice : Choice). choice.general == j) z choices h.0 (eq-eqb z.general j h.1))
    (in_map (λ (rest : List Choice). z ∷ rest) zs (selections choices js) (selected choices js zs h.2))

pub selection : (choices : List Choice) (js : List ℕ) (zs : List Choice) → IsIn zs (selections choices js) → AreChosen choices js zs
unfolding selections
selection choices [] zs (inl e) = subst (AreChosen choices []) (sym e) tt
selection choices [] zs (inr i) = absurd i
selection choices (j ∷ js) zs i =
    let first : FromFlatMap (λ (choice : Choice). map (λ (rest : List Choice). choice ∷ rest) (selections choices js)) zs (filter (λ (choice : Choice). choice.general == j) choices) =
    from_flat_map (λ (choice : Choice). map (λ (rest : List Choice). choice ∷ rest) (selections choices js)) zs (filter (λ (choice : Choice). choice.general == j) choices) i
    in
    let z : Choice = first.source in
    let kept = from_filter (λ (choice : Choice). choice.general == j) z choices first.listed in
    let more : FromMap (λ (rest : List Choice). z ∷ rest) zs (selections choices js) = from_map (λ (rest : List Choice). z ∷ rest) zs (selections choices js) first.member in
    let whole : AreChosen choices (j ∷ js) (z ∷ more.source) = (kept.0, eqb-true z.general j kept.1, selection choices js more.source more.listed) in
    subst (AreChosen choices (j ∷ js)) (sym more.is) whole

pub chosen_all : (choices : List Choice) (js : List ℕ) (zs : List Choice) (z : Choice) → AreChosen choices js zs → IsIn z zs → IsIn z choices
chosen_all choices [] [] z h i = absurd i
chosen_all choices [] (y ∷ zs) z h i = absurd h
chosen_all choices (j ∷ js) [] z h i = absurd h
chosen_all choices (j ∷ js) (y ∷ zs) z h (inl e) = subst (λ v. IsIn v choices) (sym e) h.0
chosen_all choices (j ∷ js) (y ∷ zs) z h (inr i) = chosen_all choices js zs z h.2 i

-- Proves that what is found is in the list.
pub found_in : (zs : List Choice) (j : ℕ) (z : Choice) → choice_in (Some zs) j ≡ Some z → IsIn z zs
found_in [] j z e = cc
found_in (y ∷ zs) j z e = elim (cases_Bool (y.general == j)) [
  | inl here ↦ inl (sym (some_same y z (sym (cond-true (y.general == j) (Some y) (find (λ (choice : Choice). choice.general == j) zs) here) ∙ e)))
  | inr apart ↦ inr (found_in zs j z (sym (cond-false (y.general == j) (Some y) (find (λ (choice : Choice). choice.general == j) zs) apart) ∙ e))
]

-- The choice of a plan for one of its generals.
pub record ChoiceFor (choices : List Choice) (zs : List Choice) (j : ℕ) : Type 0 where
  pub choice : Choice
  pub found : choice_in (Some zs) j ≡ Some choice
  pub listed : IsIn choice choices
  pub own : choice.general ≡ j

pub choice_for : (choices : List Choice) (js : List ℕ) (zs : List Choice) (j : ℕ) → AreChosen choices js zs → on js j ≡ true → ChoiceFor choices zs j
choice_for choices [] zs j h i = absurd (false≢true i)
choice_for choices (g ∷ js) [] j h i = absurd h
choice_for choices (g ∷ js) (z ∷ zs) j h i = elim (cases_Bool (z.general == j)) [
  | inl here ↦ record {
    choice = z;
    found = cond-true (z.general == j) (Some z) (find (λ (choice : Choice). choice.general == j) zs) here;
    listed = h.0;
    own = eqb-true z.general j here;
  }
  | inr apart ↦
      let there : on js j ≡ true = elim (or_cases (g == j) (on js j) i) [
        | inl it ↦ absurd (false≢true (sym apart ∙ eq-eqb z.general j (h.1 ∙ eqb-true g j it)))
        | inr it ↦ it
      ]
      in
      let rest : ChoiceFor choices zs j = choice_for choices js zs j h.2 there in
      record {
        choice = rest.choice;
        found = cond-false (z.general == j) (Some z) (find (λ (choice : Choice). choice.general == j) zs) apart ∙ rest.found;
        listed = rest.listed;
        own = rest.own;
      }
]

-- Proves that the votes of a plan are a map of its generals.
pub votes_are : (choices : List Choice) (v : Choice → ℕ) (F : ℕ → ℕ) (js : List ℕ) (zs : List Choice) → AreChosen choices js zs → is_distinct js ≡ true
    → ((j : ℕ) (z : Choice) → on js j ≡ true → choice_in (Some zs) j ≡ Some z → v z ≡ F j) → map v zs ≡ map F js
votes_are choices v F [] [] h d says = refl
votes_are choices v F [] (z ∷ zs) h d says = absurd h
votes_are choices v F (g ∷ js) [] h d says = absurd h
votes_are choices v F (g ∷ js) (z ∷ zs) h d says =
    let both = and_parts (not (on js g)) (is_distinct js) d in
    let out : on js g ≡ false = not-true (on js g) both.0 in
    let here : v z ≡ F g = says g z (or_left (g == g) (on js g) (eq-eqb g g refl))
    (cond-true (z.general == g) (Some z) (find (λ (choice : Choice). choice.general == g) zs) (eq-eqb z.general g h.1))
    in
    let rest : map v zs ≡ map F js = votes_are choices v F js zs h.2 both.1
    (λ j y i e. says j y (or_right (g == j) (on js j) i)
    (cond-false (z.general == j) (Some z) (find (λ (choice : Choice). choice.general == j) zs)
    (ne_eqb z.general j (λ same. false≢true (sym out ∙ (ap (on js) (sym h.1 ∙ same) ∙ i))))
    ∙ e))
    in
    cc

-- States what is known of a choice for general j.
pub record IsChoice (below : Sender → Aims → Option (List Choice)) (s : Sender) (traitor : ℕ → Bool) (a : Aims) (j : ℕ) (z : Choice) : Type 0 where
  pub own : z.general ≡ j
  pub vote : IsIn z.vote all_votes
  pub cast : may_cast s traitor a j z.vote ≡ true
  pub later : List Choice
  pub possible : below (sender_of traitor j z.vote.taken) (next_aims a j z.vote) ≡ Some later
  pub cost : z.attacks ≡ attacks_by s z.vote.taken + attacks later

pub choice_is : (below : Sender → Aims → Option (List Choice)) (s : Sender) (traitor : ℕ → Bool) (a : Aims) (j : ℕ) (z : Choice) → IsIn z (choices_of below s traitor a j) → IsChoice below s traitor a j z
choice_is below s traitor a j z i =
    let from : FromFlatMap (λ (vote : Vote). cond (may_cast s traitor a j vote) (chosen s j vote (below (sender_of traitor j vote.taken) (next_aims a j vote))) []) z all_votes =
    from_flat_map (λ (vote : Vote). cond (may_cast s traitor a j vote) (chosen s j vote (below (sender_of traitor j vote.taken) (next_aims a j vote))) []) z all_votes i
    in
    cast_one below s traitor a j z from.source from.listed (may_cast s traitor a j from.source) refl (below (sender_of traitor j from.source.taken) (next_aims a j from.source)) refl from.member
  where
    cast_one : (below : Sender → Aims → Option (List Choice)) (s : Sender) (traitor : ℕ → Bool) (a : Aims) (j : ℕ) (z : Choice) (vote : Vote) → IsIn vote all_votes → (b : Bool) → may_cast s traitor a j vote ≡ b
        → (plans : Option (List Choice)) → below (sender_of traitor j vote.taken) (next_aims a j vote) ≡ plans → IsIn z (cond b (chosen s j vote plans) []) → IsChoice below s traitor a j z
    cast_one below s traitor a j z vote l false e plans p i = absurd i
    cast_one below s traitor a j z vote l true e None p i = absurd i
    cast_one below s traitor a j z vote l true e (Some plan) p (inr i) = absurd i
    cast_one below s traitor a j z vote l true e (Some plan) p (inl is) =
        subst (IsChoice below s traitor a j) (sym is) (record { own = refl; vote = l; cast = e; later = plan; possible = p; cost = refl })

-- Proves that a vote that j may cast and a plan for the label that he extends make a choice.
pub choice_made : (below : Sender → Aims → Option (List Choice)) (s : Sender) (traitor : ℕ → Bool) (a : Aims) (j : ℕ) (vote : Vote) (later : List Choice) → IsIn vote all_votes → may_cast s traitor a j vote ≡ true
    → below (sender_of traitor j vote.taken) (next_aims a j vote) ≡ Some later → IsIn (record { general = j; vote = vote; attacks = attacks_by s vote.taken + attacks later }) (choices_of below s traitor a j)
choice_made below s traitor a j vote later listed cast possible =
    in_flat_map (λ (v : Vote). cond (may_cast s traitor a j v) (chosen s j v (below (sender_of traitor j v.taken) (next_aims a j v))) [])
    (record { general = j; vote = vote; attacks = attacks_by s vote.taken + attacks later }) vote all_votes listed
    (made (may_cast s traitor a j vote) (below (sender_of traitor j vote.taken) (next_aims a j vote)) cast possible)
  where
    made : (b : Bool) (plans : Option (List Choice)) → b ≡ true → plans ≡ Some later → IsIn (record { general = j; vote = vote; attacks = attacks_by s vote.taken + attacks later }) (cond b (chosen s j vote plans) [])
    made b plans eb ep = rw (eb, ep) (inl refl)

-- Proves which generals are off the label that j extends.
kept : (w : List ℕ) (j : ℕ) (gs : List ℕ) → without (filter (λ g. not (on w g)) gs) j ≡ filter (λ g. not (on (w ++ j ∷ []) g)) gs
kept w j [] = refl
kept w j (g ∷ gs) =
    let F : List ℕ = filter (λ i. not (on (w ++ j ∷ []) i)) gs in
    let e : on (w ++ j ∷ []) g ≡ (on w g || g == j) = on-push w j g ∙ ap (λ b. on w g || b) (eqb_sym j g) in
    step (on w g) (g == j) g (filter (λ i. not (on w i)) gs) F j refl (kept w j gs) ∙ ap (λ (b : Bool). cond (not b) (g ∷ F) F) (sym e)
  where
    step : (b d : Bool) (g : ℕ) (xs ys : List ℕ) (j : ℕ) → (g == j) ≡ d → without xs j ≡ ys → without (cond (not b) (g ∷ xs) xs) j ≡ cond (not (b || d)) (g ∷ ys) ys
    step true d g xs ys j same e = e
    step false d g xs ys j same e = ap (λ (c : Bool). cond (not c) (g ∷ without xs j) (without xs j)) same ∙ ap (λ (zs : List ℕ). cond (not d) (g ∷ zs) zs) e

pub others_without : (n : ℕ) (w : List ℕ) (j : ℕ) → without (others n w) j ≡ others n (w ++ j ∷ [])
others_without n w j = kept w j (generals n)

-- States what a plan with a relay left consists of.
pub record IsPlan (f : List ℕ → ℕ) (traitor : ℕ → Bool) (k : ℕ) (gs : List ℕ) (s : Sender) (a : Aims) (zs : List Choice) : Type 0 where
  pub choices : AreChosen (flat_map (λ j. choices_of (λ t b. plan f traitor k (without gs j) t b) s traitor a j) gs) gs zs
  pub meeting : meets f a zs ≡ true

pub plan_is : (f : List ℕ → ℕ) (traitor : ℕ → Bool) (k : ℕ) (gs : List ℕ) (s : Sender) (a : Aims) (zs : List Choice) → plan f traitor (suc k) gs s a ≡ Some zs → IsPlan f traitor k gs s a zs
unfolding plan
plan_is f traitor k gs s a zs e =
    let all : List Choice = flat_map (λ j. choices_of (λ t b. plan f traitor k (without gs j) t b) s traitor a j) gs in
    let kept = from_filter (meets f a) zs (selections all gs) (cheapest_in (filter (meets f a) (selections all gs)) zs e) in
    record { choices = selection all gs zs kept.0; meeting = kept.1 }

-- A plan that costs at most this.
pub record PlanWithin (f : List ℕ → ℕ) (traitor : ℕ → Bool) (k : ℕ) (gs : List ℕ) (s : Sender) (a : Aims) (limit : ℕ) : Type 0 where
  pub choices : List Choice
  pub is : plan f traitor k gs s a ≡ Some choices
  pub least : attacks choices ≤ limit

pub plan_within : (f : List ℕ → ℕ) (traitor : ℕ → Bool) (k : ℕ) (gs : List ℕ) (s : Sender) (a : Aims) (zs : List Choice)
    → AreChosen (flat_map (λ j. choices_of (λ t b. plan f traitor k (without gs j) t b) s traitor a j) gs) gs zs → meets f a zs ≡ true → PlanWithin f traitor (suc k) gs s a (attacks zs)
unfolding plan
plan_within f traitor k gs s a zs h met =
    let all : List Choice = flat_map (λ j. choices_of (λ t b. plan f traitor k (without gs j) t b) s traitor a j) gs in
    let c : Cheapest (filter (meets f a) (selections all gs)) (attacks zs) =
    cheapest_least (filter (meets f a) (selections all gs)) zs (in_filter (meets f a) zs (selections all gs) (selected all gs zs h) met)
    in
    record { choices = c.best; is = c.is; least = c.least }
