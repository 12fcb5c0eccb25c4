-- Whatever traitors say with the orders 0 and 1, there is a plan for the decisions that their messages lead to, and it needs no more orders other than RETREAT.
use Rattle.std.proofs.Common.{ℕ, zero, suc, ◌+◌, ◌<◌, ◌≤◌, ◌≡◌, Bool, true, false, not, cond, List, [], ◌∷◌, ◌++◌, map, length, refl, sym, ap, ◌∙◌, arith, inl, inr, Option, None, Some, length-append}
use Rattle.std.specs.Prelude.{◌&&◌, ◌||◌, ◌==◌, ◌⊎◌, flat_map, sum_by, count_by}
use Rattle.std.proofs.lemmas.Bool.{cases_Bool, and_from, eqb-true, eq-eqb, cond-true, cond-false}
use Rattle.std.proofs.lemmas.List.Sums.{sum_by-cons}
use Rattle.label.specs.Labels.{on, others}
use Rattle.label.specs.Oral.{AllBelow, IsLabel, taken, om, order_of, IsFaithful}
use Rattle.label.proofs.Counting.{others-on}
use Rattle.label.proofs.Pushes.{IsLabel-push, heard-push}
use Rattle.lies.specs.Attempts.{IsIn}
use Rattle.lies.specs.Break.{attacks_at, attacks_from}
use Rattle.lies.specs.Plans.{without, sender_of, may_take, may_vote, may_cast, next_aim, next_aims, attacks, attacks_by, all_votes, vote_of, choices_of, is_met, meets, aimed_or, last_taken, is_taken, last_choice, last_plan, plan}
use Rattle.lies.specs.declared.aim.Aim.{Aim}
use Rattle.lies.specs.declared.aim.Aims.{Aims}
use Rattle.lies.specs.declared.choice.Choice.{Choice}
use Rattle.lies.specs.declared.choice.Vote.{Vote}
use Rattle.lies.specs.declared.sender.Sender.{Sender}
use Rattle.lies.specs.declared.sender.Sender.TheVariants.{Loyal, Traitor}
use Rattle.lies.proofs.Members.{on_in, in_on, in_flat_map}
use Rattle.lies.proofs.PlanLemmas.{AreChosen, attacks_none, attacks_cons, choice_made, others_without, PlanWithin, plan_within}
use Rattle.lies.proofs.Aims.{Setting, IsReceiver, IsAimed, Decides, entry, om_step, om_last, aimed_push, entry_votes}

-- States that everyone takes 0 or 1, the rule keeps to these orders, and the loyal generals are faithful.
pub record Played (x : Setting) (c m order : ℕ) : Type 0 where
  pub two : (w : List ℕ) (p : ℕ) → taken x.M w p < 2
  pub rule : (xs : List ℕ) → AllBelow 2 xs → x.f xs < 2
  pub faithful : (g : ℕ) → g < x.n → x.traitor g ≡ false → IsFaithful x.n c m order x.M g

-- States what the last general g of a label sends about it, as a sender.
abbrev pub Sends : Setting → List ℕ → ℕ → Sender → Type 0
Sends x w g (Loyal v) = (v < 2) × ((p : ℕ) → IsReceiver x w p → taken x.M w p ≡ v)
Sends x w g Traitor = x.traitor g ≡ true

-- States that u and then g is a label with k relays left, and that g sends like this.
pub record At (x : Setting) (c m k : ℕ) (u : List ℕ) (g : ℕ) (s : Sender) : Type 0 where
  pub label : IsLabel x.n c (u ++ g ∷ [])
  pub time : length u + k ≤ m
  pub sends : Sends x (u ++ g ∷ []) g s

-- Proves that decisions are 0 or 1.
small_cond : (b : Bool) (y z : ℕ) → y < 2 → z < 2 → cond b y z < 2
small_cond true y z l h = l
small_cond false y z l h = h

small_map : (F : ℕ → ℕ) → ((j : ℕ) → F j < 2) → (js : List ℕ) → AllBelow 2 (map F js)
small_map F l [] = tt
small_map F l (j ∷ js) = (l j, small_map F l js)

pub om_small : (x : Setting) (c m order : ℕ) → Played x c m order → (k : ℕ) (w : List ℕ) (p : ℕ) → om x.f x.n x.M k w p < 2
om_small x c m order y zero w p = rw (om_last x w p) (y.two w p)
om_small x c m order y (suc k) w p =
    rw (om_step x k w p)
    (y.rule (map (entry x k w p) (others x.n w))
    (small_map (entry x k w p) (λ j. small_cond (j == p) (taken x.M w p) (om x.f x.n x.M k (w ++ j ∷ []) p) (y.two w p) (om_small x c m order y k (w ++ j ∷ []) p)) (others x.n w)))

entry_small : (x : Setting) (c m order : ℕ) → Played x c m order → (k : ℕ) (w : List ℕ) (p j : ℕ) → entry x k w p j < 2
entry_small x c m order y k w p j = small_cond (j == p) (taken x.M w p) (om x.f x.n x.M k (w ++ j ∷ []) p) (y.two w p) (om_small x c m order y k (w ++ j ∷ []) p)

-- Proves that each vote of 0 and 1 is listed.
pub below_two : (t : ℕ) → t < 2 → (t ≡ 0) ⊎ (t ≡ 1)
below_two zero l = inl refl
below_two (suc zero) l = inr refl
below_two (suc (suc t)) l = absurd (omega arith)

listed_vote : (t a b : ℕ) → (t ≡ 0) ⊎ (t ≡ 1) → (a ≡ 0) ⊎ (a ≡ 1) → (b ≡ 0) ⊎ (b ≡ 1) → IsIn (vote_of t a b) all_votes
unfolding all_votes
listed_vote t a b (inl et) (inl ea) (inl eb) = inl (λ i. vote_of (et i) (ea i) (eb i))
listed_vote t a b (inl et) (inl ea) (inr eb) = inr (inl (λ i. vote_of (et i) (ea i) (eb i)))
listed_vote t a b (inl et) (inr ea) (inl eb) = inr (inr (inl (λ i. vote_of (et i) (ea i) (eb i))))
listed_vote t a b (inl et) (inr ea) (inr eb) = inr (inr (inr (inl (λ i. vote_of (et i) (ea i) (eb i)))))
listed_vote t a b (inr et) (inl ea) (inl eb) = inr (inr (inr (inr (inl (λ i. vote_of (et i) (ea i) (eb i))))))
listed_vote t a b (inr et) (inl ea) (inr eb) = inr (inr (inr (inr (inr (inl (λ i. vote_of (et i) (ea i) (eb i)))))))
listed_vote t a b (inr et) (inr ea) (inl eb) = inr (inr (inr (inr (inr (inr (inl (λ i. vote_of (et i) (ea i) (eb i))))))))
listed_vote t a b (inr et) (inr ea) (inr eb) = inr (inr (inr (inr (inr (inr (inr (inl (λ i. vote_of (et i) (ea i) (eb i)))))))))

vote_listed : (t a b : ℕ) → t < 2 → a < 2 → b < 2 → IsIn (vote_of t a b) all_votes
vote_listed t a b lt la lb = listed_vote t a b (below_two t lt) (below_two a la) (below_two b lb)

-- Returns the order that j takes in the plan.
abbrev took : Setting → List ℕ → Sender → ℕ → ℕ
took x w (Loyal v) j = v
took x w Traitor j = cond (x.traitor j) 0 (taken x.M w j)

-- Returns the vote of j in the list of the lieutenant aimed at.
abbrev voted : Setting → ℕ → List ℕ → Option Aim → ℕ → ℕ
voted x k w None j = 0
voted x k w (Some aim) j = entry x k w aim.general j

took_small : (x : Setting) (c m order : ℕ) → Played x c m order → (w : List ℕ) (g : ℕ) (s : Sender) (j : ℕ) → Sends x w g s → took x w s j < 2
took_small x c m order y w g (Loyal v) j h = h.0
took_small x c m order y w g Traitor j h = small_cond (x.traitor j) 0 (taken x.M w j) (omega arith) (y.two w j)

voted_small : (x : Setting) (c m order : ℕ) → Played x c m order → (k : ℕ) (w : List ℕ) (o : Option Aim) (j : ℕ) → voted x k w o j < 2
voted_small x c m order y k w None j = omega arith
voted_small x c m order y k w (Some aim) j = entry_small x c m order y k w aim.general j

-- Proves that a loyal general takes this order from the messages.
took_truly : (x : Setting) (w : List ℕ) (g : ℕ) (s : Sender) (p : ℕ) → Sends x w g s → IsReceiver x w p → taken x.M w p ≡ took x w s p
took_truly x w g (Loyal v) p h r = h.1 p r
took_truly x w g Traitor p h r = sym (cond-false (x.traitor p) 0 (taken x.M w p) r.loyal)

took_may : (x : Setting) (w : List ℕ) (s : Sender) (j : ℕ) → may_take s (x.traitor j) (took x w s j) ≡ true
took_may x w (Loyal v) j = eq-eqb v v refl
took_may x w Traitor j = may (x.traitor j) (taken x.M w j)
  where
    may : (b : Bool) (t : ℕ) → (not b || cond b 0 t == 0) ≡ true
    may true t = refl
    may false t = refl

-- Proves that j may cast this vote, and that the aim for the label that he extends is decided.
voted_may : (x : Setting) (k : ℕ) (w : List ℕ) (g : ℕ) (s : Sender) (o : Option Aim) (j : ℕ) → Sends x w g s → IsAimed x w o
    → (may_vote o j (took x w s j) (voted x k w o j) ≡ true) × Decides x k (w ++ j ∷ []) (next_aim o j (voted x k w o j))
voted_may x k w g s None j h r = (refl, tt)
voted_may x k w g s (Some aim) j h r =
    entry_votes x k w aim j (took x w s j) (λ e. took_truly x w g s aim.general h r ∙ ap (took x w s) (sym e))

-- Proves what holds of the label that j extends.
at_push : (x : Setting) (c m order k : ℕ) → Played x c m order → (u : List ℕ) (g : ℕ) (s : Sender) (j : ℕ) → At x c m (suc k) u g s → j < x.n → on (u ++ g ∷ []) j ≡ false → At x c m k (u ++ g ∷ []) j (sender_of x.traitor j (took x (u ++ g ∷ []) s j))
at_push x c m order k y u g s j a l o = record {
  label = IsLabel-push a.label j l o;
  time = let t = a.time in omega (arith, length-append u (g ∷ []));
  sends = sent (x.traitor j) refl;
}
  where
    passed : (p : ℕ) → x.traitor j ≡ false → IsReceiver x ((u ++ g ∷ []) ++ j ∷ []) p → taken x.M ((u ++ g ∷ []) ++ j ∷ []) p ≡ took x (u ++ g ∷ []) s j
    passed p loyal r =
        ap order_of (y.faithful j l loyal (u ++ g ∷ []) p (IsLabel-push a.label j l o) (let t = a.time in omega (arith, length-append u (g ∷ []))) r.within r.off)
        ∙ (heard-push x.M order u g j ∙ took_truly x (u ++ g ∷ []) g s j a.sends (record { within = l; loyal = loyal; off = o }))

    sent : (b : Bool) → x.traitor j ≡ b → Sends x ((u ++ g ∷ []) ++ j ∷ []) j (cond b Traitor (Loyal (took x (u ++ g ∷ []) s j)))
    sent true e = e
    sent false e = (took_small x c m order y (u ++ g ∷ []) g s j a.sends, λ p r. passed p e r)

-- Choices, one for each of these generals, with the votes F and G and at most this cost.
record Built (flat : List Choice) (F G cost : ℕ → ℕ) (js : List ℕ) : Type 0 where
  choices : List Choice
  chosen : AreChosen flat js choices
  first : map (λ (z : Choice). z.vote.first) choices ≡ map F js
  second : map (λ (z : Choice). z.vote.second) choices ≡ map G js
  cheap : attacks choices ≤ sum_by cost js

-- A choice for general j, with the votes F j and G j and at most this cost.
record One (flat : List Choice) (F G cost : ℕ → ℕ) (j : ℕ) : Type 0 where
  choice : Choice
  listed : IsIn choice flat
  own : choice.general ≡ j
  first : choice.vote.first ≡ F j
  second : choice.vote.second ≡ G j
  cheap : choice.attacks ≤ cost j

built : (flat : List Choice) (F G cost : ℕ → ℕ) (js : List ℕ) → ((j : ℕ) → on js j ≡ true → One flat F G cost j) → Built flat F G cost js
built flat F G cost [] each = record { choices = []; chosen = tt; first = refl; second = refl; cheap = rw attacks_none (omega arith) }
built flat F G cost (j ∷ js) each =
    let one : One flat F G cost j = each j (on_in (j ∷ js) j (inl refl)) in
    let rest : Built flat F G cost js = built flat F G cost js (λ i h. each i (on_in (j ∷ js) i (inr (in_on js i h)))) in
    let c = one.cheap in
    let d = rest.cheap in
    let e = one.first in
    let h = one.second in
    let i = rest.first in
    let k = rest.second in
    record {
      choices = one.choice ∷ rest.choices;
      chosen = (one.listed, one.own, rest.chosen);
      first = cc;
      second = cc;
      cheap = rw (attacks_cons one.choice rest.choices, sum_by-cons cost j js) (omega arith);
    }

-- Proves that a sum is at most another if each element is.
sum_more : (F G : ℕ → ℕ) (js : List ℕ) → ((j : ℕ) → on js j ≡ true → F j ≤ G j) → sum_by F js ≤ sum_by G js
sum_more F G [] each = omega arith
sum_more F G (j ∷ js) each =
    let here = each j (on_in (j ∷ js) j (inl refl)) in
    let rest = sum_more F G js (λ i h. each i (on_in (j ∷ js) i (inr (in_on js i h)))) in
    rw (sum_by-cons F j js, sum_by-cons G j js) (omega arith)

sum_both : (F G : ℕ → ℕ) (js : List ℕ) → sum_by (λ j. F j + G j) js ≡ sum_by F js + sum_by G js
sum_both F G [] = omega arith
sum_both F G (j ∷ js) = let ih = sum_both F G js in rw (sum_by-cons (λ i. F i + G i) j js, sum_by-cons F j js, sum_by-cons G j js) (omega arith)

sum_zero : (js : List ℕ) → sum_by (λ _. 0) js ≡ 0
sum_zero [] = refl
sum_zero (j ∷ js) = let ih = sum_zero js in rw (sum_by-cons (λ _. 0) j js) (omega arith)

one_of : (b : Bool) → cond {A = ℕ} b 0 1 ≤ cond (not b) 1 0
one_of true = omega arith
one_of false = omega arith

-- Proves that the last general of the label sends at least as many orders as the plan has him send.
own_attacks : (x : Setting) (w : List ℕ) (g : ℕ) (s : Sender) → Sends x w g s → sum_by (λ j. attacks_by s (took x w s j)) (others x.n w) ≤ attacks_at x.n x.traitor x.M w g
own_attacks x w g (Loyal v) h = rw (sum_zero (others x.n w)) (omega arith)
own_attacks x w g Traitor h =
    rw (cond-true (x.traitor g) (count_by (λ p. not (x.traitor p) && not (taken x.M w p == 0)) (others x.n w)) 0 h)
    (sum_more (λ j. attacks_by Traitor (took x w Traitor j)) (λ p. cond (not (x.traitor p) && not (taken x.M w p == 0)) 1 0) (others x.n w) (λ j i. same (x.traitor j) (taken x.M w j)))
  where
    same : (b : Bool) (t : ℕ) → cond {A = ℕ} (cond b 0 t == 0) 0 1 ≤ cond (not b && not (t == 0)) 1 0
    same true t = omega arith
    same false t = one_of (t == 0)

attacks_step : (x : Setting) (k : ℕ) (w : List ℕ) (g : ℕ) → attacks_from x.n x.traitor x.M (suc k) w g ≡ attacks_at x.n x.traitor x.M w g + sum_by (λ j. attacks_from x.n x.traitor x.M k (w ++ j ∷ []) j) (others x.n w)
unfolding attacks_from
attacks_step x k w g = refl

attacks_last : (x : Setting) (w : List ℕ) (g : ℕ) → attacks_from x.n x.traitor x.M zero w g ≡ attacks_at x.n x.traitor x.M w g
unfolding attacks_from
attacks_last x w g = refl

met : (x : Setting) (k : ℕ) (w : List ℕ) (o : Option Aim) (votes : List ℕ) → Decides x (suc k) w o → votes ≡ map (voted x k w o) (others x.n w) → is_met x.f o votes ≡ true
met x k w None votes d e = refl
met x k w (Some aim) votes d e = eq-eqb (x.f votes) aim.order (ap x.f e ∙ (sym (om_step x k w aim.general) ∙ d))

meets_from : (f : List ℕ → ℕ) (a : Aims) (zs : List Choice) → is_met f a.first (map (λ (z : Choice). z.vote.first) zs) ≡ true → is_met f a.second (map (λ (z : Choice). z.vote.second) zs) ≡ true → meets f a zs ≡ true
unfolding meets
meets_from f a zs e h = and_from (is_met f a.first (map (λ (z : Choice). z.vote.first) zs)) (is_met f a.second (map (λ (z : Choice). z.vote.second) zs)) e h

-- Proves what a loyal general takes with no relays left.
last_met : (x : Setting) (w : List ℕ) (g : ℕ) (s : Sender) (a : Aims) → Sends x w g s → IsAimed x w a.first → IsAimed x w a.second → Decides x zero w a.first → Decides x zero w a.second → (is_taken s a a.first ≡ true) × (is_taken s a a.second ≡ true)
last_met x w g s a h r t d e = (one s h a.first refl r d, two s h a.second refl t e)
  where
    -- An order that an aim at p asks for is the order that p took.
    aimed_taken : (o : Option Aim) (p other : ℕ) → Decides x zero w o → other ≡ taken x.M w p → aimed_or o p other ≡ taken x.M w p
    aimed_taken None p other d e = e
    aimed_taken (Some aim) p other d e = elim (cases_Bool (aim.general == p)) [
      | inl here ↦ cond-true (aim.general == p) aim.order other here ∙ (sym d ∙ (om_last x w aim.general ∙ ap (taken x.M w) (eqb-true aim.general p here)))
      | inr apart ↦ cond-false (aim.general == p) aim.order other apart ∙ e
    ]

    one : (s' : Sender) → Sends x w g s' → (o : Option Aim) → a.first ≡ o → IsAimed x w o → Decides x zero w o → is_taken s' a o ≡ true
    one s' h' None eo r' d' = refl
    one (Loyal v) h' (Some aim) eo r' d' = eq-eqb v aim.order (sym (h'.1 aim.general r') ∙ (sym (om_last x w aim.general) ∙ d'))
    one Traitor h' (Some aim) eo r' d' =
        eq-eqb (last_taken Traitor a aim.general) aim.order
        (ap (λ (q : Option Aim). aimed_or q aim.general (aimed_or a.second aim.general 0)) eo
        ∙ cond-true (aim.general == aim.general) aim.order (aimed_or a.second aim.general 0) (eq-eqb aim.general aim.general refl))

    two : (s' : Sender) → Sends x w g s' → (o : Option Aim) → a.second ≡ o → IsAimed x w o → Decides x zero w o → is_taken s' a o ≡ true
    two s' h' None eo r' d' = refl
    two (Loyal v) h' (Some aim) eo r' d' = eq-eqb v aim.order (sym (h'.1 aim.general r') ∙ (sym (om_last x w aim.general) ∙ d'))
    two Traitor h' (Some aim) eo r' d' =
        let own : aimed_or a.second aim.general 0 ≡ taken x.M w aim.general =
        ap (λ (q : Option Aim). aimed_or q aim.general 0) eo
        ∙ (cond-true (aim.general == aim.general) aim.order 0 (eq-eqb aim.general aim.general refl) ∙ (sym d' ∙ om_last x w aim.general))
        in
        eq-eqb (last_taken Traitor a aim.general) aim.order
        (aimed_taken a.first aim.general (aimed_or a.second aim.general 0) d own ∙ (sym (om_last x w aim.general) ∙ d'))

-- Proves that with no relays left the plan has at most the orders of the messages.
last_attacks : (x : Setting) (w : List ℕ) (g : ℕ) (s : Sender) (a : Aims) → Sends x w g s → IsAimed x w a.first → IsAimed x w a.second → Decides x zero w a.first → Decides x zero w a.second
    → attacks (map (last_choice s a) (others x.n w)) ≤ attacks_at x.n x.traitor x.M w g
last_attacks x w g (Loyal v) a h r t d e = rw (none (others x.n w)) (omega arith)
  where
    none : (gs : List ℕ) → attacks (map (last_choice (Loyal v) a) gs) ≡ 0
    none [] = attacks_none
    none (j ∷ gs) = let ih = none gs in rw (attacks_cons (last_choice (Loyal v) a j) (map (last_choice (Loyal v) a) gs)) (omega arith)
last_attacks x w g Traitor a h r t d e =
    rw (cond-true (x.traitor g) (count_by (λ p. not (x.traitor p) && not (taken x.M w p == 0)) (others x.n w)) 0 h) (some (others x.n w))
  where
    -- An order that an aim asks for is one that a loyal general took.
    asked : (o : Option Aim) (p other : ℕ) → IsAimed x w o → Decides x zero w o → cond {A = ℕ} (other == 0) 0 1 ≤ cond (not (x.traitor p) && not (taken x.M w p == 0)) 1 0
        → cond {A = ℕ} (aimed_or o p other == 0) 0 1 ≤ cond (not (x.traitor p) && not (taken x.M w p == 0)) 1 0
    asked None p other r' d' l = l
    asked (Some aim) p other r' d' l = elim (cases_Bool (aim.general == p)) [
      | inl here ↦
          let it : aim.general ≡ p = eqb-true aim.general p here in
          let loyal : x.traitor p ≡ false = ap x.traitor (sym it) ∙ r'.loyal in
          let is : aimed_or (Some aim) p other ≡ taken x.M w p = cond-true (aim.general == p) aim.order other here ∙ (sym d' ∙ (om_last x w aim.general ∙ ap (taken x.M w) it)) in
          rw (is, loyal) (one_of (taken x.M w p == 0))
      | inr apart ↦ rw (cond-false (aim.general == p) aim.order other apart) l
    ]

    nothing : (b : Bool) → cond {A = ℕ} (0 == 0) 0 1 ≤ cond b 1 0
    nothing true = omega arith
    nothing false = omega arith

    some : (gs : List ℕ) → attacks (map (last_choice Traitor a) gs) ≤ count_by (λ p. not (x.traitor p) && not (taken x.M w p == 0)) gs
    some [] = rw attacks_none (omega arith)
    some (j ∷ gs) =
        let ih = some gs in
        let here = asked a.first j (aimed_or a.second j 0) r d (asked a.second j 0 t e (nothing (not (x.traitor j) && not (taken x.M w j == 0)))) in
        rw (attacks_cons (last_choice Traitor a j) (map (last_choice Traitor a) gs), sum_by-cons (λ p. cond (not (x.traitor p) && not (taken x.M w p == 0)) 1 0) j gs) (omega arith)

plan_zero : (f : List ℕ → ℕ) (traitor : ℕ → Bool) (gs : List ℕ) (s : Sender) (a : Aims) → is_taken s a a.first ≡ true → is_taken s a a.second ≡ true → plan f traitor zero gs s a ≡ Some (map (last_choice s a) gs)
unfolding plan last_plan
plan_zero f traitor gs s a e h =
    cond-true (is_taken s a a.first && is_taken s a a.second) (Some (map (last_choice s a) gs)) None (and_from (is_taken s a a.first) (is_taken s a a.second) e h)

-- Proves that there is a choice for general j if there is a plan for the label that he extends.
one_choice : (x : Setting) (c m order : ℕ) → Played x c m order → (k : ℕ) (w : List ℕ) (g : ℕ) (s : Sender) (a : Aims) → Sends x w g s → IsAimed x w a.first → IsAimed x w a.second → (j : ℕ) → on (others x.n w) j ≡ true
    → PlanWithin x.f x.traitor k (others x.n (w ++ j ∷ [])) (sender_of x.traitor j (took x w s j)) (next_aims a j (vote_of (took x w s j) (voted x k w a.first j) (voted x k w a.second j))) (attacks_from x.n x.traitor x.M k (w ++ j ∷ []) j)
    → One (flat_map (λ i. choices_of (λ q b. plan x.f x.traitor k (without (others x.n w) i) q b) s x.traitor a i) (others x.n w)) (voted x k w a.first) (voted x k w a.second)
    (λ i. attacks_by s (took x w s i) + attacks_from x.n x.traitor x.M k (w ++ i ∷ []) i) j
one_choice x c m order y k w g s a h r t j i below =
    let vote : Vote = vote_of (took x w s j) (voted x k w a.first j) (voted x k w a.second j) in
    let first = voted_may x k w g s a.first j h r in
    let second = voted_may x k w g s a.second j h t in
    let l = below.least in
    let possible : plan x.f x.traitor k (without (others x.n w) j) (sender_of x.traitor j (took x w s j)) (next_aims a j vote) ≡ Some below.choices =
    ap (λ (v : List ℕ). plan x.f x.traitor k v (sender_of x.traitor j (took x w s j)) (next_aims a j vote)) (others_without x.n w j) ∙ below.is
    in
    let cast : may_cast s x.traitor a j vote ≡ true =
    and_from (may_take s (x.traitor j) (took x w s j) && may_vote a.first j (took x w s j) (voted x k w a.first j)) (may_vote a.second j (took x w s j) (voted x k w a.second j))
    (and_from (may_take s (x.traitor j) (took x w s j)) (may_vote a.first j (took x w s j) (voted x k w a.first j)) (took_may x w s j) first.0) second.0
    in
    record {
      choice = record { general = j; vote = vote; attacks = attacks_by s (took x w s j) + attacks below.choices };
      listed = in_flat_map (λ i. choices_of (λ q b. plan x.f x.traitor k (without (others x.n w) i) q b) s x.traitor a i)
          (record { general = j; vote = vote; attacks = attacks_by s (took x w s j) + attacks below.choices }) j (others x.n w) (in_on (others x.n w) j i)
          (choice_made (λ q b. plan x.f x.traitor k (without (others x.n w) j) q b) s x.traitor a j vote below.choices
          (vote_listed (took x w s j) (voted x k w a.first j) (voted x k w a.second j) (took_small x c m order y w g s j h) (voted_small x c m order y k w a.first j) (voted_small x c m order y k w a.second j)) cast possible);
      own = refl;
      first = refl;
      second = refl;
      cheap = omega arith;
    }

-- Proves that there is a plan for the decisions to which messages lead, and that it costs no more than the messages.
pub complete : (x : Setting) (c m order : ℕ) → Played x c m order → (k : ℕ) (u : List ℕ) (g : ℕ) (s : Sender) (a : Aims) → At x c m k u g s → IsAimed x (u ++ g ∷ []) a.first → IsAimed x (u ++ g ∷ []) a.second
    → Decides x k (u ++ g ∷ []) a.first → Decides x k (u ++ g ∷ []) a.second → PlanWithin x.f x.traitor k (others x.n (u ++ g ∷ [])) s a (attacks_from x.n x.traitor x.M k (u ++ g ∷ []) g)
complete x c m order y zero u g s a h r t d e =
    let both = last_met x (u ++ g ∷ []) g s a h.sends r t d e in
    let few : attacks (map (last_choice s a) (others x.n (u ++ g ∷ []))) ≤ attacks_at x.n x.traitor x.M (u ++ g ∷ []) g = last_attacks x (u ++ g ∷ []) g s a h.sends r t d e in
    record {
      choices = map (last_choice s a) (others x.n (u ++ g ∷ []));
      is = plan_zero x.f x.traitor (others x.n (u ++ g ∷ [])) s a both.0 both.1;
      least = rw (attacks_last x (u ++ g ∷ []) g) few;
    }
complete x c m order y (suc k) u g s a h r t d e =
    let w : List ℕ = u ++ g ∷ [] in
    let flat : List Choice = flat_map (λ j. choices_of (λ q b. plan x.f x.traitor k (without (others x.n (u ++ g ∷ [])) j) q b) s x.traitor a j) (others x.n (u ++ g ∷ [])) in
    let cost : ℕ → ℕ = λ j. attacks_by s (took x (u ++ g ∷ []) s j) + attacks_from x.n x.traitor x.M k ((u ++ g ∷ []) ++ j ∷ []) j in
    let b : Built flat (voted x k (u ++ g ∷ []) a.first) (voted x k (u ++ g ∷ []) a.second) cost (others x.n (u ++ g ∷ [])) =
    built flat (voted x k (u ++ g ∷ []) a.first) (voted x k (u ++ g ∷ []) a.second) cost (others x.n (u ++ g ∷ []))
    (λ j i.
    let there = others-on x.n (u ++ g ∷ []) j i in
    let first = voted_may x k (u ++ g ∷ []) g s a.first j h.sends r in
    let second = voted_may x k (u ++ g ∷ []) g s a.second j h.sends t in
    one_choice x c m order y k (u ++ g ∷ []) g s a h.sends r t j i
    (complete x c m order y k (u ++ g ∷ []) j (sender_of x.traitor j (took x (u ++ g ∷ []) s j))
    (next_aims a j (vote_of (took x (u ++ g ∷ []) s j) (voted x k (u ++ g ∷ []) a.first j) (voted x k (u ++ g ∷ []) a.second j)))
    (at_push x c m order k y u g s j h there.0 there.1)
    (aimed_push x (u ++ g ∷ []) j (voted x k (u ++ g ∷ []) a.first j) a.first r) (aimed_push x (u ++ g ∷ []) j (voted x k (u ++ g ∷ []) a.second j) a.second t) first.1 second.1))
    in
    let p : PlanWithin x.f x.traitor (suc k) (others x.n (u ++ g ∷ [])) s a (attacks b.choices) =
    plan_within x.f x.traitor k (others x.n (u ++ g ∷ [])) s a b.choices b.chosen
    (meets_from x.f a b.choices
    (met x k (u ++ g ∷ []) a.first (map (λ (z : Choice). z.vote.first) b.choices) d b.first)
    (met x k (u ++ g ∷ []) a.second (map (λ (z : Choice). z.vote.second) b.choices) e b.second))
    in
    let l = p.least in
    let few = b.cheap in
    let own = own_attacks x (u ++ g ∷ []) g s h.sends in
    let sums = sum_both (λ j. attacks_by s (took x (u ++ g ∷ []) s j)) (λ j. attacks_from x.n x.traitor x.M k ((u ++ g ∷ []) ++ j ∷ []) j) (others x.n (u ++ g ∷ [])) in
    record { choices = p.choices; is = p.is; least = rw (attacks_step x k (u ++ g ∷ []) g) (omega arith) }
