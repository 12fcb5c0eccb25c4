-- The messages of a plan lead to its aims, and loyal generals are faithful in them.
use Rattle.std.proofs.Common.{ℕ, zero, suc, ◌+◌, ◌<◌, ◌≡◌, Bool, true, false, not, cond, List, [], ◌∷◌, ◌++◌, map, length, refl, sym, ap, subst, ◌∙◌, arith, inl, inr, Option, None, Some, append_assoc}
use Rattle.std.specs.Prelude.{◌&&◌, ◌||◌, ◌==◌, flat_map}
use Rattle.std.proofs.lemmas.Bool.{cases_Bool, and_parts, or_from, not-true, eqb-true, ne_eqb, cond-true, cond-false, false≢true}
use Rattle.std.proofs.lemmas.List.{append-nil}
use Rattle.label.specs.Labels.{on, is_distinct, others}
use Rattle.label.specs.Oral.{AllBelow, taken, order_of}
use Rattle.label.proofs.Counting.{on-push, others-distinct}
use Rattle.label.proofs.Counts.{among}
use Rattle.lies.specs.Plans.{without, sender_of, may_take, may_vote, may_cast, next_aim, next_aims, attacks, attacks_by, choices_of, is_met, meets, last_taken, is_taken, last_choice, last_plan, plan}
use Rattle.lies.specs.PlannedMessages.{choice_in, message_of, received, after, message}
use Rattle.lies.specs.declared.aim.Aim.{Aim}
use Rattle.lies.specs.declared.aim.Aims.{Aims}
use Rattle.lies.specs.declared.choice.Choice.{Choice}
use Rattle.lies.specs.declared.choice.Vote.{Vote}
use Rattle.lies.specs.declared.sender.Sender.{Sender}
use Rattle.lies.specs.declared.sender.Sender.TheVariants.{Loyal, Traitor}
use Rattle.lies.proofs.Members.{on_in, in_on, from_flat_map, FromFlatMap}
use Rattle.lies.proofs.PlanLemmas.{ChoiceFor, choice_for, votes_are, IsChoice, choice_is, others_without, IsPlan, plan_is}
use Rattle.lies.proofs.Aims.{Setting, IsAimed, Decides, entry, om_step, om_last, aimed_push, entry_is}

-- States that the messages about the label w and the longer ones that begin with it are those of a plan.
pub record Follows (x : Setting) (k : ℕ) (w : List ℕ) (s : Sender) (a : Aims) : Type 0 where
  pub same : (u : List ℕ) (g : ℕ) → x.M (w ++ u) g ≡ message x.f x.traitor k (others x.n w) s a u g
  pub choices : List Choice
  pub possible : plan x.f x.traitor k (others x.n w) s a ≡ Some choices

pub message_nil : (f : List ℕ → ℕ) (traitor : ℕ → Bool) (k : ℕ) (gs : List ℕ) (s : Sender) (a : Aims) (g : ℕ) → message f traitor k gs s a [] g ≡ received traitor s (plan f traitor k gs s a) g
unfolding message
message_nil f traitor k gs s a g = refl

pub message_cons : (f : List ℕ → ℕ) (traitor : ℕ → Bool) (k : ℕ) (gs : List ℕ) (s : Sender) (a : Aims) (j : ℕ) (rest : List ℕ) (g : ℕ) (z : Choice) → choice_in (plan f traitor (suc k) gs s a) j ≡ Some z
    → message f traitor (suc k) gs s a (j ∷ rest) g ≡ message f traitor k (without gs j) (sender_of traitor j z.vote.taken) (next_aims a j z.vote) rest g
unfolding message
message_cons f traitor k gs s a j rest g z e = ap (λ (c : Option Choice). after c (λ (choice : Choice). message f traitor k (without gs j) (sender_of traitor j choice.vote.taken) (next_aims a j choice.vote) rest g)) e

-- Proves which message p receives about the label itself.
pub own_message : (x : Setting) (k : ℕ) (w : List ℕ) (s : Sender) (a : Aims) (p : ℕ) (h : Follows x k w s a) → x.M w p ≡ received x.traitor s (Some h.choices) p
own_message x k w s a p h =
    ap (λ (v : List ℕ). x.M v p) (sym (append-nil w))
    ∙ (h.same [] p ∙ (message_nil x.f x.traitor k (others x.n w) s a p ∙ ap (λ (c : Option (List Choice)). received x.traitor s c p) h.possible))

-- Proves that a loyal general takes the order that the plan has him take.
taken_by : (traitor : ℕ → Bool) (s : Sender) (zs : List Choice) (p : ℕ) (z : Choice) → traitor p ≡ false → choice_in (Some zs) p ≡ Some z → may_take s (traitor p) z.vote.taken ≡ true → order_of (received traitor s (Some zs) p) ≡ z.vote.taken
taken_by traitor (Loyal order) zs p z loyal found may = sym (eqb-true z.vote.taken order may)
taken_by traitor Traitor zs p z loyal found may =
    ap order_of (cond-false (traitor p) None (message_of (choice_in (Some zs) p)) loyal ∙ ap message_of found) ∙ shown z.vote.taken (z.vote.taken == 0) refl
  where
    shown : (t : ℕ) (b : Bool) → (t == 0) ≡ b → order_of (cond b None (Some t)) ≡ t
    shown t true e = sym (eqb-true t 0 e)
    shown t false e = refl

-- The choice of a plan for general j, and what follows the plan for the label that he extends.
pub record Child (x : Setting) (k : ℕ) (w : List ℕ) (s : Sender) (a : Aims) (zs : List Choice) (j : ℕ) : Type 0 where
  pub choice : Choice
  pub found : choice_in (Some zs) j ≡ Some choice
  pub cast : may_cast s x.traitor a j choice.vote ≡ true
  pub follows : Follows x k (w ++ j ∷ []) (sender_of x.traitor j choice.vote.taken) (next_aims a j choice.vote)
  pub cost : choice.attacks ≡ attacks_by s choice.vote.taken + attacks follows.choices

pub child : (x : Setting) (k : ℕ) (w : List ℕ) (s : Sender) (a : Aims) (h : Follows x (suc k) w s a) (j : ℕ) → on (others x.n w) j ≡ true → Child x k w s a h.choices j
child x k w s a h j i =
    let gs : List ℕ = others x.n w in
    let is : IsPlan x.f x.traitor k gs s a h.choices = plan_is x.f x.traitor k gs s a h.choices h.possible in
    let for : ChoiceFor (flat_map (λ g. choices_of (λ t b. plan x.f x.traitor k (without gs g) t b) s x.traitor a g) gs) h.choices j =
    choice_for (flat_map (λ g. choices_of (λ t b. plan x.f x.traitor k (without gs g) t b) s x.traitor a g) gs) gs h.choices j is.choices i
    in
    let from : FromFlatMap (λ g. choices_of (λ t b. plan x.f x.traitor k (without gs g) t b) s x.traitor a g) for.choice gs =
    from_flat_map (λ g. choices_of (λ t b. plan x.f x.traitor k (without gs g) t b) s x.traitor a g) for.choice gs for.listed
    in
    let one : IsChoice (λ t b. plan x.f x.traitor k (without gs from.source) t b) s x.traitor a from.source for.choice =
    choice_is (λ t b. plan x.f x.traitor k (without gs from.source) t b) s x.traitor a from.source for.choice from.member
    in
    let same : from.source ≡ j = sym one.own ∙ for.own in
    let here : IsChoice (λ t b. plan x.f x.traitor k (without gs j) t b) s x.traitor a j for.choice =
    subst (λ (g : ℕ). IsChoice (λ t b. plan x.f x.traitor k (without gs g) t b) s x.traitor a g for.choice) same one
    in
    let off : without gs j ≡ others x.n (w ++ j ∷ []) = others_without x.n w j in
    let found : choice_in (plan x.f x.traitor (suc k) gs s a) j ≡ Some for.choice = ap (λ (c : Option (List Choice)). choice_in c j) h.possible ∙ for.found in
    record {
      choice = for.choice;
      found = for.found;
      cast = here.cast;
      follows = record {
        same = λ u g.
            ap (λ (v : List ℕ). x.M v g) (append_assoc w (j ∷ []) u)
            ∙ (h.same (j ∷ u) g
            ∙ (message_cons x.f x.traitor k gs s a j u g for.choice found
            ∙ ap (λ (v : List ℕ). message x.f x.traitor k v (sender_of x.traitor j for.choice.vote.taken) (next_aims a j for.choice.vote) u g) off));
        choices = here.later;
        possible = ap (λ (v : List ℕ). plan x.f x.traitor k v (sender_of x.traitor j for.choice.vote.taken) (next_aims a j for.choice.vote)) (sym off) ∙ here.possible;
      };
      cost = here.cost;
    }

-- States the parts of the test that a vote may be cast.
record IsCast (s : Sender) (traitor : ℕ → Bool) (a : Aims) (j : ℕ) (vote : Vote) : Type 0 where
  takes : may_take s (traitor j) vote.taken ≡ true
  first : may_vote a.first j vote.taken vote.first ≡ true
  second : may_vote a.second j vote.taken vote.second ≡ true

cast_parts : (s : Sender) (traitor : ℕ → Bool) (a : Aims) (j : ℕ) (vote : Vote) → may_cast s traitor a j vote ≡ true → IsCast s traitor a j vote
cast_parts s traitor a j vote e =
    let outer = and_parts (may_take s (traitor j) vote.taken && may_vote a.first j vote.taken vote.first) (may_vote a.second j vote.taken vote.second) e in
    let inner = and_parts (may_take s (traitor j) vote.taken) (may_vote a.first j vote.taken vote.first) outer.0 in
    record { takes = inner.0; first = inner.1; second = outer.1 }

-- Proves that a loyal general takes the order of his choice.
pub takes_choice : (x : Setting) (k : ℕ) (w : List ℕ) (s : Sender) (a : Aims) (h : Follows x (suc k) w s a) (p : ℕ) → x.traitor p ≡ false → (c : Child x k w s a h.choices p) → taken x.M w p ≡ c.choice.vote.taken
takes_choice x k w s a h p loyal c =
    ap order_of (own_message x (suc k) w s a p h) ∙ taken_by x.traitor s h.choices p c.choice loyal c.found (cast_parts s x.traitor a p c.choice.vote c.cast).takes

-- Proves what the plan for a label with no relays left is.
pub last_whole : (gs : List ℕ) (s : Sender) (a : Aims) (zs : List Choice) → last_plan gs s a ≡ Some zs → zs ≡ map (last_choice s a) gs
unfolding last_plan
last_whole gs s a zs e = planned (is_taken s a a.first && is_taken s a a.second) e
  where
    planned : (b : Bool) → cond b (Some (map (last_choice s a) gs)) None ≡ Some zs → zs ≡ map (last_choice s a) gs
    planned true e = cc
    planned false e = cc

-- Proves what a loyal general takes with no relays left.
taken_decides : (x : Setting) (w : List ℕ) (s : Sender) (a : Aims) (zs : List Choice) (p : ℕ) → on (others x.n w) p ≡ true → x.traitor p ≡ false → last_plan (others x.n w) s a ≡ Some zs → order_of (received x.traitor s (Some zs) p) ≡ last_taken s a p
taken_decides x w (Loyal order) a zs p i loyal e = refl
taken_decides x w Traitor a zs p i loyal e =
    let whole : zs ≡ map (last_choice Traitor a) (others x.n w) = last_whole (others x.n w) Traitor a zs e in
    ap order_of (cond-false (x.traitor p) None (message_of (choice_in (Some zs) p)) loyal
    ∙ ap (λ (ys : List Choice). message_of (choice_in (Some ys) p)) whole
    ∙ ap message_of (listed (others x.n w) i))
    ∙ shown (last_taken Traitor a p) (last_taken Traitor a p == 0) refl
  where
    shown : (t : ℕ) (b : Bool) → (t == 0) ≡ b → order_of (cond b None (Some t)) ≡ t
    shown t true e = sym (eqb-true t 0 e)
    shown t false e = refl

    listed : (gs : List ℕ) → on gs p ≡ true → choice_in (Some (map (last_choice Traitor a) gs)) p ≡ Some (last_choice Traitor a p)
    listed [] i = absurd (false≢true i)
    listed (g ∷ gs) i = elim (cases_Bool (g == p)) [
      | inl here ↦
          cond-true (g == p) (Some (last_choice Traitor a g)) (choice_in (Some (map (last_choice Traitor a) gs)) p) here
          ∙ ap (λ (q : ℕ). Some (last_choice Traitor a q)) (eqb-true g p here)
      | inr apart ↦
          cond-false (g == p) (Some (last_choice Traitor a g)) (choice_in (Some (map (last_choice Traitor a) gs)) p) apart
          ∙ listed gs (sym (ap (λ (b : Bool). b || on gs p) apart) ∙ i)
    ]

pub plan_zero : (f : List ℕ → ℕ) (traitor : ℕ → Bool) (gs : List ℕ) (s : Sender) (a : Aims) → plan f traitor zero gs s a ≡ last_plan gs s a
unfolding plan
plan_zero f traitor gs s a = refl

last_parts : (gs : List ℕ) (s : Sender) (a : Aims) (zs : List Choice) → last_plan gs s a ≡ Some zs → (is_taken s a a.first ≡ true) × (is_taken s a a.second ≡ true)
unfolding last_plan
last_parts gs s a zs e = and_parts (is_taken s a a.first) (is_taken s a a.second) (tested (is_taken s a a.first && is_taken s a a.second) e)
  where
    tested : (b : Bool) → cond b (Some (map (last_choice s a) gs)) None ≡ Some zs → b ≡ true
    tested true e = refl
    tested false e = cc

-- Proves what the plan for a label with no relays left is, and what loyal generals then take.
pub last_taken_by : (x : Setting) (w : List ℕ) (s : Sender) (a : Aims) (h : Follows x zero w s a) → (h.choices ≡ map (last_choice s a) (others x.n w)) × ((j : ℕ) → on (others x.n w) j ≡ true → x.traitor j ≡ false → taken x.M w j ≡ last_taken s a j)
last_taken_by x w s a h = (
  last_whole (others x.n w) s a h.choices (sym (plan_zero x.f x.traitor (others x.n w) s a) ∙ h.possible),
  λ j i loyal. ap order_of (own_message x zero w s a j h) ∙ taken_decides x w s a h.choices j i loyal (sym (plan_zero x.f x.traitor (others x.n w) s a) ∙ h.possible),
)

last_decides : (x : Setting) (w : List ℕ) (s : Sender) (a : Aims) (h : Follows x zero w s a) (o : Option Aim) → IsAimed x w o → is_taken s a o ≡ true → Decides x zero w o
last_decides x w s a h None r e = tt
last_decides x w s a h (Some aim) r e =
    om_last x w aim.general
    ∙ (ap order_of (own_message x zero w s a aim.general h)
    ∙ (taken_decides x w s a h.choices aim.general (among x.n w aim.general r.within r.off) r.loyal (sym (plan_zero x.f x.traitor (others x.n w) s a) ∙ h.possible)
    ∙ eqb-true (last_taken s a aim.general) aim.order e))

-- Proves that a lieutenant decides as aimed, since the votes of the plan are the entries of the list that he combines.
step_decides : (x : Setting) (k : ℕ) (w : List ℕ) (s : Sender) (a : Aims) (h : Follows x (suc k) w s a) (v : Vote → ℕ) (o : Option Aim) → IsAimed x w o → is_met x.f o (map (λ (z : Choice). v z.vote) h.choices) ≡ true
    → ((j : ℕ) (i : on (others x.n w) j ≡ true) → (may_vote o j (child x k w s a h j i).choice.vote.taken (v (child x k w s a h j i).choice.vote) ≡ true)
    × Decides x k (w ++ j ∷ []) (next_aim o j (v (child x k w s a h j i).choice.vote)))
    → Decides x (suc k) w o
step_decides x k w s a h v None r met each = tt
step_decides x k w s a h v (Some aim) r met each =
    let gs : List ℕ = others x.n w in
    let is : IsPlan x.f x.traitor k gs s a h.choices = plan_is x.f x.traitor k gs s a h.choices h.possible in
    let votes : map (λ (z : Choice). v z.vote) h.choices ≡ map (entry x k w aim.general) gs =
    votes_are (flat_map (λ g. choices_of (λ t b. plan x.f x.traitor k (without gs g) t b) s x.traitor a g) gs) (λ (z : Choice). v z.vote) (entry x k w aim.general) gs h.choices is.choices (others-distinct x.n w)
    (λ j z i found. one j z i found)
    in
    om_step x k w aim.general ∙ (ap x.f (sym votes) ∙ eqb-true (x.f (map (λ (z : Choice). v z.vote) h.choices)) aim.order met)
  where
    some_same : (y z : Choice) → Some y ≡ Some z → y ≡ z
    some_same y z e = cc

    one : (j : ℕ) (z : Choice) → on (others x.n w) j ≡ true → choice_in (Some h.choices) j ≡ Some z → v z.vote ≡ entry x k w aim.general j
    one j z i found =
        let c : Child x k w s a h.choices j = child x k w s a h j i in
        let same : c.choice ≡ z = some_same c.choice z (sym c.found ∙ found) in
        let parts = each j i in
        let is : v c.choice.vote ≡ entry x k w aim.general j =
        entry_is x k w aim j c.choice.vote.taken (v c.choice.vote) parts.0
        (λ e. ap (taken x.M w) (sym e) ∙ takes_choice x k w s a h j (ap x.traitor e ∙ r.loyal) c) parts.1
        in
        ap (λ (y : Choice). v y.vote) (sym same) ∙ is

-- States that both aims are decided.
pub record BothDecide (x : Setting) (k : ℕ) (w : List ℕ) (a : Aims) : Type 0 where
  pub first : Decides x k w a.first
  pub second : Decides x k w a.second

meets_parts : (f : List ℕ → ℕ) (a : Aims) (zs : List Choice) → meets f a zs ≡ true → (is_met f a.first (map (λ (z : Choice). z.vote.first) zs) ≡ true) × (is_met f a.second (map (λ (z : Choice). z.vote.second) zs) ≡ true)
unfolding meets
meets_parts f a zs e = and_parts (is_met f a.first (map (λ (z : Choice). z.vote.first) zs)) (is_met f a.second (map (λ (z : Choice). z.vote.second) zs)) e

-- Proves that the messages of a plan lead to its aims.
pub sound : (x : Setting) (k : ℕ) (w : List ℕ) (s : Sender) (a : Aims) → Follows x k w s a → IsAimed x w a.first → IsAimed x w a.second → BothDecide x k w a
sound x zero w s a h r t =
    let parts = last_parts (others x.n w) s a h.choices (sym (plan_zero x.f x.traitor (others x.n w) s a) ∙ h.possible) in
    record { first = last_decides x w s a h a.first r parts.0; second = last_decides x w s a h a.second t parts.1 }
sound x (suc k) w s a h r t =
    let is : IsPlan x.f x.traitor k (others x.n w) s a h.choices = plan_is x.f x.traitor k (others x.n w) s a h.choices h.possible in
    let met = meets_parts x.f a h.choices is.meeting in
    let below : (j : ℕ) (i : on (others x.n w) j ≡ true) → BothDecide x k (w ++ j ∷ []) (next_aims a j (child x k w s a h j i).choice.vote) =
    λ j i.
    let c : Child x k w s a h.choices j = child x k w s a h j i in
    sound x k (w ++ j ∷ []) (sender_of x.traitor j c.choice.vote.taken) (next_aims a j c.choice.vote) c.follows
    (aimed_push x w j c.choice.vote.first a.first r) (aimed_push x w j c.choice.vote.second a.second t)
    in
    record {
      first = step_decides x k w s a h (λ (v : Vote). v.first) a.first r met.0
          (λ j i. ((cast_parts s x.traitor a j (child x k w s a h j i).choice.vote (child x k w s a h j i).cast).first, (below j i).first));
      second = step_decides x k w s a h (λ (v : Vote). v.second) a.second t met.1
          (λ j i. ((cast_parts s x.traitor a j (child x k w s a h j i).choice.vote (child x k w s a h j i).cast).second, (below j i).second));
    }

-- States that the generals of u extend the label w one by one.
abbrev pub Extends : ℕ → List ℕ → List ℕ → Type 0
Extends n w [] = Unit {0}
Extends n w (j ∷ u) = (j < n) × (on w j ≡ false) × Extends n (w ++ j ∷ []) u

pub extends : (n : ℕ) (w u : List ℕ) → AllBelow n u → is_distinct u ≡ true → ((g : ℕ) → on u g ≡ true → on w g ≡ false) → Extends n w u
extends n w [] b d off = tt
extends n w (j ∷ u) b d off =
    let both = and_parts (not (on u j)) (is_distinct u) d in
    let out : on u j ≡ false = not-true (on u j) both.0 in (
      b.0,
      off j (or_here j u),
      extends n (w ++ j ∷ []) u b.1 both.1
          (λ g i. on-push w j g ∙ or_from (on w g) (j == g) (off g (or_there j u g i)) (ne_eqb j g (λ same. false≢true (sym out ∙ (ap (on u) same ∙ i))))),
    )
  where
    or_here : (j : ℕ) (u : List ℕ) → on (j ∷ u) j ≡ true
    or_here j u = on_in (j ∷ u) j (inl refl)

    or_there : (j : ℕ) (u : List ℕ) (g : ℕ) → on u g ≡ true → on (j ∷ u) g ≡ true
    or_there j u g i = on_in (j ∷ u) g (inr (in_on u g i))

loyal_sender : (traitor : ℕ → Bool) (j t : ℕ) (c : Option (List Choice)) (p : ℕ) → traitor j ≡ false → received traitor (sender_of traitor j t) c p ≡ Some t
loyal_sender traitor j t c p loyal = ap (λ (s : Sender). received traitor s c p) (cond-false (traitor j) Traitor (Loyal t) loyal)

-- Proves that a loyal general sends everyone what he took.
pub relays : (x : Setting) (k : ℕ) (w : List ℕ) (s : Sender) (a : Aims) → Follows x k w s a → (u : List ℕ) (g p : ℕ) → x.traitor g ≡ false → length u < k → Extends x.n w (u ++ g ∷ []) → x.M (w ++ (u ++ g ∷ [])) p ≡ Some (taken x.M (w ++ u) g)
relays x zero w s a h u g p loyal long off = absurd (omega arith)
relays x (suc k) w s a h [] g p loyal long off =
    let c : Child x k w s a h.choices g = child x k w s a h g (among x.n w g off.0 off.1) in
    own_message x k (w ++ g ∷ []) (sender_of x.traitor g c.choice.vote.taken) (next_aims a g c.choice.vote) p c.follows
    ∙ (loyal_sender x.traitor g c.choice.vote.taken (Some c.follows.choices) p loyal
    ∙ ap Some (sym (takes_choice x k w s a h g loyal c) ∙ ap (λ (v : List ℕ). taken x.M v g) (sym (append-nil w))))
relays x (suc k) w s a h (j ∷ u) g p loyal long off =
    let c : Child x k w s a h.choices j = child x k w s a h j (among x.n w j off.0 off.1) in
    ap (λ (v : List ℕ). x.M v p) (sym (append_assoc w (j ∷ []) (u ++ g ∷ [])))
    ∙ (relays x k (w ++ j ∷ []) (sender_of x.traitor j c.choice.vote.taken) (next_aims a j c.choice.vote) c.follows u g p loyal (omega arith) off.2
    ∙ ap (λ (v : List ℕ). Some (taken x.M v g)) (append_assoc w (j ∷ []) u))
