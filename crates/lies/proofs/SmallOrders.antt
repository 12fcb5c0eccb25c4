-- The orders of planned messages are 0 and 1.
use Rattle.std.proofs.Common.{ℕ, zero, suc, ◌^◌, ◌<◌, ◌≡◌, Bool, true, false, cond, List, [], ◌∷◌, map, refl, sym, ap, subst, ◌∙◌, arith, inl, inr, Option, None, Some}
use Rattle.std.specs.Prelude.{flat_map, ◌==◌}
use Rattle.label.specs.Labels.{others}
use Rattle.lies.specs.Attempts.{IsIn}
use Rattle.lies.specs.Plans.{without, sender_of, next_aim, next_aims, all_votes, choices_of, aimed_or, last_taken, last_choice, plan}
use Rattle.lies.specs.PlannedMessages.{choice_in, message_of, received, after, message, planned}
use Rattle.lies.specs.declared.aim.Aim.{Aim}
use Rattle.lies.specs.declared.aim.Aims.{Aims}
use Rattle.lies.specs.declared.choice.Choice.{Choice}
use Rattle.lies.specs.declared.choice.Vote.{Vote}
use Rattle.lies.specs.declared.sender.Sender.{Sender}
use Rattle.lies.specs.declared.sender.Sender.TheVariants.{Loyal, Traitor}
use Rattle.lies.proofs.Members.{from_map, from_flat_map, FromMap, FromFlatMap}
use Rattle.lies.proofs.PlanLemmas.{IsChoice, choice_is, IsPlan, plan_is, chosen_all, found_in}
use Rattle.lies.proofs.Soundness.{last_whole, plan_zero}

-- States that a sender who is loyal sends 0 or 1.
abbrev pub IsSmallSender : Sender → Type 0
IsSmallSender (Loyal order) = order < 2
IsSmallSender Traitor = Unit {0}

abbrev IsSmallAim : Option Aim → Type 0
IsSmallAim None = Unit {0}
IsSmallAim (Some aim) = aim.order < 2

-- States that the aims ask for 0 or 1.
pub record AreSmall (a : Aims) : Type 0 where
  pub first : IsSmallAim a.first
  pub second : IsSmallAim a.second

record IsSmallVote (vote : Vote) : Type 0 where
  taken : vote.taken < 2
  first : vote.first < 2
  second : vote.second < 2

small_vote : (vote : Vote) → IsIn vote all_votes → IsSmallVote vote
unfolding all_votes
small_vote vote (inl e) = subst IsSmallVote (sym e) (record { taken = omega arith; first = omega arith; second = omega arith })
small_vote vote (inr (inl e)) = subst IsSmallVote (sym e) (record { taken = omega arith; first = omega arith; second = omega arith })
small_vote vote (inr (inr (inl e))) = subst IsSmallVote (sym e) (record { taken = omega arith; first = omega arith; second = omega arith })
small_vote vote (inr (inr (inr (inl e)))) = subst IsSmallVote (sym e) (record { taken = omega arith; first = omega arith; second = omega arith })
small_vote vote (inr (inr (inr (inr (inl e))))) = subst IsSmallVote (sym e) (record { taken = omega arith; first = omega arith; second = omega arith })
small_vote vote (inr (inr (inr (inr (inr (inl e)))))) = subst IsSmallVote (sym e) (record { taken = omega arith; first = omega arith; second = omega arith })
small_vote vote (inr (inr (inr (inr (inr (inr (inl e))))))) = subst IsSmallVote (sym e) (record { taken = omega arith; first = omega arith; second = omega arith })
small_vote vote (inr (inr (inr (inr (inr (inr (inr (inl e)))))))) = subst IsSmallVote (sym e) (record { taken = omega arith; first = omega arith; second = omega arith })
small_vote vote (inr (inr (inr (inr (inr (inr (inr (inr i)))))))) = absurd i

small_aimed : (o : Option Aim) (g other : ℕ) → IsSmallAim o → other < 2 → aimed_or o g other < 2
small_aimed None g other h l = l
small_aimed (Some aim) g other h l = pick (aim.general == g)
  where
    pick : (b : Bool) → cond b aim.order other < 2
    pick true = h
    pick false = l

small_last : (s : Sender) (a : Aims) (g : ℕ) → IsSmallSender s → AreSmall a → last_taken s a g < 2
small_last (Loyal order) a g h l = h
small_last Traitor a g h l = small_aimed a.first g (aimed_or a.second g 0) l.first (small_aimed a.second g 0 l.second (omega arith))

-- Proves that the votes of a plan are of 0 and 1.
voted : (f : List ℕ → ℕ) (t : ℕ → Bool) (k : ℕ) (gs : List ℕ) (s : Sender) (a : Aims) (zs : List Choice) (z : Choice) → plan f t (suc k) gs s a ≡ Some zs → IsIn z zs → IsIn z.vote all_votes
voted f t k gs s a zs z e i =
    let is : IsPlan f t k gs s a zs = plan_is f t k gs s a zs e in
    let there = chosen_all (flat_map (λ j. choices_of (λ q b. plan f t k (without gs j) q b) s t a j) gs) gs zs z is.choices i in
    let from : FromFlatMap (λ j. choices_of (λ q b. plan f t k (without gs j) q b) s t a j) z gs = from_flat_map (λ j. choices_of (λ q b. plan f t k (without gs j) q b) s t a j) z gs there in
    let one : IsChoice (λ q b. plan f t k (without gs from.source) q b) s t a from.source z = choice_is (λ q b. plan f t k (without gs from.source) q b) s t a from.source z from.member in
    one.vote

-- Proves that the generals of a plan take 0 or 1.
small_choice : (f : List ℕ → ℕ) (t : ℕ → Bool) (k : ℕ) (gs : List ℕ) (s : Sender) (a : Aims) (zs : List Choice) (z : Choice) → IsSmallSender s → AreSmall a → plan f t k gs s a ≡ Some zs → IsIn z zs → z.vote.taken < 2
small_choice f t zero gs s a zs z h l e i =
    let whole : zs ≡ map (last_choice s a) gs = last_whole gs s a zs (sym (plan_zero f t gs s a) ∙ e) in
    let from : FromMap (last_choice s a) z gs = from_map (last_choice s a) z gs (subst (IsIn z) whole i) in
    let is : z.vote.taken ≡ last_taken s a from.source = ap (λ (y : Choice). y.vote.taken) from.is in
    let small = small_last s a from.source h l in
    omega arith
small_choice f t (suc k) gs s a zs z h l e i = (small_vote z.vote (voted f t k gs s a zs z e i)).taken

small_cast : (f : List ℕ → ℕ) (t : ℕ → Bool) (k : ℕ) (gs : List ℕ) (s : Sender) (a : Aims) (j : ℕ) (z : Choice) → choice_in (plan f t (suc k) gs s a) j ≡ Some z → IsSmallVote z.vote
small_cast f t k gs s a j z e = by_plan (plan f t (suc k) gs s a) refl e
  where
    by_plan : (o : Option (List Choice)) → plan f t (suc k) gs s a ≡ o → choice_in o j ≡ Some z → IsSmallVote z.vote
    by_plan None p e = cc
    by_plan (Some zs) p e = small_vote z.vote (voted f t k gs s a zs z p (found_in zs j z e))

small_found : (f : List ℕ → ℕ) (t : ℕ → Bool) (k : ℕ) (gs : List ℕ) (s : Sender) (a : Aims) (j : ℕ) (z : Choice) → IsSmallSender s → AreSmall a → choice_in (plan f t k gs s a) j ≡ Some z → z.vote.taken < 2
small_found f t k gs s a j z h l e = by_plan (plan f t k gs s a) refl e
  where
    by_plan : (o : Option (List Choice)) → plan f t k gs s a ≡ o → choice_in o j ≡ Some z → z.vote.taken < 2
    by_plan None p e = cc
    by_plan (Some zs) p e = small_choice f t k gs s a zs z h l p (found_in zs j z e)

small_received : (f : List ℕ → ℕ) (t : ℕ → Bool) (k : ℕ) (gs : List ℕ) (s : Sender) (a : Aims) (g order : ℕ) → IsSmallSender s → AreSmall a → received t s (plan f t k gs s a) g ≡ Some order → order < 2
small_received f t k gs (Loyal v) a g order h l e = let same : v ≡ order = cc in omega arith
small_received f t k gs Traitor a g order h l e = by_general (t g) e
  where
    by_order : (z : Choice) (b : Bool) → z.vote.taken < 2 → cond b None (Some z.vote.taken) ≡ Some order → order < 2
    by_order z true small e = cc
    by_order z false small e = let same : z.vote.taken ≡ order = cc in omega arith

    by_choice : (o : Option Choice) → choice_in (plan f t k gs Traitor a) g ≡ o → message_of o ≡ Some order → order < 2
    by_choice None c e = cc
    by_choice (Some z) c e = by_order z (z.vote.taken == 0) (small_found f t k gs Traitor a g z tt l c) e

    by_general : (b : Bool) → cond b None (message_of (choice_in (plan f t k gs Traitor a) g)) ≡ Some order → order < 2
    by_general true e = cc
    by_general false e = by_choice (choice_in (plan f t k gs Traitor a) g) refl e

small_sender : (t : ℕ → Bool) (j v : ℕ) → v < 2 → IsSmallSender (sender_of t j v)
small_sender t j v l = pick (t j)
  where
    pick : (b : Bool) → IsSmallSender (cond b Traitor (Loyal v))
    pick true = tt
    pick false = l

small_next : (o : Option Aim) (j vote : ℕ) → vote < 2 → IsSmallAim (next_aim o j vote)
small_next None j vote l = tt
small_next (Some aim) j vote l = pick (aim.general == j)
  where
    pick : (b : Bool) → IsSmallAim (cond b None (Some (record { general = aim.general; order = vote })))
    pick true = tt
    pick false = l

pub small_message : (f : List ℕ → ℕ) (t : ℕ → Bool) (k : ℕ) (gs : List ℕ) (s : Sender) (a : Aims) (rest : List ℕ) (g order : ℕ) → IsSmallSender s → AreSmall a → message f t k gs s a rest g ≡ Some order → order < 2
unfolding message
small_message f t k gs s a [] g order h l e = small_received f t k gs s a g order h l e
small_message f t zero gs s a (j ∷ rest) g order h l e = cc
small_message f t (suc k) gs s a (j ∷ rest) g order h l e =
    by_choice f t k gs s a j rest g order h (λ z small first second e'. small_message f t k (without gs j) (sender_of t j z.vote.taken) (next_aims a j z.vote) rest g order (small_sender t j z.vote.taken small)
    (record { first = small_next a.first j z.vote.first first; second = small_next a.second j z.vote.second second }) e')
    (choice_in (plan f t (suc k) gs s a) j) refl e
  where
    by_choice : (f : List ℕ → ℕ) (t : ℕ → Bool) (k : ℕ) (gs : List ℕ) (s : Sender) (a : Aims) (j : ℕ) (rest : List ℕ) (g order : ℕ) → IsSmallSender s
        → ((z : Choice) → z.vote.taken < 2 → z.vote.first < 2 → z.vote.second < 2 → message f t k (without gs j) (sender_of t j z.vote.taken) (next_aims a j z.vote) rest g ≡ Some order → order < 2)
        → (o : Option Choice) → choice_in (plan f t (suc k) gs s a) j ≡ o → after o (λ (z : Choice). message f t k (without gs j) (sender_of t j z.vote.taken) (next_aims a j z.vote) rest g) ≡ Some order → order < 2
    by_choice f t k gs s a j rest g order h later None c e = cc
    by_choice f t k gs s a j rest g order h later (Some z) c e = (let small = small_cast f t k gs s a j z c in later z small.taken small.first small.second e)

pub small_planned : (f : List ℕ → ℕ) (t : ℕ → Bool) (n m c : ℕ) (s : Sender) (a : Aims) (w : List ℕ) (p order : ℕ) → IsSmallSender s → AreSmall a → planned f t n m c s a w p ≡ Some order → order < 2 ^ 32
unfolding planned
small_planned f t n m c s a [] p order h l e = cc
small_planned f t n m c s a (x ∷ rest) p order h l e = let small = small_message f t m (others n (c ∷ [])) s a rest p order h l e in omega arith
