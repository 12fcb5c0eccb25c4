-- Plans by which traitors bring about decisions of OM(m) with the orders 0 and 1. A plan for a label says for each
-- general off the label which order he takes for it, and how he votes in the lists that one or two lieutenants combine.
-- It exists exactly if some messages of the traitors lead to these decisions, since the messages about the labels that
-- begin with w.j and those that begin with w.i are independent. Only the orders that loyal generals take for w itself
-- count in several of these parts, and the plan for w has them.
use Rattle.std.specs.Prelude.{ℕ, zero, suc, ◌+◌, ◌==◌, ◌&&◌, ◌||◌, not, nat_lt, Bool, true, if◌then◌else◌, List, [], ◌∷◌, map, filter, flat_map, sum_by, Option, None, Some}
use Rattle.arrayvec.specs.ArrayVec.{ArrayVec}
use Rattle.lies.specs.declared.aim.Aim.{Aim}
use Rattle.lies.specs.declared.aim.Aims.{Aims}
use Rattle.lies.specs.declared.choice.Choice.{Choice}
use Rattle.lies.specs.declared.choice.Vote.{Vote}
use Rattle.lies.specs.declared.sender.Sender.{Sender}
use Rattle.lies.specs.declared.sender.Sender.TheVariants.{Loyal, Traitor}

-- Returns the generals of the list without general j.
abbrev pub without : List ℕ → ℕ → List ℕ
without gs j = filter (λ g. not (g == j)) gs

-- Returns how general j sends on an order that he took.
abbrev pub sender_of : (ℕ → Bool) → ℕ → ℕ → Sender
sender_of traitor j taken = if traitor j then Traitor else Loyal taken

-- Returns whether general j may take this order from the sender. What a traitor takes does not matter, and is 0 here if
-- the sender is a traitor.
abbrev pub may_take : Sender → Bool → ℕ → Bool
may_take (Loyal order) is_traitor taken = taken == order
may_take Traitor is_traitor taken = not is_traitor || taken == 0

-- Returns whether general j, who took `taken`, may have this vote in the list of the lieutenant who is aimed at. In the
-- lieutenant's own list his vote is the order that he took himself. If nobody is aimed at, the vote is 0.
abbrev pub may_vote : Option Aim → ℕ → ℕ → ℕ → Bool
may_vote None j taken vote = vote == 0
may_vote (Some aim) j taken vote = not (aim.general == j) || vote == taken

-- Returns whether general j may vote like this.
abbrev pub may_cast : Sender → (ℕ → Bool) → Aims → ℕ → Vote → Bool
may_cast sender traitor aims j vote = may_take sender (traitor j) vote.taken
    && may_vote aims.first j vote.taken vote.first && may_vote aims.second j vote.taken vote.second

-- Returns the aim for the label that general j extends: the lieutenant is to decide on the vote of j, unless he is j.
abbrev pub next_aim : Option Aim → ℕ → ℕ → Option Aim
next_aim None j vote = None
next_aim (Some aim) j vote = if aim.general == j then None else Some (record { general = aim.general; order = vote })

-- Returns both aims for the label that general j extends.
abbrev pub next_aims : Aims → ℕ → Vote → Aims
next_aims aims j vote =
    record { first = next_aim aims.first j vote.first; second = next_aim aims.second j vote.second }

-- Returns how many orders other than RETREAT a sender sends by this order, if he is a traitor: 0 or 1.
abbrev pub attacks_by : Sender → ℕ → ℕ
attacks_by (Loyal order) taken = 0
attacks_by Traitor taken = if taken == 0 then 0 else 1

-- Returns how many orders other than RETREAT traitors send to loyal generals in a plan.
unfoldable pub attacks : List Choice → ℕ
attacks plan = sum_by (λ choice. choice.attacks) plan

-- Returns the vote of a general who takes the order t, and for whom the lieutenants count the orders a and b.
abbrev pub vote_of : ℕ → ℕ → ℕ → Vote
vote_of t a b = record { taken = t; first = a; second = b }

-- All votes of orders 0 and 1.
unfoldable pub all_votes : List Vote
all_votes = vote_of 0 0 0 ∷ vote_of 0 0 1 ∷ vote_of 0 1 0 ∷ vote_of 0 1 1 ∷ vote_of 1 0 0 ∷ vote_of 1 0 1 ∷ vote_of 1 1 0
    ∷ vote_of 1 1 1 ∷ []

-- Returns the choice of a vote for general j, if there is a plan for the label that he extends.
abbrev pub chosen : Sender → ℕ → Vote → Option (List Choice) → List Choice
chosen sender j vote None = []
chosen sender j vote (Some plan) =
    record { general = j; vote = vote; attacks = attacks_by sender vote.taken + attacks plan } ∷ []

-- Returns the choices for general j. `below` returns the plans for the label that he extends.
abbrev pub choices_of : (Sender → Aims → Option (List Choice)) → Sender → (ℕ → Bool) → Aims → ℕ → List Choice
choices_of below sender traitor aims j = flat_map (λ vote. if may_cast sender traitor aims j vote
    then chosen sender j vote (below (sender_of traitor j vote.taken) (next_aims aims j vote)) else []) all_votes

-- Returns all lists that contain one of the choices for each of the generals, in the order of the generals.
unfoldable pub selections : List Choice → List ℕ → List (List Choice)
selections choices [] = [] ∷ []
selections choices (j ∷ js) = flat_map (λ choice. map (λ rest. choice ∷ rest) (selections choices js))
    (filter (λ choice. choice.general == j) choices)

-- Returns whether the rule combines the votes of a list to the order of an aim.
abbrev pub is_met : (List ℕ → ℕ) → Option Aim → List ℕ → Bool
is_met f None votes = true
is_met f (Some aim) votes = f votes == aim.order

-- Returns whether the rule combines the votes of a plan to the orders of both aims.
unfoldable pub meets : (List ℕ → ℕ) → Aims → List Choice → Bool
meets f aims plan = is_met f aims.first (map (λ choice. choice.vote.first) plan)
    && is_met f aims.second (map (λ choice. choice.vote.second) plan)

-- Returns a plan as a list of its choices, if there is one.
abbrev pub items_of : Option (ArrayVec Choice) → Option (List Choice)
items_of None = None
items_of (Some plan) = Some plan.items

-- Returns the plan with fewer orders other than RETREAT, and the first of two with the same number.
abbrev pub cheaper : Option (List Choice) → Option (List Choice) → Option (List Choice)
cheaper None other = other
cheaper (Some plan) None = Some plan
cheaper (Some plan) (Some other) = if nat_lt (attacks other) (attacks plan) then Some other else Some plan

-- Returns the first of the plans with the fewest orders other than RETREAT.
unfoldable pub cheapest : List (List Choice) → Option (List Choice)
cheapest [] = None
cheapest (plan ∷ plans) = cheaper (Some plan) (cheapest plans)

-- Returns the order of the aim if it is at this general.
abbrev pub aimed_or : Option Aim → ℕ → ℕ → ℕ
aimed_or None g other = other
aimed_or (Some aim) g other = if aim.general == g then aim.order else other

-- Returns the order that a general takes for a label with no relays left.
abbrev pub last_taken : Sender → Aims → ℕ → ℕ
last_taken (Loyal order) aims g = order
last_taken Traitor aims g = aimed_or aims.first g (aimed_or aims.second g 0)

-- Returns whether an aim is met with no relays left, when a lieutenant decides on the order that he took.
abbrev pub is_taken : Sender → Aims → Option Aim → Bool
is_taken sender aims None = true
is_taken sender aims (Some aim) = last_taken sender aims aim.general == aim.order

-- Returns the choice for a general with no relays left. He has no vote.
abbrev pub last_choice : Sender → Aims → ℕ → Choice
last_choice sender aims g = record {
  general = g;
  vote = record { taken = last_taken sender aims g; first = 0; second = 0 };
  attacks = attacks_by sender (last_taken sender aims g);
}

-- Returns the plan for a label with no relays left.
unfoldable pub last_plan : List ℕ → Sender → Aims → Option (List Choice)
last_plan gs sender aims =
    if is_taken sender aims aims.first && is_taken sender aims aims.second then Some (map (last_choice sender aims) gs)
    else None

-- Returns the cheapest plan to meet the aims about a label with k relays left, or `None` if no messages of the traitors
-- meet them. `gs` are the generals off the label, and `sender` is its last general.
unfoldable pub plan : (List ℕ → ℕ) → (ℕ → Bool) → ℕ → List ℕ → Sender → Aims → Option (List Choice)
plan f traitor zero gs sender aims = last_plan gs sender aims
plan f traitor (suc k) gs sender aims = cheapest (filter (meets f aims)
    (selections (flat_map (λ j. choices_of (λ s a. plan f traitor k (without gs j) s a) sender traitor aims j) gs)
    gs))
