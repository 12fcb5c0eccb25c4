-- The messages of a plan: a traitor sends ATTACK where the plan needs it, and nothing else. A loyal general sends the
-- order that he took.
use Rattle.std.specs.Prelude.{ℕ, zero, suc, ◌==◌, Bool, if◌then◌else◌, List, [], ◌∷◌, find, Option, None, Some}
use Rattle.label.specs.Labels.{others}
use Rattle.label.specs.Oral.{Messages}
use Rattle.lies.specs.declared.aim.Aims.{Aims}
use Rattle.lies.specs.declared.choice.Choice.{Choice}
use Rattle.lies.specs.declared.sender.Sender.{Sender}
use Rattle.lies.specs.declared.sender.Sender.TheVariants.{Loyal, Traitor}
use Rattle.lies.specs.Plans.{plan, without, sender_of, next_aims}

-- Returns the choice of a plan for general g.
abbrev pub choice_in : Option (List Choice) → ℕ → Option Choice
choice_in None g = None
choice_in (Some choices) g = find (λ choice. choice.general == g) choices

-- Returns the message by which a general takes an order from a traitor. RETREAT needs no message.
abbrev pub message_of : Option Choice → Option ℕ
message_of None = None
message_of (Some choice) = if choice.vote.taken == 0 then None else Some choice.vote.taken

-- Returns the message that general g receives from the last general of a label. A traitor sends nothing to traitors.
abbrev pub received : (ℕ → Bool) → Sender → Option (List Choice) → ℕ → Option ℕ
received traitor (Loyal order) choices g = Some order
received traitor Traitor choices g = if traitor g then None else message_of (choice_in choices g)

-- Goes on with a choice, if there is one.
abbrev pub after : Option Choice → (Choice → Option ℕ) → Option ℕ
after None next = None
after (Some choice) next = next choice

-- Returns the message that general g receives about a label extended by the generals `rest`. With k relays left, `gs`
-- are the generals off the label, `sender` is its last general, and the plan is to meet the aims.
unfoldable pub message : (List ℕ → ℕ) → (ℕ → Bool) → ℕ → List ℕ → Sender → Aims → List ℕ → ℕ → Option ℕ
message f traitor k gs sender aims [] g = received traitor sender (plan f traitor k gs sender aims) g
message f traitor zero gs sender aims (j ∷ rest) g = None
message f traitor (suc k) gs sender aims (j ∷ rest) g = after (choice_in (plan f traitor (suc k) gs sender aims) j)
    (λ choice. message f traitor k (without gs j) (sender_of traitor j choice.vote.taken)
    (next_aims aims j choice.vote) rest g)

-- Returns the messages of the plan to meet the aims by OM(m) under the commander c.
unfoldable pub planned : (List ℕ → ℕ) → (ℕ → Bool) → ℕ → ℕ → ℕ → Sender → Aims → Messages
planned f traitor n m c sender aims [] p = None
planned f traitor n m c sender aims (x ∷ rest) p = message f traitor m (others n (c ∷ [])) sender aims rest p
