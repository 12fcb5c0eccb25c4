-- The notes on slips (calls that should send orders, but have no effect). Each note is a line with the reason.
use Rattle.std.specs.Prelude.{ℕ, ◌-◌, ◌==◌, nat_lt, if◌then◌else◌, List, [], ◌∷◌, ◌++◌, flat_map, codes, decimal, length, slice_get, string_bytes, Option, Some, None, String}
use Rattle.std.specs.Int.{bit_at}
use Rattle.std.specs.declared.alloc.Global.{Global}
use Rattle.label.specs.declared.shape.Shape.{Shape}
use Rattle.label.specs.Relay.{relay}
use Rattle.semantics.specs.declared.request.Helper.{Helper}
use Rattle.semantics.specs.declared.request.Helper.TheVariants.{Send, SendRow, Sway, Honest, SignOrder, PassOn}
use Rattle.semantics.specs.Relay.{Kind, Oral, Signed}
use Rattle.explain.specs.Names.{helper_name}
use Rattle.round.specs.Letters.{Letter}
use Rattle.trial.specs.declared.helper_call.HelperCall.{HelperCall}
use Rattle.trial.specs.Slips.{kind_told, letter_slips}

-- The definitions down to `reason_of` write the reason why a call has no effect.

-- Writes a label: its generals in decimal, joined by dots, such as `0.2`. The empty label is a dash.
abbrev pub dotted : List ℕ → List ℕ
dotted [] = codes "-"
dotted (g ∷ gs) = decimal g ++ flat_map (λ h. codes "." ++ decimal h) gs

-- Writes that the rank is too great, because there are only `labels` labels, or that there are none.
abbrev pub past : ℕ → ℕ → List ℕ
past rank labels =
    if labels == 0 then codes "nothing is relayed in this round"
    else codes "rank " ++ decimal rank ++ codes " is past the last, " ++ decimal (labels - 1)

-- Writes why an existing general receives no order for `such`, words that name one label or every label: he is the
-- sender, or he is on the label.
abbrev pub passed_over : ℕ → ℕ → List ℕ → List ℕ
passed_over sender receiver such =
    if receiver == sender then codes "general " ++ decimal receiver ++ codes " is the sender himself"
    else codes "general " ++ decimal receiver ++ codes " is on " ++ such

-- Writes why a receiver gets no order for `such`, words that name one label or every label: there is no such general,
-- he is the sender, or he is on the label.
abbrev pub unheard : Shape → ℕ → List ℕ → List ℕ
unheard shape receiver such =
    if nat_lt receiver shape.generals then passed_over shape.general receiver such
    else codes "there is no general " ++ decimal receiver

-- Writes why `send` sets no order: there is no label with this rank, or the label does not go to this receiver.
abbrev pub no_place : Shape → ℕ → ℕ → Option (List ℕ) → List ℕ
no_place shape rank receiver None = past rank (length (relay shape))
no_place shape rank receiver (Some label) = unheard shape receiver (codes "the label " ++ dotted label)

-- Writes why `send_row` sets no order: there is no label with this rank, no orders were passed, or the label goes to
-- nobody.
abbrev pub no_row : Shape → ℕ → ℕ → Option (List ℕ) → List ℕ
no_row shape rank orders None = past rank (length (relay shape))
no_row shape rank orders (Some label) =
    if orders == 0 then codes "no orders were given" else codes "nobody receives the label " ++ dotted label

-- Writes why `sway` and `honest` set no order: there is no label, or no label goes to this receiver.
abbrev pub no_label : Shape → ℕ → ℕ → List ℕ
no_label shape receiver labels =
    if labels == 0 then codes "nothing is relayed in this round" else unheard shape receiver (codes "every label")

-- Writes why a call has no effect in a campaign with oral messages. The call has these numbers in r1, r2 and r3.
abbrev pub oral_reason : Shape → ℕ → ℕ → ℕ → Helper → List ℕ
oral_reason shape first second third Send = no_place shape first second (slice_get (relay shape) first)
oral_reason shape first second third SendRow = no_row shape first third (slice_get (relay shape) first)
oral_reason shape first second third Sway = no_label shape first (length (relay shape))
oral_reason shape first second third Honest = no_label shape first (length (relay shape))
oral_reason shape first second third SignOrder = codes "messages are not signed"
oral_reason shape first second third PassOn = codes "messages are not signed"
oral_reason shape first second third _ = []

-- Writes that a general makes no more entries in a round.
abbrev pub full : List ℕ
full = codes "a general sends at most 8 chains in a round"

-- Writes why `sign_order` signs nothing: the general is not the commander, or he has made all his entries.
abbrev pub unsigned : Shape → List ℕ
unsigned shape =
    if shape.general == shape.commander then full else codes "only the commander signs orders"

-- Writes that a chain's index is too great, because only `count` chains are held, or that none is held.
abbrev pub unheld : ℕ → ℕ → List ℕ
unheld index count =
    if count == 0 then codes "no chain is held"
    else codes "chain " ++ decimal index ++ codes " is past the last, " ++ decimal (count - 1)

-- Writes why a chain with these signers is not passed on: the general is one of them, or has made all his entries.
abbrev pub signed_already : ℕ → ℕ → ℕ → List ℕ
signed_already general index signers =
    if bit_at signers general == 1
    then codes "general " ++ decimal general ++ codes " has already signed chain " ++ decimal index
    else full

-- Writes why `pass_on` passes nothing on: the general holds no chain with this index, he has signed it, or he has made
-- all his entries. `signers` are the signers of the chain, if there is one, and `count` is how many chains he holds.
abbrev pub not_passed : ℕ → ℕ → ℕ → Option ℕ → List ℕ
not_passed general index count None = unheld index count
not_passed general index count (Some signers) = signed_already general index signers

-- Writes why a call for oral messages has no effect in a campaign with signed ones.
abbrev pub are_signed : List ℕ
are_signed = codes "messages are signed"

-- Writes why a call has no effect in a campaign with signed messages, where the general holds chains with these
-- signers. The call has the number `first` in r1. Every other call that sends orders is for oral messages.
abbrev pub signed_reason : Shape → List ℕ → ℕ → Helper → List ℕ
signed_reason shape held first SignOrder = unsigned shape
signed_reason shape held first PassOn = not_passed shape.general first (length held) (slice_get held first)
signed_reason shape held first _ = are_signed

-- Writes why a call has no effect, for messages of this kind.
abbrev pub reason_of : Kind → Shape → HelperCall → List ℕ
reason_of Oral shape call = oral_reason shape call.first call.second call.third call.helper
reason_of (Signed held) shape call = signed_reason shape held call.first call.helper

-- The definitions down to `trial_notes` write the notes on a trial, whose messages are oral.

-- Writes a space and the text in brackets, or nothing for an empty text.
abbrev pub in_brackets : List ℕ → List ℕ
in_brackets [] = []
in_brackets (c ∷ cs) = codes " (" ++ (c ∷ cs) ++ codes ")"

-- Returns the place of a unit in the source text, or the empty text if it is not known.
abbrev pub place_of : Option (String Global) → List ℕ
place_of None = []
place_of (Some text) = string_bytes text

-- Writes a unit as `5`, or as `5 (line 7)` if its place is known.
unfoldable pub unit_told : List (String Global) → ℕ → List ℕ
unit_told places unit = decimal unit ++ in_brackets (place_of (slice_get places unit))

-- Writes that a call of this helper has no effect, and why, such as `sway has no effect: nothing is relayed in this
-- round`.
unfoldable pub slip_told : Kind → Shape → HelperCall → List ℕ
slip_told kind shape call =
    helper_name call.helper ++ codes " has no effect: " ++ reason_of kind shape call ++ codes "\n"

-- Writes the note on a slip of a trial: its unit, its helper, and the reason.
abbrev pub note_of : List (String Global) → Shape → HelperCall → List ℕ
note_of places shape call =
    codes "note: at " ++ unit_told places call.unit ++ codes ", " ++ slip_told Oral shape call

-- Writes the notes on the slips of a trial. `places` has each unit's place in the source text.
abbrev pub trial_notes : List (String Global) → Shape → List HelperCall → List ℕ
trial_notes places shape calls = flat_map (note_of places shape) calls

-- The remaining definitions write the notes on a campaign.

-- Writes where a general made a call, such as `note: round 2 general 3 unit 5 `.
unfoldable pub call_place : ℕ → ℕ → ℕ → List ℕ
call_place round general unit =
    codes "note: round " ++ decimal round ++ codes " general " ++ decimal general ++ codes " unit " ++ decimal unit
    ++ codes " "

-- Writes the note on a slip in the round of a letter: the round, the general, the unit, the helper, and the reason.
abbrev pub letter_note : Letter → HelperCall → List ℕ
letter_note l call =
    call_place l.round l.general call.unit ++ slip_told (kind_told l.context) l.outbox.relay.shape call

-- Writes the notes on the slips in the round of a letter.
unfoldable pub letter_notes : Letter → List ℕ
letter_notes l = flat_map (letter_note l) (letter_slips l)

-- Writes the notes on the slips of all traitors, by round, and within a round by general.
unfoldable pub campaign_notes : List (List Letter) → List ℕ
campaign_notes rounds = flat_map (λ letters. flat_map letter_notes letters) rounds
