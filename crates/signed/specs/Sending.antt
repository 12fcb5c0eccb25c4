-- How the code stores the chains that were sent (own). Only the promise of `SignedChronicle::sent` depends on this file
-- (`named`, `dispatch_of`). Entries.antt and Sent.antt define which chains are sent.
use Rattle.std.specs.Prelude.{ℕ, suc, ◌≡◌, ◌<◌, ◌≤◌, ◌⊎◌, ◌==◌, ◌-◌, nat_lt, cond, Bool, List, [], ◌∷◌, ◌++◌, map, filter, flat_map, take, All, length, Option, Some, None, slice_get}
use Rattle.std.specs.Borrow.{Bor}
use Rattle.std.specs.Int.{bit_at}
use Rattle.insn.specs.declared.insn.Insn.{Insn}
use Rattle.label.specs.Labels.{on, generals}
use Rattle.semantics.specs.Relay.{Relay, signed}
use Rattle.semantics.specs.Entries.{entered}
use Rattle.board.specs.Board.{Access}
use Rattle.board.specs.Ledger.{RecordedBoard}
use Rattle.round.specs.Scenario.{Scenario, program_of, shape_of}
use Rattle.round.specs.Letters.{Letter, letter_of}
use Rattle.round.specs.Contexts.{context_bytes, faithful_letter_with}
use Rattle.round.specs.Activation.{started}
use Rattle.world.specs.declared.event.Event.{Event}
use Rattle.world.specs.declared.draft.LetterDraft.{LetterDraft}
use Rattle.world.specs.declared.draft.LetterDraft.TheVariants.{Begun, Whole, Missing}
use Rattle.world.specs.Kind.{each, accesses_of, loyal_letter}
use Rattle.world.specs.declared.part.Progress.{Progress}
use Rattle.world.specs.declared.part.Progress.TheVariants.{Acting, Silent, Posted}
use Rattle.world.specs.Reached.{world_of}
use Rattle.signed.specs.Chains.{Chain}
use Rattle.signed.specs.Accepted.{counts}
use Rattle.signed.specs.Contexts.{signed_context_numbers, signer_bits}
use Rattle.signed.specs.Entries.{Dispatch, Entry, dispatched, most_entries, received}
use Rattle.signed.specs.Kind.{signed_kind, played}
use Rattle.signed.specs.Loyal.{loyal_entries}
use Rattle.signed.specs.Sent.{Sent, delivered, held_behind, sent_in}
use Rattle.signed.specs.Signers.{Signature}

-- Returns the generals whose bits are set in a number of 16 bits, ascending.
abbrev pub named : ℕ → List ℕ
named bits = filter (λ g. bit_at bits g == 1) (generals 16)

-- Returns a chain with its receivers as a list. They are stored as bits: bit `g` for general `g`.
abbrev pub dispatch_of : Chain × ℕ → Dispatch
dispatch_of x = record { chain = x.0; receivers = named x.1 }

-- Returns the chains of a round that general `p` received, ascending by sender.
abbrev pub received_in : ℕ → List (List Dispatch) → List Chain
received_in p row = flat_map (received p) row

-- States that each round has a list of the chains sent for each of `n` generals.
abbrev pub AreRows : ℕ → Sent → Type 0
AreRows n sent = All (λ row. length row ≡ n) sent

-- Returns the chains to which these references point.
abbrev pub lent : List (Bor Chain) → List Chain
lent chains = map (λ c. c.now) chains

-- Returns the chain to which a reference points, or `None` if there is none.
abbrev pub chain_in : Option (Bor Chain) → Option Chain
chain_in None = None
chain_in (Some c) = Some c.now

-- The chains that a general holds, and how many of them he received before the last round.
pub record HeldChains : Type 0 where
  pub chains : List Chain
  pub earlier : ℕ

-- Returns the chains that general `g` has received in the rounds of `sent`.
abbrev pub held_of : ℕ → Sent → HeldChains
held_of g sent = record {
  chains = flat_map (received_in g) sent;
  earlier = length (flat_map (received_in g) (take (length sent - 1) sent));
}

-- Returns `seen` with the order appended, unless it has the order already.
abbrev pub added_also : List ℕ → ℕ → List ℕ
added_also seen order = cond (on seen order) seen (seen ++ order ∷ [])

-- Returns `seen` with those orders appended that general `p` newly accepts from these chains in round `k`.
abbrev pub added_by : ℕ → ℕ → List ℕ → List Chain → List ℕ
added_by k p seen [] = seen
added_by k p seen (ch ∷ xs) = added_by k p (cond (counts k p ch) (added_also seen ch.order) seen) xs

-- States that `kept` is the first eight of the orders.
abbrev pub AreFirst : List ℕ → List ℕ → Type 0
AreFirst kept orders = kept ≡ take 8 orders

-- Returns `entries` after attempts to add further ones, in order. An attempt adds nothing if the general may not sign
-- the entry's chain or there are eight entries already.
abbrev pub entered_all : Relay → List Entry → List Entry → List Entry
entered_all relay entries [] = entries
entered_all relay entries (e ∷ es) = entered_all relay (entered relay entries e) es

-- Returns the context of general `g` in the round after those in `sent`.
abbrev pub context_behind : Scenario → Sent → ℕ → List ℕ
context_behind s sent g = context_bytes
    (signed_context_numbers s.generals s.bound s.commander g (suc (length sent)) (held_behind s.generals sent g))

-- Returns the relay of general `g` in the round after those in `sent`. It contains the signers of each chain that he
-- holds.
abbrev pub relay_behind : Scenario → Sent → ℕ → Relay
relay_behind s sent g = signed (shape_of s g (suc (length sent))) (map signer_bits (held_behind s.generals sent g))

-- Returns the letter of a loyal general `g` in the round after those in `sent`.
abbrev pub letter_behind : Scenario → Sent → ℕ → Letter
letter_behind s sent g =
    faithful_letter_with g (suc (length sent)) (context_behind s sent g)
    (record {
      relay = relay_behind s sent g;
      rows = [];
      entries = loyal_entries s.generals s.commander s.bound s.order (delivered sent) (suc (length sent)) g;
    })

-- Returns what general `g` does at the start of the round after those in `sent`: an activation if he is a traitor,
-- otherwise that he has not posted.
abbrev pub begins_behind : Scenario → Sent → ℕ → Option (List Insn) → Progress
begins_behind s sent g None = Silent
begins_behind s sent g (Some program) =
    Acting (started s.patience program (context_behind s sent g) (relay_behind s sent g))

-- Returns what each general does at the start of the round after those in `sent`. If there is no further round, it is
-- the empty list.
abbrev pub beginnings_behind : Scenario → Sent → List Progress
beginnings_behind s sent =
    cond (nat_lt (length sent) (suc s.bound)) (each s.generals (λ g. begins_behind s sent g (program_of s g) ∷ [])) []

-- Returns the draft of a general's letter from his part in the round: a traitor's accesses, or a loyal general's letter
-- if he has posted.
abbrev pub draft_behind : Scenario → Sent → List Access → ℕ → Option Progress → LetterDraft
draft_behind s sent accesses g (Some (Acting a)) = Begun (accesses_of g accesses)
draft_behind s sent accesses g (Some Silent) = Missing
draft_behind s sent accesses g (Some Posted) = Whole (letter_behind s sent g)
draft_behind s sent accesses g None = Missing

-- Returns the drafts of all generals' letters from their parts in the round.
abbrev pub drafts_behind : Scenario → Sent → List Access → List Progress → List LetterDraft
drafts_behind s sent accesses parts = each s.generals (λ g. draft_behind s sent accesses g (slice_get parts g) ∷ [])

-- Returns the draft to which a reference points, or `None` if there is none.
abbrev pub draft_in : Option (Bor LetterDraft) → Option LetterDraft
draft_in None = None
draft_in (Some d) = Some d.now

-- Returns the part to which a reference points, or `None` if there is none.
abbrev pub part_in : Option (Bor Progress) → Option Progress
part_in None = None
part_in (Some p) = Some p.now

-- Returns the entries of a general's outbox, which is in his activation or in the draft of his letter.
abbrev pub entries_drafted : Option LetterDraft → Option Progress → List Entry
entries_drafted (Some (Begun transcript)) (Some (Acting a)) = a.state.entries
entries_drafted (Some (Whole letter)) part = letter.outbox.entries
entries_drafted _ _ = []

-- Returns the chains that each general sends in the round after those in `sent`, from the drafts of their letters and
-- their parts.
abbrev pub sent_drafted : Scenario → Sent → List LetterDraft → List Progress → List (List Dispatch)
sent_drafted s sent drafts parts =
    map (λ g. dispatched s.generals s.commander g (held_behind s.generals sent g)
    (entries_drafted (slice_get drafts g) (slice_get parts g))) (generals s.generals)

-- Returns the entries with which general `g` begins the round after those in which `sent` was sent. A loyal general,
-- who has no program, begins with all that he sends, and a traitor with none.
abbrev pub entries_behind : Scenario → Sent → ℕ → Option (List Insn) → List Entry
entries_behind s sent g None =
    loyal_entries s.generals s.commander s.bound s.order (delivered sent) (suc (length sent)) g
entries_behind s sent g (Some program) = []

-- States that `l` is the letter that a loyal general `g` makes in the round after these closed rounds, or has at most
-- eight entries.
abbrev pub IsWritten : Scenario → List (List Letter) → ℕ → Letter → Type 0
IsWritten s before g l = (l ≡ loyal_letter signed_kind s before g) ⊎ (length l.outbox.entries ≤ most_entries)

-- States that each letter of these rounds is the one that a loyal general makes in its round, or has at most eight
-- entries.
abbrev pub AreWritten : Scenario → List (List Letter) → Type 0
AreWritten s closed = (k g : ℕ) (row : List Letter) (l : Letter) → slice_get closed k ≡ Some row → g < s.generals →
    letter_of row g ≡ Some l → IsWritten s (take k closed) g l

-- States that some rounds of letters, each a loyal general's or with at most eight entries, send exactly this.
abbrev pub IsSent : Scenario → Sent → Type 0
IsSent s sent = (closed : List (List Letter)) × AreWritten s closed × (sent ≡ sent_in s closed)

-- Returns the signers of all generals, ascending.
abbrev pub signatures : ℕ → ℕ → List Signature
signatures n c = map (λ g. record { general = g; commander = c }) (generals n)

-- States what the code guarantees about a signed world. Some list of events leads to it, and its board had the
-- scenario's words at first. The chains sent are stored, and there is a signer for each general.
pub record IsSignedHeld (s : Scenario) (closed : List (List Letter)) (board : RecordedBoard) (opened : ℕ)
    (parts : List Progress) (full : Bool) (sent : Sent) (signers : List Signature) : Type 0 where
  pub reached : (events : List Event) × (played s events ≡ world_of s closed board opened parts full)
  pub opening : board.opening ≡ s.board
  pub chains : sent ≡ sent_in s closed
  pub signing : signers ≡ signatures s.generals s.commander
