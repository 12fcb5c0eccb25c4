-- Logs: the chains that the letters of closed rounds have sent (own).
use Rattle.std.specs.Prelude.{ℕ, ◌≡◌, ◌≤◌, All, List, [], length, Option, None, Some}
use Rattle.insn.specs.declared.insn.Insn.{Insn}
use Rattle.round.specs.Scenario.{Scenario}
use Rattle.round.specs.Letters.{Letter}
use Rattle.signed.specs.Entries.{Entry, most_entries}
use Rattle.signed.specs.Kind.{signed_entries}
use Rattle.signed.specs.Sending.{signatures}
use Rattle.signed.specs.Sent.{Sent, sent_in}
use Rattle.signed.specs.Signers.{Signature}

-- A log: the number of closed rounds, the chains sent in them, and a signer for each general.
pub record LogSeen : Type 0 where
  pub rounds : ℕ
  pub sent : Sent
  pub signers : List Signature

-- Returns the entries of a letter, or none if there is no letter.
abbrev pub entries_in : Option Letter → List Entry
entries_in None = []
entries_in (Some l) = l.outbox.entries

-- Returns the entries with which general `g` begins the round after these closed rounds. A loyal general, who has no
-- program, begins with all that he sends, and a traitor with none.
abbrev pub begun_entries : Scenario → List (List Letter) → ℕ → Option (List Insn) → List Entry
begun_entries s closed g None = signed_entries s closed g
begun_entries s closed g (Some program) = []

-- States that a letter has at most eight entries.
abbrev pub HasFewEntries : Letter → Type 0
HasFewEntries l = length l.outbox.entries ≤ most_entries

-- States that the log has exactly the chains that the letters of these rounds of the campaign send.
pub record IsLogOf (s : Scenario) (before : List (List Letter)) (log : LogSeen) : Type 0 where
  pub rounds : log.rounds ≡ length before
  pub chains : log.sent ≡ sent_in s before
  pub signing : log.signers ≡ signatures s.generals s.commander
  pub few : All (λ row. All HasFewEntries row) before
