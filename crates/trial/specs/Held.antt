-- How the code holds the chains that a general can pass on (own).
use Rattle.std.specs.Prelude.{ℕ, List, Option, None, Some}
use Rattle.std.proofs.Common.{Bor}
use Rattle.semantics.specs.Relay.{Kind, Oral, Signed}

-- Returns the kind of messages: signed if there are signers of chains, and otherwise oral.
abbrev pub kind_by : Option (List ℕ) → Kind
kind_by None = Oral
kind_by (Some held) = Signed held

-- Returns the kind of messages: signed if there are signers of chains, and otherwise oral.
abbrev pub kind_seen : Option (Bor (List ℕ)) → Kind
kind_seen None = Oral
kind_seen (Some held) = Signed held.now
