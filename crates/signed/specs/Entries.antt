-- The entries of an outbox in a signed campaign, and the chains that they send (own; TOPLAS 1982, section 4, assumption
-- A4).
use Rattle.std.specs.Prelude.{ℕ, ◌==◌, not, ◌&&◌, List, [], ◌∷◌, ◌++◌, map, filter, slice_get, Option, None, Some}
use Rattle.std.specs.Int.{bit_at}
use Rattle.label.specs.Labels.{on, generals, others}
pub use Rattle.semantics.specs.declared.entry.Entry.{Entry}
pub use Rattle.semantics.specs.declared.entry.Entry.TheVariants.{Sign, Pass}
pub use Rattle.semantics.specs.Entries.{most_entries}
use Rattle.signed.specs.Chains.{Chain, begin, prolong}

-- A chain that is sent, with its receivers, ascending.
pub record Dispatch : Type 0 where
  pub chain : Chain
  pub receivers : List ℕ

-- Returns the receivers of a chain, ascending: the generals whose bit is set and who have not signed the chain.
abbrev pub receivers_in : ℕ → ℕ → Chain → List ℕ
receivers_in n bits ch = filter (λ p. (bit_at bits p == 1) && not (on ch.signers p)) (generals n)

-- Returns the chain with one more signature, made by general `g`. Returns `None` if there is no chain or he has already
-- signed it.
abbrev pub passed_on : ℕ → Option Chain → Option Chain
passed_on g None = None
passed_on g (Some ch) = prolong ch g

-- Returns the chain that an entry of general `g` sends, with his signature as the last. Returns `None` if he may not
-- sign it, or holds no chain at the index that the entry names.
abbrev pub chain_of : ℕ → ℕ → List Chain → Entry → Option Chain
chain_of c g held (Sign order bits) = begin c g order
chain_of c g held (Pass place bits) = passed_on g (slice_get held place)

-- Returns the receivers that an entry names, as a set: bit `g` is set for general `g`.
abbrev pub bits_of : Entry → ℕ
bits_of (Sign order bits) = bits
bits_of (Pass place bits) = bits

-- Returns the chain with its receivers: those in the set `bits` who have not signed it. Returns an empty list if there
-- is no chain.
abbrev pub sent_by : ℕ → Option Chain → ℕ → List Dispatch
sent_by n None bits = []
sent_by n (Some ch) bits = record { chain = ch; receivers = receivers_in n bits ch } ∷ []

-- Returns the chains that the entries of general `g` send, with their receivers, in the order of the entries.
abbrev pub dispatched : ℕ → ℕ → ℕ → List Chain → List Entry → List Dispatch
dispatched n c g held [] = []
dispatched n c g held (e ∷ entries) = sent_by n (chain_of c g held e) (bits_of e) ++ dispatched n c g held entries

-- Returns the chain with all generals who have not signed it as receivers, as a loyal general sends it.
abbrev pub to_all_others : ℕ → Chain → Dispatch
to_all_others n ch = record { chain = ch; receivers = others n ch.signers }

-- Returns those of the sent chains that have general `p` as a receiver.
abbrev pub received : ℕ → List Dispatch → List Chain
received p dispatches = map (λ x. x.chain) (filter (λ x. on x.receivers p) dispatches)
