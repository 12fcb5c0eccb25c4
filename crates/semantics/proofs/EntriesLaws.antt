-- What is entered and which orders are set, in every state that is reached.
use Rattle.std.proofs.Common.{◌≡◌, ℕ, ◌+◌, ◌<◌, ◌≤◌, List, [], ◌∷◌, ◌++◌, Bool, true, false, refl, sym, subst, arith, length, ltb-true}
use Rattle.std.specs.Prelude.{if◌then◌else◌, nat_lt}
use Rattle.std.specs.List.{AllByRecursion}
use Rattle.std.proofs.lemmas.List.{length-append}
use Rattle.std.proofs.lemmas.Bool.{and_parts, false≢true}
use Rattle.insn.specs.declared.insn.Insn.{Insn}
use Rattle.label.specs.declared.shape.Shape.{Shape}
use Rattle.semantics.specs.Relay.{Kind, Oral, Signed, Relay, oral, signed}
use Rattle.semantics.specs.declared.request.Request.{Request}
use Rattle.semantics.specs.declared.request.Request.TheVariants.{Copy}
use Rattle.semantics.specs.declared.entry.Entry.{Entry}
use Rattle.semantics.specs.State.{State, Outbox}
use Rattle.semantics.specs.Outbox.{Choice, written, empty_outbox}
use Rattle.semantics.specs.Entries.{is_sendable, is_entered, entered}
use Rattle.semantics.specs.Call.{asked, resumed}
use Rattle.semantics.specs.Execution.{step}
use Rattle.semantics.specs.Reached.{Reached, at_entry, stepped, answered}
use Rattle.semantics.specs.Whole.{Each}
use Rattle.semantics.specs.Laws.{EntriesAreFew}
use Rattle.semantics.proofs.Walk.{changed_walk, called_walk, step_walk}

-- With signatures, no order is set.
abbrev pub IsUnput : Kind → Outbox → Type 0
IsUnput Oral outbox = Unit {0}
IsUnput (Signed held) outbox = outbox ≡ []

pub record Keeps (relay : Relay) (s : State) : Type 0 where
  pub few : length s.entries ≤ 8
  pub sendable : AllByRecursion (λ entry. is_sendable relay entry ≡ true) s.entries
  pub unput : IsUnput relay.kind s.outbox

-- The outbox and the entries are unchanged.
same_kept : (relay : Relay) (s t : State) → Keeps relay s → t.outbox ≡ s.outbox → t.entries ≡ s.entries → Keeps relay t
same_kept relay s t k o e = record {
  few = subst (λ (entries : List Entry). length entries ≤ 8) (sym e) k.few;
  sendable = subst (λ (entries : List Entry). AllByRecursion (λ entry. is_sendable relay entry ≡ true) entries) (sym e) k.sendable;
  unput = subst (λ (outbox : Outbox). IsUnput relay.kind outbox) (sym o) k.unput;
}

-- If there is no row, no order is set.
unput_written : (kind : Kind) (shape : Shape) (choice : Choice) (outbox : Outbox) → IsUnput kind (written (record { shape = shape; kind = kind }) choice outbox)
unput_written Oral shape choice outbox = tt
unput_written (Signed held) shape choice outbox = refl

all_behind : (P : Entry → Type 0) (entries : List Entry) (entry : Entry) → AllByRecursion P entries → P entry → AllByRecursion P (entries ++ entry ∷ [])
all_behind P [] entry all is = (is, tt)
all_behind P (e ∷ entries) entry all is = (all.0, all_behind P entries entry all.1 is)

entered_keeps : (relay : Relay) (entries : List Entry) (entry : Entry) → length entries ≤ 8 → AllByRecursion (λ e. is_sendable relay e ≡ true) entries →
    (length (entered relay entries entry) ≤ 8) × AllByRecursion (λ e. is_sendable relay e ≡ true) (entered relay entries entry)
entered_keeps relay entries entry few all = by (is_entered relay entries entry) refl
  where
    by : (b : Bool) → b ≡ is_entered relay entries entry →
        (length (if b then entries ++ entry ∷ [] else entries) ≤ 8) × AllByRecursion (λ e. is_sendable relay e ≡ true) (if b then entries ++ entry ∷ [] else entries)
    by true is =
        let parts = and_parts (is_sendable relay entry) (nat_lt (length entries) 8) (sym is) in
        let room : length entries < 8 = ltb-true (length entries) 8 parts.1 in
        let long : length (entries ++ entry ∷ []) ≡ length entries + 1 = length-append entries (entry ∷ []) in
        (omega arith, all_behind (λ e. is_sendable relay e ≡ true) entries entry all parts.0)
    by false is = (few, all)

step_keeps : (program : List Insn) (context : List ℕ) (relay : Relay) (s : State) → Keeps relay s → Each (Keeps relay) (step program context relay s)
step_keeps program context relay s k =
    step_walk program context relay s (Each (Keeps relay))
    (record {
      trapped = λ cause. tt;
      set = λ dst unit value other. same_kept relay s _ k refl refl;
      moved = λ unit. same_kept relay s _ k refl refl;
      exits = λ n. same_kept relay s _ k refl refl;
      stores = λ size base offset value. changed_walk s (Each (Keeps relay)) (λ cause. tt) (λ cells. same_kept relay s _ k refl refl) _;
    })
    (called_walk context relay s (Each (Keeps relay)) (record {
      trapped = λ cause. tt;
      asks = λ request. same_kept relay s _ k refl refl;
      puts = λ r0 choice. record { few = k.few; sendable = k.sendable; unput = unput_written relay.kind relay.shape choice s.outbox };
      enters = λ r0 entry.
          let behind = entered_keeps relay s.entries entry k.few k.sendable in
          record { few = behind.0; sendable = behind.1; unput = k.unput };
    }))

resumed_keeps : (relay : Relay) (request : Request) (words : List ℕ) (s : State) → Keeps relay s → Keeps relay (resumed request words s)
resumed_keeps relay (Copy span) words s k = same_kept relay s _ k refl refl
resumed_keeps relay request words s k = same_kept relay s _ k refl refl

-- At the entry, nothing is entered or set.
unput_empty : (kind : Kind) (shape : Shape) → IsUnput kind (empty_outbox (record { shape = shape; kind = kind }))
unput_empty Oral shape = tt
unput_empty (Signed held) shape = refl

reached_keeps : (program : List Insn) (context : List ℕ) (relay : Relay) {answers : List (List ℕ)} {s : State} → Reached program context relay answers s → Keeps relay s
reached_keeps program context relay at_entry = record { few = omega arith; sendable = tt; unput = unput_empty relay.kind relay.shape }
reached_keeps program context relay (stepped {s = s} next before e) =
    subst (Each (Keeps relay)) e (step_keeps program context relay s (reached_keeps program context relay before))
reached_keeps program context relay (answered {s = s} request asked answer before e f) =
    resumed_keeps relay request answer asked (subst (Each (Keeps relay)) e (step_keeps program context relay s (reached_keeps program context relay before)))

-- With oral messages, no entry can be made.
none_spoken : (shape : Shape) (entries : List Entry) → AllByRecursion (λ entry. is_sendable (oral shape) entry ≡ true) entries → entries ≡ []
none_spoken shape [] all = refl
none_spoken shape (entry ∷ entries) all = absurd (false≢true all.0)

pub few_entries : EntriesAreFew
few_entries = record {
  few = λ program context relay answers s there. (reached_keeps program context relay there).few;
  sendable = λ program context relay answers s there. (reached_keeps program context relay there).sendable;
  spoken = λ program context shape answers s there. none_spoken shape s.entries (reached_keeps program context (oral shape) there).sendable;
  written = λ program context shape held answers s there. (reached_keeps program context (signed shape held) there).unput;
}
