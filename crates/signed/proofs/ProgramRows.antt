-- Computed examples: signed campaigns, from their traitors' programs to their chronicles.
use Rattle.std.proofs.Common.{◌≡◌, ℕ, suc, true, false, List, [], ◌∷◌, ◌++◌, map, refl, Option, None, Some}
use Rattle.std.specs.Prelude.{pos, replicate}
use Rattle.word.specs.declared.Width.TheVariants.{W64}
use Rattle.word.specs.declared.Operation.TheVariants.{Move}
use Rattle.word.specs.declared.Condition.TheVariants.{Equal, NotEqual}
use Rattle.insn.specs.declared.insn.Insn.{Insn}
use Rattle.insn.specs.declared.insn.Insn.TheVariants.{Arithmetic, Branch, Load, Call, Exit}
use Rattle.insn.specs.declared.insn.Operand.TheVariants.{Immediate}
use Rattle.insn.specs.declared.insn.Size.TheVariants.{Word}
use Rattle.combine.specs.declared.campaign_rule.Rule.TheVariants.{Majority}
use Rattle.semantics.specs.Execution.{step}
use Rattle.round.specs.Scenario.{Scenario}
use Rattle.round.specs.Letters.{Letter}
use Rattle.mem.specs.ContextLayout.{context_bytes}
use Rattle.world.specs.declared.event.Event.TheVariants.{Tick, Post, Close}
use Rattle.world.specs.declared.event.EventError.TheVariants.{NotOpen, NoGeneral}
use Rattle.world.specs.declared.verdict.Verdict.{Verdict}
use Rattle.world.specs.Kind.{World, refusal}
use Rattle.world.specs.KindLists.{listed, replayed}
use Rattle.signed.specs.Accepted.{held, accepted}
use Rattle.signed.specs.Contexts.{signed_context_numbers}
use Rattle.signed.specs.Loyal.{loyal_entries}
use Rattle.signed.specs.Sent.{Sent, sent_by, delivered, held_behind, sent_in}
use Rattle.signed.specs.Kind.{signed_kind, played, held_in, accepted_in}
use Rattle.signed.specs.Chronicle.{signed_decisions, signed_verdict_of}

-- A letter in short: its general, the steps of a traitor, and each chain that it sends with its order, signers and
-- receivers.
abbrev pub Short : Type 0
Short = ℕ × (Option ℕ × List (ℕ × (List ℕ × List ℕ)))

abbrev steps_told : Option (List Insn) → ℕ → Option ℕ
steps_told None steps = None
steps_told (Some program) steps = Some steps

abbrev short : Sent → ℕ → Letter → Short
short sent round l =
    (l.general, (steps_told l.program l.steps, map (λ x. (x.chain.order, (x.chain.signers, x.receivers))) (sent_by sent round l.general)))

abbrev rounds_told : Sent → ℕ → List (List Letter) → List (List Short)
rounds_told sent round [] = []
rounds_told sent round (letters ∷ rounds) = map (short sent round) letters ∷ rounds_told sent (suc round) rounds

-- Returns a world's chronicle in short: its letters by round, the decisions and the verdict.
abbrev pub told : World → List (List Short) × (List ℕ × Verdict)
told w =
    let ds = signed_decisions w.scenario w.closed in
    (rounds_told (sent_in w.scenario w.closed) 1 w.closed, (ds, signed_verdict_of w.scenario ds))

abbrev pub campaign : ℕ → ℕ → ℕ → Option ℕ → List (Option (List Insn)) → Scenario
campaign generals bound order patience programs = record {
  generals = generals;
  bound = bound;
  commander = 0;
  order = order;
  board = replicate 64 0;
  programs = programs;
  patience = patience;
  rule = Majority;
}

-- Returns the instructions `mov r1, FIRST; mov r2, SECOND; call HELPER`.
abbrev pub calling : ℕ → ℕ → ℕ → List Insn
calling helper first second =
    Arithmetic W64 Move 1 (Immediate (pos first)) ∷ Arithmetic W64 Move 2 (Immediate (pos second)) ∷ Call (pos helper) ∷ []

-- Three generals, of whom lieutenant 2 is a traitor. He passes on to 1 the first chain that he holds, but in the first
-- round he holds none.
abbrev pub passing : Scenario
passing = campaign 3 1 1 None (None ∷ None ∷ Some (calling 11 0 2 ++ Exit ∷ []) ∷ [])

passing_told : told (played passing (listed passing [])) ≡ (
  (
      (0, (None, (1, (0 ∷ [], 1 ∷ 2 ∷ [])) ∷ []))
      ∷ (1, (None, []))
      ∷ (2, (Some 4, []))
      ∷ [])
      ∷ (
      (0, (None, []))
      ∷ (1, (None, (1, (0 ∷ 1 ∷ [], 2 ∷ [])) ∷ []))
      ∷ (2, (Some 4, (1, (0 ∷ 2 ∷ [], 1 ∷ [])) ∷ []))
      ∷ [])
      ∷ [],
  (1 ∷ 1 ∷ [], record { alike = true; obeyed = Some true; bound = true }),
)
unfolding signed_decisions sent_in held_behind held accepted loyal_entries context_bytes step
passing_told = refl

-- In the second round the traitor's context has the commander's chain.
passing_context : (let closed = (played passing (Post 0 ∷ Post 1 ∷ Close ∷ [])).closed in signed_context_numbers 3 1 0 2 2 (held_in passing closed 2))
    ≡ 3 ∷ 1 ∷ 2 ∷ 0 ∷ 2 ∷ 1 ∷ 2 ∷ 1 ∷ 1 ∷ 1 ∷ []
unfolding sent_in held_behind held loyal_entries
passing_context = refl

-- The same generals, but the commander is the traitor. In both rounds he signs order 1 for general 1 and order 0 for
-- general 2.
abbrev pub torn : Scenario
torn = campaign 3 1 0 None (Some (calling 10 1 2 ++ (calling 10 0 4 ++ Exit ∷ [])) ∷ None ∷ None ∷ [])

torn_told : told (played torn (replayed signed_kind torn [])) ≡ (
  (
      (0, (Some 7, (1, (0 ∷ [], 1 ∷ [])) ∷ (0, (0 ∷ [], 2 ∷ [])) ∷ []))
      ∷ (1, (None, []))
      ∷ (2, (None, []))
      ∷ [])
      ∷ (
      (0, (Some 7, (1, (0 ∷ [], 1 ∷ [])) ∷ (0, (0 ∷ [], 2 ∷ [])) ∷ []))
      ∷ (1, (None, (1, (0 ∷ 1 ∷ [], 2 ∷ [])) ∷ []))
      ∷ (2, (None, (0, (0 ∷ 2 ∷ [], 1 ∷ [])) ∷ []))
      ∷ [])
      ∷ [],
  (0 ∷ 0 ∷ [], record { alike = true; obeyed = None; bound = true }),
)
unfolding signed_decisions sent_in held_behind held accepted loyal_entries context_bytes step
torn_told = refl

-- The chains that the commander signed in the second round were received, but do not count.
torn_accepted : accepted_in torn (played torn (replayed signed_kind torn [])).closed 1 ≡ 1 ∷ 0 ∷ []
unfolding sent_in held_behind held accepted loyal_entries context_bytes step
torn_accepted = refl

-- Two traitors, the commander and a lieutenant, who meet on the board. The lieutenant reads a word twice, and passes on
-- to 1 the first chain that he holds. The commander sets that word to 7, and signs order 1 for both. In the first round
-- he does so between the two readings, in the second before them.
abbrev pub pair : Scenario
pair = campaign 3 1 1 None (
    Some (calling 2 5 7 ++ (calling 10 1 6 ++ Exit ∷ []))
    ∷ None
    ∷ Some (calling 1 5 0 ++ (calling 1 5 0 ++ (calling 11 0 2 ++ Exit ∷ [])))
    ∷ [])

pair_told : told (played pair (replayed signed_kind pair ((2 ∷ 0 ∷ 2 ∷ []) ∷ []))) ≡ (
  (
      (0, (Some 7, (1, (0 ∷ [], 1 ∷ 2 ∷ [])) ∷ []))
      ∷ (1, (None, []))
      ∷ (2, (Some 10, []))
      ∷ [])
      ∷ (
      (0, (Some 7, (1, (0 ∷ [], 1 ∷ 2 ∷ [])) ∷ []))
      ∷ (1, (None, (1, (0 ∷ 1 ∷ [], 2 ∷ [])) ∷ []))
      ∷ (2, (Some 10, (1, (0 ∷ 2 ∷ [], 1 ∷ [])) ∷ []))
      ∷ [])
      ∷ [],
  (1 ∷ 1 ∷ [], record { alike = true; obeyed = None; bound = false }),
)
unfolding signed_decisions sent_in held_behind held accepted loyal_entries context_bytes step
pair_told = refl

-- Four generals, of whom two are traitors. The commander signs 7 for traitor 3 only, who passes it on to 1 and 2 in the
-- second round. These pass it on to each other, and decide 7.
abbrev pub late : Scenario
late = campaign 4 2 1 (Some 4) (Some (calling 10 7 8 ++ Exit ∷ []) ∷ None ∷ None ∷ Some (calling 11 0 6 ++ Exit ∷ []) ∷ [])

late_told : told (played late (listed late ((3 ∷ 1 ∷ 0 ∷ 2 ∷ 0 ∷ 3 ∷ []) ∷ []))) ≡ (
  (
      (0, (Some 4, (7, (0 ∷ [], 3 ∷ [])) ∷ []))
      ∷ (1, (None, []))
      ∷ (2, (None, []))
      ∷ (3, (Some 4, []))
      ∷ [])
      ∷ (
      (0, (Some 4, (7, (0 ∷ [], 3 ∷ [])) ∷ []))
      ∷ (1, (None, []))
      ∷ (2, (None, []))
      ∷ (3, (Some 4, (7, (0 ∷ 3 ∷ [], 1 ∷ 2 ∷ [])) ∷ []))
      ∷ [])
      ∷ (
      (0, (Some 4, (7, (0 ∷ [], 3 ∷ [])) ∷ []))
      ∷ (1, (None, (7, (0 ∷ 3 ∷ 1 ∷ [], 2 ∷ [])) ∷ []))
      ∷ (2, (None, (7, (0 ∷ 3 ∷ 2 ∷ [], 1 ∷ [])) ∷ []))
      ∷ (3, (Some 4, (7, (0 ∷ 3 ∷ [], 1 ∷ 2 ∷ [])) ∷ []))
      ∷ [])
      ∷ [],
  (7 ∷ 7 ∷ 7 ∷ [], record { alike = true; obeyed = None; bound = true }),
)
unfolding signed_decisions sent_in held_behind held accepted loyal_entries context_bytes step
late_told = refl

-- Four generals, of whom two are traitors. In the first round the commander signs 7 for traitor 3 only. In the second
-- round 3 signs that chain for himself, but he has signed it and so does not receive it. In the last round he therefore
-- cannot sign it again for 1. If a second signature counted, general 1 would accept 7, and general 2 would not. Both
-- traitors read the round in their contexts.
abbrev pub twice : Scenario
twice = campaign 4 2 1 None (
    Some (Load Word 0 1 (pos 16) ∷ Branch W64 NotEqual 0 (Immediate (pos 1)) (pos 3) ∷ (calling 10 7 8 ++ Exit ∷ []))
    ∷ None
    ∷ None
    ∷ Some (Load Word 3 1 (pos 16) ∷ Branch W64 Equal 3 (Immediate (pos 2)) (pos 4) ∷ (calling 11 1 2 ++ Exit ∷ (calling 11 0 8 ++ Exit ∷ [])))
    ∷ [])

twice_told : told (played twice (listed twice [])) ≡ (
  (
      (0, (Some 6, (7, (0 ∷ [], 3 ∷ [])) ∷ []))
      ∷ (1, (None, []))
      ∷ (2, (None, []))
      ∷ (3, (Some 6, []))
      ∷ [])
      ∷ (
      (0, (Some 3, []))
      ∷ (1, (None, []))
      ∷ (2, (None, []))
      ∷ (3, (Some 6, (7, (0 ∷ 3 ∷ [], [])) ∷ []))
      ∷ [])
      ∷ (
      (0, (Some 3, []))
      ∷ (1, (None, []))
      ∷ (2, (None, []))
      ∷ (3, (Some 6, []))
      ∷ [])
      ∷ [],
  (0 ∷ 0 ∷ 7 ∷ [], record { alike = true; obeyed = None; bound = true }),
)
unfolding signed_decisions sent_in held_behind held accepted loyal_entries context_bytes step
twice_told = refl

-- A general who has not posted has no letter, and a post after the last close is rejected.
absent : delivered (sent_in passing (played passing (Tick 2 ∷ Close ∷ [])).closed) 1 0 1 ≡ []
unfolding sent_in held_behind held loyal_entries step
absent = refl

all_closed : refusal (played passing (Post 0 ∷ Close ∷ Close ∷ [])) (Post 0) ≡ Some NotOpen
all_closed = refl

no_traitor : refusal (played passing []) (Tick 1) ≡ Some NoGeneral
no_traitor = refl

no_such_general : refusal (played passing []) (Post 12) ≡ Some NoGeneral
no_such_general = refl
